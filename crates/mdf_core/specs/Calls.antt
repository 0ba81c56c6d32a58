-- Calls are made, their arguments come to their ports, and results become known.
use Rattle.std.specs.Prelude.{ℕ, suc, ◌+◌, ◌==◌, zero, Bool, not, List, [], ◌∷◌, ◌++◌, map, filter, length, Option, Some, None, if◌then◌else◌, ℤ}
use Rattle.mpl_value.specs.declared.known.Known.{Known}
use Rattle.mpl_value.specs.declared.known.Known.TheVariants.{Value, Trapped}
use Rattle.mpl_value.specs.declared.known.Trap.{Trap}
use Rattle.mpl_value.specs.CallAnswers.{leftmost_trap}
use Rattle.mpl_mean.specs.Meaning.DirectRun.{main_start}
use Rattle.mdf_actor.specs.declared.status.ActorStatus.TheVariants as status
use Rattle.mdf_code.specs.Alone.{Held, Words, Pending}
use Rattle.mdf_code.specs.Told.{Called, calls_made}
use Rattle.mdf_code.specs.Yields.{member_is_regular, regular_start}
use Rattle.mdf_match.specs.Ports.{missing_in}
use Rattle.mdf_mean.specs.declared.entry.Entry.{Entry}
use Rattle.mdf_mean.specs.declared.entry.Entry.TheVariants as entry
use Rattle.mdf_core.specs.Actors.{Actor, Arc, Call, Is, Port, arguments_of, fresh, is_known, is_post, member_of, port_words}
use Rattle.mdf_core.specs.Worlds.{Job, World, change, fate_at, is_in, put}

-- ---- results

abbrev pub leads_from : ℕ → Arc → Bool
leads_from c arc = arc.from == c

-- the number of the body that made an actor's call
abbrev pub body_of : World → ℕ → ℕ
body_of w c = (w.actors (w.actors c).call.caller).start.number

-- the call of an actor that an object accepted is replied to when its result becomes known
abbrev pub with_reply : ℕ → Known → World → List Entry
with_reply c known w =
    if is_in c w.accepted then entry.Reply (body_of w c) (w.actors c).call.post known ∷ w.journal else w.journal

-- The result of an actor is known from now on, and due to those that wait for it, behind all others.
abbrev pub becomes : ℕ → Known → World → World
becomes c known w = record (change c (λ x. record x { fate = Is known }) w) {
  waits = filter (λ arc. not (leads_from c arc)) w.waits;
  due = w.due ++ filter (leads_from c) w.waits;
  journal = with_reply c known w;
}

-- Arcs are added: behind those that wait, and where the result is known behind those that are due.
abbrev pub with_arcs : List Arc → World → World
with_arcs arcs w = record w {
  waits = w.waits ++ filter (λ arc. not (is_known (fate_at w arc.from))) arcs;
  due = w.due ++ filter (λ arc. is_known (fate_at w arc.from)) arcs;
}

-- ---- arguments

abbrev pub complete : Actor → Actor
complete x = record x { status = status.Waiting 0 }

abbrev pub ready : Actor → Actor
ready x = record x { status = status.Ready; start = regular_start (member_of x.call).0 (port_words x.ports) }

abbrev pub poisoned : Actor → Actor
poisoned x = record x { status = status.Poisoned }

abbrev pub waiting : ℕ → Actor → Actor
waiting missing x = record x { status = status.Waiting missing }

-- The last argument has come. A call with a trap among its arguments has the leftmost one as its result, and never
-- fires. Else one of a regular member may fire, and one on an object may arrive.
abbrev pub completed : ℕ → Actor → Option Trap → World → World
completed c x (Some trap) w = becomes c (Trapped trap) (change c poisoned w)
completed c x None w = change c (if is_post x.call then complete else ready) w

-- so many ports are still to be filled
abbrev pub awaits : ℕ → Actor → ℕ → World → World
awaits c x zero w = completed c x (leftmost_trap (arguments_of x.ports)) w
awaits c x (suc missing) w = change c (waiting (suc missing)) w

abbrev pub counts_ports : ℕ → World → World
counts_ports c w = awaits c (w.actors c) (missing_in (w.actors c).ports) w

-- ---- making a call

-- words are there at once
abbrev pub port_of : Held → Option Known
port_of (Words words) = Some (Value words)
port_of (Pending result) = None

-- an arc to a port from the result that is passed, by the actor's calls
abbrev pub arc_to : ℕ → ℕ → Option ℕ → List Arc
arc_to callee port None = []
arc_to callee port (Some from) = record { from = from; to = Port callee port } ∷ []

abbrev pub arcs_to : (ℕ → Option ℕ) → ℕ → ℕ → List Held → List Arc
arcs_to child callee port [] = []
arcs_to child callee port (Words words ∷ others) = arcs_to child callee (port + 1) others
arcs_to child callee port (Pending result ∷ others) = arc_to callee port (child result) ++ arcs_to child callee (port + 1) others

-- the call that an actor makes next
abbrev pub next_post : Job → ℕ → Actor → ℕ
next_post job member x = if member_is_regular job.image member then 0 else x.posts + 1

abbrev pub next_call : Job → ℕ → Actor → ℕ → ℤ → List Held → Call
next_call job a x member object arguments = record {
  caller = a;
  place = calls_made x.told + 1;
  post = next_post job member x;
  member = Some (record { 0 = member });
  object = object;
  arguments = arguments;
}

-- its actor, before its ports are counted
abbrev pub new_actor : Job → ℕ → Actor → ℕ → ℤ → List Held → Actor
new_actor job a x member object arguments =
    fresh (next_call job a x member object arguments) (map port_of arguments) (status.Waiting (length arguments)) (main_start [])

-- the caller has one more call
abbrev pub calls_on : Job → ℕ → ℕ → Actor → Actor
calls_on job callee member x = record x {
  told = Called ∷ x.told;
  counted = 0;
  child = put (calls_made x.told + 1) (Some callee) x.child;
  posts = if member_is_regular job.image member then x.posts else x.posts + 1;
}
