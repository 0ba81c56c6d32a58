-- What a machine holds after a list of events, the newest of which is the first of the list.
use Rattle.std.specs.Prelude.{ℕ, ◌+◌, List, [], ◌∷◌, remove, slice_get, slice_set, Option, Some, None, if◌then◌else◌, ℤ}
use Rattle.mpl_value.specs.declared.body.BodyResult.{BodyResult}
use Rattle.mpl_value.specs.declared.body.BodyResult.TheVariants as result
use Rattle.mpl_value.specs.declared.body.BodyStart.{BodyStart}
use Rattle.mpl_value.specs.declared.known.Known.{Known}
use Rattle.mpl_value.specs.declared.known.Known.TheVariants.{Value}
use Rattle.mpl_value.specs.Words.{zeros}
use Rattle.mdf_actor.specs.declared.status.ActorStatus.TheVariants as status
use Rattle.mdf_code.specs.declared.raw.RawImage.{RawImage}
use Rattle.mdf_code.specs.declared.raw.RawClass.{RawClass}
use Rattle.mdf_code.specs.Alone.{Held, Words, Pending}
use Rattle.mdf_code.specs.Told.{Beaten, Gave, Learnt, Named, Told, most_turns}
use Rattle.mdf_code.specs.Yields.{missed_at, result_at_trap}
use Rattle.mdf_mean.specs.declared.entry.Entry.TheVariants as entry
use Rattle.mdf_core.specs.Actors.{Actor, Arc, Fate, Open, Is, Forwarded, Target, Port, Result, is_post, member_of, port_words}
use Rattle.mdf_core.specs.Calls.{arcs_to, becomes, body_of, calls_on, counts_ports, new_actor, with_arcs}
use Rattle.mdf_core.specs.Events.{Ending, Finishes, Fails, Event, Fire, Send, Create, Learn, Park, Resume, Reply, End, Beat, Match, Arrive, Accept, Quit}
use Rattle.mdf_core.specs.Worlds.{Job, Object, World, acts, boot, change, fate_at, known_at, put, put_object}

-- ---- frames

abbrev pub runs : Actor → Actor
runs x = record x { status = status.Running }

-- a frame is told more, and runs on from its stop
abbrev pub tells : Told → Actor → Actor
tells told x = record x { told = told ∷ x.told; counted = 0 }

abbrev pub learns : Option Known → Actor → Actor
learns None x = x
learns (Some known) x = tells (Learnt known) x

-- put away until the result of an actor is known
abbrev pub parks : ℕ → Option ℕ → Actor → Actor
parks turns None x = x
parks turns (Some child) x = record x { status = status.Parked child; counted = x.counted + turns }

abbrev pub ends : ℕ → Actor → Actor
ends turns x = record x { status = status.Ended; counted = x.counted + turns }

-- ---- calls and objects

abbrev pub with_actor : ℕ → Actor → World → World
with_actor c x w = record w { count = c + 1; actors = put c x w.actors }

abbrev pub sends : Job → ℕ → ℕ → ℕ → ℕ → ℤ → List Held → World → World
sends job a turns callee member object arguments w =
    counts_ports callee (with_arcs (arcs_to (w.actors a).child callee 0 arguments) (with_actor callee (new_actor job a (w.actors a) member object arguments) (acts a (turns + 1) (calls_on job callee member) w)))

abbrev pub words_of_class : Option RawClass → ℕ
words_of_class None = 0
words_of_class (Some class) = class.words

-- an object with zeros as its state
abbrev pub new_object : RawImage → ℕ → Object
new_object image class = record { class = class; state = zeros (words_of_class (slice_get image.classes class)); busy = None }

abbrev pub creates : Job → ℕ → ℕ → ℕ → ℤ → World → World
creates job a turns class o w = record (acts a (turns + 1) (λ x. record (tells (Named o) x) { made = x.made + 1 }) w) {
  objects = put_object o (new_object job.image class) w.objects;
  created = o ∷ w.created;
}

-- ---- results

-- the result of an actor will be that of another one
abbrev pub forwards : ℕ → Option ℕ → World → World
forwards a None w = w
forwards a (Some child) w = with_arcs (record { from = child; to = Result a } ∷ []) (change a (λ x. record x { fate = Forwarded child }) w)

abbrev pub gives : ℕ → Held → World → World
gives a (Words words) w = becomes a (Value words) w
gives a (Pending call) w = forwards a ((w.actors a).child call) w

-- what an open result becomes at the end of a frame
abbrev pub result_at_end : Job → Actor → Ending → BodyResult
result_at_end job x (Finishes line) = missed_at job.image line x.call.member
result_at_end job x (Fails trap) = result_at_trap x.call.member trap result.Open

abbrev pub becomes_result : ℕ → BodyResult → World → World
becomes_result a result.Open w = w
becomes_result a (result.Known known) w = becomes a known w
becomes_result a result.Unknown w = w

abbrev pub unless_given : Fate → World → World → World
unless_given Open settled w = settled
unless_given (Is known) settled w = w
unless_given (Forwarded child) settled w = w

-- the object of an actor has this state, and is idle
abbrev pub frees_object : ℤ → List ℤ → Option Object → World → World
frees_object o state None w = w
frees_object o state (Some object) w = record w { objects = put_object o (record object { state = state; busy = None }) w.objects }

abbrev pub frees : Actor → List ℤ → World → World
frees x state w = if is_post x.call then frees_object x.call.object state (w.objects x.call.object) w else w

abbrev pub finishes : Job → ℕ → ℕ → Ending → List ℤ → World → World
finishes job a turns ending state w =
    let x = w.actors a in let freed = frees x state (acts a turns (ends turns) w) in
    unless_given x.fate (becomes_result a (result_at_end job x ending) freed) freed

-- ---- tokens

-- what comes to a port that is filled changes nothing
abbrev pub fills_port : ℕ → ℕ → Known → Option (Option Known) → World → World
fills_port c port known (Some None) w = counts_ports c (change c (λ x. record x { ports = slice_set x.ports port (Some known) }) w)
fills_port c port known other w = w

abbrev pub becomes_forwarded : ℕ → Known → Fate → World → World
becomes_forwarded c known (Forwarded child) w = becomes c known w
becomes_forwarded c known Open w = w
becomes_forwarded c known (Is other) w = w

abbrev pub brings : Known → Target → World → World
brings known (Port c port) w = fills_port c port known (slice_get (w.actors c).ports port) w
brings known (Result c) w = becomes_forwarded c known (fate_at w c) w

abbrev pub brings_known : Option Known → Target → World → World
brings_known None to w = w
brings_known (Some known) to w = brings known to w

abbrev pub matches : ℕ → Option Arc → World → World
matches place None w = w
matches place (Some arc) w = brings_known (known_at w (Some arc.from)) arc.to (record w { due = remove w.due place })

-- ---- objects

abbrev pub arrives : ℕ → World → World
arrives a w = record w { arrived = a ∷ w.arrived; journal = entry.Arrive (body_of w a) (w.actors a).call.post ∷ w.journal }

-- the start of the body of an accepted call
abbrev pub accepted_start : Actor → List ℤ → ℕ → BodyStart
accepted_start x state number = record { member = Some (member_of x.call); args = port_words x.ports; state = state; object = x.call.object; number = number; input = [] }

abbrev pub accepts_on : ℤ → ℕ → ℕ → Option Object → World → World
accepts_on o a number None w = w
accepts_on o a number (Some object) w = record (change a (λ x. record x { status = status.Ready; start = accepted_start x object.state number }) w) {
  objects = put_object o (record object { busy = Some a }) w.objects;
  accepted = a ∷ w.accepted;
  journal = entry.Accept number (body_of w a) (w.actors a).call.post ∷ w.journal;
}

-- ---- steps

abbrev pub step : Job → World → Event → World
step job w (Fire a) = acts a 1 runs w
step job w (Send a turns callee member object arguments) = sends job a turns callee member object arguments w
step job w (Create a turns class object) = creates job a turns class object w
step job w (Learn a turns call) = acts a turns (learns (known_at w ((w.actors a).child call))) w
step job w (Park a turns call) = acts a turns (parks turns ((w.actors a).child call)) w
step job w (Resume a) = acts a 0 runs w
step job w (Reply a turns value) = gives a value (acts a turns (tells Gave) w)
step job w (End a turns ending state) = finishes job a turns ending state w
step job w (Beat a) = acts a most_turns (tells Beaten) w
step job w (Match place) = matches place (slice_get w.due place) w
step job w (Arrive a) = arrives a w
step job w (Accept o a number) = accepts_on o a number (w.objects o) w
step job w (Quit why) = record w { why = why }

-- A list of events, the newest first.
abbrev pub Log : Type 0
Log = List Event

abbrev pub after : Job → Log → World
after job [] = boot job
after job (event ∷ before) = step job (after job before) event
