-- An actor: a call of a member, its ports, and its frame by what it was told.
use Rattle.std.specs.Prelude.{ℕ, Bool, true, false, nat_lt, List, [], map, flat_map, Option, Some, None, ℤ, pos}
use Rattle.std.specs.Option.{unwrap_or}
use Rattle.mpl_value.specs.declared.body.Arg.{Arg}
use Rattle.mpl_value.specs.declared.body.BodyStart.{BodyStart}
use Rattle.mpl_value.specs.declared.body.MemberId.{MemberId}
use Rattle.mpl_value.specs.declared.known.Known.{Known}
use Rattle.mpl_value.specs.CallAnswers.{arg_of_reply, known_words}
use Rattle.mpl_mean.specs.Meaning.DirectRun.{main_start}
use Rattle.mdf_actor.specs.declared.status.ActorStatus.{ActorStatus}
use Rattle.mdf_actor.specs.declared.status.ActorStatus.TheVariants as status
use Rattle.mdf_code.specs.Alone.{Held}
use Rattle.mdf_code.specs.Told.{Told}

-- ---- results

-- what has become of an actor's result
pub data Fate : Type 0 where
  Open : Fate
  Is : (known : Known) → Fate
  -- it will be that of another actor
  Forwarded : (actor : ℕ) → Fate

abbrev pub known_of : Fate → Option Known
known_of Open = None
known_of (Is known) = Some known
known_of (Forwarded actor) = None

abbrev pub is_known : Fate → Bool
is_known Open = false
is_known (Is known) = true
is_known (Forwarded actor) = false

-- ---- arcs

-- where a result goes to: a port of an actor, from 0, or the result of an actor
pub data Target : Type 0 where
  Port : (actor port : ℕ) → Target
  Result : (actor : ℕ) → Target

-- from the result of an actor
pub record Arc : Type 0 where
  pub from : ℕ
  pub to : Target

-- ---- actors

-- The call that an actor stands for: who made it, its number among all calls of that actor, and among those on objects, 0
-- being none; its member, which `main` has none of; its object, and its arguments.
pub record Call : Type 0 where
  pub caller : ℕ
  pub place : ℕ
  pub post : ℕ
  pub member : Option MemberId
  pub object : ℤ
  pub arguments : List Held

pub record Actor : Type 0 where
  pub call : Call
  -- what has come to each port, of which there is one for each argument
  pub ports : List (Option Known)
  pub status : ActorStatus
  -- where its body starts, once that is decided
  pub start : BodyStart
  -- what its frame was told, the newest first
  pub told : List Told
  -- the turns on the way to the next stop that were told already
  pub counted : ℕ
  -- all turns that its events added
  pub spent : ℕ
  -- the actors of its calls, by their numbers from 1
  pub child : ℕ → Option ℕ
  -- how many calls on objects, and how many objects, it made
  pub posts : ℕ
  pub made : ℕ
  pub fate : Fate

-- whether a call is one on an object
abbrev pub is_post : Call → Bool
is_post call = nat_lt 0 call.post

-- the member of a call; that of `main` is of no account
abbrev pub member_of : Call → MemberId
member_of call = unwrap_or call.member (record { 0 = 0 })

-- what is known of the arguments
abbrev pub arguments_of : List (Option Known) → List Arg
arguments_of = map arg_of_reply

-- the words of all arguments, one after another
abbrev pub port_words : List (Option Known) → List ℤ
port_words ports = flat_map (λ words. words) (known_words (arguments_of ports))

abbrev pub no_child : ℕ → Option ℕ
no_child call = None

-- an actor that did nothing yet
abbrev pub fresh : Call → List (Option Known) → ActorStatus → BodyStart → Actor
fresh call ports status start = record {
  call = call;
  ports = ports;
  status = status;
  start = start;
  told = [];
  counted = 0;
  spent = 0;
  child = no_child;
  posts = 0;
  made = 0;
  fate = Open;
}

abbrev pub main_call : Call
main_call = record { caller = 0; place = 0; post = 0; member = None; object = pos 0; arguments = [] }

abbrev pub main_actor : List ℤ → Actor
main_actor input = fresh main_call [] status.Ready (main_start input)
