-- Calls and children change at a Send alone.
use Rattle.std.proofs.Common.{◌≡◌, ◌+◌, ℕ, false, List, Option, Some, None, ℤ, refl, ◌∙◌, slice_get}
use Rattle.mpl_value.specs.declared.known.Known.{Known}
use Rattle.mdf_code.specs.Alone.{Held}
use Rattle.mdf_code.specs.Told.{Beaten, Gave, Named, calls_made, most_turns}
use Rattle.mdf_core.specs.Actors.{Actor}
use Rattle.mdf_core.specs.Calls.{arcs_to, calls_on, counts_ports, new_actor, with_arcs}
use Rattle.mdf_core.specs.Events.{Event, Fire, Send, Create, Learn, Park, Resume, Reply, End, Beat, Match, Arrive, Accept, Quit}
use Rattle.mdf_core.specs.Steps.{gives, learns, parks, runs, sends, step, tells, with_actor}
use Rattle.mdf_core.specs.Worlds.{Job, World, acts, known_at}
use Rattle.mdf_core.proofs.EachStep.{is_send}
use Rattle.mdf_core.proofs.Related.{All, Keeps, accepts_all, acts_all, all_then, arcs_all, counts_all, finishes_all, gives_all, matches_all}

-- its call, its children and how many calls it made are the same
pub record Rooted (x y : Actor) : Type 0 where
  pub call : y.call ≡ x.call
  pub child : y.child ≡ x.child
  pub calls : calls_made y.told ≡ calls_made x.told

pub rooted_keeps : Keeps Rooted
rooted_keeps = record {
  same = λ x. record { call = refl; child = refl; calls = refl };
  after = λ x y z a b. record { call = b.call ∙ a.call; child = b.child ∙ a.child; calls = b.calls ∙ a.calls };
  standing = λ x s. record { call = refl; child = refl; calls = refl };
  starting = λ x s start. record { call = refl; child = refl; calls = refl };
  stopped = λ x s n. record { call = refl; child = refl; calls = refl };
  spent = λ x n. record { call = refl; child = refl; calls = refl };
  fated = λ x f. record { call = refl; child = refl; calls = refl };
  filled = λ x ports. record { call = refl; child = refl; calls = refl };
}

learns_rooted : (known : Option Known) (x : Actor) → Rooted x (learns known x)
learns_rooted None x = record { call = refl; child = refl; calls = refl }
learns_rooted (Some known) x = record { call = refl; child = refl; calls = refl }

parks_rooted : (turns : ℕ) (child : Option ℕ) (x : Actor) → Rooted x (parks turns child x)
parks_rooted turns None x = record { call = refl; child = refl; calls = refl }
parks_rooted turns (Some child) x = record { call = refl; child = refl; calls = refl }

pub step_rooted : (job : Job) (w : World) (e : Event) → is_send e ≡ false → All Rooted rooted_keeps w (step job w e)
step_rooted job w (Fire a) h = acts_all Rooted rooted_keeps a 1 runs w (record { call = refl; child = refl; calls = refl })
step_rooted job w (Send a turns callee member object arguments) h = absurd (cc h)
step_rooted job w (Create a turns class object) h =
    acts_all Rooted rooted_keeps a (turns + 1) (λ x. record (tells (Named object) x) { made = x.made + 1 }) w (record { call = refl; child = refl; calls = refl })
step_rooted job w (Learn a turns call) h =
    acts_all Rooted rooted_keeps a turns (learns (known_at w ((w.actors a).child call))) w (learns_rooted (known_at w ((w.actors a).child call)) (w.actors a))
step_rooted job w (Park a turns call) h = acts_all Rooted rooted_keeps a turns (parks turns ((w.actors a).child call)) w (parks_rooted turns ((w.actors a).child call) (w.actors a))
step_rooted job w (Resume a) h = acts_all Rooted rooted_keeps a 0 runs w (record { call = refl; child = refl; calls = refl })
step_rooted job w (Reply a turns value) h =
    let v = acts a turns (tells Gave) w in
    all_then Rooted rooted_keeps w v (gives a value v) (acts_all Rooted rooted_keeps a turns (tells Gave) w (record { call = refl; child = refl; calls = refl })) (gives_all Rooted rooted_keeps a value v)
step_rooted job w (End a turns ending state) h = finishes_all Rooted rooted_keeps job a turns ending state w
step_rooted job w (Beat a) h = acts_all Rooted rooted_keeps a most_turns (tells Beaten) w (record { call = refl; child = refl; calls = refl })
step_rooted job w (Match place) h = matches_all Rooted rooted_keeps place (slice_get w.due place) w
step_rooted job w (Arrive a) h = λ k. rooted_keeps.same (w.actors k)
step_rooted job w (Accept o a number) h = accepts_all Rooted rooted_keeps o a number (w.objects o) w
step_rooted job w (Quit why) h = λ k. rooted_keeps.same (w.actors k)

-- a machine with the call and its actor, before ports are counted
abbrev pub with_call : Job → ℕ → ℕ → ℕ → ℕ → ℤ → List Held → World → World
with_call job a turns callee member object arguments w = with_actor callee (new_actor job a (w.actors a) member object arguments) (acts a (turns + 1) (calls_on job callee member) w)

pub send_rooted : (job : Job) (w : World) (a turns callee member : ℕ) (object : ℤ) (arguments : List Held) →
    All Rooted rooted_keeps (with_call job a turns callee member object arguments w) (sends job a turns callee member object arguments w)
send_rooted job w a turns callee member object arguments =
    let y = with_call job a turns callee member object arguments w in let z = with_arcs (arcs_to (w.actors a).child callee 0 arguments) y in
    all_then Rooted rooted_keeps y z (counts_ports callee z) (arcs_all Rooted rooted_keeps (arcs_to (w.actors a).child callee 0 arguments) y) (counts_all Rooted rooted_keeps callee z)
