-- What goes on where a body or a frame doesn't.
use Rattle.std.proofs.Common.{◌≡◌, ◌≢◌, Err, refl, ◌∙◌}
use Rattle.mpl_value.specs.declared.body.BodyEnd.{BodyEnd}
use Rattle.mpl_value.specs.declared.body.BodyEnd.TheVariants as end
use Rattle.mpl_body_code.specs.Machine.{Machine, Next, unless_spent}
use Rattle.mpl_body_run.specs.Seen.{Came}
use Rattle.mpl_body_run.specs.SeenEnds.{left}
use Rattle.mpl_body_run.specs.declared.leaves.Leaves.{Leaves}
use Rattle.mpl_body_run.specs.declared.leaves.Leaves.TheVariants as leaves

pub goes_on : (at : BodyEnd) (goes spent : Next) → at ≢ end.Spent → unless_spent at goes spent ≡ goes
goes_on end.Done goes spent h = refl
goes_on (end.Trap trap) goes spent h = refl
goes_on end.Waits goes spent h = refl
goes_on end.Spent goes spent h = absurd (h refl)

pub went : (why : Leaves) (x : Machine) (next other : Next) → Came next x (Err why) → left why x.callers x.body x.turns other → next ≡ other
went (leaves.Ends e) x next other came is = came ∙ is
went leaves.Finishes x next other came is = came ∙ is
went (leaves.Returns words) x next other came is = came ∙ is
went leaves.NoMemory x next other came is = absurd is
