-- What a yield tells of the outcome of its body's run.
use Rattle.std.proofs.Common.{◌≡◌, ◌≢◌, true, false, refl, ap}
use Rattle.mpl_value.specs.declared.body.BodyEnd.{BodyEnd}
use Rattle.mpl_value.specs.declared.body.BodyEnd.TheVariants as end
use Rattle.mpl_value.specs.declared.body.Yield.{Yield}
use Rattle.mpl_mean.specs.Meaning.BodyMeaning.{main_yield, member_yield}
use Rattle.mpl_mean.specs.Meaning.Layout.{Member}
use Rattle.mpl_mean.specs.Meaning.Store.{Outcome, Goes, Returns, Ends}
use Rattle.mpl_mean.proofs.MoreReplies.Follows.{store_after}
use Rattle.mpl_mean.proofs.Simulations.UnlessSpent.{is_spent, is_spent_end}

pub record Tells (o : Outcome (Unit {0})) (y : Yield) : Type 0 where
  pub spent : is_spent o ≡ is_spent_end y.end
  pub turns : (store_after o).turns ≡ y.turns
  pub calls : (store_after o).calls ≡ y.calls
  pub creations : (store_after o).creations ≡ y.creations

pub main_tells : (o : Outcome (Unit {0})) → Tells o (main_yield o)
main_tells (Goes value s) = record { spent = refl; turns = refl; calls = refl; creations = refl }
main_tells (Returns words s) = record { spent = refl; turns = refl; calls = refl; creations = refl }
main_tells (Ends e s) = record { spent = refl; turns = refl; calls = refl; creations = refl }

pub member_tells : (m : Member) (o : Outcome (Unit {0})) → Tells o (member_yield m o)
member_tells m (Goes value s) = record { spent = refl; turns = refl; calls = refl; creations = refl }
member_tells m (Returns words s) = record { spent = refl; turns = refl; calls = refl; creations = refl }
member_tells m (Ends e s) = record { spent = refl; turns = refl; calls = refl; creations = refl }

-- ---- whether an end is Spent

pub spent_is : (e : BodyEnd) → e ≡ end.Spent → is_spent_end e ≡ true
spent_is e h = ap is_spent_end h

pub is_spent_so : (e : BodyEnd) → is_spent_end e ≡ true → e ≡ end.Spent
is_spent_so end.Done h = absurd cc
is_spent_so (end.Trap t) h = absurd cc
is_spent_so end.Waits h = absurd cc
is_spent_so end.Spent h = refl

pub not_spent_is : (e : BodyEnd) → e ≢ end.Spent → is_spent_end e ≡ false
not_spent_is end.Done h = refl
not_spent_is (end.Trap t) h = refl
not_spent_is end.Waits h = refl
not_spent_is end.Spent h = absurd (h refl)

pub is_not_spent : (e : BodyEnd) → is_spent_end e ≡ false → e ≢ end.Spent
is_not_spent e h s = absurd (let i = spent_is e s in cc)
