-- A machine in which nothing happened.
use Rattle.std.proofs.Common.{◌≡◌, ◌<◌, ℕ, zero, suc, List, [], ◌∷◌, Option, Some, None, refl, subst, arith, true, slice_get}
use Rattle.mdf_core.specs.Actors.{no_child}
use Rattle.mdf_machine.specs.Internal.Children.{child_in}
use Rattle.std.specs.FinMap.{empty}
use Rattle.mdf_core.specs.Worlds.{Job, boot}
use Rattle.mdf_machine.specs.Internal.Held.{Holds, MarkIs, PortsAre, ResultIs, RowIs, StatusIs}
use Rattle.mdf_machine.specs.Internal.Opening.{first_parts}
use Rattle.mdf_machine.specs.Internal.Tables.{Each}
use Rattle.mdf_machine.proofs.Keyed.{keyed_add, keyed_empty}

one_item : {A : Type 0} (R : ℕ → A → Type 0) (x : A) → R 0 x → Each R 1 (x ∷ [])
one_item R x h = record { length_is = refl; at = at } where
  at : (k : ℕ) (y : _) → slice_get (x ∷ []) k ≡ Some y → R k y
  at zero y is = subst (R 0) (cc is) h
  at (suc k) y is = absurd (cc is)

children : (call : ℕ) → child_in [] call ≡ no_child call
children zero = refl
children (suc place) = refl

pub booted : (job : Job) → Holds job (boot job) first_parts
booted job = record {
  statuses = one_item (StatusIs (boot job)) _ refl;
  rows = one_item (RowIs job (boot job)) _ (record { caller = refl; member = refl; ports = refl; children = children; frame = tt });
  ports = keyed_add (PortsAre (boot job)) (PortsAre (boot job)) 0 1 [] empty (keyed_empty (PortsAre (boot job))) refl refl (λ k x below p. p);
  results = keyed_add (ResultIs (boot job)) (ResultIs (boot job)) 0 1 _ empty (keyed_empty (ResultIs (boot job))) refl refl (λ k x below p. p);
  due = refl;
  going = one_item (MarkIs (boot job)) true refl;
  turns = refl;
  why = refl;
  main = tt;
  few = omega arith;
}
