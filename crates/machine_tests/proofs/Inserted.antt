-- What a finite map has at a key that was just inserted.
use Rattle.std.proofs.Common.{◌≡◌, ℕ, ap, ◌∙◌}
use Rattle.std.specs.Prelude.{cond, Some}
use Rattle.std.specs.Ordering.{nat_cmp}
use Rattle.std.specs.Cmp.{nat_cmp_total, eq_by_cmp_equiv}
use Rattle.std.specs.FinMap.{FinMap, get, insert, get-insert}

pub get_inserted : {X : Type 0} (m : FinMap nat_cmp X) (key : ℕ) (value : X) → get (insert m key value) key ≡ Some value
get_inserted m key value =
    get-insert nat_cmp_total m key value key ∙ ap (λ b. cond b (Some value) (get m key)) ((eq_by_cmp_equiv nat_cmp_total).refl key)
