-- A table's list of entries, and the finite map that it stands for, after an entry was taken out.
use Rattle.std.proofs.Common.{◌≡◌, List, ℕ, ap, sym, ◌∙◌}
use Rattle.std.specs.Prelude.{cond, None}
use Rattle.std.specs.Ordering.{nat_cmp, eq_by_cmp}
use Rattle.std.specs.Cmp.{nat_cmp_total, eq_by_cmp_equiv}
use Rattle.std.specs.BTreeMap.{is_at}
use Rattle.std.specs.Map.{lookup}
use Rattle.std.specs.FinMap.{remove, from_entries, get-remove, same_map, nat_cmp-IsAntisymmetric}
use Rattle.mpl_value.proofs.Table.{lookup-get}

pub removed : {X : Type 0} (old new : List (ℕ × X)) (key : ℕ)
    → ((q : ℕ) → lookup (is_at (nat_cmp q)) new ≡ cond (is_at (nat_cmp key) q) None (lookup (is_at (nat_cmp q)) old))
    → from_entries {R = nat_cmp} new ≡ remove (from_entries old) key
removed old new key is = same_map nat_cmp_total nat_cmp-IsAntisymmetric _ _ (λ q.
    sym (lookup-get new q) ∙ is q
    ∙ ap (λ b. cond b None (lookup (is_at (nat_cmp q)) old)) ((eq_by_cmp_equiv nat_cmp_total).symm key q)
    ∙ ap (cond (eq_by_cmp nat_cmp q key) None) (lookup-get old q)
    ∙ sym (get-remove nat_cmp_total (from_entries old) key q))
