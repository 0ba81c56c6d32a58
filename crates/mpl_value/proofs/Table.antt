-- A table's list of entries, which the library reads by a test of the keys and a finite map by their order.
use Rattle.std.proofs.Common.{◌≡◌, ◌∷◌, [], List, ℕ, refl, ap, sym, ◌∙◌}
use Rattle.std.specs.Prelude.{cond, Some}
use Rattle.std.specs.Ordering.{nat_cmp, eq_by_cmp}
use Rattle.std.specs.Cmp.{nat_cmp_total, eq_by_cmp_equiv}
use Rattle.std.specs.BTreeMap.{is_at}
use Rattle.std.specs.Map.{lookup}
use Rattle.std.specs.FinMap.{get, find, insert, from_entries, get-from_entries, get-insert, same_map, nat_cmp-IsAntisymmetric}

lookup-find : {X : Type 0} (es : List (ℕ × X)) (key : ℕ) → lookup (is_at (nat_cmp key)) es ≡ find nat_cmp key es
lookup-find [] key = refl
lookup-find (e ∷ es) key = ap (cond (eq_by_cmp nat_cmp key e.0) (Some e.1)) (lookup-find es key)

-- what the library reads is what the table has
pub lookup-get : {X : Type 0} (es : List (ℕ × X)) (key : ℕ) → lookup (is_at (nat_cmp key)) es ≡ get (from_entries {R = nat_cmp} es) key
lookup-get es key = lookup-find es key ∙ sym (get-from_entries nat_cmp_total es key)

-- entries that have the value at the key, and at each other key what they had, are the table after an insertion
pub updated : {X : Type 0} (old new : List (ℕ × X)) (key : ℕ) (value : X)
    → ((q : ℕ) → lookup (is_at (nat_cmp q)) new ≡ cond (is_at (nat_cmp key) q) (Some value) (lookup (is_at (nat_cmp q)) old))
    → from_entries {R = nat_cmp} new ≡ insert (from_entries old) key value
updated old new key value is = same_map nat_cmp_total nat_cmp-IsAntisymmetric _ _ (λ q.
    sym (lookup-get new q) ∙ is q
    ∙ ap (λ b. cond b (Some value) (lookup (is_at (nat_cmp q)) old)) ((eq_by_cmp_equiv nat_cmp_total).symm key q)
    ∙ ap (cond (eq_by_cmp nat_cmp q key) (Some value)) (lookup-get old q)
    ∙ sym (get-insert nat_cmp_total (from_entries old) key value q))
