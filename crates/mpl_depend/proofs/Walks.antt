-- What paths along parts reach, paths along the whole do.
use Rattle.std.proofs.Common.{◌≡◌, ◌<◌, ◌+◌, ℕ, zero, suc, true, List, [], ◌∷◌, ◌++◌, ◌⊎◌, inl, inr, map, drop, ap, sym, subst, ◌∙◌, arith}
use Rattle.mpl_mean.specs.Pending.Paths.{Ways, Then, in_turn, in_first, in_second}
use Rattle.mpl_depend.specs.Internal.Carried.{Places, path_on}
use Rattle.mpl_depend.specs.Internal.SeenWays.{all_seen, ways_seen}
use Rattle.mpl_depend.specs.Internal.Walking.{Meets, Reaches, size}
use Rattle.mpl_depend.specs.declared.ways.Ways.{Ways as Made}
use Rattle.mpl_depend.proofs.Carrying.{carried_both, path_source}

pub reaches_both : (a b : Ways) (places mid : Places) (n : ℕ) → ((m : ℕ) → mid m ≡ true → Reaches a places m) → Reaches b mid n → Reaches (Then a b) places n
reaches_both a b places mid n sound r =
    let from = path_source r.path mid n r.is_there in
    let q = sound from.0 from.1 in
    record { path = q.path ++ r.path; through = in_turn q.through r.through; is_there = ap (λ (l : Places). l n) (carried_both q.path r.path places) ∙ from.2 (path_on q.path places) q.is_there }

pub meets_both : (a b : Ways) (places mid : Places) (node : ℕ) → ((m : ℕ) → mid m ≡ true → Reaches a places m) → Meets b mid node → Meets (Then a b) places node
meets_both a b places mid node sound r =
    let from = path_source r.path mid (r.variable + 1) r.is_loose in
    let q = sound from.0 from.1 in
    record {
      variable = r.variable;
      path = q.path ++ r.path;
      leads = in_second q.through r.leads;
      is_loose = ap (λ (l : Places). l (r.variable + 1)) (carried_both q.path r.path places) ∙ from.2 (path_on q.path places) q.is_there;
    }

pub first_met : (a b : Ways) (places : Places) (node : ℕ) → Meets a places node → Meets (Then a b) places node
first_met a b places node m = record { variable = m.variable; path = m.path; leads = in_first m.leads; is_loose = m.is_loose }

pub either_way : {A B C : Type 0} → A ⊎ B → (A → C) → (B → C) → C
either_way (inl a) f g = f a
either_way (inr b) f g = g b

-- an item of a list is less than all of it
pub item_smaller : (list : List Made) (i : ℕ) (x : Made) → drop i list ≡ x ∷ drop (i + 1) list → size (ways_seen x) < size (all_seen (map ways_seen list))
item_smaller list i x e = all_more list i (subst (λ left. size (ways_seen x) < size (all_seen (map ways_seen left))) (sym e) (omega arith)) where
  all_more : (list : List Made) (i : ℕ) → size (ways_seen x) < size (all_seen (map ways_seen (drop i list))) → size (ways_seen x) < size (all_seen (map ways_seen list))
  all_more list zero h = h
  all_more [] (suc i) h = h
  all_more (first ∷ list) (suc i) h = let less : size (ways_seen x) < size (all_seen (map ways_seen list)) = all_more list i h in omega arith
