-- Worked trees. A tree is built together with what the type rules see of it, so that a worked program is written once.
use Rattle.std.proofs.Common.{◌≡◌, List, [], ◌∷◌, ◌++◌, map, refl, ap, ap₂, ◌∙◌}
use Rattle.std.proofs.lemmas.List.{map-append}
use Rattle.std.specs.Prelude.{flat_map, Option, Some, None}
use Rattle.std.specs.Option.{option_map}
use Rattle.mpl_mean.specs.TypeRules.ProgramNodes.{Inner, Inside}

-- a tree, what is seen of it, and that it is seen
pub record Shown {A B : Type 0} (sees : A → B) : Type 0 where
  pub tree : A
  pub seen : B
  pub is : sees tree ≡ seen

abbrev pub all_trees : {A B : Type 0} {sees : A → B} → List (Shown sees) → List A
all_trees [] = []
all_trees (x ∷ xs) = x.tree ∷ all_trees xs

abbrev pub all_seen : {A B : Type 0} {sees : A → B} → List (Shown sees) → List B
all_seen [] = []
all_seen (x ∷ xs) = x.seen ∷ all_seen xs

pub seen_each : {A B : Type 0} (sees : A → B) (xs : List (Shown sees)) → map sees (all_trees xs) ≡ all_seen xs
seen_each sees [] = refl
seen_each sees (x ∷ xs) = ap₂ (λ a b. a ∷ b) x.is (seen_each sees xs)

abbrev pub tree_if_any : {A B : Type 0} {sees : A → B} → Option (Shown sees) → Option A
tree_if_any None = None
tree_if_any (Some x) = Some x.tree

abbrev pub seen_if_any : {A B : Type 0} {sees : A → B} → Option (Shown sees) → Option B
seen_if_any None = None
seen_if_any (Some x) = Some x.seen

pub is_if_any : {A B : Type 0} (sees : A → B) (x : Option (Shown sees)) → option_map sees (tree_if_any x) ≡ seen_if_any x
is_if_any sees None = refl
is_if_any sees (Some x) = ap (λ a. Some a) x.is

-- ---- bodies and guards

abbrev pub inner_of : List Inside → List Inner
inner_of = map (λ (inside : Inside). inside.inner)

-- a part of a program, and the bodies and guards in it
pub record Part {C A : Type 0} (insides : C → A → List Inside) : Type 0 where
  pub tree : A
  pub inners : List Inner
  pub has : (c : C) → inner_of (insides c tree) ≡ inners

abbrev pub part_trees : {C A : Type 0} {insides : C → A → List Inside} → List (Part insides) → List A
part_trees [] = []
part_trees (x ∷ xs) = x.tree ∷ part_trees xs

abbrev pub all_inners : {C A : Type 0} {insides : C → A → List Inside} → List (Part insides) → List Inner
all_inners [] = []
all_inners (x ∷ xs) = x.inners ++ all_inners xs

pub has_all : {C A : Type 0} (insides : C → A → List Inside) (xs : List (Part insides)) (c : C) → inner_of (flat_map (insides c) (part_trees xs)) ≡ all_inners xs
has_all insides [] c = refl
has_all insides (x ∷ xs) c =
    map-append (λ (inside : Inside). inside.inner) (insides c x.tree) (flat_map (insides c) (part_trees xs)) ∙ ap₂ (λ a b. a ++ b) (x.has c) (has_all insides xs c)
