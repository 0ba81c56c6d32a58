-- Tables of the first of each name, beside the lists that they are of.
use Rattle.std.proofs.Common.{◌≡◌, ◌<◌, ◌+◌, ℕ, Bool, true, false, ◌||◌, List, [], ◌∷◌, ◌++◌, Option, Some, None, if◌then◌else◌, is_some, option_map, length, take, get_or, reverse, true≢false, refl, ap, ap₂, sym, ◌∙◌}
use Rattle.std.specs.Cmp.Lexicographic.{nat_list_eq_equiv}
use Rattle.std.proofs.lemmas.List.{reverse-append, take_more}
use Rattle.std.specs.Prelude.{flat_map}
use Rattle.std.specs.List.{list_any}
use Rattle.std.specs.Str.{bytes_eq}
use Rattle.mpl_mean.specs.TypeRules.Types as types
use Rattle.mpl_mean.specs.TypeRules.Types.{Declared, first_named, names}
use Rattle.mpl_scope.specs.First.{or_else, with_first}
use Rattle.mpl_scope.specs.SeenOutline.{or_meant, seen_found, seen_named}
use Rattle.mpl_scope.specs.declared.outline.Named.{Named}
use Rattle.mpl_scope.specs.declared.outline.Named.TheVariants as named

-- ---- options

pub or_none : {A : Type 0} (o : Option A) → or_else o None ≡ o
or_none None = refl
or_none (Some a) = refl

or_else_three : {A : Type 0} (a b c : Option A) → or_else (or_else a b) c ≡ or_else a (or_else b c)
or_else_three None b c = refl
or_else_three (Some a) b c = refl

-- ---- variables

pub found_append : (name : List ℕ) (xs ys : List Declared) → first_named name (xs ++ ys) ≡ or_else (first_named name xs) (first_named name ys)
found_append name [] ys = refl
found_append name (x ∷ xs) ys = one_of (bytes_eq x.name name) x (first_named name (xs ++ ys)) (first_named name xs) (first_named name ys) (found_append name xs ys) where
  one_of : (b : Bool) (x : Declared) (all some others : Option Declared) → all ≡ or_else some others → (if b then Some x else all) ≡ or_else (if b then Some x else some) others
  one_of true x all some others e = refl
  one_of false x all some others e = e

mapped : {A B : Type 0} (f : A → B) (o : Option A) (b : Bool) (a : A) → option_map f (or_else o (if b then Some a else None)) ≡ or_else (option_map f o) (if b then Some (f a) else None)
mapped f None true a = refl
mapped f None false a = refl
mapped f (Some o) b a = refl

-- one more behind the others
pub found_after : {V : Type 0} (f : V → Declared) (old new : List ℕ → Option V) (key : List ℕ) (v : V) (list : List Declared)
    → key ≡ (f v).name → ((q : List ℕ) → option_map f (old q) ≡ first_named q list) → ((q : List ℕ) → new q ≡ with_first key v old q)
    → (q : List ℕ) → option_map f (new q) ≡ first_named q (list ++ f v ∷ [])
found_after f old new key v list named before is q =
    ap (option_map f) (is q) ∙ mapped f (old q) (bytes_eq key q) v
    ∙ ap₂ (λ (x : Option Declared) (k : List ℕ). or_else x (if bytes_eq k q then Some (f v) else None)) (before q) named
    ∙ sym (found_append q list (f v ∷ []))

turned : (a b : List ℕ) → bytes_eq a b ≡ bytes_eq b a
turned a b = nat_list_eq_equiv.symm a b

pub found_has : (name : List ℕ) (list : List Declared) → is_some (first_named name list) ≡ list_any (bytes_eq name) (names list)
found_has name [] = refl
found_has name (d ∷ others) =
    one_of (bytes_eq d.name name) d (first_named name others) ∙ ap₂ (λ a b. a || b) (turned d.name name) (found_has name others) where
      one_of : (b : Bool) (d : Declared) (o : Option Declared) → is_some (if b then Some d else o) ≡ (b || is_some o)
      one_of true d o = refl
      one_of false d o = refl

-- ---- names alone

any_append : (name : List ℕ) (xs : List (List ℕ)) (y : List ℕ) → list_any (bytes_eq name) (xs ++ y ∷ []) ≡ (list_any (bytes_eq name) xs || bytes_eq name y)
any_append name [] y = none_behind (bytes_eq name y) where
  none_behind : (b : Bool) → (b || false) ≡ b
  none_behind true = refl
  none_behind false = refl
any_append name (x ∷ xs) y = ap (λ b. bytes_eq name x || b) (any_append name xs y) ∙ three (bytes_eq name x) (list_any (bytes_eq name) xs) (bytes_eq name y) where
  three : (a b c : Bool) → (a || (b || c)) ≡ ((a || b) || c)
  three true b c = refl
  three false b c = refl

some_added : {V : Type 0} (o : Option V) (b : Bool) (v : V) → is_some (or_else o (if b then Some v else None)) ≡ (is_some o || b)
some_added None true v = refl
some_added None false v = refl
some_added (Some o) b v = refl

pub known_after : {V : Type 0} (old new : List ℕ → Option V) (key : List ℕ) (v : V) (list : List (List ℕ))
    → ((q : List ℕ) → is_some (old q) ≡ list_any (bytes_eq q) list) → ((q : List ℕ) → new q ≡ with_first key v old q)
    → (q : List ℕ) → is_some (new q) ≡ list_any (bytes_eq q) (list ++ key ∷ [])
known_after old new key v list before is q =
    ap is_some (is q) ∙ some_added (old q) (bytes_eq key q) v ∙ ap₂ (λ a b. a || b) (before q) (turned key q) ∙ sym (any_append q list key)

-- ---- functions, members and types

pub chosen_first : {A B : Type 0} (f : A → B) (o : Option A) (b : Bool) (a : A) (rest : Option B)
    → or_else (option_map f (or_else o (if b then Some a else None))) rest ≡ or_else (option_map f o) (if b then Some (f a) else rest)
chosen_first f None true a rest = refl
chosen_first f None false a rest = refl
chosen_first f (Some o) b a rest = refl

meant_first : (n : Named) (a b : types.Meant) → or_meant (seen_named n) a ≡ or_meant (seen_named n) b
meant_first (named.Struct s) a b = refl
meant_first (named.Class c) a b = refl

meant_itself : (n : Named) (a : types.Meant) → or_meant (seen_named n) a ≡ seen_named n
meant_itself (named.Struct s) a = refl
meant_itself (named.Class c) a = refl

pub chosen_meant : (o : Option Named) (b : Bool) (n : Named) (rest : types.Meant)
    → or_meant (seen_found (or_else o (if b then Some n else None))) rest ≡ or_meant (seen_found o) (if b then seen_named n else rest)
chosen_meant None true n rest = meant_itself n rest
chosen_meant None false n rest = refl
chosen_meant (Some o) b n rest = meant_first o rest (if b then seen_named n else rest)

pub or_nothing : (o : Option Named) → or_meant (seen_found o) types.Nothing ≡ seen_found o
or_nothing None = refl
or_nothing (Some n) = meant_itself n types.Nothing

pub some_mapped : {A B : Type 0} (f : A → B) (o : Option A) → is_some (option_map f o) ≡ is_some o
some_mapped f None = refl
some_mapped f (Some a) = refl

-- ---- one place after another

pub found_here : {A B : Type 0} (f : A → B) (found : Option A) (x rest : Option B) → is_some found ≡ true → option_map f found ≡ x → option_map f found ≡ or_else x rest
found_here f None x rest some is = absurd (true≢false (sym some))
found_here f (Some a) x rest some is = ap (λ y. or_else y rest) is

pub not_here : {A B : Type 0} (f : A → B) (found : Option A) (x rest : Option B) → is_some found ≡ false → option_map f found ≡ x → rest ≡ or_else x rest
not_here f None x rest none is = ap (λ y. or_else y rest) is
not_here f (Some a) x rest none is = absurd (true≢false none)

pub found_in_three : (name : List ℕ) (a b c : List Declared) → first_named name (a ++ b ++ c) ≡ or_else (first_named name a) (or_else (first_named name b) (first_named name c))
found_in_three name a b c =
    found_append name (a ++ b) c ∙ ap (λ x. or_else x (first_named name c)) (found_append name a b)
    ∙ or_else_three (first_named name a) (first_named name b) (first_named name c)

-- the blocks so far, the innermost last
abbrev pub in_blocks : List ℕ → List (List Declared) → Option Declared
in_blocks name blocks = first_named name (flat_map (λ block. block) (reverse blocks))

pub one_block : (name : List ℕ) (blocks : List (List Declared)) (n left : ℕ) (block : List Declared) → n < length blocks → n + 1 ≡ left → block ≡ get_or blocks n block
    → in_blocks name (take left blocks) ≡ or_else (first_named name block) (in_blocks name (take n blocks))
one_block name blocks n left block within next is =
    ap (λ k. in_blocks name (take k blocks)) (sym next)
    ∙ ap (in_blocks name) (take_more blocks n block within ∙ ap (λ y. take n blocks ++ y ∷ []) (sym is))
    ∙ ap (λ xs. first_named name (flat_map (λ b. b) xs)) (reverse-append (take n blocks) (block ∷ []))
    ∙ found_append name block (flat_map (λ b. b) (reverse (take n blocks)))
