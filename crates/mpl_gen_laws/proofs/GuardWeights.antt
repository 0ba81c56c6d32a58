-- In a light program guards keep few words: the weight at a token counts the words that stand below.
use Rattle.std.proofs.Common.{◌≡◌, ◌≤◌, ℕ, ◌+◌, ◌-◌, Bool, true, List, [], ◌∷◌, map, Option, Some, None, nat_le, refl, sym, subst, arith, ◌∙◌}
use Rattle.std.proofs.lemmas.Bool.{leb-true}
use Rattle.std.proofs.lemmas.List.Folds.{list_all-append}
use Rattle.std.specs.List.{list_all}
use Rattle.std.specs.Option.{option_map}
use Rattle.mpl_ast.specs.declared.class.Entry.{Entry}
use Rattle.mpl_ast.specs.declared.class.Item.{Item}
use Rattle.mpl_ast.specs.declared.class.Item.TheVariants as item
use Rattle.mpl_ast.specs.declared.expression.Expression.{Expression}
use Rattle.mpl_ast.specs.declared.expression.Target.{Target}
use Rattle.mpl_ast.specs.declared.expression.Target.TheVariants as target
use Rattle.mpl_ast.specs.declared.program.Declaration.{Declaration}
use Rattle.mpl_ast.specs.declared.program.Declaration.TheVariants as declaration
use Rattle.mpl_ast.specs.declared.program.Program.{Program}
use Rattle.mpl_mean.specs.Laws.Sizes.{Every}
use Rattle.mpl_mean.specs.Limits.{most_weight}
use Rattle.mpl_mean.specs.Plain.Expr.{Expr, expr_of, expr_of_forms}
use Rattle.mpl_mean.specs.Text.Weight.{Weighs, ◌⨾◌, bracketed, counted, declaration_weighs, each_after_comma, entry_weighs, expression_weighs, guard_weighs, if_any, in_order, is_light, item_weighs, operand_weighs, plain, target_weighs, weight_of_forms, whole, with_commas, closing}
use Rattle.mpl_mean.proofs.ExpressionInduction.{Becomes, EachForm, by_forms}
use Rattle.mpl_mean.proofs.Truth.{both_true}
use Rattle.mdf_code.specs.Guards.{most_guard_words}
use Rattle.mpl_gen_laws.proofs.GuardForms.{Low}

abbrev light : ℕ → Bool
light w = nat_le w most_weight

-- no token of it has a weight above the most
abbrev LightAt : Weighs → ℕ → Type 0
LightAt a w = list_all light (a w).weights ≡ true

first_light : (a b : Weighs) (w : ℕ) → LightAt (a ⨾ b) w → LightAt a w
first_light a b w h = (both_true (list_all light (a w).weights) (list_all light (b (a w).after).weights) (sym (list_all-append light (a w).weights (b (a w).after).weights) ∙ h)).0

second_light : (a b : Weighs) (w : ℕ) → LightAt (a ⨾ b) w → LightAt b (a w).after
second_light a b w h = (both_true (list_all light (a w).weights) (list_all light (b (a w).after).weights) (sym (list_all-append light (a w).weights (b (a w).after).weights) ∙ h)).1

-- one weight
one_light : (w : ℕ) → list_all light (w ∷ []) ≡ true → w ≤ 64
one_light w h = leb-true w most_weight ((both_true (light w) true h).0)

-- ---- expressions

record Weighed (weighs : Weighs) (expr : Expr) (w : ℕ) : Type 0 where
  low : (k : ℕ) → k ≤ w → Low k expr
  after : w ≤ (weighs w).after

abbrev LightForm : Becomes → Type 0
LightForm t = (w : ℕ) → LightAt (t Weighs weight_of_forms) w → Weighed (t Weighs weight_of_forms) (t Expr expr_of_forms) w

within : (k w : ℕ) → k ≤ w → w ≤ 64 → k + 1 ≤ most_guard_words
within k w a b = omega arith

target_after : (t : Target) (w : ℕ) → (target_weighs t w).after ≡ w
target_after (target.Variable at variable) w = refl
target_after (target.Field at variable field) w = refl

target_light : (t : Target) (w : ℕ) → LightAt (target_weighs t) w → w ≤ 64
target_light (target.Variable at variable) w h = one_light w h
target_light (target.Field at variable field) w h = one_light w (first_light plain (plain ⨾ plain) w h)

commas_after : (all : List Weighs) (w : ℕ) → ((each_after_comma (map whole all)) w).after ≡ w
commas_after [] w = refl
commas_after (a ∷ all) w = commas_after all w

arguments_after : (all : List Weighs) (w : ℕ) → ((with_commas (map whole all)) w).after ≡ w
arguments_after [] w = refl
arguments_after (a ∷ all) w = commas_after all w

back_again : (w : ℕ) → w ≤ w + 1 - 1
back_again w = omega arith

forms_light : EachForm LightForm LightForm
forms_light = record {
  alone = λ at t h. h;
  binary = λ at line o l r on_left on_right w h.
      let left = on_left w (first_light (l Weighs weight_of_forms) (counted ⨾ (r Weighs weight_of_forms)) w h) in
      let rest = second_light (l Weighs weight_of_forms) (counted ⨾ (r Weighs weight_of_forms)) w h in
      let w1 = (l Weighs weight_of_forms w).after in
      let few = one_light (w1 + 1) (first_light counted (r Weighs weight_of_forms) w1 rest) in
      let right = on_right (w1 + 1) (second_light counted (r Weighs weight_of_forms) w1 rest) in
      let up = left.after in
      let up_right = right.after in
      record {
        low = λ k le. (within k (w1 + 1) (omega (arith, up, le)) few, left.low k le, right.low k (omega (arith, up, le)), right.low (k + 1) (omega (arith, up, le)));
        after = omega (arith, up, up_right);
      };
  unary = λ at line o t on w h.
      let few = one_light (w + 1) (first_light counted (t Weighs weight_of_forms) w h) in
      let inner = on (w + 1) (second_light counted (t Weighs weight_of_forms) w h) in
      let up = inner.after in
      record { low = λ k le. (within k (w + 1) (omega arith) few, inner.low k (omega arith)); after = omega (arith, up) };
  number = λ at z w h. record { low = λ k le. within k w le (one_light w h); after = omega arith };
  true = λ at w h. record { low = λ k le. within k w le (one_light w h); after = omega arith };
  false = λ at w h. record { low = λ k le. within k w le (one_light w h); after = omega arith };
  own = λ at w h. record { low = λ k le. tt; after = omega arith };
  read = λ at t h. h;
  input = λ at w h. record { low = λ k le. tt; after = back_again w };
  call = λ at f es all w h. record { low = λ k le. tt; after = called_after (map operand_weighs es) w };
  parenthesized = λ at t on w h.
      let inner = on (w + 1) (first_light (whole (t Weighs weight_of_forms)) closing (w + 1) (second_light counted (whole (t Weighs weight_of_forms) ⨾ closing) w h)) in
      record { low = λ k le. inner.low k (omega arith); after = back_again w };
  whole = λ at t w h. record { low = λ k le. within k w le (target_light t w h); after = let e = target_after t w in omega (arith, e) };
  element = λ at line t i on w h.
      let few = target_light t w (first_light (target_weighs t) (bracketed (whole (i Weighs weight_of_forms))) w h) in
      let rest = subst (LightAt (bracketed (whole (i Weighs weight_of_forms)))) (target_after t w) (second_light (target_weighs t) (bracketed (whole (i Weighs weight_of_forms))) w h) in
      let inner = on (w + 1) (first_light (whole (i Weighs weight_of_forms)) closing (w + 1) (second_light counted (whole (i Weighs weight_of_forms) ⨾ closing) w rest)) in
      record {
        low = λ k le. (within k w le few, inner.low k (omega arith));
        after = subst (λ n. w ≤ n + 1 - 1) (sym (target_after t w)) (back_again w);
      };
} where
  called_after : (all : List Weighs) (w : ℕ) → w ≤ ((bracketed (with_commas (map whole all))) w).after
  called_after all w = subst (λ n. w ≤ n - 1) (sym (arguments_after all (w + 1))) (back_again w)

pub test_low : (test : Expression) (w : ℕ) → LightAt (expression_weighs test) w → Low 0 (expr_of test)
test_low test w h = (by_forms LightForm LightForm forms_light test w h).low 0 (omega arith)

-- ---- the guards of a program

-- somewhere in a program it is light
abbrev pub Light : Weighs → Type 0
Light a = (w : ℕ) × LightAt a w

light_first : (a b : Weighs) → Light (a ⨾ b) → Light a
light_first a b h = (h.0, first_light a b h.0 h.1)

light_second : (a b : Weighs) → Light (a ⨾ b) → Light b
light_second a b h = ((a h.0).after, second_light a b h.0 h.1)

light_inside : (a : Weighs) → Light (bracketed a) → Light a
light_inside a h = light_first a closing (light_second counted (a ⨾ closing) h)

-- the guard of an entry
abbrev pub GuardLow : Option Expression → Type 0
GuardLow None = Unit {0}
GuardLow (Some test) = Low 0 (expr_of test)

abbrev pub EntryLow : Entry → Type 0
EntryLow entry = GuardLow entry.guard

guard_low : (guard : Option Expression) → Light (if_any (option_map guard_weighs guard)) → GuardLow guard
guard_low None h = tt
guard_low (Some test) h =
    let inner = light_inside (expression_weighs test) (light_second plain (bracketed (expression_weighs test)) h) in
    test_low test inner.0 inner.1

entry_low : (entry : Entry) → Light (entry_weighs entry) → EntryLow entry
entry_low entry h =
    guard_low entry.guard
    (light_first (if_any (option_map guard_weighs entry.guard)) (plain ⨾ plain ⨾ plain)
    (light_second plain (if_any (option_map guard_weighs entry.guard) ⨾ plain ⨾ plain ⨾ plain)
    (light_second plain (plain ⨾ if_any (option_map guard_weighs entry.guard) ⨾ plain ⨾ plain ⨾ plain)
    (light_second plain (plain ⨾ plain ⨾ if_any (option_map guard_weighs entry.guard) ⨾ plain ⨾ plain ⨾ plain) h))))

entries_low : (entries : List Entry) → Light (in_order (map entry_weighs entries)) → Every EntryLow entries
entries_low [] h = tt
entries_low (entry ∷ entries) h =
    (entry_low entry (light_first (entry_weighs entry) (in_order (map entry_weighs entries)) h), entries_low entries (light_second (entry_weighs entry) (in_order (map entry_weighs entries)) h))

abbrev pub ItemLow : Item → Type 0
ItemLow (item.Select at line entries) = Every EntryLow entries
ItemLow other = Unit {0}

item_low : (i : Item) → Light (item_weighs i) → ItemLow i
item_low (item.OfField at field) h = tt
item_low (item.Member at result member formals body) h = tt
item_low (item.Select at line entries) h = entries_low entries (light_inside (in_order (map entry_weighs entries)) (light_second plain (bracketed (in_order (map entry_weighs entries))) h))
item_low (item.Public at) h = tt
item_low (item.Private at) h = tt
item_low (item.Empty at) h = tt

items_low : (items : List Item) → Light (in_order (map item_weighs items)) → Every ItemLow items
items_low [] h = tt
items_low (i ∷ items) h = (item_low i (light_first (item_weighs i) (in_order (map item_weighs items)) h), items_low items (light_second (item_weighs i) (in_order (map item_weighs items)) h))

abbrev pub DeclarationLow : Declaration → Type 0
DeclarationLow (declaration.Class at line kind name items) = Every ItemLow items
DeclarationLow (declaration.Struct at line name fields) = Unit {0}
DeclarationLow (declaration.Function at result name formals body) = Unit {0}

declaration_low : (d : Declaration) → Light (declaration_weighs d) → DeclarationLow d
declaration_low (declaration.Struct at line name fields) h = tt
declaration_low (declaration.Function at result name formals body) h = tt
declaration_low (declaration.Class at line kind name items) h =
    let inner = bracketed (in_order (map item_weighs items)) in
    items_low items (light_inside (in_order (map item_weighs items))
    (light_first inner plain
    (light_second plain (inner ⨾ plain)
    (light_second plain (plain ⨾ inner ⨾ plain)
    (light_second plain (plain ⨾ plain ⨾ inner ⨾ plain)
    (light_second plain (plain ⨾ plain ⨾ plain ⨾ inner ⨾ plain) h))))))

declarations_low : (ds : List Declaration) → Light (in_order (map declaration_weighs ds)) → Every DeclarationLow ds
declarations_low [] h = tt
declarations_low (d ∷ ds) h = (declaration_low d (light_first (declaration_weighs d) (in_order (map declaration_weighs ds)) h), declarations_low ds (light_second (declaration_weighs d) (in_order (map declaration_weighs ds)) h))

pub guards_low : (p : Program) → is_light p ≡ true → Every DeclarationLow p.declarations
guards_low p e = declarations_low p.declarations (0, e)
