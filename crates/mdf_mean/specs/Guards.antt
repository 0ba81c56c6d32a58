-- Which calls a class accepts, by the meaning of its entries.
use Rattle.std.specs.Prelude.{ℕ, zero, suc, Bool, true, false, List, [], ◌∷◌, map, slice_get, Option, Some, None, ℤ, pos, negsuc}
use Rattle.std.specs.FinMap.{empty}
use Rattle.mpl_ast.specs.declared.class.Entry.{Entry}
use Rattle.mpl_ast.specs.declared.class.Item.{Item}
use Rattle.mpl_ast.specs.declared.class.Item.TheVariants as item
use Rattle.mpl_ast.specs.declared.expression.Expression.{Expression}
use Rattle.mpl_ast.specs.declared.program.Declaration.{Declaration}
use Rattle.mpl_ast.specs.declared.program.Declaration.TheVariants as declaration
use Rattle.mpl_mean.specs.Meaning.BodyMeaning.{callees_at, context_with, formals_holding, split_words, store_with}
use Rattle.mpl_mean.specs.Meaning.Context.{Context}
use Rattle.mpl_mean.specs.Meaning.ExpressionMeaning.{Evaluates}
use Rattle.mpl_mean.specs.Meaning.Layout.{Class, Member, classes_of, member_named, natural, parts_of}
use Rattle.mpl_mean.specs.Meaning.Store.{Ends, Goes, Outcome, Returns}
use Rattle.mpl_mean.specs.Meaning.Values.{Value, is_true}
use Rattle.mdf_mean.specs.Meanings.{Choice}

-- ---- guards

-- what a guard sees of a program: the state of its class, and no calls
abbrev pub guard_context : List Declaration → Class → Context
guard_context ds class = record (context_with ds 0 empty (callees_at 0 ds 0 empty)) { state = parts_of ds class.state }

-- a guard that traps doesn't hold
abbrev pub gives_true : Outcome Value → Bool
gives_true (Goes value store) = is_true value
gives_true (Returns words store) = false
gives_true (Ends end store) = false

-- a guard on the state and the arguments of a call of its member; an entry without a guard holds always
abbrev pub guard_holds : (Expression → Evaluates) → List Declaration → Class → Member → Option Expression → List ℤ → List ℤ → Bool
guard_holds value ds class member None state arguments = true
guard_holds value ds class member (Some test) state arguments =
    gives_true (value test (guard_context ds class) (store_with (formals_holding member.formals (split_words ds member.formals arguments)) state [] 0))

-- ---- entries

abbrev pub choice_of : (Expression → Evaluates) → List Declaration → Class → ℕ → Option Expression → Member → Choice
choice_of value ds class priority guard member = record { priority = priority; member = record { 0 = member.id }; holds = guard_holds value ds class member guard }

abbrev pub with_choice : (Expression → Evaluates) → List Declaration → Class → ℕ → Option Expression → Option Member → List Choice → List Choice
with_choice value ds class priority guard None others = others
with_choice value ds class priority guard (Some member) others = choice_of value ds class priority guard member ∷ others

abbrev pub selected : (Expression → Evaluates) → List Declaration → Class → List Entry → List Choice
selected value ds class [] = []
selected value ds class (entry ∷ entries) =
    with_choice value ds class (natural entry.priority.value) entry.guard (member_named entry.member.text class.members) (selected value ds class entries)

-- the entries of a class's `select`, if it has one
abbrev pub select_in : List Item → Option (List Entry)
select_in [] = None
select_in (item.OfField at field ∷ items) = select_in items
select_in (item.Member at result name formals body ∷ items) = select_in items
select_in (item.Select at line entries ∷ items) = Some entries
select_in (item.Public at ∷ items) = select_in items
select_in (item.Private at ∷ items) = select_in items
select_in (item.Empty at ∷ items) = select_in items

-- a class without `select` accepts each of its members, at priority 0
abbrev pub class_choices : (Expression → Evaluates) → List Declaration → Class → Option (List Entry) → List Choice
class_choices value ds class None = map (choice_of value ds class 0 None) class.members
class_choices value ds class (Some entries) = selected value ds class entries

-- ---- classes by their numbers

-- the items of the class of a number, from 0
abbrev pub items_at : ℕ → List Declaration → List Item
items_at n [] = []
items_at n (declaration.Struct at line name fields ∷ others) = items_at n others
items_at zero (declaration.Class at line kind name items ∷ others) = items
items_at (suc n) (declaration.Class at line kind name items ∷ others) = items_at n others
items_at n (declaration.Function at result name formals body ∷ others) = items_at n others

abbrev pub class_at : List Declaration → ℤ → Option Class
class_at ds (pos n) = slice_get (classes_of ds) n
class_at ds (negsuc n) = None

abbrev pub choices_in : (Expression → Evaluates) → List Declaration → List Item → Option Class → List Choice
choices_in value ds items None = []
choices_in value ds items (Some class) = class_choices value ds class (select_in items)

-- the entries of a class, where expressions have these values
abbrev pub choices_by : (Expression → Evaluates) → List Declaration → ℤ → List Choice
choices_by value ds class = choices_in value ds (items_at (natural class) ds) (class_at ds class)
