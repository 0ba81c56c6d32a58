-- What names stand for in a program of the first form, and the types of its expressions: `int`, where they have one.
use Rattle.std.proofs.Common.{◌≡◌, ℕ, ◌+◌, Bool, true, false, ◌&&◌, List, [], ◌∷◌, ◌++◌, Option, Some, None, if◌then◌else◌, refl, sym, subst}
use Rattle.std.specs.Prelude.{flat_map}
use Rattle.std.specs.List.{list_all}
use Rattle.std.specs.Option.{option_and_then}
use Rattle.std.specs.Str.{bytes_eq}
use Rattle.mpl_ast.specs.declared.class.Item.{Item}
use Rattle.mpl_ast.specs.declared.class.Item.TheVariants as item
use Rattle.mpl_ast.specs.declared.class.Kind.TheVariants.{Regular, Persistent}
use Rattle.mpl_ast.specs.declared.class.ResultType.{ResultType}
use Rattle.mpl_ast.specs.declared.class.ResultType.TheVariants as result
use Rattle.mpl_ast.specs.declared.expression.Target.TheVariants as target
use Rattle.mpl_ast.specs.declared.program.Declaration.{Declaration}
use Rattle.mpl_ast.specs.declared.program.Declaration.TheVariants as declaration
use Rattle.mpl_ast.specs.declared.statement.Dimension.{Dimension}
use Rattle.mpl_ast.specs.declared.statement.TypeName.{TypeName}
use Rattle.mpl_ast.specs.declared.statement.TypeName.TheVariants as type
use Rattle.mpl_mean.specs.FirstForms.FirstForm.{are_first, is_class, is_main, is_first_item, is_int_result, is_one_result, are_ints}
use Rattle.mpl_mean.specs.Meaning.Layout.{Member, member_named, members_from, state_of}
use Rattle.mpl_mean.specs.Plain.Expr.{Expr}
use Rattle.mpl_mean.specs.Plain.Expr as expr
use Rattle.mpl_mean.specs.TypeRules.Operations.{Arithmetic}
use Rattle.mpl_mean.specs.TypeRules.Scopes.{Environment, state_members}
use Rattle.mpl_mean.specs.TypeRules.Types.{AClass, Nothing, Meant, meant, meant_by, Role, AsLocal, AsFormal, AsResult, InState, InStruct, Declared, first_named, Shape, OneValue, AnArray, ARegular, OfInt, shape_of, shape_of_meant, result_type, ValueType}
use Rattle.mpl_mean.specs.TypeRules.Typing.{variable_shape, type_of_whole, type_of_binary, type_of, items_called, member_of, type_of_call}
use Rattle.mpl_mean.proofs.SevenRules.FirstExpressions.{IsFirst}
use Rattle.mpl_mean.proofs.Truth.{both_true}

-- ---- what types stand for

abbrev pub AreFirstItems : List Item → Type 0
AreFirstItems items = list_all is_first_item items ≡ true

-- nothing, or a regular class of the first form
abbrev pub IsFirstMeant : Meant → Type 0
IsFirstMeant Nothing = Unit {0}
IsFirstMeant (AClass name true items) = AreFirstItems items
IsFirstMeant other = ⊥

abbrev pub OnlyFirst : List Declaration → Type 0
OnlyFirst ds = (name : List ℕ) → IsFirstMeant (meant_by name ds)

chosen_meant : (t : Bool) (m n : Meant) → IsFirstMeant m → IsFirstMeant n → IsFirstMeant (if t then m else n)
chosen_meant true m n a b = a
chosen_meant false m n a b = b

meant_class : (d : Declaration) (ds : List Declaration) → is_class d ≡ true → OnlyFirst ds → OnlyFirst (d ∷ ds)
meant_class (declaration.Struct at line struct fields) ds h first name = absurd cc
meant_class (declaration.Class at line (Regular k) class items) ds h first name = chosen_meant (bytes_eq class.text name) _ _ h (first name)
meant_class (declaration.Class at line (Persistent k) class items) ds h first name = absurd cc
meant_class (declaration.Function at result function formals body) ds h first name = absurd cc

meant_main : (d : Declaration) → is_main d ≡ true → OnlyFirst (d ∷ [])
meant_main (declaration.Struct at line struct fields) h name = absurd cc
meant_main (declaration.Class at line kind class items) h name = absurd cc
meant_main (declaration.Function at result function formals body) h name = tt

pub meant_first : (ds : List Declaration) → are_first ds ≡ true → OnlyFirst ds
meant_first [] h = absurd cc
meant_first (d ∷ []) h = meant_main d h
meant_first (d ∷ e ∷ others) h = let b = both_true (is_class d) (are_first (e ∷ others)) h in meant_class d (e ∷ others) b.0 (meant_first (e ∷ others) b.1)

-- ---- variables

-- `int`, or a local whose type is a name
abbrev pub IsFirstTyped : Role → Option Dimension → TypeName → Type 0
IsFirstTyped role None (type.Int at) = Unit {0}
IsFirstTyped AsLocal None (type.Named at name) = Unit {0}
IsFirstTyped role dimension type = ⊥

abbrev pub AreFirstVariables : List Declared → Type 0
AreFirstVariables [] = Unit {0}
AreFirstVariables (d ∷ ds) = IsFirstTyped d.role d.dimension d.type × AreFirstVariables ds

pub variables_append : (xs ys : List Declared) → AreFirstVariables xs → AreFirstVariables ys → AreFirstVariables (xs ++ ys)
variables_append [] ys a b = b
variables_append (x ∷ xs) ys a b = (a.0, variables_append xs ys a.1 b)

abbrev pub IsFirstShape : Option Shape → Type 0
IsFirstShape None = Unit {0}
IsFirstShape (Some (OneValue OfInt)) = Unit {0}
IsFirstShape (Some (ARegular items)) = AreFirstItems items
IsFirstShape other = ⊥

shape_named : (m : Meant) → IsFirstMeant m → IsFirstShape (shape_of_meant AsLocal None m)
shape_named Nothing h = tt
shape_named (AClass name true items) h = h
shape_named m h = absurd h

shape_first : (ds : List Declaration) → OnlyFirst ds → (role : Role) (dimension : Option Dimension) (t : TypeName)
    → IsFirstTyped role dimension t → IsFirstShape (shape_of_meant role dimension (meant ds t))
shape_first ds first InState None (type.Int at) h = tt
shape_first ds first InStruct None (type.Int at) h = tt
shape_first ds first AsFormal None (type.Int at) h = tt
shape_first ds first AsResult None (type.Int at) h = tt
shape_first ds first AsLocal None (type.Int at) h = tt
shape_first ds first AsLocal None (type.Named at name) h = shape_named (meant_by name.text ds) (first name.text)
shape_first ds first role dimension t h = absurd h

pub shape_of_variable : (ds : List Declaration) → OnlyFirst ds → (d : Declared) → IsFirstTyped d.role d.dimension d.type → IsFirstShape (shape_of ds (Some d))
shape_of_variable ds first d h = shape_first ds first d.role d.dimension d.type h

chosen_shape : (ds : List Declaration) (t : Bool) (x y : Option Declared) → IsFirstShape (shape_of ds x) → IsFirstShape (shape_of ds y) → IsFirstShape (shape_of ds (if t then x else y))
chosen_shape ds true x y a b = a
chosen_shape ds false x y a b = b

shape_found : (ds : List Declaration) → OnlyFirst ds → (name : List ℕ) (vs : List Declared) → AreFirstVariables vs → IsFirstShape (shape_of ds (first_named name vs))
shape_found ds first name [] h = tt
shape_found ds first name (v ∷ vs) h =
    chosen_shape ds (bytes_eq v.name name) (Some v) (first_named name vs) (shape_of_variable ds first v h.0) (shape_found ds first name vs h.1)

-- ---- what surrounds a node

pub record FirstEnvironment (environment : Environment) : Type 0 where
  pub program : OnlyFirst environment.declarations
  pub locals : AreFirstVariables (flat_map (λ block. block) environment.blocks)
  pub formals : AreFirstVariables environment.formals
  pub state : AreFirstVariables (state_members environment.class)

pub variable_first : (environment : Environment) → FirstEnvironment environment → (name : List ℕ) → IsFirstShape (variable_shape environment name)
variable_first environment first name =
    shape_found environment.declarations first.program name (flat_map (λ block. block) environment.blocks ++ environment.formals ++ state_members environment.class)
    (variables_append (flat_map (λ block. block) environment.blocks ++ environment.formals) (state_members environment.class) (variables_append (flat_map (λ block. block) environment.blocks) environment.formals first.locals first.formals) first.state)

-- ---- types

abbrev pub IsFirstType : Option ValueType → Type 0
IsFirstType None = Unit {0}
IsFirstType (Some OfInt) = Unit {0}
IsFirstType other = ⊥

whole_first : (s : Option Shape) → IsFirstShape s → IsFirstType (type_of_whole s)
whole_first None h = tt
whole_first (Some (OneValue OfInt)) h = tt
whole_first (Some (AnArray t)) h = tt
whole_first (Some (ARegular items)) h = tt
whole_first other h = absurd h

pub binary_first : (l r : Option ValueType) → IsFirstType l → IsFirstType r → IsFirstType (type_of_binary Arithmetic l r)
binary_first None r a b = tt
binary_first (Some l) None a b = tt
binary_first (Some OfInt) (Some OfInt) a b = tt
binary_first (Some OfInt) r a b = absurd b
binary_first l r a b = absurd a

pub type_first : (environment : Environment) → FirstEnvironment environment → (p : Expr) → IsFirst p → IsFirstType (type_of environment p)
type_first environment first (expr.Number at value) h = tt
type_first environment first (expr.Whole at (target.Variable t v)) h = whole_first (variable_shape environment v.text) (variable_first environment first v.text)
type_first environment first (expr.Whole at (target.Field t v f)) h = absurd cc
type_first environment first (expr.Binary at line operator l r) h =
    subst (λ o. IsFirstType (type_of_binary o (type_of environment l) (type_of environment r))) (sym h.0)
    (binary_first (type_of environment l) (type_of environment r) (type_first environment first l h.1) (type_first environment first r h.2))
type_first environment first other h = absurd h

-- ---- members

-- it gives an `int`
abbrev pub IsFirstMember : Option Member → Type 0
IsFirstMember None = Unit {0}
IsFirstMember (Some member) = is_int_result member.result ≡ true

chosen_member : (t : Bool) (x y : Option Member) → IsFirstMember x → IsFirstMember y → IsFirstMember (if t then x else y)
chosen_member true x y a b = a
chosen_member false x y a b = b

member_found : (name : List ℕ) (id : ℕ) (items : List Item) → AreFirstItems items → IsFirstMember (member_named name (members_from id items))
member_found name id [] h = tt
member_found name id (item.OfField at field ∷ items) h = absurd cc
member_found name id (item.Member at result member formals body ∷ items) h =
    let b = both_true (is_first_item (item.Member at result member formals body)) (list_all is_first_item items) h in
    let c = both_true (is_int_result result && are_ints formals) (is_one_result body.statements) b.0 in
    chosen_member (bytes_eq member.text name) _ _ (both_true (is_int_result result) (are_ints formals) c.0).0 (member_found name (id + 1) items b.1)
member_found name id (item.Select at line entries ∷ items) h = absurd cc
member_found name id (item.Public at ∷ items) h = absurd cc
member_found name id (item.Private at ∷ items) h = absurd cc
member_found name id (item.Empty at ∷ items) h = absurd cc

pub member_first : (ds : List Declaration) (name : List ℕ) (s : Option Shape) → IsFirstShape s → IsFirstMember (option_and_then (member_of name) (items_called ds s))
member_first ds name None h = tt
member_first ds name (Some (OneValue OfInt)) h = tt
member_first ds name (Some (ARegular items)) h = member_found name 0 items h
member_first ds name other h = absurd h

result_first : (ds : List Declaration) (r : ResultType) → is_int_result r ≡ true → IsFirstType (result_type ds r)
result_first ds (result.Void at) h = absurd cc
result_first ds (result.Typed at (type.Int t)) h = tt
result_first ds (result.Typed at (type.Bool t)) h = absurd cc
result_first ds (result.Typed at (type.Named t name)) h = absurd cc

pub call_first : (ds : List Declaration) (m : Option Member) → IsFirstMember m → IsFirstType (type_of_call ds m)
call_first ds None h = tt
call_first ds (Some member) h = result_first ds member.result h

-- a regular class of the first form has no state
pub no_state : (items : List Item) → AreFirstItems items → state_of items ≡ []
no_state [] h = refl
no_state (item.OfField at field ∷ items) h = absurd cc
no_state (item.Member at result member formals body ∷ items) h =
    no_state items (both_true (is_first_item (item.Member at result member formals body)) (list_all is_first_item items) h).1
no_state (item.Select at line entries ∷ items) h = absurd cc
no_state (item.Public at ∷ items) h = absurd cc
no_state (item.Private at ∷ items) h = absurd cc
no_state (item.Empty at ∷ items) h = absurd cc
