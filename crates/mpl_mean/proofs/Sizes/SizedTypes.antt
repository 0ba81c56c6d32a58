-- How many words the values of a type have.
use Rattle.std.proofs.Common.{◌≡◌, ℕ, Bool, true, false, ◌&&◌, List, [], ◌∷◌, Option, Some, None, if◌then◌else◌, refl, sym, ap, subst, ◌∙◌}
use Rattle.std.specs.Prelude.{is_some}
use Rattle.std.specs.Option.{option_map}
use Rattle.std.specs.Str.{bytes_eq}
use Rattle.mpl_ast.specs.declared.class.Field.{Field}
use Rattle.mpl_ast.specs.declared.class.Item.{Item}
use Rattle.mpl_ast.specs.declared.program.Declaration.{Declaration}
use Rattle.mpl_ast.specs.declared.program.Declaration.TheVariants as declaration
use Rattle.mpl_ast.specs.declared.statement.Dimension.{Dimension}
use Rattle.mpl_ast.specs.declared.statement.TypeName.{TypeName}
use Rattle.mpl_ast.specs.declared.statement.TypeName.TheVariants as type
use Rattle.mpl_mean.proofs.Truth.{both_true}
use Rattle.mpl_mean.specs.TypeRules.ExpressionRules.{binary_agrees, unary_agrees}
use Rattle.mpl_mean.specs.Meaning.Layout.{dimension_of, is_regular, words_of, words_of_one, words_of_word}
use Rattle.mpl_mean.specs.TypeRules.Operations.{Operation, Arithmetic, Comparison, Equality, Logic}
use Rattle.mpl_mean.specs.TypeRules.Scopes.{Body, InMember, Surrounding, is_in_member, is_persistent}
use Rattle.mpl_mean.specs.TypeRules.Scopes as scope
use Rattle.mpl_mean.specs.Laws.Sizes.{Every}
use Rattle.mpl_mean.specs.TypeRules.Types.{AClass, ABool, AnInt, AStruct, Declared, InStruct, Meant, Role, ValueType, OfBool, OfClass, OfInt, OfStruct, Shape, AnArray, ARegular, OneValue, agree, declared_fields, is_field, is_local, meant, meant_by, same_type, shape_of_meant, shape_with, value_type, is_bool}
use Rattle.mpl_mean.specs.TypeRules.Types as types
use Rattle.mpl_mean.specs.TypeRules.Typing.{outcome, takes, takes_both, type_of_binary, type_of_own, type_of_unary}
use Rattle.mpl_mean.proofs.Sizes.SizedClasses.{ClassFound, NamesDiffer, bytes_same, class_found}
use Rattle.mpl_mean.proofs.Sizes.SizedRules.{IsElement, WellDeclaration, WellDeclared}

-- a program whose declarations fit
pub record WellProgram (ds : List Declaration) : Type 0 where
  pub differ : NamesDiffer [] ds
  pub each : Every (WellDeclaration ds) ds

pub class_of : {ds : List Declaration} → WellProgram ds → (name meant : List ℕ) (regular : Bool) (items : List Item) → meant_by name ds ≡ AClass meant regular items
    → ClassFound ds name regular items 0 0 ds
class_of {ds} well name meant regular items e = class_found ds name meant regular items 0 0 [] ds well.differ well.each e

-- ---- structs

struct_is : {n m : List ℕ} {a b : List Field} → AStruct n a ≡ AStruct m b → (n ≡ m) × (a ≡ b)
struct_is e = (cc, cc)

pub struct_found : (whole : List Declaration) (name meant : List ℕ) (fields : List Field) (ds : List Declaration) → Every (WellDeclaration whole) ds → meant_by name ds ≡ AStruct meant fields
    → (name ≡ meant) × Every (WellDeclared whole) (declared_fields InStruct fields)
struct_found whole name meant fields [] w e = absurd cc
struct_found whole name meant fields (declaration.Struct at line struct others ∷ ds) w e = chosen (bytes_eq struct.text name) e (struct_found whole name meant fields ds w.1) where
  chosen : (b : Bool) → (if b then AStruct name others else meant_by name ds) ≡ AStruct meant fields
      → (meant_by name ds ≡ AStruct meant fields → (name ≡ meant) × Every (WellDeclared whole) (declared_fields InStruct fields))
      → (name ≡ meant) × Every (WellDeclared whole) (declared_fields InStruct fields)
  chosen true e k = let h = struct_is e in (h.0, subst (λ f. Every (WellDeclared whole) (declared_fields InStruct f)) h.1 w.0)
  chosen false e k = k e
struct_found whole name meant fields (declaration.Class at line kind class items ∷ ds) w e = chosen (bytes_eq class.text name) e (struct_found whole name meant fields ds w.1) where
  chosen : (b : Bool) → (if b then AClass name (is_regular kind) items else meant_by name ds) ≡ AStruct meant fields
      → (meant_by name ds ≡ AStruct meant fields → (name ≡ meant) × Every (WellDeclared whole) (declared_fields InStruct fields))
      → (name ≡ meant) × Every (WellDeclared whole) (declared_fields InStruct fields)
  chosen true e k = absurd cc
  chosen false e k = k e
struct_found whole name meant fields (declaration.Function at result function formals body ∷ ds) w e = struct_found whole name meant fields ds w.1 e

pub struct_of : {ds : List Declaration} → WellProgram ds → (name meant : List ℕ) (fields : List Field) → meant_by name ds ≡ AStruct meant fields
    → (name ≡ meant) × Every (WellDeclared ds) (declared_fields InStruct fields)
struct_of {ds} well name meant fields e = struct_found ds name meant fields ds well.each e

-- ---- the words of a type

abbrev pub size : List Declaration → ValueType → ℕ
size ds OfInt = 1
size ds OfBool = 1
size ds (OfStruct name) = words_of_one (meant_by name ds)
size ds (OfClass name) = 1

-- what has this type has so many words
abbrev pub HasSize : List Declaration → Option ValueType → ℕ → Type 0
HasSize ds None n = ⊥
HasSize ds (Some t) n = n ≡ size ds t

pub same_size : (ds : List Declaration) (a b : ValueType) → same_type a b ≡ true → size ds a ≡ size ds b
same_size ds OfInt OfInt e = refl
same_size ds OfInt OfBool e = absurd cc
same_size ds OfInt (OfStruct n) e = absurd cc
same_size ds OfInt (OfClass n) e = absurd cc
same_size ds OfBool OfInt e = absurd cc
same_size ds OfBool OfBool e = refl
same_size ds OfBool (OfStruct n) e = absurd cc
same_size ds OfBool (OfClass n) e = absurd cc
same_size ds (OfStruct m) OfInt e = absurd cc
same_size ds (OfStruct m) OfBool e = absurd cc
same_size ds (OfStruct m) (OfStruct n) e = ap (λ w. size ds (OfStruct w)) (bytes_same m n e)
same_size ds (OfStruct m) (OfClass n) e = absurd cc
same_size ds (OfClass m) OfInt e = absurd cc
same_size ds (OfClass m) OfBool e = absurd cc
same_size ds (OfClass m) (OfStruct n) e = absurd cc
same_size ds (OfClass m) (OfClass n) e = refl

-- ---- what operators give

outcome_size : (ds : List Declaration) (o : Operation) → 1 ≡ size ds (outcome o)
outcome_size ds Arithmetic = refl
outcome_size ds Comparison = refl
outcome_size ds Equality = refl
outcome_size ds Logic = refl

chosen_size : (ds : List Declaration) (o : Operation) (b : Bool) → b ≡ true → HasSize ds (if b then Some (outcome o) else None) 1
chosen_size ds o true e = outcome_size ds o
chosen_size ds o false e = absurd cc

pub unary_size : (ds : List Declaration) (o : Operation) (t : Option ValueType) (n : ℕ) → HasSize ds t n → unary_agrees o t ≡ true → HasSize ds (type_of_unary o t) 1
unary_size ds o None n h e = absurd h
unary_size ds o (Some t) n h e = chosen_size ds o (takes o t) e

pub binary_size : (ds : List Declaration) (o : Operation) (s t : Option ValueType) (m n : ℕ) → HasSize ds s m → HasSize ds t n → binary_agrees o s t ≡ true → HasSize ds (type_of_binary o s t) 1
binary_size ds o None t m n h k e = absurd h
binary_size ds o (Some s) None m n h k e = absurd k
binary_size ds o (Some s) (Some t) m n h k e = chosen_size ds o (takes_both o s t) e

-- what `&&` and `||` take over from their right operand has the size of their own value
pub logic_size : (ds : List Declaration) (s t : Option ValueType) (m n : ℕ) → HasSize ds s m → HasSize ds t n → binary_agrees Logic s t ≡ true → HasSize ds (type_of_binary Logic s t) n
logic_size ds None t m n h k e = absurd h
logic_size ds (Some s) None m n h k e = absurd k
logic_size ds (Some s) (Some t) m n h k e =
    subst (HasSize ds (type_of_binary Logic (Some s) (Some t))) (same_size ds OfBool t (both_true (is_bool s) (is_bool t) e).1 ∙ sym k)
    (chosen_size ds Logic (takes_both Logic s t) e)

-- `self`, where it may stand
pub own_size : (ds : List Declaration) (body : Body) (class : Option Surrounding) → (is_in_member body && is_persistent class) ≡ true → HasSize ds (type_of_own body class) 1
own_size ds scope.NoBody class e = absurd cc
own_size ds scope.InGuard class e = absurd cc
own_size ds scope.InMain class e = absurd cc
own_size ds (scope.InFunction type) class e = absurd cc
own_size ds (InMember result) None e = absurd cc
own_size ds (InMember result) (Some class) e = chosen class.is_regular e where
  chosen : (b : Bool) → is_persistent (Some (record class { is_regular = b })) ≡ true → HasSize ds (if b then None else Some (OfClass class.name)) 1
  chosen true e = absurd cc
  chosen false e = refl

-- ---- the words of what is declared

some_type : {a b : ValueType} → ◌≡◌ {A = Option ValueType} (Some a) (Some b) → a ≡ b
some_type e = cc

-- a name stands for neither `int` nor `bool`
pub not_int : (name : List ℕ) (ds : List Declaration) → meant_by name ds ≡ AnInt → ⊥
not_int name [] e = cc
not_int name (declaration.Struct at line struct fields ∷ ds) e = chosen (bytes_eq struct.text name) e (not_int name ds) where
  chosen : (b : Bool) → (if b then AStruct name fields else meant_by name ds) ≡ AnInt → (meant_by name ds ≡ AnInt → ⊥) → ⊥
  chosen true e k = cc
  chosen false e k = k e
not_int name (declaration.Class at line kind class items ∷ ds) e = chosen (bytes_eq class.text name) e (not_int name ds) where
  chosen : (b : Bool) → (if b then AClass name (is_regular kind) items else meant_by name ds) ≡ AnInt → (meant_by name ds ≡ AnInt → ⊥) → ⊥
  chosen true e k = cc
  chosen false e k = k e
not_int name (declaration.Function at result function formals body ∷ ds) e = not_int name ds e

pub not_bool : (name : List ℕ) (ds : List Declaration) → meant_by name ds ≡ ABool → ⊥
not_bool name [] e = cc
not_bool name (declaration.Struct at line struct fields ∷ ds) e = chosen (bytes_eq struct.text name) e (not_bool name ds) where
  chosen : (b : Bool) → (if b then AStruct name fields else meant_by name ds) ≡ ABool → (meant_by name ds ≡ ABool → ⊥) → ⊥
  chosen true e k = cc
  chosen false e k = k e
not_bool name (declaration.Class at line kind class items ∷ ds) e = chosen (bytes_eq class.text name) e (not_bool name ds) where
  chosen : (b : Bool) → (if b then AClass name (is_regular kind) items else meant_by name ds) ≡ ABool → (meant_by name ds ≡ ABool → ⊥) → ⊥
  chosen true e k = cc
  chosen false e k = k e
not_bool name (declaration.Function at result function formals body ∷ ds) e = not_bool name ds e

pub type_words : {ds : List Declaration} → WellProgram ds → (role : Role) (t : TypeName) (v : ValueType) → value_type role (meant ds t) ≡ Some v → words_of ds t None ≡ size ds v
type_words {ds} well role (type.Int at) v e = ap (size ds) (some_type e)
type_words {ds} well role (type.Bool at) v e = ap (size ds) (some_type e)
type_words {ds} well role (type.Named at name) v e = named (meant_by name.text ds) refl e where
  named : (m : Meant) → meant_by name.text ds ≡ m → value_type role m ≡ Some v → words_of_one (meant_by name.text ds) ≡ size ds v
  named AnInt i e = absurd (not_int name.text ds i)
  named ABool i e = absurd (not_bool name.text ds i)
  named (AStruct n fields) i e = field (is_field role) e where
    field : (b : Bool) → (if b then None else Some (OfStruct n)) ≡ Some v → words_of_one (meant_by name.text ds) ≡ size ds v
    field true e = absurd cc
    field false e = ap (λ w. size ds (OfStruct w)) (struct_of well name.text n fields i).0 ∙ ap (size ds) (some_type e)
  named (AClass n true items) i e = absurd cc
  named (AClass n false items) i e = ap words_of_one i ∙ ap (size ds) (some_type e)
  named types.Nothing i e = absurd cc

one_value : (dimension : Option Dimension) (t : Option ValueType) (v : ValueType) → option_map (shape_with dimension) t ≡ Some (OneValue v) → (dimension ≡ None) × (t ≡ Some v)
one_value dimension None v e = absurd cc
one_value None (Some t) v e = (refl, cc)
one_value (Some dimension) (Some t) v e = absurd cc

an_array : (dimension : Option Dimension) (t : Option ValueType) (v : ValueType) → option_map (shape_with dimension) t ≡ Some (AnArray v) → ((d : Dimension) × (dimension ≡ Some d)) × (t ≡ Some v)
an_array dimension None v e = absurd cc
an_array None (Some t) v e = absurd cc
an_array (Some dimension) (Some t) v e = ((dimension, refl), cc)

no_regular : (b : Bool) (items : List Item) (v : ValueType) → (if b then Some (ARegular items) else None) ≡ Some (OneValue v) → ⊥
no_regular true items v e = cc
no_regular false items v e = cc

no_array : (b : Bool) (items : List Item) (v : ValueType) → (if b then Some (ARegular items) else None) ≡ Some (AnArray v) → ⊥
no_array true items v e = cc
no_array false items v e = cc

pub value_of_shape : (role : Role) (dimension : Option Dimension) (m : Meant) (v : ValueType) → shape_of_meant role dimension m ≡ Some (OneValue v) → (dimension ≡ None) × (value_type role m ≡ Some v)
value_of_shape role dimension AnInt v e = one_value dimension _ v e
value_of_shape role dimension ABool v e = one_value dimension _ v e
value_of_shape role dimension (AStruct n fields) v e = one_value dimension _ v e
value_of_shape role dimension (AClass n true items) v e = absurd (no_regular (is_local role) items v e)
value_of_shape role dimension (AClass n false items) v e = one_value dimension _ v e
value_of_shape role dimension types.Nothing v e = one_value dimension _ v e

pub array_of_shape : (role : Role) (dimension : Option Dimension) (m : Meant) (v : ValueType) → shape_of_meant role dimension m ≡ Some (AnArray v)
    → ((d : Dimension) × (dimension ≡ Some d)) × (value_type role m ≡ Some v)
array_of_shape role dimension AnInt v e = an_array dimension _ v e
array_of_shape role dimension ABool v e = an_array dimension _ v e
array_of_shape role dimension (AStruct n fields) v e = an_array dimension _ v e
array_of_shape role dimension (AClass n true items) v e = absurd (no_array (is_local role) items v e)
array_of_shape role dimension (AClass n false items) v e = an_array dimension _ v e
array_of_shape role dimension types.Nothing v e = an_array dimension _ v e

-- what holds one value has its words
pub shape_words : {ds : List Declaration} → WellProgram ds → (d : Declared) (v : ValueType) → shape_of_meant d.role d.dimension (meant ds d.type) ≡ Some (OneValue v)
    → words_of ds d.type (dimension_of d.dimension) ≡ size ds v
shape_words {ds} well d v e =
    let h = value_of_shape d.role d.dimension (meant ds d.type) v e in
    ap (λ n. words_of ds d.type (dimension_of n)) h.0 ∙ type_words well d.role d.type v h.1

-- an element of an array has one word
pub element_words : (ds : List Declaration) (d : Declared) (v : ValueType) → shape_of_meant d.role d.dimension (meant ds d.type) ≡ Some (AnArray v) → IsElement d.dimension d.type → size ds v ≡ 1
element_words ds d v e i = of_type d.type (array_of_shape d.role d.dimension (meant ds d.type) v e).1 (subst (λ n. IsElement n d.type) h.1 i) where
  h : (n : Dimension) × (d.dimension ≡ Some n)
  h = (array_of_shape d.role d.dimension (meant ds d.type) v e).0

  of_type : (t : TypeName) → value_type d.role (meant ds t) ≡ Some v → IsElement (Some h.0) t → size ds v ≡ 1
  of_type (type.Int at) e i = sym (ap (size ds) (some_type e))
  of_type (type.Bool at) e i = sym (ap (size ds) (some_type e))
  of_type (type.Named at name) e i = absurd cc

-- a field of a struct counts one word, or one for each element
pub field_words : {ds : List Declaration} → WellProgram ds → (name : List ℕ) (t : TypeName) (dimension : Option Dimension)
    → WellDeclared ds (record { role = InStruct; name = name; type = t; dimension = dimension }) → words_of ds t (dimension_of dimension) ≡ words_of_word (dimension_of dimension)
field_words {ds} well field (type.Int at) dimension w = refl
field_words {ds} well field (type.Bool at) dimension w = refl
field_words {ds} well field (type.Named at name) (Some dimension) w = refl
field_words {ds} well field (type.Named at name) None w = named (meant_by name.text ds) refl w.0 where
  named : (m : Meant) → meant_by name.text ds ≡ m → is_some (shape_of_meant InStruct None m) ≡ true → words_of_one (meant_by name.text ds) ≡ 1
  named AnInt i e = absurd (not_int name.text ds i)
  named ABool i e = absurd (not_bool name.text ds i)
  named (AStruct n fields) i e = absurd cc
  named (AClass n true items) i e = absurd cc
  named (AClass n false items) i e = ap words_of_one i
  named types.Nothing i e = absurd cc
