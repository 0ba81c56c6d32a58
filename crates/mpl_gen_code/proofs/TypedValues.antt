-- What types that operators take say of words, and of which values are `bool`.
use Rattle.std.proofs.Common.{◌≡◌, ℕ, Bool, true, false, ◌&&◌, ◌||◌, List, Option, Some, None, if◌then◌else◌, refl, sym, ap, subst, ◌∙◌}
use Rattle.std.specs.Prelude.{is_none, is_some}
use Rattle.mpl_ast.specs.declared.class.ResultType.{ResultType}
use Rattle.mpl_ast.specs.declared.class.ResultType.TheVariants.{Void, Typed}
use Rattle.mpl_ast.specs.declared.expression.UnaryOperator.{UnaryOperator}
use Rattle.mpl_ast.specs.declared.expression.UnaryOperator.TheVariants as operator
use Rattle.mpl_ast.specs.declared.program.Declaration.{Declaration}
use Rattle.mpl_ast.specs.declared.statement.TypeName.{TypeName}
use Rattle.mpl_ast.specs.declared.statement.TypeName.TheVariants as type
use Rattle.mpl_mean.specs.Laws.Sizes.{words_of_result}
use Rattle.mpl_mean.specs.Levels.{BinaryOperator, Or, And, Equate, Compare, Add, Multiply}
use Rattle.mpl_mean.specs.Meaning.Layout.{words_of}
use Rattle.mpl_mean.specs.Meaning.PlaceMeaning.{is_bool}
use Rattle.mpl_mean.specs.TypeRules.ClassRules.{has_value}
use Rattle.mpl_mean.specs.TypeRules.ExpressionRules.{binary_agrees, can_be_indexed, can_be_printed, is_array, unary_agrees}
use Rattle.mpl_mean.specs.TypeRules.Operations.{Operation, Arithmetic, Comparison, Equality, Logic, binary_operation, unary_operation}
use Rattle.mpl_mean.specs.TypeRules.Scopes.{Body, InMember, Surrounding}
use Rattle.mpl_mean.specs.TypeRules.Scopes as scope
use Rattle.mpl_mean.specs.TypeRules.Types.{AClass, ABool, AnInt, AStruct, AnArray, ARegular, AsResult, Declared, Meant, Nothing, OfBool, OfClass, OfInt, OfStruct, OneValue, Role, Shape, ValueType, agree, is_field, is_int, meant, meant_by, result_type, shape_of, value_type}
use Rattle.mpl_mean.specs.TypeRules.Types as types
use Rattle.mpl_mean.specs.TypeRules.Typing.{takes, takes_both, type_of_binary, type_of_element, type_of_own, type_of_unary, type_of_whole}
use Rattle.mpl_mean.proofs.Sizes.SizedRules.{WellResult}
use Rattle.mpl_mean.proofs.Sizes.SizedTypes.{HasSize, WellProgram, array_of_shape, not_bool, same_size, size, type_words, value_of_shape}
use Rattle.mpl_mean.proofs.Truth.{both_true}
use Rattle.mpl_gen_code.specs.Words.{is_bool_binary, is_bool_unary}

-- ---- words

int_one : (ds : List Declaration) (t : ValueType) → is_int t ≡ true → size ds t ≡ 1
int_one ds t e = sym (same_size ds OfInt t e)

bool_one : (ds : List Declaration) (t : ValueType) → types.is_bool t ≡ true → size ds t ≡ 1
bool_one ds t e = sym (same_size ds OfBool t e)

one_of : (a b : Bool) → (a || b) ≡ true → {A : Type 0} → (a ≡ true → A) → (b ≡ true → A) → A
one_of true b e h k = h refl
one_of false b e h k = k e

takes_one : (ds : List Declaration) (o : Operation) (s t : ValueType) → takes_both o s t ≡ true → (size ds s ≡ 1) × (size ds t ≡ 1)
takes_one ds Arithmetic s t e = let h = both_true (is_int s) (is_int t) e in (int_one ds s h.0, int_one ds t h.1)
takes_one ds Comparison s t e = let h = both_true (is_int s) (is_int t) e in (int_one ds s h.0, int_one ds t h.1)
takes_one ds Logic s t e = let h = both_true (types.is_bool s) (types.is_bool t) e in (bool_one ds s h.0, bool_one ds t h.1)
takes_one ds Equality s t e =
    one_of (is_int s && is_int t) (types.is_bool s && types.is_bool t) e
    (λ i. let h = both_true (is_int s) (is_int t) i in (int_one ds s h.0, int_one ds t h.1))
    (λ i. let h = both_true (types.is_bool s) (types.is_bool t) i in (bool_one ds s h.0, bool_one ds t h.1))

pub unary_one : (ds : List Declaration) (o : Operation) (t : Option ValueType) (n : ℕ) → HasSize ds t n → unary_agrees o t ≡ true → n ≡ 1
unary_one ds o None n h e = absurd h
unary_one ds o (Some t) n h e = h ∙ (takes_one ds o t t e).0

pub binary_ones : (ds : List Declaration) (o : Operation) (s t : Option ValueType) (m n : ℕ) → HasSize ds s m → HasSize ds t n → binary_agrees o s t ≡ true → (m ≡ 1) × (n ≡ 1)
binary_ones ds o None t m n h k e = absurd h
binary_ones ds o (Some s) None m n h k e = absurd k
binary_ones ds o (Some s) (Some t) m n h k e = let i = takes_one ds o s t e in (h ∙ i.0, k ∙ i.1)

pub printed_one : (ds : List Declaration) (t : Option ValueType) (n : ℕ) → HasSize ds t n → can_be_printed t ≡ true → n ≡ 1
printed_one ds None n h e = absurd h
printed_one ds (Some t) n h e = h ∙ one_of (is_int t) (types.is_bool t) e (int_one ds t) (bool_one ds t)

-- what is compared with a type has its words
pub agree_size : (ds : List Declaration) (s t : Option ValueType) (m n : ℕ) → HasSize ds s m → HasSize ds t n → agree s t ≡ true → m ≡ n
agree_size ds None t m n h k e = absurd h
agree_size ds (Some s) None m n h k e = absurd k
agree_size ds (Some s) (Some t) m n h k e = h ∙ (same_size ds s t e ∙ sym k)

-- an index
pub index_one : (ds : List Declaration) (s : Option Shape) (t : Option ValueType) (n : ℕ) → is_some s ≡ true → HasSize ds t n → can_be_indexed s t ≡ true → n ≡ 1
index_one ds None t n i h e = absurd cc
index_one ds (Some s) None n i h e = absurd h
index_one ds (Some s) (Some t) n i h e = h ∙ int_one ds t (both_true (is_array s) (is_int t) e).1

pub typed_size : {ds : List Declaration} → WellProgram ds → (role : Role) (t : TypeName) (o : Option ValueType) → value_type role (meant ds t) ≡ o → is_some o ≡ true → HasSize ds o (words_of ds t None)
typed_size well role t None e i = absurd cc
typed_size well role t (Some v) e i = type_words well role t v e

pub result_size : {ds : List Declaration} → WellProgram ds → (r : ResultType) → has_value r ≡ true → WellResult ds r → HasSize ds (result_type ds r) (words_of_result ds r)
result_size well (Void at) e w = absurd cc
result_size {ds} well (Typed at t) e w = typed_size well AsResult t (value_type AsResult (meant ds t)) refl w

pub sized_known : (ds : List Declaration) (t : Option ValueType) (n : ℕ) → HasSize ds t n → is_none t ≡ false
sized_known ds None n h = absurd h
sized_known ds (Some t) n h = refl

-- ---- which values are `bool`

bool_is : (v : ValueType) → types.is_bool v ≡ true → v ≡ OfBool
bool_is OfInt e = absurd cc
bool_is OfBool e = refl
bool_is (OfStruct n) e = absurd cc
bool_is (OfClass n) e = absurd cc

pub type_bool : (ds : List Declaration) (role : Role) (t : TypeName) (v : ValueType) → value_type role (meant ds t) ≡ Some v → types.is_bool v ≡ true → is_bool t ≡ true
type_bool ds role (type.Int at) v e i = absurd (let k : ◌≡◌ {A = Option ValueType} (Some OfInt) (Some OfBool) = e ∙ ap (λ v. Some v) (bool_is v i) in cc)
type_bool ds role (type.Bool at) v e i = refl
type_bool ds role (type.Named at name) v e i = absurd (named (meant_by name.text ds) refl (e ∙ ap (λ v. Some v) (bool_is v i))) where
  named : (m : Meant) → meant_by name.text ds ≡ m → value_type role m ≡ Some OfBool → ⊥
  named AnInt j e = cc
  named ABool j e = not_bool name.text ds j
  named (AStruct n fields) j e = field (is_field role) e where
    field : (b : Bool) → (if b then None else Some (OfStruct n)) ≡ Some OfBool → ⊥
    field true e = cc
    field false e = cc
  named (AClass n true items) j e = cc
  named (AClass n false items) j e = cc
  named Nothing j e = cc

some_value : {a b : ValueType} → ◌≡◌ {A = Option ValueType} (Some a) (Some b) → a ≡ b
some_value e = cc

pub whole_bool : (ds : List Declaration) (d : Declared) (s : Option Shape) (v : ValueType) → shape_of ds (Some d) ≡ s → type_of_whole s ≡ Some v → types.is_bool v ≡ true → is_bool d.type ≡ true
whole_bool ds d None v e i k = absurd cc
whole_bool ds d (Some (OneValue t)) v e i k =
    type_bool ds d.role d.type t (value_of_shape d.role d.dimension (meant ds d.type) t e).1 (subst (λ v. types.is_bool v ≡ true) (sym (some_value i)) k)
whole_bool ds d (Some (AnArray t)) v e i k = absurd cc
whole_bool ds d (Some (ARegular items)) v e i k = absurd cc

pub element_bool : (ds : List Declaration) (d : Declared) (s : Option Shape) (index : Option ValueType) (v : ValueType) → shape_of ds (Some d) ≡ s → type_of_element s index ≡ Some v → types.is_bool v ≡ true
    → is_bool d.type ≡ true
element_bool ds d None index v e i k = absurd cc
element_bool ds d (Some (OneValue t)) index v e i k = absurd cc
element_bool ds d (Some (AnArray t)) index v e i k = chosen (agree (Some OfInt) index) i where
  chosen : (b : Bool) → (if b then Some t else None) ≡ Some v → is_bool d.type ≡ true
  chosen true i = type_bool ds d.role d.type t (array_of_shape d.role d.dimension (meant ds d.type) t e).1 (subst (λ v. types.is_bool v ≡ true) (sym (some_value i)) k)
  chosen false i = absurd cc
element_bool ds d (Some (ARegular items)) index v e i k = absurd cc

pub own_no_bool : (body : Body) (class : Option Surrounding) (v : ValueType) → type_of_own body class ≡ Some v → types.is_bool v ≡ true → ⊥
own_no_bool scope.NoBody class v e i = cc
own_no_bool scope.InGuard class v e i = cc
own_no_bool scope.InMain class v e i = cc
own_no_bool (scope.InFunction type) class v e i = cc
own_no_bool (InMember result) None v e i = cc
own_no_bool (InMember result) (Some class) v e i = chosen class.is_regular e where
  chosen : (b : Bool) → (if b then None else Some (OfClass class.name)) ≡ Some v → ⊥
  chosen true e = cc
  chosen false e = let k : types.is_bool (OfClass class.name) ≡ true = subst (λ v. types.is_bool v ≡ true) (sym (some_value e)) i in cc

int_no_bool : (b : Bool) (v : ValueType) → (if b then Some OfInt else None) ≡ Some v → types.is_bool v ≡ true → ⊥
int_no_bool true v e i = let k : types.is_bool OfInt ≡ true = subst (λ v. types.is_bool v ≡ true) (sym (some_value e)) i in cc
int_no_bool false v e i = cc

pub unary_bool : (o : UnaryOperator) (t : Option ValueType) (v : ValueType) → type_of_unary (unary_operation o) t ≡ Some v → types.is_bool v ≡ true → is_bool_unary o ≡ true
unary_bool operator.Negative None v e i = absurd cc
unary_bool operator.Negative (Some t) v e i = absurd (int_no_bool (takes Arithmetic t) v e i)
unary_bool operator.Not t v e i = refl

sum_no_bool : (s t : Option ValueType) (v : ValueType) → type_of_binary Arithmetic s t ≡ Some v → types.is_bool v ≡ true → ⊥
sum_no_bool None t v e i = cc
sum_no_bool (Some s) None v e i = cc
sum_no_bool (Some s) (Some t) v e i = int_no_bool (takes_both Arithmetic s t) v e i

pub binary_bool : (o : BinaryOperator) (s t : Option ValueType) (v : ValueType) → type_of_binary (binary_operation o) s t ≡ Some v → types.is_bool v ≡ true → is_bool_binary o ≡ true
binary_bool Or s t v e i = refl
binary_bool And s t v e i = refl
binary_bool (Equate o) s t v e i = refl
binary_bool (Compare o) s t v e i = refl
binary_bool (Add o) s t v e i = absurd (sum_no_bool s t v e i)
binary_bool (Multiply o) s t v e i = absurd (sum_no_bool s t v e i)

-- the right operand of `&&` and `||`
pub right_bool : (ds : List Declaration) (s t : Option ValueType) (m n : ℕ) → HasSize ds s m → HasSize ds t n → binary_agrees Logic s t ≡ true → (v : ValueType) × (t ≡ Some v) × (types.is_bool v ≡ true)
right_bool ds None t m n h k e = absurd h
right_bool ds (Some s) None m n h k e = absurd k
right_bool ds (Some s) (Some t) m n h k e = (t, refl, (both_true (types.is_bool s) (types.is_bool t) e).1)
