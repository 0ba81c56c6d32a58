-- Arguments whose types are those of the formals have their words.
use Rattle.std.proofs.Common.{◌≡◌, ℕ, Bool, true, false, ◌||◌, ◌==◌, List, [], ◌∷◌, length, map, Option, Some, None, if◌then◌else◌, refl, sym, ap, subst, ◌∙◌, arith}
use Rattle.std.proofs.lemmas.Bool.Decides.{nat_tests}
use Rattle.std.specs.List.{AllZip, list_any}
use Rattle.std.specs.Prelude.{is_none, is_some}
use Rattle.std.specs.Str.{bytes_eq}
use Rattle.mpl_ast.specs.declared.class.Formal.{Formal}
use Rattle.mpl_ast.specs.declared.program.Declaration.{Declaration}
use Rattle.mpl_ast.specs.declared.program.Declaration.TheVariants as declaration
use Rattle.mpl_value.specs.declared.body.Arg.{Arg}
use Rattle.mpl_value.specs.declared.body.Arg.TheVariants.{Know, Trapped, Unknown}
use Rattle.mpl_value.specs.CallAnswers.{any_unknown}
use Rattle.mpl_mean.specs.Meaning.Layout.{Function, formals_of, function_named}
use Rattle.mpl_mean.specs.TypeRules.ProgramNodes.{function_body}
use Rattle.mpl_mean.specs.TypeRules.Scopes.{InFunction, InMain, is_main}
use Rattle.mpl_mean.specs.Laws.Sizes.{ArgFits, ArgumentsFit, Every, words_of_formal}
use Rattle.mpl_mean.specs.TypeRules.Types.{AClass, ABool, AnInt, AStruct, AsFormal, Meant, Nothing, ValueType, agree, declared_formals, meant, shape_of_meant, value_type}
use Rattle.mpl_mean.specs.TypeRules.Typing.{all_agree, arguments_agree, formal_types}
use Rattle.mpl_mean.specs.Meaning.Values.{Value}
use Rattle.mpl_mean.proofs.Sizes.SizedSteps.{ArgIn}
use Rattle.mpl_mean.proofs.Sizes.SizedAnswers.{ListsFit}
use Rattle.mpl_mean.proofs.Sizes.SizedClasses.{bytes_same}
use Rattle.mpl_mean.proofs.Sizes.SizedRules.{WellDeclaration, WellDeclared, WellRoutine}
use Rattle.mpl_mean.proofs.Sizes.SizedSettings.{PlainFits}
use Rattle.mpl_mean.proofs.Sizes.SizedTypes.{HasSize, WellProgram, same_size, size, type_words}
use Rattle.mpl_mean.proofs.Truth.{both_true, some_is}

-- what is passed on with a type has its words, if it is known
abbrev pub ArgHas : Type 0 → List Declaration → Option ValueType → Arg → Type 0
ArgHas W ds None a = ⊥
ArgHas W ds (Some t) a = ArgIn W (size ds t) a

abbrev pub ValueHas : List Declaration → Option ValueType → Value → Type 0
ValueHas ds t v = HasSize ds t (length v.words)

-- an argument's type has the words of a formal
abbrev pub FormalHas : List Declaration → Option ValueType → Formal → Type 0
FormalHas ds None formal = ⊥
FormalHas ds (Some t) formal = size ds t ≡ words_of_formal ds formal

formal_value : (m : Meant) → is_some (shape_of_meant AsFormal None m) ≡ true → is_some (value_type AsFormal m) ≡ true
formal_value AnInt h = refl
formal_value ABool h = refl
formal_value (AStruct n fields) h = refl
formal_value (AClass n true items) h = absurd cc
formal_value (AClass n false items) h = refl
formal_value Nothing h = absurd cc

agrees : (ds : List Declaration) → WellProgram ds → (t : Option ValueType) (formal : Formal) (f : Option ValueType) → is_none t ≡ false → value_type AsFormal (meant ds formal.type_name) ≡ f → is_some f ≡ true
    → agree t f ≡ true → FormalHas ds t formal
agrees ds well None formal f i e s h = absurd cc
agrees ds well (Some t) formal None i e s h = absurd cc
agrees ds well (Some t) formal (Some f) i e s h = same_size ds t f h ∙ sym (type_words well AsFormal formal.type_name f e)

zip_agrees : (ds : List Declaration) → WellProgram ds → (ts : List (Option ValueType)) (formals : List Formal) → list_any is_none ts ≡ false → length ts ≡ length (formal_types ds formals)
    → all_agree ts (formal_types ds formals) ≡ true → Every (WellDeclared ds) (declared_formals formals) → AllZip (FormalHas ds) ts formals
zip_agrees ds well [] [] i e h w = tt
zip_agrees ds well [] (formal ∷ formals) i e h w = absurd (omega arith)
zip_agrees ds well (t ∷ ts) [] i e h w = absurd (omega arith)
zip_agrees ds well (t ∷ ts) (formal ∷ formals) i e h w =
    let f = value_type AsFormal (meant ds formal.type_name) in
    let two = both_true (agree t f) (all_agree ts (formal_types ds formals)) h in
    let none = none_of (is_none t) (list_any is_none ts) i in
    (agrees ds well t formal f none.0 refl (formal_value (meant ds formal.type_name) w.0.0) two.0, zip_agrees ds well ts formals none.1 (omega arith) two.1 w.1) where
      none_of : (a b : Bool) → (a || b) ≡ false → (a ≡ false) × (b ≡ false)
      none_of true b e = absurd cc
      none_of false b e = (refl, e)

pub formals_agree : (ds : List Declaration) → WellProgram ds → (ts : List (Option ValueType)) (formals : List Formal) → list_any is_none ts ≡ false
    → arguments_agree ts (formal_types ds formals) ≡ true → Every (WellDeclared ds) (declared_formals formals) → AllZip (FormalHas ds) ts formals
formals_agree ds well ts formals i h w =
    let two = both_true (length ts == length (formal_types ds formals)) (list_any is_none ts || all_agree ts (formal_types ds formals)) h in
    let e : (length ts == length (formal_types ds formals)) ≡ true = two.0 in
    let long : length ts ≡ length (formal_types ds formals) = grind (arith, nat_tests) in
    zip_agrees ds well ts formals i long (subst (λ b. (b || all_agree ts (formal_types ds formals)) ≡ true) i two.1) w

-- ---- from types to formals

values_some : (ds : List Declaration) (ts : List (Option ValueType)) (vs : List Value) → AllZip (ValueHas ds) ts vs → list_any is_none ts ≡ false
values_some ds [] vs h = refl
values_some ds (t ∷ ts) [] h = absurd h
values_some ds (None ∷ ts) (v ∷ vs) h = absurd h.0
values_some ds (Some t ∷ ts) (v ∷ vs) h = values_some ds ts vs h.1

values_fit : (ds : List Declaration) (ts : List (Option ValueType)) (formals : List Formal) (vs : List Value) → AllZip (FormalHas ds) ts formals → AllZip (ValueHas ds) ts vs
    → ListsFit ds formals (map (λ (value : Value). value.words) vs)
values_fit ds [] [] [] h k = tt
values_fit ds [] [] (v ∷ vs) h k = absurd k
values_fit ds [] (formal ∷ formals) vs h k = absurd h
values_fit ds (t ∷ ts) [] vs h k = absurd h
values_fit ds (t ∷ ts) (formal ∷ formals) [] h k = absurd k
values_fit ds (None ∷ ts) (formal ∷ formals) (v ∷ vs) h k = absurd h.0
values_fit ds (Some t ∷ ts) (formal ∷ formals) (v ∷ vs) h k = (k.0 ∙ h.0, values_fit ds ts formals vs h.1 k.1)

-- the words of values whose types fit
pub words_fit : (ds : List Declaration) → WellProgram ds → (ts : List (Option ValueType)) (formals : List Formal) (vs : List Value) → AllZip (ValueHas ds) ts vs
    → arguments_agree ts (formal_types ds formals) ≡ true → Every (WellDeclared ds) (declared_formals formals) → ListsFit ds formals (map (λ (value : Value). value.words) vs)
words_fit ds well ts formals vs h e w = values_fit ds ts formals vs (formals_agree ds well ts formals (values_some ds ts vs h) e w) h

arg_fits : (W : Type 0) (n : ℕ) (a : Arg) → ArgIn W n a → ArgFits n a
arg_fits W n (Know words) h = h
arg_fits W n (Trapped t) h = tt
arg_fits W n Unknown h = tt

-- where an argument isn't known something may wait
pub unknown_waits : (W : Type 0) (ds : List Declaration) (ts : List (Option ValueType)) (args : List Arg) → AllZip (ArgHas W ds) ts args → any_unknown args ≡ true → W
unknown_waits W ds ts [] h e = absurd cc
unknown_waits W ds [] (a ∷ args) h e = absurd h
unknown_waits W ds (None ∷ ts) (a ∷ args) h e = absurd h.0
unknown_waits W ds (Some t ∷ ts) (Know words ∷ args) h e = unknown_waits W ds ts args h.1 e
unknown_waits W ds (Some t ∷ ts) (Trapped trap ∷ args) h e = unknown_waits W ds ts args h.1 e
unknown_waits W ds (Some t ∷ ts) (Unknown ∷ args) h e = h.0

args_some : (W : Type 0) (ds : List Declaration) (ts : List (Option ValueType)) (args : List Arg) → AllZip (ArgHas W ds) ts args → list_any is_none ts ≡ false
args_some W ds [] args h = refl
args_some W ds (t ∷ ts) [] h = absurd h
args_some W ds (None ∷ ts) (a ∷ args) h = absurd h.0
args_some W ds (Some t ∷ ts) (a ∷ args) h = args_some W ds ts args h.1

zip_args : (W : Type 0) (ds : List Declaration) (ts : List (Option ValueType)) (formals : List Formal) (args : List Arg) → AllZip (FormalHas ds) ts formals → AllZip (ArgHas W ds) ts args → ArgumentsFit ds formals args
zip_args W ds [] [] [] h k = tt
zip_args W ds [] [] (a ∷ args) h k = absurd k
zip_args W ds [] (formal ∷ formals) args h k = absurd h
zip_args W ds (t ∷ ts) [] args h k = absurd h
zip_args W ds (t ∷ ts) (formal ∷ formals) [] h k = absurd k
zip_args W ds (None ∷ ts) (formal ∷ formals) (a ∷ args) h k = absurd h.0
zip_args W ds (Some t ∷ ts) (formal ∷ formals) (a ∷ args) h k = (arg_fits W _ a (subst (λ n. ArgIn W n a) h.0 k.0), zip_args W ds ts formals args h.1 k.1)

-- arguments whose types fit
pub args_fit : (W : Type 0) (ds : List Declaration) → WellProgram ds → (ts : List (Option ValueType)) (formals : List Formal) (args : List Arg) → AllZip (ArgHas W ds) ts args
    → arguments_agree ts (formal_types ds formals) ≡ true → Every (WellDeclared ds) (declared_formals formals) → ArgumentsFit ds formals args
args_fit W ds well ts formals args h e w = zip_args W ds ts formals args (formals_agree ds well ts formals (args_some W ds ts args h) e w) h

-- ---- plain functions

pub function_of : (whole : List Declaration) (name : List ℕ) (f : Function) (ds : List Declaration) → is_main name ≡ false → Every (WellDeclaration whole) ds → function_named name ds ≡ Some f → PlainFits whole f
function_of whole name f [] m w e = absurd cc
function_of whole name f (declaration.Struct at line struct fields ∷ ds) m w e = function_of whole name f ds m w.1 e
function_of whole name f (declaration.Class at line kind class items ∷ ds) m w e = function_of whole name f ds m w.1 e
function_of whole name f (declaration.Function at result function formals body ∷ ds) m w e = chosen (bytes_eq function.text name) refl e (function_of whole name f ds m w.1) where
  chosen : (b : Bool) → bytes_eq function.text name ≡ b → (if b then Some (record { result = result; formals = formals_of formals; body = body }) else function_named name ds) ≡ Some f
      → (function_named name ds ≡ Some f → PlainFits whole f) → PlainFits whole f
  chosen true i e k =
      let text = bytes_same function.text name i in
      let body_is : function_body function.text result ≡ InFunction result = ap (λ w. function_body w result) text ∙ ap (λ b. if b then InMain else InFunction result) m in
      subst (PlainFits whole) (some_is e) (record { routine = subst (λ b. WellRoutine whole None b (formals_of formals) body) body_is w.0.0; result = w.0.1 })
  chosen false i e k = k e
