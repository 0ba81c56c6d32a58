-- Arguments beside the formals that they are for.
use Rattle.std.proofs.Common.{◌≡◌, ◌<◌, ◌≤◌, ◌+◌, ◌==◌, ℕ, suc, Bool, true, false, ◌&&◌, ◌||◌, List, [], ◌∷◌, map, length, drop, get_or, Option, Some, None, is_none, is_some, slice_get, refl, sym, ap, ap₂, ◌∙◌}
use Rattle.std.proofs.lemmas.List.{drop-drop, drop-map}
use Rattle.std.specs.List.{list_any}
use Rattle.mpl_ast.specs.declared.class.Formal.{Formal}
use Rattle.mpl_ast.specs.declared.program.Declaration.{Declaration}
use Rattle.mpl_mean.specs.Meaning.Layout.{Function, Member}
use Rattle.mpl_mean.specs.TypeRules.CallRules.{function_takes, member_takes}
use Rattle.mpl_mean.specs.Plain.Expr.{Expr, listed}
use Rattle.mpl_mean.specs.TypeRules.Rules.{Failure}
use Rattle.mpl_mean.specs.TypeRules.Scopes.{Environment}
use Rattle.mpl_mean.specs.TypeRules.Types.{ValueType, agree, meant, value_type, AsFormal}
use Rattle.mpl_mean.specs.TypeRules.Typing.{all_agree, arguments_agree, formal_types, type_of, types_of}
use Rattle.mpl_mean.proofs.Lists.{left_at, next_left, none_at, none_left}
use Rattle.mpl_types.specs.Internal.Arguments.{Known, first_agrees, with_others}
use Rattle.mpl_types.specs.Internal.Expressions.{call_with, expr_least, exprs_least, formals_called, formals_of_function}
use Rattle.mpl_types.specs.Internal.Least.{earlier, noted}
use Rattle.mpl_types.specs.Internal.Seen.{failure_of}
use Rattle.mpl_types.specs.declared.arguments.Arguments.{Arguments}
use Rattle.mpl_types.proofs.LeastLemmas.{earlier_assoc, earlier_none}

abbrev known : Bool → Bool → Option Failure → Known
known u a f = record { untyped = u; agrees = a; failure = f }

same_known : (u v a b : Bool) (f g : Option Failure) → u ≡ v → a ≡ b → f ≡ g → known u a f ≡ known v b g
same_known u v a b f g h k l = ap (λ u. known u a f) h ∙ ap₂ (known v) k l

or_assoc : (a b c : Bool) → ((a || b) || c) ≡ (a || (b || c))
or_assoc true b c = refl
or_assoc false b c = refl

and_assoc : (a b c : Bool) → ((a && b) && c) ≡ (a && (b && c))
and_assoc true b c = refl
and_assoc false b c = refl

or_false : (a : Bool) → (a || false) ≡ a
or_false true = refl
or_false false = refl

and_true : (a : Bool) → (a && true) ≡ a
and_true true = refl
and_true false = refl

none_left_to_agree : (ts : List (Option ValueType)) → all_agree ts [] ≡ true
none_left_to_agree [] = refl
none_left_to_agree (t ∷ ts) = refl

first_and_rest : (t : Option ValueType) (ts fs : List (Option ValueType)) → (first_agrees t fs && all_agree ts (drop 1 fs)) ≡ all_agree (t ∷ ts) fs
first_and_rest t ts [] = none_left_to_agree ts
first_and_rest t ts (f ∷ fs) = refl

next_formal : (i : ℕ) (fs : List (Option ValueType)) → drop (i + 1) fs ≡ drop 1 (drop i fs)
next_formal i fs = sym (drop-drop 1 i fs)

abbrev pub none_untyped : Arguments
none_untyped = record { has_untyped = false; agrees = true; failure = None }

module _ {X : Type 0} (f : X → Expr) (environment : Environment) (xs : List X) (fs : List (Option ValueType)) where
  abbrev types : List X → List (Option ValueType)
  types ys = types_of environment (listed (map f ys))

  abbrev least : List X → Option Failure
  least ys = exprs_least environment (listed (map f ys))

  -- what is known of all, at a place
  abbrev pub at_place : Arguments → ℕ → Known
  at_place so_far i = with_others so_far (types (drop i xs)) (drop i fs) (least (drop i xs))

  one_step : (i : ℕ) (x : X) (ys : List X) → drop i xs ≡ x ∷ ys → (a b : Arguments)
      → b.has_untyped ≡ (a.has_untyped || is_none (type_of environment (f x)))
      → b.agrees ≡ (a.agrees && first_agrees (type_of environment (f x)) (drop i fs))
      → failure_of b.failure ≡ earlier (failure_of a.failure) (expr_least environment (f x))
      → with_others b (types ys) (drop (i + 1) fs) (least ys) ≡ at_place a i
  one_step i x ys next a b untyped agrees failure =
      same_known _ (a.has_untyped || list_any is_none (types (x ∷ ys))) _ (a.agrees && all_agree (types (x ∷ ys)) (drop i fs)) _ (earlier (failure_of a.failure) (least (x ∷ ys)))
      (ap (λ u. u || list_any is_none (types ys)) untyped ∙ or_assoc a.has_untyped (is_none (type_of environment (f x))) (list_any is_none (types ys)))
      (ap₂ (λ g gs. g && all_agree (types ys) gs) agrees (next_formal i fs)
      ∙ and_assoc a.agrees (first_agrees (type_of environment (f x)) (drop i fs)) (all_agree (types ys) (drop 1 (drop i fs)))
      ∙ ap (λ g. a.agrees && g) (first_and_rest (type_of environment (f x)) (types ys) (drop i fs)))
      (ap (λ l. earlier l (least ys)) failure ∙ earlier_assoc (failure_of a.failure) (expr_least environment (f x)) (least ys))
      ∙ ap (λ zs. with_others a (types zs) (drop i fs) (least zs)) (sym next)

  pub known_step : (i : ℕ) (x : X) → i < length xs → x ≡ get_or xs i x → (a b : Arguments) (v : Option ValueType) (l : Option Failure)
      → v ≡ type_of environment (f x) → l ≡ expr_least environment (f x)
      → b.has_untyped ≡ (a.has_untyped || is_none v) → b.agrees ≡ (a.agrees && first_agrees v (drop i fs)) → failure_of b.failure ≡ earlier (failure_of a.failure) l
      → at_place a i ≡ at_place none_untyped 0 → at_place b (i + 1) ≡ at_place none_untyped 0
  known_step i x within is a b v l typed least untyped agrees failure before =
      one_step i x (drop (i + 1) xs) (next_left xs i x within is) a b
      (untyped ∙ ap (λ v. a.has_untyped || is_none v) typed)
      (agrees ∙ ap (λ v. a.agrees && first_agrees v (drop i fs)) typed)
      (failure ∙ ap (earlier (failure_of a.failure)) least)
      ∙ before

  at_end : (i : ℕ) → length xs ≤ i → (a : Arguments) → known a.has_untyped a.agrees (failure_of a.failure) ≡ at_place a i
  at_end i past a =
      sym (same_known _ a.has_untyped _ a.agrees _ (failure_of a.failure) (or_false a.has_untyped) (and_true a.agrees) (earlier_none (failure_of a.failure)))
      ∙ ap (λ zs. with_others a (types zs) (drop i fs) (least zs)) (sym (none_left xs i past))

  pub known_all : (i : ℕ) → length xs ≤ i → (a : Arguments) → at_place a i ≡ at_place none_untyped 0
      → known a.has_untyped a.agrees (failure_of a.failure) ≡ known (list_any is_none (types xs)) (all_agree (types xs) fs) (least xs)
  known_all i past a before = at_end i past a ∙ before

  as_many : (ys : List X) → length (types ys) ≡ length ys
  as_many [] = refl
  as_many (y ∷ ys) = ap suc (as_many ys)

  pub agree_at_end : (i n : ℕ) → length xs ≤ i → (a : Arguments) (b : Bool) → n ≡ length fs → b ≡ ((length xs == n) && (a.has_untyped || a.agrees)) → at_place a i ≡ at_place none_untyped 0
      → b ≡ arguments_agree (types xs) fs
  agree_at_end i n past a b few is before =
      is ∙ ap₂ (λ x y. (x == y) && (a.has_untyped || a.agrees)) (sym (as_many xs)) few
      ∙ ap (λ (k : Known). (length (types xs) == length fs) && (k.untyped || k.agrees)) (known_all i past a before)

  pub least_at_end : (i : ℕ) → length xs ≤ i → (a : Arguments) → at_place a i ≡ at_place none_untyped 0 → failure_of a.failure ≡ least xs
  least_at_end i past a before = ap (λ (k : Known). k.failure) (known_all i past a before)

pub as_many_types : (ds : List Declaration) (formals : List Formal) → length formals ≡ length (formal_types ds formals)
as_many_types ds [] = refl
as_many_types ds (formal ∷ formals) = ap suc (as_many_types ds formals)

-- ---- calls of members

pub takes : (ds : List Declaration) (m : Option Member) (ts : List (Option ValueType)) → (is_none m || arguments_agree ts (formal_types ds (formals_called m))) ≡ member_takes ds m ts
takes ds None ts = refl
takes ds (Some m) ts = refl

-- a call, from what is known of its parts
pub called_is : (at : ℕ) (ds : List Declaration) (m n : Option Member) (can may : Bool) (f g a : Option Failure) (agrees : Bool) (ts : List (Option ValueType)) (b : Option Failure)
    → m ≡ n → can ≡ may → f ≡ g → agrees ≡ arguments_agree ts (formal_types ds (formals_called m)) → a ≡ b
    → call_with at m can f agrees a ≡ earlier (noted at 19 (may && member_takes ds n ts) g) b
called_is at ds m n can may f g a agrees ts b same able of_callee matched of_arguments =
    ap₂ earlier
    (ap₂ (noted at 19) (ap₂ (λ x y. x && y) able (ap (λ y. is_none m || y) matched ∙ takes ds m ts ∙ ap (λ k. member_takes ds k ts) same)) of_callee)
    of_arguments

-- ---- plain calls

pub function_takes_is : (ds : List Declaration) (m : Option Function) (ts : List (Option ValueType)) → (is_none m || arguments_agree ts (formal_types ds (formals_of_function m))) ≡ function_takes ds m ts
function_takes_is ds None ts = refl
function_takes_is ds (Some m) ts = refl

-- a plain call, from what is known of its parts
pub plain_is : (at from : ℕ) (ds : List Declaration) (m n : Option Function) (agrees : Bool) (ts : List (Option ValueType)) (a b : Option Failure)
    → m ≡ n → agrees ≡ arguments_agree ts (formal_types ds (formals_of_function m)) → a ≡ b
    → noted from 1 (is_some m) (noted at 18 (is_none m || agrees) a) ≡ noted from 1 (is_some n) (noted at 18 (function_takes ds n ts) b)
plain_is at from ds m n agrees ts a b same matched of_arguments =
    ap₂ (noted from 1) (ap is_some same)
    (ap₂ (noted at 18) (ap (λ y. is_none m || y) matched ∙ function_takes_is ds m ts ∙ ap (λ k. function_takes ds k ts) same) of_arguments)

-- ---- the formal at a place

abbrev formal_type : List Declaration → Formal → Option ValueType
formal_type ds formal = value_type AsFormal (meant ds formal.type_name)

pub first_is : (ds : List Declaration) (formals : List Formal) (place : ℕ) (formal : Formal) (v : Option ValueType) → Some formal ≡ slice_get formals place
    → agree v (formal_type ds formal) ≡ first_agrees v (drop place (formal_types ds formals))
first_is ds formals place formal v found =
    ap (first_agrees v) (sym (drop-map (formal_type ds) place formals ∙ ap (map (formal_type ds)) (left_at formals place formal found)))

pub none_is : (ds : List Declaration) (formals : List Formal) (place : ℕ) (v : Option ValueType) → None ≡ slice_get formals place
    → true ≡ first_agrees v (drop place (formal_types ds formals))
none_is ds formals place v missing =
    ap (first_agrees v) (sym (drop-map (formal_type ds) place formals ∙ ap (map (formal_type ds)) (none_at formals place missing)))
