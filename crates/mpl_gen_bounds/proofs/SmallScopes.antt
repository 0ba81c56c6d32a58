-- What the names of a body stand for has few words.
use Rattle.std.proofs.Common.{◌≡◌, ◌≤◌, ℕ, ◌+◌, Bool, true, false, List, [], ◌∷◌, ◌++◌, Option, Some, None, if◌then◌else◌, sym, subst, arith}
use Rattle.std.specs.Str.{bytes_eq}
use Rattle.mpl_ast.specs.declared.class.ResultType.{ResultType}
use Rattle.mpl_ast.specs.declared.class.ResultType.TheVariants.{Void, Typed}
use Rattle.mpl_ast.specs.declared.expression.Target.{Target}
use Rattle.mpl_ast.specs.declared.expression.Target.TheVariants as target
use Rattle.mpl_ast.specs.declared.program.Declaration.{Declaration}
use Rattle.mpl_ast.specs.declared.statement.TypeName.{TypeName}
use Rattle.mpl_mean.specs.Laws.Sizes.{Every, words_of_result}
use Rattle.mpl_mean.specs.Meaning.CallMeaning.{MayName}
use Rattle.mpl_mean.specs.Meaning.Layout.{Class, Function, Member, Part, function_named, member_named, part_named, parts_of_type, words_of}
use Rattle.mpl_mean.specs.Plain.Expr.{Expr}
use Rattle.mpl_mean.specs.Plain.Expr as e
use Rattle.mpl_gen_code.specs.Scopes.{Env, Finish, OfBody, OfFunction, Found, Slot, class_found, found_at, found_field, found_name, found_part, slot_named, whole_slot, words_of_shape}
use Rattle.mpl_gen_code.specs.Words.{member_in, words_of_expr, words_of_found, words_of_function, words_of_member}

abbrev pub IfAny : {A : Type 0} → (A → Type 0) → Option A → Type 0
IfAny P None = Unit {0}
IfAny P (Some x) = P x

abbrev pub IsFew : ℕ → Type 0
IsFew n = n ≤ 1024

abbrev pub PartSmall : Part → Type 0
PartSmall part = (part.offset ≤ 256) × (part.words ≤ 256)

abbrev pub FinishSmall : Finish → Type 0
FinishSmall (OfBody line) = Unit {0}
FinishSmall (OfFunction words line) = words ≤ 256

-- the values of each type have few words
pub record Sized (ds : List Declaration) : Type 0 where
  pub words : (t : TypeName) → words_of ds t None ≤ 256
  pub parts : (t : TypeName) → Every PartSmall (parts_of_type ds t)

module _ (ds : List Declaration) (sized : Sized ds) (limit : ℕ) where
  abbrev pub SlotSmall : Slot → Type 0
  SlotSmall slot = (slot.number ≤ limit) × (words_of_shape ds slot.shape ≤ 1024)

  -- the variables so far, those in scope, and the state
  pub record Small (env : Env) : Type 0 where
    pub declarations : env.declarations ≡ ds
    pub scope : Every SlotSmall env.scope
    pub parts : Every PartSmall env.parts
    pub sizes : Every IsFew env.sizes
    pub finish : FinishSmall env.finish

  abbrev pub NumberSmall : Slot → Type 0
  NumberSmall slot = slot.number ≤ limit

  abbrev pub FoundSmall : Found → Type 0
  FoundSmall found = (found.offset ≤ 512) × (found.words ≤ 1024) × IfAny NumberSmall found.slot

  -- ---- look-up

  chosen : {A : Type 0} (P : A → Type 0) (b : Bool) (x : A) (o : Option A) → P x → IfAny P o → IfAny P (if b then Some x else o)
  chosen P true x o h k = h
  chosen P false x o h k = k

  part_small : (name : List ℕ) (parts : List Part) → Every PartSmall parts → IfAny PartSmall (part_named name parts)
  part_small name [] h = tt
  part_small name (part ∷ parts) h = chosen PartSmall (bytes_eq part.name name) part (part_named name parts) h.0 (part_small name parts h.1)

  slot_small : (name : List ℕ) (slots : List Slot) → Every SlotSmall slots → IfAny SlotSmall (slot_named name slots)
  slot_small name [] h = tt
  slot_small name (slot ∷ slots) h = chosen SlotSmall (bytes_eq slot.shape.name name) slot (slot_named name slots) h.0 (slot_small name slots h.1)

  numbered : (o : Option Slot) → IfAny SlotSmall o → IfAny NumberSmall o
  numbered None h = tt
  numbered (Some slot) h = h.0

  pub whole_small : (env : Env) (name : MayName) → Small env → IfAny NumberSmall (whole_slot env name)
  whole_small env None small = tt
  whole_small env (Some name) small = numbered (slot_named name env.scope) (slot_small name env.scope small.scope)

  found_part_small : (slot : Option Slot) (offset : ℕ) (part : Option Part) → IfAny NumberSmall slot → offset ≤ 256 → IfAny PartSmall part → IfAny FoundSmall (found_part slot offset part)
  found_part_small slot offset None h le k = tt
  found_part_small slot offset (Some part) h le k = (omega (arith, le, k.0), omega (arith, k.1), h)

  -- a name stands at the beginning of a variable, or for a part of the state
  abbrev NameSmall : Found → Type 0
  NameSmall found = (found.offset ≤ 256) × (found.words ≤ 1024) × IfAny NumberSmall found.slot

  name_small : (env : Env) (slot : Option Slot) (name : List ℕ) → Small env → IfAny SlotSmall slot → IfAny NameSmall (found_name env slot name)
  name_small env (Some slot) name small h = (omega arith, subst (λ ds. words_of_shape ds slot.shape ≤ 1024) (sym small.declarations) h.1, h.0)
  name_small env None name small h = by_part (part_named name env.parts) (part_small name env.parts small.parts) where
    by_part : (part : Option Part) → IfAny PartSmall part → IfAny NameSmall (found_part None 0 part)
    by_part None h = tt
    by_part (Some part) h = (omega (arith, h.0), omega (arith, h.1), tt)

  wider : (o : Option Found) → IfAny NameSmall o → IfAny FoundSmall o
  wider None h = tt
  wider (Some found) h = (omega (arith, h.0), h.1, h.2)

  field_small : (env : Env) (field : List ℕ) (o : Option Found) → Small env → IfAny NameSmall o → IfAny FoundSmall (found_field env field o)
  field_small env field None small h = tt
  field_small env field (Some found) small h =
      found_part_small found.slot found.offset (part_named field (parts_of_type env.declarations found.type)) h.2 h.0
      (subst (λ ds. IfAny PartSmall (part_named field (parts_of_type ds found.type))) (sym small.declarations) (part_small field (parts_of_type ds found.type) (sized.parts found.type)))

  pub place_small : (env : Env) (t : Target) → Small env → IfAny FoundSmall (found_at env t)
  place_small env (target.Variable at variable) small =
      wider (found_name env (slot_named variable.text env.scope) variable.text)
      (name_small env (slot_named variable.text env.scope) variable.text small (slot_small variable.text env.scope small.scope))
  place_small env (target.Field at variable field) small =
      field_small env field.text (found_name env (slot_named variable.text env.scope) variable.text) small
      (name_small env (slot_named variable.text env.scope) variable.text small (slot_small variable.text env.scope small.scope))

  -- ---- words of values

  pub found_words : (o : Option Found) → IfAny FoundSmall o → words_of_found o ≤ 1024
  found_words None h = omega arith
  found_words (Some found) h = h.1

  function_words : (o : Option Function) → words_of_function ds o ≤ 1024
  function_words None = omega arith
  function_words (Some f) = let few = sized.words f.result in omega (arith, few)

  result_words : (r : ResultType) → words_of_result ds r ≤ 1024
  result_words (Void at) = omega arith
  result_words (Typed at type) = let few = sized.words type in omega (arith, few)

  member_words : (o : Option Member) → words_of_member ds o ≤ 1024
  member_words None = omega arith
  member_words (Some m) = result_words m.result

  pub words_small : (env : Env) (expr : Expr) → Small env → words_of_expr env expr ≤ 1024
  words_small env (e.Number at value) small = omega arith
  words_small env (e.Truth at value) small = omega arith
  words_small env (e.Own at) small = omega arith
  words_small env (e.Input at) small = omega arith
  words_small env (e.Whole at target) small = found_words (found_at env target) (place_small env target small)
  words_small env (e.Element at line target index) small = omega arith
  words_small env (e.PlainCall at function arguments) small =
      subst (λ ds. words_of_function ds (function_named function.text ds) ≤ 1024) (sym small.declarations) (function_words (function_named function.text ds))
  words_small env (e.Parenthesized at inner) small = words_small env inner small
  words_small env (e.Unary at line operator operand) small = omega arith
  words_small env (e.Binary at line operator left right) small = omega arith
  words_small env (e.CallOnOwn at member arguments) small =
      subst (λ ds. words_of_member ds (member_named member.text env.members) ≤ 1024) (sym small.declarations) (member_words (member_named member.text env.members))
  words_small env (e.CallOnTarget at target member arguments) small =
      subst (λ ds. words_of_member ds (member_in (class_found env (found_at env target)) member.text) ≤ 1024) (sym small.declarations) (member_words (member_in (class_found env (found_at env target)) member.text))
