-- What statements do to the variables, and to what they hold.
use Rattle.std.proofs.Common.{◌≡◌, ◌<◌, ℕ, zero, suc, ◌+◌, ◌-◌, Bool, true, false, List, [], ◌∷◌, ◌++◌, length, drop, Option, Some, None, if◌then◌else◌, refl, ap, ap₂, sym, arith, ◌∙◌}
use Rattle.std.proofs.lemmas.Bool.{eq-eqb, ne_eqb}
use Rattle.std.proofs.lemmas.Slice.Eq.{bytes_eq-Decides}
use Rattle.std.proofs.lemmas.List.{length-append}
use Rattle.std.specs.Prelude.{nat_eq}
use Rattle.std.specs.Str.{bytes_eq}
use Rattle.mpl_ast.specs.declared.expression.Target.{Target}
use Rattle.mpl_ast.specs.declared.expression.Target.TheVariants as target
use Rattle.mpl_value.specs.declared.body.Arg.{Arg}
use Rattle.mpl_mean.specs.Meaning.Layout.{Part}
use Rattle.mpl_mean.specs.Meaning.Store.{Store, Outcome, Goes, Returns, Ends, holding, oldest, only_oldest}
use Rattle.mpl_mean.proofs.Truth.{some_is}
use Rattle.mpl_body_code.specs.Machine.{put_held}
use Rattle.mpl_mean.specs.Plain.Scopes.{Env, Found, Shape, Slot, found_at, found_field, found_name, found_part, slot_named}
use Rattle.mpl_body_code.proofs.Reaching.{Comes, Run}
use Rattle.mpl_body_code.proofs.Scoped.{Stands, if_false, if_true, slot_below, variable_of, variables_of}

-- a variable that a name of the scope stands for
pub record IsSlot (scope : List Shape) (slot : Slot) : Type 0 where
  pub name : List ℕ
  pub named : slot_named name scope ≡ Some slot

-- ---- names

same_name : (a b : List ℕ) → bytes_eq a b ≡ true → a ≡ b
same_name a b = (bytes_eq-Decides a b).0

-- ---- what a variable holds is put in its place

put_length : (n : ℕ) (a : Arg) (slots : List Arg) → length (put_held n a slots) ≡ length slots
put_length n a [] = refl
put_length n a (holds ∷ older) = chosen (nat_eq n (length older)) (put_length n a older) where
  chosen : (b : Bool) → length (put_held n a older) ≡ length older → length (if b then a ∷ older else holds ∷ put_held n a older) ≡ suc (length older)
  chosen true e = refl
  chosen false e = ap suc e

put_here : (n : ℕ) (a holds : Arg) (older : List Arg) → n ≡ length older → put_held n a (holds ∷ older) ≡ a ∷ older
put_here n a holds older e = if_true (a ∷ older) (holds ∷ put_held n a older) (eq-eqb n (length older) e)

put_below : (n : ℕ) (a holds : Arg) (older : List Arg) → n < length older → put_held n a (holds ∷ older) ≡ holds ∷ put_held n a older
put_below n a holds older h = if_false (a ∷ older) (holds ∷ put_held n a older) (ne_eqb n (length older) (λ e. absurd (let e' : n ≡ length older = e in omega arith)))

-- the slot of a name is the newest of that name, and else one of the older ones
either_slot : (P : Type 0) (b : Bool) (shape : Shape) (older : List Shape) (slot : Slot) (other : Option Slot)
    → (if b then Some (record { number = length older; shape = shape }) else other) ≡ Some slot
    → (b ≡ true → slot ≡ record { number = length older; shape = shape } → P) → (b ≡ false → other ≡ Some slot → P) → P
either_slot P true shape older slot other e here there = here refl (sym (some_is e))
either_slot P false shape older slot other e here there = there refl e

slot_has_name : (name : List ℕ) (scope : List Shape) (slot : Slot) → slot_named name scope ≡ Some slot → slot.shape.name ≡ name
slot_has_name name [] slot e = absurd cc
slot_has_name name (shape ∷ scope) slot e =
    either_slot (slot.shape.name ≡ name) (bytes_eq shape.name name) shape scope slot (slot_named name scope) e
    (λ b is. ap (λ (slot : Slot). slot.shape.name) is ∙ same_name shape.name name b) (λ b rest. slot_has_name name scope slot rest)

put_named : (name : List ℕ) (a : Arg) (scope : List Shape) (slots : List Arg) (slot : Slot) → length scope ≡ length slots → slot_named name scope ≡ Some slot
    → holding name a (variables_of scope slots) ≡ variables_of scope (put_held slot.number a slots)
put_named name a [] slots slot e is = absurd cc
put_named name a (shape ∷ scope) [] slot e is = absurd (let e' : suc (length scope) ≡ zero = e in omega arith)
put_named name a (shape ∷ scope) (holds ∷ slots) slot e is =
    let sized : length scope ≡ length slots = let e' : suc (length scope) ≡ suc (length slots) = e in omega arith in
    either_slot (holding name a (variables_of (shape ∷ scope) (holds ∷ slots)) ≡ variables_of (shape ∷ scope) (put_held slot.number a (holds ∷ slots)))
    (bytes_eq shape.name name) shape scope slot (slot_named name scope) is
    (λ b this. if_true (variable_of shape a ∷ variables_of scope slots) (variable_of shape holds ∷ holding name a (variables_of scope slots)) b
    ∙ ap (variables_of (shape ∷ scope)) (sym (put_here slot.number a holds slots (ap Slot.number this ∙ sized))))
    (λ b rest. if_false (variable_of shape a ∷ variables_of scope slots) (variable_of shape holds ∷ holding name a (variables_of scope slots)) b
    ∙ ap (λ vs. variable_of shape holds ∷ vs) (put_named name a scope slots slot sized rest)
    ∙ ap (variables_of (shape ∷ scope)) (sym (put_below slot.number a holds slots (let below = slot_below name scope slot rest in omega arith))))

pub held_stands : (K : Run) (scope : List Shape) (slots : List Arg) (s : Store) (slot : Slot) (a : Arg) → IsSlot scope slot → Stands K scope slots s
    → Stands K scope (put_held slot.number a slots) (record s { variables = holding slot.shape.name a s.variables })
held_stands K scope slots s slot a is stands = record {
  agree = ap₂ (λ name vs. holding name a vs) (slot_has_name is.name scope slot is.named) stands.agree ∙ put_named is.name a scope slots slot stands.sized is.named;
  sized = stands.sized ∙ sym (put_length slot.number a slots);
  low = stands.low;
  within = stands.within;
}

-- ---- which variable a place is of

part_slot : (slot : Option Slot) (offset : ℕ) (part : Option Part) (found : Found) → found_part slot offset part ≡ Some found → found.slot ≡ slot
part_slot slot offset None found e = absurd cc
part_slot slot offset (Some part) found e = sym (ap Found.slot (some_is e))

name_slot : (env : Env) (slot : Option Slot) (name : List ℕ) (found : Found) → found_name env slot name ≡ Some found → found.slot ≡ slot
name_slot env (Some slot) name found e = sym (ap Found.slot (some_is e))
name_slot env None name found e = part_slot None 0 _ found e

field_slot : (env : Env) (field : List ℕ) (outer : Option Found) (slot : Option Slot) (found : Found) → ((o : Found) → outer ≡ Some o → o.slot ≡ slot)
    → found_field env field outer ≡ Some found → found.slot ≡ slot
field_slot env field None slot found h e = absurd cc
field_slot env field (Some o) slot found h e = part_slot o.slot o.offset _ found e ∙ h o refl

pub slot_is : (env : Env) (t : Target) (found : Found) (slot : Slot) → found_at env t ≡ Some found → found.slot ≡ Some slot → IsSlot env.scope slot
slot_is env (target.Variable at variable) found slot e is =
    record { name = variable.text; named = sym (name_slot env (slot_named variable.text env.scope) variable.text found e) ∙ is }
slot_is env (target.Field at variable field) found slot e is =
    record { name = variable.text; named = sym (field_slot env field.text _ (slot_named variable.text env.scope) found (name_slot env (slot_named variable.text env.scope) variable.text) e) ∙ is }

-- ---- the end of a scope

variables_length : (scope : List Shape) (slots : List Arg) → length scope ≡ length slots → length (variables_of scope slots) ≡ length scope
variables_length [] slots e = refl
variables_length (shape ∷ scope) [] e = absurd (let e' : suc (length scope) ≡ zero = e in omega arith)
variables_length (shape ∷ scope) (holds ∷ slots) e = ap suc (variables_length scope slots (let e' : suc (length scope) ≡ suc (length slots) = e in omega arith))

variables_dropped : (newer scope : List Shape) (slots : List Arg) → length (newer ++ scope) ≡ length slots
    → (drop (length newer) (variables_of (newer ++ scope) slots) ≡ variables_of scope (drop (length newer) slots)) × (length scope ≡ length (drop (length newer) slots))
variables_dropped [] scope slots e = (refl, e)
variables_dropped (shape ∷ newer) scope [] e = absurd (let e' : suc (length (newer ++ scope)) ≡ zero = e in omega arith)
variables_dropped (shape ∷ newer) scope (holds ∷ slots) e = variables_dropped newer scope slots (let e' : suc (length (newer ++ scope)) ≡ suc (length slots) = e in omega arith)

pub scope_left : (K : Run) (newer scope : List Shape) (slots later : List Arg) (s t : Store) → Stands K scope slots s → Stands K (newer ++ scope) later t
    → Stands K scope (drop (length later - length scope) later) (record t { variables = oldest (length s.variables) t.variables })
scope_left K newer scope slots later s t before after =
    let count : length later - length scope ≡ length newer =
    (let a : length newer + length scope ≡ length later = sym (length-append newer scope) ∙ after.sized in omega arith) in
    let n : length t.variables - length s.variables ≡ length newer =
    (let a : length t.variables ≡ length newer + length scope = ap length after.agree ∙ variables_length (newer ++ scope) later after.sized ∙ length-append newer scope in
    let b : length s.variables ≡ length scope = ap length before.agree ∙ variables_length scope slots before.sized in omega arith) in
    let left = variables_dropped newer scope later after.sized in
    record {
      agree = ap₂ drop n after.agree ∙ left.0 ∙ ap (λ k. variables_of scope (drop k later)) (sym count);
      sized = left.1 ∙ ap (λ k. length (drop k later)) (sym count);
      low = after.low;
      within = after.within;
    }

pub oldest_comes : {A : Type 0} (K : Run) (Q : A → Store → Type 0) (count : ℕ) (o : Outcome A) → Comes K Q (only_oldest count o)
    → Comes K (λ a t. Q a (record t { variables = oldest count t.variables })) o
oldest_comes K Q count (Goes a t) h = h
oldest_comes K Q count (Returns words t) h = h
oldest_comes K Q count (Ends e t) h = h
