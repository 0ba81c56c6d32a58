-- What a step has become of, by its instruction.
use Rattle.std.proofs.Common.{◌≡◌, ◌<◌, ◌+◌, ℕ, ℤ, List, [], ◌∷◌, ◌++◌, length, Bool, true, if◌then◌else◌, None, Some, Option, Result, Ok, Err, refl, ap, sym, subst, ◌∙◌}
use Rattle.std.proofs.lemmas.Bool.{lt-ltb}
use Rattle.std.specs.Prelude.{IfOk, MatchOption}
use Rattle.mpl_value.specs.declared.body.Arg.{Arg}
use Rattle.mpl_value.specs.declared.body.BodyEnd.TheVariants as end
use Rattle.mpl_value.specs.declared.body.CallMade.{CallMade}
use Rattle.mpl_value.specs.declared.body.Yield.{Yield}
use Rattle.mpl_value.specs.declared.memory.NoMemory.{NoMemory}
use Rattle.mpl_body_code.specs.Machine.{Item, Machine, Next, Goes, Stops, Setting}
use Rattle.mpl_body_code.specs.Steps.{calls_object, onward, performs, replies, step, stops, with_call}
use Rattle.mpl_body_code.specs.declared.instruction.Instruction.{Instruction}
use Rattle.mpl_body_run.specs.Seen.{Came}
use Rattle.mpl_body_run.specs.declared.leaves.Leaves.{Leaves}

pub performing : (S : Setting) (x z : Machine) (r : Result (Unit {0}) Leaves) {i j : Instruction} → i ≡ j → Came (performs S j x) z r → Came (performs S i x) z r
performing S x z r is came = subst (λ i. Came (performs S i x) z r) (sym is) came

-- what is said of every next one holds of the one that came
pub of_next : (r : Result (Option Yield) NoMemory) (next : Next) (P : Next → Type 0) (Q : Next → Option Yield → Type 0)
    → IfOk r (λ y. (next : Next) → P next → Q next y) → P next → IfOk r (λ y. Q next y)
of_next (Ok y) next P Q h came = h next came
of_next (Err e) next P Q h came = h

pub stopped_by : (S : Setting) (x z : Machine) (o : Option Yield) (y : Yield) → o ≡ Some y → MatchOption o (step S x ≡ Goes z) (λ y. step S x ≡ Stops y) → step S x ≡ Stops y
stopped_by S x z o y is h = subst (λ (o : Option Yield). MatchOption o (step S x ≡ Goes z) (λ y. step S x ≡ Stops y)) is h

pub goes_by : (S : Setting) (x z : Machine) (o : Option Yield) → o ≡ None → MatchOption o (step S x ≡ Goes z) (λ y. step S x ≡ Stops y) → step S x ≡ Goes z
goes_by S x z o is h = subst (λ (o : Option Yield). MatchOption o (step S x ≡ Goes z) (λ y. step S x ≡ Stops y)) is h

-- ---- a call on an object

if_true : {A : Type 0} {b : Bool} (x y : A) → b ≡ true → (if b then x else y) ≡ x
if_true x y e = subst (λ b. (if b then x else y) ≡ x) (sym e) refl

abbrev pub turned : Machine → Machine
turned x = record x { turns = x.turns + 1 }

abbrev pub with_calls : Machine → List CallMade → Machine
with_calls x calls = record x { body = record x.body { calls = calls } }

abbrev pub call_made : ℕ → ℤ → ℕ → List Arg → CallMade
call_made call object member args = record { call = call; object = object; member = record { 0 = member }; args = args }

-- what the call is written down as, and what answers it
pub called : (S : Setting) (x z : Machine) (r : Result (Unit {0}) Leaves) (member : ℕ) (arguments : List Arg) (object : ℤ) (below : List Item) (item : Item) (call : ℕ) (args : List Arg) (calls : List CallMade)
    → x.turns < S.turns → call ≡ length x.body.calls + 1 → args ≡ arguments → calls ≡ x.body.calls ++ call_made call object member args ∷ []
    → ((y : Machine) (below : List Item) → y.body.answered ≡ x.body.answered → replies S y call arguments below ≡ onward y (item ∷ below))
    → Came (onward (with_calls (turned x) calls) (item ∷ below)) z r → Came (calls_object S x member arguments object below) z r
called S x z r member arguments object below item call args calls less numbered same made answered came =
    let made_so : calls ≡ x.body.calls ++ call_made (length x.body.calls + 1) object member arguments ∷ [] =
    made ∙ ap (λ args. x.body.calls ++ call_made call object member args ∷ []) same ∙ ap (λ n. x.body.calls ++ call_made n object member arguments ∷ []) numbered in
    let y : Machine = with_call (turned x) object member arguments in
    let answers : replies S y (length x.body.calls + 1) arguments below ≡ onward y (item ∷ below) =
    ap (λ n. replies S y n arguments below) (sym numbered) ∙ answered y below refl in
    let spent : calls_object S x member arguments object below ≡ replies S y (length x.body.calls + 1) arguments below =
    if_true (replies S y (length x.body.calls + 1) arguments below) (stops end.Spent (turned x)) (lt-ltb x.turns S.turns less) in
    subst (λ (next : Next). Came next z r) (sym (spent ∙ answers)) (subst (λ calls. Came (onward (with_calls (turned x) calls) (item ∷ below)) z r) made_so came)
