-- What a machine comes to, from what its next steps come to.
use Rattle.std.proofs.Common.{◌≡◌, ◌≢◌, ◌≤◌, ℕ, zero, suc, ◌+◌, Bool, List, [], ◌∷◌, ◌++◌, length, Some, ℤ, refl, ap, sym, subst, arith, ◌∙◌}
use Rattle.std.specs.Prelude.{slice_get}
use Rattle.mpl_value.specs.declared.body.Arg.{Arg}
use Rattle.mpl_value.specs.declared.body.BodyEnd.TheVariants as end
use Rattle.mpl_value.specs.declared.body.Yield.{Yield}
use Rattle.mpl_mean.specs.Meaning.Store.{Store, Outcome, Goes, Returns, Ends, Step, and_then}
use Rattle.mpl_body_code.specs.Machine.{Item, Body, Caller, Machine, Setting, Next, ended, returned}
use Rattle.mpl_body_code.specs.Machine as machine
use Rattle.mpl_body_code.specs.Steps.{exec, followed, performs, performs_if, step}
use Rattle.mpl_body_code.specs.Codes.{Code, From}
use Rattle.mpl_body_code.specs.declared.instruction.Finish.{Finish}
use Rattle.mpl_body_code.specs.declared.instruction.Instruction.{Instruction}

abbrev pub Reaches : Setting → Yield → Machine → Type 0
Reaches S y x = (steps : ℕ) × (exec steps S x ≡ Some y)

abbrev pub Leads : Setting → Yield → Next → Type 0
Leads S y (machine.Goes x) = Reaches S y x
Leads S y (machine.Stops z) = z ≡ y

pub takes_step : (S : Setting) (y : Yield) (x : Machine) → Leads S y (step S x) → Reaches S y x
takes_step S y x h = by_next (step S x) refl h where
  by_next : (next : Next) → step S x ≡ next → Leads S y next → Reaches S y x
  by_next (machine.Goes z) is h = (suc h.0, ap (followed (exec h.0 S)) is ∙ h.1)
  by_next (machine.Stops z) is h = (suc zero, ap (followed (exec zero S)) is ∙ ap Some h)

-- the instruction that stands at its place
pub performing : (S : Setting) (y : Yield) (x : Machine) (i : Instruction) → slice_get S.image.code x.frame.place ≡ Some i → Leads S y (performs S i x) → Reaches S y x
performing S y x i is h = takes_step S y x (subst (λ o. Leads S y (performs_if S o x)) (sym is) h)

-- ---- a body that runs, by what the meaning has of it

-- what stays while a frame runs
pub record Around : Type 0 where
  pub object : ℤ
  pub number : ℕ
  pub finish : Finish
  pub callers : List Caller

-- a run of a frame, from so many turns on
pub record Run : Type 0 where
  pub setting : Setting
  pub yield : Yield
  pub answered : Bool
  pub around : Around
  pub low : ℕ

abbrev pub body_at : Bool → Around → Store → Body
body_at answered w s = record {
  state = s.state;
  lines = s.lines;
  input = s.input;
  calls = s.calls;
  creations = s.creations;
  result = s.result;
  finish = w.finish;
  answered = answered;
}

abbrev pub running : Run → ℕ → List Item → List Arg → Store → Machine
running K place stack slots s = record {
  frame = record { place = place; stack = stack; slots = slots; object = K.around.object; number = K.around.number };
  body = body_at K.answered K.around s;
  callers = K.around.callers;
  turns = s.turns;
}

abbrev pub Comes : {A : Type 0} → Run → (A → Store → Type 0) → Outcome A → Type 0
Comes K Q (Goes a s) = Q a s
Comes K Q (Returns words s) = K.low ≤ s.turns → s.turns ≤ K.setting.turns
    → Leads K.setting K.yield (returned words K.around.callers (body_at K.answered K.around s) s.turns)
Comes K Q (Ends e s) = K.low ≤ s.turns → (e ≢ end.Spent → s.turns ≤ K.setting.turns)
    → Leads K.setting K.yield (ended K.around.callers e (body_at K.answered K.around s) s.turns)

pub comes_then : {A B : Type 0} (K : Run) (Q : B → Store → Type 0) (o : Outcome A) (h : A → Step B) → Comes K Q (and_then o h) → Comes K (λ a s. Comes K Q (h a s)) o
comes_then K Q (Goes a s) h c = c
comes_then K Q (Returns words s) h c = c
comes_then K Q (Ends e s) h c = c

pub comes_map : {A : Type 0} (K : Run) {P Q : A → Store → Type 0} (o : Outcome A) → ((a : A) (s : Store) → P a s → Q a s) → Comes K P o → Comes K Q o
comes_map K (Goes a s) f c = f a s c
comes_map K (Returns words s) f c = c
comes_map K (Ends e s) f c = c

-- first the one and then the other
pub goes_on : {A B : Type 0} (K : Run) (Q : B → Store → Type 0) (P : A → Store → Type 0) (o : Outcome A) (h : A → Step B)
    → ((a : A) (s : Store) → Comes K Q (h a s) → P a s) → Comes K Q (and_then o h) → Comes K P o
goes_on K Q P o h f c = comes_map K o f (comes_then K Q o h c)

-- ---- the places of code

pub from_parts : (code : Code) (a b : Code) (p q : ℕ) → From code p (a ++ b) q → (m : ℕ) × From code p a m × From code m b q
from_parts code [] b p q h = (p, refl, h)
from_parts code (i ∷ a) b p q h = let rest = from_parts code a b (p + 1) q h.1 in (rest.0, (h.0, rest.1), rest.2)

pub from_length : (code : Code) (a : Code) (p q : ℕ) → From code p a q → q ≡ p + length a
from_length code [] p q h = let e : p ≡ q = h in omega arith
from_length code (i ∷ a) p q h = let e : q ≡ p + 1 + length a = from_length code a (p + 1) q h.1 in let goal : q ≡ p + suc (length a) = omega arith in goal
