-- What is known of the plain functions and the regular members that a body calls in place.
use Rattle.std.proofs.Common.{◌≡◌, ◌≤◌, ℕ, suc, ◌+◌, Bool, true, false, List, [], ◌∷◌, length, Option, Some, None, if◌then◌else◌, ℤ, refl, ap, ap₂, sym, arith, ◌∙◌}
use Rattle.std.specs.List.{slice_get}
use Rattle.std.specs.Prelude.{codes, flat_map}
use Rattle.std.specs.Str.{bytes_eq}
use Rattle.mpl_ast.specs.declared.program.Declaration.{Declaration}
use Rattle.mpl_ast.specs.declared.program.Declaration.TheVariants as declaration
use Rattle.mpl_value.specs.declared.body.Arg.{Arg}
use Rattle.mpl_mean.specs.Laws.InPlace.{ArgumentsHaveWords}
use Rattle.mpl_mean.specs.Laws.Sizes.{words_of_result}
use Rattle.mpl_mean.specs.Meaning.Layout.{Class, Function, Member, formals_of, function_named, words_of}
use Rattle.mpl_mean.specs.Meaning.Store.{Store}
use Rattle.mdf_code.specs.Frames.{Flow}
use Rattle.mdf_code.specs.Sizes.{ArgFits, ResultFits}
use Rattle.mdf_code.specs.Stacks.{pushed}
use Rattle.mdf_code.specs.Yields.{Ended, called_in_place, exec}
use Rattle.mdf_code.specs.declared.instr.Instr.TheVariants as instr
use Rattle.mpl_checked.specs.Checked.CheckedSteps.{CheckedCallees}
use Rattle.mpl_gen_code.specs.ExpressionCode.{PlainFunction, function_number, number_from, plain_functions}
use Rattle.mpl_gen_code.specs.Fits.{FunctionIs, MemberIs}
use Rattle.mpl_gen_code.proofs.Instructions.{At, Is, point}
use Rattle.mpl_gen_code.proofs.Reaching.{Arrives, Comes, Here, Whole, body_at, run_of}

-- ---- numbers of plain functions

-- a function by its number
pub record Numbered (ds : List Declaration) (name : List ℕ) (f : Function) : Type 0 where
  pub number : ℕ
  pub numbered : function_number ds name ≡ Some number
  pub stands : slice_get (plain_functions ds) number ≡ Some (record { name = name; function = f })

same_name : (a b : List ℕ) → bytes_eq a b ≡ true → a ≡ b
same_name a b = (Rattle.std.proofs.lemmas.Slice.Eq.bytes_eq-Decides a b).0

-- counted from a number on
record Counted (functions : List PlainFunction) (from : ℕ) (name : List ℕ) (f : Function) : Type 0 where
  at : ℕ
  numbered : number_from from name functions ≡ Some (from + at)
  stands : slice_get functions at ≡ Some (record { name = name; function = f })

first_of : (b main : Bool) (from : ℕ) (name : List ℕ) (here : PlainFunction) (others : List PlainFunction) (f : Function) (other : Option Function)
    → main ≡ bytes_eq here.name (codes "main") → b ≡ bytes_eq here.name name → bytes_eq name (codes "main") ≡ false
    → (if b then Some here.function else other) ≡ Some f → ((n : ℕ) → other ≡ Some f → Counted others n name f)
    → Counted (if main then others else here ∷ others) from name f
first_of true true from name here others f other is_main is not_main e rest =
    absurd (let n : here.name ≡ name = same_name here.name name (sym is) in let x : bytes_eq name (codes "main") ≡ true = ap (λ (m : List ℕ). bytes_eq m (codes "main")) (sym n) ∙ sym is_main in cc (x, not_main))
first_of true false from name here others f other is_main is not_main e rest = record {
  at = 0;
  numbered = ap (λ (b : Bool). if b then Some from else number_from (suc from) name others) (sym is) ∙ ap Some (let e : from ≡ from + 0 = omega arith in e);
  stands = ap₂ made (same_name here.name name (sym is)) (function_is e);
} where
  made : List ℕ → Function → Option PlainFunction
  made name function = Some (record { name = name; function = function })

  function_is : Some here.function ≡ Some f → here.function ≡ f
  function_is e = cc
first_of false true from name here others f other is_main is not_main e rest = rest from e
first_of false false from name here others f other is_main is not_main e rest =
    let r = rest (suc from) e in record {
      at = suc r.at;
      numbered = ap (λ (b : Bool). if b then Some from else number_from (suc from) name others) (sym is) ∙ r.numbered ∙ ap Some (let e : suc from + r.at ≡ from + suc r.at = omega arith in e);
      stands = r.stands;
    }

counted : (ds : List Declaration) (from : ℕ) (name : List ℕ) (f : Function) → bytes_eq name (codes "main") ≡ false → function_named name ds ≡ Some f → Counted (plain_functions ds) from name f
counted [] from name f other e = absurd cc
counted (declaration.Struct at line struct fields ∷ ds) from name f other e = counted ds from name f other e
counted (declaration.Class at line kind class items ∷ ds) from name f other e = counted ds from name f other e
counted (declaration.Function at result function formals body ∷ ds) from name f other e =
    first_of (bytes_eq function.text name) (bytes_eq function.text (codes "main")) from name
    (record { name = function.text; function = record { result = result; formals = formals_of formals; body = body } }) (plain_functions ds) f (function_named name ds) refl refl other e
    (λ n h. counted ds n name f other h)

pub function_numbered : (ds : List Declaration) (name : List ℕ) (f : Function) → FunctionIs ds name f → Numbered ds name f
function_numbered ds name f is =
    let c = counted ds 0 name f is.other is.named in
    record { number = c.at; numbered = c.numbered ∙ ap Some (let e : 0 + c.at ≡ c.at = omega arith in e); stands = c.stands }

-- ---- what is called

-- From so many turns on what is called in place does what it means: a body that stands at the call comes to where it is to
-- come, if that does which goes on behind the call.
pub record Below (W : Whole) (ds : List Declaration) (callees : CheckedCallees) (base : ℕ) : Type 0 where
  pub plain : (low : ℕ) → base ≤ low → (here : Here) (name : List ℕ) (f : Function) → FunctionIs ds name f → (number : ℕ) → function_number ds name ≡ Some number
      → (arguments : List (List ℤ)) → ArgumentsHaveWords ds f.formals arguments → (p : ℕ) (ws : List ℤ) (fs : List (Flow Arg)) (vs : List Arg) (s : Store)
      → low ≤ s.turns → s.turns ≤ W.setting.turns → ResultFits W.given s.result → Is (run_of W low here) p (instr.Call number)
      → Comes (run_of W low here)
      (λ words t. t.variables ≡ s.variables → t.state ≡ s.state → ResultFits W.given t.result → low ≤ t.turns → t.turns ≤ W.setting.turns → length words ≡ words_of ds f.result None
      → At (run_of W low here) (p + 1) (pushed words ws) fs vs t)
      (callees.plain f arguments s)
      → At (run_of W low here) p (pushed (flat_map (λ words. words) arguments) ws) fs vs s
  pub regular : (low : ℕ) → base ≤ low → (here : Here) (class : Class) (m : Member) → MemberIs ds class m → class.is_regular ≡ true
      → (arguments : List (List ℤ)) → ArgumentsHaveWords ds m.formals arguments → (p : ℕ) (ws : List ℤ) (fs : List (Flow Arg)) (vs : List Arg) (s : Store)
      → low ≤ s.turns → s.turns ≤ W.setting.turns → ResultFits W.given s.result
      → Comes (run_of W low here)
      (λ a t. t.variables ≡ s.variables → t.state ≡ s.state → ResultFits W.given t.result → low ≤ t.turns → t.turns ≤ W.setting.turns → ArgFits (words_of_result ds m.result) a
      → At (run_of W low here) p ws (record { value = a; words = words_of_result ds m.result } ∷ fs) vs t)
      (callees.regular m arguments s)
      → (sent : ℕ) → (fuel : ℕ) × (e : Ended) × (called_in_place (exec fuel) W.setting m.id arguments (body_at (point (run_of W low here) p ws fs vs) sent s) ≡ Some e) × Arrives W.outer W.final e
