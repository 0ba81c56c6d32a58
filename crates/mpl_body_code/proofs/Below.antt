-- What is known of the bodies that are called.
use Rattle.std.proofs.Common.{◌≡◌, ◌≤◌, ℕ, suc, ◌+◌, Bool, true, false, List, [], ◌∷◌, length, map, Option, Some, None, if◌then◌else◌, ℤ, refl}
use Rattle.std.specs.Str.{bytes_eq}
use Rattle.mpl_mean.specs.Plain.Scopes.{regular_env}
use Rattle.mpl_ast.specs.declared.program.Declaration.{Declaration}
use Rattle.mpl_ast.specs.declared.program.Declaration.TheVariants as declaration
use Rattle.mpl_value.specs.declared.body.Arg.{Arg}
use Rattle.mpl_value.specs.declared.body.Arg.TheVariants.{Know}
use Rattle.mpl_value.specs.declared.body.Yield.{Yield}
use Rattle.mpl_mean.specs.Meaning.Context.{Callees}
use Rattle.mpl_mean.specs.Meaning.Layout.{Function, Member, formals_of, function_named}
use Rattle.mpl_mean.specs.Meaning.PlaceMeaning.{is_bool}
use Rattle.mpl_mean.specs.Meaning.Store.{Store}
use Rattle.mpl_body_code.specs.Codes.{number_of_function}
use Rattle.mpl_body_code.specs.Images.{IsFunctionCode, IsMemberCode}
use Rattle.mpl_body_code.specs.Machine.{Item, Setting, item_of, words_item}
use Rattle.mpl_body_code.specs.Steps.{begins_plain, begins_regular}
use Rattle.mpl_body_code.specs.declared.instruction.FunctionCode.{FunctionCode}
use Rattle.mpl_body_code.specs.declared.instruction.MemberCode.{MemberCode}
use Rattle.mpl_body_code.proofs.Reaching.{Around, Comes, Leads, Reaches, Run, running}

missing : (b : Bool) (f : Function) (other : Option Function) (number : ℕ) (found : Option ℕ) → (if b then Some f else other) ≡ None → (other ≡ None → found ≡ None)
    → (if b then Some number else found) ≡ None
missing true f other number found e h = absurd cc
missing false f other number found e h = h e

pub no_number : (number : ℕ) (name : List ℕ) (ds : List Declaration) → function_named name ds ≡ None → number_of_function number name ds ≡ None
no_number number name [] e = refl
no_number number name (declaration.Struct at line struct fields ∷ ds) e = no_number number name ds e
no_number number name (declaration.Class at line kind class items ∷ ds) e = no_number number name ds e
no_number number name (declaration.Function at result function formals body ∷ ds) e =
    missing (bytes_eq function.text name) (record { result = result; formals = formals_of formals; body = body }) (function_named name ds) number (number_of_function (suc number) name ds) e (no_number (suc number) name ds)

abbrev pub run_of : Setting → Yield → Bool → ℕ → Around → Run
run_of S y answered low w = record { setting = S; yield = y; answered = answered; around = w; low = low }

-- From so many turns on what is called in place does what it means: the machine that begins it comes to what comes behind it.
pub record Below (S : Setting) (y : Yield) (ds : List Declaration) (answered : Bool) (callees : Callees) (base : ℕ) : Type 0 where
  pub plain : (low : ℕ) → base ≤ low → (w : Around) (f : Function) (r : FunctionCode) → IsFunctionCode S ds f r → (arguments : List (List ℤ)) → length f.formals ≡ length arguments
      → (place : ℕ) (stack below : List Item) (slots : List Arg) (s : Store) → low ≤ s.turns → s.turns ≤ S.turns
      → Comes (run_of S y answered low w)
      (λ words t. t.variables ≡ s.variables → low ≤ t.turns → t.turns ≤ S.turns → Reaches S y (running (run_of S y answered low w) (place + 1) (words_item words (is_bool f.result) ∷ below) slots t))
      (callees.plain f arguments s)
      → Leads S y (begins_plain S (running (run_of S y answered low w) place stack slots s) r (map Know arguments) below)
  pub regular : (low : ℕ) → base ≤ low → (w : Around) (m : Member) (r : MemberCode) → IsMemberCode S (regular_env ds m) m r → (arguments : List (List ℤ)) → length m.formals ≡ length arguments
      → (place : ℕ) (stack below : List Item) (slots : List Arg) (s : Store) → low ≤ s.turns → s.turns ≤ S.turns
      → Comes (run_of S y answered low w)
      (λ a t. t.variables ≡ s.variables → low ≤ t.turns → t.turns ≤ S.turns → Reaches S y (running (run_of S y answered low w) (place + 1) (item_of a ∷ below) slots t))
      (callees.regular m arguments s)
      → Leads S y (begins_regular S (running (run_of S y answered low w) place stack slots s) r (map Know arguments) below)
