-- What an image has: the code of each function and of each member that can be called in place.
use Rattle.std.specs.Prelude.{◌≡◌, ℕ, true, List, [], map, slice_get, Option, Some, ℤ, pos}
use Rattle.mpl_ast.specs.declared.program.Declaration.{Declaration}
use Rattle.mpl_value.specs.declared.body.Arg.TheVariants.{Know}
use Rattle.mpl_value.specs.declared.body.BodyResult.TheVariants as result
use Rattle.mpl_value.specs.declared.body.BodyStart.{BodyStart}
use Rattle.mpl_value.specs.declared.body.Yield.{Yield}
use Rattle.mpl_mean.specs.Meaning.BodyMeaning.{split_words}
use Rattle.mpl_mean.specs.Meaning.Layout.{Class, Function, Member, class_named, classes_of, function_named, member_named}
use Rattle.mpl_mean.specs.Meaning.PlaceMeaning.{is_bool}
use Rattle.mpl_mean.specs.Plain.Stmt.{Stmts, stmts_of}
use Rattle.mpl_plain.specs.Arity.{StatementsFit}
use Rattle.mpl_mean.specs.Plain.Scopes.{Env, function_env, regular_env}
use Rattle.mpl_body_code.specs.Codes.{From, body_code, finish_of, number_of_function}
use Rattle.mpl_body_code.specs.Machine.{Machine, Goes, Setting}
use Rattle.mpl_body_code.specs.Steps.{exec, followed, spends}
use Rattle.mpl_body_code.specs.declared.instruction.Finish.{Finish}
use Rattle.mpl_body_code.specs.declared.instruction.Finish.TheVariants as finish
use Rattle.mpl_body_code.specs.declared.instruction.FunctionCode.{FunctionCode}
use Rattle.mpl_body_code.specs.declared.instruction.MemberCode.{MemberCode}

-- the code of these statements begins at a place
pub record IsBodyCode (S : Setting) (env : Env) (stmts : Stmts) (entry : ℕ) : Type 0 where
  pub last : ℕ
  pub code : From S.image.code entry (body_code env stmts) last
  pub fits : StatementsFit env stmts

pub record IsFunctionCode (S : Setting) (ds : List Declaration) (f : Function) (r : FunctionCode) : Type 0 where
  pub body : IsBodyCode S (function_env ds f) (stmts_of f.body) r.entry
  pub line : r.line ≡ f.body.mark_line
  pub gives_bool : r.is_bool ≡ is_bool f.result

pub record IsMemberCode (S : Setting) (env : Env) (m : Member) (r : MemberCode) : Type 0 where
  pub body : IsBodyCode S env (stmts_of m.body) r.entry
  pub finish : r.finish ≡ finish_of m.result m.body.mark_line

pub record FunctionAt (S : Setting) (ds : List Declaration) (name : List ℕ) (f : Function) : Type 0 where
  pub number : ℕ
  pub numbered : number_of_function 0 name ds ≡ Some number
  pub code : FunctionCode
  pub stands : slice_get S.image.functions number ≡ Some code
  pub is : IsFunctionCode S ds f code

pub record MemberAt (S : Setting) (env : Env) (m : Member) : Type 0 where
  pub code : MemberCode
  pub stands : slice_get S.image.members m.id ≡ Some code
  pub is : IsMemberCode S env m code

-- the image has the code of each function, and of each member of a regular class
pub record HasCode (S : Setting) (ds : List Declaration) : Type 0 where
  pub function : (name : List ℕ) (f : Function) → function_named name ds ≡ Some f → FunctionAt S ds name f
  pub regular : (name member : List ℕ) (class : Class) (m : Member) → class_named name (classes_of ds) ≡ Some class → class.is_regular ≡ true
      → member_named member class.members ≡ Some m → MemberAt S (regular_env ds m) m

-- ---- starts

-- a body that begins at a place, with what its variables hold
abbrev pub machine_of : BodyStart → Finish → ℕ → List (List ℤ) → Machine
machine_of start finish entry arguments = record {
  frame = record { place = entry; stack = []; slots = map Know arguments; object = start.object; number = start.number };
  body = record { state = start.state; lines = []; input = start.input; calls = []; creations = []; result = result.Open; finish = finish; answered = true };
  callers = [];
  turns = 0;
}

-- `main` sees no object
abbrev pub main_machine : BodyStart → ℕ → Machine
main_machine start entry = machine_of (record start { object = pos 0 }) finish.Main entry []

abbrev pub member_machine : List Declaration → BodyStart → Member → MemberCode → Machine
member_machine ds start m code = machine_of start code.finish code.entry (split_words ds m.formals start.args)

-- a turn for the start, and then so many steps
abbrev pub starts : ℕ → Setting → Machine → Option Yield
starts steps S x = followed (exec steps S) (spends S x Goes)

-- from its start the machine comes to a yield
pub record ComesTo (S : Setting) (x : Machine) (y : Yield) : Type 0 where
  pub steps : ℕ
  pub comes : starts steps S x ≡ Some y
