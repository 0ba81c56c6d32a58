-- How an image is laid out: the functions, the members and `main`, one after another.
use Rattle.std.specs.Prelude.{ℕ, ◌+◌, List, [], ◌∷◌, ◌++◌, length}
use Rattle.mpl_ast.specs.declared.program.Declaration.{Declaration}
use Rattle.mpl_ast.specs.declared.program.Declaration.TheVariants as declaration
use Rattle.mpl_mean.specs.Meaning.BodyMeaning.{main_statements}
use Rattle.mpl_mean.specs.Meaning.Layout.{Class, Function, Member, classes_of, formals_of}
use Rattle.mpl_mean.specs.Meaning.PlaceMeaning.{is_bool}
use Rattle.mpl_mean.specs.Plain.Stmt.{stmts_from}
use Rattle.mpl_mean.specs.Plain.Scopes.{function_env, member_env, main_env}
use Rattle.mpl_body_code.specs.Codes.{Code, body_code, finish_of}
use Rattle.mpl_body_code.specs.Machine.{Image}
use Rattle.mpl_body_code.specs.declared.instruction.FunctionCode.{FunctionCode}
use Rattle.mpl_body_code.specs.declared.instruction.MemberCode.{MemberCode}

-- ---- functions

abbrev pub function_code : List Declaration → Function → Code
function_code ds f = body_code (function_env ds f) (stmts_from f.body.statements)

abbrev pub function_entry : ℕ → Function → FunctionCode
function_entry place f = record { entry = place; line = f.body.mark_line; is_bool = is_bool f.result }

-- the code of the functions among some declarations
abbrev pub functions_code : List Declaration → List Declaration → Code
functions_code ds [] = []
functions_code ds (declaration.Struct at line name fields ∷ others) = functions_code ds others
functions_code ds (declaration.Class at line kind name items ∷ others) = functions_code ds others
functions_code ds (declaration.Function at result name formals body ∷ others) =
    function_code ds (record { result = result; formals = formals_of formals; body = body }) ++ functions_code ds others

-- where it begins, from a place on
abbrev pub function_entries : List Declaration → ℕ → List Declaration → List FunctionCode
function_entries ds place [] = []
function_entries ds place (declaration.Struct at line name fields ∷ others) = function_entries ds place others
function_entries ds place (declaration.Class at line kind name items ∷ others) = function_entries ds place others
function_entries ds place (declaration.Function at result name formals body ∷ others) =
    function_entry place (record { result = result; formals = formals_of formals; body = body })
    ∷ function_entries ds (place + length (function_code ds (record { result = result; formals = formals_of formals; body = body }))) others

-- ---- members

abbrev pub member_code : List Declaration → Class → Member → Code
member_code ds class m = body_code (member_env ds class m) (stmts_from m.body.statements)

abbrev pub member_entry : ℕ → Member → MemberCode
member_entry place m = record { entry = place; finish = finish_of m.result m.body.mark_line }

abbrev pub members_code : List Declaration → Class → List Member → Code
members_code ds class [] = []
members_code ds class (m ∷ members) = member_code ds class m ++ members_code ds class members

abbrev pub member_entries : List Declaration → Class → ℕ → List Member → List MemberCode
member_entries ds class place [] = []
member_entries ds class place (m ∷ members) = member_entry place m ∷ member_entries ds class (place + length (member_code ds class m)) members

abbrev pub classes_code : List Declaration → List Class → Code
classes_code ds [] = []
classes_code ds (class ∷ classes) = members_code ds class class.members ++ classes_code ds classes

abbrev pub class_entries : List Declaration → ℕ → List Class → List MemberCode
class_entries ds place [] = []
class_entries ds place (class ∷ classes) =
    member_entries ds class place class.members ++ class_entries ds (place + length (members_code ds class class.members)) classes

-- ---- the whole

abbrev pub main_code : List Declaration → Code
main_code ds = body_code (main_env ds) (stmts_from (main_statements ds))

abbrev pub laid : List Declaration → Image
laid ds = record {
  code = functions_code ds ds ++ (classes_code ds (classes_of ds) ++ main_code ds);
  functions = function_entries ds 0 ds;
  members = class_entries ds (length (functions_code ds ds)) (classes_of ds);
}

-- where the code of `main` begins
abbrev pub main_entry : List Declaration → ℕ
main_entry ds = length (functions_code ds ds) + length (classes_code ds (classes_of ds))
