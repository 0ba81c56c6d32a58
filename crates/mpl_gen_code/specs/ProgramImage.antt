-- The image of a program, under the uses that are marked.
use Rattle.std.specs.Prelude.{ℕ, Bool, true, false, codes, List, [], ◌∷◌, ◌++◌, flat_map, length, map, Option, Some, None}
use Rattle.std.specs.Option.{option_map}
use Rattle.mpl_ast.specs.declared.class.Entry.{Entry}
use Rattle.mpl_ast.specs.declared.class.Formal.{Formal}
use Rattle.mpl_ast.specs.declared.class.Item.{Item}
use Rattle.mpl_ast.specs.declared.class.Item.TheVariants as item
use Rattle.mpl_ast.specs.declared.class.ResultType.{ResultType}
use Rattle.mpl_ast.specs.declared.class.ResultType.TheVariants.{Void, Typed}
use Rattle.mpl_ast.specs.declared.expression.Expression.{Expression}
use Rattle.mpl_ast.specs.declared.program.Declaration.{Declaration}
use Rattle.mpl_ast.specs.declared.program.Declaration.TheVariants as declaration
use Rattle.mpl_ast.specs.declared.program.Program.{Program}
use Rattle.mpl_mean.specs.Laws.Sizes.{words_of_formal, words_of_object}
use Rattle.mpl_mean.specs.Meaning.BodyMeaning.{of_object}
use Rattle.mpl_mean.specs.Meaning.Layout.{Class, Function, Member, classes_of, function_named, member_named, natural, parts_of, words_of}
use Rattle.mpl_mean.specs.Plain.Expr.{expr_of}
use Rattle.mpl_mean.specs.Plain.Stmt.{Stmts, in_turn, stmts_of}
use Rattle.mdf_code.specs.declared.instr.Instr.{Instr}
use Rattle.mdf_code.specs.declared.raw.RawClass.{RawClass}
use Rattle.mdf_code.specs.declared.raw.RawCode.{RawCode}
use Rattle.mdf_code.specs.declared.raw.RawEntry.{RawEntry}
use Rattle.mdf_code.specs.declared.raw.RawFunction.{RawFunction}
use Rattle.mdf_code.specs.declared.raw.RawImage.{RawImage}
use Rattle.mdf_code.specs.declared.raw.RawMember.{RawMember}
use Rattle.mpl_gen_code.specs.ExpressionCode.{PlainFunction, plain_functions, value_code}
use Rattle.mpl_gen_code.specs.Scopes.{Env, Finish, OfBody, OfFunction, formals_from}
use Rattle.mpl_gen_code.specs.StatementCode.{behind_all, body_code}

-- ---- bodies

-- what surrounds the statements of a body with these formals
abbrev pub body_env : List Declaration → (ℕ → Bool) → Finish → List Formal → Env
body_env ds marks finish formals = record {
  declarations = ds;
  marks = marks;
  finish = finish;
  members = [];
  parts = [];
  scope = formals_from 0 formals;
  sizes = map (words_of_formal ds) formals;
}

abbrev pub main_line : Option Function → ℕ
main_line None = 0
main_line (Some main) = main.body.mark_line

abbrev pub main_stmts : Option Function → Stmts
main_stmts None = in_turn []
main_stmts (Some main) = stmts_of main.body

abbrev pub main_env : List Declaration → (ℕ → Bool) → Env
main_env ds marks = body_env ds marks (OfBody (main_line (function_named (codes "main") ds))) []

abbrev pub function_env : List Declaration → (ℕ → Bool) → Function → Env
function_env ds marks function = body_env ds marks (OfFunction (words_of ds function.result None) function.body.mark_line) function.formals

-- a member sees what its object has: nothing where its class is regular
abbrev pub member_env : List Declaration → (ℕ → Bool) → Class → Member → Env
member_env ds marks class member =
    record (body_env ds marks (OfBody member.body.mark_line) member.formals) {
      members = of_object class class.members;
      parts = of_object class (parts_of ds class.state);
    }

abbrev pub code_of_body : Env → Stmts → RawCode
code_of_body env stmts = record { vars = (behind_all stmts env).sizes; code = body_code env stmts 0 }

-- ---- the parts of an image

abbrev pub function_image : List Declaration → (ℕ → Bool) → PlainFunction → RawFunction
function_image ds marks plain = record {
  formals = length plain.function.formals;
  result = words_of ds plain.function.result None;
  body = code_of_body (function_env ds marks plain.function) (stmts_of plain.function.body);
}

-- a class, and whether it has a `select`
abbrev pub class_image : List Declaration → Class → Bool → RawClass
class_image ds class selects = record { regular = class.is_regular; words = words_of_object ds class; selects = selects }

-- a void member has no result
abbrev pub result_image : List Declaration → ResultType → Option ℕ
result_image ds (Void at) = None
result_image ds (Typed at type) = Some (words_of ds type None)

abbrev pub member_image : List Declaration → (ℕ → Bool) → Class → Member → RawMember
member_image ds marks class member = record {
  class = class.number;
  formals = length member.formals;
  result = result_image ds member.result;
  body = code_of_body (member_env ds marks class member) (stmts_of member.body);
}

abbrev pub members_image : List Declaration → (ℕ → Bool) → List Class → List RawMember
members_image ds marks = flat_map (λ (class : Class). map (member_image ds marks class) class.members)

-- ---- entries

-- what surrounds a guard: the formals of its member, and the state of its class
abbrev pub guard_env : List Declaration → Class → Member → Env
guard_env ds class member = record (body_env ds (λ id. false) (OfBody 0) member.formals) { parts = parts_of ds class.state }

abbrev pub guard_code : List Declaration → Class → Member → Option Expression → Option (List Instr)
guard_code ds class member = option_map (λ guard. value_code (guard_env ds class member) (expr_of guard) 0)

abbrev pub with_entry : List Declaration → Class → Entry → Option Member → List RawEntry → List RawEntry
with_entry ds class entry None others = others
with_entry ds class entry (Some member) others =
    record { class = class.number; priority = natural entry.priority.value; member = record { 0 = member.id }; guard = guard_code ds class member entry.guard } ∷ others

abbrev pub entries_image : List Declaration → Class → List Entry → List RawEntry
entries_image ds class [] = []
entries_image ds class (entry ∷ entries) = with_entry ds class entry (member_named entry.member.text class.members) (entries_image ds class entries)

-- the entries of a class's `select`, if it has one
abbrev pub select_of : List Item → Option (List Entry)
select_of [] = None
select_of (item.OfField at field ∷ items) = select_of items
select_of (item.Member at result name formals body ∷ items) = select_of items
select_of (item.Select at line entries ∷ items) = Some entries
select_of (item.Public at ∷ items) = select_of items
select_of (item.Private at ∷ items) = select_of items
select_of (item.Empty at ∷ items) = select_of items

-- the `select` of each class, by the classes' numbers
abbrev pub selects_of : List Declaration → List (Option (List Entry))
selects_of [] = []
selects_of (declaration.Struct at line name fields ∷ others) = selects_of others
selects_of (declaration.Class at line kind name items ∷ others) = select_of items ∷ selects_of others
selects_of (declaration.Function at result name formals body ∷ others) = selects_of others

abbrev pub has_select : Option (List Entry) → Bool
has_select None = false
has_select (Some entries) = true

abbrev pub entries_of_select : List Declaration → Class → Option (List Entry) → List RawEntry
entries_of_select ds class None = []
entries_of_select ds class (Some entries) = entries_image ds class entries

abbrev pub classes_image : List Declaration → List Class → List (Option (List Entry)) → List RawClass
classes_image ds [] selects = []
classes_image ds (class ∷ classes) [] = []
classes_image ds (class ∷ classes) (select ∷ selects) = class_image ds class (has_select select) ∷ classes_image ds classes selects

abbrev pub all_entries : List Declaration → List Class → List (Option (List Entry)) → List RawEntry
all_entries ds [] selects = []
all_entries ds (class ∷ classes) [] = []
all_entries ds (class ∷ classes) (select ∷ selects) = entries_of_select ds class select ++ all_entries ds classes selects

-- ---- the image

abbrev pub image_of : Program → (ℕ → Bool) → RawImage
image_of p marks = record {
  functions = map (function_image p.declarations marks) (plain_functions p.declarations);
  classes = classes_image p.declarations (classes_of p.declarations) (selects_of p.declarations);
  members = members_image p.declarations marks (classes_of p.declarations);
  entries = all_entries p.declarations (classes_of p.declarations) (selects_of p.declarations);
  main = code_of_body (main_env p.declarations marks) (main_stmts (function_named (codes "main") p.declarations));
}
