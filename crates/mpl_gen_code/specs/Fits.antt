-- What is asked of the trees of a body, so that their code finds words and values of the sizes that it takes: the type
-- rules give it.
use Rattle.std.specs.Prelude.{◌≡◌, ◌≤◌, ℕ, ◌+◌, Bool, true, false, not, codes, List, [], ◌∷◌, Option, Some, None}
use Rattle.std.specs.Str.{bytes_eq}
use Rattle.mpl_ast.specs.declared.class.Formal.{Formal}
use Rattle.mpl_ast.specs.declared.program.Declaration.{Declaration}
use Rattle.mpl_ast.specs.declared.statement.TypeName.{TypeName}
use Rattle.mpl_mean.specs.Laws.Sizes.{member_of_id, words_of_formal}
use Rattle.mpl_mean.specs.Levels.{BinaryOperator, Or, And, Equate, Compare, Add, Multiply}
use Rattle.mpl_mean.specs.Meaning.Layout.{Class, Function, Member, class_named, classes_of, function_named, member_named, words_of_parts}
use Rattle.mpl_mean.specs.Plain.Expr.{Expr, Exprs}
use Rattle.mpl_mean.specs.Plain.Expr as e
use Rattle.mpl_mean.specs.Plain.Stmt.{NewLocal, Stmt, Stmts}
use Rattle.mpl_mean.specs.Plain.Stmt as s
use Rattle.mpl_gen_code.specs.ProgramImage.{result_image}
use Rattle.mpl_gen_code.specs.Scopes.{Env, Finish, OfBody, OfFunction, Found, Slot, class_found, found_at, words_of_shape}
use Rattle.mpl_gen_code.specs.StatementCode.{behind, behind_block, declares, shape_of_local}
use Rattle.mpl_gen_code.specs.Words.{is_bool_expr, words_of_expr}

-- what may stand in a body: `input` and `print`, `self`, calls on regular classes, calls on persistent ones and new
-- objects, and a result of so many words
pub record May : Type 0 where
  pub input : Bool
  pub own : Bool
  pub sends : Bool
  pub posts : Bool
  pub gives : Option ℕ

-- a plain function computes alone
abbrev pub function_may : May
function_may = record { input = false; own = false; sends = false; posts = false; gives = None }

abbrev pub main_may : May
main_may = record { input = true; own = false; sends = true; posts = true; gives = None }

-- a member has an object where its class is persistent
abbrev pub member_may : List Declaration → Class → Member → May
member_may ds class m = record { input = false; own = not class.is_regular; sends = true; posts = not class.is_regular; gives = result_image ds m.result }

-- ---- places

abbrev pub words_of_base : Env → Option Slot → ℕ
words_of_base env None = words_of_parts env.parts
words_of_base env (Some slot) = words_of_shape env.declarations slot.shape

-- a place that is there, with words among those of its variable or of the state
abbrev pub PlaceFits : Env → Option Found → Type 0
PlaceFits env None = ⊥
PlaceFits env (Some found) = found.offset + found.words ≤ words_of_base env found.slot

-- ---- what is called

pub record FunctionIs (ds : List Declaration) (name : List ℕ) (function : Function) : Type 0 where
  pub named : function_named name ds ≡ Some function
  pub other : bytes_eq name (codes "main") ≡ false

-- a member of the program, and its class
pub record MemberIs (ds : List Declaration) (class : Class) (member : Member) : Type 0 where
  pub found : member_of_id ds (record { 0 = member.id }) ≡ Some (class, member)

-- ---- expressions

-- where the value of an operand is a `bool` in any case
abbrev pub DecidesBool : Env → BinaryOperator → Expr → Type 0
DecidesBool env Or right = is_bool_expr env right ≡ true
DecidesBool env And right = is_bool_expr env right ≡ true
DecidesBool env (Equate operator) right = Unit {0}
DecidesBool env (Compare operator) right = Unit {0}
DecidesBool env (Add operator) right = Unit {0}
DecidesBool env (Multiply operator) right = Unit {0}

abbrev mutual
  pub ExprFits : May → Env → Expr → Type 0
  ExprFits may env (e.Number at value) = Unit {0}
  ExprFits may env (e.Truth at value) = Unit {0}
  ExprFits may env (e.Own at) = may.own ≡ true
  ExprFits may env (e.Input at) = may.input ≡ true
  ExprFits may env (e.Whole at target) = PlaceFits env (found_at env target)
  ExprFits may env (e.Element at line target index) = PlaceFits env (found_at env target) × ExprFits may env index × (words_of_expr env index ≡ 1)
  ExprFits may env (e.PlainCall at function arguments) =
      (f : Function) × FunctionIs env.declarations function.text f × ValuesFit may env f.formals arguments
  ExprFits may env (e.Parenthesized at inner) = ExprFits may env inner
  ExprFits may env (e.Unary at line operator operand) = ExprFits may env operand × (words_of_expr env operand ≡ 1)
  ExprFits may env (e.Binary at line operator left right) =
      ExprFits may env left × (words_of_expr env left ≡ 1) × ExprFits may env right × (words_of_expr env right ≡ 1) × DecidesBool env operator right
  ExprFits may env (e.CallOnOwn at member arguments) = ⊥
  ExprFits may env (e.CallOnTarget at target member arguments) = ⊥

  -- an expression for each formal, of its size
  pub ValuesFit : May → Env → List Formal → Exprs → Type 0
  ValuesFit may env [] e.NoExpr = Unit {0}
  ValuesFit may env [] (e.MoreExprs expr exprs) = ⊥
  ValuesFit may env (formal ∷ formals) e.NoExpr = ⊥
  ValuesFit may env (formal ∷ formals) (e.MoreExprs expr exprs) =
      ExprFits may env expr × (words_of_expr env expr ≡ words_of_formal env.declarations formal) × ValuesFit may env formals exprs

-- ---- flows and calls

-- the receiver of a call on a persistent class has a word
abbrev pub ReceiverFits : May → Env → Option Found → Bool → Type 0
ReceiverFits may env None regular = ⊥
ReceiverFits may env (Some found) true = may.sends ≡ true
ReceiverFits may env (Some found) false = (may.posts ≡ true) × PlaceFits env (Some found) × (found.words ≡ 1)

abbrev mutual
  pub FlowFits : May → Env → Expr → Type 0
  FlowFits may env (e.CallOnOwn at member arguments) =
      (class : Class) × (m : Member) × MemberIs env.declarations class m × (class.is_regular ≡ false) × (member_named member.text env.members ≡ Some m)
      × (may.own ≡ true) × (may.posts ≡ true) × FlowsFit may env m.formals arguments
  FlowFits may env (e.CallOnTarget at target member arguments) =
      (class : Class) × (m : Member) × MemberIs env.declarations class m × (class_found env (found_at env target) ≡ Some class) × (member_named member.text class.members ≡ Some m)
      × ReceiverFits may env (found_at env target) class.is_regular × FlowsFit may env m.formals arguments
  FlowFits may env (e.Number at value) = ExprFits may env (e.Number at value)
  FlowFits may env (e.Truth at value) = ExprFits may env (e.Truth at value)
  FlowFits may env (e.Own at) = ExprFits may env (e.Own at)
  FlowFits may env (e.Input at) = ExprFits may env (e.Input at)
  FlowFits may env (e.Whole at target) = ExprFits may env (e.Whole at target)
  FlowFits may env (e.Element at line target index) = ExprFits may env (e.Element at line target index)
  FlowFits may env (e.PlainCall at function arguments) = ExprFits may env (e.PlainCall at function arguments)
  FlowFits may env (e.Parenthesized at inner) = ExprFits may env (e.Parenthesized at inner)
  FlowFits may env (e.Unary at line operator operand) = ExprFits may env (e.Unary at line operator operand)
  FlowFits may env (e.Binary at line operator left right) = ExprFits may env (e.Binary at line operator left right)

  pub FlowsFit : May → Env → List Formal → Exprs → Type 0
  FlowsFit may env [] e.NoExpr = Unit {0}
  FlowsFit may env [] (e.MoreExprs expr exprs) = ⊥
  FlowsFit may env (formal ∷ formals) e.NoExpr = ⊥
  FlowsFit may env (formal ∷ formals) (e.MoreExprs expr exprs) =
      FlowFits may env expr × (words_of_expr env expr ≡ words_of_formal env.declarations formal) × FlowsFit may env formals exprs

-- ---- statements

abbrev pub InitialFits : May → Env → ℕ → Option Expr → Type 0
InitialFits may env words None = Unit {0}
InitialFits may env words (Some value) = FlowFits may env value × (words_of_expr env value ≡ words)

abbrev pub LocalsFit : May → Env → TypeName → List NewLocal → Type 0
LocalsFit may env type [] = Unit {0}
LocalsFit may env type (local ∷ locals) =
    InitialFits may env (words_of_shape env.declarations (shape_of_local type local)) local.initialiser × LocalsFit may (declares type local env) type locals

abbrev pub WordsAre : Option Found → ℕ → Type 0
WordsAre None words = ⊥
WordsAre (Some found) words = found.words ≡ words

abbrev pub AssignmentFits : May → Env → Expr → Expr → Type 0
AssignmentFits may env (e.Whole at target) value =
    PlaceFits env (found_at env target) × FlowFits may env value × WordsAre (found_at env target) (words_of_expr env value)
AssignmentFits may env (e.Element at line target index) value =
    PlaceFits env (found_at env target) × FlowFits may env value × (words_of_expr env value ≡ 1) × ExprFits may env index × (words_of_expr env index ≡ 1)
AssignmentFits may env other value = ⊥

-- a persistent class, and a place for the word of its object
abbrev pub CreationFits : May → Env → Option Found → Option Class → Type 0
CreationFits may env found None = ⊥
CreationFits may env found (Some class) =
    (may.posts ≡ true) × (class.is_regular ≡ false) × ((name : List ℕ) × (class_named name (classes_of env.declarations) ≡ Some class)) × PlaceFits env found × WordsAre found 1

abbrev pub EachFits : May → Env → List Expr → Type 0
EachFits may env [] = Unit {0}
EachFits may env (expr ∷ exprs) = ExprFits may env expr × (words_of_expr env expr ≡ 1) × EachFits may env exprs

abbrev pub GivesWords : Option ℕ → ℕ → Type 0
GivesWords None words = ⊥
GivesWords (Some count) words = words ≡ count

abbrev pub ReturnFits : Finish → ℕ → Type 0
ReturnFits (OfBody line) words = Unit {0}
ReturnFits (OfFunction count line) words = words ≡ count

-- a plain function returns a value, and so may `main`; a member returns none
abbrev pub ReturnsFit : May → Env → Finish → Option Expr → Type 0
ReturnsFit may env (OfBody line) None = Unit {0}
ReturnsFit may env (OfFunction count line) None = ⊥
ReturnsFit may env finish (Some value) = ExprFits may env value × ReturnFits finish (words_of_expr env value)

abbrev pub TestFits : May → Env → Expr → Type 0
TestFits may env test = ExprFits may env test × (words_of_expr env test ≡ 1)

abbrev mutual
  pub StmtFits : May → Env → Stmt → Type 0
  StmtFits may env s.Nothing = Unit {0}
  StmtFits may env (s.Within stmts) = StmtsFit may env stmts
  StmtFits may env (s.Locals type locals) = LocalsFit may env type locals
  StmtFits may env (s.Assigns at place value) = AssignmentFits may env place value
  StmtFits may env (s.Calls call) = FlowFits may env call
  StmtFits may env (s.Creates at target) = CreationFits may env (found_at env target) (class_found env (found_at env target))
  StmtFits may env (s.When test then_part) = TestFits may env test × StmtFits may env then_part
  StmtFits may env (s.Branches test then_part else_part) = TestFits may env test × StmtFits may env then_part × StmtFits may (behind_block then_part env) else_part
  StmtFits may env (s.Repeats test body) = TestFits may env test × StmtFits may env body
  StmtFits may env (s.Loops first test step body) =
      StmtFits may env first × TestFits may (behind first env) test × StmtFits may (behind first env) body × StmtFits may (behind_block body (behind first env)) step
      × ((behind step (behind_block body (behind first env))).scope ≡ (behind first env).scope)
  StmtFits may env (s.Prints at arguments) = (may.input ≡ true) × EachFits may env arguments
  StmtFits may env (s.Gives at value) = FlowFits may env value × GivesWords may.gives (words_of_expr env value)
  StmtFits may env (s.Returns at value) = ReturnsFit may env env.finish value

  pub StmtsFit : May → Env → Stmts → Type 0
  StmtsFit may env s.NoStmt = Unit {0}
  StmtsFit may env (s.MoreStmts stmt stmts) = StmtFits may env stmt × StmtsFit may (behind stmt env) stmts
