-- The code of statements, and what surrounds the next one.
use Rattle.std.specs.Prelude.{ℕ, ◌+◌, Bool, true, false, List, [], ◌∷◌, length, map, Option, Some, None}
use Rattle.mpl_ast.specs.declared.statement.TypeName.{TypeName}
use Rattle.mpl_mean.specs.Meaning.Layout.{Class, dimension_of}
use Rattle.mpl_mean.specs.Plain.Expr.{Expr}
use Rattle.mpl_mean.specs.Plain.Expr as e
use Rattle.mpl_mean.specs.Plain.Stmt.{NewLocal, Stmt, Stmts}
use Rattle.mpl_mean.specs.Plain.Stmt as s
use Rattle.mdf_code.specs.declared.instr.Instr.{Instr}
use Rattle.mdf_code.specs.declared.instr.Instr.TheVariants as instr
use Rattle.mpl_gen_code.specs.ExpressionCode.{Codes, codes_of, flow_code, need_of_slot, value_code}
use Rattle.mpl_gen_code.specs.Pieces.{Piece, all_joined, either, followed_by, joined, loop, no_code, one, unless_zero, where_marked}
use Rattle.mpl_gen_code.specs.Scopes.{Env, Finish, OfBody, OfFunction, Found, Shape, Slot, class_found, found_at, out_of, with_hidden, with_variable}
use Rattle.mpl_gen_code.specs.Words.{is_bool_expr}

-- ---- locals

abbrev pub shape_of_local : TypeName → NewLocal → Shape
shape_of_local type local = record { name = local.name.text; type = type; dimension = dimension_of local.dimension }

abbrev pub declares : TypeName → NewLocal → Env → Env
declares type local = with_variable (shape_of_local type local)

abbrev pub declares_all : TypeName → List NewLocal → Env → Env
declares_all type [] env = env
declares_all type (local ∷ locals) env = declares_all type locals (declares type local env)

-- with zeros, also where it is declared once more in a loop, or with what it is initialised with
abbrev pub initial_code : Env → Option Expr → Piece
initial_code env None = one (instr.Zero (length env.sizes))
initial_code env (Some value) = followed_by (flow_code env value) (instr.SetVariable (length env.sizes))

abbrev pub locals_code : Env → TypeName → List NewLocal → Piece
locals_code env type [] = no_code
locals_code env type (local ∷ locals) = joined (initial_code env local.initialiser) (locals_code (declares type local env) type locals)

-- ---- assignments

-- a whole variable takes what is passed, and a part of one, which is needed before where it is marked, or of the state words
abbrev pub into_slot : Bool → Codes → Found → Option Slot → Bool → Piece
into_slot marked codes found (Some slot) true = followed_by codes.flow (instr.SetVariable slot.number)
into_slot marked codes found (Some slot) false =
    joined codes.value (followed_by (where_marked marked (need_of_slot (Some slot))) (instr.Store slot.number found.offset found.words))
into_slot marked codes found None is_whole = followed_by codes.value (instr.Keep found.offset found.words)

abbrev pub into_code : Bool → Codes → Option Found → Piece
into_code marked codes None = no_code
into_code marked codes (Some found) = into_slot marked codes found found.slot found.is_whole

-- The index is tested before the variable is needed, and so by itself: one variable without a name holds the index, and
-- another is an array of zeros as long as the other, which is read at it.
abbrev pub tests_index : ℕ → ℕ → ℕ → Piece
tests_index line hidden words base =
    instr.ArgWords 1
    ∷ instr.SetVariable hidden
    ∷ instr.Zero (hidden + 1)
    ∷ instr.Load hidden 0 1
    ∷ instr.LoadIndexed (hidden + 1) 0 words line
    ∷ instr.Drop 1
    ∷ []

abbrev pub tested_store : Bool → ℕ → ℕ → Found → Slot → Piece
tested_store marked line hidden found slot =
    joined (tests_index line hidden found.words) (joined (where_marked marked (need_of_slot (Some slot))) (λ _.
    instr.Load hidden 0 1 ∷ instr.StoreIndexed slot.number found.offset found.words line ∷ []))

abbrev pub store_element : Bool → ℕ → ℕ → Found → Option Slot → Piece
store_element marked line hidden found None = one (instr.KeepIndexed found.offset found.words line)
store_element marked line hidden found (Some slot) = tested_store marked line hidden found slot

abbrev pub element_code : Bool → ℕ → ℕ → Piece → Piece → Option Found → Piece
element_code marked line hidden value index None = no_code
element_code marked line hidden value index (Some found) = joined value (joined index (store_element marked line hidden found found.slot))

abbrev pub assign_code : Env → Expr → Expr → Piece
assign_code env (e.Whole at target) value = into_code (env.marks at.id) (codes_of env value) (found_at env target)
assign_code env (e.Element at line target index) value =
    element_code (env.marks at.id) line (length env.sizes) (value_code env value) (value_code env index) (found_at env target)
assign_code env other value = no_code

abbrev pub behind_element : Found → Option Slot → Env → Env
behind_element found None env = env
behind_element found (Some slot) env = with_hidden found.words (with_hidden 1 env)

abbrev pub behind_found : Option Found → Env → Env
behind_found None env = env
behind_found (Some found) env = behind_element found found.slot env

abbrev pub behind_assignment : Expr → Env → Env
behind_assignment (e.Element at line target index) env = behind_found (found_at env target) env
behind_assignment other env = env

-- ---- objects

abbrev pub create_in : Bool → ℕ → Found → Option Slot → Bool → Piece
create_in marked class found (Some slot) true base = instr.Create class ∷ instr.ArgWords 1 ∷ instr.SetVariable slot.number ∷ []
create_in marked class found (Some slot) false base =
    joined (where_marked marked (need_of_slot (Some slot))) (λ _. instr.Create class ∷ instr.Store slot.number found.offset found.words ∷ []) base
create_in marked class found None is_whole base = instr.Create class ∷ instr.Keep found.offset found.words ∷ []

abbrev pub create_of : Bool → Found → Option Class → Piece
create_of marked found None = no_code
create_of marked found (Some class) = create_in marked class.number found found.slot found.is_whole

abbrev pub create_code : Env → Bool → Option Found → Piece
create_code env marked None = no_code
create_code env marked (Some found) = create_of marked found (class_found env (Some found))

-- ---- printing and returning

-- `i` or `b`
abbrev pub letter : Bool → ℕ
letter true = 98
letter false = 105

abbrev pub letters_of : Env → List Expr → List ℕ
letters_of env = map (λ expr. letter (is_bool_expr env expr))

abbrev pub return_instr : Finish → Instr
return_instr (OfBody line) = instr.End line
return_instr (OfFunction words line) = instr.Return words

abbrev pub end_instr : Finish → Instr
end_instr (OfBody line) = instr.End line
end_instr (OfFunction words line) = instr.Fail line

abbrev pub return_code : Env → Finish → Option Expr → Piece
return_code env finish None = one (return_instr finish)
return_code env finish (Some value) = followed_by (value_code env value) (return_instr finish)

-- ---- one form after another

-- what surrounds the next statement
abbrev mutual
  pub behind : Stmt → Env → Env
  behind s.Nothing env = env
  behind (s.Within stmts) env = out_of env (behind_all stmts env)
  behind (s.Locals type locals) env = declares_all type locals env
  behind (s.Assigns at place value) env = behind_assignment place env
  behind (s.Calls call) env = env
  behind (s.Creates at target) env = env
  behind (s.When test then_part) env = out_of env (behind then_part env)
  behind (s.Branches test then_part else_part) env = out_of env (behind else_part (out_of env (behind then_part env)))
  behind (s.Repeats test body) env = out_of env (behind body env)
  behind (s.Loops first test step body) env = out_of env (behind step (out_of (behind first env) (behind body (behind first env))))
  behind (s.Prints at arguments) env = env
  behind (s.Gives at value) env = env
  behind (s.Returns at value) env = env

  pub behind_all : Stmts → Env → Env
  behind_all s.NoStmt env = env
  behind_all (s.MoreStmts stmt stmts) env = behind_all stmts (behind stmt env)

-- a block, a branch or the body of a loop
abbrev pub behind_block : Stmt → Env → Env
behind_block stmt env = out_of env (behind stmt env)

abbrev mutual
  pub stmt_code : Env → Stmt → Piece
  stmt_code env s.Nothing = no_code
  stmt_code env (s.Within stmts) = stmts_code env stmts
  stmt_code env (s.Locals type locals) = locals_code env type locals
  stmt_code env (s.Assigns at place value) = assign_code env place value
  stmt_code env (s.Calls call) = followed_by (flow_code env call) instr.DropFlow
  stmt_code env (s.Creates at target) = create_code env (env.marks at.id) (found_at env target)
  stmt_code env (s.When test then_part) = joined (value_code env test) (unless_zero (stmt_code env then_part))
  stmt_code env (s.Branches test then_part else_part) =
      joined (value_code env test) (either (stmt_code env then_part) (stmt_code (behind_block then_part env) else_part))
  stmt_code env (s.Repeats test body) = loop (value_code env test) (stmt_code env body)
  stmt_code env (s.Loops first test step body) =
      joined (stmt_code env first)
      (loop (value_code (behind first env) test) (joined (stmt_code (behind first env) body) (stmt_code (behind_block body (behind first env)) step)))
  stmt_code env (s.Prints at arguments) = followed_by (all_joined (map (value_code env) arguments)) (instr.Print (letters_of env arguments))
  stmt_code env (s.Gives at value) = followed_by (flow_code env value) (instr.Reply at.line)
  stmt_code env (s.Returns at value) = return_code env env.finish value

  pub stmts_code : Env → Stmts → Piece
  stmts_code env s.NoStmt = no_code
  stmts_code env (s.MoreStmts stmt stmts) = joined (stmt_code env stmt) (stmts_code (behind stmt env) stmts)

-- the statements of a body, and its end
abbrev pub body_code : Env → Stmts → Piece
body_code env stmts = followed_by (stmts_code env stmts) (end_instr env.finish)
