-- The code of expressions, flows and calls. That of a value leaves its words, and that of what is passed on a flow value.
use Rattle.std.specs.Prelude.{ℕ, suc, Bool, true, false, codes, List, [], ◌∷◌, length, map, Option, Some, None, if◌then◌else◌}
use Rattle.std.specs.Str.{bytes_eq}
use Rattle.mpl_ast.specs.declared.expression.EqualityOperator.{EqualityOperator}
use Rattle.mpl_ast.specs.declared.expression.EqualityOperator.TheVariants as equality
use Rattle.mpl_ast.specs.declared.expression.RelationOperator.{RelationOperator}
use Rattle.mpl_ast.specs.declared.expression.RelationOperator.TheVariants as relation
use Rattle.mpl_ast.specs.declared.expression.SumOperator.{SumOperator}
use Rattle.mpl_ast.specs.declared.expression.SumOperator.TheVariants as sum
use Rattle.mpl_ast.specs.declared.expression.TermOperator.{TermOperator}
use Rattle.mpl_ast.specs.declared.expression.TermOperator.TheVariants as term
use Rattle.mpl_ast.specs.declared.expression.UnaryOperator.{UnaryOperator}
use Rattle.mpl_ast.specs.declared.expression.UnaryOperator.TheVariants as unary
use Rattle.mpl_ast.specs.declared.program.Declaration.{Declaration}
use Rattle.mpl_ast.specs.declared.program.Declaration.TheVariants as declaration
use Rattle.mpl_value.specs.Words.{bool_word}
use Rattle.mpl_mean.specs.Levels.{BinaryOperator, Or, And, Equate, Compare, Add, Multiply}
use Rattle.mpl_mean.specs.Meaning.CallMeaning.{name_of_target}
use Rattle.mpl_mean.specs.Meaning.Layout.{Class, Function, Member, formals_of, member_named}
use Rattle.mpl_mean.specs.Plain.Expr.{Expr, Exprs}
use Rattle.mpl_mean.specs.Plain.Expr as e
use Rattle.mdf_code.specs.declared.instr.Instr.{Instr}
use Rattle.mdf_code.specs.declared.instr.Instr.TheVariants as instr
use Rattle.mpl_gen_code.specs.Pieces.{Piece, all_joined, either, followed_by, joined, no_code, one, where_marked}
use Rattle.mpl_gen_code.specs.Scopes.{Env, Found, Slot, class_found, found_at, whole_slot}
use Rattle.mpl_gen_code.specs.Words.{words_of_expr}

-- ---- plain functions by their numbers

-- a plain function, and its name
pub record PlainFunction : Type 0 where
  pub name : List ℕ
  pub function : Function

abbrev pub unless_main : List ℕ → PlainFunction → List PlainFunction → List PlainFunction
unless_main name function others = if bytes_eq name (codes "main") then others else function ∷ others

-- those of a program in order, `main` not among them
abbrev pub plain_functions : List Declaration → List PlainFunction
plain_functions [] = []
plain_functions (declaration.Struct at line struct fields ∷ others) = plain_functions others
plain_functions (declaration.Class at line kind class items ∷ others) = plain_functions others
plain_functions (declaration.Function at result function formals body ∷ others) =
    unless_main function.text (record { name = function.text; function = record { result = result; formals = formals_of formals; body = body } }) (plain_functions others)

-- the number of the first of a name, where the first of all has this number
abbrev pub number_from : ℕ → List ℕ → List PlainFunction → Option ℕ
number_from number name [] = None
number_from number name (function ∷ others) = if bytes_eq function.name name then Some number else number_from (suc number) name others

abbrev pub function_number : List Declaration → List ℕ → Option ℕ
function_number ds name = number_from 0 name (plain_functions ds)

-- ---- places

abbrev pub need_of_slot : Option Slot → Piece
need_of_slot None = no_code
need_of_slot (Some slot) = one (instr.Need slot.number)

-- a variable whose use is marked is needed before
abbrev pub need_of : Bool → Option Found → Piece
need_of marked None = no_code
need_of marked (Some found) = where_marked marked (need_of_slot found.slot)

abbrev pub load_from : Found → Option Slot → Instr
load_from found None = instr.Fetch found.offset found.words
load_from found (Some slot) = instr.Load slot.number found.offset found.words

abbrev pub load_of : Option Found → Piece
load_of None = no_code
load_of (Some found) = one (load_from found found.slot)

abbrev pub read_code : Bool → Option Found → Piece
read_code marked found = joined (need_of marked found) (load_of found)

abbrev pub element_from : ℕ → Found → Option Slot → Instr
element_from line found None = instr.FetchIndexed found.offset found.words line
element_from line found (Some slot) = instr.LoadIndexed slot.number found.offset found.words line

abbrev pub element_of : ℕ → Option Found → Piece
element_of line None = no_code
element_of line (Some found) = one (element_from line found found.slot)

-- ---- operators

abbrev pub unary_instr : ℕ → UnaryOperator → Instr
unary_instr line unary.Negative = instr.Neg line
unary_instr line unary.Not = instr.Not

abbrev pub equality_instr : EqualityOperator → Instr
equality_instr equality.Equal = instr.Equal
equality_instr equality.Unequal = instr.NotEqual

abbrev pub relation_instr : RelationOperator → Instr
relation_instr relation.Less = instr.Less
relation_instr relation.LessEqual = instr.LessEqual
relation_instr relation.Greater = instr.Greater
relation_instr relation.GreaterEqual = instr.GreaterEqual

abbrev pub sum_instr : ℕ → SumOperator → Instr
sum_instr line sum.Plus = instr.Add line
sum_instr line sum.Minus = instr.Sub line

abbrev pub term_instr : ℕ → TermOperator → Instr
term_instr line term.Times = instr.Mul line
term_instr line term.Over = instr.Div line
term_instr line term.Modulo = instr.Rem line

abbrev pub both_code : Piece → Piece → Instr → Piece
both_code left right operation = joined left (followed_by right operation)

abbrev pub binary_code : ℕ → BinaryOperator → Piece → Piece → Piece
binary_code line Or left right = joined left (either (one (instr.Push (bool_word true))) right)
binary_code line And left right = joined left (either right (one (instr.Push (bool_word false))))
binary_code line (Equate operator) left right = both_code left right (equality_instr operator)
binary_code line (Compare operator) left right = both_code left right (relation_instr operator)
binary_code line (Add operator) left right = both_code left right (sum_instr line operator)
binary_code line (Multiply operator) left right = both_code left right (term_instr line operator)

-- ---- calls

abbrev pub plain_code : Option ℕ → Piece → Piece
plain_code None arguments = no_code
plain_code (Some number) arguments = followed_by arguments (instr.Call number)

abbrev pub own_code : Option Member → ℕ → Piece → Piece
own_code None count arguments = no_code
own_code (Some member) count arguments = joined (one instr.Own) (followed_by arguments (instr.Post member.id count))

abbrev pub send_code : Option Member → ℕ → Piece → Piece
send_code None count arguments = no_code
send_code (Some member) count arguments = followed_by arguments (instr.Send member.id count)

abbrev pub post_code : Option Member → ℕ → Piece → Piece
post_code None count arguments = no_code
post_code (Some member) count arguments = followed_by arguments (instr.Post member.id count)

-- the receiver with its test, and then the arguments; a regular class has no receiver
abbrev pub target_code : Bool → ℕ → Option Found → Option Class → List ℕ → ℕ → Piece → Piece
target_code marked line found None member count arguments = no_code
target_code marked line found (Some class) member count arguments =
    if class.is_regular then send_code (member_named member class.members) count arguments
    else joined (followed_by (read_code marked found) (instr.Bound line)) (post_code (member_named member class.members) count arguments)

-- ---- one form after another

-- the code of a value, and of what is passed on in its place
pub record Codes : Type 0 where
  pub value : Piece
  pub flow : Piece

-- so many words, which are passed on as they are
abbrev pub of_value : ℕ → Piece → Codes
of_value words value = record { value = value; flow = followed_by value (instr.ArgWords words) }

-- what a call gives, which is forced where its words are asked for
abbrev pub of_call : Piece → Codes
of_call call = record { value = followed_by call instr.Force; flow = call }

-- a whole variable is passed on as it stands
abbrev pub of_place : Option Slot → ℕ → Piece → Codes
of_place None words value = of_value words value
of_place (Some slot) words value = record { value = value; flow = one (instr.ArgVariable slot.number) }

abbrev pub values_code : List Codes → Piece
values_code codes = all_joined (map (λ (c : Codes). c.value) codes)

abbrev pub flows_code : List Codes → Piece
flows_code codes = all_joined (map (λ (c : Codes). c.flow) codes)

abbrev mutual
  pub codes_of : Env → Expr → Codes
  codes_of env (e.Number at value) = of_value 1 (one (instr.Push value))
  codes_of env (e.Truth at value) = of_value 1 (one (instr.Push (bool_word value)))
  codes_of env (e.Own at) = of_value 1 (one instr.Own)
  codes_of env (e.Input at) = of_value 1 (one (instr.Input at.line))
  codes_of env (e.Whole at target) =
      of_place (whole_slot env (name_of_target target)) (words_of_expr env (e.Whole at target)) (read_code (env.marks at.id) (found_at env target))
  codes_of env (e.Element at line target index) =
      of_value 1 (joined (need_of (env.marks at.id) (found_at env target)) (joined (codes_of env index).value (element_of line (found_at env target))))
  codes_of env (e.PlainCall at function arguments) =
      of_value (words_of_expr env (e.PlainCall at function arguments)) (plain_code (function_number env.declarations function.text) (values_code (codes_of_each env arguments)))
  codes_of env (e.Parenthesized at inner) = of_value (words_of_expr env inner) (codes_of env inner).value
  codes_of env (e.Unary at line operator operand) = of_value 1 (followed_by (codes_of env operand).value (unary_instr line operator))
  codes_of env (e.Binary at line operator left right) = of_value 1 (binary_code line operator (codes_of env left).value (codes_of env right).value)
  codes_of env (e.CallOnOwn at member arguments) =
      of_call (own_code (member_named member.text env.members) (length (codes_of_each env arguments)) (flows_code (codes_of_each env arguments)))
  codes_of env (e.CallOnTarget at target member arguments) =
      of_call (target_code (env.marks at.id) at.line (found_at env target) (class_found env (found_at env target)) member.text (length (codes_of_each env arguments)) (flows_code (codes_of_each env arguments)))

  pub codes_of_each : Env → Exprs → List Codes
  codes_of_each env e.NoExpr = []
  codes_of_each env (e.MoreExprs expr exprs) = codes_of env expr ∷ codes_of_each env exprs

abbrev pub value_code : Env → Expr → Piece
value_code env expr = (codes_of env expr).value

abbrev pub flow_code : Env → Expr → Piece
flow_code env expr = (codes_of env expr).flow
