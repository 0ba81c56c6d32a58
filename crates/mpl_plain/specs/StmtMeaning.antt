-- What the plain trees of statements do.
use Rattle.std.specs.Prelude.{ℕ, ◌+◌, List, [], ◌∷◌, map, Option, Some, None, if◌then◌else◌, ℤ}
use Rattle.mpl_ast.specs.declared.statement.Dimension.{Dimension}
use Rattle.mpl_ast.specs.declared.statement.TypeName.{TypeName}
use Rattle.mpl_value.specs.declared.body.Arg.{Arg}
use Rattle.mpl_value.specs.declared.body.Arg.TheVariants.{Know}
use Rattle.mpl_value.specs.Words.{zeros}
use Rattle.mpl_mean.specs.Meaning.CallMeaning.{Passes}
use Rattle.mpl_mean.specs.Meaning.Context.{Context}
use Rattle.mpl_mean.specs.Meaning.Layout.{dimension_of, words_of}
use Rattle.mpl_mean.specs.Meaning.PlaceMeaning.{Location, index_of, put}
use Rattle.mpl_mean.specs.Meaning.StatementMeaning.{Does, Effect, assign_location, at_location, block_effect, create_at, gives_result, line_of, nothing, while_loop}
use Rattle.mpl_mean.specs.Meaning.Store.{Returns, ◌>>=◌, ◌>>◌, all_of, declare, force, in_scope, in_turn, printed, pure, spend, waits}
use Rattle.mpl_mean.specs.Meaning.Values.{Value, is_true, word_of}
use Rattle.mpl_mean.specs.Plain.Expr.{Expr}
use Rattle.mpl_mean.specs.Plain.Expr as e
use Rattle.mpl_mean.specs.Plain.Stmt.{NewLocal, Stmt, Stmts}
use Rattle.mpl_mean.specs.Plain.Stmt as t
use Rattle.mpl_plain.specs.ExprMeaning.{tree_passes, tree_value}

-- ---- locals

-- what a new variable holds: what its initialiser passes on, or zeros
abbrev pub initial : TypeName → Option Dimension → Option Expr → Passes
initial type dimension None = λ context. pure (Know (zeros (words_of context.declarations type (dimension_of dimension))))
initial type dimension (Some value) = tree_passes value

abbrev pub local_does : TypeName → NewLocal → Does
local_does type new = λ context. initial type new.dimension new.initialiser context >>= (λ holds.
    declare (record { name = new.name.text; type = type; dimension = dimension_of new.dimension; holds = holds }))

-- ---- assignments

-- what goes into an element, whose index is tested last
abbrev pub assign_element : ℕ → Option Location → Value → List ℤ → Effect
assign_element line None i words = waits
assign_element line (Some location) i words = index_of line location.words (word_of i) >>= (λ n. put location.variable (location.offset + n) words)

-- what is passed goes into a place. Nothing else is assigned to
abbrev pub assign_tree : Expr → Context → Arg → Effect
assign_tree (e.Whole at target) = λ context passed. at_location context target (λ location. assign_location location passed)
assign_tree (e.Element at line target index) = λ context passed. force passed >>= (λ words.
    tree_value index context >>= (λ i. at_location context target (λ location. assign_element line location i words)))
assign_tree other = λ context passed. waits

-- ---- statements

abbrev pub tree_returns : Option Expr → Does
tree_returns None = λ context store. Returns [] store
tree_returns (Some expr) = λ context. tree_value expr context >>= (λ value store. Returns value.words store)

abbrev pub tree_loop : Context → Expr → Effect → Effect
tree_loop context test body = while_loop (context.turns + 1) context.turns (tree_value test context) body

abbrev mutual
  pub tree_does : Stmt → Does
  tree_does t.Nothing = λ context. nothing
  tree_does (t.Within stmts) = λ context. block_effect context (trees_do stmts)
  tree_does (t.Locals type locals) = λ context. in_turn (map (λ new. local_does type new context) locals)
  tree_does (t.Assigns at place value) = λ context. tree_passes value context >>= assign_tree place context
  tree_does (t.Calls call) = λ context. tree_passes call context >> nothing
  tree_does (t.Creates at target) = λ context. at_location context target (create_at context)
  tree_does (t.When test then_part) = λ context. tree_value test context >>= (λ value. if is_true value then in_scope (tree_does then_part context) else nothing)
  tree_does (t.Branches test then_part else_part) = λ context.
      tree_value test context >>= (λ value. if is_true value then in_scope (tree_does then_part context) else in_scope (tree_does else_part context))
  tree_does (t.Repeats test body) = λ context. tree_loop context test (in_scope (tree_does body context))
  tree_does (t.Loops first test step body) = λ context.
      in_scope (tree_does first context >> tree_loop context test (in_scope (tree_does body context) >> tree_does step context))
  tree_does (t.Prints at arguments) = λ context. all_of (map (λ expr. tree_value expr context) arguments) >>= (λ values. printed (line_of values))
  tree_does (t.Gives at value) = λ context. tree_passes value context >>= gives_result at.line
  tree_does (t.Returns at value) = tree_returns value

  pub trees_do : Stmts → List Does
  trees_do t.NoStmt = []
  trees_do (t.MoreStmts stmt stmts) = tree_does stmt ∷ trees_do stmts

-- a turn for the start, and then the statements
abbrev pub trees_run : Context → Stmts → Effect
trees_run context stmts = spend context.turns >> in_turn (map (λ (does : Does). does context) (trees_do stmts))
