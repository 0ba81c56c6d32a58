-- The blocks behind each statement.
use Rattle.std.proofs.Common.{◌≡◌, List, [], ◌∷◌, Option, Some, None, refl, ap, ◌∙◌}
use Rattle.std.specs.Option.{option_map}
use Rattle.mpl_ast.specs.declared.flow.Assignment.{Assignment}
use Rattle.mpl_ast.specs.declared.statement.TypeName.{TypeName}
use Rattle.mpl_mean.specs.Plain.Stmt.{Stmt, Stmts, NewLocal, assigns, if_any, new_local, starts}
use Rattle.mpl_mean.specs.Plain.Stmt as stmt
use Rattle.mpl_mean.specs.TypeRules.Nodes.{Located, expr_nodes}
use Rattle.mpl_mean.specs.TypeRules.Nodes as node
use Rattle.mpl_mean.specs.Plain.Expr.{Expr, begins}
use Rattle.mpl_mean.specs.TypeRules.Scopes.{Environment, behind, with_last}
use Rattle.mpl_mean.specs.TypeRules.StatementNodes.{◌⨾◌, one, expr_walk, scoped as scoped_walk, stmt_walk, locals_walk, exprs_if_any, declared_local}
use Rattle.mpl_mean.specs.TypeRules.Types.{Declared}
use Rattle.mpl_mean.proofs.SevenRules.FirstBodies.{prints_after}
use Rattle.mpl_mean.proofs.Sizes.SizedLocals.{blocks_behind}
use Rattle.mpl_mean.proofs.Sizes.SizedSettings.{Setting, environment}
use Rattle.mpl_mean.proofs.Sizes.SizedSteps.{Frame}

-- the blocks behind a statement
abbrev pub blocks_after : Stmt → List (List Declared) → List (List Declared)
blocks_after (stmt.Locals type news) blocks = blocks_behind type news blocks
blocks_after other blocks = blocks

none_or_some : (o : Option Expr) (h : Environment) → (exprs_if_any o h).after ≡ h
none_or_some None h = refl
none_or_some (Some p) h = refl

locals_after : (G : Frame) (S : Setting) (type : TypeName) (news : List NewLocal) (blocks : List (List Declared)) → (locals_walk type news (environment G S blocks)).after ≡ environment G S (blocks_behind type news blocks)
locals_after G S type [] blocks = refl
locals_after G S type (new ∷ news) blocks =
    ap (λ h. (locals_walk type news (behind (declared_local type new) h)).after) (none_or_some new.initialiser (environment G S blocks))
    ∙ locals_after G S type news (with_last (declared_local type new) blocks)

pub after_is : (G : Frame) (S : Setting) (a : Stmt) (blocks : List (List Declared)) → (stmt_walk a (environment G S blocks)).after ≡ environment G S (blocks_after a blocks)
after_is G S stmt.Nothing blocks = refl
after_is G S (stmt.Within stmts) blocks = refl
after_is G S (stmt.Locals type news) blocks = locals_after G S type news blocks
after_is G S (stmt.Assigns at p q) blocks = refl
after_is G S (stmt.Calls p) blocks = refl
after_is G S (stmt.Creates at t) blocks = refl
after_is G S (stmt.When test a) blocks = refl
after_is G S (stmt.Branches test a b) blocks = refl
after_is G S (stmt.Repeats test a) blocks = refl
after_is G S (stmt.Loops start test step a) blocks = refl
after_is G S (stmt.Prints at ps) blocks = prints_after (environment G S blocks) ps
after_is G S (stmt.Gives at p) blocks = refl
after_is G S (stmt.Returns at p) blocks = none_or_some p (environment G S blocks)

pub step_after : (step : Option Assignment) (h : Environment) → (stmt_walk (if_any (option_map assigns step)) h).after ≡ h
step_after None h = refl
step_after (Some a) h = refl

-- the nodes of a loop behind its start
abbrev pub loop_nodes : Environment → Expr → Stmt → Stmt → List Located
loop_nodes h test step a = ((one (begins test) (node.ATest test) ⨾ expr_walk test ⨾ stmt_walk step ⨾ scoped_walk (stmt_walk a)) h).nodes
