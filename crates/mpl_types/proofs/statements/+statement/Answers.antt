use Rattle.std.proofs.Common.{ap, map, sym, ◌∙◌}
use Rattle.mpl_ast.specs.declared.statement.Statement.{fold-roll-Statement, roll-Statement}
use Rattle.mpl_ast.specs.declared.statement.Statement.TheOpen.{Statement-F}
use Rattle.mpl_mean.specs.Plain.Expr.{expr_of}
use Rattle.mpl_mean.specs.Plain.Stmt.{Stmt, Stmts, block_step, statement_step, stmt_of}
use Rattle.mpl_scope.specs.SeenScope.{seen_scope}
use Rattle.mpl_types.specs.Internal.Statements.{after}
use Rattle.mpl_types.proofs.StatementLemmas.{print_after}
use Rattle.mpl_types.proofs.statements.+statement.Goals as goal

pub check_statement-returns-in-Print-clause-scope : goal.check_statement-returns-in-Print-clause-scope
unfolding roll-Statement denote.Hole.Carrier.roll
check_statement-returns-in-Print-clause-scope t c =
    let environment = seen_scope c.args.scope.now in
    let printed = ap stmt_of c.in-Print.is ∙ fold-roll-Statement Stmt Stmts statement_step block_step (Statement-F.Print c.in-Print.at c.in-Print.arguments) in
    sym (ap (λ (s : Stmt). after s environment) printed ∙ print_after (map expr_of c.in-Print.arguments) environment)
