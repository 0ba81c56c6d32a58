use Rattle.std.proofs.Common.{drop, option_map, ap, sym, ◌∙◌, arith}
use Rattle.mpl_mean.proofs.Lists.{none_left}
use Rattle.mpl_mean.specs.Plain.Stmt.{if_any, starts, stmt_of, stmts_from}
use Rattle.mpl_depend.specs.Internal.SeenScope.{env_seen}
use Rattle.mpl_locals.proofs.Blocks.{left_after, left_after_all}
use Rattle.mpl_depend.proofs.Rows.{grown_ends, stmts_are, stmts_row}
use Rattle.mpl_depend.proofs.statements.+statement.Goals as goal

pub statements-returns-clause-ways : goal.statements-returns-clause-ways
statements-returns-clause-ways t c =
    let list = c.args.list.now in
    let i = c.loop-node.node-index in
    c.all.ensures
    ∙ grown_ends c.loop-node.ways.items (stmts_row (env_seen c.loop-node.scope) (drop i list)) (stmts_row (env_seen c.args.scope.now) list) (ap (stmts_row (env_seen c.loop-node.scope)) (none_left list i (omega arith))) c.loop-node.invariant.row
    ∙ sym (stmts_are (env_seen c.args.scope.now) list)

pub inside-returns-clause-scope : goal.inside-returns-clause-scope
inside-returns-clause-scope t c =
    left_after (stmt_of c.args.node.now) (env_seen c.args.scope.now) (env_seen c.statement.new.scope) (env_seen c.leave.new.scope) c.len-count.result c.len-count.ensures c.in_ok-ways.ensures.scope c.in_ok-leave.ensures

pub within-returns-clause-scope : goal.within-returns-clause-scope
within-returns-clause-scope t c =
    left_after_all (stmts_from c.as_slice.result.now) (env_seen c.args.scope.now) (env_seen c.statements.new.scope) (env_seen c.leave.new.scope) c.len-count.result c.len-count.ensures c.in_ok-ways.ensures.scope c.in_ok-leave.ensures

pub for_loop-returns-clause-scope : goal.for_loop-returns-clause-scope
for_loop-returns-clause-scope t c =
    left_after (if_any (option_map starts c.args.head.now.start)) (env_seen c.args.scope.now) (env_seen c.inside.new.scope) (env_seen c.leave.new.scope) c.len-count.result c.len-count.ensures
    (c.in_ok-inner.ensures.scope ∙ c.in_ok-first.ensures.scope) c.in_ok-leave.ensures
