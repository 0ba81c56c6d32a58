use Rattle.std.proofs.Common.{List, Some, None, option_map, ap, subst, sym, ◌∙◌}
use Rattle.mpl_ast.specs.declared.statement.ForHead.{ForHead}
use Rattle.mpl_ast.specs.declared.statement.Statement.{Statement, fold-roll-Statement, roll-Statement}
use Rattle.mpl_ast.specs.declared.statement.Statement.TheOpen.{Statement-F}
use Rattle.mpl_mean.specs.Plain.Expr.{expr_of}
use Rattle.mpl_mean.specs.Plain.Stmt.{Stmt, Stmts, assigns, block_step, if_any, starts, statement_step, stmt_of, stmts_from}
use Rattle.mpl_mean.specs.Plain.Stmt as stmt
use Rattle.mpl_body_image.specs.Internal.SeenScope.{env_seen}
use Rattle.mpl_body_image.specs.Internal.Writing.{WroteAll}
use Rattle.mpl_body_image.proofs.Writes.{block_written, branch_written, for_written, if_written, loop_written, next_part, part_written, when_written}
use Rattle.mpl_body_image.proofs.statements.+statement.Goals as goal

pub statement-returns-in-While : goal.statement-returns-in-While
unfolding roll-Statement denote.Hole.Carrier.roll
statement-returns-in-While t c =
    let env = env_seen c.args.scope.now in
    let arm = c.in-While in
    let is = ap stmt_of arm.is ∙ fold-roll-Statement Stmt Stmts statement_step block_step (Statement-F.While arm.field-0 arm.test arm.body) in
    let next = env_seen c.leave-in-While.new.scope in
    let part =
    part_written env (env_seen c.statement-in-While.new.scope) next c.len-count.result (stmt_of c.get-in-While.result.now) (stmt_of arm.body)
    c.new-inner-in-While.result c.statement-in-While.new.code c.leave-in-While.new.code (ap stmt_of c.get-in-While.ensures) c.new-inner-in-While.ensures c.len-count.ensures
    c.in_ok-statement-in-While.ensures c.in_ok-leave-in-While.ensures in
    if_written c.loop_with.result
    (loop_written env next (stmt_of c.args.node.now) (expr_of arm.test) (stmt_of arm.body) c.args.code.now c.loop_with.new.code c.leave-in-While.new.code is part)
    c.loop_with.ensures

pub statement-returns-in-For : goal.statement-returns-in-For
unfolding roll-Statement denote.Hole.Carrier.roll
statement-returns-in-For t c =
    let env = env_seen c.args.scope.now in
    let arm = c.in-For in
    let head = c.get-head.result.now in
    let is =
    ap stmt_of arm.is ∙ fold-roll-Statement Stmt Stmts statement_step block_step (Statement-F.For arm.field-0 arm.head arm.body)
    ∙ ap (λ (head : ForHead). stmt.Loops (if_any (option_map starts head.start)) (expr_of head.test) (if_any (option_map assigns head.step)) (stmt_of arm.body)) (sym c.get-head.ensures) in
    let first = env_seen c.start.new.scope in
    let inside = env_seen c.leave-in-For.new.scope in
    let part =
    part_written first (env_seen c.statement-in-For.new.scope) inside c.len-within.result (stmt_of c.get-in-For.result.now) (stmt_of arm.body)
    c.new-inner-in-For.result c.statement-in-For.new.code c.leave-in-For.new.code (ap stmt_of c.get-in-For.ensures) c.new-inner-in-For.ensures c.len-within.ensures
    c.in_ok-statement-in-For.ensures c.in_ok-leave-in-For.ensures in
    if_written c.leave-in-For-2.result
    (for_written env first inside (env_seen c.leave-in-For-2.new.scope) (stmt_of c.args.node.now) (if_any (option_map starts head.start)) (expr_of head.test) (if_any (option_map assigns head.step)) (stmt_of arm.body)
    c.len-count.result c.args.code.now c.start.new.code c.loop_with-in-For.new.code c.leave-in-For-2.new.code c.leave-in-For.new.code c.step.new.code
    is c.len-count.ensures c.in_ok-start-in-For.ensures part c.in_ok-step-in-For.ensures c.in_ok-loop_with-in-For.ensures)
    c.leave-in-For-2.ensures

pub within-returns : goal.within-returns
within-returns t c =
    let env = env_seen c.args.scope.now in
    let trees = stmts_from c.args.block.now.statements in
    let middle = env_seen c.statements.new.scope in
    let all : WroteAll env trees c.args.code.now c.statements.new.code middle =
    subst (λ (list : List Statement). WroteAll env (stmts_from list) c.args.code.now c.statements.new.code middle) c.as_slice.ensures c.in_ok-statements.ensures in
    if_written c.leave.result
    (block_written env middle (env_seen c.leave.new.scope) c.len-count.result trees c.args.code.now c.statements.new.code c.leave.new.code c.len-count.ensures all)
    c.leave.ensures

pub statement-returns-in-If : goal.statement-returns-in-If
unfolding roll-Statement denote.Hole.Carrier.roll
statement-returns-in-If t c =
    let env = env_seen c.args.scope.now in
    let arm = c.in-If in
    let opened = rw c.in-None.is at arm.is in
    let is = ap stmt_of opened ∙ fold-roll-Statement Stmt Stmts statement_step block_step (Statement-F.If arm.field-0 arm.test arm.then_part None) in
    let next = env_seen c.leave.new.scope in
    let part =
    part_written env (env_seen c.statement.new.scope) next c.len-count.result (stmt_of c.get.result.now) (stmt_of arm.then_part)
    c.new-inner.result c.statement.new.code c.leave.new.code (ap stmt_of c.get.ensures) c.new-inner.ensures c.len-count.ensures
    c.in_ok-statement-in-If.ensures c.in_ok-leave-in-If.ensures in
    if_written c.when.result
    (when_written env next (stmt_of c.args.node.now) (expr_of arm.test) (stmt_of arm.then_part) c.args.code.now c.when.new.code c.leave.new.code is part)
    c.when.ensures

pub statement-returns-in-Some : goal.statement-returns-in-Some
unfolding roll-Statement denote.Hole.Carrier.roll
statement-returns-in-Some t c =
    let env = env_seen c.args.scope.now in
    let arm = c.in-If in
    let other = c.in-Some.else_part in
    let opened = rw c.in-Some.is at arm.is in
    let is = ap stmt_of opened ∙ fold-roll-Statement Stmt Stmts statement_step block_step (Statement-F.If arm.field-0 arm.test arm.then_part (Some other)) in
    let between = env_seen c.leave.new.scope in
    let next = env_seen c.leave-in-Some.new.scope in
    let first =
    part_written env (env_seen c.statement.new.scope) between c.len-count.result (stmt_of c.get.result.now) (stmt_of arm.then_part)
    c.new-inner.result c.statement.new.code c.leave.new.code (ap stmt_of c.get.ensures) c.new-inner.ensures c.len-count.ensures
    c.in_ok-statement-in-If.ensures c.in_ok-leave-in-If.ensures in
    let second =
    next_part env between (env_seen c.statement-in-Some.new.scope) next c.len-count.result (stmt_of c.get-in-Some.result.now) (stmt_of other)
    c.new-other.result c.statement-in-Some.new.code c.leave-in-Some.new.code first.same (ap stmt_of c.get-in-Some.ensures) c.new-other.ensures c.len-count.ensures
    c.in_ok-statement-in-Some.ensures c.in_ok-leave-in-Some.ensures in
    if_written c.either.result
    (branch_written env between next (stmt_of c.args.node.now) (expr_of arm.test) (stmt_of arm.then_part) (stmt_of other)
    c.args.code.now c.either.new.code c.leave.new.code c.leave-in-Some.new.code is first second)
    c.either.ensures
