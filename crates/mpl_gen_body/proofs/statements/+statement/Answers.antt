use Rattle.std.proofs.Common.{◌≡◌, ◌+◌, suc, ◌∷◌, drop, drop-cons, Some, None, option_map, arith, ap, ap₂, sym, ◌∙◌}
use Rattle.std.proofs.Math.ListN.{drop_of_length-le}
use Rattle.mpl_ast.specs.declared.statement.ForHead.{ForHead}
use Rattle.mpl_ast.specs.declared.statement.Statement.{Statement, fold-roll-Statement, roll-Statement}
use Rattle.mpl_ast.specs.declared.statement.Statement.TheOpen.{Statement-F}
use Rattle.mpl_mean.specs.Plain.Expr.{expr_of}
use Rattle.mpl_mean.specs.Plain.Stmt.{Stmt, Stmts, assigns, block_step, if_any, starts, statement_step, stmt_of}
use Rattle.mpl_mean.specs.Plain.Stmt as stmt
use Rattle.mpl_gen_scope.specs.SeenScope.{env_seen}
use Rattle.mpl_gen_expr.proofs.Done.{if_written}
use Rattle.mpl_gen_body.proofs.InTurn.{stmts_end, stmts_more}
use Rattle.mpl_gen_body.proofs.Writes.{as_tree, either_done, empty_done, for_done, repeat_done, turns_done, when_done}
use Rattle.mpl_gen_body.proofs.statements.+statement.Goals as goal

pub repeat-returns : goal.repeat-returns
repeat-returns t c =
    repeat_done (env_seen c.args.scope.now) (env_seen c.part.new.scope) (expr_of c.args.test.now) (stmt_of c.args.body.now)
    c.args.codes.now c.begin_loop.new.codes c.part.new.codes c.push.new.self c.land_zero.new.self c.place-start.result c.in_ok-at.at
    c.place-start.ensures c.in_ok-at.ensures.place c.in_ok-at.ensures.code c.in_ok-part.ensures c.in_ok-push.ensures.ok c.land_zero.ensures

pub turns-returns : goal.turns-returns
turns-returns t c =
    turns_done (env_seen c.args.scope.now) (env_seen c.part.new.scope) (env_seen c.step.new.scope) (expr_of c.args.head.now.test) (stmt_of c.args.body.now) (if_any (option_map assigns c.args.head.now.step))
    c.args.codes.now c.begin_loop.new.codes c.part.new.codes c.step.new.codes c.push.new.self c.land_zero.new.self c.place-start.result c.in_ok-at.at
    c.place-start.ensures c.in_ok-at.ensures.place c.in_ok-at.ensures.code c.in_ok-part.ensures c.in_ok-step.ensures c.in_ok-push.ensures.ok c.land_zero.ensures

pub go_through-returns : goal.go_through-returns
go_through-returns t c =
    let head = c.args.head.now in
    if_written c.leave.result
    (for_done (env_seen c.args.scope.now) (env_seen c.begin.new.scope) (env_seen c.turns.new.scope) (env_seen c.leave.new.scope)
    (if_any (option_map starts head.start)) (expr_of head.test) (if_any (option_map assigns head.step)) (stmt_of c.args.body.now) c.len-count.result
    c.args.codes.now c.begin.new.codes c.turns.new.codes c.len-count.ensures c.in_ok-begin.ensures c.in_ok-turns.ensures)
    c.leave.ensures

pub statement-returns-in-None : goal.statement-returns-in-None
unfolding roll-Statement denote.Hole.Carrier.roll
statement-returns-in-None t c =
    let env = env_seen c.args.scope.now in
    let next = env_seen c.part.new.scope in
    let arm = c.in-If in
    let opened = rw c.in-None.is at arm.is in
    let read = stmt_of c.get.result.now in
    let is =
    ap stmt_of opened ∙ fold-roll-Statement Stmt Stmts statement_step block_step (Statement-F.If arm.field-0 arm.test arm.then_part None)
    ∙ ap (λ (part : Statement). stmt.When (expr_of arm.test) (stmt_of part)) (sym c.get.ensures) in
    as_tree env next (stmt_of c.args.node.now) (stmt.When (expr_of arm.test) read) c.args.codes.now c.land_zero.new.self is
    (when_done env next (expr_of arm.test) read c.args.codes.now c.branch_on.new.codes c.part.new.codes c.land_zero.new.self c.in_ok-at-in-If.at
    c.in_ok-at-in-If.ensures.place c.in_ok-at-in-If.ensures.code c.in_ok-part-in-If.ensures c.land_zero.ensures)

pub statement-returns-in_ok-part-in-Some : goal.statement-returns-in_ok-part-in-Some
unfolding roll-Statement denote.Hole.Carrier.roll
statement-returns-in_ok-part-in-Some t c =
    let env = env_seen c.args.scope.now in
    let middle = env_seen c.part.new.scope in
    let next = env_seen c.part-in-Some.new.scope in
    let arm = c.in-If in
    let other = c.in-Some.else_part in
    let opened = rw c.in-Some.is at arm.is in
    let read = stmt_of c.get.result.now in
    let read_other = stmt_of c.get-in-Some.result.now in
    let is =
    ap stmt_of opened ∙ fold-roll-Statement Stmt Stmts statement_step block_step (Statement-F.If arm.field-0 arm.test arm.then_part (Some other))
    ∙ ap₂ (λ (part other : Statement). stmt.Branches (expr_of arm.test) (stmt_of part) (stmt_of other)) (sym c.get.ensures) (sym c.get-in-Some.ensures) in
    as_tree env next (stmt_of c.args.node.now) (stmt.Branches (expr_of arm.test) read read_other) c.args.codes.now c.land.new.self is
    (either_done env middle next (expr_of arm.test) read read_other c.args.codes.now c.branch_on.new.codes c.part.new.codes c.otherwise.new.self c.part-in-Some.new.codes c.land.new.self
    c.in_ok-at-in-If.at c.in_ok-end-in-Some.end
    c.in_ok-at-in-If.ensures.place c.in_ok-at-in-If.ensures.code c.in_ok-part-in-If.ensures c.in_ok-end-in-Some.ensures.place c.in_ok-end-in-Some.ensures.code
    c.in_ok-part-in-Some.ensures c.land.ensures)

pub statement-returns-in-For : goal.statement-returns-in-For
unfolding roll-Statement denote.Hole.Carrier.roll
statement-returns-in-For t c =
    let env = env_seen c.args.scope.now in
    let arm = c.in-For in
    let head = c.get-in-For-2.result.now in
    let body = stmt_of c.get-in-For.result.now in
    let is =
    ap stmt_of arm.is ∙ fold-roll-Statement Stmt Stmts statement_step block_step (Statement-F.For arm.field-0 arm.head arm.body)
    ∙ ap₂ (λ (head : ForHead) (body : Statement). stmt.Loops (if_any (option_map starts head.start)) (expr_of head.test) (if_any (option_map assigns head.step)) (stmt_of body))
    (sym c.get-in-For-2.ensures) (sym c.get-in-For.ensures) in
    if_written c.go_through.result
    (as_tree env (env_seen c.go_through.new.scope) (stmt_of c.args.node.now)
    (stmt.Loops (if_any (option_map starts head.start)) (expr_of head.test) (if_any (option_map assigns head.step)) body) c.args.codes.now c.go_through.new.codes is)
    c.go_through.ensures

pub statement-returns-in-Empty : goal.statement-returns-in-Empty
unfolding roll-Statement denote.Hole.Carrier.roll
statement-returns-in-Empty t c =
    empty_done (env_seen c.args.scope.now) (stmt_of c.args.node.now) c.args.codes.now
    (ap stmt_of c.in-Empty.is ∙ fold-roll-Statement Stmt Stmts statement_step block_step (Statement-F.Empty c.in-Empty.field-0))

pub statements-loop-node-preserved : goal.statements-loop-node-preserved
statements-loop-node-preserved t c =
    let all = c.args.list.now in
    let i = c.loop-node.node-index in
    let x = c.node-item.result in
    let split : drop i all ≡ x ∷ drop (i + 1) all =
    drop-cons all i x (omega arith) ∙ ap (λ y. y ∷ drop (suc i) all) (sym c.node-item.is) ∙ ap (λ n. x ∷ drop n all) (let e : suc i ≡ i + 1 = omega arith in e) in
    stmts_more (env_seen c.loop-node.scope) (env_seen c.statement.new.scope) _ x (drop (i + 1) all) (drop i all) c.loop-node.codes c.statement.new.codes _ split c.in_ok-statement.ensures c.loop-node.invariant

pub statements-returns : goal.statements-returns
statements-returns t c =
    let all = c.args.list.now in
    let done = stmts_end (env_seen c.loop-node.scope) _ (drop c.loop-node.node-index all) c.loop-node.codes _ (drop_of_length-le all {i = c.loop-node.node-index} (omega arith)) c.loop-node.invariant in
    record { code = done.0; env = done.1 }
