use Rattle.std.proofs.Common.{◌≡◌, suc, ◌-◌, ◌+◌, sym, ◌∙◌, arith}
use Rattle.mpl_trees.specs.Statements.{take_statement}
use Rattle.mpl_reader.specs.Reader.{most_number, rest_of}
use Rattle.mpl_expressions.proofs.Turns.{end-all, last-all}
use Rattle.mpl_parse.specs.Internal.Forms.{statement_of}
use Rattle.mpl_parse.proofs.Depths.{statement-is}
use Rattle.mpl_parse.proofs.Pushed.{next-onto, onto_alike, took_only}
use Rattle.mpl_parse.proofs.statement.+statement.Goals as goal

pub statements-returns-then-sees_mark : goal.statements-returns-then-sees_mark
statements-returns-then-sees_mark t c =
    c.loop-turn.invariant ∙ last-all (take_statement c.args.depth) most_number _ c.loop-turn.list (rest_of c.loop-turn.reader) (sym c.sees_mark.ensures ∙ c.if-sees_mark.true)

pub statements-loop-turn-preserved : goal.statements-loop-turn-preserved
statements-loop-turn-preserved t c =
    let turns = c.args.turns in
    c.loop-turn.invariant ∙ next-onto (take_statement c.args.depth) most_number (turns - c.loop-turn._turn) (turns - (c.loop-turn._turn + 1)) c.loop-turn.list c.statement.new.list
    (rest_of c.loop-turn.reader) (rest_of c.statement.new.reader) (omega arith) (sym c.sees_mark.ensures ∙ c.if-sees_mark.false) c.in_ok-statement.ensures

pub statements-returns : goal.statements-returns
statements-returns t c = c.loop-turn.invariant ∙ end-all (take_statement c.args.depth) most_number (c.args.turns - c.loop-turn._turn) c.loop-turn.list (rest_of c.loop-turn.reader) (omega arith)

pub statement-returns : goal.statement-returns
statement-returns t c =
    let e : c.args.depth ≡ suc c.in-Some.inside = omega (arith, c.in-Some.ensures) in
    let r = rest_of c.args.reader.now in
    onto_alike (take_statement c.args.depth) (statement_of c.args.depth (take_statement c.in-Some.inside)) r c.args.list.now c.statement_within.result (rest_of c.statement_within.new.reader) c.statement_within.new.list
    (statement-is c.args.depth c.in-Some.inside most_number r e) c.statement_within.ensures

pub boxed-returns : goal.boxed-returns
boxed-returns t c =
    took_only (take_statement c.args.depth) (rest_of c.args.reader.now) c.in_ok-list.list c.statement.new.list (rest_of c.statement.new.reader) c.only.result c.in_ok-list.ensures.empty c.in_ok-statement.ensures c.only.ensures.ok c.only.ensures.stuck
