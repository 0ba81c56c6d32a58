use Rattle.std.proofs.Common.{◌-◌, ◌+◌, ap, sym, ◌∙◌, arith}
use Rattle.mpl_trees.specs.Programs.{take_declarations}
use Rattle.mpl_reader.specs.Reader.{most_number, rest_of}
use Rattle.mpl_expressions.proofs.Turns.{behind}
use Rattle.mpl_parse.proofs.Declarations.{next-declaration}
use Rattle.mpl_parse.proofs.declaration.declarations.Goals as goal

pub loop-turn-preserved : goal.loop-turn-preserved
loop-turn-preserved c =
    let turns = c.args.turns in
    let e = next-declaration most_number (turns - c.loop-turn._turn) (turns - (c.loop-turn._turn + 1)) c.loop-turn.list (rest_of c.loop-turn.reader)
    (omega arith) (sym c.is_empty.ensures ∙ c.if-is_empty.false) c.in_ok-next.ensures in
    c.loop-turn.invariant ∙ e ∙ ap (λ xs. behind xs (take_declarations (turns - (c.loop-turn._turn + 1)) most_number (rest_of c.declaration.new.reader))) (sym c.in_ok-push.ensures.ok)
