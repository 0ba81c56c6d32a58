use Rattle.std.proofs.Common.{[], ◌∷◌}
use Rattle.std.specs.Prelude.{Some}
use Rattle.mdf_code.specs.declared.instr.Instr.TheVariants as instr
use Rattle.mpl_gen_code.specs.ExpressionCode.{need_of_slot}
use Rattle.mpl_gen_code.specs.Pieces.{Piece, joined, where_marked}
use Rattle.mpl_gen_code.specs.StatementCode.{tests_index}
use Rattle.mpl_gen_scope.specs.SeenLocals.{slot_seen}
use Rattle.mpl_gen_expr.proofs.Done.{if_written}
use Rattle.mpl_gen_body.proofs.Rows.{then_done, two_done}
use Rattle.mpl_gen_body.proofs.assignments.tested_store.Goals as goal

pub returns : goal.returns
returns c =
    let found = c.args.found in
    let slot = c.args.slot in
    let tests : Piece = tests_index c.args.line c.args.hidden found.words in
    let needs : Piece = where_marked c.args.marked (need_of_slot (Some (slot_seen slot))) in
    let stores : Piece = λ _. instr.Load c.args.hidden 0 1 ∷ instr.StoreIndexed slot.number found.offset found.words c.args.line ∷ [] in
    if_written c.push-2.result
    (λ last.
    then_done tests (joined needs stores) _ _ _ c.in_ok-test_index.ensures
    (then_done needs stores _ _ _ c.in_ok-need_slot.ensures
    (two_done (instr.Load c.args.hidden 0 1) (instr.StoreIndexed slot.number found.offset found.words c.args.line) _ _ _ c.in_ok-push.ensures.ok last)))
    c.push-2.ensures.ok
