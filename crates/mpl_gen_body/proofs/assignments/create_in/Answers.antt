use Rattle.std.proofs.Common.{[], ◌∷◌, option_map, ap, ap₂, sym, ◌∙◌}
use Rattle.mdf_code.specs.declared.instr.Instr.TheVariants as instr
use Rattle.mpl_gen_code.specs.ExpressionCode.{need_of_slot}
use Rattle.mpl_gen_code.specs.Pieces.{where_marked}
use Rattle.mpl_gen_code.specs.StatementCode.{create_in}
use Rattle.std.specs.Prelude.{Some}
use Rattle.mpl_gen_scope.specs.SeenLocals.{slot_seen}
use Rattle.mpl_gen_scope.specs.SeenScope.{found_seen}
use Rattle.mpl_gen_expr.specs.Texts.{written}
use Rattle.mpl_gen_expr.proofs.Done.{if_written}
use Rattle.mpl_gen_body.proofs.Rows.{then_done, three_done, two_done}
use Rattle.mpl_gen_body.proofs.assignments.create_in.Goals as goal

pub returns-in_ok-push-in-Some-2 : goal.returns-in_ok-push-in-Some-2
returns-in_ok-push-in-Some-2 c =
    if_written c.push-then-found-2.result
    (λ last.
    three_done (instr.Create c.args.class) (instr.ArgWords 1) (instr.SetVariable c.in-Some.slot.number) _ _ _ _ c.in_ok-push-in-Some.ensures.ok c.in_ok-push-in-Some-2.ensures.ok last
    ∙ ap₂ (λ slot whole. written (create_in c.args.marked c.args.class (found_seen c.args.found) slot whole) c.args.codes.now) (ap (option_map slot_seen) (sym c.in-Some.is)) (sym c.if-found.true))
    c.push-then-found-2.ensures.ok

pub returns-in_ok-push-in-Some-3 : goal.returns-in_ok-push-in-Some-3
returns-in_ok-push-in-Some-3 c =
    let slot = c.in-Some.slot in
    let found = c.args.found in
    if_written c.push-else-found-2.result
    (λ last.
    then_done (where_marked c.args.marked (need_of_slot (Some (slot_seen slot)))) (λ _. instr.Create c.args.class ∷ instr.Store slot.number found.offset found.words ∷ []) _ _ _ c.in_ok-need_slot-in-Some.ensures
    (two_done (instr.Create c.args.class) (instr.Store slot.number found.offset found.words) _ _ _ c.in_ok-push-in-Some-3.ensures.ok last)
    ∙ ap₂ (λ slot whole. written (create_in c.args.marked c.args.class (found_seen found) slot whole) c.args.codes.now) (ap (option_map slot_seen) (sym c.in-Some.is)) (sym c.if-found.false))
    c.push-else-found-2.ensures.ok

pub returns-in_ok-push-in-None : goal.returns-in_ok-push-in-None
returns-in_ok-push-in-None c =
    let found = c.args.found in
    if_written c.push-in-None-2.result
    (λ last.
    two_done (instr.Create c.args.class) (instr.Keep found.offset found.words) _ _ _ c.in_ok-push-in-None.ensures.ok last
    ∙ ap (λ slot. written (create_in c.args.marked c.args.class (found_seen found) slot found.is_whole) c.args.codes.now) (ap (option_map slot_seen) (sym c.in-None.is)))
    c.push-in-None-2.ensures.ok
