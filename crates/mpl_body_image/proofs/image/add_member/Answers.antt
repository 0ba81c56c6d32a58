use Rattle.std.proofs.Common.{◌++◌, ◌∷◌, length, ap, ap₂, sym, ◌∙◌}
use Rattle.mpl_ast.specs.declared.class.Item.{Item}
use Rattle.mpl_mean.specs.Meaning.Layout.{Member, formals_of, members_from}
use Rattle.mpl_body_code.specs.declared.instruction.Finish.{Finish}
use Rattle.mpl_body_code.specs.declared.instruction.MemberCode.{MemberCode}
use Rattle.mpl_layout.specs.SeenClasses.{class_seen}
use Rattle.mpl_body_image.specs.Laid.{member_entries, members_code}
use Rattle.mpl_body_image.proofs.AddingMembers.{code_with, entry_with, member_written}
use Rattle.mpl_body_image.proofs.image.add_member.Goals as goal

pub returns-in_ok-push-in-Member-clause-code : goal.returns-in_ok-push-in-Member-clause-code
returns-in_ok-push-in-Member-clause-code c = λ id others.
    let ds = c.args.outline.now in
    let class = class_seen c.args.class in
    let arm = c.in-Member in
    let m : Member = record { id = id; name = arm.field-2.text; result = arm.result_type; formals = formals_of arm.formals; body = arm.block } in
    code_with ds class m id others c.args.code.now c.add_body.new.code
    (member_written ds c.args.object class m c.formals_of-formals.result.now c.as_slice.result.now c.args.code.now c.add_body.new.code c.requires c.formals_of-formals.ensures c.as_slice.ensures c.in_ok-add_body-in-Member.ensures)
    ∙ ap (λ (i : Item). c.args.code.now ++ members_code ds class (members_from id (i ∷ others))) (sym arm.is)

pub returns-in_ok-push-in-Member-clause-entries : goal.returns-in_ok-push-in-Member-clause-entries
returns-in_ok-push-in-Member-clause-entries c = λ id others.
    let ds = c.args.outline.now in
    let class = class_seen c.args.class in
    let arm = c.in-Member in
    let m : Member = record { id = id; name = arm.field-2.text; result = arm.result_type; formals = formals_of arm.formals; body = arm.block } in
    let entry : MemberCode = record { entry = c.len-entry.result; finish = c.finish_of-finish.result } in
    entry_with ds class m id others entry c.args.members.now.items c.push.new.self.items c.args.code.now c.add_body.new.code
    (member_written ds c.args.object class m c.formals_of-formals.result.now c.as_slice.result.now c.args.code.now c.add_body.new.code c.requires c.formals_of-formals.ensures c.as_slice.ensures c.in_ok-add_body-in-Member.ensures)
    (ap₂ (λ place (finish : Finish). record { entry = place; finish = finish }) c.len-entry.ensures.is c.finish_of-finish.ensures)
    c.in_ok-push-in-Member.ensures.items
    ∙ ap (λ (i : Item). c.args.members.now.items ++ member_entries ds class (length c.args.code.now) (members_from id (i ∷ others))) (sym arm.is)
