use Rattle.std.proofs.Common.{List, ◌++◌, ◌∷◌, map, ap, sym, ◌∙◌}
use Rattle.mpl_ast.specs.declared.class.Formal.{Formal}
use Rattle.mpl_ast.specs.declared.class.Item.{Item}
use Rattle.mpl_mean.specs.Meaning.Layout.{Member, formals_of, members_from}
use Rattle.mpl_gen_code.specs.ProgramImage.{member_image}
use Rattle.mpl_layout.specs.SeenClasses.{class_seen}
use Rattle.mpl_gen_scope.specs.SeenMarks.{marked}
use Rattle.mpl_gen_expr.proofs.Done.{if_written}
use Rattle.mpl_gen_body.proofs.MembersNamed.{member_added}
use Rattle.mpl_gen_body.proofs.members.add_member.Goals as goal

pub returns-in_ok-member_of-in-Member : goal.returns-in_ok-member_of-in-Member
returns-in_ok-member_of-in-Member c =
    let ds = c.args.outline.now in
    let marks = marked c.args.marks.nodes.now in
    let class = class_seen c.args.class in
    let arm = c.in-Member in
    if_written c.push.result
    (λ is id others.
    let m : Member = record { id = id; name = arm.field-2.text; result = arm.result_type; formals = formals_of arm.formals; body = arm.block } in
    member_added ds marks class m id others c.in_ok-member_of-in-Member.field-0 c.args.members.now c.push.new.self is
    (c.in_ok-member_of-in-Member.ensures
    ∙ ap (λ (formals : List Formal). member_image ds marks class (record { id = id; name = arm.field-2.text; result = arm.result_type; formals = formals; body = arm.block })) c.formals_of-formals.ensures)
    ∙ ap (λ (i : Item). c.args.members.now ++ map (member_image ds marks class) (members_from id (i ∷ others))) (sym arm.is))
    c.push.ensures.ok
