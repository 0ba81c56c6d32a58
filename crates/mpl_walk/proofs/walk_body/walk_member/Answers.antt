use Rattle.std.proofs.Common.{◌≡◌, ap, map, of_z, to_z, w64, ◌∙◌}
use Rattle.std.proofs.lemmas.Int.{to_z-of_z}
use Rattle.mpl_value.specs.declared.body.Arg.TheVariants.{Know}
use Rattle.mpl_body_code.specs.Images as images
use Rattle.mpl_body_run.specs.Seen.{machine_seen}
use Rattle.mpl_body_run.specs.SeenSetting.{setting_seen}
use Rattle.mpl_body_run.specs.Splitting.{split_by}
use Rattle.mpl_walk.proofs.Meanings.{comes_from, machine_with}
use Rattle.mpl_walk.proofs.walk_body.walk_member.Goals as goal

pub returns : goal.returns
returns c =
    let start = c.args.start.now in
    let code = c.args.code in
    let counts = c.args.counts.now in
    let object = c.object_of-object.result in
    let whole : to_z w64 (of_z w64 object) ≡ start.object = to_z-of_z w64 object (record { sfits = c.object_of-object.type_inv }) ∙ c.object_of-object.ensures in
    let same = ap (λ object. machine_with start object code.entry code.finish c.in_ok-slots.slots) whole in
    comes_from (setting_seen c.args.setting.now) c.run.result (machine_seen c.in_ok-machine.machine) (images.machine_of start code.finish code.entry (split_by counts start.args))
    (c.in_ok-machine.ensures.seen ∙ same ∙ ap (machine_with start start.object code.entry code.finish) (c.in_ok-slots.ensures ∙ ap (λ words. map Know (split_by counts words)) c.as_slice.ensures)) c.run.ensures
