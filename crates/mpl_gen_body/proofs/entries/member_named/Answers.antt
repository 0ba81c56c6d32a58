use Rattle.std.proofs.Common.{◌∙◌}
use Rattle.mpl_mean.specs.Meaning.Layout.{member_named}
use Rattle.mpl_layout.specs.SeenClasses.{class_seen}
use Rattle.mpl_gen_body.proofs.MembersNamed.{accepted_is, formals_are, none_is}
use Rattle.mpl_gen_body.proofs.entries.member_named.Goals as goal

pub returns-in-Some-formals_among : goal.returns-in-Some-formals_among
returns-in-Some-formals_among c =
    accepted_is (member_named c.args.name.now (class_seen c.args.class).members) c.in-Some.id c.in-Some-formals_among.formals.now c.in-Some.ensures
    (c.in-Some-formals_among.ensures ∙ formals_are c.args.name.now c.args.class.first c.args.class.items.now)

pub returns-in-None-formals_among : goal.returns-in-None-formals_among
returns-in-None-formals_among c =
    none_is (member_named c.args.name.now (class_seen c.args.class).members) (c.in-None-formals_among.ensures ∙ formals_are c.args.name.now c.args.class.first c.args.class.items.now)
