-- What the checker's own members and functions stand for.
use Rattle.mpl_mean.specs.Meaning.Layout as layout
use Rattle.mpl_scope.specs.declared.members.Member.{Member}

abbrev pub seen_member : Member → layout.Member
seen_member m = record { id = m.id; name = m.name.now; result = m.result.now; formals = m.formals.now; body = m.body.now }
