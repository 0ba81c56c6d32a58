use Rattle.std.proofs.Common.{rules}
use Rattle.mpl_depend.proofs.Seen.{regular_found}
use Rattle.mpl_depend.proofs.known.Known.regular.Goals as goal

pub returns-in-Named : goal.returns-in-Named
returns-in-Named c = regular_found c.args.self.now c.args.type_name.now c.in-Named.field-0 c.in-Named.name c.as_slice.result.now c.copied.result c.in-Named.is (search rules) (search rules)
