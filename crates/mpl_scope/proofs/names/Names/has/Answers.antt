use Rattle.std.proofs.Common.{ap, is_some, sym, ◌∙◌}
use Rattle.mpl_scope.specs.SeenDeclared.{seen_declared}
use Rattle.mpl_scope.proofs.TableLemmas.{found_has, some_mapped}
use Rattle.mpl_scope.proofs.names.Names.has.Goals as goal

pub returns : goal.returns
returns c = c.is_some.ensures ∙ sym (some_mapped seen_declared c.find.result) ∙ ap is_some c.find.ensures ∙ found_has c.args.name.now c.args.self.now
