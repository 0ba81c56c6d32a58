use Rattle.std.proofs.Common.{sym, ap, ◌∙◌, subst}
use Rattle.std.specs.Prelude.{is_some}
use Rattle.mdf_match.specs.Ports.{Open, known_at}
use Rattle.mdf_machine.specs.Internal.Bringing.{MayCount}
use Rattle.mdf_machine.proofs.Completing.{filled_count, none_seen}
use Rattle.mdf_machine.proofs.parts.Parts.fill.Goals as goal

pub count_ports-requires : goal.count_ports-requires
count_ports-requires c = subst (λ (ports : Open). MayCount (record c.args.self.now { ports = ports }) c.args.tag.actor) (sym c.arrive.ensures.filled)
    (filled_count c.args.self.now c.args.tag c.args.known (c.requires.count (none_seen (known_at c.args.self.now.ports c.args.tag) (sym (ap is_some c.seen.ensures) ∙ c.if-is_none.ensures))))
