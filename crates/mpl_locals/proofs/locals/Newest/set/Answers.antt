use Rattle.std.proofs.Common.{Some}
use Rattle.std.proofs.lemmas.Map.Text.{hash_map_updates_str}
use Rattle.std.specs.HashMap.{get_by}
use Rattle.std.specs.Str.{bytes_eq}
use Rattle.mpl_locals.proofs.Variables.{set_numbered}
use Rattle.mpl_locals.proofs.locals.Newest.set.Goals as goal

pub returns-clause-ok : goal.returns-clause-ok
returns-clause-ok c = λ q.
    set_numbered (bytes_eq c.args.name.now q) c.args.number (get_by (λ k. bytes_eq q k.now) c.args.self.now.map) (get_by (λ k. bytes_eq q k.now) c.insert.new.self)
    (hash_map_updates_str c.args.name.now c.args.self.now.map c.insert.new.self (Some c.args.number) c.in_ok-insert.ensures.updates q)
