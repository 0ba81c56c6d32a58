use Rattle.std.proofs.Common.{Some, sym, ◌∙◌}
use Rattle.std.proofs.lemmas.Map.Text.{hash_map_updates_str}
use Rattle.mpl_scope.specs.First.{at}
use Rattle.mpl_scope.proofs.FirstLemmas.{added, restored}
use Rattle.mpl_scope.proofs.first_named.FirstNamed.add.Goals as goal

pub returns-in_ok-insert-clause-ok : goal.returns-in_ok-insert-clause-ok
returns-in_ok-insert-clause-ok g c =
    let name = c.args.name.now in
    restored (at c.args.self.now) (at (record { map = c.insert.new.self })) (at (record { map = c.insert-in-Some.new.self })) name c.args.value c.in-Some.first
    (sym c.in_ok-first.ensures.old ∙ c.in-Some.is)
    (hash_map_updates_str name c.args.self.now.map c.insert.new.self (Some c.args.value) c.in_ok-first.ensures.updates)
    (hash_map_updates_str name c.insert.new.self c.insert-in-Some.new.self (Some c.in-Some.first) c.in_ok-insert.ensures.updates)

pub returns-in_default-clause-ok : goal.returns-in_default-clause-ok
returns-in_default-clause-ok g c =
    let name = c.args.name.now in
    added (at c.args.self.now) (at (record { map = c.insert.new.self })) name c.args.value
    (sym c.in_ok-first.ensures.old ∙ c.in_default.is)
    (hash_map_updates_str name c.args.self.now.map c.insert.new.self (Some c.args.value) c.in_ok-first.ensures.updates)
