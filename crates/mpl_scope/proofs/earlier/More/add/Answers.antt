use Rattle.std.proofs.Common.{[], ◌∷◌, ap, map, sym, ◌∙◌}
use Rattle.std.proofs.lemmas.List.{map-append}
use Rattle.std.specs.List.{list_any}
use Rattle.std.specs.Str.{bytes_eq}
use Rattle.mpl_scope.specs.First.{at}
use Rattle.mpl_scope.proofs.TableLemmas.{known_after}
use Rattle.mpl_scope.proofs.earlier.More.add.Goals as goal

pub invariant_of-self-in-Ok : goal.invariant_of-self-in-Ok
invariant_of-self-in-Ok c = λ q.
    known_after (at c.self.inside.first) (at c.add.new.self) c.args.name.now _ (map (λ name. name.now) c.self.inside.list.items) c.self.invariant c.in-Ok.ensures.ok q
    ∙ ap (list_any (bytes_eq q))
    (sym (ap (map (λ name. name.now)) c.in_ok-push.ensures.items ∙ map-append (λ name. name.now) c.self.inside.list.items (c.args.name ∷ [])))
