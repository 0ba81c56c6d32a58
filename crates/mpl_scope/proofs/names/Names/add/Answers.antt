use Rattle.std.proofs.Common.{[], ◌∷◌, ap, arith, drop, map, refl, sym, ◌∙◌}
use Rattle.std.proofs.lemmas.List.{drop-append-le, map-append}
use Rattle.mpl_mean.specs.TypeRules.Types.{first_named}
use Rattle.mpl_scope.specs.First.{at}
use Rattle.mpl_scope.specs.SeenDeclared.{seen_declared}
use Rattle.mpl_scope.proofs.TableLemmas.{found_after}
use Rattle.mpl_scope.proofs.names.Names.add.Goals as goal

pub invariant_of-self-in-Ok : goal.invariant_of-self-in-Ok
invariant_of-self-in-Ok c = λ q.
    let items = c.self.inside.list.items in
    found_after seen_declared (at c.self.inside.more) (at c.add.new.self) c.args.declared.name.now c.args.declared (map seen_declared (drop 8 items)) refl
    c.self.invariant c.in-Ok.ensures.ok q
    ∙ ap (first_named q)
    (sym (ap (λ xs. map seen_declared (drop 8 xs)) c.in_ok-push-2.ensures.items
    ∙ ap (map seen_declared) (drop-append-le 8 items (c.args.declared ∷ []) (omega (arith, c.if-len-lt-FEW.false, c.len.ensures)))
    ∙ map-append seen_declared (drop 8 items) (c.args.declared ∷ [])))
