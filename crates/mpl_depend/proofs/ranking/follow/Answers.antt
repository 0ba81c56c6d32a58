use Rattle.std.proofs.Common.{List, ℕ, ◌≡◌, ◌+◌, ◌∷◌, [], length, ap, arith, ◌∙◌}
use Rattle.std.proofs.lemmas.List.{length-append}
use Rattle.mpl_depend.specs.Internal.Ranks.{value_at}
use Rattle.mpl_depend.proofs.Reachings.{followed_new, some_above}
use Rattle.mpl_depend.proofs.ranking.follow.Goals as goal

pub returns-in_ok-push : goal.returns-in_ok-push
returns-in_ok-push c =
    let found = c.args.found.now.items in
    let long : length c.push.new.self.items ≡ length found + 1 = ap (λ (list : List ℕ). length list) c.in_ok-push.ensures.items ∙ length-append found (c.args.edge.into ∷ []) in
    let slice : length c.as_slice.result.now ≡ length found + 1 = ap (λ (list : List ℕ). length list) c.as_slice.ensures.value ∙ long in
    let from = value_at c.args.ranks.now c.args.edge.from in
    rw (slice, long) (followed_new c.args.edge (length found) c.args.ranks.now c.if-edge-ranks.true (some_above from (omega (arith, c.entry.ensures, c.if-entry-gt0.true)), c.if-ranks-edge-eq0.true))
