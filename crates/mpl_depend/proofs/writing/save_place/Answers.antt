use Rattle.std.proofs.Common.{sym, subst, arith}
use Rattle.mpl_depend.specs.Internal.Saves.{SavesPlace}
use Rattle.std.proofs.Math.ListN.{set}
use Rattle.mpl_depend.proofs.Savings.{saves_one}
use Rattle.mpl_depend.proofs.writing.save_place.Goals as goal

pub returns-in_ok-push-clause-saved : goal.returns-in_ok-push-clause-saved
returns-in_ok-push-clause-saved c =
    subst (λ more. SavesPlace c.args.place c.args.mark c.args.current.now (set c.args.current.now c.args.place c.args.mark) c.args.saved.now.items more) (sym c.in_ok-push.ensures.items)
    (saves_one c.args.place c.args.mark c.args.current.now c.args.saved.now.items c.requires (λ same. absurd (let e = c.if-value-mark.true in omega arith)))
