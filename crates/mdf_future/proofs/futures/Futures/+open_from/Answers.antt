-- A port waits, and where the others can't it is taken back.
use Rattle.std.proofs.Common.{◌≡◌, ◌∷◌, ap, sym, subst, refl, ◌∙◌, arith, length}
use Rattle.std.specs.Prelude.{Some, IsSome}
use Rattle.std.specs.FinMap.{get}
use Rattle.mdf_future.specs.Results.{ResultTable}
use Rattle.mdf_future.specs.Openings.{HaveResults, port_of}
use Rattle.mdf_future.specs.Internal.Newest.{without_newest}
use Rattle.mdf_future.proofs.Opening.{waited-back, still_new, still_there, all_there}
use Rattle.mdf_future.proofs.futures.Futures.+open_from.Goals as goal

pub open_from-requires-2 : goal.open_from-requires-2
open_from-requires-2 t c =
    let split : c.args.ports.now ≡ Some c.in-Some-passed.on ∷ c.in-Some.others.now = c.in-Some.ensures.cases.0 ∙ ap (λ o. o ∷ c.in-Some.others.now) c.in-Some-passed.is in
    let have = subst (HaveResults c.args.self.now) split c.requires.there in (
      omega (arith, c.decreases, ap length split),
      (
        ap (λ t. get t.results c.args.actor) c.in_ok-wait.ensures.ok ∙ still_new c.args.self.now c.in-Some-passed.on c.args.actor (port_of c.args.actor c.args.port) have.0 c.requires.new,
        (
          subst (λ t. HaveResults t c.in-Some.others.now) (sym c.in_ok-wait.ensures.ok) (all_there c.args.self.now c.in-Some-passed.on (port_of c.args.actor c.args.port) c.in-Some.others.now have.0 have.1),
          omega (arith, c.requires.few, ap length split),
        ),
      ),
    )

pub take_back-requires : goal.take_back-requires
take_back-requires t c =
    let split : c.args.ports.now ≡ Some c.in-Some-passed.on ∷ c.in-Some.others.now = c.in-Some.ensures.cases.0 ∙ ap (λ o. o ∷ c.in-Some.others.now) c.in-Some-passed.is in
    let have = subst (HaveResults c.args.self.now) split c.requires.there in
    subst (λ (t : ResultTable). IsSome (get t.results c.in-Some-passed.on)) (sym (c.in-Err.ensures.err ∙ c.in_ok-wait.ensures.ok))
    (still_there c.args.self.now c.in-Some-passed.on c.in-Some-passed.on (port_of c.args.actor c.args.port) have.0 have.0)

pub returns-in-Err-clause-err : goal.returns-in-Err-clause-err
returns-in-Err-clause-err t c =
    let split : c.args.ports.now ≡ Some c.in-Some-passed.on ∷ c.in-Some.others.now = c.in-Some.ensures.cases.0 ∙ ap (λ o. o ∷ c.in-Some.others.now) c.in-Some-passed.is in
    let have = subst (HaveResults c.args.self.now) split c.requires.there in
    c.take_back.ensures ∙ ap (λ t. without_newest t c.in-Some-passed.on) (c.in-Err.ensures.err ∙ c.in_ok-wait.ensures.ok)
    ∙ waited-back c.args.self.now c.in-Some-passed.on (port_of c.args.actor c.args.port) refl have.0
