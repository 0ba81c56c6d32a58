use Rattle.std.proofs.Common.{◌≡◌, Some, sym, ap, subst, ◌∙◌, slice_get}
use Rattle.mdf_core.specs.declared.status.MachineStatus.TheVariants.{Going}
use Rattle.mdf_core.specs.Events.{Match}
use Rattle.mdf_core.specs.Steps.{Log, after}
use Rattle.mdf_core.specs.Worlds.{Job, known_at}
use Rattle.mdf_future.specs.declared.consumer.Due.{Due}
use Rattle.mdf_future.specs.Results.{ResultTable}
use Rattle.mdf_future.specs.Results as results
use Rattle.mdf_machine.specs.declared.parts.Parts.{Parts}
use Rattle.mdf_machine.specs.Courses.{Course, then, world_of}
use Rattle.mdf_machine.specs.Matching.{IsDueTo}
use Rattle.mdf_machine.specs.Internal.Bringing.{MayBring}
use Rattle.mdf_machine.specs.Internal.Held.{Kept, consumer_of}
use Rattle.mdf_machine.specs.Internal.Matching.{brought}
use Rattle.mdf_machine.proofs.Delivered.{matched_kept}
use Rattle.mdf_machine.proofs.DueTokens.{due_known, due_to, from_there, is_due, may_bring}
use Rattle.mdf_machine.proofs.Matched.{taken_of}
use Rattle.mdf_machine.proofs.Seen.{known_is}
use Rattle.mdf_machine.proofs.machine.Machine.match_at.Goals as goal

pub unreachable-requires : goal.unreachable-requires
unreachable-requires c =
    let job : Job = record { image = c.self.inside.image; input = c.self.inside.input; budget = c.self.inside.budget } in
    let p = c.self.inside.parts in
    let k = c.self.invariant in
    let due = is_due job (after job c.self.inside.history) p k.holds c.args.at c.in-Some.due (sym c.due_at.ensures ∙ c.in-Some.is) in
    let from : results.known_at p.results c.in-Some.due.from ≡ known_at (after job c.self.inside.history) (Some due.arc.from) =
    ap (λ (d : Due). results.known_at p.results d.from) due.is ∙ known_is job (after job c.self.inside.history) p k.holds due.arc.from (from_there job c.self.inside.history k.is_log c.args.at due.arc due.at).1 in
    cc (sym c.in_default-2.is ∙ c.in_ok-known.ensures ∙ from ∙ (due_known job c.self.inside.history k.is_log c.args.at due.arc due.at).1)

pub bring-requires : goal.bring-requires
bring-requires c =
    let job : Job = record { image = c.self.inside.image; input = c.self.inside.input; budget = c.self.inside.budget } in
    let p = c.self.inside.parts in
    let k = c.self.invariant in
    let due = is_due job (after job c.self.inside.history) p k.holds c.args.at c.in-Some.due (sym c.due_at.ensures ∙ c.in-Some.is) in
    let from : results.known_at p.results c.in-Some.due.from ≡ known_at (after job c.self.inside.history) (Some due.arc.from) =
    ap (λ (d : Due). results.known_at p.results d.from) due.is ∙ known_is job (after job c.self.inside.history) p k.holds due.arc.from (from_there job c.self.inside.history k.is_log c.args.at due.arc due.at).1 in
    let found : known_at (after job c.self.inside.history) (Some due.arc.from) ≡ Some c.in-Some-2.known = sym from ∙ sym c.in_ok-known.ensures ∙ c.in-Some-2.is in
    let to : c.in-Some.due.consumer ≡ consumer_of due.arc.to = ap (λ (d : Due). d.consumer) due.is in
    subst (λ (r : ResultTable). MayBring (record p { results = r }) c.in-Some-2.known c.in-Some.due.consumer) (sym c.take_at.ensures.rest)
    (subst (λ consumer. MayBring (taken_of p c.args.at) c.in-Some-2.known consumer) (sym to) (may_bring job c.self.inside.history p k c.args.at due.arc due.at c.in-Some-2.known found))

pub invariant_of-self-2 : goal.invariant_of-self-2
invariant_of-self-2 c =
    let job : Job = record { image = c.self.inside.image; input = c.self.inside.input; budget = c.self.inside.budget } in
    let p = c.self.inside.parts in
    let k = c.self.invariant in
    let due = is_due job (after job c.self.inside.history) p k.holds c.args.at c.in-Some.due (sym c.due_at.ensures ∙ c.in-Some.is) in
    let from : results.known_at p.results c.in-Some.due.from ≡ known_at (after job c.self.inside.history) (Some due.arc.from) =
    ap (λ (d : Due). results.known_at p.results d.from) due.is ∙ known_is job (after job c.self.inside.history) p k.holds due.arc.from (from_there job c.self.inside.history k.is_log c.args.at due.arc due.at).1 in
    let found : known_at (after job c.self.inside.history) (Some due.arc.from) ≡ Some c.in-Some-2.known = sym from ∙ sym c.in_ok-known.ensures ∙ c.in-Some-2.is in
    let to : c.in-Some.due.consumer ≡ consumer_of due.arc.to = ap (λ (d : Due). d.consumer) due.is in
    let brings : c.bring.new.self ≡ brought (taken_of p c.args.at) c.in-Some-2.known (consumer_of due.arc.to) =
    c.bring.ensures ∙ ap (λ (r : ResultTable). brought (record p { results = r }) c.in-Some-2.known c.in-Some.due.consumer) c.take_at.ensures.rest ∙ ap (λ consumer. brought (taken_of p c.args.at) c.in-Some-2.known consumer) to in
    subst (λ (q : Parts). Kept job c.push.new.self q) (sym brings)
    (matched_kept job c.self.inside.history p k c.args.at due.arc due.at c.in-Some-2.known c.push.new.self c.in_ok-push.ensures.ok
    (subst (λ (o : Course). (world_of o).why ≡ Going) (sym c.self.view_is) c.requires.going) found)

pub returns-clause-ok : goal.returns-clause-ok
returns-clause-ok c =
    let job : Job = record { image = c.self.inside.image; input = c.self.inside.input; budget = c.self.inside.budget } in
    let p = c.self.inside.parts in
    let k = c.self.invariant in
    let due = is_due job (after job c.self.inside.history) p k.holds c.args.at c.in-Some.due (sym c.due_at.ensures ∙ c.in-Some.is) in
    let from : results.known_at p.results c.in-Some.due.from ≡ known_at (after job c.self.inside.history) (Some due.arc.from) =
    ap (λ (d : Due). results.known_at p.results d.from) due.is ∙ known_is job (after job c.self.inside.history) p k.holds due.arc.from (from_there job c.self.inside.history k.is_log c.args.at due.arc due.at).1 in
    let found : known_at (after job c.self.inside.history) (Some due.arc.from) ≡ Some c.in-Some-2.known = sym from ∙ sym c.in_ok-known.ensures ∙ c.in-Some-2.is in
    let to : c.in-Some.due.consumer ≡ consumer_of due.arc.to = ap (λ (d : Due). d.consumer) due.is in (
      due.arc,
      subst (λ (o : Course). slice_get (world_of o).due c.args.at ≡ Some due.arc) c.self.view_is due.at,
      subst (IsDueTo due.arc.to) (sym to) (due_to due.arc.to),
      ap (λ (log : Log). record { job = job; log = log }) c.in_ok-push.ensures.ok ∙ ap (then (Match c.args.at)) c.self.view_is,
    )
