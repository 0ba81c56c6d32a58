use Rattle.std.proofs.Common.{◌≡◌, ◌<◌, ◌∷◌, refl, sym, ap, subst, ◌∙◌, arith}
use Rattle.mpl_value.specs.declared.known.Known.TheVariants.{Value}
use Rattle.mdf_code.specs.Alone.{Words}
use Rattle.mdf_code.specs.Frames.{Replies}
use Rattle.mdf_code.specs.Told.{Stands}
use Rattle.mdf_core.specs.declared.status.MachineStatus.TheVariants.{Going}
use Rattle.mdf_core.specs.Enabled.{Stops}
use Rattle.mdf_core.specs.Steps.{Log, after}
use Rattle.mdf_core.specs.Events.{Reply}
use Rattle.mdf_core.specs.Worlds.{Job}
use Rattle.mdf_core.proofs.Fates.{gives_open}
use Rattle.mdf_machine.specs.declared.parts.Parts.{Parts}
use Rattle.mdf_machine.specs.Courses.{Course, then, world_of}
use Rattle.mdf_machine.specs.Internal.Held.{Kept}
use Rattle.mdf_machine.proofs.Giving.{few_given, given_kept, has_caller, may_give_open}
use Rattle.mdf_machine.proofs.machine.Machine.give_words.Goals as goal

pub settle-requires : goal.settle-requires
settle-requires c =
    let job : Job = record { image = c.self.inside.image; input = c.self.inside.input; budget = c.self.inside.budget } in
    let p = c.self.inside.parts in
    let k = c.self.invariant in
    let stops = subst (λ (o : Course). Stops o.job (world_of o) c.args.actor c.args.turns (Stands (Replies (Words c.args.words)))) (sym c.self.view_is) c.requires.stops in
    let called = has_caller job c.self.inside.history p k c.args.actor stops.stops.there in
    record {
      may = may_give_open job (after job c.self.inside.history) p k.holds c.args.actor stops.stops.there (gives_open job c.self.inside.history c.args.actor c.args.turns (Words c.args.words) k.is_log stops) (Value c.args.words);
      few = few_given job c.self.inside.history p k c.args.actor c.args.turns c.args.words stops;
      there = omega (arith, stops.stops.there, k.holds.rows.length_is);
      caller = record { status = called.status; mark = called.mark };
    }

pub invariant_of-self-2 : goal.invariant_of-self-2
invariant_of-self-2 c =
    let job : Job = record { image = c.self.inside.image; input = c.self.inside.input; budget = c.self.inside.budget } in
    let p = c.self.inside.parts in
    let k = c.self.invariant in
    let stops = subst (λ (o : Course). Stops o.job (world_of o) c.args.actor c.args.turns (Stands (Replies (Words c.args.words)))) (sym c.self.view_is) c.requires.stops in
    let pushed : c.push.new.self ≡ Reply c.args.actor c.args.turns (Words c.args.words) ∷ c.self.inside.history = c.in_ok-push.ensures.ok ∙ ap (λ words. Reply c.args.actor c.args.turns (Words words) ∷ c.self.inside.history) c.in_ok-copy.ensures in
    subst (λ (q : Parts). Kept job c.push.new.self q) (sym c.settle.ensures)
    (given_kept job c.self.inside.history p c.args.actor c.args.turns c.args.words k stops c.push.new.self c.in_ok-all.all pushed (subst (λ (o : Course). (world_of o).why ≡ Going) (sym c.self.view_is) c.requires.going) c.in_ok-all.ensures)

pub returns-clause-ok : goal.returns-clause-ok
returns-clause-ok c =
    let job : Job = record { image = c.self.inside.image; input = c.self.inside.input; budget = c.self.inside.budget } in
    let p = c.self.inside.parts in
    let k = c.self.invariant in
    let stops = subst (λ (o : Course). Stops o.job (world_of o) c.args.actor c.args.turns (Stands (Replies (Words c.args.words)))) (sym c.self.view_is) c.requires.stops in
    let pushed : c.push.new.self ≡ Reply c.args.actor c.args.turns (Words c.args.words) ∷ c.self.inside.history = c.in_ok-push.ensures.ok ∙ ap (λ words. Reply c.args.actor c.args.turns (Words words) ∷ c.self.inside.history) c.in_ok-copy.ensures in
    ap (λ (log : Log). record { job = job; log = log }) pushed ∙ ap (then (Reply c.args.actor c.args.turns (Words c.args.words))) c.self.view_is
