-- A log that has ended goes no further.
use Rattle.std.proofs.Common.{◌≡◌, true, false, cond, [], ◌∷◌, ◌++◌, refl, sym, ap, ◌∙◌, inl, inr}
use Rattle.mdf_core.specs.declared.status.MachineStatus.TheVariants as machine
use Rattle.mdf_core.specs.Enabled.{Enabled, IsLog}
use Rattle.mdf_core.specs.Events.{Event, Fire, Send, Create, Learn, Park, Resume, Reply, End, Beat, Match, Arrive, Accept, Quit}
use Rattle.mdf_core.specs.Out.{ends_machine, has_ended}
use Rattle.mdf_core.specs.Steps.{Log, after, step}
use Rattle.mdf_core.specs.Worlds.{Job, World}
use Rattle.mdf_core.proofs.EachStep.{Change, ByActor, ByCall, ByToken, ByArrival, ByAccept, ByEnd, changes}
use Rattle.mdf_core.proofs.Lists.{by_bool}
use Rattle.mdf_core.proofs.Transitions.{Came}

came_goes : (w v : World) → Came w v → v.why ≡ w.why
came_goes w v (c, inl q) = q.only.lists.why
came_goes w v (c, inr f) = f.lists.why

change_goes : (job : Job) (w : World) (e : Event) (v : World) → Change job w e v → ends_machine e ≡ false → v.why ≡ w.why
change_goes job w e v (ByActor o) h = o.acted.lists.why
change_goes job w e v (ByCall o) h = o.sent.why
change_goes job w e v (ByToken o) h = came_goes w v o.came
change_goes job w e v (ByArrival o) h = o.why
change_goes job w e v (ByAccept o) h = o.why
change_goes job w e v (ByEnd o) h = absurd (cc (h, o.ends))

-- an event that doesn't end a machine isn't its end
not_ended : (e : Event) (log : Log) → has_ended (e ∷ log) ≡ false → ends_machine e ≡ false
not_ended e log h = by_bool (ends_machine e) (λ t. absurd (cc (h, ap (λ b. cond b true (has_ended log)) t))) (λ f. f)

pub goes : (job : Job) (log : Log) → IsLog job log → has_ended log ≡ false → (after job log).why ≡ machine.Going
goes job [] is h = refl
goes job (e ∷ log) is h = change_goes job (after job log) e (step job (after job log) e) (changes job (after job log) e is.0.1) (not_ended e log h) ∙ is.0.0

-- an end is no going on
quit_stops : (job : Job) (w : World) (e : Event) → Enabled job w e → ends_machine e ≡ true → (step job w e).why ≡ machine.Going → ⊥
quit_stops job w (Quit machine.Going) is h g = is
quit_stops job w (Quit machine.Rest) is h g = absurd (cc g)
quit_stops job w (Quit machine.Spent) is h g = absurd (cc g)
quit_stops job w (Fire a) is h g = absurd (cc h)
quit_stops job w (Send a turns callee member object arguments) is h g = absurd (cc h)
quit_stops job w (Create a turns class object) is h g = absurd (cc h)
quit_stops job w (Learn a turns call) is h g = absurd (cc h)
quit_stops job w (Park a turns call) is h g = absurd (cc h)
quit_stops job w (Resume a) is h g = absurd (cc h)
quit_stops job w (Reply a turns value) is h g = absurd (cc h)
quit_stops job w (End a turns ending state) is h g = absurd (cc h)
quit_stops job w (Beat a) is h g = absurd (cc h)
quit_stops job w (Match place) is h g = absurd (cc h)
quit_stops job w (Arrive a) is h g = absurd (cc h)
quit_stops job w (Accept object a number) is h g = absurd (cc h)

ended_stops : (job : Job) (log : Log) → IsLog job log → has_ended log ≡ true → (after job log).why ≡ machine.Going → ⊥
ended_stops job [] is h g = absurd (cc h)
ended_stops job (e ∷ log) is h g = by_bool (ends_machine e)
    (λ t. quit_stops job (after job log) e is.0.1 t g)
    (λ f. ended_stops job log is.1 (sym (ap (λ b. cond b true (has_ended log)) f) ∙ h) is.0.0)

still_ended : (more log : Log) → has_ended log ≡ true → has_ended (more ++ log) ≡ true
still_ended [] log h = h
still_ended (e ∷ more) log h = by_bool (ends_machine e) (λ t. ap (λ b. cond b true (has_ended (more ++ log))) t) (λ f. ap (λ b. cond b true (has_ended (more ++ log))) f ∙ still_ended more log h)

pub stays : (job : Job) (more log : Log) → IsLog job (more ++ log) → has_ended log ≡ true → more ≡ []
stays job [] log is h = refl
stays job (e ∷ more) log is h = absurd (ended_stops job (more ++ log) is.1 (still_ended more log h) is.0.0)
