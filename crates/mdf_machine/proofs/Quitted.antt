-- The end of a machine.
use Rattle.std.proofs.Common.{◌≡◌, ◌≢◌, ◌≤◌, ◌+◌, ◌==◌, ◌&&◌, ℕ, zero, suc, true, false, List, [], ◌∷◌, length, Some, refl, sym, ap, ◌∙◌, subst, arith, slice_get, eqb-true}
use Rattle.std.specs.Prelude.{is_none}
use Rattle.std.proofs.lemmas.List.{length-map}
use Rattle.mdf_core.specs.declared.status.MachineStatus.{MachineStatus}
use Rattle.mdf_core.specs.declared.status.MachineStatus.TheVariants as machine
use Rattle.mdf_core.specs.DriveList.{items}
use Rattle.mdf_core.specs.Enabled.{MayQuit}
use Rattle.mdf_core.specs.Events.{Quit}
use Rattle.mdf_core.specs.Steps.{Log, after}
use Rattle.mdf_core.specs.Worlds.{Job, World}
use Rattle.mdf_drive.specs.DriveOrder.{MarksWhoGoes}
use Rattle.mdf_drive.proofs.DriveOrders.{so_many_items}
use Rattle.mdf_future.specs.declared.consumer.Due.{Due}
use Rattle.mdf_order.specs.InOrder.{serials_in}
use Rattle.mdf_machine.specs.declared.parts.Parts.{Parts}
use Rattle.mdf_machine.specs.Courses.{Course, then, world_of}
use Rattle.mdf_machine.specs.MachineEnds.{Quits, QuitsAt}
use Rattle.mdf_machine.specs.Internal.Held.{Holds, Kept, MarkIs, due_of}
use Rattle.mdf_machine.specs.Internal.Quitting.{is_idle}
use Rattle.mdf_machine.proofs.Changed.{each_as, has_item}
use Rattle.mdf_machine.proofs.Keeping.{kept_then}
use Rattle.mdf_machine.proofs.One.{goes_same}

-- ---- what is left to do

pub who_goes : (job : Job) (w : World) (p : Parts) → Holds job w p → MarksWhoGoes w p.going
who_goes job w p h = record {
  many = h.going.length_is;
  each = λ a there. let i = has_item p.going a (omega (arith, there, h.going.length_is)) in i.1 ∙ ap Some (h.going.at a i.0 i.1);
}

pub many_due : (job : Job) (w : World) (p : Parts) → Holds job w p → length p.results.due ≡ length w.due
many_due job w p h = ap length h.due ∙ length-map w.due due_of

pub so_many : (job : Job) (log : Log) (p : Parts) → Kept job log p → (after job log).why ≡ machine.Going → length (items job (after job log)) ≡ length p.results.due + length (serials_in p.going)
so_many job log p k going = so_many_items job log p.going k.plain k.is_log going (who_goes job (after job log) p k.holds)
    ∙ ap (λ n. n + length (serials_in p.going)) (sym (many_due job (after job log) p k.holds))

no_item : {A : Type 0} (xs : List A) → length xs ≡ 0 → xs ≡ []
no_item [] h = refl
no_item (x ∷ xs) h = absurd (omega (arith, h))

none_idle : (ds : List Due) (n : ℕ) → (is_none (slice_get ds 0) && (n == 0)) ≡ true → length ds + n ≡ 0
none_idle [] n h = omega (arith, eqb-true n 0 h)
none_idle (d ∷ ds) n h = absurd (cc h)

some_busy : (ds : List Due) (n : ℕ) → (is_none (slice_get ds 0) && (n == 0)) ≡ false → length ds + n ≡ 0 → ⊥
some_busy [] zero h none = cc h
some_busy [] (suc n) h none = omega (arith, none)
some_busy (d ∷ ds) n h none = omega (arith, none)

pub nothing_left : (job : Job) (log : Log) (p : Parts) → Kept job log p → (after job log).why ≡ machine.Going → is_idle p ≡ true → items job (after job log) ≡ []
nothing_left job log p k going idle = no_item (items job (after job log)) (so_many job log p k going ∙ none_idle p.results.due (length (serials_in p.going)) idle)

pub something_left : (job : Job) (log : Log) (p : Parts) → Kept job log p → (after job log).why ≡ machine.Going → is_idle p ≡ false → items job (after job log) ≢ []
something_left job log p k going busy none = some_busy p.results.due (length (serials_in p.going)) busy (sym (so_many job log p k going) ∙ ap length none)

-- ---- the event

pub ends_holds : (job : Job) (w : World) (p : Parts) (why : MachineStatus) → Holds job w p → Holds job (record w { why = why }) (record p { why = why })
ends_holds job w p why h = record {
  statuses = h.statuses;
  rows = h.rows;
  ports = h.ports;
  results = h.results;
  due = h.due;
  going = each_as (MarkIs w) (MarkIs (record w { why = why })) w.count w.count p.going h.going refl (λ k mark below is. is ∙ sym (goes_same w (record w { why = why }) (λ c. refl) (w.actors k).status));
  turns = h.turns;
  why = refl;
  main = h.main;
  few = h.few;
}

pub quit_kept : (job : Job) (log now : Log) (p : Parts) (why : MachineStatus) → Kept job log p → now ≡ Quit why ∷ log → (after job log).why ≡ machine.Going → MayQuit job (after job log) why → Kept job now (record p { why = why })
quit_kept job log now p why k is going may = subst (λ l. Kept job l (record p { why = why })) (sym is)
    (kept_then job log (Quit why) p (record p { why = why }) k going may (ends_holds job (after job log) p why k.holds) (omega arith))

-- ---- what is answered

pub is_over : (before now : Course) (why : MachineStatus) → (world_of before).why ≡ machine.Going → MayQuit before.job (world_of before) why → now ≡ then (Quit why) before → Quits before now true
is_over before now why going may is = subst (λ s. QuitsAt s before now true) (sym going) (why, may, is)

pub goes_on_still : (before : Course) → (world_of before).why ≡ machine.Going → items before.job (world_of before) ≢ [] → (world_of before).turns ≤ before.job.budget → Quits before before false
goes_on_still before going left within = subst (λ s. QuitsAt s before before false) (sym going) (left, within, refl)
