-- Logs that are found by computing: by the items at places of the drive list, with so many steps between two stops.
use Rattle.std.proofs.Common.{◌≡◌, ◌+◌, ◌-◌, ℕ, zero, suc, Bool, true, false, not, cond, List, [], ◌∷◌, Option, Some, None, option_map, refl, sym, ap, ap₂, ◌∙◌, subst, arith, nat_lt, nat_le, nat_eq, leb-true, ltb-true, ltb-false, eqb-true, length, slice_get, replicate}
use Rattle.mpl_value.specs.Words.{object_word}
use Rattle.mpl_value.specs.declared.known.Known.{Known}
use Rattle.mpl_value.specs.declared.body.BodyEnd.{BodyEnd}
use Rattle.mdf_actor.specs.declared.status.ActorStatus.{ActorStatus}
use Rattle.mdf_actor.specs.declared.status.ActorStatus.TheVariants as status
use Rattle.mdf_code.specs.Alone.{Words, Pending}
use Rattle.mdf_code.specs.Frames.{Calls, Creates, Ends, Needs, Replies, Strays, Traps}
use Rattle.mdf_code.specs.Stacks.{given, where_true}
use Rattle.mdf_code.specs.Told.{Beats, Halt, Stands, Stood, most_turns, next_within}
use Rattle.mdf_core.specs.declared.item.Item.{Item}
use Rattle.mdf_core.specs.declared.item.Item.TheVariants as item
use Rattle.mdf_core.specs.declared.status.MachineStatus.{MachineStatus}
use Rattle.mdf_core.specs.declared.status.MachineStatus.TheVariants as machine
use Rattle.mdf_core.specs.Actors.{Actor}
use Rattle.mdf_core.specs.ByFirst.{ByFirst, first_item, item_of}
use Rattle.mdf_core.specs.Choices.{pick_of}
use Rattle.mdf_core.specs.DriveList.{items, items_at, going_items}
use Rattle.mdf_core.specs.Enabled.{Enabled, IsLog, MayAccept, MayArrive, MayCreate, MayEnd, MayFire, MayResume, MaySend, Stops, StopsAt, ending_at}
use Rattle.mdf_core.specs.Events.{Ending, Finishes, Fails, Event, Fire, Send, Create, Learn, Park, Resume, Reply, End, Beat, Match, Arrive, Accept, Quit}
use Rattle.mdf_core.specs.Rest.{MainDid, end_at}
use Rattle.mdf_core.specs.Steps.{Log, after}
use Rattle.mdf_core.specs.Worlds.{Job, World, is_in, known_at}

-- ---- tests

abbrev is_ready : ActorStatus → Bool
is_ready status.Ready = true
is_ready other = false

abbrev is_running : ActorStatus → Bool
is_running status.Running = true
is_running other = false

abbrev is_complete : ActorStatus → Bool
is_complete (status.Waiting zero) = true
is_complete other = false

abbrev parked_on : ActorStatus → Option ℕ
parked_on (status.Parked child) = Some child
parked_on other = None

-- ---- the event of an item

abbrev known_event : ℕ → ℕ → ℕ → Option Known → Event
known_event a turns call None = Park a turns call
known_event a turns call (Some known) = Learn a turns call

abbrev event_at : Job → World → ℕ → ℕ → Stood → Halt → Option Event
event_at job w a turns stood (Stands (Calls member object arguments)) = where_true (nat_le w.turns job.budget) (Some (Send a turns w.count member object arguments))
event_at job w a turns stood (Stands (Creates class)) =
    where_true (nat_le w.turns job.budget) (Some (Create a turns class (object_word (w.actors a).start.number ((w.actors a).made + 1))))
event_at job w a turns stood (Stands (Needs (Pending call))) = given ((w.actors a).child call) (λ child. Some (known_event a turns call (known_at w (Some child))))
event_at job w a turns stood (Stands (Needs (Words words))) = None
event_at job w a turns stood (Stands (Replies value)) = Some (Reply a turns value)
event_at job w a turns stood (Stands (Ends line)) = Some (End a turns (Finishes line) stood.frame.state)
event_at job w a turns stood (Stands Strays) = Some (End a turns (Finishes 0) stood.frame.state)
event_at job w a turns stood (Stands (Traps trap)) = Some (End a turns (Fails trap) stood.frame.state)
event_at job w a turns stood Beats = where_true (nat_eq turns most_turns) (Some (Beat a))

abbrev stop_event : Job → World → ℕ → Stood → Option Event
stop_event job w a stood =
    where_true (nat_le (w.actors a).counted stood.turns) (event_at job w a (stood.turns - (w.actors a).counted) stood stood.halt)

abbrev event_for : ℕ → Job → World → Item → Option Event
event_for steps job w (item.Match place) = given (slice_get w.due place) (λ arc. Some (Match place))
event_for steps job w (item.Arrive a) = where_true (nat_lt a w.count) (where_true (is_complete (w.actors a).status) (where_true (not (is_in a w.arrived)) (Some (Arrive a))))
event_for steps job w (item.Accept o) = given (pick_of job w o) (λ a. Some (Accept o a (length w.accepted + 1)))
event_for steps job w (item.Fire a) = where_true (nat_lt a w.count) (where_true (is_ready (w.actors a).status) (Some (Fire a)))
event_for steps job w (item.Resume a) =
    where_true (nat_lt a w.count) (given (parked_on (w.actors a).status) (λ child. given (known_at w (Some child)) (λ known. Some (Resume a))))
event_for steps job w (item.Run a) =
    where_true (nat_lt a w.count) (where_true (is_running (w.actors a).status)
    (given (next_within steps job.image (w.actors a).start (w.actors a).told) (stop_event job w a)))

-- ---- it applies

by_true : {A P : Type 0} (b : Bool) (o : Option A) (x : A) → (b ≡ true → o ≡ Some x → P) → where_true b o ≡ Some x → P
by_true true o x next h = next refl h
by_true false o x next h = absurd (cc h)

by_given : {A B P : Type 0} (o : Option A) (f : A → Option B) (x : B) → ((a : A) → o ≡ Some a → f a ≡ Some x → P) → given o f ≡ Some x → P
by_given None f x next h = absurd (cc h)
by_given (Some a) f x next h = next a refl h

some_is : {A : Type 0} {x y : A} → Some x ≡ Some y → x ≡ y
some_is h = cc h

ready_is : (s : ActorStatus) → is_ready s ≡ true → s ≡ status.Ready
ready_is (status.Waiting n) h = absurd (cc h)
ready_is status.Ready h = refl
ready_is status.Running h = absurd (cc h)
ready_is (status.Parked c) h = absurd (cc h)
ready_is status.Ended h = absurd (cc h)
ready_is status.Poisoned h = absurd (cc h)

running_is : (s : ActorStatus) → is_running s ≡ true → s ≡ status.Running
running_is (status.Waiting n) h = absurd (cc h)
running_is status.Ready h = absurd (cc h)
running_is status.Running h = refl
running_is (status.Parked c) h = absurd (cc h)
running_is status.Ended h = absurd (cc h)
running_is status.Poisoned h = absurd (cc h)

complete_is : (s : ActorStatus) → is_complete s ≡ true → s ≡ status.Waiting 0
complete_is (status.Waiting zero) h = refl
complete_is (status.Waiting (suc n)) h = absurd (cc h)
complete_is status.Ready h = absurd (cc h)
complete_is status.Running h = absurd (cc h)
complete_is (status.Parked c) h = absurd (cc h)
complete_is status.Ended h = absurd (cc h)
complete_is status.Poisoned h = absurd (cc h)

parked_is : (s : ActorStatus) (c : ℕ) → parked_on s ≡ Some c → s ≡ status.Parked c
parked_is (status.Waiting n) c h = absurd (cc h)
parked_is status.Ready c h = absurd (cc h)
parked_is status.Running c h = absurd (cc h)
parked_is (status.Parked d) c h = cc h
parked_is status.Ended c h = absurd (cc h)
parked_is status.Poisoned c h = absurd (cc h)

false_is : (b : Bool) → not b ≡ true → b ≡ false
false_is true h = absurd (cc h)
false_is false h = refl

-- what applies, and is of that item
abbrev Fits : Job → World → Item → Event → Type 0
Fits job w i e = Enabled job w e × (Some i ≡ item_of e)

need_fits : (job : Job) (w : World) (a turns call child : ℕ) (stood : Stood) → StopsAt job w a turns stood → stood.halt ≡ Stands (Needs (Pending call)) →
    (w.actors a).child call ≡ Some child → (o : Option Known) → known_at w (Some child) ≡ o → Fits job w (item.Run a) (known_event a turns call o)
need_fits job w a turns call child stood stops is of None unknown =
    (record { stops = record { stood = stood; stops = stops; is = is }; child = child; of_call = of; unknown = unknown }, refl)
need_fits job w a turns call child stood stops is of (Some known) known_is =
    (record { stops = record { stood = stood; stops = stops; is = is }; known = known; is = subst (λ o. known_at w o ≡ Some known) (sym of) known_is }, refl)

end_fits : (job : Job) (w : World) (a turns : ℕ) (stood : Stood) (ending : Ending) → StopsAt job w a turns stood → ending_at stood.halt ≡ Some ending → MayEnd job w a turns ending stood.frame.state
end_fits job w a turns stood ending stops ends = record { stood = stood; stops = stops; ends = ends; leaves = refl }

at_halt : (job : Job) (w : World) (a turns : ℕ) (stood : Stood) (halt : Halt) (e : Event) → StopsAt job w a turns stood → stood.halt ≡ halt →
    event_at job w a turns stood halt ≡ Some e → Fits job w (item.Run a) e
at_halt job w a turns stood (Stands (Calls member object arguments)) e stops is h =
    by_true (nat_le w.turns job.budget) (Some (Send a turns w.count member object arguments)) e (λ within f. subst (Fits job w (item.Run a)) (some_is f)
    (let r : MaySend job w a turns w.count member object arguments = record { stops = record { stood = stood; stops = stops; is = is }; next = refl; within = leb-true w.turns job.budget within } in (r, refl))) h
at_halt job w a turns stood (Stands (Creates class)) e stops is h =
    let o = object_word (w.actors a).start.number ((w.actors a).made + 1) in
    by_true (nat_le w.turns job.budget) (Some (Create a turns class o)) e (λ within f. subst (Fits job w (item.Run a)) (some_is f)
    (let r : MayCreate job w a turns class o = record { stops = record { stood = stood; stops = stops; is = is }; next = refl; within = leb-true w.turns job.budget within } in (r, refl))) h
at_halt job w a turns stood (Stands (Needs (Pending call))) e stops is h =
    by_given ((w.actors a).child call) (λ child. Some (known_event a turns call (known_at w (Some child)))) e
    (λ child of f. subst (Fits job w (item.Run a)) (some_is f) (need_fits job w a turns call child stood stops is of (known_at w (Some child)) refl)) h
at_halt job w a turns stood (Stands (Needs (Words words))) e stops is h = absurd (cc h)
at_halt job w a turns stood (Stands (Replies value)) e stops is h =
    subst (Fits job w (item.Run a)) (some_is h) (let r : Stops job w a turns (Stands (Replies value)) = record { stood = stood; stops = stops; is = is } in (r, refl))
at_halt job w a turns stood (Stands (Ends line)) e stops is h =
    subst (Fits job w (item.Run a)) (some_is h) (end_fits job w a turns stood (Finishes line) stops (ap ending_at is), refl)
at_halt job w a turns stood (Stands Strays) e stops is h = subst (Fits job w (item.Run a)) (some_is h) (end_fits job w a turns stood (Finishes 0) stops (ap ending_at is), refl)
at_halt job w a turns stood (Stands (Traps trap)) e stops is h =
    subst (Fits job w (item.Run a)) (some_is h) (end_fits job w a turns stood (Fails trap) stops (ap ending_at is), refl)
at_halt job w a turns stood Beats e stops is h =
    by_true (nat_eq turns most_turns) (Some (Beat a)) e (λ same f. subst (Fits job w (item.Run a)) (some_is f)
    (let r : Stops job w a most_turns Beats = record { stood = stood; stops = subst (λ n. StopsAt job w a n stood) (eqb-true turns most_turns same) stops; is = is } in (r, refl))) h

run_fits : (steps : ℕ) (job : Job) (w : World) (a : ℕ) (e : Event) → event_for steps job w (item.Run a) ≡ Some e → Fits job w (item.Run a) e
run_fits steps job w a e h =
    by_true (nat_lt a w.count) (where_true (is_running x.status) (given next (stop_event job w a))) e (λ there f.
    by_true (is_running x.status) (given next (stop_event job w a)) e (λ running g.
    by_given next (stop_event job w a) e (λ stood within k.
    by_true (nat_le x.counted stood.turns) (event_at job w a (stood.turns - x.counted) stood stood.halt) e (λ counted m.
    at_halt job w a (stood.turns - x.counted) stood stood.halt e
    (record {
      there = ltb-true a w.count there;
      running = running_is x.status running;
      halts = record { steps = steps; within = within };
      turns_are = omega (arith, leb-true x.counted stood.turns counted);
    })
    refl m) k) g) f) h where
      x : Actor
      x = w.actors a

      next : Option Stood
      next = next_within steps job.image (w.actors a).start (w.actors a).told

pub fits : (steps : ℕ) (job : Job) (w : World) (i : Item) (e : Event) → event_for steps job w i ≡ Some e → Fits job w i e
fits steps job w (item.Match place) e h = by_given (slice_get w.due place) (λ arc. Some (Match place)) e (λ arc is f. subst (Fits job w (item.Match place)) (some_is f) ((arc, is), refl)) h
fits steps job w (item.Arrive a) e h =
    by_true (nat_lt a w.count) (where_true (is_complete (w.actors a).status) (where_true (not (is_in a w.arrived)) (Some (Arrive a)))) e (λ there f.
    by_true (is_complete (w.actors a).status) (where_true (not (is_in a w.arrived)) (Some (Arrive a))) e (λ complete g.
    by_true (not (is_in a w.arrived)) (Some (Arrive a)) e (λ first k. subst (Fits job w (item.Arrive a)) (some_is k)
    (let r : MayArrive w a = record { there = ltb-true a w.count there; complete = complete_is (w.actors a).status complete; first = false_is (is_in a w.arrived) first } in (r, refl))) g) f) h
fits steps job w (item.Accept o) e h =
    by_given (pick_of job w o) (λ a. Some (Accept o a (length w.accepted + 1))) e (λ a picked f. subst (Fits job w (item.Accept o)) (some_is f)
    (let r : MayAccept job w o a (length w.accepted + 1) = record { picked = picked; next = refl } in (r, refl))) h
fits steps job w (item.Fire a) e h =
    by_true (nat_lt a w.count) (where_true (is_ready (w.actors a).status) (Some (Fire a))) e (λ there f.
    by_true (is_ready (w.actors a).status) (Some (Fire a)) e (λ ready g. subst (Fits job w (item.Fire a)) (some_is g)
    (let r : MayFire w a = record { there = ltb-true a w.count there; ready = ready_is (w.actors a).status ready } in (r, refl))) f) h
fits steps job w (item.Resume a) e h =
    by_true (nat_lt a w.count) (given (parked_on (w.actors a).status) (λ child. given (known_at w (Some child)) (λ known. Some (Resume a)))) e (λ there f.
    by_given (parked_on (w.actors a).status) (λ child. given (known_at w (Some child)) (λ known. Some (Resume a))) e (λ child parked g.
    by_given (known_at w (Some child)) (λ known. Some (Resume a)) e (λ known is k. subst (Fits job w (item.Resume a)) (some_is k)
    (let r : MayResume w a = record { there = ltb-true a w.count there; child = child; parked = parked_is (w.actors a).status child parked; known = known; is = is } in (r, refl))) g) f) h
fits steps job w (item.Run a) e h = run_fits steps job w a e h

-- ---- logs

abbrev chosen : ℕ → Job → World → ℕ → List Item → Option Event
chosen steps job w place [] = Some (Quit machine.Rest)
chosen steps job w place (i ∷ others) = given (slice_get (i ∷ others) place) (event_for steps job w)

abbrev next_going : Bool → ℕ → Job → World → ℕ → Option Event
next_going true steps job w place = Some (Quit machine.Spent)
next_going false steps job w place = chosen steps job w place (going_items job w)

abbrev next_at : MachineStatus → ℕ → Job → World → ℕ → Option Event
next_at machine.Going steps job w place = next_going (nat_lt job.budget w.turns) steps job w place
next_at machine.Rest steps job w place = None
next_at machine.Spent steps job w place = None

abbrev with_event : Log → Option Event → Log
with_event log None = log
with_event log (Some e) = e ∷ log

-- the log by the items at these places, the newest first
abbrev pub grown : ℕ → Job → List ℕ → Log
grown steps job [] = []
grown steps job (place ∷ places) =
    let log = grown steps job places in let w = after job log in with_event log (next_at w.why steps job w place)

-- what the first item is, where the machine goes on
abbrev Chooses : Job → World → ℕ → Event → Type 0
Chooses job w place e = (w.why ≡ machine.Going) × Enabled job w e × (place ≡ 0 → first_item job w ≡ item_of e)

by_items : (steps : ℕ) (job : Job) (w : World) (place : ℕ) (e : Event) → w.why ≡ machine.Going → nat_lt job.budget w.turns ≡ false →
    (is : List Item) → going_items job w ≡ is → chosen steps job w place is ≡ Some e → Chooses job w place e
by_items steps job w place e going within [] is h =
    let none = ap (λ s. items_at s job w) going ∙ is in subst (Chooses job w place) (some_is h)
    (going, (none, ltb-false job.budget w.turns within), λ z. ap₂ (λ (b : Bool) (xs : List Item). cond b None (slice_get xs 0)) within none)
by_items steps job w place e going within (i ∷ others) is h =
    by_given (slice_get (i ∷ others) place) (event_for steps job w) e (λ j at f. let k = fits steps job w j e f in (
      going,
      k.0,
      λ z. ap₂ (λ (b : Bool) (xs : List Item). cond b None (slice_get xs 0)) within (ap (λ s. items_at s job w) going ∙ is)
          ∙ (ap (λ n. slice_get (i ∷ others) n) (sym z) ∙ (at ∙ k.1)),
    )) h

by_turns : (steps : ℕ) (job : Job) (w : World) (place : ℕ) (e : Event) → w.why ≡ machine.Going →
    (b : Bool) → nat_lt job.budget w.turns ≡ b → next_going b steps job w place ≡ Some e → Chooses job w place e
by_turns steps job w place e going true over h =
    subst (Chooses job w place) (some_is h) (going, ltb-true job.budget w.turns over, λ z. ap (λ (b : Bool). cond b None (slice_get (items job w) 0)) over)
by_turns steps job w place e going false within h = by_items steps job w place e going within _ refl h

chooses : (steps : ℕ) (job : Job) (w : World) (place : ℕ) (e : Event) (s : MachineStatus) → w.why ≡ s → next_at s steps job w place ≡ Some e → Chooses job w place e
chooses steps job w place e machine.Going is h = by_turns steps job w place e is _ refl h
chooses steps job w place e machine.Rest is h = absurd (cc h)
chooses steps job w place e machine.Spent is h = absurd (cc h)

one_more : (steps : ℕ) (job : Job) (log : Log) (place : ℕ) → IsLog job log → (o : Option Event) → next_at (after job log).why steps job (after job log) place ≡ o → IsLog job (with_event log o)
one_more steps job log place is None h = is
one_more steps job log place is (Some e) h = let c = chooses steps job (after job log) place e _ refl h in ((c.0, c.1), is)

pub grown_is_log : (steps : ℕ) (job : Job) (places : List ℕ) → IsLog job (grown steps job places)
grown_is_log steps job [] = tt
grown_is_log steps job (place ∷ places) = one_more steps job (grown steps job places) place (grown_is_log steps job places) _ refl

one_first : (steps : ℕ) (job : Job) (log : Log) → ByFirst job log → (o : Option Event) → next_at (after job log).why steps job (after job log) 0 ≡ o → ByFirst job (with_event log o)
one_first steps job log is None h = is
one_first steps job log is (Some e) h = let c = chooses steps job (after job log) 0 e _ refl h in (c.2 refl, is)

pub grown_by_first : (steps : ℕ) (job : Job) (count : ℕ) → ByFirst job (grown steps job (replicate count 0))
grown_by_first steps job zero = tt
grown_by_first steps job (suc count) = one_first steps job (grown steps job (replicate count 0)) (grown_by_first steps job count) _ refl

-- ---- worked logs

-- a log that is found so
pub found : (steps : ℕ) (job : Job) (places : List ℕ) (log : Log) → grown steps job places ≡ log → IsLog job log
found steps job places log is = subst (IsLog job) is (grown_is_log steps job places)

pub found_by_first : (steps : ℕ) (job : Job) (count : ℕ) (log : Log) → grown steps job (replicate count 0) ≡ log → ByFirst job log
found_by_first steps job count log is = subst (ByFirst job) is (grown_by_first steps job count)

abbrev seen_main : Stood → BodyEnd × List ℕ
seen_main stood = (end_at stood.halt, stood.frame.lines)

-- what `main` did, where its next stop is found within so many steps
pub did : (steps : ℕ) (job : Job) (w : World) (end : BodyEnd) (lines : List ℕ) →
    option_map seen_main (next_within steps job.image (w.actors 0).start (w.actors 0).told) ≡ Some (end, lines) → MainDid job w end lines
did steps job w end lines = at (next_within steps job.image (w.actors 0).start (w.actors 0).told) refl where
  at : (o : Option Stood) → next_within steps job.image (w.actors 0).start (w.actors 0).told ≡ o →
      option_map seen_main o ≡ Some (end, lines) → MainDid job w end lines
  at None within h = absurd (cc h)
  at (Some stood) within h = record { stood = stood; halts = record { steps = steps; within = within }; ended = ap (λ (t : BodyEnd × List ℕ). t.0) (some_is h); printed = ap (λ (t : BodyEnd × List ℕ). t.1) (some_is h) }
