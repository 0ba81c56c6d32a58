-- What the parts tell of the world.
use Rattle.std.proofs.Common.{◌≡◌, ◌<◌, ◌≤◌, ◌+◌, ℕ, List, length, Option, Some, None, refl, sym, ap, ◌∙◌, subst, arith, slice_get}
use Rattle.std.specs.Prelude.{IsSome, IsSomeAnd, false}
use Rattle.std.specs.Option.{option_and_then, option_map}
use Rattle.std.specs.FinMap.{get}
use Rattle.mpl_value.specs.declared.known.Known.{Known}
use Rattle.mdf_actor.specs.declared.status.ActorStatus.{ActorStatus}
use Rattle.std.specs.Prelude.{unwrap_or, []}
use Rattle.mdf_actor.specs.declared.status.ActorStatus.TheVariants as status
use Rattle.mdf_actor.specs.Statuses.{is_over}
use Rattle.mdf_code.specs.Alone.{Pending}
use Rattle.mdf_code.specs.Frames.{Needs}
use Rattle.mdf_code.specs.Told.{Stands, Stood}
use Rattle.mdf_core.specs.Actors.{Actor, is_post, port_words, Fate, Open, Is, Forwarded, known_of}
use Rattle.mdf_core.specs.Enabled.{IsLog, StopsAt}
use Rattle.mdf_core.specs.Stages.{Halted, HaltsParked, HasArguments, HasMember, OfMain, OfMember, Starts, StartsAs, StartsPlain}
use Rattle.mdf_core.specs.Steps.{Log, after}
use Rattle.mdf_core.specs.Trees.{IsChild, IsTree}
use Rattle.mdf_core.specs.Worlds.{Job, World, fate_at, known_at}
use Rattle.mdf_core.proofs.Staging.{as_statuses_say}
use Rattle.mdf_core.proofs.ToldSo.{so}
use Rattle.mdf_core.proofs.TreeOfActors.{tree}
use Rattle.mdf_drive.proofs.Plainness.{all_plain, main_call_is}
use Rattle.mdf_match.specs.Ports.{row_of}
use Rattle.mdf_drive.specs.Handing.{HandsOut, IsOfCall}
use Rattle.mdf_drive.proofs.HandedOut.{hands_out_little}
use Rattle.mdf_future.specs.Results as results
use Rattle.mdf_future.specs.declared.future.ResultState.{ResultState}
use Rattle.mdf_future.specs.declared.future.ResultState.TheVariants as state
use Rattle.mdf_future.specs.declared.future.Future.{Future}
use Rattle.mdf_machine.specs.declared.parts.Parts.{Parts}
use Rattle.mdf_machine.specs.declared.rows.Row.{Row}
use Rattle.mdf_machine.specs.Internal.Children.{child_in}
use Rattle.mdf_machine.specs.Internal.Held.{HasFrame, Holds, Kept, PutAway, RowOf, consumers_in, kept_fate}
use Rattle.mdf_machine.specs.Internal.Rows.{child_at, frame_at}
use Rattle.mdf_machine.specs.Internal.Starting.{HasPorts, start_by, start_in, start_of}
use Rattle.mdf_machine.proofs.Changed.{has_item}

pub row_there : (job : Job) (w : World) (p : Parts) → Holds job w p → (a : ℕ) → a < w.count → (row : Row) × (slice_get p.rows a ≡ Some row) × RowOf job (w.actors a) row
row_there job w p h a there = let i = has_item p.rows a (omega (arith, there, h.rows.length_is)) in (i.0, i.1, h.rows.at a i.0 i.1)

pub child_is : (job : Job) (w : World) (p : Parts) → Holds job w p → (a call : ℕ) → a < w.count → child_at p.rows a call ≡ (w.actors a).child call
child_is job w p h a call there = let i = row_there job w p h a there in ap (option_and_then (λ (row : Row). child_in row.children call)) i.1 ∙ i.2.children call

pub status_is : (job : Job) (w : World) (p : Parts) → Holds job w p → (a : ℕ) (s : ActorStatus) → slice_get p.statuses a ≡ Some s → s ≡ (w.actors a).status
status_is job w p h a s is = h.statuses.at a s is

pub status_there : (job : Job) (w : World) (p : Parts) → Holds job w p → (a : ℕ) → a < w.count → slice_get p.statuses a ≡ Some (w.actors a).status
status_there job w p h a there = let i = has_item p.statuses a (omega (arith, there, h.statuses.length_is)) in i.1 ∙ ap Some (h.statuses.at a i.0 i.1)

kept_known : (f : Fate) → results.known_of (kept_fate f) ≡ known_of f
kept_known Open = refl
kept_known (Is known) = refl
kept_known (Forwarded c) = refl

pub result_there : (job : Job) (w : World) (p : Parts) → Holds job w p → (c : ℕ) → c < w.count → get p.results.results c ≡ Some (record { fate = kept_fate (fate_at w c); consumers = consumers_in w.waits c })
result_there job w p h c there = let e = h.results.at c there in e.1 ∙ ap Some e.2

pub known_is : (job : Job) (w : World) (p : Parts) → Holds job w p → (c : ℕ) → c < w.count → results.known_at p.results c ≡ known_at w (Some c)
known_is job w p h c there = ap (option_and_then (λ (f : Future). results.known_of f.fate)) (result_there job w p h c there) ∙ kept_known (fate_at w c)

-- the actor of a call is there
pub child_there : (job : Job) (log : Log) → IsLog job log → (a call c : ℕ) → ((after job log).actors a).child call ≡ Some c → IsChild (after job log) a call c
child_there job log is a call c found = (tree job log is).children a call c found

pub known_of_call_is : (job : Job) (log : Log) (p : Parts) → Kept job log p → (a call : ℕ) → a < (after job log).count →
    option_and_then (results.known_at p.results) (child_at p.rows a call) ≡ known_at (after job log) (((after job log).actors a).child call)
known_of_call_is job log p k a call there = ap (option_and_then (results.known_at p.results)) (child_is job (after job log) p k.holds a call there) ∙ at (((after job log).actors a).child call) refl where
  at : (o : Option ℕ) → ((after job log).actors a).child call ≡ o → option_and_then (results.known_at p.results) o ≡ known_at (after job log) o
  at None is = refl
  at (Some c) is = known_is job (after job log) p k.holds c (child_there job log k.is_log a call c is).there

-- ---- what is told of a result

known_state : (f : Fate) → state.Known ≡ results.state_of (kept_fate f) → known_of f ≡ None → ⊥
known_state Open is none = cc is
known_state (Is known) is none = cc none
known_state (Forwarded c) is none = cc is

unknown_state : (f : Fate) (s : ResultState) → (s ≡ state.Known → ⊥) → s ≡ results.state_of (kept_fate f) → known_of f ≡ None
unknown_state Open s differ is = refl
unknown_state (Is known) s differ is = absurd (differ is)
unknown_state (Forwarded c) s differ is = refl

state_is : (job : Job) (w : World) (p : Parts) → Holds job w p → (c : ℕ) (s : ResultState) → c < w.count → option_map (λ (f : Future). results.state_of f.fate) (get p.results.results c) ≡ Some s → s ≡ results.state_of (kept_fate (fate_at w c))
state_is job w p h c s there is = let e = sym is ∙ ap (option_map (λ (f : Future). results.state_of f.fate)) (result_there job w p h c there) in cc e

pub is_known_there : (job : Job) (w : World) (p : Parts) → Holds job w p → (c : ℕ) (s : ResultState) → c < w.count → option_map (λ (f : Future). results.state_of f.fate) (get p.results.results c) ≡ Some s → s ≡ state.Known → known_at w (Some c) ≡ None → ⊥
is_known_there job w p h c s there is known = known_state (fate_at w c) (sym known ∙ state_is job w p h c s there is)

known_value : (f : Fate) → state.Known ≡ results.state_of (kept_fate f) → (known : Known) × (known_of f ≡ Some known)
known_value Open is = absurd (cc is)
known_value (Is known) is = (known, refl)
known_value (Forwarded c) is = absurd (cc is)

pub value_there : (job : Job) (w : World) (p : Parts) → Holds job w p → (c : ℕ) (s : ResultState) → c < w.count → option_map (λ (f : Future). results.state_of f.fate) (get p.results.results c) ≡ Some s → s ≡ state.Known → (known : Known) × (known_at w (Some c) ≡ Some known)
value_there job w p h c s there is known = known_value (fate_at w c) (sym known ∙ state_is job w p h c s there is)

pub is_unknown_there : (job : Job) (w : World) (p : Parts) → Holds job w p → (c : ℕ) (s : ResultState) → c < w.count → option_map (λ (f : Future). results.state_of f.fate) (get p.results.results c) ≡ Some s → (s ≡ state.Known → ⊥) → known_at w (Some c) ≡ None
is_unknown_there job w p h c s there is differ = unknown_state (fate_at w c) s differ (state_is job w p h c s there is)

some_there : {A : Type 0} (o : Option A) {x : A} → o ≡ Some x → IsSome o
some_there None is = absurd (cc is)
some_there (Some x) is = refl

pub result_some : (job : Job) (w : World) (p : Parts) → Holds job w p → (c : ℕ) → c < w.count → IsSome (get p.results.results c)
result_some job w p h c there = some_there (get p.results.results c) (result_there job w p h c there)

-- ---- frames that need a result

pub needs_call : (job : Job) (log : Log) (p : Parts) → Kept job log p → (a turns call : ℕ) (stood : Stood) → StopsAt job (after job log) a turns stood → stood.halt ≡ Stands (Needs (Pending call)) → IsOfCall (after job log) a call
needs_call job log p k a turns call stood stops is = subst (HandsOut (after job log) a) is (hands_out_little job log k.image k.is_log a turns stood stops)

-- ---- statuses

pub running_there : (job : Job) (w : World) (p : Parts) → Holds job w p → (a : ℕ) → a < w.count → (s : ActorStatus) → (w.actors a).status ≡ s → is_over s ≡ false → IsSomeAnd (slice_get p.statuses a) (λ kept. is_over kept ≡ false)
running_there job w p h a there s is lasts = subst (λ o. IsSomeAnd o (λ kept. is_over kept ≡ false)) (sym (status_there job w p h a there ∙ ap Some is)) lasts

-- ---- frames that were put away

pub parked_child : (job : Job) (log : Log) → IsLog job log → (a child : ℕ) → ((after job log).actors a).status ≡ status.Parked child → child < (after job log).count
parked_child job log is a child parked = let halted : HaltsParked job ((after job log).actors a) child = subst (Halted job ((after job log).actors a)) parked (as_statuses_say job log is a).halted in
    (child_there job log is a halted.call child halted.is).there

pub frame_there : (job : Job) (w : World) (p : Parts) → Holds job w p → (a child : ℕ) → a < w.count → (w.actors a).status ≡ status.Parked child → PutAway job (w.actors a) (frame_at p.rows a)
frame_there job w p h a child there parked = let i = row_there job w p h a there in
    let put : PutAway job (w.actors a) i.0.frame = subst (λ s. HasFrame job (w.actors a) s i.0.frame) parked i.2.frame in
    record { frame = put.frame; is = ap (option_and_then (λ (row : Row). row.frame)) i.1 ∙ put.is; stood = put.stood; stands = put.stands }

-- ---- starts

pub ports_there : (job : Job) (w : World) (p : Parts) → Holds job w p → (a : ℕ) → a < w.count → row_of p.ports a ≡ (w.actors a).ports
ports_there job w p h a there = let e = h.ports.at a there in ap (λ o. unwrap_or o []) e.1 ∙ e.2

pub has_ports : (job : Job) (w : World) (p : Parts) → Holds job w p → (a : ℕ) → a < w.count → HasPorts p a
has_ports job w p h a there row is = (h.rows.at a row is).ports ∙ ap length (sym (ports_there job w p h a there))

pub plain_there : (job : Job) (log : Log) (p : Parts) → Kept job log p → (a : ℕ) → a < (after job log).count → is_post ((after job log).actors a).call ≡ false
plain_there job log p k a there = all_plain job (after job log) k.plain (tree job log k.is_log) (as_statuses_say job log k.is_log) (so job log k.is_log) (main_call_is job log k.is_log) a there

plain_start : (job : Job) (x : Actor) → HasMember job x → StartsPlain job x.call x.ports x.start → start_of x.call.member (port_words x.ports) job.input ≡ x.start
plain_start job x m (OfMain none start) = ap (λ o. start_of o (port_words x.ports) job.input) none ∙ ap (λ ports. start_of None (port_words ports) job.input) (m.alone none) ∙ sym start
plain_start job x m (OfMember member is start) = ap (λ o. start_of o (port_words x.ports) job.input) is ∙ sym start

pub start_is : (job : Job) (log : Log) (p : Parts) → Kept job log p → (a : ℕ) → a < (after job log).count → ((after job log).actors a).status ≡ status.Ready → start_in p job.input a ≡ ((after job log).actors a).start
start_is job log p k a there ready =
    let i = row_there job (after job log) p k.holds a there in
    let s = as_statuses_say job log k.is_log a in
    let starts : Starts job ((after job log).actors a) = subst (HasArguments job ((after job log).actors a)) ready s.arguments in
    ap (start_by p job.input a) i.1 ∙ ap (λ m. start_of m (port_words (row_of p.ports a)) job.input) i.2.member
    ∙ ap (λ ports. start_of ((after job log).actors a).call.member (port_words ports) job.input) (ports_there job (after job log) p k.holds a there)
    ∙ plain_start job ((after job log).actors a) s.member (subst (StartsAs job ((after job log).actors a).call ((after job log).actors a).ports ((after job log).actors a).start) (plain_there job log p k a there) starts.start)
