-- What a machine holds behind a token.
use Rattle.std.proofs.Common.{◌≡◌, ◌<◌, ◌≤◌, ◌+◌, ℕ, zero, suc, List, ◌∷◌, [], length, Option, Some, None, Bool, true, false, refl, sym, ap, ◌∙◌, subst, arith, slice_get, slice_set, slice_index_or}
use Rattle.std.specs.Prelude.{is_some, unwrap_or}
use Rattle.std.specs.FinMap.{get, insert}
use Rattle.mpl_value.specs.declared.known.Known.{Known}
use Rattle.mpl_value.specs.declared.known.Trap.{Trap}
use Rattle.mpl_value.specs.CallAnswers.{leftmost_trap}
use Rattle.mdf_core.specs.declared.status.MachineStatus.TheVariants.{Going}
use Rattle.mdf_core.specs.Actors.{Arc, Fate, Open, Is, Forwarded, Target, Port, Result, arguments_of}
use Rattle.mdf_core.specs.Arguments.{LeadsTo}
use Rattle.mdf_core.specs.Events.{Match}
use Rattle.mdf_core.specs.Steps.{Log, after, becomes_forwarded, brings, brings_known, fills_port, matches}
use Rattle.mdf_core.specs.Worlds.{Job, World, fate_at, known_at}
use Rattle.mdf_core.proofs.Changes.{MissesAt}
use Rattle.mdf_core.proofs.Standing.{stand}
use Rattle.mdf_core.proofs.Transitions.{empty_misses}
use Rattle.mdf_future.specs.declared.future.Fate.{Fate as KeptFate}
use Rattle.mdf_future.specs.declared.future.Fate.TheVariants as fate
use Rattle.mdf_future.specs.declared.future.Future.{Future}
use Rattle.mdf_match.specs.declared.token.Tag.{Tag}
use Rattle.mdf_match.specs.Ports.{Row as Ports, missing_in, row_of}
use Rattle.mdf_match.specs.Ports as ports
use Rattle.mdf_machine.specs.declared.parts.Parts.{Parts}
use Rattle.mdf_machine.specs.Internal.Held.{Holds, Kept, consumer_of, kept_fate}
use Rattle.mdf_machine.specs.Internal.Matching as parts
use Rattle.mdf_machine.specs.Internal.Matching.{brought, counted, filled_if, followed_at, followed_by, waiting_for}
use Rattle.mdf_machine.proofs.DueTokens.{due_leads, port_within}
use Rattle.mdf_machine.proofs.Giving.{caller_there, callers_wait}
use Rattle.mdf_machine.proofs.Keeping.{kept_then}
use Rattle.mdf_machine.proofs.Keyed.{inserted_here}
use Rattle.mdf_machine.proofs.KnownResults.{settles_holds}
use Rattle.mdf_machine.proofs.Matched.{fills_holds, stays_out, taken_holds, taken_in, taken_of}
use Rattle.mdf_machine.proofs.Seen.{plain_there, ports_there, result_there}

-- ---- ports

index_is : {A : Type 0} (xs : List A) (i : ℕ) (d x : A) → slice_get xs i ≡ Some x → slice_index_or xs i d ≡ x
index_is [] i d x h = absurd (cc h)
index_is (y ∷ xs) zero d x h = cc h
index_is (y ∷ xs) (suc i) d x h = index_is xs i d x h

none_within : {A : Type 0} (xs : List A) (i : ℕ) → slice_get xs i ≡ None → length xs ≤ i
none_within [] i h = omega arith
none_within (x ∷ xs) zero h = absurd (cc h)
none_within (x ∷ xs) (suc i) h = let rest = none_within xs i h in omega (arith, rest)

-- the ports of an actor are counted behind a token
counted_is : (q : Parts) (c port : ℕ) (known : Known) (r : Ports) → row_of q.ports c ≡ r →
    filled_if false q (record { actor = c; port = port }) known ≡ waiting_for (record q { ports = insert q.ports c (slice_set r port (Some known)) }) c (slice_set r port (Some known)) (missing_in (slice_set r port (Some known)))
counted_is q c port known r is =
    ap (λ (r : Ports). counted (record q { ports = insert q.ports c (slice_set r port (Some known)) }) c) is
    ∙ ap (λ (row : Ports). waiting_for (record q { ports = insert q.ports c (slice_set r port (Some known)) }) c row (missing_in row)) (ap (λ o. unwrap_or o []) (inserted_here q.ports c (slice_set r port (Some known))))

-- ---- no frame begins

completed_fired : (q : Parts) (c : ℕ) (t : Option Trap) → (parts.completed q c t).fired ≡ q.fired
completed_fired q c None = refl
completed_fired q c (Some trap) = refl

waiting_fired : (q : Parts) (c : ℕ) (row : Ports) (n : ℕ) → (waiting_for q c row n).fired ≡ q.fired
waiting_fired q c row zero = completed_fired q c (leftmost_trap (arguments_of row))
waiting_fired q c row (suc n) = refl

filled_fired : (b : Bool) (q : Parts) (tag : Tag) (known : Known) → (filled_if b q tag known).fired ≡ q.fired
filled_fired true q tag known = refl
filled_fired false q tag known = let r = record q { ports = ports.filled q.ports (record { tag = tag; known = known }) } in waiting_fired r tag.actor (row_of r.ports tag.actor) (missing_in (row_of r.ports tag.actor))

followed_by_fired : (q : Parts) (a : ℕ) (known : Known) (f : KeptFate) → (followed_by q a known f).fired ≡ q.fired
followed_by_fired q a known fate.Open = refl
followed_by_fired q a known (fate.Known other) = refl
followed_by_fired q a known (fate.Forwarded child) = refl

followed_fired : (q : Parts) (a : ℕ) (known : Known) (o : Option Future) → (followed_at q a known o).fired ≡ q.fired
followed_fired q a known None = refl
followed_fired q a known (Some future) = followed_by_fired q a known future.fate

-- ---- the event

module _ (job : Job) (log : Log) (p : Parts) (k : Kept job log p) (place : ℕ) (arc : Arc) (at : slice_get (after job log).due place ≡ Some arc) (known : Known) where
  abbrev w : World
  w = after job log

  abbrev u : World
  u = taken_in (after job log) place

  abbrev q : Parts
  q = taken_of p place

  taken : Holds job (taken_in (after job log) place) (taken_of p place)
  taken = taken_holds job w p place k.holds

  fills : (c port : ℕ) → LeadsTo (after job log) arc.from (Port c port) → (knows : known_at (after job log) (Some arc.from) ≡ Some known) → (o : Option (Option Known)) → slice_get ((after job log).actors c).ports port ≡ o →
      Holds job (fills_port c port known o (taken_in (after job log) place)) (brought (taken_of p place) known (consumer_of (Port c port)))
  fills c port l knows None is = absurd (omega (arith, none_within (w.actors c).ports port is, port_within job log p k place arc at known knows c port l))
  fills c port l knows (Some (Some other)) is =
      subst (λ (b : Bool). Holds job u (filled_if b q (record { actor = c; port = port }) known))
      (sym (ap is_some (ap (λ (r : Ports). slice_index_or r port None) (ports_there job w p k.holds c l.there) ∙ index_is (w.actors c).ports port None (Some other) is))) taken
  fills c port l knows (Some None) is = let m = empty_misses (w.actors c).ports port is in
      subst (λ (r : Parts). Holds job (fills_port c port known (Some None) u) r)
      (sym (ap (λ (b : Bool). filled_if b q (record { actor = c; port = port }) known) (ap is_some (ap (λ (r : Ports). slice_index_or r port None) (ports_there job w p k.holds c l.there) ∙ index_is (w.actors c).ports port None None is))
      ∙ counted_is q c port known (w.actors c).ports (ports_there job w p k.holds c l.there)))
      (fills_holds job u q c port known taken l.there (plain_there job log p k c l.there) (stays_out u (w.actors c).status m.0 (subst (MissesAt (w.actors c).status) m.1 (stand job log k.is_log c).misses))
      (callers_wait job log k.is_log c) (caller_there job log k.is_log c l.there))

  follows : (a : ℕ) → a < (after job log).count → (f : Fate) → Holds job (becomes_forwarded a known f (taken_in (after job log) place)) (followed_by (taken_of p place) a known (kept_fate f))
  follows a there Open = taken
  follows a there (Is other) = taken
  follows a there (Forwarded child) = settles_holds job u q a known taken there (callers_wait job log k.is_log a) (caller_there job log k.is_log a there)

  brings_to : (to : Target) → LeadsTo (after job log) arc.from to → known_at (after job log) (Some arc.from) ≡ Some known → Holds job (brings known to (taken_in (after job log) place)) (brought (taken_of p place) known (consumer_of to))
  brings_to (Port c port) l knows = fills c port l knows (slice_get (w.actors c).ports port) refl
  brings_to (Result a) l knows = subst (λ (o : Option Future). Holds job (becomes_forwarded a known (fate_at w a) u) (followed_at q a known o)) (sym (result_there job w p k.holds a l.there)) (follows a l.there (fate_at w a))

  brought_fired : (to : Target) → (brought (taken_of p place) known (consumer_of to)).fired ≡ p.fired + 0
  brought_fired (Port c port) = filled_fired (is_some (ports.known_at p.ports (record { actor = c; port = port }))) q (record { actor = c; port = port }) known ∙ omega arith
  brought_fired (Result a) = followed_fired q a known (get q.results.results a) ∙ omega arith

  pub matched_kept : (now : Log) → now ≡ Match place ∷ log → (after job log).why ≡ Going → known_at (after job log) (Some arc.from) ≡ Some known → Kept job now (brought (taken_of p place) known (consumer_of arc.to))
  matched_kept now is going knows = subst (λ l. Kept job l (brought q known (consumer_of arc.to))) (sym is)
      (kept_then job log (Match place) p (brought q known (consumer_of arc.to)) k going (arc, at)
      (subst (λ o. Holds job (matches place o w) (brought q known (consumer_of arc.to))) (sym at)
      (subst (λ o. Holds job (brings_known o arc.to u) (brought q known (consumer_of arc.to))) (sym knows)
      (brings_to arc.to (due_leads job log k.is_log place arc at) knows)))
      (brought_fired arc.to))
