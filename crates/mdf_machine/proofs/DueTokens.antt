-- The tokens that are due: what they bring, and where they come.
use Rattle.std.proofs.Common.{◌≡◌, ◌<◌, ◌≤◌, ◌&&◌, ℕ, zero, suc, nat_le, List, ◌∷◌, [], length, map, Option, Some, None, Bool, true, false, refl, sym, ap, ◌∙◌, subst, arith, slice_get}
use Rattle.std.proofs.lemmas.Bool.{leb-true}
use Rattle.std.proofs.lemmas.Option.{slice_get_within}
use Rattle.std.specs.FinMap.{get}
use Rattle.mpl_value.specs.declared.known.Known.{Known}
use Rattle.mpl_value.specs.declared.known.Known.TheVariants.{Value, Trapped}
use Rattle.mpl_value.specs.CallAnswers.{arg_of_reply}
use Rattle.mdf_code.specs.declared.raw.RawImage.{RawImage}
use Rattle.mdf_code.specs.declared.raw.RawMember.{RawMember}
use Rattle.mdf_code.specs.Images.{is_code, is_image, is_member, most_formals, most_words, result_fits}
use Rattle.mdf_code.specs.Parts.{result_words}
use Rattle.mdf_code.specs.Sizes.{ArgFits}
use Rattle.mdf_code.specs.Yields.{words_of_member}
use Rattle.mdf_code.proofs.Passing.{found, parts}
use Rattle.mdf_core.specs.Actors.{Arc, Fate, Open, Is, Forwarded, Target, Port, Result, is_known, known_of}
use Rattle.mdf_core.specs.Arguments.{Leads, LeadsTo}
use Rattle.mdf_core.specs.Enabled.{IsLog}
use Rattle.mdf_core.specs.Steps.{Log, after}
use Rattle.mdf_core.specs.Worlds.{Job, World, fate_at, known_at}
use Rattle.mdf_core.proofs.ArcLists.{every_at}
use Rattle.mdf_core.proofs.Fates.{Fresh, fated, missing_fresh}
use Rattle.mdf_core.proofs.Staging.{as_statuses_say}
use Rattle.mdf_core.proofs.Standing.{stand}
use Rattle.mdf_core.proofs.Timely.{arcs_are_due}
use Rattle.mdf_core.proofs.ToldSo.{so}
use Rattle.mdf_core.proofs.Transitions.{empty_misses}
use Rattle.mdf_core.proofs.TreeOfActors.{tree}
use Rattle.mdf_core.proofs.Wired.{arcs_lead}
use Rattle.mdf_drive.proofs.FittingLogs.{results_fit}
use Rattle.mdf_drive.proofs.Plainness.{made_member}
use Rattle.mdf_future.specs.declared.consumer.Due.{Due}
use Rattle.mdf_match.specs.Data.{HasFewWords}
use Rattle.mdf_match.specs.Ports.{Row as Ports, row_of}
use Rattle.mdf_match.specs.Ports as ports
use Rattle.mdf_machine.specs.declared.parts.Parts.{Parts}
use Rattle.mdf_machine.specs.Internal.Bringing.{MayBring, MayCount}
use Rattle.mdf_machine.specs.Internal.Held.{Holds, Kept, consumer_of, due_of}
use Rattle.mdf_machine.specs.Matching.{IsDueTo}
use Rattle.mdf_machine.proofs.Completing.{empty_there, some_there}
use Rattle.mdf_machine.proofs.Giving.{has_caller, may_give_open}
use Rattle.mdf_machine.proofs.Matched.{taken_of}
use Rattle.mdf_machine.proofs.Seen.{has_ports, ports_there, result_some, running_there}

both_true : (a b : Bool) → (a && b) ≡ true → (a ≡ true) × (b ≡ true)
both_true true b e = (refl, e)
both_true false b e = absurd cc

-- ---- known results are small

few_result : (o : Option ℕ) → result_fits o ≡ true → result_words o ≤ most_words
few_result None h = omega arith
few_result (Some words) h = leb-true words most_words h

few_of_member : (image : RawImage) → is_image image ≡ true → (n : ℕ) (o : Option RawMember) → slice_get image.members n ≡ o → words_of_member o ≤ most_words
few_of_member image is n None at = omega arith
few_of_member image is n (Some m) at =
    let h = found is_member image.members n m (parts image is).members at in
    let a = both_true (nat_le m.formals (length m.body.vars)) (nat_le m.formals most_formals && (result_fits m.result && is_code m.body)) h in
    let b = both_true (nat_le m.formals most_formals) (result_fits m.result && is_code m.body) a.1 in
    few_result m.result (both_true (result_fits m.result) (is_code m.body) b.1).0

few_of : (n : ℕ) (known : Known) → n ≤ most_words → ArgFits n (arg_of_reply (Some known)) → HasFewWords known
few_of n (Value words) few fits = let many : length words ≡ n = fits in omega (arith, many, few)
few_of n (Trapped trap) few fits = omega arith

pub few_known : (job : Job) (log : Log) → is_image job.image ≡ true → IsLog job log → (c : ℕ) (known : Known) → 0 < c → c < (after job log).count → known_at (after job log) (Some c) ≡ Some known → HasFewWords known
few_known job log image is c known first there knows =
    let m = made_member job (after job log) (tree job log is) (so job log is) c first there in
    few_of (words_of_member (slice_get job.image.members m.0)) known (few_of_member job.image image m.0 (slice_get job.image.members m.0) refl)
    (subst (λ o. ArgFits (words_of_member (slice_get job.image.members m.0)) (arg_of_reply o)) knows (results_fit job log is c (record { 0 = m.0 }) there m.1))

-- ---- what is due

pub record IsDue (w : World) (place : ℕ) (d : Due) : Type 0 where
  pub arc : Arc
  pub at : slice_get w.due place ≡ Some arc
  pub is : d ≡ due_of arc

due_in : (arcs : List Arc) (place : ℕ) (d : Due) → slice_get (map due_of arcs) place ≡ Some d → (arc : Arc) × (slice_get arcs place ≡ Some arc) × (d ≡ due_of arc)
due_in [] place d h = absurd (cc h)
due_in (arc ∷ arcs) zero d h = (arc, refl, cc (sym h))
due_in (arc ∷ arcs) (suc place) d h = due_in arcs place d h

none_in : (arcs : List Arc) (place : ℕ) → slice_get (map due_of arcs) place ≡ None → slice_get arcs place ≡ None
none_in [] place h = refl
none_in (arc ∷ arcs) zero h = absurd (cc h)
none_in (arc ∷ arcs) (suc place) h = none_in arcs place h

pub is_due : (job : Job) (w : World) (p : Parts) → Holds job w p → (place : ℕ) (d : Due) → slice_get p.results.due place ≡ Some d → IsDue w place d
is_due job w p h place d is = let e = due_in w.due place d (ap (λ ds. slice_get ds place) (sym h.due) ∙ is) in record { arc = e.0; at = e.1; is = e.2 }

pub none_due : (job : Job) (w : World) (p : Parts) → Holds job w p → (place : ℕ) → slice_get p.results.due place ≡ None → slice_get w.due place ≡ None
none_due job w p h place is = none_in w.due place (ap (λ ds. slice_get ds place) (sym h.due) ∙ is)

pub due_to : (to : Target) → IsDueTo to (consumer_of to)
due_to (Port c port) = refl
due_to (Result a) = refl

known_some : (f : Fate) → is_known f ≡ true → (known : Known) × (known_of f ≡ Some known)
known_some Open is = absurd (cc is)
known_some (Is known) is = (known, refl)
known_some (Forwarded child) is = absurd (cc is)

module _ (job : Job) (log : Log) (is : IsLog job log) (place : ℕ) (arc : Arc) (at : slice_get (after job log).due place ≡ Some arc) where
  pub due_known : (known : Known) × (known_at (after job log) (Some arc.from) ≡ Some known)
  due_known = known_some (fate_at (after job log) arc.from) (every_at (λ (arc : Arc). is_known (fate_at (after job log) arc.from) ≡ true) (after job log).due place arc (arcs_are_due job log is).due at)

  pub due_leads : Leads (after job log) arc
  due_leads = every_at (Leads (after job log)) (after job log).due place arc (arcs_lead job log is).due at

  from_child : (to : Target) → LeadsTo (after job log) arc.from to → (0 < arc.from) × (arc.from < (after job log).count)
  from_child (Port c port) l = let k = (tree job log is).children ((after job log).actors c).call.caller l.call arc.from l.is in (omega (arith, k.newer), k.there)
  from_child (Result a) l = let k = (tree job log is).children a l.call arc.from l.is in (omega (arith, k.newer), k.there)

  pub from_there : (0 < arc.from) × (arc.from < (after job log).count)
  from_there = from_child arc.to due_leads

-- ---- ports

pub fresh_at : (job : Job) (log : Log) → IsLog job log → (c port : ℕ) → slice_get ((after job log).actors c).ports port ≡ Some None → Fresh ((after job log).actors c)
fresh_at job log is c port empty = let m = empty_misses ((after job log).actors c).ports port empty in
    missing_fresh ((after job log).actors c) m.0 (stand job log is c).misses m.1 (fated job log is c)

-- ---- where they may come

module _ (job : Job) (log : Log) (p : Parts) (k : Kept job log p) (place : ℕ) (arc : Arc) (at : slice_get (after job log).due place ≡ Some arc) (known : Known) (knows : known_at (after job log) (Some arc.from) ≡ Some known) where
  abbrev w : World
  w = after job log

  few : HasFewWords known
  few = let f = from_there job log k.is_log place arc at in few_known job log k.image k.is_log arc.from known f.0 f.1 knows

  pub port_within : (c port : ℕ) → LeadsTo (after job log) arc.from (Port c port) → port < length ((after job log).actors c).ports
  port_within c port l = let below = slice_get_within (w.actors c).call.arguments port _ l.at in omega (arith, below, (as_statuses_say job log k.is_log c).member.sized)

  may_count : (c port : ℕ) → LeadsTo (after job log) arc.from (Port c port) → ports.known_at p.ports (record { actor = c; port = port }) ≡ None → MayCount (taken_of p place) c
  may_count c port l empty =
      let same = ports_there job w p k.holds c l.there in
      let within : port < length (row_of p.ports c) = omega (arith, port_within c port l, ap length same) in
      let fresh = fresh_at job log k.is_log c port (ap (λ (r : Ports). slice_get r port) (sym same) ∙ empty_there (row_of p.ports c) port within empty) in
      let called = has_caller job log p k c l.there in
      record {
        status = running_there job w p k.holds c l.there (w.actors c).status refl fresh.over;
        mark = omega (arith, l.there, k.holds.going.length_is);
        there = omega (arith, l.there, k.holds.rows.length_is);
        caller = record { status = called.status; mark = called.mark };
        ports = has_ports job w p k.holds c l.there;
        opened = let e = k.holds.ports.at c l.there in some_there (get p.ports c) e.1;
        may = λ trap. may_give_open job w p k.holds c l.there fresh.fate (Trapped trap);
      }

  may_bring_to : (to : Target) → LeadsTo (after job log) arc.from to → MayBring (taken_of p place) known (consumer_of to)
  may_bring_to (Port c port) l = record {
    few = few;
    within = omega (arith, port_within c port l, ap length (ports_there job w p k.holds c l.there));
    count = may_count c port l;
  }
  may_bring_to (Result a) l = let called = has_caller job log p k a l.there in record {
    few = few;
    there = omega (arith, l.there, k.holds.rows.length_is);
    caller = record { status = called.status; mark = called.mark };
    result = result_some job w p k.holds a l.there;
  }

  pub may_bring : MayBring (taken_of p place) known (consumer_of arc.to)
  may_bring = may_bring_to arc.to (due_leads job log k.is_log place arc at)
