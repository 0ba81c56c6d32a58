-- A frame comes to its end.
use Rattle.std.proofs.Common.{◌≡◌, ◌<◌, ◌+◌, ℕ, ℤ, List, ◌∷◌, cond, Option, Some, None, Bool, true, false, refl, sym, ap, ◌∙◌, subst, arith, nat_eq, eqb-true, slice_get}
use Rattle.std.specs.Prelude.{IfSome, IsTrue}
use Rattle.std.specs.FinMap.{get}
use Rattle.std.proofs.lemmas.List.{length-set}
use Rattle.mpl_value.specs.declared.body.BodyEnd.{BodyEnd}
use Rattle.mpl_value.specs.declared.body.BodyResult.{BodyResult}
use Rattle.mpl_value.specs.declared.body.BodyResult.TheVariants as result
use Rattle.mpl_value.specs.declared.body.MemberId.{MemberId}
use Rattle.mpl_value.specs.declared.known.Known.{Known}
use Rattle.mpl_value.specs.declared.known.Trap.{Trap}
use Rattle.mdf_actor.specs.declared.status.ActorStatus.TheVariants as status
use Rattle.mdf_code.specs.declared.raw.RawMember.{RawMember}
use Rattle.mdf_code.specs.Frames.{Calls, Creates, Ends, Needs, Replies, Strays, Traps}
use Rattle.mdf_code.specs.Told.{Beats, Halt, Stands}
use Rattle.mdf_code.specs.Yields.{missed, missed_at, missed_by, result_at_trap}
use Rattle.mdf_core.specs.declared.status.MachineStatus.TheVariants.{Going}
use Rattle.mdf_core.specs.Actors.{Actor, Call, Fate, Open, Is, Forwarded, is_post}
use Rattle.mdf_core.specs.Enabled.{MayEnd, ending_at}
use Rattle.mdf_core.specs.Events.{End, Ending, Fails, Finishes}
use Rattle.mdf_core.specs.Rest.{end_at}
use Rattle.mdf_core.specs.Steps.{Log, after, becomes_result, ends, finishes, frees_object, result_at_end, unless_given}
use Rattle.mdf_core.specs.Worlds.{Job, World, acts, fate_at, spends}
use Rattle.mdf_future.specs.declared.future.Give.TheVariants as give
use Rattle.mdf_future.specs.Results as results
use Rattle.mdf_match.specs.Data.{HasFewWords}
use Rattle.mdf_vm.specs.declared.frame.Frame as frames
use Rattle.mdf_vm.specs.Ends.{line_at, trap_at}
use Rattle.mdf_vm.specs.Standing.{alone_of, last_at}
use Rattle.mdf_vm.specs.Standing as standing
use Rattle.mdf_machine.specs.declared.parts.Parts.{Parts}
use Rattle.mdf_machine.specs.Ending.{ComesToAnEnd}
use Rattle.mdf_machine.specs.Internal.Ending as left
use Rattle.mdf_machine.specs.Internal.Ending.{end_of, finished, known_in, left_at_end, left_by, result_by, with_ended, with_known_if, with_main_if}
use Rattle.mdf_machine.specs.Internal.Happened.{ending_of}
use Rattle.mdf_machine.specs.Internal.Held.{Holds, Kept, MainEnded, MainIs, RowOf, kept_fate}
use Rattle.mdf_machine.specs.Internal.Settling.{HasCaller}
use Rattle.mdf_machine.proofs.Acting.{acts_holds}
use Rattle.mdf_machine.proofs.Callers.{callers_one}
use Rattle.mdf_machine.proofs.Giving.{caller_there, callers_wait, may_give_open}
use Rattle.mdf_machine.proofs.Keeping.{kept_then}
use Rattle.mdf_machine.proofs.KnownResults.{CallersWait, settles_holds}
use Rattle.mdf_machine.proofs.One.{One, acts_one, each_one, each_one_set, fates_one, marks_one_set}
use Rattle.mdf_machine.proofs.Seen.{plain_there, result_there, row_there}

-- ---- what is left of a frame

pub has_ended : (halt : Halt) (ending : Ending) → ending_at halt ≡ Some ending → standing.HasEnded (last_at halt)
has_ended (Stands (Ends line)) ending is = tt
has_ended (Stands Strays) ending is = tt
has_ended (Stands (Traps trap)) ending is = tt
has_ended (Stands (Calls member object arguments)) ending is = absurd (cc is)
has_ended (Stands (Needs value)) ending is = absurd (cc is)
has_ended (Stands (Replies value)) ending is = absurd (cc is)
has_ended (Stands (Creates class)) ending is = absurd (cc is)
has_ended Beats ending is = absurd (cc is)

some_is : {A : Type 0} {a b : A} → Some a ≡ Some b → a ≡ b
some_is e = cc e

ending_is : (halt : Halt) (ending : Ending) → ending_at halt ≡ Some ending → ending_of (trap_at (last_at halt)) (line_at (last_at halt)) ≡ ending
ending_is (Stands (Ends line)) ending is = some_is is
ending_is (Stands Strays) ending is = some_is is
ending_is (Stands (Traps trap)) ending is = some_is is
ending_is (Stands (Calls member object arguments)) ending is = absurd (cc is)
ending_is (Stands (Needs value)) ending is = absurd (cc is)
ending_is (Stands (Replies value)) ending is = absurd (cc is)
ending_is (Stands (Creates class)) ending is = absurd (cc is)
ending_is Beats ending is = absurd (cc is)

end_is : (halt : Halt) (ending : Ending) → ending_at halt ≡ Some ending → end_of (trap_at (last_at halt)) ≡ end_at halt
end_is (Stands (Ends line)) ending is = refl
end_is (Stands Strays) ending is = refl
end_is (Stands (Traps trap)) ending is = refl
end_is (Stands (Calls member object arguments)) ending is = absurd (cc is)
end_is (Stands (Needs value)) ending is = absurd (cc is)
end_is (Stands (Replies value)) ending is = absurd (cc is)
end_is (Stands (Creates class)) ending is = absurd (cc is)
end_is Beats ending is = absurd (cc is)

module _ (job : Job) (w : World) (a t : ℕ) (f : frames.Frame) (c : ComesToAnEnd job w a t f) where
  pub frame_ended : standing.HasEnded f.last
  frame_ended = subst standing.HasEnded (sym c.stands.last) (has_ended c.stood.halt c.ending c.ends)

  pub frame_ending : ending_of (trap_at f.last) (line_at f.last) ≡ c.ending
  frame_ending = ap (λ last. ending_of (trap_at last) (line_at last)) c.stands.last ∙ ending_is c.stood.halt c.ending c.ends

  pub frame_main : MainEnded job (w.actors a) f.running.lines (end_of (trap_at f.last))
  frame_main = record {
    stood = c.stood;
    halts = c.stops.halts;
    lines_are = ap (λ g. g.lines) c.stands.frame;
    end_is = ap (λ last. end_of (trap_at last)) c.stands.last ∙ end_is c.stood.halt c.ending c.ends;
  }

  pub frame_state : f.running.state ≡ c.stood.frame.state
  frame_state = ap (λ g. g.state) c.stands.frame

  pub may_end : MayEnd job w a t c.ending f.running.state
  may_end = record { stood = c.stood; stops = c.stops; ends = c.ends; leaves = sym frame_state }

-- ---- what the result becomes

result_is : (job : Job) (x : Actor) (member : Option MemberId) (trap : Option Trap) (line : ℕ) → member ≡ x.call.member → result_by job.image member trap line ≡ result_at_end job x (ending_of trap line)
result_is job x member None line is = ap (missed_at job.image line) is
result_is job x member (Some trap) line is = ap (λ m. result_at_trap m trap result.Open) is

pub left_is : (job : Job) (w : World) (p : Parts) → Holds job w p → (a : ℕ) → a < w.count → (trap : Option Trap) (line : ℕ) →
    left_at_end job.image p a trap line ≡ left.unless_given (kept_fate (fate_at w a)) (known_in (result_at_end job (w.actors a) (ending_of trap line)))
left_is job w p h a there trap line =
    let i = row_there job w p h a there in
    ap (λ o. left_by job.image trap line o (get p.results.results a)) i.1 ∙ ap (left_by job.image trap line (Some i.0)) (result_there job w p h a there)
    ∙ ap (λ r. left.unless_given (kept_fate (fate_at w a)) (known_in r)) (result_is job (w.actors a) i.0.member trap line i.2.member)

-- ---- what the code asks for

module _ (k : Known) where
  if_open : (f : Fate) (r : BodyResult) → left.unless_given (kept_fate f) (known_in r) ≡ Some k → (f ≡ Open) × (r ≡ result.Known k)
  if_open Open result.Open is = absurd (cc is)
  if_open Open (result.Known known) is = (refl, ap result.Known (some_is is))
  if_open Open result.Unknown is = absurd (cc is)
  if_open (Is known) r is = absurd (cc is)
  if_open (Forwarded child) r is = absurd (cc is)

abbrev FewLeft : BodyResult → Type 0
FewLeft result.Open = Unit {0}
FewLeft (result.Known known) = HasFewWords known
FewLeft result.Unknown = Unit {0}

few_missed : (line : ℕ) (words : Option ℕ) → FewLeft (missed line words)
few_missed line None = omega arith
few_missed line (Some words) = omega arith

few_by : (line : ℕ) (member : Option RawMember) → FewLeft (missed_by line member)
few_by line None = tt
few_by line (Some m) = few_missed line m.result

few_at : (job : Job) (x : Actor) (member : Option MemberId) (ending : Ending) → x.call.member ≡ member → FewLeft (result_at_end job x ending)
few_at job x None (Finishes line) is = subst (λ m. FewLeft (missed_at job.image line m)) (sym is) tt
few_at job x (Some member) (Finishes line) is = subst (λ m. FewLeft (missed_at job.image line m)) (sym is) (few_by line (slice_get job.image.members member.0))
few_at job x None (Fails trap) is = subst (λ m. FewLeft (result_at_trap m trap result.Open)) (sym is) tt
few_at job x (Some member) (Fails trap) is = subst (λ m. FewLeft (result_at_trap m trap result.Open)) (sym is) (omega arith)

if_some : {A : Type 0} (P : A → Type 0) (o : Option A) → ((x : A) → o ≡ Some x → P x) → IfSome o P
if_some P None each = tt
if_some P (Some x) each = each x refl

module _ (job : Job) (w : World) (p : Parts) (h : Holds job w p) (a : ℕ) (there : a < w.count) (trap : Option Trap) (line : ℕ) where
  abbrev becomes_known : Option Known
  becomes_known = left_at_end job.image p a trap line

  opened : (k : Known) → left_at_end job.image p a trap line ≡ Some k → (fate_at w a ≡ Open) × (result_at_end job (w.actors a) (ending_of trap line) ≡ result.Known k)
  opened k is = if_open k (fate_at w a) (result_at_end job (w.actors a) (ending_of trap line)) (sym (left_is job w p h a there trap line) ∙ is)

  pub left_few : IfSome (left_at_end job.image p a trap line) HasFewWords
  left_few = if_some HasFewWords becomes_known (λ k is. subst FewLeft (opened k is).1 (few_at job (w.actors a) (w.actors a).call.member (ending_of trap line) refl))

  pub left_may : IfSome (left_at_end job.image p a trap line) (λ k. IsTrue (results.may_give p.results a (give.Known k)))
  left_may = if_some (λ k. IsTrue (results.may_give p.results a (give.Known k))) becomes_known (λ k is. may_give_open job w p h a there (opened k is).0 k)

-- ---- the event

module _ (job : Job) (w : World) (p : Parts) (a t : ℕ) (h : Holds job w p) where
  y : Actor
  y = spends t (ends t (w.actors a))

  abbrev v : World
  v = acts a t (ends t) w

  one : One a (spends t (ends t (w.actors a))) w (acts a t (ends t) w)
  one = acts_one a t (ends t) w

  main_ended : (lines : List ℕ) (end : BodyEnd) → MainEnded job (w.actors a) lines end → MainEnded job (spends t (ends t (w.actors a))) lines end
  main_ended lines end m = record { stood = m.stood; halts = m.halts; lines_are = m.lines_are; end_is = m.end_is }

  with_lines : (turns : ℕ) (lines : List ℕ) (end : BodyEnd) → turns ≡ p.turns + t → MainIs job ((acts a t (ends t) w).actors 0) ((acts a t (ends t) w).actors 0).status lines end →
      Holds job (acts a t (ends t) w) (record (with_ended p a turns) { lines = lines; main_end = end })
  with_lines turns lines end turned main = acts_holds job w p (record (with_ended p a turns) { lines = lines; main_end = end }) a t (ends t) h (record { ports = refl; fate = refl }) (record { ports = refl; results = refl; why = refl })
      (each_one_set (λ x s. s ≡ x.status) a (spends t (ends t (w.actors a))) w v w.count w.count p.statuses status.Ended one h.statuses refl refl)
      (each_one (RowOf job) a (spends t (ends t (w.actors a))) w v w.count w.count p.rows one h.rows refl (λ row r. record { caller = r.caller; member = r.member; ports = r.ports; children = r.children; frame = tt }))
      (marks_one_set a (spends t (ends t (w.actors a))) w v w.count w.count p.going false one (fates_one a (spends t (ends t (w.actors a))) w v one refl) h.going refl refl)
      turned main

  pub ends_holds : (turns : ℕ) (trap : Option Trap) (lines : List ℕ) → turns ≡ p.turns + t → MainEnded job (w.actors a) lines (end_of trap) → Holds job (acts a t (ends t) w) (finished p a turns trap lines)
  ends_holds turns trap lines turned m = at (nat_eq a 0) refl where
    at : (b : Bool) → nat_eq a 0 ≡ b → Holds job (acts a t (ends t) w) (with_main_if b lines trap (with_ended p a turns))
    at true e = with_lines turns lines (end_of trap) turned
        (subst (λ (x : Actor). MainIs job x x.status lines (end_of trap)) (sym (ap (λ k. (acts a t (ends t) w).actors k) (sym (eqb-true a 0 e)) ∙ one.here)) (main_ended lines (end_of trap) m))
    at false e = with_lines turns p.lines p.main_end turned
        (subst (λ (x : Actor). MainIs job x x.status p.lines p.main_end) (sym (one.others 0 (λ same. absurd (cc (sym e ∙ ap (λ k. nat_eq k 0) (sym same)))))) h.main)

-- the result, where it becomes known
known_holds : (job : Job) (v : World) (q : Parts) (a : ℕ) → Holds job v q → a < v.count → CallersWait v a → (v.actors a).call.caller < v.count → (f : Fate) (r : BodyResult) →
    Holds job (unless_given f (becomes_result a r v) v) (with_known_if q a (left.unless_given (kept_fate f) (known_in r)))
known_holds job v q a h there waits caller Open result.Open = h
known_holds job v q a h there waits caller Open (result.Known known) = settles_holds job v q a known h there waits caller
known_holds job v q a h there waits caller Open result.Unknown = h
known_holds job v q a h there waits caller (Is known) r = h
known_holds job v q a h there waits caller (Forwarded child) r = h

-- the caller is there as before
pub finished_caller : (p : Parts) (a turns : ℕ) (trap : Option Trap) (lines : List ℕ) → HasCaller p a → HasCaller (finished p a turns trap lines) a
finished_caller p a turns trap lines c = at (nat_eq a 0) where
  at : (b : Bool) → HasCaller (with_main_if b lines trap (with_ended p a turns)) a
  at true = record { status = λ row is. omega (arith, c.status row is, length-set p.statuses a status.Ended); mark = λ row is. omega (arith, c.mark row is, length-set p.going a false) }
  at false = record { status = λ row is. omega (arith, c.status row is, length-set p.statuses a status.Ended); mark = λ row is. omega (arith, c.mark row is, length-set p.going a false) }

module _ (job : Job) (log : Log) (p : Parts) (a t : ℕ) (f : frames.Frame) (k : Kept job log p) (c : ComesToAnEnd job (after job log) a t f) where
  abbrev w : World
  w = after job log

  abbrev trap : Option Trap
  trap = trap_at f.last

  abbrev line : ℕ
  line = line_at f.last

  abbrev x : Actor
  x = (after job log).actors a

  finished_one : One a (spends t (ends t ((after job log).actors a))) (after job log) (acts a t (ends t) (after job log))
  finished_one = acts_one a t (ends t) (after job log)

  same_call : ((acts a t (ends t) (after job log)).actors a).call ≡ ((after job log).actors a).call
  same_call = ap (λ (z : Actor). z.call) finished_one.here

  freed : (state : List ℤ) → cond (is_post ((after job log).actors a).call) (frees_object ((after job log).actors a).call.object state ((acts a t (ends t) (after job log)).objects ((after job log).actors a).call.object) (acts a t (ends t) (after job log))) (acts a t (ends t) (after job log))
      ≡ acts a t (ends t) (after job log)
  freed state = ap (λ (b : Bool). cond b (frees_object x.call.object state ((acts a t (ends t) w).objects x.call.object) (acts a t (ends t) w)) (acts a t (ends t) w)) (plain_there job log p k a c.stops.there)

  ended_world : (turns : ℕ) → turns ≡ p.turns + t → Holds job (finishes job a t c.ending f.running.state (after job log)) (with_known_if (finished p a turns (trap_at f.last) f.running.lines) a (left_at_end job.image p a (trap_at f.last) (line_at f.last)))
  ended_world turns turned =
      subst (λ (u : World). Holds job (unless_given x.fate (becomes_result a (result_at_end job x c.ending) u) u) (with_known_if (finished p a turns trap f.running.lines) a (left_at_end job.image p a trap line))) (sym (freed f.running.state))
      (subst (λ o. Holds job (unless_given x.fate (becomes_result a (result_at_end job x c.ending) (acts a t (ends t) w)) (acts a t (ends t) w)) (with_known_if (finished p a turns trap f.running.lines) a o))
      (sym (left_is job w p k.holds a c.stops.there trap line ∙ ap (λ e. left.unless_given (kept_fate (fate_at w a)) (known_in (result_at_end job x e))) (frame_ending job w a t f c)))
      (known_holds job (acts a t (ends t) w) (finished p a turns trap f.running.lines) a
      (ends_holds job w p a t k.holds turns trap f.running.lines turned (frame_main job w a t f c)) c.stops.there
      (callers_one w (acts a t (ends t) w) a (spends t (ends t x)) finished_one a refl same_call (λ waits. absurd (cc waits)) (callers_wait job log k.is_log a))
      (subst (λ (call : Call). call.caller < w.count) (sym same_call) (caller_there job log k.is_log a c.stops.there))
      x.fate (result_at_end job x c.ending)))

  pub ended_kept : (now : Log) (turns : ℕ) → now ≡ End a t c.ending f.running.state ∷ log → (after job log).why ≡ Going → turns ≡ p.turns + t →
      Kept job now (with_known_if (finished p a turns (trap_at f.last) f.running.lines) a (left_at_end job.image p a (trap_at f.last) (line_at f.last)))
  ended_kept now turns is going turned = subst (λ l. Kept job l (with_known_if (finished p a turns trap f.running.lines) a (left_at_end job.image p a trap line))) (sym is)
      (kept_then job log (End a t c.ending f.running.state) p (with_known_if (finished p a turns trap f.running.lines) a (left_at_end job.image p a trap line)) k going (may_end job w a t f c)
      (ended_world turns turned) (fired_same (left_at_end job.image p a trap line) turns)) where
        fired_main : (b : Bool) (turns : ℕ) → (with_main_if b f.running.lines (trap_at f.last) (with_ended p a turns)).fired ≡ p.fired + 0
        fired_main true turns = omega arith
        fired_main false turns = omega arith

        fired_same : (o : Option Known) (turns : ℕ) → (with_known_if (finished p a turns (trap_at f.last) f.running.lines) a o).fired ≡ p.fired + 0
        fired_same None turns = fired_main (nat_eq a 0) turns
        fired_same (Some known) turns = fired_main (nat_eq a 0) turns
