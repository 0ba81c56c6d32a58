-- The parts of a machine when a call was made.
use Rattle.std.proofs.Common.{◌≡◌, ◌≤◌, ℕ, List, length, map, Option, Some, None, sym, ap, ◌∙◌, subst, arith}
use Rattle.std.specs.Ordering.{nat_cmp}
use Rattle.std.specs.FinMap.{FinMap, get, insert, remove}
use Rattle.std.specs.List.{AllByRecursion}
use Rattle.std.proofs.lemmas.List.{length-map}
use Rattle.mpl_value.specs.declared.known.Known.{Known}
use Rattle.mdf_code.specs.Alone.{Held}
use Rattle.mdf_core.specs.Calls.{port_of}
use Rattle.mdf_core.specs.Steps.{Log, after}
use Rattle.mdf_core.specs.Worlds.{Job, World}
use Rattle.mdf_drive.specs.Handing.{HandsOut, IsHanded}
use Rattle.mdf_drive.proofs.HandedOut.{hands_out_little}
use Rattle.mdf_future.specs.Openings.{HaveResults, Passed}
use Rattle.mdf_future.proofs.Inserted.{taken_out}
use Rattle.mdf_match.specs.Ports.{missing_in}
use Rattle.mdf_vm.specs.FlowArgs.{flow_arg}
use Rattle.mdf_vm.specs.declared.stop.FlowArg.{FlowArg}
use Rattle.mdf_vm.specs.declared.stop.Sent.{Sent}
use Rattle.mdf_machine.specs.declared.making.NewCall.{NewCall}
use Rattle.mdf_machine.specs.declared.parts.Parts.{Parts}
use Rattle.mdf_machine.specs.MakingCalls.{StopsAtCall}
use Rattle.mdf_machine.specs.Internal.Held.{Kept}
use Rattle.mdf_machine.specs.Internal.Sending.{IsShort, MayAdd, passed_by, port_given, with_call}
use Rattle.mdf_machine.proofs.Keyed.{inserted_here}
use Rattle.mdf_machine.proofs.Seen.{child_is, child_there, result_some}
use Rattle.mdf_machine.proofs.SentArcs.{passed_of}
use Rattle.mdf_machine.proofs.SentArguments.{given_so, passed_so, short_so}
use Rattle.mdf_machine.proofs.SentWorlds.{call_made, have_results, with_sent}

abbrev Ports : Type 0
Ports = FinMap nat_cmp (List (Option Known))

-- ---- arguments

module _ (job : Job) (log : Log) (p : Parts) (a t : ℕ) (sent : Sent) (k : Kept job log p) (s : StopsAtCall job (after job log) a t sent) (args : List FlowArg) (is : args ≡ sent.args) where
  handed : (length s.arguments ≤ 16) × AllByRecursion (IsHanded (after job log) a) s.arguments
  handed = subst (HandsOut (after job log) a) s.stops.is (hands_out_little job log k.image k.is_log a t s.stops.stood s.stops.stops)

  pub many_args : length args ≡ length s.arguments
  many_args = ap length (is ∙ s.are) ∙ length-map s.arguments flow_arg

  pub few_args : length args ≤ 16
  few_args = omega (arith, handed.0, many_args)

  pub short_args : AllByRecursion IsShort args
  short_args = subst (AllByRecursion IsShort) (sym (is ∙ s.are)) (short_so (after job log) a s.arguments handed.1)

  pub given_args : map port_given args ≡ map port_of s.arguments
  given_args = ap (map port_given) (is ∙ s.are) ∙ given_so s.arguments

  pub passed_args : map (passed_by p.rows a) args ≡ passed_of ((after job log).actors a).child s.arguments
  passed_args = ap (map (passed_by p.rows a)) (is ∙ s.are)
      ∙ passed_so p.rows a ((after job log).actors a).child s.arguments (λ call. child_is job (after job log) p k.holds a call s.stops.stops.there)

  pub may_add : (passed : Passed) (opened : Ports) (call : NewCall) → (after job log).turns ≤ job.budget → passed ≡ map (passed_by p.rows a) args → call.caller ≡ a → call.callee ≡ (after job log).count → MayAdd (record p { ports = opened }) call passed
  may_add passed opened call within passed_is caller callee =
      let budget : job.budget ≤ 4000000 = k.budget in
      record {
        status = omega (arith, k.holds.statuses.length_is, k.holds.few, within, budget);
        mark = omega (arith, k.holds.going.length_is, k.holds.few, within, budget);
        caller = omega (arith, caller, s.stops.stops.there, k.holds.rows.length_is);
        result = k.holds.results.beyond call.callee (omega (arith, callee));
        there = subst (HaveResults p.results) (sym (passed_is ∙ passed_args))
            (have_results p.results ((after job log).actors a).child s.arguments (λ call on found. result_some job (after job log) p k.holds on (child_there job log k.is_log a call on found).there));
        few = omega (arith, ap length passed_is, length-map args (passed_by p.rows a), few_args);
      }

-- ---- parts

pub sent_parts : (p q : Parts) (w : World) (a member callee ports missing turns : ℕ) (opened : Ports) (passed more : Passed) (arguments : List Held)
    → q ≡ with_call (record p { ports = opened }) (record { caller = a; callee = callee; member = record { 0 = member }; ports = ports; missing = missing }) more
    → callee ≡ w.count → ports ≡ length arguments → missing ≡ missing_in (map port_of arguments) → opened ≡ insert p.ports callee (map port_of arguments) → more ≡ passed
    → record q { turns = turns } ≡ with_sent p (call_made w a member arguments) passed arguments turns
sent_parts p q w a member callee ports missing turns opened passed more arguments is callee_is ports_is missing_is opened_is passed_is =
    ap (λ (r : Parts). record r { turns = turns }) is
    ∙ ap (λ n. made n ports missing opened more) callee_is
    ∙ ap (λ n. made w.count n missing opened more) ports_is
    ∙ ap (λ n. made w.count (length arguments) n opened more) missing_is
    ∙ ap (λ (m : Ports). made w.count (length arguments) (missing_in (map port_of arguments)) m more) (opened_is ∙ ap (λ n. insert p.ports n (map port_of arguments)) callee_is)
    ∙ ap (λ (ps : Passed). made w.count (length arguments) (missing_in (map port_of arguments)) (insert p.ports w.count (map port_of arguments)) ps) passed_is where
      made : ℕ → ℕ → ℕ → Ports → Passed → Parts
      made callee ports missing opened passed = record (with_call (record p { ports = opened }) (record { caller = a; callee = callee; member = record { 0 = member }; ports = ports; missing = missing }) passed) { turns = turns }

-- ports that were opened are closed again
pub parts_again : (p q : Parts) (callee : ℕ) (opened closed : Ports) (row : List (Option Known)) → get p.ports callee ≡ None → opened ≡ insert p.ports callee row → q ≡ record p { ports = opened } → closed ≡ remove q.ports callee → record q { ports = closed } ≡ p
parts_again p q callee opened closed row none opened_is is closed_is =
    ap (λ (r : Parts). record r { ports = closed }) is
    ∙ ap (λ (m : Ports). record p { ports = m }) (closed_is ∙ ap (λ (r : Parts). remove r.ports callee) is ∙ ap (λ m. remove m callee) opened_is ∙ taken_out p.ports callee row none)

pub open_still : (p q : Parts) (callee : ℕ) (opened : Ports) (row : List (Option Known)) → opened ≡ insert p.ports callee row → q ≡ record p { ports = opened } → get q.ports callee ≡ Some row
open_still p q callee opened row opened_is is = ap (λ (r : Parts). get r.ports callee) is ∙ ap (λ (m : Ports). get m callee) opened_is ∙ inserted_here p.ports callee row
