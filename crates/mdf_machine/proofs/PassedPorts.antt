-- The ports of a call, which are filled one after another.
use Rattle.std.proofs.Common.{◌≡◌, ◌<◌, ◌≤◌, ℕ, zero, suc, List, [], ◌∷◌, length, map, set, replicate, Option, Some, None, refl, sym, ap, ◌∙◌, subst, arith, slice_get}
use Rattle.std.specs.Prelude.{unwrap_or}
use Rattle.std.specs.List.{AllByRecursion}
use Rattle.std.specs.Ordering.{nat_cmp}
use Rattle.std.specs.Cmp.{nat_cmp_total}
use Rattle.std.specs.FinMap.{FinMap, get, insert, remove, same_map, nat_cmp-IsAntisymmetric}
use Rattle.mpl_value.specs.declared.known.Known.{Known}
use Rattle.mdf_future.proofs.Inserted.{inserted, removed}
use Rattle.mdf_match.specs.Ports.{port_at, row_of}
use Rattle.mdf_vm.specs.declared.stop.FlowArg.{FlowArg}
use Rattle.mdf_vm.specs.declared.stop.FlowArg.TheVariants as flow
use Rattle.mdf_machine.specs.Internal.Sending.{IsShort, filled_by, port_given, ports_until}
use Rattle.mdf_machine.proofs.Keyed.{inserted_here, inserted_there}

abbrev Ports : Type 0
Ports = FinMap nat_cmp (List (Option Known))

pub until_none : (args : List FlowArg) → replicate (length args) None ≡ ports_until 0 args
until_none [] = refl
until_none (arg ∷ others) = ap (λ (ports : List (Option Known)). None ∷ ports) (until_none others)

pub until_all : (args : List FlowArg) (n : ℕ) → length args ≤ n → ports_until n args ≡ map port_given args
until_all [] n past = refl
until_all (arg ∷ others) zero past = absurd (omega (arith, past))
until_all (arg ∷ others) (suc n) past = ap (λ ports. port_given arg ∷ ports) (until_all others n (omega (arith, past)))

pub until_empty : (args : List FlowArg) (n : ℕ) → n < length args → slice_get (ports_until n args) n ≡ Some None
until_empty [] n below = absurd (omega (arith, below))
until_empty (arg ∷ others) zero below = refl
until_empty (arg ∷ others) (suc n) below = until_empty others n (omega (arith, below))

pub until_known : (args : List FlowArg) (n : ℕ) (known : Known) → slice_get args n ≡ Some (flow.Known known) → set (ports_until n args) n (Some known) ≡ ports_until (suc n) args
until_known [] n known is = absurd (cc is)
until_known (arg ∷ others) zero known is =
    let same : arg ≡ flow.Known known = cc is in
    ap (λ (port : Option Known). port ∷ ports_until 0 others) (ap port_given (sym same))
until_known (arg ∷ others) (suc n) known is = ap (λ ports. port_given arg ∷ ports) (until_known others n known is)

pub until_result : (args : List FlowArg) (n call : ℕ) → slice_get args n ≡ Some (flow.Result call) → ports_until n args ≡ ports_until (suc n) args
until_result [] n call is = absurd (cc is)
until_result (arg ∷ others) zero call is =
    let same : arg ≡ flow.Result call = cc is in
    ap (λ (port : Option Known). port ∷ ports_until 0 others) (ap port_given (sym same))
until_result (arg ∷ others) (suc n) call is = ap (λ ports. port_given arg ∷ ports) (until_result others n call is)

-- ---- one port

pub row_there : (m : Ports) (actor : ℕ) (row : List (Option Known)) → get m actor ≡ Some row → row_of m actor ≡ row
row_there m actor row is = ap (λ o. unwrap_or o []) is

pub port_empty : (m : Ports) (args : List FlowArg) (actor port : ℕ) → get m actor ≡ Some (ports_until port args) → port < length args → port_at m (record { actor = actor; port = port }) ≡ Some None
port_empty m args actor port is below = ap (λ row. slice_get row port) (row_there m actor (ports_until port args) is) ∙ until_empty args port below

pub short_at : (args : List FlowArg) (n : ℕ) (arg : FlowArg) → AllByRecursion IsShort args → slice_get args n ≡ Some arg → IsShort arg
short_at [] n arg all is = absurd (cc is)
short_at (first ∷ others) zero arg all is = subst IsShort (cc is) all.0
short_at (first ∷ others) (suc n) arg all is = short_at others n arg all.1 is

pub filled_here : (m : Ports) (args : List FlowArg) (actor port : ℕ) (arg : FlowArg) → get m actor ≡ Some (ports_until port args) → slice_get args port ≡ Some arg → get (filled_by m (record { actor = actor; port = port }) arg) actor ≡ Some (ports_until (suc port) args)
filled_here m args actor port (flow.Known known) is at =
    inserted_here m actor (set (row_of m actor) port (Some known)) ∙ ap Some (ap (λ row. set row port (Some known)) (row_there m actor (ports_until port args) is) ∙ until_known args port known at)
filled_here m args actor port (flow.Result call) is at = is ∙ ap Some (until_result args port call at)

pub filled_there : (m : Ports) (actor port other : ℕ) (arg : FlowArg) → (other ≡ actor → ⊥) → get (filled_by m (record { actor = actor; port = port }) arg) other ≡ get m other
filled_there m actor port other (flow.Known known) differ = inserted_there m actor other (set (row_of m actor) port (Some known)) differ
filled_there m actor port other (flow.Result call) differ = refl

-- ---- all ports

-- the ports of an actor alone are changed
pub made_so : (m n : Ports) (actor : ℕ) (row : List (Option Known)) → get n actor ≡ Some row → ((k : ℕ) → (k ≡ actor → ⊥) → get n k ≡ get m k) → n ≡ insert m actor row
made_so m n actor row here others = same_map nat_cmp_total nat_cmp-IsAntisymmetric _ _ (λ q.
    inserted (λ o. get n q ≡ o) m actor q row (λ e. ap (get n) e ∙ here) (λ differ. others q differ))

pub closed_again : (m n : Ports) (actor : ℕ) → get m actor ≡ None → ((k : ℕ) → (k ≡ actor → ⊥) → get n k ≡ get m k) → remove n actor ≡ m
closed_again m n actor none others = same_map nat_cmp_total nat_cmp-IsAntisymmetric _ _ (λ q.
    removed (λ o. o ≡ get m q) n actor q (λ e. sym (ap (get m) e ∙ none)) (λ differ. others q differ))
