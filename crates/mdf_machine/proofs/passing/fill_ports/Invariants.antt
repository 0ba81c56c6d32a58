use Rattle.std.proofs.Common.{◌≡◌, ℕ, Some}
use Rattle.std.specs.FinMap.{get}
use Rattle.mdf_machine.specs.Internal.Sending.{ports_until}
use Rattle.mdf_machine.proofs.passing.fill_ports.Given as goal

abbrev pub invariant-loop-port : goal.invariant-loop-port
invariant-loop-port l = record {
  here : get l.ports l.actor ≡ Some (ports_until l.port l.args);
  others : (other : ℕ) → (other ≡ l.actor → ⊥) → get l.ports other ≡ get l.fn.ports other;
}
