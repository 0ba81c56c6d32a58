-- The start of an actor's body, by what is kept of it.
use Rattle.std.specs.Prelude.{ℕ, ℤ, ◌≡◌, List, [], length, Option, Some, None, slice_get, pos}
use Rattle.mpl_value.specs.declared.body.BodyStart.{BodyStart}
use Rattle.mpl_value.specs.declared.body.MemberId.{MemberId}
use Rattle.mdf_match.specs.Ports.{row_of}
use Rattle.mdf_core.specs.Actors.{port_words}
use Rattle.mdf_machine.specs.declared.parts.Parts.{Parts}
use Rattle.mdf_machine.specs.declared.rows.Row.{Row}

-- it has as many ports as its row says
abbrev pub HasPorts : Parts → ℕ → Type 0
HasPorts p actor = (row : Row) → slice_get p.rows actor ≡ Some row → row.ports ≡ length (row_of p.ports actor)

abbrev pub input_for : Option MemberId → List ℤ → List ℤ
input_for None input = input
input_for (Some member) input = []

abbrev pub start_of : Option MemberId → List ℤ → List ℤ → BodyStart
start_of member words input = record { member = member; args = words; state = []; object = pos 0; number = 0; input = input_for member input }

abbrev pub start_by : Parts → List ℤ → ℕ → Option Row → BodyStart
start_by p input actor None = start_of None (port_words (row_of p.ports actor)) input
start_by p input actor (Some row) = start_of row.member (port_words (row_of p.ports actor)) input

abbrev pub start_in : Parts → List ℤ → ℕ → BodyStart
start_in p input actor = start_by p input actor (slice_get p.rows actor)
