-- The status that a program ends with.
use Rattle.std.specs.Prelude.{ℕ}
use Rattle.mentat_cmd.specs.declared.status.Status.{Status}
use Rattle.mentat_cmd.specs.declared.status.Status.TheVariants as status

abbrev pub number_of : Status → ℕ
number_of status.Done = 0
number_of status.Usage = 1
number_of (status.Refused refusal) = 2
number_of (status.Trap trap) = 3
number_of status.Spent = 4
number_of status.Stuck = 5
number_of status.ReadFault = 6
number_of status.WriteFault = 7
number_of (status.BadInput at) = 8
number_of status.NoMemory = 9
number_of status.TooLong = 10
number_of (status.Unbuilt at) = 13
