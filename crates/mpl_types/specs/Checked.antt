-- What the check of a program answers.
use Rattle.std.specs.Prelude.{◌≡◌, true, Result, Ok, Err, Some}
use Rattle.mpl_ast.specs.declared.program.Program.{Program}
use Rattle.mpl_mean.specs.TypeRules.Rules.{is_typed, least_failure}
use Rattle.mpl_types.specs.declared.fault.TypeFault.{TypeFault}
use Rattle.mpl_types.specs.declared.fault.TypeFault.TheVariants as fault

-- The same program, in which no rule fails; or the least failure, by its byte and then by its rule.
abbrev pub Checked : Program → Result Program TypeFault → Type 0
Checked p (Ok typed) = (typed ≡ p) × (is_typed p ≡ true)
Checked p (Err (fault.Rule rule at)) = least_failure p ≡ Some (record { at = at; rule = rule })
Checked p (Err fault.NoMemory) = Unit {0}
