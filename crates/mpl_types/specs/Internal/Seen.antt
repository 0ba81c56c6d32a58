-- What the checker's own values stand for.
use Rattle.std.specs.Prelude.{Option, option_map}
use Rattle.mpl_mean.specs.TypeRules.Rules as rules
use Rattle.mpl_types.specs.declared.failure.Failure.{Failure}

abbrev pub failure_of : Option Failure → Option rules.Failure
failure_of = option_map (λ (f : Failure). record { at = f.at; rule = f.rule })
