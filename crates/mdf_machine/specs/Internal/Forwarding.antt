-- A result that will be that of another actor.
use Rattle.std.specs.Prelude.{ℕ}
use Rattle.mdf_future.specs.Results.{ResultTable, forwarded, waited}
use Rattle.mdf_future.specs.declared.consumer.Consumer.TheVariants as consumer

abbrev pub passed_on : ResultTable → ℕ → ℕ → ResultTable
passed_on t actor child = forwarded (waited t child (consumer.Result actor)) actor child
