use Rattle.std.proofs.Common.{◌≡◌, drop}
use Rattle.std.specs.List.{list_all}
use Rattle.mdf_code.specs.Images.{is_function}
use Rattle.mdf_code.proofs.check.functions_fit.Given as goal

abbrev pub invariant-loop-function : goal.invariant-loop-function
invariant-loop-function l = list_all is_function l.functions ≡ list_all is_function (drop l.function-index l.functions)
