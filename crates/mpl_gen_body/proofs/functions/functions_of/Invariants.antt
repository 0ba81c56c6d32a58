use Rattle.std.proofs.Common.{◌≡◌, ◌++◌, drop, map}
use Rattle.mpl_mean.specs.Laws.Sizes.{Every}
use Rattle.mpl_gen_code.specs.ExpressionCode.{plain_functions}
use Rattle.mpl_gen_code.specs.ProgramImage.{function_image}
use Rattle.mpl_gen_scope.specs.SeenMarks.{marked}
use Rattle.mpl_gen_body.specs.Internal.Fitting.{DeclarationFits}
use Rattle.mpl_gen_body.proofs.functions.functions_of.Given as goal

abbrev pub invariant-loop-declaration : goal.invariant-loop-declaration
invariant-loop-declaration l = record {
  images : l.functions ++ map (function_image l.outline (marked l.marks.nodes.now)) (plain_functions (drop l.declaration-index l.declaration-items))
      ≡ map (function_image l.outline (marked l.marks.nodes.now)) (plain_functions l.declaration-items);
  fits : Every (DeclarationFits l.outline (marked l.marks.nodes.now)) (drop l.declaration-index l.declaration-items);
}
