use Rattle.std.proofs.Common.{◌≡◌, drop, option_map}
use Rattle.std.specs.Prelude.{codes}
use Rattle.mpl_mean.specs.Meaning.Layout.{function_named}
use Rattle.mpl_gen_body.specs.Internal.Surroundings.{block_of}
use Rattle.mpl_gen_body.proofs.bodies.main_block.Given as goal

abbrev pub invariant-loop-declaration : goal.invariant-loop-declaration
invariant-loop-declaration l =
    option_map block_of (function_named (codes "main") (drop l.declaration-index l.declarations)) ≡ option_map block_of (function_named (codes "main") l.declarations)
