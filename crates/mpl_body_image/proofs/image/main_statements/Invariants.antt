use Rattle.std.proofs.Common.{◌≡◌, drop}
use Rattle.mpl_mean.specs.Meaning.BodyMeaning.{main_statements}
use Rattle.mpl_body_image.proofs.image.main_statements.Given as goal

abbrev pub invariant-loop-declaration : goal.invariant-loop-declaration
invariant-loop-declaration l = main_statements (drop l.declaration-index l.declarations) ≡ main_statements l.declarations
