-- What stands one deeper.
use Rattle.std.proofs.Common.{◌≡◌, ℕ, suc, refl}
use Rattle.mpl_mean.specs.Text.Reading.{Rest}
use Rattle.mpl_trees.specs.Flows.{flow_of, take_flow}
use Rattle.mpl_trees.specs.Statements.{take_statement}
use Rattle.mpl_parse.specs.Internal.Forms.{statement_of}

pub flow-is : (depth inside limit : ℕ) (r : Rest) → depth ≡ suc inside → take_flow depth limit r ≡ flow_of (take_flow inside) depth limit r
flow-is depth inside limit r h = rw h refl

pub statement-is : (depth inside limit : ℕ) (r : Rest) → depth ≡ suc inside → take_statement depth limit r ≡ statement_of depth (take_statement inside) limit r
statement-is depth inside limit r h = rw h refl
