-- What contracts see of a turn and of a pass.
use Rattle.std.specs.Prelude.{ℕ, Bool, List, Option}
use Rattle.atomic_table.specs.Seated.{TableId}

-- which turn it is, and in how many parts it is cut
pub record TurnState : Type 0 where
  pub table : TableId
  pub parts : ℕ

-- The turn that the pass is of, the job of the opened value, the log that the pass knows, the actors that it holds, its share of the parts, and whether it has the turn
pub record PassState (J E : Type 0) : Type 0 where
  pub turn : TableId
  pub root : Option J
  pub seen : List E
  pub held : List ℕ
  pub parts : ℕ
  pub inside : Bool
