-- What taking a token, or leaving it, does to what is still to come.
use Rattle.std.specs.Prelude.{◌≡◌, Bool, true, false, ◌++◌, Option, Some, None}
use Rattle.mpl_grammar.specs.Internal.Grammar.{Stack}

-- a row's symbols stand before what was to come, where the token was taken; else nothing has changed
abbrev pub WasTaken : Option Stack → Bool → Stack → Stack → Type 0
WasTaken (Some pushed) true old new = new ≡ pushed ++ old
WasTaken (Some pushed) false old new = ⊥
WasTaken None true old new = ⊥
WasTaken None false old new = new ≡ old
