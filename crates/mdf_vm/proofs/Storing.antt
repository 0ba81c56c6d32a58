-- Words that are stored in a variable.
use Rattle.std.proofs.Common.{◌≡◌, ℕ, List, Option, Some, ap, ◌∙◌}
use Rattle.std.specs.Prelude.{ℤ}
use Rattle.mpl_value.specs.declared.body.Arg.{Arg}
use Rattle.mdf_code.specs.Alone.{Held, Words, framed}
use Rattle.mdf_code.specs.Frames.{Frame}
use Rattle.mdf_code.specs.Stacks.{given, set_at}
use Rattle.mdf_code.specs.Steps.{goes, goes_holding, stores}

pub stored : (knows : ℕ → Arg) (variable : ℕ) (f : Frame Held) (written : Option (List ℤ)) (words : List ℤ) (held : List Held) →
    written ≡ Some words → set_at variable (Words words) f.variables ≡ Some held → stores (framed knows) variable written f ≡ goes (record f { variables = held })
stored knows variable f written words held is set =
    ap (λ o. given o (λ w. goes_holding (set_at variable (Words w) f.variables) f)) is ∙ ap (λ o. goes_holding o f) set
