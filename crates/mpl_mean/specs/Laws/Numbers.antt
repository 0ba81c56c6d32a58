-- How the calls of a body are numbered.
use Rattle.std.specs.Prelude.{◌≡◌, ℕ, suc, List, [], ◌∷◌}
use Rattle.mpl_value.specs.declared.body.CallMade.{CallMade}

-- calls with one number after another, from this one on
abbrev pub NumberedFrom : ℕ → List CallMade → Type 0
NumberedFrom k [] = Unit {0}
NumberedFrom k (call ∷ calls) = (call.call ≡ k) × NumberedFrom (suc k) calls
