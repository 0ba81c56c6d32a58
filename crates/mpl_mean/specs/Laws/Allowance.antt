-- What stays of the calls of a body that runs out of its turns.
use Rattle.std.specs.Prelude.{List, [], ◌∷◌}

-- at each place that both lists have, the items are in this relation
abbrev pub AtSharedPlaces : {A : Type 0} → (A → A → Type 0) → List A → List A → Type 0
AtSharedPlaces R [] after = Unit {0}
AtSharedPlaces R (x ∷ before) [] = Unit {0}
AtSharedPlaces R (x ∷ before) (y ∷ after) = R x y × AtSharedPlaces R before after
