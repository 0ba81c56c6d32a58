-- The ports of an actor, after the calls that change them.
use Rattle.std.proofs.Common.{◌≡◌, ℕ, [], ap, ◌∙◌}
use Rattle.std.specs.Prelude.{Some, unwrap_or, slice_set}
use Rattle.std.specs.FinMap.{insert}
use Rattle.mpl_value.specs.declared.known.Known.{Known}
use Rattle.mdf_match.specs.Ports.{Open, Row, row_of, filled, filled_row}
use Rattle.machine_tests.proofs.Inserted.{get_inserted}

pub opened : (m : Open) (actor : ℕ) (row : Row) → row_of (insert m actor row) actor ≡ row
opened m actor row = ap (λ o. unwrap_or o []) (get_inserted m actor row)

pub arrived : (m : Open) (actor port : ℕ) (known : Known) (row : Row) → row_of m actor ≡ row
    → row_of (filled m (record { tag = record { actor = actor; port = port }; known = known })) actor ≡ slice_set row port (Some known)
arrived m actor port known row is =
    opened m actor (filled_row m (record { tag = record { actor = actor; port = port }; known = known }))
    ∙ ap (λ row. slice_set row port (Some known)) is
