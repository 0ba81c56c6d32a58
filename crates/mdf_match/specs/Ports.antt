-- The ports of actors: what has come to each of them.
use Rattle.std.specs.Prelude.{ℕ, ℤ, ◌==◌, List, [], ◌∷◌, ◌+◌, Some, None, unwrap_or, slice_get, slice_set, slice_index_or, if◌then◌else◌}
use Rattle.std.specs.declared.option.Option.{Option}
use Rattle.std.specs.Option.{option_map_or}
use Rattle.std.specs.Ordering.{nat_cmp}
use Rattle.std.specs.FinMap.{FinMap, get, insert}
use Rattle.mpl_value.specs.declared.known.Known.{Known}
use Rattle.mdf_match.specs.Data.{words_of}
use Rattle.mdf_match.specs.declared.token.Tag.{Tag}
use Rattle.mdf_match.specs.declared.token.Token.{Token}
use Rattle.mdf_match.specs.declared.token.Ticket.{Ticket}

-- the ports of one actor, in their order, each with the known value that has come to it
abbrev pub Row : Type 0
Row = List (Option Known)

-- the ports of each actor that is open
abbrev pub Open : Type 0
Open = FinMap nat_cmp Row

-- how many ports are still to be filled
abbrev pub missing_in : Row → ℕ
missing_in [] = 0
missing_in (None ∷ row) = 1 + missing_in row
missing_in (Some _ ∷ row) = missing_in row

-- the ports of an actor; one that isn't open has none
abbrev pub row_of : Open → ℕ → Row
row_of actors actor = unwrap_or (get actors actor) []

-- None where the port isn't open, and else what has come to it
abbrev pub port_at : Open → Tag → Option (Option Known)
port_at actors tag = slice_get (row_of actors tag.actor) tag.port

-- what has come to a port; to one that isn't open nothing has
abbrev pub known_at : Open → Tag → Option Known
known_at actors tag = slice_index_or (row_of actors tag.actor) tag.port None

-- the words that have come to a port
abbrev pub known_words : Open → Tag → List ℤ
known_words actors tag = option_map_or words_of (known_at actors tag) []

-- the ports of a token's actor with the token at its own
abbrev pub filled_row : Open → Token → Row
filled_row actors token = slice_set (row_of actors token.tag.actor) token.tag.port (Some token.known)

-- with the token at its port
abbrev pub filled : Open → Token → Open
filled actors token = insert actors token.tag.actor (filled_row actors token)

-- the ticket of an actor whose ports are all filled
abbrev pub ticket_of : Row → ℕ → Option Ticket
ticket_of row actor = if missing_in row == 0 then Some (record { actor = actor }) else None
