-- What the place that a use names stands for, as far as uses ask: its variable, its type, and whether it is the whole.
use Rattle.std.specs.Prelude.{ℕ, Bool, false, List, Option, Some, None, option_map, if◌then◌else◌}
use Rattle.mpl_ast.specs.declared.class.Field.{Field}
use Rattle.mpl_ast.specs.declared.program.Declaration.{Declaration}
use Rattle.mpl_ast.specs.declared.statement.TypeName.{TypeName}
use Rattle.mpl_mean.specs.Meaning.Layout.{Part, part_named, parts_of_type}
use Rattle.mpl_mean.specs.Pending.BodyWays.{created_in, forces}
use Rattle.mpl_mean.specs.Pending.Paths.{Ways, NoEvent}
use Rattle.mpl_mean.specs.Plain.Scopes.{Found, Slot}
use Rattle.mpl_mean.specs.TypeRules.Types.{Declared, Role, declared_fields, first_named}
use Rattle.mpl_depend.specs.Internal.Regular.{regular_type}

pub record Sight : Type 0 where
  pub slot : Option Slot
  pub type : TypeName
  pub is_whole : Bool

abbrev pub sight : Found → Sight
sight found = record { slot = found.slot; type = found.type; is_whole = found.is_whole }

-- a part of a variable or of the state, by its type
abbrev pub sight_part : Option Slot → Option TypeName → Option Sight
sight_part slot None = None
sight_part slot (Some type) = Some (record { slot = slot; type = type; is_whole = false })

-- ---- the types of parts by their names

abbrev pub type_of : Option Declared → Option TypeName
type_of = option_map (λ (d : Declared). d.type)

abbrev pub type_among : Role → List ℕ → List Field → Option TypeName
type_among role name fields = type_of (first_named name (declared_fields role fields))

abbrev pub type_of_part : Option Part → Option TypeName
type_of_part = option_map (λ (part : Part). part.type)

abbrev pub type_in : List Declaration → TypeName → List ℕ → Option TypeName
type_in ds type name = type_of_part (part_named name (parts_of_type ds type))

-- ---- uses

abbrev pub uses_sight : ℕ → Option Sight → Ways
uses_sight node None = NoEvent
uses_sight node (Some s) = forces node s.slot

abbrev pub unless_regular : Option Bool → Ways → Ways
unless_regular None ways = NoEvent
unless_regular (Some regular) ways = if regular then NoEvent else ways

abbrev pub receives_sight : ℕ → List Declaration → Option Sight → Ways
receives_sight node ds None = NoEvent
receives_sight node ds (Some s) = unless_regular (regular_type ds s.type) (forces node s.slot)

abbrev pub creates_sight : ℕ → Option Sight → Ways
creates_sight node None = NoEvent
creates_sight node (Some s) = created_in node s.slot s.is_whole
