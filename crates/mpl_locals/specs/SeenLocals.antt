-- What the variables of a scope stand for.
use Rattle.std.specs.Prelude.{◌≡◌, ℕ, List, [], ◌∷◌, length, map, reverse, Option, Some, None, if◌then◌else◌}
use Rattle.std.specs.HashMap.{get_by}
use Rattle.std.specs.Str.{bytes_eq}
use Rattle.mpl_mean.specs.Meaning.Layout.{dimension_of}
use Rattle.mpl_mean.specs.Plain.Scopes as code
use Rattle.mpl_locals.specs.declared.locals.Local.{Local}
use Rattle.mpl_locals.specs.declared.locals.Newest.{Newest}
use Rattle.mpl_locals.specs.declared.locals.Shape.{Shape}
use Rattle.mpl_locals.specs.declared.locals.Slot.{Slot}

abbrev pub shape_seen : Shape → code.Shape
shape_seen s = record { name = s.name.now; type = s.type_name.now; dimension = dimension_of s.dimension }

abbrev pub slot_seen : Slot → code.Slot
slot_seen s = record { number = s.number; shape = shape_seen s.shape }

abbrev pub newest_first : List Local → List Local
newest_first locals = reverse locals

abbrev pub shapes_seen : List Local → List code.Shape
shapes_seen locals = map (λ (local : Local). shape_seen local.shape) locals

-- the number of the newest variable of a name, the oldest being 0
abbrev pub number_named : List ℕ → List Local → Option ℕ
number_named name [] = None
number_named name (local ∷ older) = if bytes_eq local.shape.name.now name then Some (length older) else number_named name older

-- each variable knows which one it hides
abbrev pub Hides : List Local → Type 0
Hides [] = Unit {0}
Hides (local ∷ older) = (local.hides ≡ number_named local.shape.name.now older) × Hides older

abbrev pub if_any : Option (Option ℕ) → Option ℕ
if_any None = None
if_any (Some number) = number

abbrev pub numbered : Newest → List ℕ → Option ℕ
numbered t name = if_any (get_by (λ k. bytes_eq name k.now) t.map)
