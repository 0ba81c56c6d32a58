-- What the variables of a scope stand for.
use Rattle.std.specs.Prelude.{◌≡◌, ℕ, List, [], ◌∷◌, length, map, reverse, Option, Some, None, if◌then◌else◌}
use Rattle.std.specs.HashMap.{get_by}
use Rattle.std.specs.Str.{bytes_eq}
use Rattle.mpl_mean.specs.Meaning.Layout.{dimension_of}
use Rattle.mpl_gen_code.specs.Scopes as code
use Rattle.mpl_gen_scope.specs.declared.locals.Local.{Local}
use Rattle.mpl_gen_scope.specs.declared.locals.Newest.{Newest}
use Rattle.mpl_gen_scope.specs.declared.locals.Shape.{Shape}
use Rattle.mpl_gen_scope.specs.declared.locals.Slot.{Slot}

abbrev pub shape_seen : Shape → code.Shape
shape_seen s = record { name = s.name.now; type = s.type_name.now; dimension = dimension_of s.dimension }

abbrev pub slot_seen : Slot → code.Slot
slot_seen s = record { number = s.number; shape = shape_seen s.shape }

abbrev pub newest_first : List Local → List Local
newest_first locals = reverse locals

abbrev pub slots_seen : List Local → List code.Slot
slots_seen locals = map (λ (local : Local). slot_seen local.slot) locals

-- where the newest variable of a name stands, the oldest at 0
abbrev pub place_named : List ℕ → List Local → Option ℕ
place_named name [] = None
place_named name (local ∷ older) = if bytes_eq local.slot.shape.name.now name then Some (length older) else place_named name older

-- each variable knows which one it hides
abbrev pub Hides : List Local → Type 0
Hides [] = Unit {0}
Hides (local ∷ older) = (local.hides ≡ place_named local.slot.shape.name.now older) × Hides older

abbrev pub if_any : Option (Option ℕ) → Option ℕ
if_any None = None
if_any (Some number) = number

abbrev pub numbered : Newest → List ℕ → Option ℕ
numbered t name = if_any (get_by (λ k. bytes_eq name k.now) t.map)
