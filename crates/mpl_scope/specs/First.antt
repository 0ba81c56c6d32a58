-- The first of each name in a table.
use Rattle.std.specs.Prelude.{ℕ, List, Option, Some, None, if◌then◌else◌}
use Rattle.std.specs.HashMap.{get_by}
use Rattle.std.specs.Str.{bytes_eq}
use Rattle.mpl_scope.specs.declared.first_named.FirstNamed.{FirstNamed}

abbrev pub at : {V : Type 0} → FirstNamed V → List ℕ → Option V
at t name = get_by (λ k. bytes_eq name k.now) t.map

abbrev pub or_else : {V : Type 0} → Option V → Option V → Option V
or_else None b = b
or_else (Some a) b = Some a

abbrev pub with_first : {V : Type 0} → List ℕ → V → (List ℕ → Option V) → List ℕ → Option V
with_first name value found q = or_else (found q) (if bytes_eq name q then Some value else None)
