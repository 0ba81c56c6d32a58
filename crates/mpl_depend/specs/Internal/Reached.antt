-- Which values something comes to, found along the edges. Each has a rank by the order in which it is found.
use Rattle.std.specs.Prelude.{ℕ, zero, suc, ◌≡◌, ◌<◌, ◌≤◌, ◌⊎◌, ◌+◌, Bool, true, List, [], ◌∷◌, length}
use Rattle.std.specs.List.{Contains, sum_by}
use Rattle.mpl_mean.specs.Pending.Paths.{Ways}
use Rattle.mpl_depend.specs.Internal.Ranks.{AreMarked, Comes, IsClosed, Traced, is_some, value_at}
use Rattle.mpl_depend.specs.declared.values.Edge.{Edge}
use Rattle.mpl_depend.specs.declared.values.Use.{Use}

-- Something comes to value 1, and to all others of a rank along an edge from a lower one.
pub record Reaching (edges : List Edge) (most : ℕ) (ranks : List ℕ) : Type 0 where
  pub first : value_at ranks 1 ≡ 1
  pub within : (value : ℕ) → value_at ranks value ≤ most
  pub sound : (value : ℕ) → is_some (value_at ranks value) ≡ true → (value ≡ 1) ⊎ Comes (value_at ranks) edges value

-- all to which something comes
pub record Reached (edges : List Edge) (ranks : List ℕ) : Type 0 where
  pub first : value_at ranks 1 ≡ 1
  pub sound : (value : ℕ) → is_some (value_at ranks value) ≡ true → (value ≡ 1) ⊎ Comes (value_at ranks) edges value
  pub closed : IsClosed (value_at ranks) edges

-- how many values have no rank
abbrev pub no_rank : ℕ → ℕ
no_rank zero = 1
no_rank (suc rank) = 0

abbrev pub unreached : List ℕ → ℕ
unreached = sum_by no_rank

-- something comes to the start of an edge, and nothing to its end yet
abbrev pub IsOpen : List ℕ → Edge → Type 0
IsOpen ranks edge = (is_some (value_at ranks edge.from) ≡ true) × (value_at ranks edge.into ≡ 0)

-- what comes to the start of an edge comes to its end
pub record Followed (edge : Edge) (most next : ℕ) (ranks more : List ℕ) : Type 0 where
  pub sized : length more ≡ length ranks
  pub reaching : (edges : List Edge) → Contains edges edge → Reaching edges most ranks → Reaching edges next more
  pub fewer : IsOpen ranks edge → edge.into < length ranks → unreached more < unreached ranks

-- ---- the uses

-- a use of a value that something comes to
pub record IsUsed (ranks : List ℕ) (uses : List Use) (node : ℕ) : Type 0 where
  pub made : Use
  pub there : Contains uses made
  pub is_node : made.node ≡ node
  pub loose : is_some (value_at ranks made.value) ≡ true

-- the uses of values that something comes to are marked with others
pub record MarksUses (ranks : List ℕ) (uses : List Use) (before after : List ℕ) : Type 0 where
  pub kept : (node : ℕ) → Contains before node → Contains after node
  pub sound : (node : ℕ) → Contains after node → Contains before node ⊎ IsUsed ranks uses node
  pub complete : AreMarked (value_at ranks) uses after

-- ---- the walk of a body

-- what a walk found that began with the value 1 at place 0 and what is known everywhere else
pub record Found (ways : Ways) (high : ℕ) (edges : List Edge) (uses : List Use) : Type 0 where
  pub before : List ℕ
  pub after : List ℕ
  pub comes : Bool
  pub at_start : value_at before 0 ≡ 1
  pub others : (n : ℕ) → value_at before (n + 1) ≡ 0
  pub traced : Traced ways comes 2 high [] edges [] uses before after

-- the values that something comes to, and the uses of them
pub record Finds (high : ℕ) (edges : List Edge) (uses : List Use) (before after : List ℕ) : Type 0 where
  pub ranks : List ℕ
  pub reached : Reached edges ranks
  pub marks : MarksUses ranks uses before after
