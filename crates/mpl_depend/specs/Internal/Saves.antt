-- Values of places, saved while ways are walked that write them.
use Rattle.std.specs.Prelude.{ℕ, ◌≡◌, ◌<◌, ◌≤◌, ◌⊎◌, Bool, true, false, List, [], ◌∷◌, length, map}
use Rattle.mpl_mean.specs.Pending.Paths.{Ways}
use Rattle.mpl_depend.specs.Internal.Ranks.{Closed, Merged, Traced, Writes, value_at}
use Rattle.mpl_depend.specs.declared.saved.Saved.{Saved}
use Rattle.mpl_depend.specs.declared.values.Edge.{Edge}
use Rattle.mpl_depend.specs.declared.values.Use.{Use}

abbrev pub IsSaved : List Saved → ℕ → Type 0
IsSaved [] place = ⊥
IsSaved (one ∷ others) place = (one.place ≡ place) ⊎ IsSaved others place

abbrev pub AreWithin : ℕ → List Saved → Type 0
AreWithin count [] = Unit {0}
AreWithin count (one ∷ others) = (one.place < count) × AreWithin count others

-- the values that are saved are those of a list
abbrev pub AreOf : List ℕ → List Saved → Type 0
AreOf values [] = Unit {0}
AreOf values (one ∷ others) = (one.value ≡ value_at values one.place) × AreOf values others

-- the same place, with the value that a list has there
abbrev pub saved_of : List ℕ → Saved → Saved
saved_of values one = record { place = one.place; value = value_at values one.place }

-- what is put back makes the list that it was taken of
pub record Restores (saved : List Saved) (current values : List ℕ) : Type 0 where
  pub sized : length values ≡ length current
  pub of : AreOf values saved
  pub others : (place : ℕ) → IsSaved saved place ⊎ (value_at current place ≡ value_at values place)

-- the values of the places that ways write are saved
pub record Saves (ways : Ways) (values : List ℕ) (saved : List Saved) : Type 0 where
  pub within : AreWithin (length values) saved
  pub of : AreOf values saved
  pub all : (place : ℕ) → IsSaved saved place ⊎ (Writes ways place → ⊥)
  pub only : (place : ℕ) → IsSaved saved place → Writes ways place

-- Values are being saved. Where one is, a mark stands in its place.
pub record Saving (mark : ℕ) (values current : List ℕ) (saved : List Saved) : Type 0 where
  pub sized : length current ≡ length values
  pub within : AreWithin (length values) saved
  pub of : AreOf values saved
  pub below : (place : ℕ) → value_at values place < mark
  pub marked : (place : ℕ) → IsSaved saved place → value_at current place ≡ mark
  pub others : (place : ℕ) → IsSaved saved place ⊎ (value_at current place ≡ value_at values place)

-- the values of places that ways write are saved with others
pub record SavesMore (ways : Ways) (mark : ℕ) (before after : List ℕ) (saved more : List Saved) : Type 0 where
  pub saving : (values : List ℕ) → Saving mark values before saved → Saving mark values after more
  pub kept : (place : ℕ) → IsSaved saved place → IsSaved more place
  pub all : (values : List ℕ) → Saving mark values before saved → (place : ℕ) → Writes ways place → IsSaved more place
  pub only : (place : ℕ) → IsSaved more place → IsSaved saved place ⊎ Writes ways place

-- the value of one place is saved with others
pub record SavesPlace (place mark : ℕ) (before after : List ℕ) (saved more : List Saved) : Type 0 where
  pub saving : (values : List ℕ) → Saving mark values before saved → Saving mark values after more
  pub kept : (other : ℕ) → IsSaved saved other → IsSaved more other
  pub here : (values : List ℕ) → Saving mark values before saved → IsSaved more place
  pub only : (other : ℕ) → IsSaved more other → IsSaved saved other ⊎ (place ≡ other)

-- the places whose values are saved have new ones, into which those come
pub record Opened (saved : List Saved) (low high : ℕ) (edges more : List Edge) (before now : List ℕ) : Type 0 where
  pub merged : Merged low high edges more before before now
  pub each : (place : ℕ) → IsSaved saved place → low ≤ value_at now place
  pub others : (place : ℕ) → IsSaved saved place ⊎ (value_at now place ≡ value_at before place)

-- A body of a loop, and what comes from its end to the head. Whatever the head is of which these values were saved, it is the body's.
pub record EndsAt (body : Ways) (low high : ℕ) (edges more : List Edge) (uses all : List Use) (saved : List Saved) (before after : List ℕ) : Type 0 where
  pub comes : Bool
  pub between : List Edge
  pub traced : Traced body comes low high edges between uses all before after
  pub closed : comes ≡ true → (head : List ℕ) → Restores saved after head → Closed between more head after
  pub same : comes ≡ false → more ≡ between
