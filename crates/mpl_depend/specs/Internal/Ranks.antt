-- Values of variables: a copy shares the value that it copies, and where ways meet a new value takes in those that come there.
use Rattle.std.specs.Prelude.{ℕ, zero, suc, ◌≡◌, ◌<◌, ◌≤◌, ◌+◌, ◌⊎◌, Bool, true, false, List, [], ◌∷◌, ◌++◌, length, get_or, ltb, nat_eq, if◌then◌else◌}
use Rattle.std.specs.List.{Contains}
use Rattle.mpl_mean.specs.Pending.Looseness.{Event, Loosens, Settles, Copies, Forces}
use Rattle.mpl_mean.specs.Pending.Paths.{Ways, NoEvent, Only, Then, Either, Loop, Stop}
use Rattle.mpl_depend.specs.Internal.Carried.{Places, no_place}
use Rattle.mpl_depend.specs.Internal.Certain.{Certain}
use Rattle.mpl_depend.specs.Internal.Walking.{Meets, Reaches, Within}
use Rattle.mpl_depend.specs.declared.values.Edge.{Edge}
use Rattle.mpl_depend.specs.declared.values.Use.{Use}

-- the value that stands at a place
abbrev pub value_at : List ℕ → ℕ → ℕ
value_at values place = get_or values place 0

-- 0 for a value to which nothing pending comes, and otherwise a number that rises along the edges by which it comes
abbrev pub Ranks : Type 0
Ranks = ℕ → ℕ

abbrev pub is_some : ℕ → Bool
is_some zero = false
is_some (suc rank) = true

abbrev pub is_by : ℕ → ℕ → Bool
is_by most zero = false
is_by most (suc rank) = ltb rank most

-- where something pending may stand
abbrev pub loose : Ranks → List ℕ → Places
loose ranks values place = is_some (ranks (value_at values place))

-- where something pending of at most this rank may stand
abbrev pub loose_by : Ranks → ℕ → List ℕ → Places
loose_by ranks most values place = is_by most (ranks (value_at values place))

-- along each edge something comes
abbrev pub IsClosed : Ranks → List Edge → Type 0
IsClosed ranks edges = (edge : Edge) → Contains edges edge → is_some (ranks edge.from) ≡ true → is_some (ranks edge.into) ≡ true

-- what comes to a value came along an edge
pub record Comes (ranks : Ranks) (edges : List Edge) (value : ℕ) : Type 0 where
  pub edge : Edge
  pub there : Contains edges edge
  pub into : edge.into ≡ value
  pub loose : is_some (ranks edge.from) ≡ true
  pub lower : ranks edge.from < ranks value

-- for the values from one number to another
abbrev pub AreRanked : Ranks → ℕ → ℕ → List Edge → Type 0
AreRanked ranks low high edges = (value : ℕ) → low ≤ value → value < high → is_some (ranks value) ≡ true → Comes ranks edges value

-- the uses whose value something pending comes to are marked
abbrev pub AreMarked : Ranks → List Use → List ℕ → Type 0
AreMarked ranks uses marks = (use_made : Use) → Contains uses use_made → is_some (ranks use_made.value) ≡ true → Contains marks use_made.node

-- ---- events

abbrev pub with_one : ℕ → ℕ → (ℕ → ℕ) → ℕ → ℕ
with_one one value values place = if nat_eq one place then value else values place

abbrev pub values_on : Event → (ℕ → ℕ) → ℕ → ℕ
values_on (Loosens variable) values = with_one (variable + 1) (values 0) values
values_on (Settles variable) values = with_one (variable + 1) 0 values
values_on (Copies into from) values = with_one (into + 1) (values (from + 1)) values
values_on (Forces node variable) values = with_one (variable + 1) 0 values

-- the uses with that of an event
abbrev pub added : Event → (ℕ → ℕ) → List Use → List Use
added (Loosens variable) values uses = uses
added (Settles variable) values uses = uses
added (Copies into from) values uses = uses
added (Forces node variable) values uses = uses ++ record { node = node; value = values (variable + 1) } ∷ []

-- ---- the places that ways write

abbrev pub place_of : Event → ℕ
place_of (Loosens variable) = variable + 1
place_of (Settles variable) = variable + 1
place_of (Copies into from) = into + 1
place_of (Forces node variable) = variable + 1

abbrev pub Writes : Ways → ℕ → Type 0
Writes NoEvent place = ⊥
Writes (Only event) place = place_of event ≡ place
Writes (Then first second) place = Writes first place ⊎ Writes second place
Writes (Either one other) place = Writes one place ⊎ Writes other place
Writes (Loop test body) place = Writes test place ⊎ Writes body place
Writes Stop place = ⊥

-- ---- where values meet

-- an edge into a value that is made here
pub record IsNew (low high : ℕ) (one other now : List ℕ) (edge : Edge) : Type 0 where
  pub place : ℕ
  pub into : edge.into ≡ value_at now place
  pub from_low : low ≤ edge.into
  pub to_high : edge.into < high
  pub from : (edge.from ≡ value_at one place) ⊎ (edge.from ≡ value_at other place)

-- a value that is made here takes in those of both
pub record IsFresh (low high : ℕ) (more : List Edge) (one other now : List ℕ) (place : ℕ) : Type 0 where
  pub from_low : low ≤ value_at now place
  pub to_high : value_at now place < high
  pub left : Contains more (record { from = value_at one place; into = value_at now place })
  pub right : Contains more (record { from = value_at other place; into = value_at now place })

-- A value of its own for places where two differ, and others as they are. The new values are those from one number to another.
pub record Merged (low high : ℕ) (edges more : List Edge) (one other now : List ℕ) : Type 0 where
  pub sized : length now ≡ length one
  pub rising : low ≤ high
  pub below : (place : ℕ) → value_at now place < high
  pub kept : (edge : Edge) → Contains edges edge → Contains more edge
  pub new : (edge : Edge) → Contains more edge → Contains edges edge ⊎ IsNew low high one other now edge
  pub either : (place : ℕ) → ((value_at now place ≡ value_at one place) × (value_at now place ≡ value_at other place)) ⊎ IsFresh low high more one other now place
  pub apart : (place second : ℕ) → low ≤ value_at now place → value_at now place ≡ value_at now second → place ≡ second

-- where both have one value, that value stays
abbrev pub Same : List ℕ → List ℕ → List ℕ → Type 0
Same left right now = (place : ℕ) → value_at left place ≡ value_at right place → value_at now place ≡ value_at left place

-- What stands behind two ways, where a path comes behind either of them or not.
abbrev pub Joins : Bool → Bool → Bool → ℕ → ℕ → List Edge → List Edge → List ℕ → List ℕ → List ℕ → Type 0
Joins first false comes low high edges more left right now = (comes ≡ first) × (high ≡ low) × (more ≡ edges) × (now ≡ left)
Joins false true comes low high edges more left right now = (comes ≡ true) × (high ≡ low) × (more ≡ edges) × (now ≡ right)
Joins true true comes low high edges more left right now = (comes ≡ true) × Merged low high edges more left right now × Same left right now

-- an edge back to the head of a loop
pub record IsBack (head last : List ℕ) (edge : Edge) : Type 0 where
  pub place : ℕ
  pub from : edge.from ≡ value_at last place
  pub into : edge.into ≡ value_at head place
  pub differs : value_at last place ≡ value_at head place → ⊥

-- what stands behind a round comes to the head
pub record Closed (edges more : List Edge) (head last : List ℕ) : Type 0 where
  pub kept : (edge : Edge) → Contains edges edge → Contains more edge
  pub new : (edge : Edge) → Contains more edge → Contains edges edge ⊎ IsBack head last edge
  pub all : (place : ℕ) → (value_at last place ≡ value_at head place) ⊎ Contains more (record { from = value_at last place; into = value_at head place })

-- ---- a walk

-- what a walk stands on
pub record Stands (ways : Ways) (count : ℕ) (edges : List Edge) (current : List ℕ) : Type 0 where
  pub within : Within (length current) ways
  pub below : (place : ℕ) → value_at current place < count
  pub fresh : (edge : Edge) → Contains edges edge → edge.into < count

-- what stands behind ways, if a path comes there
abbrev pub behind : Bool → Places → Places
behind true places = places
behind false places = no_place

-- What a walk did. Of all ranks that are closed under its edges: with the marks of its uses all is settled. Of all that come along
-- its edges: what is loose behind the ways comes from what was loose before them.
pub record Traced (ways : Ways) (comes : Bool) (low high : ℕ) (edges more : List Edge) (uses all : List Use) (before after : List ℕ) : Type 0 where
  pub sized : length after ≡ length before
  pub rising : low ≤ high
  pub below : (place : ℕ) → value_at after place < high
  pub kept : (edge : Edge) → Contains edges edge → Contains more edge
  pub new : (edge : Edge) → Contains more edge → Contains edges edge ⊎ ((low ≤ edge.into) × (edge.into < high))
  pub uses_kept : (made : Use) → Contains uses made → Contains all made
  pub stays : (place : ℕ) → (Writes ways place → ⊥) → value_at after place ≡ value_at before place
  pub settles : (ranks : Ranks) (marks : List ℕ) → ranks 0 ≡ 0 → IsClosed ranks more → AreMarked ranks all marks → Certain marks ways (loose ranks before) (behind comes (loose ranks after))
  pub sound : (ranks : Ranks) (most : ℕ) → ranks 0 ≡ 0 → AreRanked ranks low high more → comes ≡ true → (place : ℕ) → loose_by ranks most after place ≡ true → Reaches ways (loose_by ranks most before) place
  pub uses_sound : (ranks : Ranks) (most : ℕ) → ranks 0 ≡ 0 → AreRanked ranks low high more → (made : Use) → Contains all made → Contains uses made ⊎ (is_by most (ranks made.value) ≡ true → Meets ways (loose_by ranks most before) made.node)

-- ---- loops

-- the body of a loop, and what comes from its end to the head
pub record Ended (body : Ways) (low high : ℕ) (edges more : List Edge) (uses all : List Use) (head before after : List ℕ) : Type 0 where
  pub comes : Bool
  pub between : List Edge
  pub traced : Traced body comes low high edges between uses all before after
  pub closed : comes ≡ true → Closed between more head after
  pub same : comes ≡ false → more ≡ between

-- a round of a loop, from its head to behind the test, and through the body if a path comes to it
pub record Rounded (test body : Ways) (low high : ℕ) (edges more : List Edge) (uses all : List Use) (head after : List ℕ) : Type 0 where
  pub middle : ℕ
  pub between : List Edge
  pub some : List Use
  pub last : List ℕ
  pub through_test : Traced test true low middle edges between uses some head after
  pub through_body : Ended body middle high between more some all head after last

abbrev pub Round : Ways → Ways → Bool → ℕ → ℕ → List Edge → List Edge → List Use → List Use → List ℕ → List ℕ → Type 0
Round test body true low high edges more uses all head after = Rounded test body low high edges more uses all head after
Round test body false low high edges more uses all head after = Traced test false low high edges more uses all head after
