-- The rule of a turn: what holds between any two steps of any threads.
use Rattle.std.specs.Prelude.{◌≡◌, ℕ, ◌+◌, ◌*◌, ◌<◌, Bool, true, false, List, [], ◌∷◌, Option, Some, Contains, ◌⊎◌}
use mathlib.Core.Option.{some, none}
use lib.ListN.{get_elem?}
use Rattle.atomic_table.specs.Table.{State}
use Rattle.mdf_turn.specs.declared.view.View.{View}
use Rattle.mdf_turn.specs.Prefixes.{StartsWith, after}
use Rattle.mdf_turn.specs.Actors.{NameNone}

-- the parts of all views
abbrev pub total_parts : {J E : Type 0} → List (View J E) → ℕ
total_parts [] = 0
total_parts (v ∷ vs) = v.parts + total_parts vs

-- the view of the first pass, which has all parts
abbrev pub opened : {J E : Type 0} → J → List E → ℕ → View J E
opened root log parts = record { root = Some root; seen = log; root_told = Some root; seen_told = []; held = []; parts = parts; inside = false; turns = 0 }

-- No two views hold one actor
abbrev pub HoldApart : {J E : Type 0} → List (View J E) → Type 0
HoldApart {J} {E} views = (a b : ℕ) (v w : View J E) → get_elem? views a ≡ some v → get_elem? views b ≡ some w → ¬ (a ≡ b) → (x : ℕ) → Contains v.held x → ¬ Contains w.held x

abbrev pub NoneInside : {J E : Type 0} → List (View J E) → Type 0
NoneInside {J} {E} views = (seat : ℕ) (v : View J E) → get_elem? views seat ≡ some v → v.inside ≡ false

-- The turn is held, and the current log is the one that its holder found
pub record IsHeld {T J E : Type 0} (log : List E) (turns : ℕ) (s : State (Option T) (View J E)) : Type 0 where
  pub word : s.words ≡ (2 * turns + 1) ∷ []
  pub home : s.homes ≡ none ∷ []
  pub holder : ℕ
  pub view : View J E
  pub at : get_elem? s.views holder ≡ some view
  pub inside : view.inside ≡ true
  pub number : view.turns ≡ turns
  pub found : view.seen ≡ log
  pub alone : (seat : ℕ) (v : View J E) → get_elem? s.views seat ≡ some v → v.inside ≡ true → seat ≡ holder

module _ {T J E : Type 0} (job : T → J) (events : T → List E) (actor : E → Option ℕ) (is_out : List E → ℕ → Bool) (root : J) where
  -- What a view says fits the current log. A view that has no part says nothing
  pub record Fits (log : List E) (v : View J E) : Type 0 where
    pub root_is : 0 < v.parts → v.root ≡ Some root
    pub told_is : 0 < v.parts → v.root_told ≡ Some root
    pub seen : StartsWith log v.seen
    pub told : StartsWith log v.seen_told
    pub calm : NameNone actor (after v.seen log) v.held
    pub out : (x : ℕ) → Contains v.held x → is_out log x ≡ true
    pub has_part : v.inside ≡ true → 0 < v.parts

  -- The turn is free, the value is at home, and the current log is its own
  pub record IsFree (log : List E) (turns : ℕ) (s : State (Option T) (View J E)) : Type 0 where
    pub word : s.words ≡ (2 * turns) ∷ []
    pub value : T
    pub home : s.homes ≡ some (Some value) ∷ []
    pub job_is : job value ≡ root
    pub log_is : events value ≡ log
    pub outside : NoneInside s.views

  pub record Kept (parts : ℕ) (s : State (Option T) (View J E)) : Type 0 where
    pub log : List E
    pub turns : ℕ
    pub all : total_parts s.views ≡ parts
    pub fits : (seat : ℕ) (v : View J E) → get_elem? s.views seat ≡ some v → Fits log v
    pub apart : HoldApart s.views
    pub stands : IsFree log turns s ⊎ IsHeld log turns s
