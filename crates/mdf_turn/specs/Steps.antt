-- The six kinds of step, and what each does to the seat that makes it. A seat is its view with the slots that it has taken.
use Rattle.std.specs.Prelude.{◌≡◌, ◌≢◌, ℕ, ◌+◌, ◌-◌, ◌*◌, Bool, true, false, List, [], ◌∷◌, ◌++◌, Option, Some, None}
use Rattle.atomic_table.specs.Table.{Me, Step}
use Rattle.mdf_turn.specs.declared.view.View.{View}
use Rattle.mdf_turn.specs.Prefixes.{StartsWith, after, longer, shorter}
use Rattle.mdf_turn.specs.Actors.{NameNone, held_after}

module _ {T J E : Type 0} where
  -- Slot out: an exchange on the slot, which leaves None
  pub record SlotOut (value : T) (before now : Me (Option T) (View J E)) : Type 0 where
    pub had : before.1 ≡ (0, Some value) ∷ []
    pub has : now ≡ (before.0, (0, None) ∷ [])

  -- Slot in: an exchange on the slot, which puts the value back
  pub record SlotIn (value : T) (before now : Me (Option T) (View J E)) : Type 0 where
    pub had : before.1 ≡ (0, None) ∷ []
    pub has : now ≡ (before.0, (0, Some value) ∷ [])

  module _ (job : T → J) (events : T → List E) (actor : E → Option ℕ) where
    -- Take: a compare and exchange from twice the turns given, to one more. The seat has the turn and the slot with the value, and has seen the value's log
    pub record Takes (turns : ℕ) (before now : Me (Option T) (View J E)) : Type 0 where
      pub value : T
      pub view : now.0 ≡ record before.0 { seen = events value; inside = true; turns = turns }
      pub slot : now.1 ≡ (0, Some value) ∷ []
      pub job_is : before.0.root ≡ Some (job value)
      pub seen : StartsWith (events value) before.0.seen
      pub calm : NameNone actor (after before.0.seen (events value)) before.0.held

    -- a compare and exchange that finds another number changes nothing
    abbrev pub tried : Step (Option T) → Me (Option T) (View J E) → ℕ → Me (Option T) (View J E) → Type 0
    tried s before found now = (found ≡ s.first → (turns : ℕ) × (found ≡ 2 * turns) × Takes turns before now) × (found ≢ s.first → now ≡ before)

  -- Give: a store of twice the turns given, this one too. The seat has seen the value's new log, and holds what is then out of what it held or the new events name
  module _ (events : T → List E) (actor : E → Option ℕ) (is_out : List E → ℕ → Bool) (has_ended : List E → Bool) where
    abbrev pub view_given : T → View J E → View J E
    view_given value v = record v { seen = events value; held = held_after actor is_out has_ended v.held v.seen (events value); inside = false }

    abbrev pub given : Step (Option T) → Me (Option T) (View J E) → ℕ → Me (Option T) (View J E) → Type 0
    given s before stored now = (stored ≡ 2 * before.0.turns + 2) × ((value : T) → before.1 ≡ (0, Some value) ∷ [] → now ≡ (view_given value before.0, []))

  -- A load: nothing changes, and what the view knows is so
  pub record Looks (s : Step (Option T)) (before : Me (Option T) (View J E)) (found : ℕ) (now : Me (Option T) (View J E)) : Type 0 where
    pub same : now ≡ before
    pub told : StartsWith now.0.seen now.0.seen_told
    pub root : now.0.root ≡ now.0.root_told

module _ {J E : Type 0} where
  -- Split: a load. The new seat has the same job and log, no actor, and one part; the old seat has one part less
  abbrev pub view_kept : View J E → View J E
  view_kept v = record v { parts = v.parts - 1 }

  abbrev pub view_cut : View J E → View J E
  view_cut v = record v { held = []; parts = 1 }

  -- Join: a load. The kept seat has the longer log, the actors of both, and the sum of the parts; the other is spent
  abbrev pub view_joined : View J E → View J E → View J E
  view_joined v w = record v { seen = longer v.seen w.seen; root_told = w.root; seen_told = shorter v.seen w.seen; held = v.held ++ w.held; parts = v.parts + w.parts }

  abbrev pub view_spent : View J E
  view_spent = record { root = None; seen = []; root_told = None; seen_told = []; held = []; parts = 0; inside = false; turns = 0 }
