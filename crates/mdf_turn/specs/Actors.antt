-- The actors that events name, and those that are out after a log.
use Rattle.std.specs.Prelude.{◌≡◌, ℕ, Bool, false, if◌then◌else◌, List, [], ◌++◌, Option, filter, Contains, ◌⊎◌}
use Rattle.std.specs.List.{filter_map}
use Rattle.mdf_turn.specs.Prefixes.{after}

module _ {E : Type 0} (actor : E → Option ℕ) where
  abbrev pub named : List E → List ℕ
  named events = filter_map actor events

  -- an actor that none of the added events names is out after them exactly where it was before
  abbrev pub OthersStay : (List E → ℕ → Bool) → Type 0
  OthersStay is_out = (log more : List E) (x : ℕ) → ¬ Contains (named more) x → is_out (log ++ more) x ≡ is_out log x

  -- the events name none of the actors
  abbrev pub NameNone : List E → List ℕ → Type 0
  NameNone events held = (x : ℕ) → Contains held x → ¬ Contains (named events) x

  module _ (is_out : List E → ℕ → Bool) where
    -- The events name only actors that are held, or that are not out after the log that was found. Nobody holds the latter
    abbrev pub NameOnlyFree : List E → List ℕ → List E → Type 0
    NameOnlyFree events held found = (x : ℕ) → Contains (named events) x → Contains held x ⊎ (is_out found x ≡ false)

    -- What is held after the log: nothing where it has ended, else those that are out, of what was held and what the new events name
    abbrev pub held_after : (List E → Bool) → List ℕ → List E → List E → List ℕ
    held_after has_ended held found log = if has_ended log then [] else filter (is_out log) (held ++ named (after found log))
