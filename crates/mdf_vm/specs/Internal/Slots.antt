-- Variables whose words lie one after another.
use Rattle.std.specs.Prelude.{ℕ, ◌+◌, ◌≤◌, List, [], ◌∷◌, Option, Some, None, ℤ}
use Rattle.mpl_value.specs.Words.{words_at}
use Rattle.mdf_code.specs.Alone.{Held, Words, Pending}
use Rattle.mdf_vm.specs.declared.slot.Slot.{Slot}

-- words, or the result of a call in their place
abbrev pub held_by : Option ℕ → List ℤ → Held
held_by None words = Words words
held_by (Some number) words = Pending number

abbrev pub held_at : List ℤ → Slot → Held
held_at words slot = held_by slot.pending (words_at slot.at slot.count words)

-- each lies behind the one before, from a place on
abbrev pub IsLaid : ℕ → List Slot → ℕ → Type 0
IsLaid from [] end = from ≤ end
IsLaid from (slot ∷ slots) end = (from ≤ slot.at) × IsLaid (slot.at + slot.count) slots end
