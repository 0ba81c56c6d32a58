-- How the order of the serials that are in follows their marks.
use Rattle.std.specs.Prelude.{◌≡◌, ◌↔◌, ℕ, Bool, true, false, List, [], ◌∷◌, ◌++◌, length, take, Some, slice_get, slice_set}
use Rattle.std.specs.List.{Contains, insert, remove}
use Rattle.std.specs.List.Sorted.{IsStrictlyIncreasing}
use Rattle.mdf_order.specs.InOrder.{serials_in}

-- how many serials before one are in
abbrev pub rank : List Bool → ℕ → ℕ
rank marks serial = length (serials_in (take serial marks))

abbrev pub SerialsRise : Type 0
SerialsRise = (marks : List Bool) → IsStrictlyIncreasing (serials_in marks)

abbrev pub MarkedAreIn : Type 0
MarkedAreIn = (marks : List Bool) (serial : ℕ) → Contains (serials_in marks) serial ↔ (slice_get marks serial ≡ Some true)

abbrev pub EachStandsAtItsRank : Type 0
EachStandsAtItsRank = (marks : List Bool) (serial : ℕ) → slice_get marks serial ≡ Some true → slice_get (serials_in marks) (rank marks serial) ≡ Some serial

abbrev pub AddedIsOut : Type 0
AddedIsOut = (marks : List Bool) → serials_in (marks ++ false ∷ []) ≡ serials_in marks

abbrev pub InsertedAtItsRank : Type 0
InsertedAtItsRank = (marks : List Bool) (serial : ℕ) → slice_get marks serial ≡ Some false
    → serials_in (slice_set marks serial true) ≡ insert (serials_in marks) (rank marks serial) serial

abbrev pub RemovedFromItsRank : Type 0
RemovedFromItsRank = (marks : List Bool) (serial : ℕ) → slice_get marks serial ≡ Some true
    → serials_in (slice_set marks serial false) ≡ remove (serials_in marks) (rank marks serial)
