-- What two settings have in common.
use Rattle.std.specs.Prelude.{◌≡◌, ◌↔◌, ℕ, true, List, length, ℤ}
use Rattle.std.specs.List.{list_all}
use Rattle.mpl_value.specs.declared.body.BodyStart.{BodyStart}
use Rattle.mpl_value.specs.declared.body.CallMade.{CallMade}
use Rattle.mdf_mean.specs.declared.entry.Entry.{Entry}
use Rattle.mdf_mean.specs.Explained.{Closed, Explained, Justified, outcome_of, turns_of}
use Rattle.mdf_mean.specs.Fits.{ArgumentsFit, Fits}
use Rattle.mdf_mean.specs.Meanings.{Answers, Meaning, Setting}
use Rattle.mdf_mean.specs.Picks.{open_at}
use Rattle.mdf_mean.specs.Ran.{bodies, is_known, starts_of}

-- The second meaning says the same as the first at starts and replies that fit the first, and of calls and states that do.
pub record Agrees (m other : Meaning) : Type 0 where
  pub yields : (start : BodyStart) (answers : Answers) (n : ℕ) → Fits m start answers n → other.yield start answers n ≡ m.yield start answers n
  pub choices : (class : ℤ) (state : List ℤ) (call : CallMade) → length state ≡ m.words class → list_all is_known call.args ≡ true → ArgumentsFit call.args (m.sizes call.member)
      → open_at (other.choices class) state call ≡ open_at (m.choices class) state call
  pub words : (class : ℤ) → other.words class ≡ m.words class

-- A journal means the same in two settings: its bodies, what is justified after it, and what has become of it.
pub record SameJournal (s t : Setting) (h : List Entry) : Type 0 where
  pub starts : starts_of t h ≡ starts_of s h
  pub bodies : bodies t h ≡ bodies s h
  pub justified : (e : Entry) → Justified s h e ↔ Justified t h e
  pub explained : Explained s h ↔ Explained t h
  pub closed : Closed s h ↔ Closed t h
  pub turns : turns_of t h ≡ turns_of s h
  pub outcome : outcome_of t h ≡ outcome_of s h
