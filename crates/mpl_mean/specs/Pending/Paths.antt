-- The ways through a body, and the paths that follow them.
use Rattle.std.specs.Prelude.{ℕ, ◌≡◌, true, [], ◌∷◌, ◌++◌}
use Rattle.mpl_mean.specs.Pending.Looseness.{Event, Forces, Path, behind_path, none_loose}

-- Each test goes either way, so nothing is said of what it tests.
pub data Ways : Type 0 where
  NoEvent : Ways
  Only : Event → Ways
  Then : Ways → Ways → Ways
  Either : Ways → Ways → Ways
  -- the test, and then any number of times the body and the test again
  Loop : (test body : Ways) → Ways
  -- a `return`, behind which no path goes on
  Stop : Ways

-- a path through ways, from their start to their end
pub data Through : Ways → Path → Type 0 where
  nothing : Through NoEvent []
  only : {event : Event} → Through (Only event) (event ∷ [])
  in_turn : {first second : Ways} {p q : Path} → Through first p → Through second q → Through (Then first second) (p ++ q)
  one_way : {one other : Ways} {p : Path} → Through one p → Through (Either one other) p
  other_way : {one other : Ways} {p : Path} → Through other p → Through (Either one other) p
  leaves : {test body : Ways} {p : Path} → Through test p → Through (Loop test body) p
  goes_round : {test body : Ways} {p q r : Path} → Through test p → Through body q → Through (Loop test body) r → Through (Loop test body) (p ++ (q ++ r))

-- a path into ways, from their start to just before an event
pub data UpTo (event : Event) : Ways → Path → Type 0 where
  here : UpTo event (Only event) []
  in_first : {first second : Ways} {p : Path} → UpTo event first p → UpTo event (Then first second) p
  in_second : {first second : Ways} {p q : Path} → Through first p → UpTo event second q → UpTo event (Then first second) (p ++ q)
  in_one : {one other : Ways} {p : Path} → UpTo event one p → UpTo event (Either one other) p
  in_other : {one other : Ways} {p : Path} → UpTo event other p → UpTo event (Either one other) p
  in_test : {test body : Ways} {p : Path} → UpTo event test p → UpTo event (Loop test body) p
  in_body : {test body : Ways} {p q : Path} → Through test p → UpTo event body q → UpTo event (Loop test body) (p ++ q)
  in_next_round : {test body : Ways} {p q r : Path} → Through test p → Through body q → UpTo event (Loop test body) r → UpTo event (Loop test body) (p ++ (q ++ r))

-- A use is marked where on some path its variable is loose just before it.
pub record Marked (ways : Ways) (node : ℕ) : Type 0 where
  pub variable : ℕ
  pub path : Path
  pub leads : UpTo (Forces node variable) ways path
  pub is_loose : behind_path path none_loose variable ≡ true
