-- Stacks, the top first, and what is read and written at a place.
use Rattle.std.specs.Prelude.{ℕ, ◌+◌, Bool, true, false, nat_lt, nat_le, List, [], ◌∷◌, ◌++◌, reverse, take, drop, length, slice_set, Option, Some, None, if◌then◌else◌, ℤ}
use Rattle.mpl_value.specs.declared.body.Arg.{Arg}
use Rattle.mpl_value.specs.declared.body.Arg.TheVariants.{Know, Trapped, Unknown}
use Rattle.mpl_value.specs.Words.{words_at, with_words}

-- ---- what may be missing

-- with what is there
abbrev pub given : {A B : Type 0} → Option A → (A → Option B) → Option B
given None next = None
given (Some x) next = next x

abbrev pub where_true : {B : Type 0} → Bool → Option B → Option B
where_true true next = next
where_true false next = None

-- ---- stacks

-- one after another, the last on top
abbrev pub pushed : {A : Type 0} → List A → List A → List A
pushed items stack = reverse items ++ stack

-- what is popped, and the stack below it
pub record Popped (A : Type 0) : Type 0 where
  pub items : A
  pub below : List A

pub record PoppedAll (A : Type 0) : Type 0 where
  pub items : List A
  pub below : List A

abbrev pub popped : {A : Type 0} → List A → Option (Popped A)
popped [] = None
popped (top ∷ below) = Some (record { items = top; below = below })

-- so many from the top, the top last
abbrev pub popped_all : {A : Type 0} → ℕ → List A → Option (PoppedAll A)
popped_all count stack =
    if nat_le count (length stack) then Some (record { items = reverse (take count stack); below = drop count stack }) else None

-- ---- places

-- where the place is there
abbrev pub set_at : {A : Type 0} → ℕ → A → List A → Option (List A)
set_at place item items = if nat_lt place (length items) then Some (slice_set items place item) else None

-- so many words from an offset, where they are there
abbrev pub read_words : ℕ → ℕ → List ℤ → Option (List ℤ)
read_words offset count words = if nat_le (offset + count) (length words) then Some (words_at offset count words) else None

-- words in place of others, where these are there
abbrev pub write_words : ℕ → List ℤ → List ℤ → Option (List ℤ)
write_words offset new words = if nat_le (offset + length new) (length words) then Some (with_words offset new words) else None

-- the words of what is known
abbrev pub known_words_of : Arg → Option (List ℤ)
known_words_of (Know words) = Some words
known_words_of (Trapped t) = None
known_words_of Unknown = None
