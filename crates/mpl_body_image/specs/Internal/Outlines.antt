-- Words on what is found among declarations and items.
use Rattle.std.specs.Prelude.{ℕ, suc, Bool, true, false, Option, Some, None}

-- so many members, with this one if it is one
abbrev pub members_on : Option Bool → ℕ → ℕ
members_on None others = others
members_on (Some test) others = suc others

-- it is found here by this test, or further on; or there is nothing here
abbrev pub found_on : {A : Type 0} → Option A → Bool → Option A → Option A → Option A
found_on None test further same = same
found_on (Some a) true further same = Some a
found_on (Some a) false further same = further
