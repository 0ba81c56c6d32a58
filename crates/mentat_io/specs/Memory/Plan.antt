-- Which calls of an object in memory are to fail, and how many have failed.
use Rattle.std.specs.Prelude.{ℕ, ◌+◌, Bool, true, false, nat_eq, nat_le, List, ℤ, pos, negsuc, if◌then◌else◌}
use Rattle.std.specs.List.{list_any, list_all}
use Rattle.mentat_io.specs.Causes.{one_more}

-- the numbers of the calls that are to fail, from 1; how many calls were made; how many failed
pub record Plan : Type 0 where
  pub failing : List ℤ
  pub calls : ℕ
  pub faults : ℕ

abbrev pub is_number : ℤ → ℕ → Bool
is_number (pos n) number = nat_eq n number
is_number (negsuc n) number = false

-- the call of that number is to fail
abbrev pub is_listed : List ℤ → ℕ → Bool
is_listed failing number = list_any (λ z. is_number z number) failing

abbrev pub is_past : ℤ → ℕ → Bool
is_past (pos n) calls = nat_le n calls
is_past (negsuc n) calls = true

-- after so many calls none of the list is still to come
abbrev pub none_to_come : List ℤ → ℕ → Bool
none_to_come failing calls = list_all (λ z. is_past z calls) failing

-- the next call is to fail
abbrev pub fails_next : Plan → Bool
fails_next p = is_listed p.failing (p.calls + 1)

-- a call was made, which failed or did not
abbrev pub after_call : Bool → Plan → Plan
after_call failed p =
    record { failing = p.failing; calls = one_more p.calls; faults = if failed then one_more p.faults else p.faults }
