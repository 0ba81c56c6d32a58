-- Logs that grow at their ends.
use Rattle.std.specs.Prelude.{◌≡◌, nat_le, if◌then◌else◌, List, ◌++◌, length, drop}

-- the log begins with what was seen of it
pub record StartsWith {E : Type 0} (log seen : List E) : Type 0 where
  pub rest : List E
  pub is : log ≡ seen ++ rest

-- what stands in the log behind what was seen of it
abbrev pub after : {E : Type 0} → List E → List E → List E
after seen log = drop (length seen) log

abbrev pub longer : {E : Type 0} → List E → List E → List E
longer a b = if nat_le (length b) (length a) then a else b

abbrev pub shorter : {E : Type 0} → List E → List E → List E
shorter a b = if nat_le (length b) (length a) then b else a
