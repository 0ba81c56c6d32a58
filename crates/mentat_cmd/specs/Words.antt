-- The words of a command.
use Rattle.std.specs.Prelude.{ℕ, Bool, false, not, ◌&&◌, ◌==◌, nat_le, List, [], ◌∷◌, length, codes, Option, Some, None, if◌then◌else◌}
use Rattle.std.specs.Option.{option_and_then, option_map}
use Rattle.std.specs.Str.{bytes_eq}
use Rattle.mpl_mean.specs.Limits.{greatest_budget, usual_budget}
use Rattle.mentat_input.specs.Words.{magnitude_of}

abbrev pub is_run : List ℕ → Bool
is_run word = bytes_eq word (codes "run")

abbrev pub is_workers : List ℕ → Bool
is_workers word = bytes_eq word (codes "--workers")

abbrev pub is_budget : List ℕ → Bool
is_budget word = bytes_eq word (codes "--budget")

-- a file's name is not empty and doesn't begin with a dash
abbrev pub is_file : List ℕ → Bool
is_file [] = false
is_file (first ∷ others) = not (first == 45)

-- ---- numbers

abbrev pub most_digits : ℕ
most_digits = 7

abbrev pub in_range : (least most : ℕ) → ℕ → Option ℕ
in_range least most n = if nat_le least n && nat_le n most then Some n else None

-- the number that one to seven digits spell, where it is in a range
abbrev pub number_in : (least most : ℕ) → List ℕ → Option ℕ
number_in least most word = if nat_le (length word) most_digits then option_and_then (in_range least most) (magnitude_of word) else None

-- ---- options

-- the budget that is given, or else the usual one
abbrev pub budget_in : List (List ℕ) → Option ℕ
budget_in [] = Some usual_budget
budget_in (option ∷ []) = None
budget_in (option ∷ value ∷ []) = if is_budget option then number_in 1 greatest_budget value else None
budget_in (option ∷ value ∷ third ∷ others) = None

-- There are no workers: the program runs on the thread of the command.
abbrev pub budget_of : List (List ℕ) → Option ℕ
budget_of [] = budget_in []
budget_of (option ∷ []) = budget_in (option ∷ [])
budget_of (option ∷ value ∷ others) = if is_workers option then option_and_then (λ workers. budget_in others) (number_in 0 0 value) else budget_in (option ∷ value ∷ others)

-- ---- commands

-- the program in a file is run, and may take so many turns
pub record Command : Type 0 where
  pub file : List ℕ
  pub budget : ℕ

-- what the words `run FILE`, with options behind them, ask for
abbrev pub command_of : List (List ℕ) → Option Command
command_of [] = None
command_of (command ∷ []) = None
command_of (command ∷ file ∷ options) = if is_run command && is_file file then option_map (λ budget. record { file = file; budget = budget }) (budget_of options) else None
