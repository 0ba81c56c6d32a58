-- What a journal is for the program of a source. Journals stand here as they are written, the oldest entry first.
use Rattle.std.specs.Prelude.{◌≡◌, ℕ, true, List, [], ◌∷◌, reverse, pos, Ok}
use Rattle.mpl_ast.specs.declared.program.Program.{Program}
use Rattle.mpl_ast.specs.declared.token.Token.{Token}
use Rattle.mpl_value.specs.declared.known.Known.TheVariants.{Value}
use Rattle.mpl_mean.specs.Text.Lexemes.{tokens_of}
use Rattle.mpl_mean.specs.Text.ProgramText.{spells}
use Rattle.mdf_mean.specs.declared.entry.Entry.{Entry}
use Rattle.mdf_mean.specs.declared.entry.Entry.TheVariants.{Arrive, Accept, Reply}
use Rattle.mdf_mean.specs.Explained.{Closed, Explained, Justified, Outcome, Over, outcome_of, turns_of}
use Rattle.mdf_mean.specs.Language.{language}
use Rattle.mdf_mean.specs.Meanings.{Setting}

-- ---- entries

abbrev pub arrive : ℕ → ℕ → Entry
arrive body call = Arrive body call

abbrev pub accept : ℕ → ℕ → ℕ → Entry
accept number body call = Accept number body call

-- a reply with one word
abbrev pub reply : ℕ → ℕ → ℕ → Entry
reply body call word = Reply body call (Value (pos word ∷ []))

abbrev pub reply_nothing : ℕ → ℕ → Entry
reply_nothing body call = Reply body call (Value [])

-- ---- sources

-- a program has the tokens of the source, and this holds of it
pub record HasProgram (source : List ℕ) (P : Program → Type 0) : Type 0 where
  pub tokens : List Token
  pub tokens_are : tokens_of source ≡ Ok tokens
  pub program : Program
  pub spelled : spells program tokens ≡ true
  pub holds : P program

abbrev pub setting : ℕ → Program → Setting
setting turns p = record { meaning = language p; input = []; turns = turns }

-- ---- journals

-- the journal explains a whole run of the program, which ends so and takes so many turns
pub record Explains (turns : ℕ) (journal : List Entry) (outcome : Outcome) (spent : ℕ) (p : Program) : Type 0 where
  pub explained : Explained (setting turns p) (reverse journal)
  pub closed : Closed (setting turns p) (reverse journal)
  pub outcome_is : outcome_of (setting turns p) (reverse journal) ≡ outcome
  pub turns_are : turns_of (setting turns p) (reverse journal) ≡ spent

-- the journal explains a part of a run, in which more may happen
pub record ExplainsPart (turns : ℕ) (journal : List Entry) (p : Program) : Type 0 where
  pub explained : Explained (setting turns p) (reverse journal)
  pub goes_on : Closed (setting turns p) (reverse journal) → ⊥

-- the entries before are explained, and the next isn't justified
pub record FailsAt (turns : ℕ) (before : List Entry) (next : Entry) (p : Program) : Type 0 where
  pub explained : Explained (setting turns p) (reverse before)
  pub fails : Justified (setting turns p) (reverse before) next → ⊥

abbrev pub IsRun : List ℕ → ℕ → List Entry → Outcome → ℕ → Type 0
IsRun source turns journal outcome spent = HasProgram source (Explains turns journal outcome spent)

abbrev pub IsPart : List ℕ → ℕ → List Entry → Type 0
IsPart source turns journal = HasProgram source (ExplainsPart turns journal)

abbrev pub IsUnjustified : List ℕ → ℕ → List Entry → Entry → Type 0
IsUnjustified source turns before next = HasProgram source (FailsAt turns before next)

-- the bodies of the journal, or of some front of it, need more turns than they are given
pub record OverWith (turns : ℕ) (journal : List Entry) (p : Program) : Type 0 where
  pub over : Over (setting turns p) (reverse journal)

abbrev pub IsOver : List ℕ → ℕ → List Entry → Type 0
IsOver source turns journal = HasProgram source (OverWith turns journal)
