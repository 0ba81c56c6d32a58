-- The program that a source is, and what it does; or why it has none.
use Rattle.std.specs.Prelude.{◌≡◌, ℕ, Bool, true, false, ℤ, List, [], ◌∷◌, length, Option, None, Some, Result, Ok, Err}
use Rattle.std.specs.List.{list_any}
use Rattle.mpl_ast.specs.declared.class.Kind.TheVariants.{Regular, Persistent}
use Rattle.mpl_ast.specs.declared.program.Declaration.{Declaration}
use Rattle.mpl_ast.specs.declared.program.Declaration.TheVariants.{Struct, Class, Function}
use Rattle.mpl_ast.specs.declared.program.Program.{Program}
use Rattle.mpl_ast.specs.declared.token.Keyword.{Keyword}
use Rattle.mpl_ast.specs.declared.token.Keyword.TheVariants as keyword
use Rattle.mpl_ast.specs.declared.token.Token.{Token}
use Rattle.mpl_ast.specs.declared.token.TokenKind.{TokenKind}
use Rattle.mpl_ast.specs.declared.token.TokenKind.TheVariants as kind
use Rattle.mpl_mean.specs.Accepted.{IsAccepted}
use Rattle.mpl_mean.specs.Meaning.DirectRun.{direct_run}
use Rattle.mpl_mean.specs.Text.Lexemes.{BadByte, LexicalFault, OpenComment, WideNumber, tokens_of}
use Rattle.mpl_mean.specs.Text.ParseFaults.{IsSyntaxFault, IsTooDeep}
use Rattle.mpl_mean.specs.Text.ProgramText.{spells}
use Rattle.mpl_mean.specs.Text.Weight.{is_light}
use Rattle.mpl_mean.specs.TypeRules.Rules.{least_failure}
use Rattle.mpl_value.specs.declared.body.Yield.{Yield}
use Rattle.mentat_cmd.specs.declared.status.Refusal.{Refusal}
use Rattle.mentat_cmd.specs.declared.status.Refusal.TheVariants as refusal

-- ---- sources that are not accepted

-- the source has tokens, and they have this fault
pub record HasFault (source : List ℕ) (Fault : List Token → Type 0) : Type 0 where
  pub tokens : List Token
  pub lexed : tokens_of source ≡ Ok tokens
  pub fault : Fault tokens

-- The source has the tokens of a program, of which none weighs too much, and in it a type rule fails: of all that fail
-- this one fails at the first byte, and of those there it has the least number.
pub record IsIllTyped (source : List ℕ) (rule at : ℕ) : Type 0 where
  pub tokens : List Token
  pub lexed : tokens_of source ≡ Ok tokens
  pub program : Program
  pub spelled : spells program tokens ≡ true
  pub light : is_light program ≡ true
  pub fails : least_failure program ≡ Some (record { at = at; rule = rule })

-- the first fault of the source, and its first byte
abbrev pub IsRefused : List ℕ → Refusal → Type 0
IsRefused source (refusal.BadByte at) = tokens_of source ≡ Err (BadByte, at)
IsRefused source (refusal.WideNumber at) = tokens_of source ≡ Err (WideNumber, at)
IsRefused source (refusal.OpenComment at) = tokens_of source ≡ Err (OpenComment, at)
IsRefused source (refusal.Syntax at) = HasFault source (λ tokens. IsSyntaxFault tokens (length source) at)
IsRefused source (refusal.TooDeep at) = HasFault source (λ tokens. IsTooDeep tokens at)
IsRefused source (refusal.Rule rule at) = IsIllTyped source rule at

-- ---- words of a source

-- where the word `persistent` of a class stands, if it has it
abbrev pub persistent_word : Declaration → Option ℕ
persistent_word (Class at number (Persistent word) name items) = Some word.span.from
persistent_word (Class at number (Regular word) name items) = None
persistent_word (Struct at number name fields) = None
persistent_word (Function at type name formals block) = None

abbrev pub or_later : Option ℕ → Option ℕ → Option ℕ
or_later (Some at) later = Some at
or_later None later = later

-- the first such word
abbrev pub first_persistent : List Declaration → Option ℕ
first_persistent [] = None
first_persistent (d ∷ ds) = or_later (persistent_word d) (first_persistent ds)

abbrev pub is_input_kind : TokenKind → Bool
is_input_kind (kind.Keyword word) = is_word word where
  is_word : Keyword → Bool
  is_word keyword.Input = true
  is_word _ = false
is_input_kind (kind.Name text) = false
is_input_kind (kind.Number value) = false
is_input_kind (kind.Mark mark) = false

-- the source has the word `input`
abbrev pub asks_for_input : List ℕ → Bool
asks_for_input source = among (tokens_of source) where
  among : Result (List Token) (LexicalFault × ℕ) → Bool
  among (Ok tokens) = list_any (λ (t : Token). is_input_kind t.kind) tokens
  among (Err fault) = false

-- ---- sources that are accepted

-- the source is accepted as the program, which has no persistent class
pub record IsBuilt (source : List ℕ) (p : Program) : Type 0 where
  pub accepted : IsAccepted source p
  pub regular : first_persistent p.declarations ≡ None

-- the source is accepted as a program whose first word `persistent` stands there
pub record IsUnbuilt (source : List ℕ) (at : ℕ) : Type 0 where
  pub program : Program
  pub accepted : IsAccepted source program
  pub persistent : first_persistent program.declarations ≡ Some at

-- the source is accepted as a program without persistent classes, and asks for the input
pub record NeedsInput (source : List ℕ) : Type 0 where
  pub program : Program
  pub source_is : IsBuilt source program
  pub asks : asks_for_input source ≡ true

-- this is what the program of the source does with these numbers, within the budget
pub record Runs (budget : ℕ) (source : List ℕ) (input : List ℤ) (y : Yield) : Type 0 where
  pub program : Program
  pub source_is : IsBuilt source program
  pub yield : y ≡ direct_run program input budget
