-- The faults of tokens that are those of no program, or of one that is too deep, each with its place.
use Rattle.std.specs.Prelude.{◌≡◌, ℕ, ◌+◌, true, List, [], ◌∷◌, ◌++◌}
use Rattle.mpl_ast.specs.declared.program.Program.{Program}
use Rattle.mpl_ast.specs.declared.token.Token.{Token}
use Rattle.mpl_mean.specs.Limits.{most_weight}
use Rattle.mpl_mean.specs.Text.Begins.{Begins, IsLightFront, WeighsBehind}
use Rattle.mpl_mean.specs.Text.ProgramText.{spells}
use Rattle.mpl_mean.specs.Text.Weight.{is_light}

-- some program has exactly these tokens, and they weigh no more than the limit
pub record HasLightProgram (tokens : List Token) : Type 0 where
  pub program : Program
  pub spelled : spells program tokens ≡ true
  pub light : is_light program ≡ true

-- no program has exactly these tokens
abbrev pub HasNoProgram : List Token → Type 0
HasNoProgram tokens = (p : Program) → spells p tokens ≡ true → ⊥

-- no program goes on with the first of the rest, or ends where there is none
abbrev pub GoesNoFurther : List Token → List Token → Type 0
GoesNoFurther front [] = HasNoProgram front
GoesNoFurther front (t ∷ ts) = ¬ Begins (front ++ t ∷ [])

-- where the first token begins, or else the source ends
abbrev pub place_of : List Token → ℕ → ℕ
place_of [] end = end
place_of (t ∷ ts) end = t.span.from

-- No program has the tokens. Those before the place begin one, and none goes on from there; no program that begins so
-- weighs more than the limit before it.
pub record IsSyntaxFault (tokens : List Token) (end at : ℕ) : Type 0 where
  pub front : List Token
  pub rest : List Token
  pub whole : tokens ≡ front ++ rest
  pub place : at ≡ place_of rest end
  pub begins : Begins front
  pub light : IsLightFront front
  pub no_further : GoesNoFurther front rest
  pub none : HasNoProgram tokens

-- The tokens up to the one at the place begin a program, and there the weight is above the limit for the first time.
pub record IsTooDeep (tokens : List Token) (at : ℕ) : Type 0 where
  pub front : List Token
  pub token : Token
  pub rest : List Token
  pub whole : tokens ≡ front ++ token ∷ rest
  pub place : at ≡ token.span.from
  pub begins : Begins (front ++ token ∷ [])
  pub light : IsLightFront front
  pub heavy : WeighsBehind front token (most_weight + 1)
