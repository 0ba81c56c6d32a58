-- The operators of several levels, counted together.
use Rattle.std.specs.Prelude.{ℕ, zero, suc, ◌+◌, ◌≡◌, ◌≤◌, Bool, true, false, List, [], ◌∷◌, Some, if◌then◌else◌, nat_le}
use Rattle.mpl_ast.specs.declared.token.Token.{Token}
use Rattle.mpl_ast.specs.declared.token.TokenKind.{TokenKind}
use Rattle.mpl_trees.specs.Ahead.{count, counted, tally}
use Rattle.mpl_trees.specs.declared.position.Position.{Position}
use Rattle.mpl_trees.specs.declared.position.Position.TheVariants.{Before, Behind, Within}
use Rattle.mpl_expressions.specs.declared.lead.Scan.{Scan}
use Rattle.mpl_expressions.specs.declared.lead.Step.{Step}
use Rattle.mpl_expressions.specs.declared.lead.Step.TheVariants.{To, Operator, End}

-- a sum over the levels from one up to another
abbrev pub sum_from : ℕ → ℕ → (ℕ → ℕ) → ℕ
sum_from low zero f = 0
sum_from low (suc level) f = sum_from low level f + (if nat_le low level then f level else 0)

-- the operators that were found, and those that come
abbrev pub all_of : Scan → ℕ → List Token → ℕ
all_of s level ts = s.found + sum_from s.lowest level (λ n. count n s.position ts)

-- all of them behind a step, which goes on or was the last
abbrev pub all_behind : Bool → Scan → ℕ → List Token → ℕ
all_behind true s level ts = all_of s level ts
all_behind false s level ts = s.found

-- what counting comes to behind a token
abbrev pub stepped : ℕ → Step → (Position → ℕ) → ℕ
stepped level (To q) go = go q
stepped level (Operator l) go = tally level (Some l) (go Before)
stepped level End go = 0

abbrev pub IsStep : TokenKind → Position → Step → Type 0
IsStep kind p step = (level : ℕ) (go : Position → ℕ) → counted level kind p go ≡ stepped level step go

abbrev pub depth : Position → ℕ
depth Before = 0
depth Behind = 0
depth (Within n) = suc n

abbrev pub step_depth : Step → ℕ
step_depth (To q) = depth q
step_depth (Operator l) = 0
step_depth End = 0

-- behind a token of the kind
abbrev pub IsScanned : ℕ → TokenKind → Scan → Bool → Scan → Type 0
IsScanned level kind before goes_on after = (t : Token) (ts : List Token) → t.kind ≡ kind → all_of before level (t ∷ ts) ≡ all_behind goes_on after level ts

-- behind an operator of a level
abbrev pub IsCounted : ℕ → ℕ → Scan → Bool → Scan → Type 0
IsCounted level of before goes_on after =
    (t : Token) (ts : List Token) → ((n : ℕ) → count n before.position (t ∷ ts) ≡ tally n (Some of) (count n Before ts)) → all_of before level (t ∷ ts) ≡ all_behind goes_on after level ts
