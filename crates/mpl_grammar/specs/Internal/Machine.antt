-- The machine that the grammar's table is: from token to token, with what is still to come.
use Rattle.std.specs.Prelude.{ℕ, ◌+◌, Bool, true, false, List, [], ◌∷◌, ◌++◌, nat_le, Option, Some, None, if◌then◌else◌}
use Rattle.std.specs.List.{list_all}
use Rattle.mpl_ast.specs.declared.token.Token.{Token}
use Rattle.mpl_ast.specs.declared.token.TokenKind.{TokenKind}
use Rattle.mpl_mean.specs.Limits.{most_weight}
use Rattle.mpl_grammar.specs.Internal.Grammar.{Row, Stack, declaration_rows, may_end, rows}
use Rattle.mpl_grammar.specs.declared.faults.Fault.{Fault}
use Rattle.mpl_grammar.specs.declared.faults.Fault.TheVariants.{Syntax, TooDeep}
use Rattle.mpl_grammar.specs.declared.symbol.Symbol.{Symbol}
use Rattle.mpl_grammar.specs.declared.symbol.Symbol.TheVariants.{CloseParenthesis, CloseBracket, Fields, Items, Entries, BlockRest, ElseIfAny, WordEnd, Operand, Operators}

-- ---- one token

-- what the first row has that the token fits
abbrev pub found : List Row → TokenKind → Option Stack
found [] k = None
found (row ∷ all) k = if row.test k then Some row.pushed else found all k

abbrev pub takes : Symbol → TokenKind → Option Stack
takes x = found (rows x)

-- what is taken goes before the rest; else the rest goes on, where it may
abbrev pub or_later : Option Stack → Bool → Stack → Option Stack → Option Stack
or_later (Some pushed) ends s later = Some (pushed ++ s)
or_later None true s later = later
or_later None false s later = None

-- what is to come behind the token
abbrev pub next : Stack → TokenKind → Option Stack
next [] k = found declaration_rows k
next (x ∷ s) k = or_later (takes x k) (may_end x) s (next s k)

-- ---- weights

-- how much more weighs, where this is to come, what weighs so much without it: an open bracket, a word whose statement
-- goes on, the operators of an expression
abbrev pub heavier : Symbol → ℕ → ℕ
heavier CloseParenthesis w = w + 1
heavier CloseBracket w = w + 1
heavier Fields w = w + 1
heavier Items w = w + 1
heavier Entries w = w + 1
heavier BlockRest w = w + 1
heavier ElseIfAny w = w + 1
heavier WordEnd w = w + 1
heavier (Operand n) w = w + n
heavier (Operators n) w = w + n
heavier _ w = w

-- the weight at the token behind which this is to come
abbrev pub weight : Stack → ℕ
weight [] = 0
weight (x ∷ s) = heavier x (weight s)

-- ---- a list of tokens

-- the weights up to the end, where it says whether nothing more has to come, or up to a token that may not come
pub data Trace : Type 0 where
  Ends : Bool → Trace
  Stuck : Trace
  Weighs : ℕ → Trace → Trace

abbrev pub onward : (Stack → Trace) → Option Stack → Trace
onward go None = Stuck
onward go (Some s) = Weighs (weight s) (go s)

abbrev pub trace : List Token → Stack → Trace
trace [] s = Ends (list_all may_end s)
trace (t ∷ ts) s = onward (trace ts) (next s t.kind)

abbrev pub is_accepted : Trace → Bool
is_accepted (Ends b) = b
is_accepted Stuck = false
is_accepted (Weighs w t) = is_accepted t

abbrev pub weights_along : Trace → List ℕ
weights_along (Ends b) = []
weights_along Stuck = []
weights_along (Weighs w t) = w ∷ weights_along t

-- ---- the first fault

abbrev pub behind : Option Stack → ℕ → (Stack → Option Fault) → Option Fault
behind None at go = Some (Syntax at)
behind (Some s) at go = if nat_le (weight s) most_weight then go s else Some (TooDeep at)

-- the first fault of the tokens, of a source that ends there
abbrev pub fault : ℕ → List Token → Stack → Option Fault
fault end [] s = if list_all may_end s then None else Some (Syntax end)
fault end (t ∷ ts) s = behind (next s t.kind) t.span.from (fault end ts)
