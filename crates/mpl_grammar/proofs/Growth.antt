-- No token raises the weight by more than one.
use Rattle.std.proofs.Common.{◌≡◌, ℕ, ◌+◌, ◌≤◌, Bool, true, false, List, [], ◌∷◌, ◌++◌, Option, Some, None, if◌then◌else◌, refl, ap, subst, arith}
use Rattle.mpl_ast.specs.declared.token.TokenKind.{TokenKind}
use Rattle.mpl_mean.proofs.Truth.{some_is}
use Rattle.mpl_grammar.specs.Internal.Grammar.{Row, Stack, declaration_rows, may_end, rows}
use Rattle.mpl_grammar.specs.Internal.Machine.{found, heavier, next, or_later, takes, weight}
use Rattle.mpl_grammar.specs.declared.symbol.Symbol.{Symbol}
use Rattle.mpl_grammar.specs.declared.symbol.Symbol.TheVariants.{AName, ANumber, AType, Semicolon, Colon, Dot, Assign, MentatWord, ClassWord, AcceptWord, CloseParenthesis, CloseBracket, OpenFields, OpenItems, OpenEntries, OpenFormals, OpenTest, OpenFor, OpenPrint, OpenFlow, OpenFlows, OpenNothing, ABlock, Fields, Items, Entries, BehindItemName, DimensionIfAny, MoreNames, FormalsIfAny, MoreFormals, GuardIfAny, BlockRest, AStatement, StatementName, StatementDot, StatementField, StatementFieldDot, DeclaratorEnd, MoreDeclarators, ElseIfAny, WordEnd, ForStart, ForName, ForStep, AssignedName, AssignedField, AFlow, FlowOwn, FlowName, FlowField, FlowsIfAny, MoreFlows, ExpressionIfAny, ExpressionsIfAny, MoreExpressions, Operand, Operators, OperandName, ElementIfAny}

-- what the rows push is at most one heavier than what they take
abbrev GrowLittle : (ℕ → ℕ) → List Row → Type 0
GrowLittle before [] = Unit {0}
GrowLittle before (row ∷ all) = ((s : Stack) → weight (row.pushed ++ s) ≤ before (weight s) + 1) × GrowLittle before all

grow : (x : Symbol) → GrowLittle (heavier x) (rows x)
grow AName = ((λ s. omega arith), tt)
grow ANumber = ((λ s. omega arith), tt)
grow AType = ((λ s. omega arith), tt)
grow Semicolon = ((λ s. omega arith), tt)
grow Colon = ((λ s. omega arith), tt)
grow Dot = ((λ s. omega arith), tt)
grow Assign = ((λ s. omega arith), tt)
grow MentatWord = ((λ s. omega arith), tt)
grow ClassWord = ((λ s. omega arith), tt)
grow AcceptWord = ((λ s. omega arith), tt)
grow CloseParenthesis = ((λ s. omega arith), tt)
grow CloseBracket = ((λ s. omega arith), tt)
grow OpenFields = ((λ s. omega arith), tt)
grow OpenItems = ((λ s. omega arith), tt)
grow OpenEntries = ((λ s. omega arith), tt)
grow OpenFormals = ((λ s. omega arith), tt)
grow OpenTest = ((λ s. omega arith), tt)
grow OpenFor = ((λ s. omega arith), tt)
grow OpenPrint = ((λ s. omega arith), tt)
grow OpenFlow = ((λ s. omega arith), tt)
grow OpenFlows = ((λ s. omega arith), tt)
grow OpenNothing = ((λ s. omega arith), tt)
grow ABlock = ((λ s. omega arith), tt)
grow Fields = ((λ s. omega arith), ((λ s. omega arith), tt))
grow Items = ((λ s. omega arith), ((λ s. omega arith), ((λ s. omega arith), ((λ s. omega arith), ((λ s. omega arith), ((λ s. omega arith), tt))))))
grow Entries = ((λ s. omega arith), ((λ s. omega arith), tt))
grow BehindItemName = ((λ s. omega arith), ((λ s. omega arith), ((λ s. omega arith), ((λ s. omega arith), tt))))
grow DimensionIfAny = ((λ s. omega arith), tt)
grow MoreNames = ((λ s. omega arith), tt)
grow FormalsIfAny = ((λ s. omega arith), tt)
grow MoreFormals = ((λ s. omega arith), tt)
grow GuardIfAny = ((λ s. omega arith), tt)
grow BlockRest = ((λ s. omega arith), ((λ s. omega arith), ((λ s. omega arith), ((λ s. omega arith), ((λ s. omega arith), ((λ s. omega arith), ((λ s. omega arith), ((λ s. omega arith), ((λ s. omega arith), ((λ s. omega arith), ((λ s. omega arith), ((λ s. omega arith), tt))))))))))))
grow AStatement = ((λ s. omega arith), ((λ s. omega arith), ((λ s. omega arith), ((λ s. omega arith), ((λ s. omega arith), ((λ s. omega arith), ((λ s. omega arith), ((λ s. omega arith), ((λ s. omega arith), ((λ s. omega arith), ((λ s. omega arith), tt)))))))))))
grow StatementName = ((λ s. omega arith), ((λ s. omega arith), ((λ s. omega arith), ((λ s. omega arith), tt))))
grow StatementDot = ((λ s. omega arith), ((λ s. omega arith), tt))
grow StatementField = ((λ s. omega arith), ((λ s. omega arith), ((λ s. omega arith), ((λ s. omega arith), tt))))
grow StatementFieldDot = ((λ s. omega arith), ((λ s. omega arith), tt))
grow DeclaratorEnd = ((λ s. omega arith), ((λ s. omega arith), tt))
grow MoreDeclarators = ((λ s. omega arith), tt)
grow ElseIfAny = ((λ s. omega arith), tt)
grow WordEnd = tt
grow ForStart = ((λ s. omega arith), ((λ s. omega arith), tt))
grow ForName = ((λ s. omega arith), ((λ s. omega arith), ((λ s. omega arith), ((λ s. omega arith), tt))))
grow ForStep = ((λ s. omega arith), tt)
grow AssignedName = ((λ s. omega arith), ((λ s. omega arith), ((λ s. omega arith), tt)))
grow AssignedField = ((λ s. omega arith), ((λ s. omega arith), tt))
grow AFlow = ((λ s. omega arith), ((λ s. omega arith), ((λ s. omega arith), ((λ s. omega arith), ((λ s. omega arith), ((λ s. omega arith), tt))))))
grow FlowOwn = ((λ s. omega arith), ((λ s. omega arith), tt))
grow FlowName = ((λ s. omega arith), ((λ s. omega arith), ((λ s. omega arith), ((λ s. omega arith), tt))))
grow FlowField = ((λ s. omega arith), ((λ s. omega arith), ((λ s. omega arith), ((λ s. omega arith), tt))))
grow FlowsIfAny = ((λ s. omega arith), ((λ s. omega arith), ((λ s. omega arith), ((λ s. omega arith), ((λ s. omega arith), ((λ s. omega arith), tt))))))
grow MoreFlows = ((λ s. omega arith), tt)
grow ExpressionIfAny = ((λ s. omega arith), ((λ s. omega arith), ((λ s. omega arith), ((λ s. omega arith), ((λ s. omega arith), ((λ s. omega arith), tt))))))
grow ExpressionsIfAny = ((λ s. omega arith), ((λ s. omega arith), ((λ s. omega arith), ((λ s. omega arith), ((λ s. omega arith), ((λ s. omega arith), tt))))))
grow MoreExpressions = ((λ s. omega arith), tt)
grow (Operand n) = ((λ s. omega arith), ((λ s. omega arith), ((λ s. omega arith), ((λ s. omega arith), ((λ s. omega arith), ((λ s. omega arith), tt))))))
grow (Operators n) = ((λ s. omega arith), tt)
grow OperandName = ((λ s. omega arith), ((λ s. omega arith), ((λ s. omega arith), tt)))
grow ElementIfAny = ((λ s. omega arith), tt)

grow_declarations : GrowLittle (λ w. w) declaration_rows
grow_declarations = ((λ s. omega arith), ((λ s. omega arith), ((λ s. omega arith), tt)))

pub heavier-least : (x : Symbol) (w : ℕ) → w ≤ heavier x w
heavier-least AName w = omega arith
heavier-least ANumber w = omega arith
heavier-least AType w = omega arith
heavier-least Semicolon w = omega arith
heavier-least Colon w = omega arith
heavier-least Dot w = omega arith
heavier-least Assign w = omega arith
heavier-least MentatWord w = omega arith
heavier-least ClassWord w = omega arith
heavier-least AcceptWord w = omega arith
heavier-least CloseParenthesis w = omega arith
heavier-least CloseBracket w = omega arith
heavier-least OpenFields w = omega arith
heavier-least OpenItems w = omega arith
heavier-least OpenEntries w = omega arith
heavier-least OpenFormals w = omega arith
heavier-least OpenTest w = omega arith
heavier-least OpenFor w = omega arith
heavier-least OpenPrint w = omega arith
heavier-least OpenFlow w = omega arith
heavier-least OpenFlows w = omega arith
heavier-least OpenNothing w = omega arith
heavier-least ABlock w = omega arith
heavier-least Fields w = omega arith
heavier-least Items w = omega arith
heavier-least Entries w = omega arith
heavier-least BehindItemName w = omega arith
heavier-least DimensionIfAny w = omega arith
heavier-least MoreNames w = omega arith
heavier-least FormalsIfAny w = omega arith
heavier-least MoreFormals w = omega arith
heavier-least GuardIfAny w = omega arith
heavier-least BlockRest w = omega arith
heavier-least AStatement w = omega arith
heavier-least StatementName w = omega arith
heavier-least StatementDot w = omega arith
heavier-least StatementField w = omega arith
heavier-least StatementFieldDot w = omega arith
heavier-least DeclaratorEnd w = omega arith
heavier-least MoreDeclarators w = omega arith
heavier-least ElseIfAny w = omega arith
heavier-least WordEnd w = omega arith
heavier-least ForStart w = omega arith
heavier-least ForName w = omega arith
heavier-least ForStep w = omega arith
heavier-least AssignedName w = omega arith
heavier-least AssignedField w = omega arith
heavier-least AFlow w = omega arith
heavier-least FlowOwn w = omega arith
heavier-least FlowName w = omega arith
heavier-least FlowField w = omega arith
heavier-least FlowsIfAny w = omega arith
heavier-least MoreFlows w = omega arith
heavier-least ExpressionIfAny w = omega arith
heavier-least ExpressionsIfAny w = omega arith
heavier-least MoreExpressions w = omega arith
heavier-least (Operand n) w = omega arith
heavier-least (Operators n) w = omega arith
heavier-least OperandName w = omega arith
heavier-least ElementIfAny w = omega arith

choice : (before : ℕ → ℕ) (row : Row) → ((s : Stack) → weight (row.pushed ++ s) ≤ before (weight s) + 1) → (p s : Stack) (other : Option Stack) → (other ≡ Some p → weight (p ++ s) ≤ before (weight s) + 1)
    → (b : Bool) → (if b then Some row.pushed else other) ≡ Some p → weight (p ++ s) ≤ before (weight s) + 1
choice before row g p s other there true h = subst (λ q. weight (q ++ s) ≤ before (weight s) + 1) (some_is h) (g s)
choice before row g p s other there false h = there h

found-grows : (before : ℕ → ℕ) (all : List Row) → GrowLittle before all → (k : TokenKind) (p s : Stack) → found all k ≡ Some p → weight (p ++ s) ≤ before (weight s) + 1
found-grows before [] g k p s h = absurd cc
found-grows before (row ∷ all) g k p s h = choice before row g.0 p s (found all k) (found-grows before all g.1 k p s) (row.test k) h

later-grows : (x : Symbol) (s z : Stack) (k : TokenKind) → (next s k ≡ Some z → weight z ≤ weight s + 1) → (o : Option Stack) → takes x k ≡ o → (b : Bool) → or_later o b s (next s k) ≡ Some z → weight z ≤ weight (x ∷ s) + 1
later-grows x s z k below (Some p) e b h = subst (λ q. weight q ≤ heavier x (weight s) + 1) (some_is h) (found-grows (heavier x) (rows x) (grow x) k p s e)
later-grows x s z k below None e true h = omega (arith, below h, heavier-least x (weight s))
later-grows x s z k below None e false h = absurd cc

no_stack : (s : Stack) → s ++ [] ≡ s
no_stack [] = refl
no_stack (x ∷ s) = ap (λ z. x ∷ z) (no_stack s)

pub next-grows : (s : Stack) (k : TokenKind) (z : Stack) → next s k ≡ Some z → weight z ≤ weight s + 1
next-grows [] k z h = subst (λ q. weight q ≤ 0 + 1) (no_stack z) (found-grows (λ w. w) declaration_rows grow_declarations k z [] h)
next-grows (x ∷ s) k z h = later-grows x s z k (next-grows s k z) (takes x k) refl (may_end x) h
