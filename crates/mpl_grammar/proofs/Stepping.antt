-- What one token does, by what the next symbol takes of it.
use Rattle.std.proofs.Common.{◌≡◌, ◌≤◌, Bool, true, false, [], ◌∷◌, Option, Some, None, if◌then◌else◌, refl, ap, sym, ◌∙◌, subst, arith}
use Rattle.mpl_ast.specs.declared.token.TokenKind.{TokenKind}
use Rattle.mpl_mean.specs.Limits.{most_weight}
use Rattle.mpl_grammar.specs.Internal.Grammar.{Stack, declaration_rows, may_end}
use Rattle.mpl_grammar.specs.Internal.Machine.{found, next, or_later, takes, weight}
use Rattle.mpl_grammar.specs.Internal.Taking.{WasTaken}
use Rattle.mpl_grammar.specs.declared.symbol.Symbol.{Symbol}
use Rattle.mpl_grammar.proofs.FaultsFit.{nothing_behind}
use Rattle.mpl_grammar.proofs.Growth.{heavier-least}

taken_of : (o : Option Stack) (x : Symbol) (s new : Stack) (later : Option Stack) → WasTaken o true s new → or_later o (may_end x) s later ≡ Some new
taken_of (Some p) x s new later h = ap Some (sym h)
taken_of None x s new later h = absurd h

pub goes_taken : (old : Stack) (x : Symbol) (s new : Stack) (k : TokenKind) → old ≡ x ∷ s → WasTaken (takes x k) true s new → next old k ≡ Some new
goes_taken old x s new k e h = ap (λ z. next z k) e ∙ taken_of (takes x k) x s new (next s k) h

left_of : (o : Option Stack) (b : Bool) (s new : Stack) (later : Option Stack) → WasTaken o false s new → or_later o b s later ≡ (if b then later else None)
left_of (Some p) b s new later h = absurd h
left_of None true s new later h = refl
left_of None false s new later h = refl

stays_below : (o : Option Stack) (s new : Stack) → WasTaken o false s new → new ≡ s
stays_below (Some p) s new h = absurd h
stays_below None s new h = h

pub goes_over : (old : Stack) (x : Symbol) (s new : Stack) (k : TokenKind) → old ≡ x ∷ s → WasTaken (takes x k) false s new → may_end x ≡ true → next old k ≡ next new k
goes_over old x s new k e h f =
    ap (λ z. next z k) e ∙ left_of (takes x k) (may_end x) s new (next s k) h ∙ ap (λ (b : Bool). if b then next s k else None) f ∙ ap (λ z. next z k) (sym (stays_below (takes x k) s new h))

pub goes_nowhere : (old : Stack) (x : Symbol) (s new : Stack) (k : TokenKind) → old ≡ x ∷ s → WasTaken (takes x k) false s new → may_end x ≡ false → next old k ≡ None
goes_nowhere old x s new k e h f =
    ap (λ z. next z k) e ∙ left_of (takes x k) (may_end x) s new (next s k) h ∙ ap (λ (b : Bool). if b then next s k else None) f

declared_of : (o : Option Stack) (b : Bool) (new : Stack) → WasTaken o b [] new → o ≡ (if b then Some new else None)
declared_of (Some p) true new h = ap Some (sym (nothing_behind p) ∙ sym h)
declared_of (Some p) false new h = absurd h
declared_of None true new h = absurd h
declared_of None false new h = refl

pub goes_declared : (old mid : Stack) (b : Bool) (new : Stack) (k : TokenKind) → old ≡ [] → mid ≡ [] → WasTaken (found declaration_rows k) b mid new → next old k ≡ (if b then Some new else None)
goes_declared old mid b new k e f h =
    ap (λ z. next z k) e ∙ declared_of (found declaration_rows k) b new (subst (λ z. WasTaken (found declaration_rows k) b z new) f h)

pub light_below : (old : Stack) (x : Symbol) (s new : Stack) (k : TokenKind) → old ≡ x ∷ s → WasTaken (takes x k) false s new → weight old ≤ most_weight → weight new ≤ most_weight
light_below old x s new k e h w =
    let below = heavier-least x (weight s) in
    let whole = ap weight e in
    let same = ap weight (stays_below (takes x k) s new h) in
    omega arith
