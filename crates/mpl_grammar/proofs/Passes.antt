-- How a part of a program takes the machine along, with its weights.
use Rattle.std.proofs.Common.{◌≡◌, ℕ, ◌+◌, ◌-◌, Bool, true, false, List, [], ◌∷◌, ◌++◌, Some, None, if◌then◌else◌, refl, ap, sym, ◌∙◌, arith}
use Rattle.mpl_ast.specs.declared.token.Token.{Token}
use Rattle.mpl_ast.specs.declared.token.TokenKind.{TokenKind}
use Rattle.mpl_mean.specs.Text.Reading.{Rest}
use Rattle.mpl_mean.specs.Text.Weight.{Weighs, no_token, ◌⨾◌, plain, counted, closing, whole, bracketed}
use Rattle.mpl_mean.proofs.Readers.Tokens.{Heads, Took, head}
use Rattle.mpl_grammar.specs.Internal.Grammar.{Row, Stack, may_end}
use Rattle.mpl_grammar.specs.Internal.Machine.{Trace, Weighs as AWeight, found, next, onward, or_later, takes, trace, weight}
use Rattle.mpl_grammar.specs.declared.symbol.Symbol.{Symbol}

-- ---- one token

pub found-miss : (row : Row) (all : List Row) (k : TokenKind) → row.test k ≡ false → found (row ∷ all) k ≡ found all k
found-miss row all k h = ap (λ (b : Bool). if b then Some row.pushed else found all k) h

pub found-hit : (row : Row) (all : List Row) (k : TokenKind) → row.test k ≡ true → found (row ∷ all) k ≡ Some row.pushed
found-hit row all k h = ap (λ (b : Bool). if b then Some row.pushed else found all k) h

-- what doesn't take the token is over before it
pub next-over : (x : Symbol) (s : Stack) (k : TokenKind) → takes x k ≡ None → may_end x ≡ true → next (x ∷ s) k ≡ next s k
next-over x s k h e = ap (λ o. or_later o (may_end x) s (next s k)) h ∙ ap (λ b. or_later None b s (next s k)) e

pub next-taken : (x : Symbol) (s p : Stack) (k : TokenKind) → takes x k ≡ Some p → next (x ∷ s) k ≡ Some (p ++ s)
next-taken x s p k h = ap (λ o. or_later o (may_end x) s (next s k)) h

-- ---- some tokens

abbrev pub prepend : List ℕ → Trace → Trace
prepend [] t = t
prepend (w ∷ ws) t = AWeight w (prepend ws t)

pub prepend-append : (a b : List ℕ) (t : Trace) → prepend (a ++ b) t ≡ prepend a (prepend b t)
prepend-append [] b t = refl
prepend-append (w ∷ a) b t = ap (AWeight w) (prepend-append a b t)

-- Tokens from one place to another take the machine from one stack to another, with the weights that they have where
-- so much counts before them. Behind them so much counts.
pub record Passes (w : ℕ) (r : Rest) (s : Stack) (a : Weighs) (v : ℕ) (x : Rest) (z : Stack) : Type 0 where
  pub seen : trace r.tokens s ≡ prepend (a w).weights (trace x.tokens z)
  pub after : (a w).after ≡ v

pub joined : {w v u : ℕ} {r m x : Rest} {s t z : Stack} {a b : Weighs} → Passes w r s a v m t → Passes v m t b u x z → Passes w r s (a ⨾ b) u x z
joined {w = w} {v = v} {x = x} {z = z} {a = a} {b = b} p q = record {
  seen =
      p.seen ∙ ap (prepend (a w).weights) (q.seen ∙ ap (λ n. prepend (b n).weights (trace x.tokens z)) (sym p.after))
      ∙ sym (prepend-append (a w).weights (b (a w).after).weights (trace x.tokens z));
  after = ap (λ n. (b n).after) p.after ∙ q.after;
}

pub stays : {w : ℕ} {r x : Rest} {s : Stack} → r.tokens ≡ x.tokens → Passes w r s no_token w x s
stays {s = s} e = record { seen = ap (λ ts. trace ts s) e; after = refl }

pub as_whole : {w v : ℕ} {r x : Rest} {s z : Stack} {a : Weighs} → Passes w r s a v x z → Passes w r s (whole a) w x z
as_whole p = record { seen = p.seen; after = refl }

-- the stacks differ, and not for what comes
pub ends_as : {w v : ℕ} {r x : Rest} {s y z : Stack} {a : Weighs} → trace x.tokens y ≡ trace x.tokens z → Passes w r s a v x y → Passes w r s a v x z
ends_as {w = w} {a = a} e p = record { seen = p.seen ∙ ap (prepend (a w).weights) e; after = p.after }

-- ---- single tokens

pub trace-took : {k : TokenKind} {r x : Rest} (s : Stack) {z : Stack} → Took k r x → next s k ≡ Some z → trace r.tokens s ≡ AWeight (weight z) (trace x.tokens z)
trace-took {x = x} s t h =
    ap (λ ts. trace ts s) t.first ∙ ap (λ k. onward (trace x.tokens) (next s k)) t.kind ∙ ap (onward (trace x.tokens)) h

pub passes-plain : {k : TokenKind} {w : ℕ} {r x : Rest} {s z : Stack} → Took k r x → next s k ≡ Some z → weight z ≡ w → Passes w r s plain w x z
passes-plain {x = x} {z = z} t h e = record { seen = trace-took _ t h ∙ ap (λ n. AWeight n (trace x.tokens z)) e; after = refl }

pub passes-counted : {k : TokenKind} {w v : ℕ} {r x : Rest} {s z : Stack} → Took k r x → next s k ≡ Some z → weight z ≡ v → v ≡ w + 1 → Passes w r s counted v x z
passes-counted {x = x} {z = z} t h e f = record { seen = trace-took _ t h ∙ ap (λ n. AWeight n (trace x.tokens z)) (e ∙ f); after = sym f }

pub less-one : (w : ℕ) → (w + 1) - 1 ≡ w
less-one w = omega arith

pub passes-closing : {k : TokenKind} {w : ℕ} {r x : Rest} {s z : Stack} → Took k r x → next s k ≡ Some z → weight z ≡ w → Passes (w + 1) r s closing w x z
passes-closing {w = w} {x = x} {z = z} t h e = record {
  seen = trace-took _ t h ∙ ap (λ n. AWeight n (trace x.tokens z)) (e ∙ sym (less-one w));
  after = less-one w;
}

-- a token that has brackets around what is behind it, up to the closing one
pub passes-bracketed : {k l : TokenKind} {w : ℕ} {r m y x : Rest} {s t z u : Stack} {a : Weighs} → Took k r m → next s k ≡ Some t → weight t ≡ w + 1 → Passes (w + 1) m t a (w + 1) y z
    → Took l y x → next z l ≡ Some u → weight u ≡ w → Passes w r s (bracketed a) w x u
passes-bracketed o h e p c i f = joined (passes-counted o h e refl) (joined p (passes-closing c i f))

-- ---- what stands first

trace-first : (ts : List Token) (k : TokenKind) (s z : Stack) → head ts ≡ Some k → next s k ≡ next z k → trace ts s ≡ trace ts z
trace-first [] k s z h e = absurd cc
trace-first (t ∷ ts) k s z h e =
    let same : t.kind ≡ k = cc in
    ap (onward (trace ts)) (ap (next s) same ∙ e ∙ ap (next z) (sym same))

-- two stacks that do the same at the token that stands first
pub trace-heads : {k : TokenKind} {x : Rest} (s z : Stack) → Heads k x → next s k ≡ next z k → trace x.tokens s ≡ trace x.tokens z
trace-heads {k = k} {x = x} s z h e = trace-first x.tokens k s z h.first e
