-- Lists with commas take the machine along.
use Rattle.std.proofs.Common.{◌≡◌, List, [], ◌∷◌, ◌++◌, map, Some, refl, ap, ◌∙◌, subst, add-zero}
use Rattle.mpl_ast.specs.declared.token.Mark.{Mark}
use Rattle.mpl_ast.specs.declared.token.Mark.TheVariants as m
use Rattle.mpl_ast.specs.declared.token.TokenKind.TheVariants as kind
use Rattle.mpl_mean.specs.Text.Reading.{Reads, Rest, after_first, mark, separated, separated_if_any}
use Rattle.mpl_mean.specs.Text.Weight.{Weighs, each_after_comma, whole, with_commas}
use Rattle.mpl_mean.proofs.Readers.Parts.{Reading, in_turn, some_same}
use Rattle.mpl_mean.proofs.Readers.Tokens.{Heads, head, took_first, took_mark}
use Rattle.mpl_grammar.specs.Internal.Grammar.{Stack}
use Rattle.mpl_grammar.specs.Internal.Machine.{next, trace, weight}
use Rattle.mpl_grammar.specs.declared.symbol.Symbol.{Symbol}
use Rattle.mpl_grammar.specs.declared.symbol.Symbol.TheVariants.{Operand, ExpressionsIfAny, MoreExpressions}
use Rattle.mpl_grammar.proofs.Passes.{Passes, as_whole, ends_as, joined, passes-plain, stays, trace-heads}
use Rattle.mpl_grammar.proofs.Operands.{Driven, Drives, IsEnd, at_expressions, at_operand, comma, next-end, parenthesis, semicolon}

-- a mark stands there that ends an expression
pub record EndsAt (x : Rest) : Type 0 where
  pub mark : Mark
  pub is_end : IsEnd mark
  pub heads : Heads (kind.Mark mark) x

-- a mark that ends a list
pub data IsListEnd : Mark → Type 0 where
  list_parenthesis : IsListEnd m.CloseParenthesis
  list_semicolon : IsListEnd m.Semicolon

pub record ListEndsAt (x : Rest) : Type 0 where
  pub mark : Mark
  pub is_end : IsListEnd mark
  pub heads : Heads (kind.Mark mark) x

pub list_end : {o : Mark} → IsListEnd o → IsEnd o
list_end list_parenthesis = parenthesis
list_end list_semicolon = semicolon

pub ends_list : {x : Rest} → ListEndsAt x → EndsAt x
ends_list e = record { mark = e.mark; is_end = list_end e.is_end; heads = e.heads }

-- ---- what lists are made of

-- what is to come for an element, and behind one
pub record Listing (firsts : Stack) (more : Symbol) : Type 0 where
  pub comma : (z : Stack) → next (more ∷ z) (kind.Mark m.Comma) ≡ Some (firsts ++ more ∷ z)
  pub over : {o : Mark} → IsListEnd o → (z : Stack) → next (more ∷ z) (kind.Mark o) ≡ next z (kind.Mark o)
  pub weighs : (z : Stack) → weight (firsts ++ z) ≡ weight z
  pub weighs_more : (z : Stack) → weight (more ∷ z) ≡ weight z

-- one element
pub record Fills (firsts : Stack) (a : Reads) (w : Weighs) : Type 0 where
  pub fill : (z : Stack) {r x : Rest} → Reading a r x → EndsAt x → Passes (weight z) r (firsts ++ z) w (weight z) x z

-- the first element of a list that may have none
pub record FillsFirst (if_any more : Symbol) (a : Reads) (w : Weighs) : Type 0 where
  pub fill : (z : Stack) {r x : Rest} → Reading a r x → EndsAt x → Passes (weight z) r (if_any ∷ z) w (weight z) x (more ∷ z)

-- each reader with its weights
pub data Each (P : Reads → Weighs → Type 0) : List Reads → List Weighs → Type 0 where
  none : Each P [] []
  more : {a : Reads} {w : Weighs} {rs : List Reads} {ws : List Weighs} → P a w → Each P rs ws → Each P (a ∷ rs) (w ∷ ws)

-- ---- lists

follows : {firsts : Stack} {rs : List Reads} {ws : List Weighs} {r x : Rest} → Each (Fills firsts) rs ws → Reading (after_first rs) r x → ListEndsAt x → EndsAt r
follows none h e = let f = ends_list e in record { mark = f.mark; is_end = f.is_end; heads = record { first = ap (λ (r : Rest). head r.tokens) (some_same h.is) ∙ f.heads.first } }
follows (more {a = a} {rs = rs} f fs) h e = record { mark = m.Comma; is_end = comma; heads = took_first (took_mark m.Comma (in_turn (mark m.Comma ∷ a ∷ after_first rs ∷ []) h).1) }

rest-fills : {firsts : Stack} {next_more : Symbol} → Listing firsts next_more → {rs : List Reads} {ws : List Weighs} → Each (Fills firsts) rs ws → (z : Stack) {r x : Rest}
    → Reading (after_first rs) r x → ListEndsAt x → Passes (weight z) r (next_more ∷ z) (each_after_comma ws) (weight z) x (next_more ∷ z)
rest-fills l none z h e = stays (ap (λ (r : Rest). r.tokens) (some_same h.is))
rest-fills {firsts = firsts} {next_more = next_more} l (more {a = a} {w = w} {rs = rs} f fs) z {r = r} h e =
    let u = in_turn (mark m.Comma ∷ a ∷ after_first rs ∷ []) h in
    let one = f.fill (next_more ∷ z) u.2.1 (follows fs u.2.2 e) in
    let weights = l.weighs_more z in
    let same = subst (λ v. Passes v u.0 (firsts ++ next_more ∷ z) w v u.2.0 (next_more ∷ z)) weights one in
    joined (passes-plain (took_mark m.Comma u.1) (l.comma z) (l.weighs (next_more ∷ z) ∙ weights)) (joined same (rest-fills l fs z u.2.2 e))

pub list_over : {firsts : Stack} {next_more : Symbol} → Listing firsts next_more → (z : Stack) {x : Rest} → ListEndsAt x → trace x.tokens (next_more ∷ z) ≡ trace x.tokens z
list_over {next_more = next_more} l z e = trace-heads (next_more ∷ z) z e.heads (l.over e.is_end z)

-- one or more
pub some-fill : {firsts : Stack} {next_more : Symbol} → Listing firsts next_more → {rs : List Reads} {ws : List Weighs} → Each (Fills firsts) rs ws → (z : Stack) {r x : Rest}
    → Reading (separated rs) r x → ListEndsAt x → Passes (weight z) r (firsts ++ next_more ∷ z) (with_commas ws) (weight z) x z
some-fill l none z h e = let nothing_read = h.is in absurd cc
some-fill {firsts = firsts} {next_more = next_more} l (more {a = a} {w = w} {rs = rs} f fs) z {r = r} h e =
    let u = in_turn (a ∷ after_first rs ∷ []) (record { is = h.is }) in
    let one = f.fill (next_more ∷ z) u.1 (follows fs u.2 e) in
    let same = subst (λ v. Passes v r (firsts ++ next_more ∷ z) w v u.0 (next_more ∷ z)) (l.weighs_more z) one in
    ends_as (list_over l z e) (joined same (rest-fills l fs z u.2 e))

-- none or more, which begin in a way of their own
pub any-fill : {firsts : Stack} {if_any next_more : Symbol} → Listing firsts next_more → ((o : Mark) → IsListEnd o → (z : Stack) → next (if_any ∷ z) (kind.Mark o) ≡ next z (kind.Mark o))
    → {rs : List Reads} {ws : List Weighs} → Each (Fills firsts) rs ws → Each (FillsFirst if_any next_more) rs ws → (z : Stack) {r x : Rest}
    → Reading (separated_if_any rs) r x → ListEndsAt x → Passes (weight z) r (if_any ∷ z) (with_commas ws) (weight z) x z
any-fill {if_any = if_any} l o none none z h e =
    ends_as (trace-heads (if_any ∷ z) z e.heads (o e.mark e.is_end z)) (stays (ap (λ (r : Rest). r.tokens) (some_same h.is)))
any-fill l o (more {a = a} {w = w} {rs = rs} f fs) (more g gs) z h e =
    let u = in_turn (a ∷ after_first rs ∷ []) (record { is = h.is }) in
    ends_as (list_over l z e) (joined (g.fill z u.1 (follows fs u.2 e)) (rest-fills l fs z u.2 e))

-- ---- expressions in full

pub whole-driven : {xs s : Stack} {r x : Rest} {w : Weighs} → Driven 0 xs s r w x → EndsAt x → Passes (weight s) r xs (whole w) (weight s) x s
whole-driven {xs = xs} {s = s} {r = r} {x = x} {w = w} f e =
    ends_as (trace-heads (f.stack ++ s) s e.heads (next-end f.behind e.is_end s))
    (subst (λ v. Passes v r xs (whole w) v x (f.stack ++ s)) (add-zero (weight s)) (as_whole f.passes))

pub expressions : Listing (Operand 0 ∷ []) MoreExpressions
expressions = record {
  comma = λ z. refl;
  over = λ e z. closes e z;
  weighs = λ z. add-zero (weight z);
  weighs_more = λ z. refl;
} where
  closes : {o : Mark} → IsListEnd o → (z : Stack) → next (MoreExpressions ∷ z) (kind.Mark o) ≡ next z (kind.Mark o)
  closes list_parenthesis z = refl
  closes list_semicolon z = refl

pub no_expressions : (o : Mark) → IsListEnd o → (z : Stack) → next (ExpressionsIfAny ∷ z) (kind.Mark o) ≡ next z (kind.Mark o)
no_expressions _ list_parenthesis z = refl
no_expressions _ list_semicolon z = refl

pub fills-whole : {rs : List Reads} {ws : List Weighs} → Each Drives rs ws → Each (Fills (Operand 0 ∷ [])) rs (map whole ws)
fills-whole none = none
fills-whole (more d ds) = more (record { fill = λ z h e. whole-driven (d.drive (at_operand 0 z) h) e }) (fills-whole ds)

pub fills_first-whole : {rs : List Reads} {ws : List Weighs} → Each Drives rs ws → Each (FillsFirst ExpressionsIfAny MoreExpressions) rs (map whole ws)
fills_first-whole none = none
fills_first-whole (more d ds) = more (record { fill = λ z h e. whole-driven (d.drive (at_expressions z) h) e }) (fills_first-whole ds)
