-- Lists with commas are taken whole.
use Rattle.std.proofs.Common.{◌≡◌, ℕ, zero, suc, ◌≤◌, Bool, false, List, [], ◌∷◌, map, length, Some, if◌then◌else◌, refl, ap, sym, subst, ◌∙◌, arith}
use Rattle.std.specs.List.{AllByRecursion}
use Rattle.mpl_ast.specs.declared.token.Mark.TheVariants as m
use Rattle.mpl_ast.specs.declared.token.TokenKind.TheVariants as kind
use Rattle.mpl_mean.specs.Text.Reading.{Reads, Rest, after_first, is_mark, mark, separated, separated_if_any}
use Rattle.mpl_mean.proofs.Readers.Parts.{Reading, in_turn, some_same}
use Rattle.mpl_trees.specs.Taking.{Takes, both, is_ahead, list_of, more_of, skip_then, some_of}
use Rattle.mpl_trees.proofs.Steps.{joins, skips}
use Rattle.mpl_trees.proofs.Took.{Took, fewer-took, took_mark}
use Rattle.mpl_trees.proofs.Growth.{Growing, fewer, growing-after_first, rising}
use Rattle.mpl_trees.proofs.Operators.{is_ahead-took}
use Rattle.mpl_trees.proofs.Ends.{Ends, comma, ends-took, parenthesis}

-- the parser takes the tree, where so many tokens are left at most and the numbers go up to a limit
pub record Taken {A : Type 0} (text : A → Reads) (take : Takes A) (d limit : ℕ) (a : A) : Type 0 where
  pub takes : {r x : Rest} → Reading (text a) r x → Ends x → length r.tokens ≤ d → x.next ≤ limit → take limit r ≡ Some (a, x)
  pub grows : Growing 0 0 (text a)

each_grows : {A : Type 0} (text : A → Reads) (take : Takes A) (d limit : ℕ) (ts : List A) → AllByRecursion (Taken text take d limit) ts → AllByRecursion (λ a. Growing 0 0 (text a)) ts
each_grows text take d limit [] all = tt
each_grows text take d limit (a ∷ ts) all = (all.0.grows, each_grows text take d limit ts all.1)

-- what ends a list
pub record ListEnds (x : Rest) : Type 0 where
  pub ends : Ends x
  pub no_comma : is_ahead (is_mark m.Comma) x.tokens ≡ false

pub follows-list : {A : Type 0} (text : A → Reads) (ts : List A) {r x : Rest} → Reading (after_first (map text ts)) r x → ListEnds x → Ends r
follows-list text [] h e = subst_ends (some_same h.is) e.ends where
  subst_ends : {r x : Rest} → r ≡ x → Ends x → Ends r
  subst_ends e f = subst Ends (sym e) f
follows-list text (a ∷ ts) h e = ends-took comma (took_mark m.Comma (in_turn (mark m.Comma ∷ text a ∷ after_first (map text ts) ∷ []) h).1)

none-more : {A : Type 0} (limit : ℕ) (take : Takes A) (n : ℕ) (r : Rest) → is_ahead (is_mark m.Comma) r.tokens ≡ false → more_of take n limit r ≡ Some ([], r)
none-more limit take zero r e = refl
none-more limit take (suc n) r e = rw e refl

pub more-taken : {A : Type 0} (text : A → Reads) (take : Takes A) (d limit n : ℕ) (ts : List A) → AllByRecursion (Taken text take d limit) ts → {r x : Rest} → Reading (after_first (map text ts)) r x → ListEnds x
    → length r.tokens ≤ d → length r.tokens ≤ n → x.next ≤ limit → more_of take n limit r ≡ Some (ts, x)
more-taken text take d limit n [] all {r = r} {x = x} h e k l b =
    let same = some_same h.is in
    none-more limit take n r (ap (λ (y : Rest). is_ahead (is_mark m.Comma) y.tokens) same ∙ e.no_comma) ∙ ap (λ y. Some ([], y)) same
more-taken text take d limit zero (a ∷ ts) all {r = r} h e k l b =
    let u = in_turn (mark m.Comma ∷ text a ∷ after_first (map text ts) ∷ []) h in absurd (omega (arith, l, fewer-took (took_mark m.Comma u.1)))
more-taken text take d limit (suc n) (a ∷ ts) all {r = r} {x = x} h e k l b =
    let u = in_turn (mark m.Comma ∷ text a ∷ after_first (map text ts) ∷ []) h in
    let t = took_mark m.Comma u.1 in
    let one = all.0.takes u.2.1 (follows-list text ts u.2.2 e) (omega (arith, k, fewer-took t)) (omega (arith, b, rising (growing-after_first 0 0 text ts (each_grows text take d limit ts all.1)) u.2.2)) in
    let less = fewer all.0.grows u.2.1 in
    let rest = more-taken text take d limit n ts all.1 u.2.2 e (omega (arith, k, fewer-took t, less)) (omega (arith, l, fewer-took t, less)) b in
    ap (λ (b : Bool). if b then both ◌∷◌ (skip_then (mark m.Comma) take) (more_of take n) limit r else Some ([], r)) (is_ahead-took (is_mark m.Comma) t)
    ∙ joins limit ◌∷◌ (skip_then (mark m.Comma) take) (more_of take n) r (skips limit (mark m.Comma) take u.1 one) rest

pub some-taken : {A : Type 0} (text : A → Reads) (take : Takes A) (d limit : ℕ) (ts : List A) → AllByRecursion (Taken text take d limit) ts → {r x : Rest} → Reading (separated (map text ts)) r x → ListEnds x
    → length r.tokens ≤ d → x.next ≤ limit → some_of take limit r ≡ Some (ts, x)
some-taken text take d limit [] all h e k b = let nothing_read = h.is in absurd cc
some-taken text take d limit (a ∷ ts) all {r = r} h e k b =
    let u = in_turn (text a ∷ after_first (map text ts) ∷ []) (record { is = h.is }) in
    let one = all.0.takes u.1 (follows-list text ts u.2 e) k (omega (arith, b, rising (growing-after_first 0 0 text ts (each_grows text take d limit ts all.1)) u.2)) in
    let less = fewer all.0.grows u.1 in
    joins limit ◌∷◌ take (more_of take (length r.tokens)) r one (more-taken text take d limit (length r.tokens) ts all.1 u.2 e (omega (arith, k, less)) less b)

-- what begins with no closing parenthesis
pub record Begins {A : Type 0} (text : A → Reads) (a : A) : Type 0 where
  pub no_close : {r x : Rest} → Reading (text a) r x → is_ahead (is_mark m.CloseParenthesis) r.tokens ≡ false

-- none or more, up to a closing parenthesis
pub list-taken : {A : Type 0} (text : A → Reads) (take : Takes A) (d limit : ℕ) (ts : List A) → AllByRecursion (Taken text take d limit) ts → AllByRecursion (Begins text) ts → {r x y : Rest} → Reading (separated_if_any (map text ts)) r x
    → Took (kind.Mark m.CloseParenthesis) x y → length r.tokens ≤ d → x.next ≤ limit → list_of take limit r ≡ Some (ts, x)
list-taken text take d limit [] all begin {r = r} {x = x} h t k b =
    let same = some_same h.is in
    ap (λ (b : Bool). if b then Some ([], r) else some_of take limit r) (ap (λ (y : Rest). is_ahead (is_mark m.CloseParenthesis) y.tokens) same ∙ is_ahead-took (is_mark m.CloseParenthesis) t)
    ∙ ap (λ y. Some ([], y)) same
list-taken text take d limit (a ∷ ts) all begin {r = r} h t k b =
    let u = in_turn (text a ∷ after_first (map text ts) ∷ []) (record { is = h.is }) in
    ap (λ (b : Bool). if b then Some ([], r) else some_of take limit r) (begin.0.no_close u.1)
    ∙ some-taken text take d limit (a ∷ ts) all (record { is = h.is }) (record { ends = ends-took parenthesis t; no_comma = is_ahead-took (is_mark m.Comma) t }) k b
