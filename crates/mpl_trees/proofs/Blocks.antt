-- What stands in braces is taken up to the closing one.
use Rattle.std.proofs.Common.{◌≡◌, ℕ, zero, suc, ◌≤◌, List, [], ◌∷◌, map, length, Bool, true, false, Some, if◌then◌else◌, refl, ap, ◌∙◌, arith}
use Rattle.std.specs.List.{AllByRecursion}
use Rattle.mpl_ast.specs.declared.token.Keyword.TheVariants as word
use Rattle.mpl_ast.specs.declared.token.Mark.TheVariants as m
use Rattle.mpl_ast.specs.declared.token.TokenKind.{TokenKind}
use Rattle.mpl_ast.specs.declared.token.TokenKind.TheVariants as kind
use Rattle.mpl_mean.specs.Text.Reading.{Reads, Rest, each, is_keyword, is_mark}
use Rattle.mpl_mean.proofs.Readers.Parts.{Reading, in_turn, some_same}
use Rattle.mpl_trees.specs.Taking.{Takes, ahead, all_of, both, inside, is_ahead}
use Rattle.mpl_trees.proofs.Steps.{joins}
use Rattle.mpl_trees.proofs.Took.{Took}
use Rattle.mpl_trees.proofs.Growth.{Growing, growing-each, rising, shorter}
use Rattle.mpl_trees.proofs.Operators.{is_ahead-took}
use Rattle.mpl_trees.proofs.Primaries.{is_ahead-ahead}

-- what begins a part comes first, and neither a closing brace nor `else`
pub record PartAhead (r : Rest) : Type 0 where
  pub no_brace : is_ahead (is_mark m.CloseBrace) r.tokens ≡ false
  pub no_else : is_ahead (is_keyword word.Else) r.tokens ≡ false

pub part_ahead : {k : TokenKind} (r : Rest) → ahead r.tokens ≡ Some k → is_mark m.CloseBrace k ≡ false → is_keyword word.Else k ≡ false → PartAhead r
part_ahead {k = k} r e f g = record {
  no_brace = is_ahead-ahead (is_mark m.CloseBrace) r.tokens k e ∙ f;
  no_else = is_ahead-ahead (is_keyword word.Else) r.tokens k e ∙ g;
}

pub part-node : {r : Rest} → PartAhead (inside r) → PartAhead r
part-node p = record { no_brace = p.no_brace; no_else = p.no_else }

-- a part that is taken before anything but `else`
pub record PartTaken {A : Type 0} (text : A → Reads) (take : Takes A) (d limit : ℕ) (a : A) : Type 0 where
  pub begins : {r x : Rest} → Reading (text a) r x → PartAhead r
  pub grows : Growing 1 0 (text a)
  pub takes : {r x : Rest} → Reading (text a) r x → is_ahead (is_keyword word.Else) x.tokens ≡ false → length r.tokens ≤ d → x.next ≤ limit → take limit r ≡ Some (a, x)

each_grows : {A : Type 0} (text : A → Reads) (take : Takes A) (d limit : ℕ) (ts : List A) → AllByRecursion (PartTaken text take d limit) ts → AllByRecursion (λ a. Growing 1 0 (text a)) ts
each_grows text take d limit [] all = tt
each_grows text take d limit (a ∷ ts) all = (all.0.grows, each_grows text take d limit ts all.1)

no_else_first : {A : Type 0} (text : A → Reads) (take : Takes A) (d limit : ℕ) (ts : List A) → AllByRecursion (PartTaken text take d limit) ts → {r x y : Rest} → Reading (each (map text ts)) r x → Took (kind.Mark m.CloseBrace) x y → is_ahead (is_keyword word.Else) r.tokens ≡ false
no_else_first text take d limit [] all h t = ap (λ (y : Rest). is_ahead (is_keyword word.Else) y.tokens) (some_same h.is) ∙ is_ahead-took (is_keyword word.Else) t
no_else_first text take d limit (a ∷ ts) all h t = (all.0.begins (in_turn (text a ∷ each (map text ts) ∷ []) h).1).no_else

none-left : {A : Type 0} (limit : ℕ) (take : Takes A) (n : ℕ) (r : Rest) → is_ahead (is_mark m.CloseBrace) r.tokens ≡ true → all_of take n limit r ≡ Some ([], r)
none-left limit take zero r e = refl
none-left limit take (suc n) r e = ap (λ (b : Bool). if b then Some ([], r) else both ◌∷◌ take (all_of take n) limit r) e

pub all-taken : {A : Type 0} (text : A → Reads) (take : Takes A) (d limit n : ℕ) (ts : List A) → AllByRecursion (PartTaken text take d limit) ts → {r x y : Rest} → Reading (each (map text ts)) r x → Took (kind.Mark m.CloseBrace) x y
    → length r.tokens ≤ d → length r.tokens ≤ n → x.next ≤ limit → all_of take n limit r ≡ Some (ts, x)
all-taken text take d limit n [] all {r = r} h t k l b =
    let same = some_same h.is in
    none-left limit take n r (ap (λ (y : Rest). is_ahead (is_mark m.CloseBrace) y.tokens) same ∙ is_ahead-took (is_mark m.CloseBrace) t) ∙ ap (λ y. Some ([], y)) same
all-taken text take d limit zero (a ∷ ts) all h t k l b =
    let u = in_turn (text a ∷ each (map text ts) ∷ []) h in absurd (omega (arith, l, shorter all.0.grows u.1))
all-taken text take d limit (suc n) (a ∷ ts) all {r = r} h t k l b =
    let u = in_turn (text a ∷ each (map text ts) ∷ []) h in
    let less = shorter all.0.grows u.1 in
    let one = all.0.takes u.1 (no_else_first text take d limit ts all.1 u.2 t) k (omega (arith, b, rising (growing-each 1 0 text ts (each_grows text take d limit ts all.1)) u.2)) in
    ap (λ (b : Bool). if b then Some ([], r) else both ◌∷◌ take (all_of take n) limit r) (all.0.begins u.1).no_brace
    ∙ joins limit ◌∷◌ take (all_of take n) r one (all-taken text take d limit n ts all.1 u.2 t (omega (arith, k, less)) (omega (arith, l, less)) b)
