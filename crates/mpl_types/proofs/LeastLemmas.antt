-- The least failure at some nodes is the least of those of their parts.
use Rattle.std.proofs.Common.{◌≡◌, ℕ, Bool, true, false, not, List, [], ◌∷◌, ◌++◌, map, Some, None, Option, if◌then◌else◌, arith, refl, sym, ap, ◌∙◌}
use Rattle.std.proofs.lemmas.Bool.Decides.{nat_tests}
use Rattle.mpl_mean.specs.TypeRules.Nodes.{Located}
use Rattle.mpl_mean.specs.TypeRules.Rules.{Failure, Rule, rules, is_before, lesser, least, failures_at, failures_among, failing_at}
use Rattle.mpl_types.specs.Internal.Least.{earlier, noted, noted_by, least_of}

three : (a b c : Failure) → (if is_before c (if is_before b a then b else a) then c else (if is_before b a then b else a)) ≡ (if is_before (if is_before c b then c else b) a then (if is_before c b then c else b) else a)
three a b c = grind (arith, nat_tests)

lesser_earlier : (a : Failure) (b c : Option Failure) → lesser (lesser a b) c ≡ lesser a (earlier b c)
lesser_earlier a None c = refl
lesser_earlier a (Some b) None = refl
lesser_earlier a (Some b) (Some c) = three a b c

pub noted_earlier : (at rule : ℕ) (holds : Bool) (a b : Option Failure) → noted at rule holds (earlier a b) ≡ earlier (noted at rule holds a) b
noted_earlier at rule true a b = refl
noted_earlier at rule false a b = ap (λ (f : Failure). Some f) (sym (lesser_earlier (record { at = at; rule = rule }) a b))

noted_by_earlier : (rs : List Rule) (p : Located) (a b : Option Failure) → noted_by rs p (earlier a b) ≡ earlier (noted_by rs p a) b
noted_by_earlier [] p a b = refl
noted_by_earlier (r ∷ rs) p a b =
    ap (noted p.at r.number (r.holds p.environment p.node)) (noted_by_earlier rs p a b)
    ∙ noted_earlier p.at r.number (r.holds p.environment p.node) (noted_by rs p a) b

pub least_append : (xs ys : List Located) → least_of (xs ++ ys) ≡ earlier (least_of xs) (least_of ys)
least_append [] ys = refl
least_append (x ∷ xs) ys = ap (noted_by rules x) (least_append xs ys) ∙ noted_by_earlier rules x (least_of xs) (least_of ys)

-- ---- it is the least of all failures

abbrev listed : ℕ → List Rule → List Failure
listed at rs = map (λ (r : Rule). record { at = at; rule = r.number }) rs

one_more : (at : ℕ) (r : Rule) (rs : List Rule) (fs : List Failure) (o : Option Failure) (holds : Bool) → least (listed at rs ++ fs) ≡ o
    → least (listed at (if not holds then r ∷ rs else rs) ++ fs) ≡ noted at r.number holds o
one_more at r rs fs o true e = e
one_more at r rs fs o false e = ap (λ (o : Option Failure). Some (lesser (record { at = at; rule = r.number }) o)) e

least_at : (rs : List Rule) (p : Located) (fs : List Failure) → least (failures_at rs p ++ fs) ≡ noted_by rs p (least fs)
least_at [] p fs = refl
least_at (r ∷ rs) p fs =
    one_more p.at r (failing_at p rs) fs (noted_by rs p (least fs)) (r.holds p.environment p.node) (least_at rs p fs)

pub least_of_is_least : (nodes : List Located) → least_of nodes ≡ least (failures_among rules nodes)
least_of_is_least [] = refl
least_of_is_least (p ∷ others) = ap (noted_by rules p) (least_of_is_least others) ∙ sym (least_at rules p (failures_among rules others))

-- ---- the lesser of two

pub earlier_assoc : (a b c : Option Failure) → earlier (earlier a b) c ≡ earlier a (earlier b c)
earlier_assoc None b c = refl
earlier_assoc (Some a) b c = ap (λ (f : Failure). Some f) (lesser_earlier a b c)

pub earlier_none : (a : Option Failure) → earlier a None ≡ a
earlier_none None = refl
earlier_none (Some a) = refl
