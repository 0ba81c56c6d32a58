-- What was put behind the trees of a list.
use Rattle.std.proofs.Common.{◌≡◌, ℕ, suc, false, List, [], ◌∷◌, ◌++◌, Option, Some, None, Result, Ok, Err, IfOk, refl, ap, subst, ◌∙◌}
use Rattle.std.specs.Option.{option_and_then, option_map}
use Rattle.mpl_ast.specs.declared.token.Mark.TheVariants as m
use Rattle.mpl_mean.proofs.Truth.{some_is}
use Rattle.mpl_mean.specs.Text.Reading.{Rest, is_mark}
use Rattle.mpl_trees.specs.Taking.{Takes, all_of, is_ahead}
use Rattle.mpl_reader.specs.Reader.{Took, most_number}
use Rattle.mpl_reader.specs.declared.stop.Stop.{Stop}
use Rattle.mpl_reader.specs.declared.stop.Stop.TheVariants.{Stuck}
use Rattle.mpl_expressions.proofs.Turns.{behind, one_more}
use Rattle.mpl_parse.specs.Internal.Onto.{TookOnto, put}

pub onto_alike : {A : Type 0} (take other : Takes A) (r : Rest) (list : List A) (answer : Result (Unit {0}) Stop) (x : Rest) (new : List A)
    → take most_number r ≡ other most_number r → TookOnto other r list answer x new → TookOnto take r list answer x new
onto_alike take other r list (Ok u) x new e h = ap (put list) e ∙ h
onto_alike take other r list (Err why) x new e h = λ stuck. e ∙ h stuck

pub put-is : {A : Type 0} (o : Option (A × Rest)) (list new : List A) (x : A) (s : Rest) → o ≡ Some (x, s) → new ≡ list ++ x ∷ [] → put list o ≡ Some (new, s)
put-is o list new x s e h = rw (e, h) refl

-- ---- a turn of a loop

put_next : {A : Type 0} (o : Option (A × Rest)) (more : Rest → Option (List A × Rest)) (xs ys : List A) (s : Rest) → put xs o ≡ Some (ys, s)
    → behind xs (option_and_then (λ (p : A × Rest). option_map (λ (q : List A × Rest). (p.0 ∷ q.0, q.1)) (more p.1)) o) ≡ behind ys (more s)
put_next None more xs ys s h = absurd cc
put_next {A = A} (Some p) more xs ys s h =
    let both = some_is h in
    let list = ap (λ (q : List A × Rest). q.0) both in
    let rest = ap (λ (q : List A × Rest). q.1) both in
    one_more xs p.0 (more p.1) ∙ ap (λ (zs : List A). behind zs (more p.1)) list ∙ ap (λ t. behind ys (more t)) rest

pub next-onto : {A : Type 0} (take : Takes A) (limit n k : ℕ) (xs ys : List A) (r s : Rest)
    → n ≡ suc k → is_ahead (is_mark m.CloseBrace) r.tokens ≡ false → put xs (take limit r) ≡ Some (ys, s) → behind xs (all_of take n limit r) ≡ behind ys (all_of take k limit s)
next-onto take limit n k xs ys r s h c e = rw (h, c) (put_next (take limit r) (all_of take k limit) xs ys s e)

-- ---- a list of one

single : {A : Type 0} (o : Option (A × Rest)) (list : List A) (x : Rest) (before : List A) (a : A) → put [] o ≡ Some (list, x) → list ≡ before ++ a ∷ [] → o ≡ Some (a, x)
single None list x before a h e = absurd cc
single {A = A} (Some p) list x [] a h e =
    let both = some_is h in
    let items : p.0 ∷ [] ≡ a ∷ [] = ap (λ (q : List A × Rest). q.0) both ∙ e in
    let item : p.0 ≡ a = cc in
    ap (λ b. Some (b, p.1)) item ∙ ap (λ s. Some (a, s)) (ap (λ (q : List A × Rest). q.1) both)
single {A = A} (Some p) list x (b ∷ []) a h e =
    let items : p.0 ∷ [] ≡ b ∷ a ∷ [] = ap (λ (q : List A × Rest). q.0) (some_is h) ∙ e in
    absurd cc
single {A = A} (Some p) list x (b ∷ c ∷ cs) a h e =
    let items : p.0 ∷ [] ≡ b ∷ c ∷ (cs ++ a ∷ []) = ap (λ (q : List A × Rest). q.0) (some_is h) ∙ e in
    absurd cc

some : {A : Type 0} (o : Option (A × Rest)) (list : List A) (x : Rest) → put [] o ≡ Some (list, x) → list ≡ [] → ⊥
some None list x h e = absurd cc
some {A = A} (Some p) list x h e =
    let items : p.0 ∷ [] ≡ [] = ap (λ (q : List A × Rest). q.0) (some_is h) ∙ e in
    absurd cc

pub took_only : {A : Type 0} (take : Takes A) (r : Rest) (none list : List A) (x : Rest) (answer : Result A Stop) → none ≡ [] → put none (take most_number r) ≡ Some (list, x)
    → IfOk answer (λ a. (before : List A) × (list ≡ before ++ a ∷ [])) → (answer ≡ Err Stuck → list ≡ []) → Took take r answer x
took_only take r none list x (Ok a) e h ok stuck = single (take most_number r) list x ok.0 a (subst (λ l. put l (take most_number r) ≡ Some (list, x)) e h) ok.1
took_only take r none list x (Err why) e h ok stuck = λ s. absurd (some (take most_number r) list x (subst (λ l. put l (take most_number r) ≡ Some (list, x)) e h) (stuck (ap Err s)))
