-- Tokens have at most one fault, and none where they are those of a light program.
use Rattle.std.proofs.Common.{◌≡◌, ℕ, zero, suc, ◌+◌, ◌<◌, true, List, [], ◌∷◌, ◌++◌, length, nat_le, slice_get, take, Some, refl, ap, sym, ◌∙◌, subst, append_assoc, length-append, arith}
use Rattle.std.specs.List.{list_all}
use Rattle.std.proofs.lemmas.Bool.{leb-true}
use Rattle.mpl_ast.specs.declared.token.Token.{Token}
use Rattle.mpl_mean.specs.Limits.{most_weight}
use Rattle.mpl_mean.specs.Text.Begins.{Begins, IsLightFront, WeighsBehind}
use Rattle.mpl_mean.specs.Text.ParseFaults.{GoesNoFurther, HasLightProgram, IsSyntaxFault, IsTooDeep, place_of}
use Rattle.mpl_mean.specs.Text.ProgramText.{spells}
use Rattle.mpl_mean.specs.Text.Weight.{weights}
use Rattle.mpl_mean.proofs.Truth.{both_true}
use Rattle.mpl_grammar.proofs.FaultsFit.{one_more}

-- ---- two fronts of the same tokens

data Compared (f g r s : List Token) : Type 0 where
  same : f ≡ g → r ≡ s → Compared f g r s
  shorter : (t : Token) (more : List Token) → g ≡ f ++ t ∷ more → r ≡ t ∷ more ++ s → Compared f g r s
  longer : (t : Token) (more : List Token) → f ≡ g ++ t ∷ more → s ≡ t ∷ more ++ r → Compared f g r s

under : {f g r s : List Token} (t u : Token) → t ≡ u → Compared f g r s → Compared (t ∷ f) (u ∷ g) r s
under {f = f} {g = g} t u e (same h k) = same (ap (λ x. x ∷ f) e ∙ ap (λ xs. u ∷ xs) h) k
under {f = f} {g = g} t u e (shorter x more h k) = shorter x more (ap (λ y. y ∷ g) (sym e) ∙ ap (λ xs. t ∷ xs) h) k
under {f = f} {g = g} t u e (longer x more h k) = longer x more (ap (λ y. y ∷ f) e ∙ ap (λ xs. u ∷ xs) h) k

compared : (f g r s : List Token) → f ++ r ≡ g ++ s → Compared f g r s
compared [] [] r s e = same refl e
compared [] (t ∷ g) r s e = shorter t g refl e
compared (t ∷ f) [] r s e = longer t f refl (sym e)
compared (t ∷ f) (u ∷ g) r s e =
    let first : t ≡ u = cc in
    let others : f ++ r ≡ g ++ s = cc in
    under t u first (compared f g r s others)

-- ---- what begins a program, and weights

-- what begins a program begins with what does
begins-front : (front more : List Token) → Begins (front ++ more) → Begins front
begins-front front more b = record { program = b.program; more = more ++ b.more; spelled = subst (λ ts. spells b.program ts ≡ true) (append_assoc front more b.more) b.spelled }

begins-first : (f : List Token) (t : Token) (more : List Token) → Begins (f ++ t ∷ more) → Begins (f ++ t ∷ [])
begins-first f t more b = begins-front (f ++ t ∷ []) more (subst Begins (sym (one_more f t more)) b)

-- the weight at a place among those that are light is light
light_at : (ws : List ℕ) (n i w : ℕ) → i < n → list_all (λ v. nat_le v most_weight) (take n ws) ≡ true → slice_get ws i ≡ Some w → nat_le w most_weight ≡ true
light_at [] n i w h e f = absurd cc
light_at (v ∷ ws) zero i w h e f = absurd (omega arith)
light_at (v ∷ ws) (suc n) zero w h e f =
    let here : v ≡ w = cc in
    ap (λ x. nat_le x most_weight) (sym here) ∙ (both_true (nat_le v most_weight) _ e).0
light_at (v ∷ ws) (suc n) (suc i) w h e f = light_at ws n i w (omega arith) (both_true (nat_le v most_weight) _ e).1 f

light_all : (ws : List ℕ) (i w : ℕ) → list_all (λ v. nat_le v most_weight) ws ≡ true → slice_get ws i ≡ Some w → nat_le w most_weight ≡ true
light_all [] i w e f = absurd cc
light_all (v ∷ ws) zero w e f =
    let here : v ≡ w = cc in
    ap (λ x. nat_le x most_weight) (sym here) ∙ (both_true (nat_le v most_weight) _ e).0
light_all (v ∷ ws) (suc i) w e f = light_all ws i w (both_true (nat_le v most_weight) _ e).1 f

too_much : nat_le (most_weight + 1) most_weight ≡ true → ⊥
too_much h = let least = leb-true (most_weight + 1) most_weight h in omega arith

-- a front that is light has no token that is too heavy
light_heavy : (f : List Token) (t : Token) (more : List Token) → IsLightFront (f ++ t ∷ more) → Begins (f ++ t ∷ more) → WeighsBehind f t (most_weight + 1) → ⊥
light_heavy f t more light b heavy =
    let spelled = subst (λ ts. spells b.program ts ≡ true) (append_assoc f (t ∷ more) b.more) b.spelled in
    let within : length f < length (f ++ t ∷ more) = (let e = length-append f (t ∷ more) in omega arith) in
    too_much (light_at (weights b.program) (length (f ++ t ∷ more)) (length f) (most_weight + 1) within (light b.program b.more b.spelled) (heavy b.program (more ++ b.more) spelled))

-- ---- one fault

begins_no_further : (f : List Token) (t : Token) (more rest r : List Token) → Begins (f ++ t ∷ more) → r ≡ t ∷ rest → GoesNoFurther f r → ⊥
begins_no_further f t more rest r b e stuck = subst (GoesNoFurther f) e stuck (begins-first f t more b)

pub one_syntax_fault : (tokens : List Token) (end a b : ℕ) → IsSyntaxFault tokens end a → IsSyntaxFault tokens end b → a ≡ b
one_syntax_fault tokens end a b x y = by (compared x.front y.front x.rest y.rest (sym x.whole ∙ y.whole)) where
  by : Compared x.front y.front x.rest y.rest → a ≡ b
  by (same h k) = x.place ∙ ap (λ ts. place_of ts end) k ∙ sym y.place
  by (shorter t more h k) = absurd (begins_no_further x.front t more (more ++ y.rest) x.rest (subst Begins h y.begins) k x.no_further)
  by (longer t more h k) = absurd (begins_no_further y.front t more (more ++ x.rest) y.rest (subst Begins h x.begins) k y.no_further)

-- what is too deep behind a front is not behind a longer one
deep_behind : (f g : List Token) (t u x : Token) (more rest other : List Token) → g ≡ f ++ x ∷ more → t ∷ rest ≡ x ∷ other → WeighsBehind f t (most_weight + 1) → Begins g → IsLightFront g → ⊥
deep_behind f g t u x more rest other h k heavy b light =
    let here : t ≡ x = cc in
    light_heavy f x more (subst IsLightFront h light) (subst Begins h b) (subst (λ y. WeighsBehind f y (most_weight + 1)) here heavy)

pub one_depth : (tokens : List Token) (a b : ℕ) → IsTooDeep tokens a → IsTooDeep tokens b → a ≡ b
one_depth tokens a b x y = by (compared x.front y.front (x.token ∷ x.rest) (y.token ∷ y.rest) (sym x.whole ∙ y.whole)) where
  by : Compared x.front y.front (x.token ∷ x.rest) (y.token ∷ y.rest) → a ≡ b
  by (same h k) = x.place ∙ ap (λ ts. place_of ts 0) k ∙ sym y.place
  by (shorter t more h k) = absurd (deep_behind x.front y.front x.token y.token t more x.rest _ h k x.heavy (begins-front y.front (y.token ∷ []) y.begins) y.light)
  by (longer t more h k) = absurd (deep_behind y.front x.front y.token x.token t more y.rest _ h k y.heavy (begins-front x.front (x.token ∷ []) x.begins) x.light)

pub not_both : (tokens : List Token) (end a b : ℕ) → IsSyntaxFault tokens end a → IsTooDeep tokens b → ⊥
not_both tokens end a b x y = by (compared x.front y.front x.rest (y.token ∷ y.rest) (sym x.whole ∙ y.whole)) where
  by : Compared x.front y.front x.rest (y.token ∷ y.rest) → ⊥
  by (same h k) = begins_no_further x.front y.token [] y.rest x.rest (subst (λ f. Begins (f ++ y.token ∷ [])) (sym h) y.begins) k x.no_further
  by (shorter t more h k) = begins_no_further x.front t more _ x.rest (subst Begins h (begins-front y.front (y.token ∷ []) y.begins)) k x.no_further
  by (longer t more h k) = deep_behind y.front x.front y.token y.token t more y.rest _ h k y.heavy x.begins x.light

pub light_not_deep : (tokens : List Token) (b : ℕ) → HasLightProgram tokens → IsTooDeep tokens b → ⊥
light_not_deep tokens b p y =
    too_much (light_all (weights p.program) (length y.front) (most_weight + 1) p.light (y.heavy p.program y.rest (subst (λ ts. spells p.program ts ≡ true) y.whole p.spelled)))
