-- One item of a list is changed.
use Rattle.std.proofs.Common.{◌≡◌, ◌<◌, ◌+◌, ◌⊎◌, ℕ, zero, suc, List, [], ◌∷◌, ◌++◌, Some, None, length, get_or, set, slice_get, take, refl, sym, ap, ◌∙◌, subst, arith, inl, inr, length-append}
use Rattle.std.specs.Prelude.{Result, Ok, Err, OnOk}
use Rattle.std.proofs.lemmas.Option.{slice_get_within}
use Rattle.mdf_core.proofs.Lists.{same_or}
use Rattle.mdf_machine.specs.Internal.Rows.{changed}
use Rattle.mdf_machine.specs.Internal.Tables.{Each}

pub changed-set : {A : Type 0} (f : A → A) (place : ℕ) (xs : List A) (x : A) → place < length xs → x ≡ get_or xs place x → set xs place (f x) ≡ changed f place xs
changed-set f place [] x below is = absurd (omega (arith, below))
changed-set f zero (y ∷ xs) x below is = ap (λ z. f z ∷ xs) is
changed-set f (suc place) (y ∷ xs) x below is = ap (λ zs. y ∷ zs) (changed-set f place xs x (omega (arith, below)) is)

pub changed-length : {A : Type 0} (f : A → A) (place : ℕ) (xs : List A) → length (changed f place xs) ≡ length xs
changed-length f place [] = refl
changed-length f zero (y ∷ xs) = refl
changed-length f (suc place) (y ∷ xs) = ap suc (changed-length f place xs)

pub changed-to : {A : Type 0} (f : A → A) (place : ℕ) (xs : List A) (x y : A) → place < length xs → x ≡ get_or xs place x → y ≡ f x → set xs place y ≡ changed f place xs
changed-to f place xs x y below is to = ap (set xs place) to ∙ changed-set f place xs x below is

pub on_ok : {T E P Q : Type 0} (r : Result T E) → (P → Q) → OnOk r P → OnOk r Q
on_ok (Ok x) go p = go p
on_ok (Err e) go p = tt

-- ---- what is there

record FromItem {A : Type 0} (f : A → A) (place : ℕ) (xs : List A) (x : A) : Type 0 where
  was : A
  there : slice_get xs place ≡ Some was
  is : x ≡ f was

changed-here : {A : Type 0} (f : A → A) (place : ℕ) (xs : List A) (x : A) → slice_get (changed f place xs) place ≡ Some x → FromItem f place xs x
changed-here f place [] x h = absurd (cc h)
changed-here f zero (y ∷ xs) x h = record { was = y; there = refl; is = cc h }
changed-here f (suc place) (y ∷ xs) x h = let k = changed-here f place xs x h in record { was = k.was; there = k.there; is = k.is }

changed-there : {A : Type 0} (f : A → A) (place k : ℕ) (xs : List A) → (k ≡ place → ⊥) → slice_get (changed f place xs) k ≡ slice_get xs k
changed-there f place k [] differ = refl
changed-there f zero zero (y ∷ xs) differ = absurd (differ refl)
changed-there f zero (suc k) (y ∷ xs) differ = refl
changed-there f (suc place) zero (y ∷ xs) differ = refl
changed-there f (suc place) (suc k) (y ∷ xs) differ = changed-there f place k xs (λ e. differ (ap suc e))

set-length : {A : Type 0} (xs : List A) (place : ℕ) (y : A) → length (set xs place y) ≡ length xs
set-length [] place y = refl
set-length (x ∷ xs) zero y = refl
set-length (x ∷ xs) (suc place) y = ap suc (set-length xs place y)

pub set-here : {A : Type 0} (xs : List A) (place : ℕ) (y x : A) → slice_get (set xs place y) place ≡ Some x → x ≡ y
set-here [] place y x h = absurd (cc h)
set-here (z ∷ xs) zero y x h = cc h
set-here (z ∷ xs) (suc place) y x h = set-here xs place y x h

pub set-there : {A : Type 0} (xs : List A) (place k : ℕ) (y : A) → (k ≡ place → ⊥) → slice_get (set xs place y) k ≡ slice_get xs k
set-there [] place k y differ = refl
set-there (x ∷ xs) zero zero y differ = absurd (differ refl)
set-there (x ∷ xs) zero (suc k) y differ = refl
set-there (x ∷ xs) (suc place) zero y differ = refl
set-there (x ∷ xs) (suc place) (suc k) y differ = set-there xs place k y (λ e. differ (ap suc e))

record AtEnd {A : Type 0} (xs : List A) (y : A) (k : ℕ) (x : A) : Type 0 where
  place : k ≡ length xs
  is : x ≡ y

push-at : {A : Type 0} (xs : List A) (y : A) (k : ℕ) (x : A) → slice_get (xs ++ y ∷ []) k ≡ Some x → (slice_get xs k ≡ Some x) ⊎ AtEnd xs y k x
push-at [] y zero x h = inr (record { place = refl; is = cc h })
push-at [] y (suc k) x h = absurd (cc h)
push-at (z ∷ xs) y zero x h = inl h
push-at (z ∷ xs) y (suc k) x h = at (push-at xs y k x h) where
  at : (slice_get xs k ≡ Some x) ⊎ AtEnd xs y k x → (slice_get xs k ≡ Some x) ⊎ AtEnd (z ∷ xs) y (suc k) x
  at (inl there) = inl there
  at (inr last) = inr (record { place = ap suc last.place; is = last.is })

-- ---- tables

pub each_as : {A : Type 0} (R S : ℕ → A → Type 0) (n m : ℕ) (xs : List A) → Each R n xs → n ≡ m → ((k : ℕ) (x : A) → k < n → R k x → S k x) → Each S m xs
each_as R S n m xs e same goes = record {
  length_is = e.length_is ∙ same;
  at = λ k x h. goes k x (omega (arith, slice_get_within xs k x h, e.length_is)) (e.at k x h);
}

pub each_changed : {A : Type 0} (R S : ℕ → A → Type 0) (n m a : ℕ) (f : A → A) (xs : List A) → Each R n xs → n ≡ m → ((x : A) → R a x → S a (f x)) → ((k : ℕ) (x : A) → k < n → (k ≡ a → ⊥) → R k x → S k x) → Each S m (changed f a xs)
each_changed R S n m a f xs e same here others = record {
  length_is = changed-length f a xs ∙ e.length_is ∙ same;
  at = λ k x h. at k x h (same_or k a);
} where
  at : (k : ℕ) (x : _) → slice_get (changed f a xs) k ≡ Some x → (k ≡ a) ⊎ (k ≡ a → ⊥) → S k x
  at k x h (inl is) = subst (λ j. S j x) (sym is) (let w = changed-here f a xs x (subst (λ j. slice_get (changed f a xs) j ≡ Some x) is h) in subst (S a) (sym w.is) (here w.was (e.at a w.was w.there)))
  at k x h (inr differ) = let there = sym (changed-there f a k xs differ) ∙ h in others k x (omega (arith, slice_get_within xs k x there, e.length_is)) differ (e.at k x there)

pub each_set : {A : Type 0} (R S : ℕ → A → Type 0) (n m a : ℕ) (y : A) (xs : List A) → Each R n xs → n ≡ m → S a y → ((k : ℕ) (x : A) → k < n → (k ≡ a → ⊥) → R k x → S k x) → Each S m (set xs a y)
each_set R S n m a y xs e same here others = record {
  length_is = set-length xs a y ∙ e.length_is ∙ same;
  at = λ k x h. at k x h (same_or k a);
} where
  at : (k : ℕ) (x : _) → slice_get (set xs a y) k ≡ Some x → (k ≡ a) ⊎ (k ≡ a → ⊥) → S k x
  at k x h (inl is) = subst (λ j. S j x) (sym is) (subst (S a) (sym (set-here xs a y x (subst (λ j. slice_get (set xs a y) j ≡ Some x) is h))) here)
  at k x h (inr differ) = let there = sym (set-there xs a k y differ) ∙ h in others k x (omega (arith, slice_get_within xs k x there, e.length_is)) differ (e.at k x there)

pub each_push : {A : Type 0} (R S : ℕ → A → Type 0) (n m : ℕ) (y : A) (xs : List A) → Each R n xs → n + 1 ≡ m → S n y → ((k : ℕ) (x : A) → k < n → R k x → S k x) → Each S m (xs ++ y ∷ [])
each_push R S n m y xs e same here others = record {
  length_is = length-append xs (y ∷ []) ∙ ap (λ l. l + 1) e.length_is ∙ same;
  at = λ k x h. at k x (push-at xs y k x h);
} where
  at : (k : ℕ) (x : _) → (slice_get xs k ≡ Some x) ⊎ AtEnd xs y k x → S k x
  at k x (inl there) = others k x (omega (arith, slice_get_within xs k x there, e.length_is)) (e.at k x there)
  at k x (inr last) = subst (λ j. S j x) (sym (last.place ∙ e.length_is)) (subst (S n) (sym last.is) here)

-- ---- fronts

pub take_one : {A : Type 0} (xs : List A) (n : ℕ) (x : A) → slice_get xs n ≡ Some x → take (suc n) xs ≡ take n xs ++ x ∷ []
take_one [] n x h = absurd (cc h)
take_one (y ∷ xs) zero x h = ap (λ z. z ∷ []) (cc h)
take_one (y ∷ xs) (suc n) x h = ap (λ zs. y ∷ zs) (take_one xs n x h)

pub has_item : {A : Type 0} (xs : List A) (n : ℕ) → n < length xs → (x : A) × (slice_get xs n ≡ Some x)
has_item [] n h = absurd (omega (arith, h))
has_item (x ∷ xs) zero h = (x, refl)
has_item (x ∷ xs) (suc n) h = has_item xs n (omega (arith, h))
