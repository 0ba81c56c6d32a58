-- What lies on a stack, where the top is the last of so many items of a list.
use Rattle.std.proofs.Common.{◌≡◌, ◌≤◌, ◌<◌, ◌+◌, ℕ, zero, suc, List, [], ◌∷◌, ◌++◌, length, get_or, map, take, refl, ap, sym, arith, ◌∙◌}
use Rattle.std.proofs.lemmas.List.{length-append, reverse-append}
use Rattle.std.specs.Prelude.{slice_set}
use Rattle.mpl_body_run.specs.SeenItems.{item_seen, stack_seen}
use Rattle.mpl_body_run.specs.declared.stack.Holds.{Holds}

seen_cons : (x : Holds) (all : List Holds) → stack_seen (x ∷ all) ≡ stack_seen all ++ item_seen x ∷ []
seen_cons x all = reverse-append (item_seen x ∷ []) (map item_seen all)

set_within : (all : List Holds) (n : ℕ) (h : Holds) → n < length all → stack_seen (take (suc n) (slice_set all n h)) ≡ item_seen h ∷ stack_seen (take n all)
set_within [] n h less = absurd (omega arith)
set_within (x ∷ all) zero h less = refl
set_within (x ∷ all) (suc n) h less =
    seen_cons x (take (suc n) (slice_set all n h))
    ∙ ap (λ seen. seen ++ item_seen x ∷ []) (set_within all n h (let b : suc n < suc (length all) = less in omega arith))
    ∙ ap (λ seen. item_seen h ∷ seen) (sym (seen_cons x (take n all)))

added_past : (all : List Holds) (n : ℕ) (h : Holds) → n ≡ length all → stack_seen (take (suc n) (all ++ h ∷ [])) ≡ item_seen h ∷ stack_seen (take n all)
added_past [] zero h same = refl
added_past [] (suc n) h same = absurd (let b : suc n ≡ 0 = same in omega arith)
added_past (x ∷ all) zero h same = absurd (let b : 0 ≡ suc (length all) = same in omega arith)
added_past (x ∷ all) (suc n) h same =
    seen_cons x (take (suc n) (all ++ h ∷ []))
    ∙ ap (λ seen. seen ++ item_seen x ∷ []) (added_past all n h (let b : suc n ≡ suc (length all) = same in omega arith))
    ∙ ap (λ seen. item_seen h ∷ seen) (sym (seen_cons x (take n all)))

taken_off : (all : List Holds) (n : ℕ) (d u : Holds) → n < length all → stack_seen (take (suc n) all) ≡ item_seen (get_or all n d) ∷ stack_seen (take n (slice_set all n u))
taken_off [] n d u less = absurd (omega arith)
taken_off (x ∷ all) zero d u less = refl
taken_off (x ∷ all) (suc n) d u less =
    seen_cons x (take (suc n) all)
    ∙ ap (λ seen. seen ++ item_seen x ∷ []) (taken_off all n d u (let b : suc n < suc (length all) = less in omega arith))
    ∙ ap (λ seen. item_seen (get_or all n d) ∷ seen) (sym (seen_cons x (take n (slice_set all n u))))

one_more : (n : ℕ) → n + 1 ≡ suc n
one_more n = omega arith

pub pushed_within : (all : List Holds) (n : ℕ) (h : Holds) → n < length all → stack_seen (take (n + 1) (slice_set all n h)) ≡ item_seen h ∷ stack_seen (take n all)
pushed_within all n h less = ap (λ k. stack_seen (take k (slice_set all n h))) (one_more n) ∙ set_within all n h less

pub pushed_past : (all : List Holds) (n : ℕ) (h : Holds) → length all ≤ n → n ≤ length all → stack_seen (take (n + 1) (all ++ h ∷ [])) ≡ item_seen h ∷ stack_seen (take n all)
pushed_past all n h past within = ap (λ k. stack_seen (take k (all ++ h ∷ []))) (one_more n) ∙ added_past all n h (omega arith)

pub popped : (all : List Holds) (n m : ℕ) (d u : Holds) → m ≡ n + 1 → n < length all → stack_seen (take m all) ≡ item_seen (get_or all n d) ∷ stack_seen (take n (slice_set all n u))
popped all n m d u is less = ap (λ k. stack_seen (take k all)) (is ∙ one_more n) ∙ taken_off all n d u less

pub none_lies : (all : List Holds) (n : ℕ) → n ≡ 0 → stack_seen (take n all) ≡ []
none_lies all n is = ap (λ k. stack_seen (take k all)) is

set_length : (all : List Holds) (n : ℕ) (h : Holds) → length (slice_set all n h) ≡ length all
set_length [] n h = refl
set_length (x ∷ all) zero h = refl
set_length (x ∷ all) (suc n) h = ap suc (set_length all n h)

pub room_within : (all : List Holds) (n : ℕ) (h : Holds) → n < length all → n + 1 ≤ length (slice_set all n h)
room_within all n h less = let same = set_length all n h in omega arith

pub room_past : (all : List Holds) (n : ℕ) (h : Holds) → n ≤ length all → n + 1 ≤ length (all ++ h ∷ [])
room_past all n h within = let more = length-append all (h ∷ []) in let one : length {A = Holds} (h ∷ []) ≡ 1 = refl in omega arith
