-- What variables hold, where the newest is the last of a list.
use Rattle.std.proofs.Common.{◌≡◌, ◌≤◌, ◌<◌, ℕ, zero, suc, ◌-◌, Bool, true, false, List, [], ◌∷◌, ◌++◌, length, get_or, map, reverse, take, drop, Option, Some, None, if◌then◌else◌, refl, ap, ap₂, sym, arith, ⊎_elim, ◌∙◌}
use Rattle.std.proofs.lemmas.List.{length-append, length-drop, length-map, length-reverse, map-append, reverse-append, take-append-drop}
use Rattle.std.proofs.lemmas.Option.{slice_get-get_or, slice_get_past}
use Rattle.std.proofs.Math.Seq.{drop-append_seam}
use Rattle.std.specs.Prelude.{nat_eq, slice_get, slice_set}
use Rattle.std.proofs.lemmas.Bool.{eq-eqb, ne_eqb}
use Rattle.std.proofs.lemmas.Bool.Decides.{eqb_tells}
use Rattle.mpl_value.specs.declared.body.Arg.{Arg}
use Rattle.mpl_value.specs.declared.body.Arg.TheVariants as arg
use Rattle.mpl_body_code.specs.Machine.{held, put_held}
use Rattle.mpl_body_run.specs.SeenItems.{arg_seen, slots_seen}
use Rattle.mpl_body_run.specs.declared.stack.Holds.{Holds}
use Rattle.mpl_body_code.proofs.Scoped.{if_false}

reverse_cons : {A : Type 0} (x : A) (xs : List A) → reverse (x ∷ xs) ≡ reverse xs ++ x ∷ []
reverse_cons x xs = reverse-append (x ∷ []) xs

suc_same : (n m : ℕ) → nat_eq (suc n) (suc m) ≡ nat_eq n m
suc_same n m = ⊎_elim (λ same. eq-eqb (suc n) (suc m) (ap suc same.1) ∙ sym same.0) (λ other. ne_eqb (suc n) (suc m) (λ e. other.1 (omega arith)) ∙ sym other.0) (eqb_tells n m)

-- the oldest stands last
held_oldest : (x : Arg) (newer : List Arg) → held 0 (newer ++ x ∷ []) ≡ x
held_oldest x [] = refl
held_oldest x (y ∷ newer) =
    if_false y (held 0 (newer ++ x ∷ [])) (ne_eqb 0 (length (newer ++ x ∷ [])) (λ e. absurd (let a = length-append newer (x ∷ []) in let b : 0 ≡ length (newer ++ x ∷ []) = e in omega arith)))
    ∙ held_oldest x newer

held_newer : (n : ℕ) (x : Arg) (newer : List Arg) → held (suc n) (newer ++ x ∷ []) ≡ held n newer
held_newer n x [] = if_false x arg.Unknown (ne_eqb (suc n) 0 (λ e. absurd (omega arith)))
held_newer n x (y ∷ newer) =
    ap (λ k. if nat_eq (suc n) k then y else held (suc n) (newer ++ x ∷ [])) (let a = length-append newer (x ∷ []) in let goal : length (newer ++ x ∷ []) ≡ suc (length newer) = omega arith in goal)
    ∙ ap₂ (λ b rest. if b then y else rest) (suc_same n (length newer)) (held_newer n x newer)

put_oldest : (a x : Arg) (newer : List Arg) → put_held 0 a (newer ++ x ∷ []) ≡ newer ++ a ∷ []
put_oldest a x [] = refl
put_oldest a x (y ∷ newer) =
    if_false (a ∷ (newer ++ x ∷ [])) (y ∷ put_held 0 a (newer ++ x ∷ [])) (ne_eqb 0 (length (newer ++ x ∷ [])) (λ e. absurd (let b = length-append newer (x ∷ []) in let d : 0 ≡ length (newer ++ x ∷ []) = e in omega arith)))
    ∙ ap (λ rest. y ∷ rest) (put_oldest a x newer)

put_newer : (n : ℕ) (a x : Arg) (newer : List Arg) → put_held (suc n) a (newer ++ x ∷ []) ≡ put_held n a newer ++ x ∷ []
put_newer n a x [] = if_false (a ∷ []) (x ∷ []) (ne_eqb (suc n) 0 (λ e. absurd (omega arith)))
put_newer n a x (y ∷ newer) =
    ap (λ k. if nat_eq (suc n) k then a ∷ (newer ++ x ∷ []) else y ∷ put_held (suc n) a (newer ++ x ∷ [])) (let b = length-append newer (x ∷ []) in let goal : length (newer ++ x ∷ []) ≡ suc (length newer) = omega arith in goal)
    ∙ ap₂ (λ b rest. if b then a ∷ (newer ++ x ∷ []) else y ∷ rest) (suc_same n (length newer)) (put_newer n a x newer)
    ∙ chosen (nat_eq n (length newer)) where
      chosen : (b : Bool) → (if b then a ∷ (newer ++ x ∷ []) else y ∷ (put_held n a newer ++ x ∷ [])) ≡ (if b then a ∷ newer else y ∷ put_held n a newer) ++ x ∷ []
      chosen true = refl
      chosen false = refl

abbrev pub seen_or : Option Holds → Arg
seen_or None = arg.Unknown
seen_or (Some h) = arg_seen h

pub held_seen : (all : List Holds) (n : ℕ) → held n (slots_seen all) ≡ seen_or (slice_get all n)
held_seen [] n = refl
held_seen (h ∷ all) zero = ap (held 0) (reverse_cons (arg_seen h) (map arg_seen all)) ∙ held_oldest (arg_seen h) (slots_seen all)
held_seen (h ∷ all) (suc n) = ap (held (suc n)) (reverse_cons (arg_seen h) (map arg_seen all)) ∙ held_newer n (arg_seen h) (slots_seen all) ∙ held_seen all n

pub held_within : (all : List Holds) (n : ℕ) (d : Holds) → n < length all → held n (slots_seen all) ≡ arg_seen (get_or all n d)
held_within all n d less = held_seen all n ∙ ap seen_or (slice_get-get_or all n d less)

pub held_past : (all : List Holds) (n : ℕ) → length all ≤ n → held n (slots_seen all) ≡ arg.Unknown
held_past all n past = held_seen all n ∙ ap seen_or (slice_get_past all n past)

pub put_seen : (all : List Holds) (n : ℕ) (h : Holds) → slots_seen (slice_set all n h) ≡ put_held n (arg_seen h) (slots_seen all)
put_seen [] n h = refl
put_seen (x ∷ all) zero h =
    reverse_cons (arg_seen h) (map arg_seen all) ∙ sym (put_oldest (arg_seen h) (arg_seen x) (slots_seen all)) ∙ ap (put_held 0 (arg_seen h)) (sym (reverse_cons (arg_seen x) (map arg_seen all)))
put_seen (x ∷ all) (suc n) h =
    reverse_cons (arg_seen x) (map arg_seen (slice_set all n h))
    ∙ ap (λ rest. rest ++ arg_seen x ∷ []) (put_seen all n h)
    ∙ sym (put_newer n (arg_seen h) (arg_seen x) (slots_seen all))
    ∙ ap (put_held (suc n) (arg_seen h)) (sym (reverse_cons (arg_seen x) (map arg_seen all)))

pub put_past : (all : List Holds) (n : ℕ) (a : Arg) → length all ≤ n → put_held n a (slots_seen all) ≡ slots_seen all
put_past [] n a h = refl
put_past (x ∷ all) zero a h = absurd (let b : suc (length all) ≤ 0 = h in omega arith)
put_past (x ∷ all) (suc n) a h =
    ap (put_held (suc n) a) (reverse_cons (arg_seen x) (map arg_seen all))
    ∙ put_newer n a (arg_seen x) (slots_seen all)
    ∙ ap (λ rest. rest ++ arg_seen x ∷ []) (put_past all n a (let b : suc (length all) ≤ suc n = h in omega arith))
    ∙ sym (reverse_cons (arg_seen x) (map arg_seen all))

put_length : (n : ℕ) (b : Arg) (all : List Arg) → length (put_held n b all) ≡ length all
put_length n b [] = refl
put_length n b (h ∷ older) = chosen (nat_eq n (length older)) (put_length n b older) where
  chosen : (t : Bool) → length (put_held n b older) ≡ length older → length (if t then b ∷ older else h ∷ put_held n b older) ≡ suc (length older)
  chosen true same = refl
  chosen false same = ap suc same

pub put_twice : (n : ℕ) (a b : Arg) (all : List Arg) → put_held n a (put_held n b all) ≡ put_held n a all
put_twice n a b [] = refl
put_twice n a b (h ∷ older) = chosen (nat_eq n (length older)) refl (put_length n b older) (put_twice n a b older) where
  chosen : (t : Bool) → nat_eq n (length older) ≡ t → length (put_held n b older) ≡ length older → put_held n a (put_held n b older) ≡ put_held n a older
      → put_held n a (if t then b ∷ older else h ∷ put_held n b older) ≡ (if t then a ∷ older else h ∷ put_held n a older)
  chosen true e same rest = ap (λ t. if t then a ∷ older else b ∷ put_held n a older) e
  chosen false e same rest =
      ap (λ k. if nat_eq n k then a ∷ put_held n b older else h ∷ put_held n a (put_held n b older)) same
      ∙ ap (λ t. if t then a ∷ put_held n b older else h ∷ put_held n a (put_held n b older)) e
      ∙ ap (λ all. h ∷ all) rest

pub leave_seen : (all : List Holds) (count : ℕ) → slots_seen (take count all) ≡ drop (length (slots_seen all) - count) (slots_seen all)
leave_seen all count =
    let kept = take count all in
    let left = drop count all in
    let parts : slots_seen all ≡ slots_seen left ++ slots_seen kept =
    ap slots_seen (sym (take-append-drop count all)) ∙ ap reverse (map-append arg_seen kept left) ∙ reverse-append (map arg_seen kept) (map arg_seen left) in
    let a : length (slots_seen all) ≡ length all = length-reverse (map arg_seen all) ∙ length-map all arg_seen in
    let b : length (slots_seen left) ≡ length left = length-reverse (map arg_seen left) ∙ length-map left arg_seen in
    let n : length (slots_seen all) - count ≡ length (slots_seen left) = ap (λ k. k - count) a ∙ sym (length-drop count all) ∙ sym b in
    sym (ap₂ drop n parts ∙ drop-append_seam (slots_seen left) (slots_seen kept))
