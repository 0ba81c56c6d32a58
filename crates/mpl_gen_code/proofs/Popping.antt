-- What was pushed is popped, what there is is read, and tests that hold let go on.
use Rattle.std.proofs.Common.{◌≡◌, ◌≤◌, ◌<◌, ◌+◌, ℕ, nat_le, Bool, true, false, List, ◌++◌, length, take, drop, reverse, Option, Some, None, if◌then◌else◌, ℤ, append_assoc, ap, ap₂, sym, arith, ◌∙◌}
use Rattle.std.proofs.Math.Seq.{take-append_seam, drop-append_seam}
use Rattle.std.proofs.lemmas.Bool.{le-leb, lt-ltb}
use Rattle.std.proofs.lemmas.List.{length-append, length-reverse, reverse-append, reverse-reverse}
use Rattle.std.specs.List.{slice_set}
use Rattle.mpl_value.specs.Words.{with_words, words_at}
use Rattle.mdf_code.specs.Stacks.{PoppedAll, given, popped_all, pushed, read_words, set_at, where_true, write_words}

pub given_is : {A B : Type 0} (o : Option A) (x : A) (next : A → Option B) → o ≡ Some x → given o next ≡ next x
given_is o x next e = ap (λ (o : Option _). given o next) e

pub true_is : {B : Type 0} (b : Bool) (o : Option B) → b ≡ true → where_true b o ≡ o
true_is b o e = ap (λ (b : Bool). where_true b o) e

pub if_true : {A : Type 0} {b : Bool} (x y : A) → b ≡ true → (if b then x else y) ≡ x
if_true x y e = ap (λ (b : Bool). if b then x else y) e

pub if_false : {A : Type 0} {b : Bool} (x y : A) → b ≡ false → (if b then x else y) ≡ y
if_false x y e = ap (λ (b : Bool). if b then x else y) e

-- ---- stacks

pub popped_pushed : {A : Type 0} (items below : List A) (count : ℕ) → length items ≡ count → popped_all count (pushed items below) ≡ Some (record { items = items; below = below })
popped_pushed {A} items below count e =
    let long : length (reverse items) ≡ count = length-reverse items ∙ e in
    let enough : nat_le count (length (pushed items below)) ≡ true = le-leb count (length (reverse items ++ below)) (omega (arith, length-append (reverse items) below, long)) in
    let top : reverse (take count (pushed items below)) ≡ items =
    ap (λ (n : ℕ). reverse (take n (reverse items ++ below))) (sym long) ∙ ap reverse (take-append_seam (reverse items) below) ∙ reverse-reverse items in
    let rest : drop count (pushed items below) ≡ below = ap (λ (n : ℕ). drop n (reverse items ++ below)) (sym long) ∙ drop-append_seam (reverse items) below in
    if_true _ None enough ∙ ap₂ (λ (a b : List A). some_popped a b) top rest where
      some_popped : List A → List A → Option (PoppedAll A)
      some_popped a b = Some (record { items = a; below = b })

pub pushed_both : {A : Type 0} (first second stack : List A) → pushed second (pushed first stack) ≡ pushed (first ++ second) stack
pushed_both first second stack = sym (append_assoc (reverse second) (reverse first) stack) ∙ ap (λ all. all ++ stack) (sym (reverse-append first second))

-- ---- places

pub read_there : (offset count : ℕ) (words : List ℤ) → offset + count ≤ length words → read_words offset count words ≡ Some (words_at offset count words)
read_there offset count words h = if_true _ None (le-leb (offset + count) (length words) h)

pub write_there : (offset : ℕ) (new words : List ℤ) → offset + length new ≤ length words → write_words offset new words ≡ Some (with_words offset new words)
write_there offset new words h = if_true _ None (le-leb (offset + length new) (length words) h)

pub set_there : {A : Type 0} (place : ℕ) (item : A) (items : List A) → place < length items → set_at place item items ≡ Some (slice_set items place item)
set_there place item items h = if_true _ None (lt-ltb place (length items) h)
