-- A row without its last item, which counts nothing.
use Rattle.std.proofs.Common.{◌≡◌, ℕ, zero, suc, ◌+◌, ◌-◌, ◌*◌, ◌%◌, ◌<◌, ◌≤◌, ◌^◌, Bool, false, List, [], ◌∷◌, ◌++◌, length, take, drop, refl, ap, sym, subst, ◌∙◌, arith}
use Rattle.std.specs.Prelude.{slice_index, slice_index_or, slice_set, Option, Some, None, Box}
use Rattle.std.specs.Global.{Global}
use Rattle.std.specs.List.{sum_by}
use Rattle.std.proofs.lemmas.List.{drop_all, length-append, length_push, length-take, length-set, get_or-set_same}
use Rattle.std.proofs.lemmas.List.Sums.{sum_by_push}
use Rattle.std.proofs.Math.Seq.{take-append_seam}
use Rattle.mdf_order.specs.declared.counts.TheConstants.{BLOCK}
use Rattle.mdf_order.specs.Internal.Above.{IsAbove}
use Rattle.mdf_order.specs.Internal.BlockSums.{AreBlockSums}
use Rattle.mdf_order.specs.Internal.Marks.{IsCounted, mark_count}
use Rattle.mdf_order.proofs.Changes.{sum-block-push}

-- ---- the last item

split-at : {X : Type 0} (n : ℕ) (row : List X) (d : X) → n + 1 ≡ length row → row ≡ take n row ++ slice_index_or row n d ∷ []
split-at zero [] d is = absurd (omega (arith, is))
split-at zero (x ∷ []) d is = refl
split-at zero (x ∷ y ∷ row) d is = absurd (omega (arith, is))
split-at (suc n) [] d is = absurd (omega (arith, is))
split-at (suc n) (x ∷ row) d is = ap (λ rest. x ∷ rest) (split-at n row d (omega (arith, is)))

pub split-last : {X : Type 0} (row : List X) (d : X) → 0 < length row → row ≡ take (length row - 1) row ++ slice_index_or row (length row - 1) d ∷ []
split-last row d some = split-at (length row - 1) row d (omega (arith, some))

pub without-last : {X : Type 0} (kept : List X) (newest : X) (all : List X) → all ≡ kept ++ newest ∷ [] → take (length all - 1) all ≡ kept
without-last kept newest all is =
    let counted : length all - 1 ≡ length kept = omega (arith, ap length is, length-append kept (newest ∷ [])) in
    ap (λ n. take n all) counted ∙ ap (take (length kept)) is ∙ take-append_seam kept (newest ∷ [])

pub fewer : {X : Type 0} (row : List X) → 0 < length row → length (take (length row - 1) row) + 1 ≡ length row
fewer row some = omega (arith, length-take (length row - 1) row, some)

-- ---- sums of blocks

-- the item stood in a block with others
sums-fewer : {X : Type 0} (count : X → ℕ) (row : List X) (sums : List ℕ) (x : X) → AreBlockSums count (row ++ x ∷ []) sums → count x ≡ 0
    → (length row % BLOCK ≡ 0 → ⊥) → AreBlockSums count row sums
sums-fewer count row sums x are none room = record {
  each = λ n. are.each n ∙ sum-block-push count row x (BLOCK * n) none;
  all_there = omega (arith, length_push row x, are.all_there);
  no_more = omega (arith, length_push row x, are.no_more, are.all_there, room);
}

-- or alone
past : (sums : List ℕ) (n s : ℕ) → s ≡ 0 → slice_index (sums ++ s ∷ []) n ≡ slice_index sums n
past [] zero s is = is
past [] (suc n) s is = refl
past (y ∷ sums) zero s is = refl
past (y ∷ sums) (suc n) s is = past sums n s is

sums-dropped : {X : Type 0} (count : X → ℕ) (row : List X) (sums : List ℕ) (x : X) (s : ℕ) → AreBlockSums count (row ++ x ∷ []) (sums ++ s ∷ []) → count x ≡ 0
    → s ≡ 0 → length row % BLOCK ≡ 0 → AreBlockSums count row sums
sums-dropped count row sums x s are none empty whole = record {
  each = λ n. sym (past sums n s empty) ∙ are.each n ∙ sum-block-push count row x (BLOCK * n) none;
  all_there = omega (arith, length_push row x, length_push sums s, are.all_there, are.no_more, whole);
  no_more = omega (arith, length_push row x, length_push sums s, are.no_more, are.all_there, whole);
}

-- such a block has the sum 0
pub last-sum : {X : Type 0} (count : X → ℕ) (row : List X) (sums : List ℕ) (x : X) → AreBlockSums count (row ++ x ∷ []) sums → count x ≡ 0
    → length row % BLOCK ≡ 0 → slice_index sums (length sums - 1) ≡ 0
last-sum count row sums x are none whole =
    let start : length row ≤ BLOCK * (length sums - 1) = omega (arith, length_push row x, are.all_there, are.no_more, whole) in
    are.each (length sums - 1) ∙ sum-block-push count row x (BLOCK * (length sums - 1)) none
    ∙ ap (λ rest. sum_by count (take BLOCK rest)) (drop_all (BLOCK * (length sums - 1)) row start)

pub some-sums : {X : Type 0} (count : X → ℕ) (row : List X) (sums : List ℕ) (x : X) → AreBlockSums count (row ++ x ∷ []) sums → 0 < length sums
some-sums count row sums x are = omega (arith, length_push row x, are.all_there)

-- without the last of both
pub sums-popped : {X : Type 0} (count : X → ℕ) (row : List X) (sums after : List ℕ) (x : X) → AreBlockSums count (row ++ x ∷ []) sums → count x ≡ 0
    → length row % BLOCK ≡ 0 → after ≡ take (length sums - 1) sums → AreBlockSums count row after
sums-popped count row sums after x are none whole is =
    let split = split-last sums 0 (some-sums count row sums x are) in
    subst (AreBlockSums count row) (sym is)
    (sums-dropped count row (take (length sums - 1) sums) x (slice_index sums (length sums - 1)) (subst (AreBlockSums count (row ++ x ∷ [])) split are) none (last-sum count row sums x are none whole) whole)

-- ---- rows of numbers

-- a row and its last number, which is 0
pub row-split : (numbers left : List ℕ) → 0 < length numbers → slice_index numbers (length numbers - 1) ≡ 0 → left ≡ take (length numbers - 1) numbers → numbers ≡ left ++ 0 ∷ []
row-split numbers left some none is =
    split-last numbers 0 some ∙ ap (λ x. take (length numbers - 1) numbers ++ x ∷ []) none ∙ ap (λ ns. ns ++ 0 ∷ []) (sym is)

pub above-fewer : (numbers left sums : List ℕ) → numbers ≡ left ++ 0 ∷ [] → (BLOCK < length numbers) × AreBlockSums (λ number. number) numbers sums
    → BLOCK < length left → (length left % BLOCK ≡ 0 → ⊥) → (BLOCK < length left) × AreBlockSums (λ number. number) left sums
above-fewer numbers left sums split is more room =
    (more, sums-fewer (λ number. number) left sums 0 (subst (λ ns. AreBlockSums (λ number. number) ns sums) split is.1) refl room)

pub above-popped : (numbers left sums before after : List ℕ) → numbers ≡ left ++ 0 ∷ [] → (BLOCK < length numbers) × AreBlockSums (λ number. number) numbers sums
    → BLOCK < length left → length left % BLOCK ≡ 0 → before ≡ sums → after ≡ take (length before - 1) before → (BLOCK < length left) × AreBlockSums (λ number. number) left after
above-popped numbers left sums before after split is more whole lent popped =
    (more, sums-popped (λ number. number) left sums after 0 (subst (λ ns. AreBlockSums (λ number. number) ns sums) split is.1) refl whole (popped ∙ ap (λ ss. take (length ss - 1) ss) lent))

-- ---- marks

pub counted-fewer : (kept : List Bool) (blocks : List ℕ) (count : ℕ) → IsCounted (kept ++ false ∷ []) blocks count → (length kept % BLOCK ≡ 0 → ⊥) → IsCounted kept blocks count
counted-fewer kept blocks count is room = record {
  in_blocks = sums-fewer mark_count kept blocks false is.in_blocks refl room;
  in_all = omega (arith, is.in_all, sum_by_push mark_count kept false);
  numbered = omega (arith, is.numbered, length_push kept false);
}

pub counted-dropped : (kept : List Bool) (blocks after : List ℕ) (count : ℕ) → IsCounted (kept ++ false ∷ []) blocks count → length kept % BLOCK ≡ 0
    → after ≡ take (length blocks - 1) blocks → IsCounted kept after count
counted-dropped kept blocks after count is whole popped = record {
  in_blocks = sums-popped mark_count kept blocks after false is.in_blocks refl whole popped;
  in_all = omega (arith, is.in_all, sum_by_push mark_count kept false);
  numbered = omega (arith, is.numbered, length_push kept false);
}

-- the marks where the last isn't in
pub out-last : (marks : List Bool) → 0 < length marks → slice_set marks (length marks - 1) false ≡ take (length marks - 1) marks ++ false ∷ []
out-last marks some =
    set-at (length marks - 1) marks (omega (arith, some)) where
      set-at : (n : ℕ) (row : List Bool) → n + 1 ≡ length row → slice_set row n false ≡ take n row ++ false ∷ []
      set-at zero [] is = absurd (omega (arith, is))
      set-at zero (x ∷ []) is = refl
      set-at zero (x ∷ y ∷ row) is = absurd (omega (arith, is))
      set-at (suc n) [] is = absurd (omega (arith, is))
      set-at (suc n) (x ∷ row) is = ap (λ rest. x ∷ rest) (set-at n row (omega (arith, is)))

pub above-kept : (numbers left : List ℕ) (above : Option (Box (List ℕ) Global)) → numbers ≡ left ++ 0 ∷ [] → IsAbove numbers above → BLOCK < length left
    → (length left % BLOCK ≡ 0 → ⊥) → IsAbove left above
above-kept numbers left None split is more room = absurd (omega (arith, is, more, ap length split, length_push left 0))
above-kept numbers left (Some above) split is more room = above-fewer numbers left above.value split is more room

-- what is left of marks, the last of which was taken out
pub marks-split : (old marks left : List Bool) (n : ℕ) → 0 < length old → n ≡ length old → marks ≡ slice_set old (n - 1) false → left ≡ take (length marks - 1) marks
    → marks ≡ left ++ false ∷ []
marks-split old marks left n some counted is popped =
    let whole : marks ≡ take (length old - 1) old ++ false ∷ [] = is ∙ ap (λ k. slice_set old (k - 1) false) counted ∙ out-last old some in
    let kept : left ≡ take (length old - 1) old = popped ∙ without-last (take (length old - 1) old) false marks whole in
    whole ∙ ap (λ ms. ms ++ false ∷ []) (sym kept)

pub marks-left : (old marks left : List Bool) (n : ℕ) → n ≡ length old → marks ≡ slice_set old (n - 1) false → marks ≡ left ++ false ∷ [] → length left + 1 ≡ n
marks-left old marks left n counted is split = omega (arith, ap length is, ap length split, length-set old (n - 1) false, length_push left false, counted)
