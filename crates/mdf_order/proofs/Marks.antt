-- The marks of serials, and what is counted of them.
use Rattle.std.proofs.Common.{◌≡◌, ℕ, ◌+◌, ◌-◌, ◌/◌, ◌%◌, ◌^◌, ◌<◌, Bool, true, false, List, [], ◌∷◌, ◌++◌, length, refl, ap, sym, subst, ◌∙◌, arith}
use Rattle.std.specs.Prelude.{slice_index, slice_set, slice_index_or}
use Rattle.std.specs.List.{sum_by}
use Rattle.std.proofs.lemmas.List.{length-set, length_push}
use Rattle.std.proofs.lemmas.List.Sums.{sum_by_push, sum_by-set, count_by-le-length}
use Rattle.mdf_order.specs.declared.counts.TheConstants.{BLOCK}
use Rattle.mdf_order.specs.Internal.Marks.{mark_count, IsCounted}
use Rattle.mdf_order.specs.Internal.BlockSums.{AreBlockSums}
use Rattle.mdf_order.proofs.Changes.{sums-changed, sums-same, sums-pushed}

-- where one isn't in, fewer are in than there are
pub count-lt-length : (marks : List Bool) (at : ℕ) (was : Bool) → at < length marks → was ≡ slice_index_or marks at was → was ≡ false
    → sum_by mark_count marks < length marks
count-lt-length marks at was there read out =
    omega (
      arith,
      count_by-le-length (λ marked. marked) (slice_set marks at true),
      length-set marks at true,
      sum_by-set mark_count marks at true was there,
      ap mark_count (sym read ∙ out),
    )

-- a mark is written
pub counted-set : (marks : List Bool) (blocks after : List ℕ) (count now at sum : ℕ) (was new : Bool) → IsCounted marks blocks count
    → at < length marks → was ≡ slice_index_or marks at was → after ≡ slice_set blocks (at / BLOCK) sum
    → sum + mark_count was ≡ slice_index blocks (at / BLOCK) + mark_count new → now + mark_count was ≡ count + mark_count new
    → IsCounted (slice_set marks at new) after now
counted-set marks blocks after count now at sum was new is there read written in_block in_all = record {
  in_blocks =
      subst (AreBlockSums mark_count (slice_set marks at new)) (sym written)
      (sums-changed mark_count marks blocks at new was sum is.in_blocks there (omega (arith, in_block, ap mark_count read)));
  in_all = omega (arith, in_all, is.in_all, sum_by-set mark_count marks at new was there, ap mark_count read);
  numbered = omega (arith, is.numbered, length-set marks at new);
}

-- a serial is added: in a new block, or in the last
pub counted-pushed : (marks : List Bool) (blocks after : List ℕ) (count len : ℕ) → IsCounted marks blocks count → len ≡ length marks
    → length marks < 2 ^ 32 - 1 → len % BLOCK ≡ 0 → after ≡ blocks ++ 0 ∷ [] → IsCounted (marks ++ false ∷ []) after count
counted-pushed marks blocks after count len is counted few full pushed = record {
  in_blocks =
      subst (AreBlockSums mark_count (marks ++ false ∷ [])) (sym pushed)
      (sums-pushed mark_count marks blocks false is.in_blocks refl (omega (arith, counted, full, is.in_blocks.all_there, is.in_blocks.no_more)));
  in_all = omega (arith, is.in_all, sum_by_push mark_count marks false);
  numbered = omega (arith, few, length_push marks false);
}

pub counted-same : (marks : List Bool) (blocks : List ℕ) (count len : ℕ) → IsCounted marks blocks count → len ≡ length marks
    → length marks < 2 ^ 32 - 1 → (len % BLOCK ≡ 0 → ⊥) → IsCounted (marks ++ false ∷ []) blocks count
counted-same marks blocks count len is counted few room = record {
  in_blocks = sums-same mark_count marks blocks false is.in_blocks refl (omega (arith, counted, room, is.in_blocks.all_there));
  in_all = omega (arith, is.in_all, sum_by_push mark_count marks false);
  numbered = omega (arith, few, length_push marks false);
}
