-- What a journal keeps.
use Rattle.std.specs.Prelude.{ℕ, List, refl}
use Rattle.std.specs.Coded.{Coded, code_by, coded×, coded_list, coded_ℕ}
use Rattle.mdf_mean.specs.declared.entry.Entry.{Entry}
use Rattle.mdf_mean.specs.contracts.entry.Entry as entry_code

-- its entries, the first of them first, and for how many more it has room
pub record Kept : Type 0 where
  pub entries : List Entry
  pub room : ℕ

abbrev pub kept_code : Coded Kept
kept_code =
    code_by (List Entry × ℕ) (coded× (coded_list entry_code.the_row.coded) coded_ℕ) (λ k. (k.entries, k.room)) (λ p. record { entries = p.0; room = p.1 }) (λ _. refl)
