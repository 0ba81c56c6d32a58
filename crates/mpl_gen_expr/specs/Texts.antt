-- Code from a place on, and what is written behind it.
use Rattle.std.specs.Prelude.{ℕ, ◌+◌, ◌-◌, List, ◌++◌, length, refl}
use Rattle.std.specs.Coded.{Coded, code_by, coded×, coded_list, coded_ℕ}
use Rattle.std.proofs.Math.ListN.{set}
use Rattle.mdf_code.specs.declared.instr.Instr.{Instr}
use Rattle.mdf_code.specs.contracts.instr.Instr as instr_code
use Rattle.mpl_gen_code.specs.Pieces.{Piece}

-- instructions, of which the first stands at a place of the body's code
pub record Text : Type 0 where
  pub base : ℕ
  pub code : List Instr

abbrev pub text_code : Coded Text
text_code =
    code_by (ℕ × List Instr) (coded× coded_ℕ (coded_list instr_code.the_row.coded)) (λ t. (t.base, t.code)) (λ p. record { base = p.0; code = p.1 }) (λ _. refl)

-- the place of the next instruction
unfoldable pub place : Text → ℕ
place t = t.base + length t.code

unfoldable pub written : Piece → Text → Text
written piece t = record { base = t.base; code = t.code ++ piece (t.base + length t.code) }

-- another instruction at a place
unfoldable pub placed : ℕ → Instr → Text → Text
placed at instruction t = record { base = t.base; code = set t.code (at - t.base) instruction }
