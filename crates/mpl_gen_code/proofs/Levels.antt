-- What is called so many levels deep does what it means.
use Rattle.std.proofs.Common.{◌≡◌, ◌≤◌, ℕ, zero, suc, ◌+◌, Bool, List, None, refl, arith}
use Rattle.mpl_ast.specs.declared.program.Declaration.{Declaration}
use Rattle.mpl_checked.specs.Checked.CheckedBodies.{checked_callees_at}
use Rattle.mpl_gen_code.specs.ProgramFits.{ProgramFits}
use Rattle.mpl_gen_code.proofs.Below.{Below}
use Rattle.mpl_gen_code.proofs.Compiled.{Compiled}
use Rattle.mpl_gen_code.proofs.PlainLevels as plain
use Rattle.mpl_gen_code.proofs.RegularLevels as regular
use Rattle.mpl_gen_code.proofs.Reaching.{Whole}

-- Each start of a body spends a turn, so as many levels as turns are left suffice.
pub levels : (ds : List Declaration) (marks : ℕ → Bool) (level : ℕ) (W : Whole) → Compiled W.setting.image ds marks → ProgramFits ds marks → W.setting.answers ≡ None
    → (base : ℕ) → W.setting.turns ≤ base + level → Below W ds (checked_callees_at marks level ds W.setting.turns W.table) base
levels ds marks zero W compiled trees in_place base few = record {
  plain = λ low above here name f is number numbered arguments have p ws fs vs s le within result stands c.
      plain.called_spent W ds marks compiled trees in_place here low name f is number numbered arguments have p ws fs vs s (omega arith) le within result stands _ c;
  regular = λ low above here class m is kind arguments have p ws fs vs s le within result c sent.
      regular.called_spent W ds marks compiled trees in_place here low class m is kind arguments have p ws fs vs s sent (omega arith) le within result _ c;
}
levels ds marks (suc level) W compiled trees in_place base few = record {
  plain = λ low above here name f is number numbered arguments have p ws fs vs s le within result stands c.
      plain.called W ds marks compiled trees in_place here low name f is number numbered arguments have p ws fs vs s level
      (levels ds marks level (plain.U W ds marks compiled trees in_place) compiled trees in_place (s.turns + 1) (omega arith)) le within result stands c;
  regular = λ low above here class m is kind arguments have p ws fs vs s le within result c sent.
      regular.called W ds marks compiled trees in_place here low class m is kind arguments have p ws fs vs s sent level
      (levels ds marks level (regular.U W ds marks compiled trees in_place here low class m is kind arguments have p ws fs vs s sent) compiled trees refl (s.turns + 1) (omega arith)) le within result c;
}
