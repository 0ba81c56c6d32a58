-- What came of an instruction that was tried.
use Rattle.std.specs.Prelude.{ℕ, ◌≡◌}
use Rattle.mpl_value.specs.declared.body.Arg.{Arg}
use Rattle.mdf_code.specs.declared.instr.Instr.{Instr}
use Rattle.mdf_code.specs.Alone.{Held, framed}
use Rattle.mdf_code.specs.Frames.{Around, Frame, Next, Goes, Spends}
use Rattle.mdf_code.specs.Steps.{Does, does, or_strays}
use Rattle.mdf_vm.specs.Runnings.{frame_of}
use Rattle.mdf_vm.specs.declared.moves.Quick.{Quick}
use Rattle.mdf_vm.specs.declared.moves.Quick.TheVariants as quick
use Rattle.mdf_vm.specs.declared.running.Running.{Running}

-- the frame went on as that does, or stands where it stood
abbrev pub Came : Next Held → Running → Quick → Running → Type 0
Came next before quick.Goes after = next ≡ Goes (frame_of after)
Came next before quick.Spends after = next ≡ Spends (frame_of after)
Came next before quick.Waits after = frame_of after ≡ frame_of before

abbrev pub TriedAs : Does Held → Running → Quick → Running → Type 0
TriedAs next before came after = Came (or_strays (frame_of before) next) before came after

abbrev pub Tried : (ℕ → Arg) → Around → Instr → Running → Quick → Running → Type 0
Tried knows x instruction before came after = TriedAs (does (framed knows) x instruction (frame_of before)) before came after
