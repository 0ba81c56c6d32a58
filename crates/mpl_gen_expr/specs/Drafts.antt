-- The instructions that drafts stand for, and which of them have numbers of 32 bits.
use Rattle.std.specs.Prelude.{ℕ, ◌<◌, ◌^◌}
use Rattle.mdf_code.specs.declared.instr.Instr.{Instr}
use Rattle.mdf_code.specs.declared.instr.Instr.TheVariants as instr
use Rattle.mpl_gen_expr.specs.declared.draft.Draft.{Draft}
use Rattle.mpl_gen_expr.specs.declared.draft.Draft.TheVariants as draft

abbrev pub drafted : Draft → Instr
drafted (draft.Small instruction) = instruction
drafted (draft.Load variable offset words) = instr.Load variable offset words
drafted (draft.Store variable offset words) = instr.Store variable offset words
drafted (draft.LoadIndexed variable offset words line) = instr.LoadIndexed variable offset words line
drafted (draft.StoreIndexed variable offset words line) = instr.StoreIndexed variable offset words line
drafted (draft.Zero variable) = instr.Zero variable
drafted (draft.Need variable) = instr.Need variable
drafted (draft.Fetch offset words) = instr.Fetch offset words
drafted (draft.Keep offset words) = instr.Keep offset words
drafted (draft.FetchIndexed offset words line) = instr.FetchIndexed offset words line
drafted (draft.KeepIndexed offset words line) = instr.KeepIndexed offset words line
drafted (draft.Jump place) = instr.Jump place
drafted (draft.JumpZero place) = instr.JumpZero place
drafted (draft.Return words) = instr.Return words
drafted (draft.ArgWords words) = instr.ArgWords words
drafted (draft.ArgVariable variable) = instr.ArgVariable variable
drafted (draft.Send member count) = instr.Send member count
drafted (draft.Post member count) = instr.Post member count
drafted (draft.SetVariable variable) = instr.SetVariable variable

abbrev pub Fits32 : ℕ → Type 0
Fits32 n = n < 2 ^ 32

-- Each number of a variable, of words or of a place has 32 bits.
abbrev pub InstrFits : Instr → Type 0
InstrFits (instr.Load variable offset words) = Fits32 variable × Fits32 offset × Fits32 words
InstrFits (instr.Store variable offset words) = Fits32 variable × Fits32 offset × Fits32 words
InstrFits (instr.LoadIndexed variable offset words line) = Fits32 variable × Fits32 offset × Fits32 words
InstrFits (instr.StoreIndexed variable offset words line) = Fits32 variable × Fits32 offset × Fits32 words
InstrFits (instr.Zero variable) = Fits32 variable
InstrFits (instr.Need variable) = Fits32 variable
InstrFits (instr.Fetch offset words) = Fits32 offset × Fits32 words
InstrFits (instr.Keep offset words) = Fits32 offset × Fits32 words
InstrFits (instr.FetchIndexed offset words line) = Fits32 offset × Fits32 words
InstrFits (instr.KeepIndexed offset words line) = Fits32 offset × Fits32 words
InstrFits (instr.Jump place) = Fits32 place
InstrFits (instr.JumpZero place) = Fits32 place
InstrFits (instr.Return words) = Fits32 words
InstrFits (instr.ArgWords words) = Fits32 words
InstrFits (instr.ArgVariable variable) = Fits32 variable
InstrFits (instr.Send member count) = Fits32 count
InstrFits (instr.Post member count) = Fits32 count
InstrFits (instr.SetVariable variable) = Fits32 variable
InstrFits other = Unit {0}
