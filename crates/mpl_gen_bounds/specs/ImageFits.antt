-- Images whose numbers have 32 bits, and priorities 8.
use Rattle.std.specs.Prelude.{◌<◌, List, Option, Some, None}
use Rattle.mpl_mean.specs.Laws.Sizes.{Every}
use Rattle.mdf_code.specs.declared.instr.Instr.{Instr}
use Rattle.mdf_code.specs.declared.raw.RawCode.{RawCode}
use Rattle.mdf_code.specs.declared.raw.RawEntry.{RawEntry}
use Rattle.mdf_code.specs.declared.raw.RawFunction.{RawFunction}
use Rattle.mdf_code.specs.declared.raw.RawImage.{RawImage}
use Rattle.mdf_code.specs.declared.raw.RawMember.{RawMember}
use Rattle.mpl_gen_expr.specs.Drafts.{Fits32, InstrFits}

pub record CodeFits (body : RawCode) : Type 0 where
  pub vars : Every Fits32 body.vars
  pub code : Every InstrFits body.code

pub record FunctionFits (f : RawFunction) : Type 0 where
  pub formals : Fits32 f.formals
  pub body : CodeFits f.body

pub record MemberFits (m : RawMember) : Type 0 where
  pub formals : Fits32 m.formals
  pub body : CodeFits m.body

abbrev pub GuardFits : Option (List Instr) → Type 0
GuardFits None = Unit {0}
GuardFits (Some code) = Every InstrFits code

pub record EntryFits (e : RawEntry) : Type 0 where
  pub priority : e.priority < 256
  pub guard : GuardFits e.guard

pub record ImageFits (image : RawImage) : Type 0 where
  pub functions : Every FunctionFits image.functions
  pub members : Every MemberFits image.members
  pub entries : Every EntryFits image.entries
  pub main : CodeFits image.main
