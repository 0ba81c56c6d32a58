-- The code of a program yields what its bodies mean.
use Rattle.std.proofs.Common.{◌≡◌, ℕ, Bool, [], Option, Some, None, refl, ap, sym, subst, ◌∙◌}
use Rattle.std.specs.FinMap.{FinMap}
use Rattle.std.specs.Ordering.{nat_cmp}
use Rattle.std.specs.Prelude.{codes}
use Rattle.mpl_ast.specs.declared.program.Program.{Program}
use Rattle.mpl_value.specs.declared.body.BodyStart.{BodyStart}
use Rattle.mpl_value.specs.declared.body.MemberId.{MemberId}
use Rattle.mpl_value.specs.declared.body.Yield.{Yield}
use Rattle.mpl_value.specs.declared.known.Known.{Known}
use Rattle.mpl_mean.specs.Laws.Sizes.{CallReplyFits, Every, MemberFits, StartFits, WordsFit, member_of_id}
use Rattle.mpl_mean.specs.Meaning.BodyMeaning.{callees_at, context_with, main_yield, member_of_classes, store_with}
use Rattle.mpl_mean.specs.Meaning.Context.{Context}
use Rattle.mpl_mean.specs.Meaning.Layout.{Class, Member, classes_of, function_named}
use Rattle.mpl_mean.specs.Plain.Stmt.{Stmts}
use Rattle.mdf_code.specs.Yields.{YieldsUnstrayed}
use Rattle.mpl_checked.specs.Checked.CheckedBodies.{checked_body, checked_callees_at, checked_of_class, checked_run, checked_yield}
use Rattle.mpl_checked.specs.Checked.CheckedSteps.{Checking, Meant, unless_astray}
use Rattle.mpl_gen_code.specs.ProgramFits.{ProgramFits}
use Rattle.mpl_gen_code.specs.ProgramImage.{image_of}
use Rattle.mpl_gen_code.proofs.Compiling.{id_same, image_compiled}
use Rattle.mpl_gen_code.proofs.Yielding.{main_same, main_yields, member_yields}

module _ (p : Program) (marks : ℕ → Bool) (fits : ProgramFits p.declarations marks) (start : BodyStart) (replies : FinMap nat_cmp Known) (turns : ℕ) (y : Yield) (promised : Every (CallReplyFits p.declarations replies) y.calls) where
  abbrev checking : Checking
  checking = record { marks = marks; callees = checked_callees_at marks turns p.declarations turns replies }

  abbrev context : Context
  context = context_with p.declarations turns replies (callees_at turns p.declarations turns replies)

  -- a start with this member
  abbrev at : Option MemberId → BodyStart
  at o = record start { member = o }

  of_main : WordsFit p.declarations start None → checked_body checking context start None ≡ Meant y → YieldsUnstrayed (image_of p marks) (at None) replies turns y
  of_main words e =
      main_yields (image_of p marks) p.declarations marks (image_compiled p marks) fits replies turns y promised refl start words.0
      (subst (λ (stmts : Stmts). unless_astray main_yield (checked_run checking (record context { number = start.number }) stmts (store_with [] start.state start.input 0)) ≡ Meant y)
      (sym (main_same (function_named (codes "main") p.declarations))) e)

  of_found : (id : MemberId) (found : Option (Class × Member)) → member_of_id p.declarations id ≡ found → MemberFits p.declarations start found → checked_of_class checking context start found ≡ Meant y
      → YieldsUnstrayed (image_of p marks) (at (Some id)) replies turns y
  of_found id None is words e = absurd words
  of_found id (Some found) is words e =
      let same = id_same p id.0 found.0 found.1 is in
      subst (λ n. YieldsUnstrayed (image_of p marks) (at (Some (record { 0 = n }))) replies turns y) same
      (member_yields (image_of p marks) p.declarations marks (image_compiled p marks) fits replies turns y promised start found.0 found.1
      (record { found = ap (λ n. member_of_classes n (classes_of p.declarations)) same ∙ is }) words e)

  by_member : (o : Option MemberId) → WordsFit p.declarations start o → checked_body checking context start o ≡ Meant y → YieldsUnstrayed (image_of p marks) (at o) replies turns y
  by_member None words e = of_main words e
  by_member (Some id) words e = of_found id (member_of_id p.declarations id) refl words e

  pub program_yields : StartFits p start → checked_yield marks p start replies turns ≡ Meant y → YieldsUnstrayed (image_of p marks) start replies turns y
  program_yields fit e = by_member start.member fit.words e
