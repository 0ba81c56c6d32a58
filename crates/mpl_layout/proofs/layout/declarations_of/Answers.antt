use Rattle.std.proofs.Common.{ap, subst, sym, ◌∙◌}
use Rattle.mpl_ast.specs.declared.program.Program.{Program}
use Rattle.mpl_layout.specs.Bounds.{Bounded}
use Rattle.mpl_layout.proofs.Bounds.{acceptable_bounded}
use Rattle.mpl_layout.proofs.layout.declarations_of.Goals as goal

pub returns-clause-are : goal.returns-clause-are
returns-clause-are c = c.as_slice.ensures ∙ ap (λ (p : Program). p.declarations) c.program-program.ensures.same

pub returns-clause-bounded : goal.returns-clause-bounded
returns-clause-bounded c = subst Bounded (sym c.as_slice.ensures) (acceptable_bounded c.program-program.result.now c.program-program.ensures.accepted)
