use Rattle.mpl_mean.specs.Meaning.Layout.{classes_of}
use Rattle.mpl_gen_code.specs.ProgramImage.{selects_of}
use Rattle.mpl_gen_laws.proofs.NeededBodies.{functions_counted, main_counted, members_counted}
use Rattle.mpl_gen_laws.proofs.NeededGuards.{guards_free}
use Rattle.mpl_gen_laws.proofs.laws.needs_are_the_marked_uses.Goals as goal

pub returns-clause-main : goal.returns-clause-main
returns-clause-main c = main_counted

pub returns-clause-functions : goal.returns-clause-functions
returns-clause-functions c = functions_counted

pub returns-clause-members : goal.returns-clause-members
returns-clause-members c = members_counted

pub returns-clause-guards : goal.returns-clause-guards
returns-clause-guards c p marks = guards_free p.declarations (classes_of p.declarations) (selects_of p.declarations)
