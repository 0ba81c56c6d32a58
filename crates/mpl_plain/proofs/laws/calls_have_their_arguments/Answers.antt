use Rattle.mpl_mean.proofs.Sizes.SizedPrograms.{well_program}
use Rattle.mpl_plain.proofs.FittingBodies.{function_fits, main_fits, numbered_fits, regular_fits}
use Rattle.mpl_plain.proofs.laws.calls_have_their_arguments.Goals as goal

pub returns-clause-main : goal.returns-clause-main
returns-clause-main c p typed = main_fits p.declarations (well_program p typed)

pub returns-clause-function : goal.returns-clause-function
returns-clause-function c p name f typed e = function_fits p.declarations (well_program p typed) name f e

pub returns-clause-regular : goal.returns-clause-regular
returns-clause-regular c p name member class m typed e regular found = regular_fits p.declarations (well_program p typed) name member class m e regular found

pub returns-clause-member : goal.returns-clause-member
returns-clause-member c p id found typed e = numbered_fits p.declarations (well_program p typed) id found e
