use Rattle.std.proofs.Common.{[], refl}
use Rattle.std.specs.FinMap.{empty}
use Rattle.mpl_mean.specs.Meaning.DirectRun.{main_start}
use Rattle.mpl_mean.specs.SmallPrograms.CallPrograms as programC
use Rattle.mpl_gen_laws.specs.Marks.{everywhere}
use Rattle.mpl_gen_laws.proofs.OpenedImages.{image_did, opened_image}
use Rattle.mpl_gen_laws.proofs.worked.images_call.Goals as goal

pub returns-clause-sum_of_squares : goal.returns-clause-sum_of_squares
unfolding opened_image
returns-clause-sum_of_squares c = image_did programC.sum_of_squares everywhere 200 (main_start []) empty 5 _ refl

pub returns-clause-a_turn_too_few : goal.returns-clause-a_turn_too_few
unfolding opened_image
returns-clause-a_turn_too_few c = image_did programC.sum_of_squares everywhere 200 (main_start []) empty 4 _ refl

pub returns-clause-one_result_twice : goal.returns-clause-one_result_twice
unfolding opened_image
returns-clause-one_result_twice c = image_did programC.one_result_twice everywhere 200 (main_start []) empty 5 _ refl

pub returns-clause-unforced_division : goal.returns-clause-unforced_division
unfolding opened_image
returns-clause-unforced_division c = image_did programC.unforced_division everywhere 200 (main_start []) empty 3 _ refl

pub returns-clause-forced_division : goal.returns-clause-forced_division
unfolding opened_image
returns-clause-forced_division c = image_did programC.forced_division everywhere 200 (main_start []) empty 3 _ refl

pub returns-clause-leftmost_trap_wins : goal.returns-clause-leftmost_trap_wins
unfolding opened_image
returns-clause-leftmost_trap_wins c = image_did programC.leftmost_trap_wins everywhere 200 (main_start []) empty 6 _ refl

pub returns-clause-goes_on_after_its_result : goal.returns-clause-goes_on_after_its_result
unfolding opened_image
returns-clause-goes_on_after_its_result c = image_did programC.goes_on_after_its_result everywhere 200 (main_start []) empty 7 _ refl
