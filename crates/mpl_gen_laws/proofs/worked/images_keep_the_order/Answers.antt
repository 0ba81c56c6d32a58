use Rattle.std.proofs.Common.{[], refl}
use Rattle.std.specs.FinMap.{empty}
use Rattle.mpl_mean.specs.Meaning.DirectRun.{main_start}
use Rattle.mpl_mean.specs.SmallPrograms.LoopPrograms as programL
use Rattle.mpl_mean.specs.SmallPrograms.OrderPrograms as programO
use Rattle.mpl_gen_laws.specs.Marks.{everywhere}
use Rattle.mpl_gen_laws.proofs.OpenedImages.{image_did, opened_image}
use Rattle.mpl_gen_laws.proofs.worked.images_keep_the_order.Goals as goal

pub returns-clause-parentheses_force : goal.returns-clause-parentheses_force
unfolding opened_image
returns-clause-parentheses_force c = image_did programO.parentheses_force everywhere 200 (main_start []) empty 3 _ refl

pub returns-clause-right_side_first : goal.returns-clause-right_side_first
unfolding opened_image
returns-clause-right_side_first c = image_did programO.right_side_first everywhere 200 (main_start []) empty 1 _ refl

pub returns-clause-receiver_first : goal.returns-clause-receiver_first
unfolding opened_image
returns-clause-receiver_first c = image_did programO.receiver_first everywhere 200 (main_start []) empty 1 _ refl

pub returns-clause-left_decides : goal.returns-clause-left_decides
unfolding opened_image
returns-clause-left_decides c = image_did programO.left_decides everywhere 200 (main_start []) empty 1 _ refl

pub returns-clause-inner_names : goal.returns-clause-inner_names
unfolding opened_image
returns-clause-inner_names c = image_did programO.inner_names everywhere 200 (main_start []) empty 3 _ refl

pub returns-clause-function_in_function : goal.returns-clause-function_in_function
unfolding opened_image
returns-clause-function_in_function c = image_did programO.function_in_function everywhere 200 (main_start []) empty 3 _ refl

pub returns-clause-quotient_to_zero : goal.returns-clause-quotient_to_zero
unfolding opened_image
returns-clause-quotient_to_zero c = image_did programO.quotient_to_zero everywhere 200 (main_start []) empty 1 _ refl

pub returns-clause-endless : goal.returns-clause-endless
unfolding opened_image
returns-clause-endless c = image_did programL.endless everywhere 200 (main_start []) empty 20 _ refl
