use Rattle.std.proofs.Common.{[], ◌∷◌, negsuc, refl}
use Rattle.std.specs.FinMap.{empty}
use Rattle.mpl_mean.specs.Meaning.DirectRun.{main_start}
use Rattle.mpl_mean.specs.SmallPrograms.TrapPrograms as programT
use Rattle.mpl_gen_laws.specs.Marks.{everywhere}
use Rattle.mpl_gen_laws.proofs.OpenedImages.{image_did, opened_image}
use Rattle.mpl_gen_laws.proofs.worked.images_trap.Goals as goal

pub returns-clause-overflow : goal.returns-clause-overflow
unfolding opened_image
returns-clause-overflow c = image_did programT.too_large everywhere 200 (main_start []) empty 1 _ refl

pub returns-clause-index : goal.returns-clause-index
unfolding opened_image
returns-clause-index c = image_did programT.index_outside everywhere 200 (main_start []) empty 1 _ refl

pub returns-clause-unbound : goal.returns-clause-unbound
unfolding opened_image
returns-clause-unbound c = image_did programT.no_object everywhere 200 (main_start []) empty 1 _ refl

pub returns-clause-no_input : goal.returns-clause-no_input
unfolding opened_image
returns-clause-no_input c = image_did programT.asks_for_input everywhere 200 (main_start []) empty 1 _ refl

pub returns-clause-input : goal.returns-clause-input
unfolding opened_image
returns-clause-input c = image_did programT.asks_for_input everywhere 200 (main_start (negsuc 6 ∷ [])) empty 1 _ refl

pub returns-clause-no_reply_forced : goal.returns-clause-no_reply_forced
unfolding opened_image
returns-clause-no_reply_forced c = image_did programT.no_result everywhere 200 (main_start []) empty 3 _ refl

pub returns-clause-no_reply_of_a_function : goal.returns-clause-no_reply_of_a_function
unfolding opened_image
returns-clause-no_reply_of_a_function c = image_did programT.function_without_result everywhere 200 (main_start []) empty 2 _ refl
