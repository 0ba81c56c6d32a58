use Rattle.std.proofs.Common.{[], ap, map, refl}
use Rattle.std.specs.FinMap.{empty}
use Rattle.mpl_mean.specs.Meaning.DirectRun.{main_start}
use Rattle.mdf_code.specs.declared.raw.RawImage.{RawImage}
use Rattle.mdf_code.specs.declared.raw.RawMember.{RawMember}
use Rattle.mpl_gen_laws.specs.MarkedSum.{marked_sum, results}
use Rattle.mpl_gen_laws.proofs.OpenedImages.{image_did, image_opens, opened_image}
use Rattle.mpl_gen_laws.proofs.worked.needs_stand_where_the_marks_are.Goals as goal

pub returns-clause-main : goal.returns-clause-main
unfolding opened_image
returns-clause-main c = ap (λ (image : RawImage). image.main.code) (image_opens marked_sum results)

pub returns-clause-members : goal.returns-clause-members
unfolding opened_image
returns-clause-members c = ap (λ (image : RawImage). map (λ (m : RawMember). m.body.code) image.members) (image_opens marked_sum results)

pub returns-clause-runs : goal.returns-clause-runs
unfolding opened_image
returns-clause-runs c = image_did marked_sum results 200 (main_start []) empty 5 _ refl
