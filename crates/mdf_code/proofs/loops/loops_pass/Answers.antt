use Rattle.std.proofs.Common.{◌∙◌, rules}
use Rattle.mdf_code.proofs.MarkedPlaces.{none_are_right}
use Rattle.mdf_code.proofs.loops.loops_pass.Goals as goal

pub marks_all-requires-clause-same : goal.marks_all-requires-clause-same
marks_all-requires-clause-same c = search rules

pub marks_all-requires-clause-right : goal.marks_all-requires-clause-right
marks_all-requires-clause-right c =
    none_are_right _ _ (search rules) (c.as_mut_slice.ensures.value ∙ c.in_ok-marked.ensures.items_if_clones_equal (λ y is. is))
