use Rattle.std.proofs.Common.{sym, subst, ◌∙◌}
use Rattle.std.specs.List.{Contains}
use Rattle.std.specs.List.Sorted.{IsStrictlyIncreasing}
use Rattle.mpl_depend.proofs.Found.{found_there, there_found}
use Rattle.mpl_depend.proofs.pend_map.PendMap.has.Goals as goal

pub returns-clause-sound : goal.returns-clause-sound
returns-clause-sound c = λ is.
    subst (λ xs. Contains xs c.args.node) (c.as_slice.ensures.value ∙ c.self.view_is)
    (found_there c.as_slice.result.now c.args.node c.binary_search.result (subst (λ xs. IsStrictlyIncreasing xs) (sym c.as_slice.ensures.value) c.self.invariant) c.binary_search.ensures.position (sym c.is_ok.ensures.value ∙ is))

pub returns-clause-complete : goal.returns-clause-complete
returns-clause-complete c = λ there.
    c.is_ok.ensures.value
    ∙ there_found c.as_slice.result.now c.args.node c.binary_search.result (subst (λ xs. IsStrictlyIncreasing xs) (sym c.as_slice.ensures.value) c.self.invariant) c.binary_search.ensures.position
    (subst (λ xs. Contains xs c.args.node) (sym (c.as_slice.ensures.value ∙ c.self.view_is)) there)
