use Rattle.std.proofs.Common.{ap, reverse, sym, ◌∙◌}
use Rattle.std.specs.Prelude.{flat_map}
use Rattle.mpl_mean.specs.TypeRules.Scopes.{state_members}
use Rattle.mpl_mean.specs.TypeRules.Types.{first_named}
use Rattle.mpl_scope.specs.First.{or_else}
use Rattle.mpl_scope.specs.SeenDeclared.{seen_declared}
use Rattle.mpl_scope.specs.SeenScope.{seen_if_any}
use Rattle.mpl_scope.proofs.TableLemmas.{found_here, found_in_three, in_blocks, not_here}
use Rattle.mpl_scope.proofs.scope.variable.Goals as goal

pub returns-then-is_some : goal.returns-then-is_some
returns-then-is_some c =
    let name = c.args.name.now in
    let locals = flat_map (λ block. block) (reverse c.args.scope.now.blocks.items) in
    let formals = c.args.scope.now.formals in
    let state = state_members (seen_if_any c.args.scope.now.class) in
    found_here seen_declared c.local-local.result (first_named name locals) (or_else (first_named name formals) (first_named name state)) (sym c.is_some.ensures ∙ c.if-is_some.true)
    (c.local-local.ensures ∙ ap (in_blocks name) c.as_slice.ensures.value)
    ∙ sym (found_in_three name locals formals state)

pub returns-then-is_some-2 : goal.returns-then-is_some-2
returns-then-is_some-2 c =
    let name = c.args.name.now in
    let locals = flat_map (λ block. block) (reverse c.args.scope.now.blocks.items) in
    let formals = c.args.scope.now.formals in
    let state = state_members (seen_if_any c.args.scope.now.class) in
    found_here seen_declared c.find-formal.result (first_named name formals) (first_named name state) (sym c.is_some-2.ensures ∙ c.if-is_some-2.true) c.find-formal.ensures
    ∙ not_here seen_declared c.local-local.result (first_named name locals) (or_else (first_named name formals) (first_named name state)) (sym c.is_some.ensures ∙ c.if-is_some.false)
    (c.local-local.ensures ∙ ap (in_blocks name) c.as_slice.ensures.value)
    ∙ sym (found_in_three name locals formals state)

pub returns : goal.returns
returns c =
    let name = c.args.name.now in
    let locals = flat_map (λ block. block) (reverse c.args.scope.now.blocks.items) in
    let formals = c.args.scope.now.formals in
    let state = state_members (seen_if_any c.args.scope.now.class) in
    c.state_member.ensures
    ∙ not_here seen_declared c.find-formal.result (first_named name formals) (first_named name state) (sym c.is_some-2.ensures ∙ c.if-is_some-2.false) c.find-formal.ensures
    ∙ not_here seen_declared c.local-local.result (first_named name locals) (or_else (first_named name formals) (first_named name state)) (sym c.is_some.ensures ∙ c.if-is_some.false)
    (c.local-local.ensures ∙ ap (in_blocks name) c.as_slice.ensures.value)
    ∙ sym (found_in_three name locals formals state)
