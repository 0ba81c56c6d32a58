use Rattle.std.proofs.Common.{◌-◌, arith, sym, take, ◌∙◌}
use Rattle.mpl_mean.specs.TypeRules.Types.{first_named}
use Rattle.mpl_scope.specs.SeenDeclared.{seen_declared}
use Rattle.mpl_scope.proofs.TableLemmas.{found_here, in_blocks, not_here, one_block}
use Rattle.mpl_scope.proofs.scope.local.Goals as goal

pub returns-then-is_some : goal.returns-then-is_some
returns-then-is_some c =
    let name = c.args.name.now in
    let blocks = c.args.blocks.now in
    let left = c.loop-left.left in
    let block = c.index-blocks-left.result in
    found_here seen_declared c.find-found.result (first_named name block) (in_blocks name (take (left - 1) blocks)) (sym c.is_some.ensures ∙ c.if-is_some.true) c.find-found.ensures
    ∙ sym (one_block name blocks (left - 1) left block (omega (arith, c.loop-left.invariant.within, c.loop-left-test.true)) (omega (arith, c.loop-left-test.true)) c.index-blocks-left.is)
    ∙ c.loop-left.invariant.same

pub loop-left-preserved : goal.loop-left-preserved
loop-left-preserved c =
    let name = c.args.name.now in
    let blocks = c.args.blocks.now in
    let left = c.loop-left.left in
    let block = c.index-blocks-left.result in
    record {
      within = omega (arith, c.loop-left.invariant.within);
      same =
          not_here seen_declared c.find-found.result (first_named name block) (in_blocks name (take (left - 1) blocks)) (sym c.is_some.ensures ∙ c.if-is_some.false) c.find-found.ensures
          ∙ sym (one_block name blocks (left - 1) left block (omega (arith, c.loop-left.invariant.within, c.loop-left-test.true)) (omega (arith, c.loop-left-test.true)) c.index-blocks-left.is)
          ∙ c.loop-left.invariant.same;
    }
