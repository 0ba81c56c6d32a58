use Rattle.std.proofs.Common.{arith}
use Rattle.mpl_mean.proofs.Lists.{next_left, none_left}
use Rattle.mpl_depend.specs.Internal.Bodies.{function_row}
use Rattle.mpl_depend.proofs.Marking.{row_ends, row_goes_on}
use Rattle.mpl_depend.proofs.bodies.mark_functions.Goals as goal

pub loop-declaration-preserved : goal.loop-declaration-preserved
loop-declaration-preserved c =
    let list = c.args.declarations.now in
    let i = c.loop-declaration.declaration-index in
    let x = c.declaration-item.result in
    row_goes_on (function_row c.args.known.now) list i x c.args.marks.now.items c.loop-declaration.marks.items c.mark_function.new.marks.items (next_left list i x (omega arith) c.declaration-item.is) c.loop-declaration.invariant c.in_ok-mark_function.ensures

pub returns : goal.returns
returns c =
    let list = c.args.declarations.now in
    let i = c.loop-declaration.declaration-index in
    row_ends (function_row c.args.known.now) list i c.args.marks.now.items c.loop-declaration.marks.items (none_left list i (omega arith)) c.loop-declaration.invariant
