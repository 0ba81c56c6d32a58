use Rattle.std.proofs.Common.{arith}
use Rattle.mpl_folds.proofs.Alone.{lone-is, lone-stuck}
use Rattle.mpl_folds.proofs.lone.lone_operand.Goals as goal

pub returns-then-start : goal.returns-then-start
returns-then-start c = λ stuck. lone-stuck c.args.start c.args.piece (omega arith)

pub returns : goal.returns
returns c =
    rw (c.one.ensures, c.place_to-6.ensures, c.one-tree-5.ensures, c.place_to-5.ensures, c.one-tree-4.ensures, c.place_to-4.ensures, c.one-tree-3.ensures, c.place_to-3.ensures, c.one-tree-2.ensures, c.place_to-2.ensures, c.one-tree.ensures, c.place_to.ensures, c.within-term.ensures, c.within-sum.ensures, c.within-relation.ensures, c.within-equality.ensures, c.within-conjunction.ensures)
    (lone-is c.args.start c.args.piece (omega arith))
