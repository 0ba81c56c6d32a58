use Rattle.std.proofs.Common.{◌≡◌, ◌∷◌, ap, ◌∙◌, arith}
use Rattle.mpl_trees.specs.Ahead.{count, counted}
use Rattle.mpl_expressions.proofs.Sums.{none}
use Rattle.mpl_expressions.proofs.lead.Scan.step.Goals as goal

pub returns-in-End-clause-scanned : goal.returns-in-End-clause-scanned
returns-in-End-clause-scanned c =
    let s = c.args.self.now in
    λ t ts e. omega (arith, none s.lowest c.args.level (λ n. count n s.position (t ∷ ts)) (λ n. ap (λ k. counted n k s.position (λ q. count n q ts)) e ∙ c.in-End.ensures.step n (λ q. count n q ts)))
