use Rattle.std.proofs.Common.{◌≡◌, ◌+◌, ◌-◌, get_or, Some, sym, ap, ◌∙◌, arith}
use Rattle.mpl_lexer.proofs.Comments.{comment_rest_found, comment_rest_none}
use Rattle.mpl_lexer.proofs.scan.comment_rest.Goals as goal

pub returns-then-bytes-i-eq47-clause-exact : goal.returns-then-bytes-i-eq47-clause-exact
returns-then-bytes-i-eq47-clause-exact c =
    let i = c.loop-i.i in
    let bytes = c.args.bytes.now in
    let same : i ≡ (i - 1) + 1 = omega arith in
    let slash : get_or bytes ((i - 1) + 1) 0 ≡ 47 = ap (λ k. get_or bytes k 0) (sym same) ∙ c.if-bytes-i-eq47.true in
    let found = comment_rest_found bytes (i - 1) (omega arith) c.if-bytes-i-eq42.true slash (λ k below. c.loop-i.invariant k (omega arith)) in
    ap Some (omega arith) ∙ sym found

pub returns-clause-exact : goal.returns-clause-exact
returns-clause-exact c = sym (comment_rest_none c.args.bytes.now (λ k below. c.loop-i.invariant k (omega arith)))
