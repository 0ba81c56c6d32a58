use Rattle.std.proofs.Common.{◌≡◌, ◌+◌, ◌-◌, count_by, drop, take, subst, ap, ◌∙◌, arith, Option}
use Rattle.std.proofs.lemmas.Result.{err_from_is_err_and}
use Rattle.mpl_mean.specs.Text.Lexemes.{is_line_feed}
use Rattle.mpl_ast.specs.declared.token.TokenKind.{TokenKind}
use Rattle.mpl_lexer.specs.Lexing.{IsLexeme, lexeme_of}
use Rattle.mpl_lexer.proofs.OneLine.{LoopKeeps-token}
use Rattle.mpl_lexer.proofs.Steps.{LoopKeeps-gap, LoopKeeps-fault}
use Rattle.mpl_lexer.proofs.lexer.lex.Goals as goal

pub returns-in_err-length-clause-fault : goal.returns-in_err-length-clause-fault
returns-in_err-length-clause-fault c =
    let p = err_from_is_err_and c.from_residual.result c.from_residual.ensures.1 in
    rw (p.1, p.2)
    (LoopKeeps-fault c.args.source.now c.loop-at.at c.loop-at.line c.loop-at.list c.in_err-length.field-0.0 c.loop-at.invariant c.loop-at-test.true c.in_err-length.ensures.exact)

pub loop-at-preserved-in_ok-push : goal.loop-at-preserved-in_ok-push
loop-at-preserved-in_ok-push c =
    let source = c.args.source.now in
    let at = c.loop-at.at in
    let n = c.in_ok-length.field-0.length in
    let within = c.in_ok-length.ensures.within in
    let there = subst (λ (k : Option TokenKind). IsLexeme n k (lexeme_of (drop at source))) c.in-Some.is c.in_ok-length.ensures.exact in
    rw (c.in_ok-push.ensures.ok)
    (LoopKeeps-token source at c.loop-at.line c.loop-at.list n c.in-Some.kind c.loop-at.invariant within.0 within.1 there)

pub loop-at-preserved : goal.loop-at-preserved
loop-at-preserved c =
    let source = c.args.source.now in
    let at = c.loop-at.at in
    let line = c.loop-at.line in
    let n = c.in_ok-length.field-0.length in
    let within = c.in_ok-length.ensures.within in
    let length : (at + n) - at ≡ n = omega arith in
    let feeds : c.line_feeds.result ≡ count_by is_line_feed (take n (drop at source)) =
    c.line_feeds.ensures ∙ ap (λ k. count_by is_line_feed (take k (drop at source))) length in
    let there = subst (λ (k : Option TokenKind). IsLexeme n k (lexeme_of (drop at source))) c.in_default.is c.in_ok-length.ensures.exact in
    rw (feeds) (LoopKeeps-gap source at line c.loop-at.list n c.loop-at.invariant within.0 within.1 there)
