use Rattle.std.proofs.Common.{◌≡◌, true, Some, rules, ap, subst}
use Rattle.mpl_ast.specs.declared.token.TokenKind.TheVariants as kind
use Rattle.mpl_trees.specs.Statements.{statement_at}
use Rattle.mpl_trees.specs.Taking.{ahead}
use Rattle.mpl_reader.specs.Reader.{most_number, rest_of}
use Rattle.mpl_expressions.proofs.Alike.{took_alike}
use Rattle.mpl_parse.specs.Internal.Forms.{statement_of}
use Rattle.mpl_parse.specs.Internal.Onto.{is_plain}
use Rattle.mpl_parse.proofs.simple.plain.Goals as goal

pub returns-in-Keyword : goal.returns-in-Keyword
returns-in-Keyword c = λ statement h.
    let r = rest_of c.args.reader.now in
    let e : ahead c.args.reader.now.left.now ≡ Some (kind.Keyword c.in-Keyword.word) = search rules in
    took_alike (statement_of c.args.depth statement) (statement_at c.args.depth statement (Some (kind.Keyword c.in-Keyword.word))) r c.worded.result (rest_of c.worded.new.reader)
    (ap (λ o. statement_at c.args.depth statement o most_number r) e) (c.worded.ensures statement (subst (λ o. is_plain o ≡ true) e h))
