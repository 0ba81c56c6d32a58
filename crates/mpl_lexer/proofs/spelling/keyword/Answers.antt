use Rattle.std.proofs.Common.{◌∙◌}
use Rattle.std.specs.Str.{bytes_eq}
use Rattle.mpl_mean.specs.Text.TokenTable.{keywords, keyword_spelling}
use Rattle.mpl_lexer.proofs.Candidates.{found_among}
use Rattle.mpl_lexer.proofs.spelling.keyword.Goals as goal

pub returns : goal.returns
returns c =
    let first = c.in_ok-first.first.now in
    let rest = c.in_ok-first.field-0-1.now in
    c.spelled.ensures ∙ found_among (λ k text. bytes_eq (keyword_spelling k) text) c.args.text.now first rest keywords c.keywords_from.result.now c.in_ok-first.ensures.cases.0 c.keywords_from.ensures
