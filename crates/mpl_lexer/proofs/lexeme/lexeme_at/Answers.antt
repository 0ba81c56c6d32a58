use Rattle.std.proofs.Common.{◌-◌, List, ℕ, length, drop, subst, arith}
use Rattle.std.proofs.lemmas.List.{take_all, length-drop}
use Rattle.mpl_lexer.specs.Lexing.{IsFound, lexeme_of}
use Rattle.mpl_lexer.proofs.Words.{IsFound-within}
use Rattle.mpl_lexer.proofs.lexeme.lexeme_at.Goals as goal

pub returns-clause-within : goal.returns-clause-within
returns-clause-within c =
    let source = c.args.source.now in
    let at = c.args.at in
    let rest = take_all (length source - at) (drop at source) (omega (arith, length-drop at source)) in
    let there = subst (λ (bytes : List ℕ). IsFound at c.front.result (lexeme_of bytes)) rest c.front.ensures in
    IsFound-within at c.front.result source at (omega arith) there
