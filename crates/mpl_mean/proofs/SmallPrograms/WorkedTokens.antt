-- Worked sources and their tokens.
use Rattle.std.proofs.Common.{◌≡◌, [], ◌∷◌, Ok, Err, refl}
use Rattle.std.specs.Prelude.{codes}
use Rattle.mpl_ast.specs.declared.token.TokenKind.TheVariants as kind
use Rattle.mpl_ast.specs.declared.token.Mark.TheVariants as m
use Rattle.mpl_mean.specs.Text.Lexemes.{tokens_of, BadByte, WideNumber, OpenComment}

comparison : tokens_of (codes "a<=b") ≡ Ok (record { kind = kind.Name (97 ∷ []); span = record { from = 0; to = 1 }; line = 1 } ∷ record { kind = kind.Mark m.LessEqual; span = record { from = 1; to = 3 }; line = 1 } ∷ record { kind = kind.Name (98 ∷ []); span = record { from = 3; to = 4 }; line = 1 } ∷ [])
comparison = refl

bad_byte : tokens_of (codes "int @") ≡ Err (BadByte, 4)
bad_byte = refl

wide : tokens_of (codes "print(9223372036854775808);") ≡ Err (WideNumber, 6)
wide = refl

open_comment : tokens_of (codes "{ /*/") ≡ Err (OpenComment, 2)
open_comment = refl
