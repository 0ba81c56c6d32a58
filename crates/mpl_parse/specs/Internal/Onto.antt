-- A tree is taken and put behind those of a list.
use Rattle.std.specs.Prelude.{◌≡◌, Bool, true, false, List, [], ◌∷◌, ◌++◌, Option, Some, None, Result, Ok, Err}
use Rattle.std.specs.Option.{option_map}
use Rattle.mpl_ast.specs.declared.token.Keyword.TheVariants as word
use Rattle.mpl_ast.specs.declared.token.Mark.TheVariants as m
use Rattle.mpl_ast.specs.declared.token.TokenKind.{TokenKind}
use Rattle.mpl_ast.specs.declared.token.TokenKind.TheVariants as kind
use Rattle.mpl_mean.specs.Text.Reading.{Rest}
use Rattle.mpl_trees.specs.Taking.{Takes}
use Rattle.mpl_reader.specs.Reader.{most_number}
use Rattle.mpl_reader.specs.declared.stop.Stop.{Stop}
use Rattle.mpl_reader.specs.declared.stop.Stop.TheVariants.{Stuck}

abbrev pub put : {A : Type 0} → List A → Option (A × Rest) → Option (List A × Rest)
put list taken = option_map (λ p. (list ++ p.0 ∷ [], p.1)) taken

-- What was taken is the last of the list.
abbrev pub TookOnto : {A : Type 0} → Takes A → Rest → List A → Result (Unit {0}) Stop → Rest → List A → Type 0
TookOnto take before list (Ok u) after new = put list (take most_number before) ≡ Some (new, after)
TookOnto take before list (Err e) after new = e ≡ Stuck → take most_number before ≡ None

-- no word or brace with which a statement begins that has statements in it
abbrev pub is_plain : Option TokenKind → Bool
is_plain (Some (kind.Keyword word.If)) = false
is_plain (Some (kind.Keyword word.While)) = false
is_plain (Some (kind.Keyword word.For)) = false
is_plain (Some (kind.Mark m.OpenBrace)) = false
is_plain _ = true
