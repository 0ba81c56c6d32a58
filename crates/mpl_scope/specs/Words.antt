-- Counts of words, as far as a limit can tell.
use Rattle.std.specs.Prelude.{ℕ, List, min, sum_by}
use Rattle.mpl_ast.specs.declared.class.FieldName.{FieldName}
use Rattle.mpl_ast.specs.declared.program.Declaration.{Declaration}
use Rattle.mpl_mean.specs.Meaning.Layout.{dimension_of, words_of_word}
use Rattle.mpl_mean.specs.TypeRules.Types.{Declared, meant, words_of_state_member}

-- counts above the greatest limit are one
abbrev pub told : ℕ → ℕ
told n = min n 1025

abbrev pub words_of_field : List FieldName → ℕ
words_of_field names = sum_by (λ (name : FieldName). words_of_word (dimension_of name.dimension)) names

abbrev pub words_of_state_list : List Declaration → List Declared → ℕ
words_of_state_list ds members = sum_by (λ (d : Declared). words_of_state_member (meant ds d.type) (dimension_of d.dimension)) members
