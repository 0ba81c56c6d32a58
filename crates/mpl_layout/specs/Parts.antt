-- Words and parts of fields, as far as a loop over them has come.
use Rattle.std.specs.Prelude.{ℕ, ◌+◌, List, ◌++◌, sum_by}
use Rattle.mpl_ast.specs.declared.class.Field.{Field}
use Rattle.mpl_ast.specs.declared.class.FieldName.{FieldName}
use Rattle.mpl_ast.specs.declared.program.Declaration.{Declaration}
use Rattle.mpl_ast.specs.declared.statement.TypeName.{TypeName}
use Rattle.mpl_mean.specs.Meaning.Layout.{Part, dimension_of, parts_from, parts_of_names, words_of_parts, words_of_word}

abbrev pub words_of_field : List FieldName → ℕ
words_of_field names = sum_by (λ (name : FieldName). words_of_word (dimension_of name.dimension)) names

-- these parts, and from an offset on those of the names of a field and of further fields
abbrev pub parts_with : List Declaration → TypeName → List Part → ℕ → List FieldName → List Field → List Part
parts_with ds type parts offset names fields =
    parts ++ (parts_of_names ds type offset names ++ parts_from ds (offset + words_of_parts (parts_of_names ds type offset names)) fields)
