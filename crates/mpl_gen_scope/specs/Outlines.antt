-- The type of what a function answers.
use Rattle.mpl_ast.specs.declared.statement.TypeName.{TypeName}
use Rattle.mpl_mean.specs.Meaning.Layout.{Function}

abbrev pub result_of : Function → TypeName
result_of f = f.result
