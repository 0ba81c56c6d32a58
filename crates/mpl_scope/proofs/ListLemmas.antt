-- Lists that grow by what is left of others.
use Rattle.std.proofs.Common.{◌≡◌, List, ◌++◌, ap, ◌∙◌}
use Rattle.std.proofs.lemmas.List.{append_assoc}
use Rattle.mpl_ast.specs.declared.class.FieldName.{FieldName}
use Rattle.mpl_ast.specs.declared.statement.TypeName.{TypeName}
use Rattle.mpl_mean.specs.TypeRules.Types.{Declared, Role}

abbrev pub declared_name : Role → TypeName → FieldName → Declared
declared_name role type name = record { role = role; name = name.name.text; type = type; dimension = name.dimension }

-- one part more
pub grown : {X : Type 0} (now part rest total next : List X) → next ≡ now ++ part → now ++ (part ++ rest) ≡ total → next ++ rest ≡ total
grown now part rest total next is before = ap (λ xs. xs ++ rest) is ∙ append_assoc now part rest ∙ before
