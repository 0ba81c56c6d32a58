-- What the body of a function or a member sees.
use Rattle.std.specs.Prelude.{◌≡◌, Bool, false, List, [], codes, map, Option}
use Rattle.std.specs.Borrow.{Bor}
use Rattle.std.specs.Str.{bytes_eq}
use Rattle.mpl_ast.specs.declared.class.Formal.{Formal}
use Rattle.mpl_ast.specs.declared.program.Declaration.{Declaration}
use Rattle.mpl_ast.specs.declared.program.Declaration.TheVariants as declaration
use Rattle.mpl_ast.specs.declared.statement.Statement.{Statement}
use Rattle.mpl_mean.specs.Meaning.BodyMeaning.{of_object}
use Rattle.mpl_mean.specs.Meaning.Layout.{Class, parts_of}
use Rattle.mpl_mean.specs.Plain.Scopes.{Env, formal_shape}
use Rattle.mpl_body_image.specs.Internal.SeenScope.{members_seen, parts_seen}
use Rattle.mpl_body_image.specs.declared.scope.Object.{Object}

abbrev pub env_with : List Declaration → Option (Bor Object) → List Formal → Env
env_with ds object formals = record { declarations = ds; members = members_seen object; parts = parts_seen object; scope = map formal_shape formals }

-- the members of a class see what its objects have
pub record Sees (ds : List Declaration) (object : Option (Bor Object)) (class : Class) : Type 0 where
  pub members : members_seen object ≡ of_object class class.members
  pub parts : parts_seen object ≡ of_object class (parts_of ds class.state)

abbrev pub is_main : Declaration → Bool
is_main (declaration.Struct at line name fields) = false
is_main (declaration.Class at line kind name items) = false
is_main (declaration.Function at result name formals body) = bytes_eq name.text (codes "main")

abbrev pub statements_in : Declaration → List Statement
statements_in (declaration.Struct at line name fields) = []
statements_in (declaration.Class at line kind name items) = []
statements_in (declaration.Function at result name formals body) = body.statements
