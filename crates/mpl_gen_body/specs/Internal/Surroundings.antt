-- What surrounds the statements of a body, as far as it is known of its declaration.
use Rattle.std.specs.Prelude.{◌≡◌, ℕ, Bool, List, map}
use Rattle.mpl_ast.specs.declared.class.Formal.{Formal}
use Rattle.mpl_ast.specs.declared.program.Declaration.{Declaration}
use Rattle.mpl_ast.specs.declared.statement.Block.{Block}
use Rattle.mpl_mean.specs.Meaning.BodyMeaning.{of_object}
use Rattle.mpl_mean.specs.Meaning.Layout.{Class, Function, parts_of}
use Rattle.mpl_gen_code.specs.ProgramImage.{body_env}
use Rattle.mpl_gen_code.specs.Scopes.{Env, Finish}
use Rattle.mpl_layout.specs.SeenParts.{part_seen}
use Rattle.mpl_gen_scope.specs.SeenScope.{members_seen}
use Rattle.mpl_gen_body.specs.declared.bodies.Object.{Object}

abbrev pub env_with : List Declaration → (ℕ → Bool) → Finish → Object → List Formal → Env
env_with ds marks finish object formals =
    record (body_env ds marks finish formals) { members = members_seen object.class; parts = map part_seen object.parts.now }

-- the members of a class see what its objects have
pub record Sees (ds : List Declaration) (object : Object) (class : Class) : Type 0 where
  pub members : members_seen object.class ≡ of_object class class.members
  pub parts : map part_seen object.parts.now ≡ of_object class (parts_of ds class.state)

abbrev pub block_of : Function → Block
block_of f = f.body
