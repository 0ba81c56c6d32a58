-- What a scope and a place in it stand for.
use Rattle.std.specs.Prelude.{List, [], option_map}
use Rattle.mpl_ast.specs.declared.class.Item.{Item}
use Rattle.mpl_ast.specs.declared.program.Declaration.{Declaration}
use Rattle.mpl_mean.specs.Meaning.Layout.{parts_of, state_of}
use Rattle.mpl_mean.specs.Plain.Scopes.{Env, Shape}
use Rattle.mpl_depend.specs.Internal.SeenClass.{items_seen}
use Rattle.mpl_locals.specs.SeenLocals.{slot_seen}
use Rattle.mpl_depend.specs.Internal.Sights.{Sight}
use Rattle.mpl_depend.specs.declared.scope.Found.{Found}
use Rattle.mpl_depend.specs.declared.scope.Scope.{Scope}

-- no way through a body asks for the members that are called
abbrev pub env_of : List Declaration → List Item → List Shape → Env
env_of ds items scope = record { declarations = ds; members = []; parts = parts_of ds (state_of items); scope = scope }

abbrev pub env_seen : Scope → Env
env_seen s = env_of s.known.now (items_seen s.object) s.locals

abbrev pub found_seen : Found → Sight
found_seen f = record { slot = option_map slot_seen f.slot; type = f.type_name.now; is_whole = f.is_whole }
