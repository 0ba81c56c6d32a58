-- What a scope and a place in it stand for.
use Rattle.std.specs.Prelude.{List, [], map, option_map, Option, Some, None}
use Rattle.std.specs.Borrow.{Bor}
use Rattle.mpl_mean.specs.Meaning.Layout.{Member, Part}
use Rattle.mpl_mean.specs.Plain.Scopes as code
use Rattle.mpl_layout.specs.SeenClasses.{class_seen}
use Rattle.mpl_locals.specs.SeenLocals.{slot_seen}
use Rattle.mpl_layout.specs.SeenParts.{part_seen}
use Rattle.mpl_body_image.specs.declared.found.Found.{Found}
use Rattle.mpl_body_image.specs.declared.scope.Object.{Object}
use Rattle.mpl_body_image.specs.declared.scope.Scope.{Scope}

abbrev pub members_seen : Option (Bor Object) → List Member
members_seen None = []
members_seen (Some object) = (class_seen object.now.class).members

abbrev pub parts_seen : Option (Bor Object) → List Part
parts_seen None = []
parts_seen (Some object) = map part_seen object.now.parts.items

abbrev pub env_seen : Scope → code.Env
env_seen s = record { declarations = s.outline.now; members = members_seen s.object; parts = parts_seen s.object; scope = s.locals }

abbrev pub found_seen : Found → code.Found
found_seen f = record { slot = option_map slot_seen f.slot; offset = f.offset; words = f.words; type = f.type_name.now; is_whole = f.is_whole }
