-- What a scope and a place in it stand for.
use Rattle.std.specs.Prelude.{List, [], map, option_map, Option, Some, None}
use Rattle.mpl_mean.specs.Meaning.Layout.{Member}
use Rattle.mpl_gen_code.specs.Scopes as code
use Rattle.mpl_layout.specs.SeenClasses.{class_seen}
use Rattle.mpl_gen_scope.specs.SeenLocals.{slot_seen}
use Rattle.mpl_gen_scope.specs.SeenMarks.{marked}
use Rattle.mpl_layout.specs.SeenParts.{part_seen}
use Rattle.mpl_layout.specs.declared.class.Class.{Class}
use Rattle.mpl_gen_scope.specs.declared.found.Found.{Found}
use Rattle.mpl_gen_scope.specs.declared.scope.Finish.{Finish}
use Rattle.mpl_gen_scope.specs.declared.scope.Finish.TheVariants as finish
use Rattle.mpl_gen_scope.specs.declared.scope.Scope.{Scope}

abbrev pub finish_seen : Finish → code.Finish
finish_seen (finish.OfBody line) = code.OfBody line
finish_seen (finish.OfFunction words line) = code.OfFunction words line

abbrev pub members_seen : Option Class → List Member
members_seen None = []
members_seen (Some class) = (class_seen class).members

abbrev pub env_seen : Scope → code.Env
env_seen s = record {
  declarations = s.outline.now;
  marks = marked s.marks.nodes.now;
  finish = finish_seen s.finish;
  members = members_seen s.class;
  parts = map part_seen s.parts.now;
  scope = s.locals;
  sizes = s.sizes;
}

abbrev pub found_seen : Found → code.Found
found_seen f = record { slot = option_map slot_seen f.slot; offset = f.offset; words = f.words; type = f.type_name.now; is_whole = f.is_whole }
