-- What the members of a class see.
use Rattle.std.proofs.Common.{◌≡◌, Bool, true, false, List, [], map, Some, None, if◌then◌else◌, ap, sym, ◌∙◌}
use Rattle.mpl_ast.specs.declared.program.Declaration.{Declaration}
use Rattle.mpl_mean.specs.Meaning.Layout as layout
use Rattle.mpl_mean.specs.Meaning.Layout.{parts_of}
use Rattle.mpl_layout.specs.SeenClasses.{class_seen}
use Rattle.mpl_layout.specs.SeenParts.{part_seen}
use Rattle.mpl_gen_scope.specs.SeenScope.{members_seen}
use Rattle.mpl_layout.specs.declared.class.Class.{Class}
use Rattle.mpl_gen_body.specs.Internal.Surroundings.{Sees}
use Rattle.mpl_gen_body.specs.declared.bodies.Object.{Object}

pub sees_nothing : (ds : List Declaration) (object : Object) (class : layout.Class) → class.is_regular ≡ true → object.class ≡ None → map part_seen object.parts.now ≡ [] → Sees ds object class
sees_nothing ds object class regular none no_parts = record {
  members = ap members_seen none ∙ ap (λ (b : Bool). if b then [] else class.members) (sym regular);
  parts = no_parts ∙ ap (λ (b : Bool). if b then [] else parts_of ds class.state) (sym regular);
}

pub sees_object : (ds : List Declaration) (object : Object) (class : Class) → class.is_regular ≡ false → object.class ≡ Some class → map part_seen object.parts.now ≡ parts_of ds (class_seen class).state
    → Sees ds object (class_seen class)
sees_object ds object class regular some is = record {
  members = ap members_seen some ∙ ap (λ (b : Bool). if b then [] else (class_seen class).members) (sym regular);
  parts = is ∙ ap (λ (b : Bool). if b then [] else parts_of ds (class_seen class).state) (sym regular);
}
