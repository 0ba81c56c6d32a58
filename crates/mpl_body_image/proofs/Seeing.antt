-- What the members of a class see.
use Rattle.std.proofs.Common.{◌≡◌, Bool, true, false, List, [], map, Some, None, if◌then◌else◌, ap, sym, ◌∙◌}
use Rattle.std.specs.Borrow.{Bor}
use Rattle.mpl_ast.specs.declared.program.Declaration.{Declaration}
use Rattle.mpl_mean.specs.Meaning.Layout as layout
use Rattle.mpl_mean.specs.Meaning.Layout.{parts_of}
use Rattle.mpl_body_image.specs.Internal.Bodies.{Sees}
use Rattle.mpl_layout.specs.SeenClasses.{class_seen}
use Rattle.mpl_layout.specs.SeenParts.{part_seen}
use Rattle.mpl_body_image.specs.declared.scope.Object.{Object}

pub sees_nothing : (ds : List Declaration) (class : layout.Class) → class.is_regular ≡ true → Sees ds None class
sees_nothing ds class regular = record {
  members = ap (λ (b : Bool). if b then [] else class.members) (sym regular);
  parts = ap (λ (b : Bool). if b then [] else parts_of ds class.state) (sym regular);
}

pub sees_object : (ds : List Declaration) (object : Bor Object) → (object.now.class).is_regular ≡ false → map part_seen object.now.parts.items ≡ parts_of ds (class_seen object.now.class).state
    → Sees ds (Some object) (class_seen object.now.class)
sees_object ds object regular is = record {
  members = ap (λ (b : Bool). if b then [] else (class_seen object.now.class).members) (sym regular);
  parts = is ∙ ap (λ (b : Bool). if b then [] else parts_of ds (class_seen object.now.class).state) (sym regular);
}
