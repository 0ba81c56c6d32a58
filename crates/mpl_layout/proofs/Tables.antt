-- Tables of names beside the declarations that they are of.
use Rattle.std.proofs.Common.{◌≡◌, ℕ, Bool, true, false, List, [], ◌∷◌, Option, Some, None, if◌then◌else◌, refl, sym, subst}
use Rattle.std.specs.Str.{bytes_eq}
use Rattle.mpl_ast.specs.declared.program.Declaration.{Declaration}
use Rattle.mpl_ast.specs.declared.program.Declaration.TheVariants as declaration
use Rattle.mpl_mean.specs.Laws.Sizes.{Every}
use Rattle.mpl_mean.specs.Meaning.Layout.{AClass, ABool, AnInt, AStruct, Meant, is_regular, meant_by}
use Rattle.mpl_mean.specs.Meaning.Layout as layout
use Rattle.mpl_scope.specs.First.{or_else}
use Rattle.mpl_layout.specs.Bounds.{FieldsFit, StructFits}
use Rattle.mpl_layout.specs.SeenNamed.{NamedFits, named_or, named_seen}
use Rattle.mpl_layout.specs.declared.named.Named.{Named}
use Rattle.mpl_layout.specs.declared.named.Named.TheVariants as named

-- ---- one more behind the others

pub chosen_named : (q : List ℕ) (o : Option Named) (b : Bool) (n : Named) (rest : Meant)
    → named_or q (or_else o (if b then Some n else None)) rest ≡ named_or q o (if b then named_seen q n else rest)
chosen_named q None true n rest = refl
chosen_named q None false n rest = refl
chosen_named q (Some m) b n rest = refl

-- ---- structs have few words

abbrev MeantFits : List Declaration → Meant → Type 0
MeantFits ds AnInt = Unit {0}
MeantFits ds ABool = Unit {0}
MeantFits ds (AStruct name fields) = FieldsFit ds fields
MeantFits ds (AClass name regular items) = Unit {0}
MeantFits ds layout.Nothing = Unit {0}

fits_if : (ds : List Declaration) (b : Bool) (m others : Meant) → MeantFits ds m → MeantFits ds others → MeantFits ds (if b then m else others)
fits_if ds true m others h k = h
fits_if ds false m others h k = k

meant_fits : (ds : List Declaration) (name : List ℕ) (some : List Declaration) → Every (StructFits ds) some → MeantFits ds (meant_by name some)
meant_fits ds name [] h = tt
meant_fits ds name (declaration.Struct at line struct fields ∷ some) h = fits_if ds (bytes_eq struct.text name) (AStruct name fields) (meant_by name some) h.0 (meant_fits ds name some h.1)
meant_fits ds name (declaration.Class at line kind class items ∷ some) h = fits_if ds (bytes_eq class.text name) (AClass name (is_regular kind) items) (meant_by name some) tt (meant_fits ds name some h.1)
meant_fits ds name (declaration.Function at result function formals body ∷ some) h = meant_fits ds name some h.1

of_meant : (ds : List Declaration) (name : List ℕ) (n : Named) → MeantFits ds (named_seen name n) → NamedFits ds n
of_meant ds name (named.Struct fields) h = h
of_meant ds name (named.Regular items) h = tt
of_meant ds name (named.Persistent items) h = tt
of_meant ds name named.Nothing h = tt

pub named_fits : (ds : List Declaration) (name : List ℕ) (n : Named) → Every (StructFits ds) ds → named_seen name n ≡ meant_by name ds → NamedFits ds n
named_fits ds name n h is = of_meant ds name n (subst (MeantFits ds) (sym is) (meant_fits ds name ds h))
