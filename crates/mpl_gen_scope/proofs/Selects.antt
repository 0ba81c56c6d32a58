-- The `select`s of a program are those among the items of its classes.
use Rattle.std.proofs.Common.{◌≡◌, List, [], ◌∷◌, map, refl, ap, ◌∙◌}
use Rattle.mpl_ast.specs.declared.program.Declaration.{Declaration}
use Rattle.mpl_ast.specs.declared.program.Declaration.TheVariants as declaration
use Rattle.mpl_gen_code.specs.ProgramImage.{select_of, selects_of}
use Rattle.mpl_layout.specs.ClassItems.{class_items}
use Rattle.mpl_layout.specs.SeenClasses.{items_seen}
use Rattle.mpl_layout.specs.declared.class.Class.{Class}
use Rattle.mpl_gen_scope.specs.SeenSelects.{select_seen}

of_items : (ds : List Declaration) → map select_of (class_items ds) ≡ selects_of ds
of_items [] = refl
of_items (declaration.Struct at line name fields ∷ ds) = of_items ds
of_items (declaration.Class at line kind name items ∷ ds) = ap (λ others. select_of items ∷ others) (of_items ds)
of_items (declaration.Function at result name formals body ∷ ds) = of_items ds

of_classes : (classes : List Class) → map select_seen classes ≡ map select_of (map items_seen classes)
of_classes [] = refl
of_classes (c ∷ classes) = ap (λ others. select_seen c ∷ others) (of_classes classes)

pub selects_are : (ds : List Declaration) (classes : List Class) → map items_seen classes ≡ class_items ds → map select_seen classes ≡ selects_of ds
selects_are ds classes h = of_classes classes ∙ ap (map select_of) h ∙ of_items ds
