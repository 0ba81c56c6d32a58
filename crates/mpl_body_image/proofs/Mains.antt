-- `main` among declarations.
use Rattle.std.proofs.Common.{◌≡◌, Bool, true, false, List, ◌∷◌, Some, if◌then◌else◌, refl, ap}
use Rattle.std.specs.Prelude.{codes}
use Rattle.mpl_ast.specs.declared.program.Declaration.{Declaration}
use Rattle.mpl_ast.specs.declared.program.Declaration.TheVariants as declaration
use Rattle.mpl_mean.specs.Meaning.BodyMeaning.{main_statements, statements_of}
use Rattle.mpl_mean.specs.Meaning.Layout.{Function, formals_of, function_named}
use Rattle.mpl_body_image.specs.Internal.Bodies.{is_main, statements_in}

pub main_here : (d : Declaration) (others : List Declaration) → is_main d ≡ true → main_statements (d ∷ others) ≡ statements_in d
main_here (declaration.Struct at line name fields) others h = absurd cc
main_here (declaration.Class at line kind name items) others h = absurd cc
main_here (declaration.Function at result name formals body) others h =
    let f : Function = record { result = result; formals = formals_of formals; body = body } in
    ap (λ (b : Bool). statements_of (if b then Some f else function_named (codes "main") others)) h

pub main_later : (d : Declaration) (others : List Declaration) → is_main d ≡ false → main_statements (d ∷ others) ≡ main_statements others
main_later (declaration.Struct at line name fields) others h = refl
main_later (declaration.Class at line kind name items) others h = refl
main_later (declaration.Function at result name formals body) others h =
    let f : Function = record { result = result; formals = formals_of formals; body = body } in
    ap (λ (b : Bool). statements_of (if b then Some f else function_named (codes "main") others)) h
