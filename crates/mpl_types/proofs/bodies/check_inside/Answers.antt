use Rattle.std.proofs.Common.{◌≡◌, ℕ, Bool, List, ap, ap₂, sym, ◌∙◌}
use Rattle.std.specs.Prelude.{flat_map}
use Rattle.mpl_ast.specs.declared.class.Item.{Item}
use Rattle.mpl_ast.specs.declared.program.Declaration.{Declaration}
use Rattle.mpl_mean.specs.Meaning.Layout.{is_regular}
use Rattle.mpl_mean.specs.TypeRules.ProgramNodes.{inside_declaration, inside_item, surrounding}
use Rattle.mpl_mean.specs.TypeRules.Scopes.{Surrounding, at_top, in_class}
use Rattle.mpl_types.specs.Internal.Programs.{insides_least}
use Rattle.mpl_types.proofs.bodies.check_inside.Goals as goal

pub returns-in_ok-found-in-Class : goal.returns-in_ok-found-in-Class
returns-in_ok-found-in-Class c =
    let top = at_top c.args.outline.now in
    let items = c.in-Class.items in
    let within = λ (k : Surrounding) (all : List Item). insides_least (flat_map (inside_item (in_class k top) k.items) all) in
    let made : List ℕ → Bool → List Item → Surrounding = λ name regular all. record { name = name; is_regular = regular; items = all } in
    let class : c.in_ok-class-in-Class.class ≡ surrounding c.in-Class.kind c.in-Class.name items =
    c.in_ok-class-in-Class.ensures
    ∙ ap₂ (λ (name : List ℕ) (regular : Bool). made name regular c.as_slice-items.result.now) c.as_slice.ensures c.is_regular.ensures
    ∙ ap (made c.in-Class.name.text (is_regular c.in-Class.kind)) c.as_slice-items.ensures in
    c.in_ok-found-in-Class.ensures
    ∙ ap₂ within class c.as_slice-items.ensures
    ∙ ap (λ (d : Declaration). insides_least (inside_declaration top d)) (sym c.in-Class.is)
