use Rattle.std.proofs.Common.{List, map, ap, ap₂, sym, ◌∙◌}
use Rattle.std.proofs.lemmas.List.Folds.{list_all-map}
use Rattle.std.specs.List.{list_all}
use Rattle.mpl_ast.specs.declared.statement.Declarator.{Declarator}
use Rattle.mpl_mean.specs.TypeRules.StatementNodes.{is_bare}
use Rattle.mpl_mean.specs.Plain.Stmt.{new_local}
use Rattle.mpl_mean.specs.TypeRules.Types.{AsLocal}
use Rattle.mpl_scope.specs.SeenScope.{seen_scope}
use Rattle.mpl_types.specs.Internal.Least.{earlier}
use Rattle.mpl_types.specs.Internal.Statements.{locals_least, type_least}
use Rattle.mpl_types.proofs.locals.check_local.Goals as goal

pub returns-clause-failure : goal.returns-clause-failure
returns-clause-failure c =
    let local = c.args.local.now in
    let all = c.as_slice-declarators.ensures in
    c.earlier.ensures
    ∙ ap₂ earlier
    (c.check_type-of_type.ensures
    ∙ ap (λ bare. type_least c.args.scope.now.outline.now AsLocal bare local.type_name)
    (c.are_bare-is_bare.ensures ∙ ap (list_all (λ (d : Declarator). is_bare (new_local d))) all ∙ sym (list_all-map is_bare new_local local.declarators)))
    (c.in_ok-of_locals.ensures.failure ∙ ap (λ (ds : List Declarator). locals_least local.type_name (map new_local ds) (seen_scope c.args.scope.now)) all)
