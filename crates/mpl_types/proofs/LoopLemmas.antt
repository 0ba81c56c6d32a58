-- The least failure so far, and that among those that are left.
use Rattle.std.proofs.Common.{◌≡◌, ℕ, ◌+◌, true, List, [], ◌∷◌, ◌++◌, Option, Some, None, refl, sym, ap, ◌∙◌}
use Rattle.std.specs.Prelude.{nat_le}
use Rattle.mpl_ast.specs.declared.class.Entry.{Entry}
use Rattle.mpl_ast.specs.declared.class.FieldName.{FieldName}
use Rattle.mpl_ast.specs.declared.class.Formal.{Formal}
use Rattle.mpl_ast.specs.declared.program.Declaration.{Declaration}
use Rattle.mpl_ast.specs.declared.statement.TypeName.{TypeName}
use Rattle.mpl_mean.specs.Limits.{greatest_priority, most_entries, most_formals}
use Rattle.mpl_mean.specs.Meaning.Layout.{natural}
use Rattle.mpl_mean.specs.Plain.Expr.{Expr, begins}
use Rattle.mpl_mean.specs.TypeRules.ExpressionRules.{can_be_printed}
use Rattle.mpl_mean.specs.TypeRules.NameRules.{class_has_member}
use Rattle.mpl_mean.specs.TypeRules.Scopes.{Environment, Surrounding}
use Rattle.mpl_mean.specs.TypeRules.SizeRules.{is_not_first_too_many}
use Rattle.mpl_mean.specs.TypeRules.StatementNodes.{type_at}
use Rattle.mpl_mean.specs.TypeRules.Types.{AsFormal}
use Rattle.mpl_mean.specs.TypeRules.Typing.{type_of}
use Rattle.mpl_types.specs.Internal.Expressions.{expr_least}
use Rattle.mpl_types.specs.Internal.Outlines.{entry_least, field_names_least, formals_least, is_new}
use Rattle.mpl_types.specs.Internal.Statements.{dimension_least, print_least, type_least}
use Rattle.mpl_mean.specs.TypeRules.ProgramNodes.{Inside}
use Rattle.mpl_mean.specs.TypeRules.Rules.{Failure}
use Rattle.mpl_types.specs.Internal.Least.{earlier, noted}
use Rattle.mpl_types.specs.Internal.Programs.{inner_least, insides_least}
use Rattle.mpl_types.proofs.LeastLemmas.{earlier_assoc, earlier_none, noted_earlier}

pub one_more : (found one rest total next : Option Failure) → next ≡ earlier found one → earlier found (earlier one rest) ≡ total → earlier next rest ≡ total
one_more found one rest total next is before = ap (λ f. earlier f rest) is ∙ earlier_assoc found one rest ∙ before

pub no_more : (found total : Option Failure) → earlier found None ≡ total → found ≡ total
no_more found total before = sym (earlier_none found) ∙ before

pub insides_append : (xs ys : List Inside) → insides_least (xs ++ ys) ≡ earlier (insides_least xs) (insides_least ys)
insides_append [] ys = refl
insides_append (x ∷ xs) ys = ap (earlier (inner_least x.environment x.inner)) (insides_append xs ys) ∙ sym (earlier_assoc (inner_least x.environment x.inner) (insides_least xs) (insides_least ys))

-- ---- one of several, and the others

pub entry_and_others : (class : Surrounding) (before : ℕ) (entry : Entry) (rest : Option Failure) → earlier (entry_least class before entry None) rest ≡ entry_least class before entry rest
entry_and_others class before entry rest =
    let known = noted entry.member.from 1 (class_has_member entry.member.text (Some class)) None in
    let fits = noted entry.priority.from 10 (nat_le (natural entry.priority.value) greatest_priority) known in
    sym (noted_earlier entry.at.span.from 8 (is_not_first_too_many most_entries before) fits rest)
    ∙ ap (noted entry.at.span.from 8 (is_not_first_too_many most_entries before))
    (sym (noted_earlier entry.priority.from 10 (nat_le (natural entry.priority.value) greatest_priority) known rest)
    ∙ ap (noted entry.priority.from 10 (nat_le (natural entry.priority.value) greatest_priority))
    (sym (noted_earlier entry.member.from 1 (class_has_member entry.member.text (Some class)) None rest)))

pub formal_and_others : (ds : List Declaration) (before : ℕ) (names : List (List ℕ)) (formal : Formal) (others : List Formal)
    → earlier (noted (type_at formal.type_name) 8 (is_not_first_too_many most_formals before) (noted formal.name.from 2 (is_new formal.name.text names) (type_least ds AsFormal true formal.type_name)))
    (formals_least ds (before + 1) (names ++ formal.name.text ∷ []) others)
    ≡ formals_least ds before names (formal ∷ others)
formal_and_others ds before names formal others =
    let rest = formals_least ds (before + 1) (names ++ formal.name.text ∷ []) others in
    sym (noted_earlier (type_at formal.type_name) 8 (is_not_first_too_many most_formals before)
    (noted formal.name.from 2 (is_new formal.name.text names) (type_least ds AsFormal true formal.type_name)) rest)
    ∙ ap (noted (type_at formal.type_name) 8 (is_not_first_too_many most_formals before))
    (sym (noted_earlier formal.name.from 2 (is_new formal.name.text names) (type_least ds AsFormal true formal.type_name) rest))

pub field_and_others : (type : TypeName) (names : List (List ℕ)) (field : FieldName) (others : List FieldName)
    → earlier (field_names_least type names (field ∷ [])) (field_names_least type (names ++ field.name.text ∷ []) others) ≡ field_names_least type names (field ∷ others)
field_and_others type names field others =
    let rest = field_names_least type (names ++ field.name.text ∷ []) others in
    sym (noted_earlier field.name.from 2 (is_new field.name.text names) (earlier (dimension_least type field.dimension) None) rest)
    ∙ ap (λ one. noted field.name.from 2 (is_new field.name.text names) (earlier one rest)) (earlier_none (dimension_least type field.dimension))

pub printed_and_others : (argument : Expr) (others : List Expr) (environment : Environment)
    → earlier (noted (begins argument) 13 (can_be_printed (type_of environment argument)) (expr_least environment argument)) (print_least others environment)
    ≡ print_least (argument ∷ others) environment
printed_and_others argument others environment =
    sym (noted_earlier (begins argument) 13 (can_be_printed (type_of environment argument)) (expr_least environment argument) (print_least others environment))
