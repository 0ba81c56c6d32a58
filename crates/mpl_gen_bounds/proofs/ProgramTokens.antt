-- A program has at least as many tokens as its bodies and guards have forms and formals.
use Rattle.std.proofs.Common.{◌≡◌, ◌≤◌, ℕ, ◌+◌, Bool, true, false, ◌&&◌, ◌==◌, List, [], ◌∷◌, length, map, Option, Some, None, if◌then◌else◌, refl, ap, subst, arith}
use Rattle.std.specs.Option.{option_map}
use Rattle.mpl_ast.specs.declared.class.Entry.{Entry}
use Rattle.mpl_ast.specs.declared.class.Field.{Field}
use Rattle.mpl_ast.specs.declared.class.FieldName.{FieldName}
use Rattle.mpl_ast.specs.declared.class.Formal.{Formal}
use Rattle.mpl_ast.specs.declared.class.Formals.{Formals}
use Rattle.mpl_ast.specs.declared.class.Item.{Item}
use Rattle.mpl_ast.specs.declared.class.Item.TheVariants as item
use Rattle.mpl_ast.specs.declared.class.Kind.{Kind}
use Rattle.mpl_ast.specs.declared.class.Kind.TheVariants.{Regular, Persistent}
use Rattle.mpl_ast.specs.declared.class.ResultType.{ResultType}
use Rattle.mpl_ast.specs.declared.class.ResultType.TheVariants.{Void, Typed}
use Rattle.mpl_ast.specs.declared.expression.Expression.{Expression}
use Rattle.mpl_ast.specs.declared.program.Declaration.{Declaration}
use Rattle.mpl_ast.specs.declared.program.Declaration.TheVariants as declaration
use Rattle.mpl_ast.specs.declared.program.Program.{Program}
use Rattle.mpl_ast.specs.declared.statement.Block.{Block}
use Rattle.mpl_ast.specs.declared.token.Token.{Token}
use Rattle.mpl_mean.specs.Meaning.Layout.{formals_of}
use Rattle.mpl_mean.specs.Plain.Expr.{expr_of}
use Rattle.mpl_mean.specs.Plain.Stmt.{stmts_of}
use Rattle.mpl_mean.specs.Text.ProgramText.{all_of, declaration_text, entry_text, field_name_text, field_text, formal_text, formals_text, guard_text, item_text, kind_text, nothing_left, result_text, spells}
use Rattle.mpl_mean.specs.Text.Reading.{Rest, each, node, optional, separated}
use Rattle.mpl_gen_bounds.proofs.ExpressionTokens.{expression_used}
use Rattle.mpl_gen_bounds.proofs.FormCounts.{count_all, count_if_any, forms, stmts_forms}
use Rattle.mpl_gen_bounds.proofs.Readings.{Uses, fewer, uses_all, uses_both, uses_next, uses_node, uses_optional, uses_row, uses_second, uses_token}
use Rattle.mpl_gen_bounds.proofs.StatementTokens.{block_used, dimension_if_any, type_used}

-- ---- counts

-- the formals of a body, its forms and its end
abbrev pub body_forms : List Formal → Block → ℕ
body_forms formals body = length formals + (1 + stmts_forms (stmts_of body))

abbrev pub guard_forms : Expression → ℕ
guard_forms guard = forms (expr_of guard)

abbrev pub entry_forms : Entry → ℕ
entry_forms entry = count_if_any guard_forms entry.guard

abbrev pub item_forms : Item → ℕ
item_forms (item.OfField at field) = 0
item_forms (item.Member at result name formals body) = body_forms (formals_of formals) body
item_forms (item.Select at line entries) = count_all entry_forms entries
item_forms (item.Public at) = 0
item_forms (item.Private at) = 0
item_forms (item.Empty at) = 0

abbrev pub declaration_forms : Declaration → ℕ
declaration_forms (declaration.Struct at line name fields) = 0
declaration_forms (declaration.Class at line kind name items) = count_all item_forms items
declaration_forms (declaration.Function at result name formals body) = body_forms (formals_of formals) body

-- ---- fields and formals

field_name_used : (f : FieldName) → Uses 0 (field_name_text f)
field_name_used f = uses_second (uses_token _) (dimension_if_any f.dimension)

field_used : (f : Field) → Uses 0 (field_text f)
field_used f =
    uses_node f.at (fewer (omega arith) (uses_both (type_used f.type_name) (uses_both (uses_row field_name_text (λ name. 0) field_name_used f.names) (uses_token _))))

formal_used : (f : Formal) → Uses 1 (formal_text f)
formal_used f = fewer (omega arith) (uses_both (type_used f.type_name) (uses_token _))

one_each : {A : Type 0} (xs : List A) → count_all (λ x. 1) xs ≡ length xs
one_each [] = refl
one_each (x ∷ xs) = let rest = one_each xs in omega (arith, rest)

formals_used : (f : Formals) → Uses (length f.list) (formals_text f)
formals_used f = uses_node f.at (fewer (omega (arith, one_each f.list)) (uses_row formal_text (λ x. 1) formal_used f.list))

formals_count : (o : Option Formals) → count_if_any (λ (f : Formals). length f.list) o ≡ length (formals_of o)
formals_count None = refl
formals_count (Some f) = refl

formals_if_any : (o : Option Formals) → Uses (length (formals_of o)) (optional (option_map formals_text o))
formals_if_any o = fewer (omega (arith, formals_count o)) (uses_optional formals_text (λ (f : Formals). length f.list) formals_used o)

result_used : (r : ResultType) → Uses 1 (result_text r)
result_used (Void at) = uses_node at (uses_token _)
result_used (Typed at type) = uses_node at (type_used type)

-- ---- classes

guard_used : (guard : Expression) → Uses (guard_forms guard) (guard_text guard)
guard_used guard = fewer (omega arith) (uses_next _ (uses_next _ (uses_both (expression_used guard) (uses_token _))))

entry_used : (entry : Entry) → Uses (entry_forms entry) (entry_text entry)
entry_used entry =
    uses_node entry.at (fewer (omega arith) (uses_next _ (uses_next _ (uses_next _ (uses_both (uses_optional guard_text guard_forms guard_used entry.guard) (uses_next _ (uses_next _ (uses_token _))))))))

item_used : (i : Item) → Uses (item_forms i) (item_text i)
item_used (item.OfField at field) = uses_node at (field_used field)
item_used (item.Member at result name formals body) =
    uses_node at (fewer (omega arith) (uses_both (result_used result) (uses_next _ (uses_next _ (uses_both (formals_if_any formals) (uses_next _ (block_used body)))))))
item_used (item.Select at line entries) = uses_node at (fewer (omega arith) (uses_next _ (uses_next _ (uses_both (uses_all entry_text entry_forms entry_used entries) (uses_token _)))))
item_used (item.Public at) = fewer (omega arith) (uses_node at (uses_next _ (uses_token _)))
item_used (item.Private at) = fewer (omega arith) (uses_node at (uses_next _ (uses_token _)))
item_used (item.Empty at) = fewer (omega arith) (uses_node at (uses_token _))

kind_used : (kind : Kind) → Uses 1 (kind_text kind)
kind_used (Regular at) = uses_node at (uses_token _)
kind_used (Persistent at) = uses_node at (uses_token _)

-- ---- the whole

declaration_used : (d : Declaration) → Uses (declaration_forms d) (declaration_text d)
declaration_used (declaration.Struct at line name fields) =
    uses_node at (fewer (omega arith) (uses_next _ (uses_next _ (uses_next _ (uses_both (uses_all field_text (λ f. 0) field_used fields) (uses_next _ (uses_token _)))))))
declaration_used (declaration.Class at line kind name items) =
    uses_node at (fewer (omega arith) (uses_both (kind_used kind) (uses_next _ (uses_next _ (uses_next _ (uses_next _ (uses_both (uses_all item_text item_forms item_used items) (uses_next _ (uses_token _)))))))))
declaration_used (declaration.Function at result name formals body) =
    uses_node at (fewer (omega arith) (uses_both (type_used result) (uses_next _ (uses_next _ (uses_both (formals_if_any formals) (uses_next _ (block_used body)))))))

declarations_used : (ds : List Declaration) → Uses (count_all declaration_forms ds) (each (map declaration_text ds))
declarations_used = uses_all declaration_text declaration_forms declaration_used

within : {n : ℕ} (tokens : List Token) (o : Option Rest) → ((x : Rest) → o ≡ Some x → n + length x.tokens ≤ length tokens) → nothing_left o ≡ true → n ≤ length tokens
within tokens None k h = absurd cc
within tokens (Some x) k h = let few = k x refl in omega (arith, few)

pub tokens_enough : (p : Program) (tokens : List Token) → spells p tokens ≡ true → count_all declaration_forms p.declarations ≤ length tokens
tokens_enough p [] h = by_test ((p.at.id == 0) && (p.at.span.from == 0) && (p.at.span.to == 0) && (p.at.line == 1)) h where
  by_test : (b : Bool) → nothing_left (if b then each (map declaration_text p.declarations) (all_of []) else None) ≡ true → count_all declaration_forms p.declarations ≤ 0
  by_test true i = within [] (each (map declaration_text p.declarations) (all_of [])) (λ x is. (declarations_used p.declarations).uses (all_of []) x is) i
  by_test false i = absurd cc
tokens_enough p (t ∷ ts) h =
    within (t ∷ ts) (node p.at (each (map declaration_text p.declarations)) (all_of (t ∷ ts))) (λ x is. (uses_node p.at (declarations_used p.declarations)).uses (all_of (t ∷ ts)) x is) h
