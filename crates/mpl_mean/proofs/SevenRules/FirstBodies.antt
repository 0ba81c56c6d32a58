-- At the nodes of statements of the first form, only the seven rules of that form can fail.
use Rattle.std.proofs.Common.{◌≡◌, true, List, [], ◌∷◌, ◌++◌, map, Option, Some, None, refl, ap, sym, subst, ◌∙◌}
use Rattle.std.specs.Prelude.{flat_map}
use Rattle.std.specs.List.{list_all}
use Rattle.mpl_ast.specs.declared.class.ResultType.{ResultType}
use Rattle.mpl_ast.specs.declared.class.ResultType.TheVariants.{Void, Typed}
use Rattle.mpl_ast.specs.declared.place.Name.{Name}
use Rattle.mpl_ast.specs.declared.statement.Dimension.{Dimension}
use Rattle.mpl_ast.specs.declared.statement.Statement.{Statement}
use Rattle.mpl_ast.specs.declared.statement.TypeName.{TypeName}
use Rattle.mpl_ast.specs.declared.statement.TypeName.TheVariants as type
use Rattle.mpl_mean.specs.Plain.Stmt.{Stmt, Stmts, NewLocal, stmt_of, in_turn}
use Rattle.mpl_mean.specs.Plain.Stmt as stmt
use Rattle.mpl_mean.specs.TypeRules.ExpressionRules.{operands_agree, can_be_printed, right_side_agrees, initialiser_agrees}
use Rattle.mpl_mean.specs.FirstForms.FirstForm.{is_first_statement, is_int_result}
use Rattle.mpl_mean.specs.TypeRules.NameRules.{name_is_known}
use Rattle.mpl_mean.specs.TypeRules.Nodes.{expr_nodes}
use Rattle.mpl_mean.specs.Plain.Expr.{Expr}
use Rattle.mpl_mean.specs.TypeRules.Rules.{rule}
use Rattle.mpl_mean.specs.TypeRules.Scopes.{Environment, InMain, InMember, behind, with_last, is_in_main}
use Rattle.mpl_mean.specs.TypeRules.SizeRules.{type_may_stand, meant_may_stand}
use Rattle.mpl_mean.specs.TypeRules.StatementNodes.{stmt_walk, stmts_walk, print_walk, declared_local}
use Rattle.mpl_mean.specs.TypeRules.StatementRules.{speaks_in_main, rtf_agrees, can_give}
use Rattle.mpl_mean.specs.TypeRules.Types.{Declared, AsLocal, Meant, Nothing, AClass, meant_by, ValueType, OneValue, OfInt, agree}
use Rattle.mpl_mean.specs.TypeRules.Typing.{type_of}
use Rattle.mpl_mean.proofs.SevenRules.FirstStmts.{AllFirst, IsFirstStmt, IsFirstLocal, IsResult, statement_is_first}
use Rattle.mpl_mean.proofs.SevenRules.FirstNodes.{AllSame, same_append, with_one, with_second, expr_same, call_same, call_type_first}
use Rattle.mpl_mean.proofs.SevenRules.FirstTypes.{FirstEnvironment, IsFirstType, IsFirstMeant, IsFirstTyped, AreFirstVariables, variables_append, type_first}
use Rattle.mpl_mean.proofs.Truth.{both_true}

-- ---- scopes

left_variables : (xs ys : List Declared) → AreFirstVariables (xs ++ ys) → AreFirstVariables xs
left_variables [] ys h = tt
left_variables (x ∷ xs) ys h = (h.0, left_variables xs ys h.1)

right_variables : (xs ys : List Declared) → AreFirstVariables (xs ++ ys) → AreFirstVariables ys
right_variables [] ys h = h
right_variables (x ∷ xs) ys h = right_variables xs ys h.1

one_more : (d : Declared) → IsFirstTyped d.role d.dimension d.type → (blocks : List (List Declared))
    → AreFirstVariables (flat_map (λ block. block) blocks) → AreFirstVariables (flat_map (λ block. block) (with_last d blocks))
one_more d h [] first = (h, tt)
one_more d h (block ∷ blocks) first =
    variables_append (block ++ d ∷ []) (flat_map (λ block. block) blocks)
    (variables_append block (d ∷ []) (left_variables block (flat_map (λ block. block) blocks) first) (h, tt))
    (right_variables block (flat_map (λ block. block) blocks) first)

behind_first : (d : Declared) → IsFirstTyped d.role d.dimension d.type → (environment : Environment) → FirstEnvironment environment → FirstEnvironment (behind d environment)
behind_first d h environment first =
    record { program = first.program; locals = one_more d h environment.blocks first.locals; formals = first.formals; state = first.state }

-- ---- prints

printed_holds : (t : Option ValueType) → IsFirstType t → can_be_printed t ≡ true
printed_holds None h = refl
printed_holds (Some OfInt) h = refl
printed_holds other h = absurd h

prints_same : (environment : Environment) → FirstEnvironment environment → (ps : List Expr) → AllFirst ps → AllSame (print_walk ps environment).nodes
prints_same environment first [] h = tt
prints_same environment first (p ∷ ps) h = (
  with_one _ (rule 13 operands_agree) _ (printed_holds (type_of environment p) (type_first environment first p h.0)),
  same_append (expr_nodes environment p) (print_walk ps environment).nodes (expr_same environment first p h.0) (prints_same environment first ps h.1),
)

pub prints_after : (environment : Environment) (ps : List Expr) → (print_walk ps environment).after ≡ environment
prints_after environment [] = refl
prints_after environment (p ∷ ps) = prints_after environment ps

-- ---- locals

named_may_stand : (m : Meant) → IsFirstMeant m → meant_may_stand AsLocal true m ≡ true
named_may_stand Nothing h = refl
named_may_stand (AClass name true items) h = refl
named_may_stand other h = absurd h

value_fits : (t : Option ValueType) → IsFirstType t → initialiser_agrees (Some (OneValue OfInt)) t ≡ true
value_fits None h = refl
value_fits (Some OfInt) h = refl
value_fits other h = absurd h

-- in main
pub record InFirstMain (environment : Environment) : Type 0 where
  pub first : FirstEnvironment environment
  pub main : environment.body ≡ InMain

abbrev single : Name → Option Dimension → Option Expr → NewLocal
single name dimension initialiser = record { name = name; dimension = dimension; initialiser = initialiser }

local_same : (environment : Environment) → InFirstMain environment → (t : TypeName) (name : Name) (dimension : Option Dimension) (initialiser : Option Expr)
    → IsFirstLocal t dimension initialiser → AllSame (stmt_walk (stmt.Locals t (single name dimension initialiser ∷ [])) environment).nodes
local_same environment h (type.Named at n) name None None e =
    (with_second n.from (rule 1 name_is_known) (rule 4 type_may_stand) _ _ (named_may_stand (meant_by n.text environment.declarations) (h.first.program n.text)), (refl, (refl, tt)))
local_same environment h (type.Int at) name None None e = absurd cc
local_same environment h (type.Bool at) name None None e = absurd cc
local_same environment h (type.Int at) name None (Some call) e = (
  refl,
  (
    refl,
    (
      with_one name.from (rule 17 right_side_agrees) _ (value_fits (type_of environment call) (call_type_first environment h.first call e.1)),
      same_append (expr_nodes environment call ++ []) [] (same_append (expr_nodes environment call) [] (call_same environment h.first h.main call e.1) tt) tt,
    ),
  ),
)
local_same environment h (type.Bool at) name None (Some call) e = absurd cc
local_same environment h (type.Named at n) name None (Some call) e = absurd cc
local_same environment h t name (Some dimension) initialiser e = absurd e

local_after : (environment : Environment) → InFirstMain environment → (t : TypeName) (name : Name) (dimension : Option Dimension) (initialiser : Option Expr)
    → IsFirstLocal t dimension initialiser → InFirstMain (stmt_walk (stmt.Locals t (single name dimension initialiser ∷ [])) environment).after
local_after environment h (type.Named at n) name None None e =
    record { first = behind_first (declared_local (type.Named at n) (single name None None)) tt environment h.first; main = h.main }
local_after environment h (type.Int at) name None None e = absurd cc
local_after environment h (type.Bool at) name None None e = absurd cc
local_after environment h (type.Int at) name None (Some call) e =
    record { first = behind_first (declared_local (type.Int at) (single name None (Some call))) tt environment h.first; main = h.main }
local_after environment h (type.Bool at) name None (Some call) e = absurd cc
local_after environment h (type.Named at n) name None (Some call) e = absurd cc
local_after environment h t name (Some dimension) initialiser e = absurd e

-- ---- the statements of main

stmt_same : (a : Stmt) → IsFirstStmt a → (environment : Environment) → InFirstMain environment → AllSame (stmt_walk a environment).nodes
stmt_same (stmt.Locals t (new ∷ [])) e environment h = local_same environment h t new.name new.dimension new.initialiser e
stmt_same (stmt.Prints at ps) e environment h = (with_one at.span.from (rule 23 speaks_in_main) _ (ap is_in_main h.main), prints_same environment h.first ps e)
stmt_same other e environment h = absurd e

stmt_after : (a : Stmt) → IsFirstStmt a → (environment : Environment) → InFirstMain environment → InFirstMain (stmt_walk a environment).after
stmt_after (stmt.Locals t (new ∷ [])) e environment h = local_after environment h t new.name new.dimension new.initialiser e
stmt_after (stmt.Prints at ps) e environment h = subst InFirstMain (sym (prints_after environment ps)) h
stmt_after other e environment h = absurd e

pub statements_same : (ss : List Statement) → list_all is_first_statement ss ≡ true → (environment : Environment) → InFirstMain environment
    → AllSame (stmts_walk (in_turn (map stmt_of ss)) environment).nodes
statements_same [] e environment h = tt
statements_same (s ∷ ss) e environment h =
    let b = both_true (is_first_statement s) (list_all is_first_statement ss) e in
    let first = statement_is_first s b.0 in
    same_append (stmt_walk (stmt_of s) environment).nodes (stmts_walk (in_turn (map stmt_of ss)) (stmt_walk (stmt_of s) environment).after).nodes
    (stmt_same (stmt_of s) first environment h) (statements_same ss b.1 (stmt_walk (stmt_of s) environment).after (stmt_after (stmt_of s) first environment h))

-- ---- the one statement of a member

pub given_agrees : (t : Option ValueType) → IsFirstType t → agree t (Some OfInt) ≡ true
given_agrees None h = refl
given_agrees (Some OfInt) h = refl
given_agrees other h = absurd h

can_give_int : (environment : Environment) (result : ResultType) → is_int_result result ≡ true → (value : Expr) → IsFirstType (type_of environment value) → can_give environment (InMember result) value ≡ true
can_give_int environment (Void at) e value h = absurd cc
can_give_int environment (Typed at (type.Int t)) e value h = given_agrees (type_of environment value) h
can_give_int environment (Typed at (type.Bool t)) e value h = absurd cc
can_give_int environment (Typed at (type.Named t n)) e value h = absurd cc

pub result_same : (a : Stmt) → IsResult a → (environment : Environment) → FirstEnvironment environment → (result : ResultType) → is_int_result result ≡ true → environment.body ≡ InMember result
    → AllSame (stmt_walk a environment).nodes
result_same (stmt.Gives at value) e environment first result int body = (
  with_one at.span.from (rule 24 rtf_agrees) _ (ap (λ body. can_give environment body value) body ∙ can_give_int environment result int value (type_first environment first value e)),
  expr_same environment first value e,
)
result_same other e environment first result int body = absurd e
