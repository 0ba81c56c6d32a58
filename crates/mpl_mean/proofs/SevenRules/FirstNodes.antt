-- At the nodes inside the bodies of a program of the first form, only the seven rules of that form can fail.
use Rattle.std.proofs.Common.{◌≡◌, ℕ, Bool, true, not, List, [], ◌∷◌, ◌++◌, map, Option, Some, None, if◌then◌else◌, refl, ap, ap₂, subst, sym}
use Rattle.mpl_ast.specs.declared.class.ResultType.{ResultType}
use Rattle.mpl_ast.specs.declared.class.ResultType.TheVariants.{Void, Typed}
use Rattle.mpl_ast.specs.declared.expression.Target.{Target}
use Rattle.mpl_ast.specs.declared.expression.Target.TheVariants as target
use Rattle.mpl_ast.specs.declared.place.Name.{Name}
use Rattle.mpl_mean.specs.TypeRules.CallRules.{member_call_agrees, call_is_in_place, call_may_stand, void_call_is_alone, member_has_value}
use Rattle.mpl_mean.specs.TypeRules.ClassRules.{has_value}
use Rattle.mpl_mean.specs.TypeRules.ExpressionRules.{operands_agree, binary_agrees}
use Rattle.mpl_mean.specs.Meaning.Layout.{Member}
use Rattle.mpl_mean.specs.TypeRules.Nodes.{Node, Located, place, expr_nodes, nodes_of_each, target_nodes, call_nodes}
use Rattle.mpl_mean.specs.TypeRules.Nodes as node
use Rattle.mpl_mean.specs.Plain.Expr.{Expr, Exprs}
use Rattle.mpl_mean.specs.Plain.Expr as expr
use Rattle.mpl_mean.specs.TypeRules.Operations.{Operation, Arithmetic, binary_operation}
use Rattle.mpl_mean.specs.TypeRules.Rules.{Failure, Rule, rule, rules, first_rules, failures_at, failures_among}
use Rattle.mpl_mean.specs.TypeRules.Scopes.{Environment, InMain, is_persistent}
use Rattle.mpl_mean.specs.TypeRules.Types.{ValueType, OfInt}
use Rattle.mpl_mean.specs.TypeRules.Typing.{type_of, member_called, target_shape, variable_shape}
use Rattle.mpl_mean.specs.FirstForms.FirstForm.{is_variable, is_int_result}
use Rattle.mpl_mean.proofs.SevenRules.FirstStmts.{AreFirst, IsFirstCall}
use Rattle.mpl_mean.proofs.SevenRules.FirstExpressions.{IsFirst}
use Rattle.mpl_mean.proofs.SevenRules.FirstTypes.{FirstEnvironment, IsFirstType, IsFirstMember, type_first, variable_first, member_first, call_first}

-- ---- the same failures by all rules and by the seven

abbrev pub Same : Located → Type 0
Same p = failures_at rules p ≡ failures_at first_rules p

abbrev pub AllSame : List Located → Type 0
AllSame [] = Unit {0}
AllSame (p ∷ ps) = Same p × AllSame ps

pub same_append : (xs ys : List Located) → AllSame xs → AllSame ys → AllSame (xs ++ ys)
same_append [] ys a b = b
same_append (x ∷ xs) ys a b = (a.0, same_append xs ys a.1 b)

pub same_failures : (xs : List Located) → AllSame xs → failures_among rules xs ≡ failures_among first_rules xs
same_failures [] h = refl
same_failures (x ∷ xs) h = ap₂ (λ a b. a ++ b) h.0 (same_failures xs h.1)

abbrev pub listed : ℕ → List Rule → List Failure
listed at rs = map (λ (r : Rule). record { at = at; rule = r.number }) rs

-- a rule that holds adds nothing
pub with_one : (at : ℕ) (r : Rule) (b : Bool) → b ≡ true → listed at (if not b then r ∷ [] else []) ≡ []
with_one at r b e = ap (λ (b : Bool). listed at (if not b then r ∷ [] else [])) e

pub with_second : (at : ℕ) (q r : Rule) (a b : Bool) → b ≡ true
    → listed at (if not a then q ∷ (if not b then r ∷ [] else []) else (if not b then r ∷ [] else [])) ≡ listed at (if not a then q ∷ [] else [])
with_second at q r a b e =
    ap (λ (b : Bool). listed at (if not a then q ∷ (if not b then r ∷ [] else []) else (if not b then r ∷ [] else []))) e

-- ---- expressions

binary_holds : (l r : Option ValueType) → IsFirstType l → IsFirstType r → binary_agrees Arithmetic l r ≡ true
binary_holds None r a b = refl
binary_holds (Some l) None a b = refl
binary_holds (Some OfInt) (Some OfInt) a b = refl
binary_holds (Some OfInt) r a b = absurd b
binary_holds l r a b = absurd a

variable_same : (at : ℕ) (environment : Environment) (name : Name) → Same (place at environment (node.UsedVariable name))
variable_same at environment name = refl

whole_same : (at : ℕ) (environment : Environment) (t : Target) → Same (place at environment (node.WholePlace t))
whole_same at environment t = refl

binary_same : (at : ℕ) (operation : Operation) → operation ≡ Arithmetic → (environment : Environment) → FirstEnvironment environment → (l r : Expr) → IsFirst l → IsFirst r
    → Same (place at environment (node.BinaryOperation operation l r))
binary_same at operation e environment first l r a b =
    with_one at (rule 13 operands_agree) _ (subst (λ o. binary_agrees o (type_of environment l) (type_of environment r) ≡ true) (sym e) (binary_holds (type_of environment l) (type_of environment r) (type_first environment first l a) (type_first environment first r b)))

target_same : (environment : Environment) (t : Target) → is_variable t ≡ true → AllSame (target_nodes environment t)
target_same environment (target.Variable at v) h = (refl, tt)
target_same environment (target.Field at v f) h = absurd cc

pub expr_same : (environment : Environment) → FirstEnvironment environment → (p : Expr) → IsFirst p → AllSame (expr_nodes environment p)
expr_same environment first (expr.Number at value) h = tt
expr_same environment first (expr.Whole at t) h = (refl, target_same environment t h)
expr_same environment first (expr.Binary at line operator l r) h =
    (binary_same at.span.from (binary_operation operator) h.0 environment first l r h.1 h.2, same_append (expr_nodes environment l) (expr_nodes environment r) (expr_same environment first l h.1) (expr_same environment first r h.2))
expr_same environment first other h = absurd h

-- ---- calls

each_same : (environment : Environment) → FirstEnvironment environment → (ps : Exprs) → AreFirst ps → AllSame (nodes_of_each environment ps)
each_same environment first expr.NoExpr h = tt
each_same environment first (expr.MoreExprs p ps) h = same_append (expr_nodes environment p) (nodes_of_each environment ps) (expr_same environment first p h.0) (each_same environment first ps h.1)

int_has_value : (r : ResultType) → is_int_result r ≡ true → has_value r ≡ true
int_has_value (Void at) h = absurd cc
int_has_value (Typed at type) h = refl

has_value_first : (m : Option Member) → IsFirstMember m → member_has_value m ≡ true
has_value_first None h = refl
has_value_first (Some member) h = int_has_value member.result h

called_first : (environment : Environment) → FirstEnvironment environment → (t : Target) (name : List ℕ) → is_variable t ≡ true → IsFirstMember (member_called environment (Some t) name)
called_first environment first (target.Variable at v) name h = member_first environment.declarations name (variable_shape environment v.text) (variable_first environment first v.text)
called_first environment first (target.Field at v f) name h = absurd cc

pub call_same : (environment : Environment) → FirstEnvironment environment → environment.body ≡ InMain → (p : Expr) → IsFirstCall p → AllSame (expr_nodes environment p)
call_same environment first main (expr.CallOnTarget at t member arguments) h = (
  with_one at.span.from (rule 20 void_call_is_alone) _ (has_value_first (member_called environment (Some t) member.text) (called_first environment first t member.text h.0)),
  (
    with_second at.span.from (rule 19 member_call_agrees) (rule 21 call_is_in_place) _ _ (ap (λ body. call_may_stand body (is_persistent environment.class) (target_shape environment t)) main),
    (refl, same_append (target_nodes environment t) (nodes_of_each environment arguments) (target_same environment t h.0) (each_same environment first arguments h.1)),
  ),
)
call_same environment first main other h = absurd h

pub call_type_first : (environment : Environment) → FirstEnvironment environment → (p : Expr) → IsFirstCall p → IsFirstType (type_of environment p)
call_type_first environment first (expr.CallOnTarget at t member arguments) h =
    call_first environment.declarations (member_called environment (Some t) member.text) (called_first environment first t member.text h.0)
call_type_first environment first other h = absurd h
