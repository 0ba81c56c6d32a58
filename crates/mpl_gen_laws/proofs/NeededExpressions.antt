-- The code of an expression needs a variable as often as uses on the ways through it are marked.
use Rattle.std.proofs.Common.{◌≡◌, ℕ, ◌+◌, Bool, true, false, List, [], ◌∷◌, length, Option, Some, None, if◌then◌else◌, refl, ap, sym, subst, arith, ◌∙◌}
use Rattle.mpl_ast.specs.declared.class.Formal.{Formal}
use Rattle.mpl_ast.specs.declared.expression.EqualityOperator.{EqualityOperator}
use Rattle.mpl_ast.specs.declared.expression.EqualityOperator.TheVariants as equality
use Rattle.mpl_ast.specs.declared.expression.RelationOperator.{RelationOperator}
use Rattle.mpl_ast.specs.declared.expression.RelationOperator.TheVariants as relation
use Rattle.mpl_ast.specs.declared.expression.SumOperator.{SumOperator}
use Rattle.mpl_ast.specs.declared.expression.SumOperator.TheVariants as sum
use Rattle.mpl_ast.specs.declared.expression.TermOperator.{TermOperator}
use Rattle.mpl_ast.specs.declared.expression.TermOperator.TheVariants as term
use Rattle.mpl_ast.specs.declared.expression.UnaryOperator.{UnaryOperator}
use Rattle.mpl_ast.specs.declared.expression.UnaryOperator.TheVariants as unary
use Rattle.mpl_ast.specs.declared.place.At.{At}
use Rattle.mpl_ast.specs.declared.expression.Target.{Target}
use Rattle.mpl_value.specs.Words.{bool_word}
use Rattle.mpl_mean.specs.Levels.{BinaryOperator, Or, And, Equate, Compare, Add, Multiply}
use Rattle.mpl_mean.specs.Meaning.CallMeaning.{name_of_target}
use Rattle.mpl_mean.specs.Meaning.Layout.{Class, Member, member_named}
use Rattle.mpl_mean.specs.Pending.BodyWays.{binary_ways, flow_ways, flows_ways, receives, unless_whole, uses, value_ways, values_ways}
use Rattle.mpl_mean.specs.Pending.Paths.{Ways}
use Rattle.mpl_mean.specs.Plain.Expr.{Expr, Exprs}
use Rattle.mpl_mean.specs.Plain.Expr as e
use Rattle.mpl_mean.specs.Plain.Scopes as plain
use Rattle.mdf_code.specs.declared.instr.Instr.TheVariants as instr
use Rattle.mpl_gen_code.specs.ExpressionCode.{Codes, binary_code, codes_of, codes_of_each, element_from, element_of, equality_instr, flow_code, flows_code, function_number, load_from, load_of, need_of, of_place, own_code, plain_code, post_code, read_code, relation_instr, send_code, sum_instr, target_code, term_instr, unary_instr, value_code, values_code}
use Rattle.mpl_gen_code.specs.Fits.{ExprFits, FlowFits, FlowsFit, May, ValuesFit}
use Rattle.mpl_gen_code.specs.Pieces.{Piece, followed_by, one}
use Rattle.mpl_gen_code.specs.Scopes.{Env, Found, Slot, class_found, found_at, whole_slot}
use Rattle.mpl_gen_code.specs.Words.{words_of_expr}
use Rattle.mpl_gen_code.proofs.Below.{function_numbered}
use Rattle.mpl_gen_laws.specs.MarkedUses.{marked_uses, need_in, one_if}
use Rattle.mpl_gen_laws.proofs.CountedNeeds.{Needs, both_need, either_needs, none_needed, one_needs, same_needs, slot_needs, then_needs}
use Rattle.mpl_gen_laws.proofs.Loosened.{SameFound, SameSlot, class_same, found_same, plain_env, whole_same}

-- ---- instructions that need nothing

pub unary_none : (line : ℕ) (operator : UnaryOperator) → need_in (unary_instr line operator) ≡ 0
unary_none line unary.Negative = refl
unary_none line unary.Not = refl

pub equality_none : (operator : EqualityOperator) → need_in (equality_instr operator) ≡ 0
equality_none equality.Equal = refl
equality_none equality.Unequal = refl

pub relation_none : (operator : RelationOperator) → need_in (relation_instr operator) ≡ 0
relation_none relation.Less = refl
relation_none relation.LessEqual = refl
relation_none relation.Greater = refl
relation_none relation.GreaterEqual = refl

pub sum_none : (line : ℕ) (operator : SumOperator) → need_in (sum_instr line operator) ≡ 0
sum_none line sum.Plus = refl
sum_none line sum.Minus = refl

pub term_none : (line : ℕ) (operator : TermOperator) → need_in (term_instr line operator) ≡ 0
term_none line term.Times = refl
term_none line term.Over = refl
term_none line term.Modulo = refl

load_none : (found : Found) (slot : Option Slot) → need_in (load_from found slot) ≡ 0
load_none found None = refl
load_none found (Some slot) = refl

element_none : (line : ℕ) (found : Found) (slot : Option Slot) → need_in (element_from line found slot) ≡ 0
element_none line found None = refl
element_none line found (Some slot) = refl

-- ---- places

slot_used : (marks : ℕ → Bool) (node : ℕ) (scope : List Slot) (found : Found) (p : Option plain.Slot) (o : Option Slot) → SameSlot scope p o
    → Needs (marked_uses marks (Rattle.mpl_mean.specs.Pending.BodyWays.forces node p)) (need_of (marks node) (Some (record found { slot = o })))
slot_used marks node scope found None None h = by_mark (marks node) where
  by_mark : (b : Bool) → Needs 0 (need_of b (Some (record found { slot = None })))
  by_mark true = none_needed
  by_mark false = none_needed
slot_used marks node scope found None (Some slot) h = absurd h
slot_used marks node scope found (Some p) None h = absurd h
slot_used marks node scope found (Some p) (Some slot) h = slot_needs (marks node) slot

pub need_counted : (marks : ℕ → Bool) (node : ℕ) (scope : List Slot) (p : Option plain.Found) (o : Option Found) → SameFound scope p o → Needs (marked_uses marks (uses node p)) (need_of (marks node) o)
need_counted marks node scope None None h = none_needed
need_counted marks node scope None (Some found) h = absurd h
need_counted marks node scope (Some p) None h = absurd h
need_counted marks node scope (Some p) (Some found) h = slot_used marks node scope found p.slot found.slot h.slot

pub load_counted : (o : Option Found) → Needs 0 (load_of o)
load_counted None = none_needed
load_counted (Some found) = same_needs (load_none found found.slot) (one_needs (load_from found found.slot))

pub element_counted : (line : ℕ) (o : Option Found) → Needs 0 (element_of line o)
element_counted line None = none_needed
element_counted line (Some found) = same_needs (element_none line found found.slot) (one_needs (element_from line found found.slot))

pub place_counted : (env : Env) (node : ℕ) (t : Target) → Needs (marked_uses env.marks (uses node (plain.found_at (plain_env env) t))) (need_of (env.marks node) (found_at env t))
place_counted env node t = need_counted env.marks node env.scope (plain.found_at (plain_env env) t) (found_at env t) (found_same env t)

read_counted : (env : Env) (node : ℕ) (t : Target) → Needs (marked_uses env.marks (uses node (plain.found_at (plain_env env) t))) (read_code (env.marks node) (found_at env t))
read_counted env node t = same_needs (omega arith) (both_need (place_counted env node t) (load_counted (found_at env t)))

-- ---- operators and flows

binary_counted : {left right : Piece} (marks : ℕ → Bool) (line : ℕ) (operator : BinaryOperator) (a b : Ways) → Needs (marked_uses marks a) left → Needs (marked_uses marks b) right
    → Needs (marked_uses marks (binary_ways operator a b)) (binary_code line operator left right)
binary_counted marks line Or a b h k = same_needs (omega arith) (both_need h (either_needs (one_needs (instr.Push (bool_word true))) k))
binary_counted marks line And a b h k = same_needs (omega arith) (both_need h (either_needs k (one_needs (instr.Push (bool_word false)))))
binary_counted marks line (Equate operator) a b h k = both_need h (then_needs (equality_instr operator) (equality_none operator) k)
binary_counted marks line (Compare operator) a b h k = both_need h (then_needs (relation_instr operator) (relation_none operator) k)
binary_counted marks line (Add operator) a b h k = both_need h (then_needs (sum_instr line operator) (sum_none line operator) k)
binary_counted marks line (Multiply operator) a b h k = both_need h (then_needs (term_instr line operator) (term_none line operator) k)

whole_counted : {value : Piece} (marks : ℕ → Bool) (scope : List Slot) (words : ℕ) (ways : Ways) (p : Option plain.Slot) (o : Option Slot) → SameSlot scope p o → Needs (marked_uses marks ways) value
    → Needs (marked_uses marks (unless_whole p ways)) (of_place o words value).flow
whole_counted marks scope words ways None None h k = then_needs (instr.ArgWords words) refl k
whole_counted marks scope words ways None (Some slot) h k = absurd h
whole_counted marks scope words ways (Some p) None h k = absurd h
whole_counted marks scope words ways (Some p) (Some slot) h k = one_needs (instr.ArgVariable slot.number)

whole_value : (o : Option Slot) (words : ℕ) (value : Piece) → (of_place o words value).value ≡ value
whole_value None words value = refl
whole_value (Some slot) words value = refl

-- ---- calls

plain_counted : {n : ℕ} {arguments : Piece} (o : Option ℕ) (number : ℕ) → o ≡ Some number → Needs n arguments → Needs n (plain_code o arguments)
plain_counted {n} {arguments} o number is h = subst (λ o. Needs n (plain_code o arguments)) (sym is) (then_needs (instr.Call number) refl h)

own_counted : {n : ℕ} {arguments : Piece} (o : Option Member) (m : Member) (count : ℕ) → o ≡ Some m → Needs n arguments → Needs n (own_code o count arguments)
own_counted {n} {arguments} o m count is h =
    subst (λ o. Needs n (own_code o count arguments)) (sym is) (same_needs (omega arith) (both_need (one_needs instr.Own) (then_needs (instr.Post m.id count) refl h)))

send_counted : {n : ℕ} {arguments : Piece} (o : Option Member) (m : Member) (count : ℕ) → o ≡ Some m → Needs n arguments → Needs n (send_code o count arguments)
send_counted {n} {arguments} o m count is h = subst (λ o. Needs n (send_code o count arguments)) (sym is) (then_needs (instr.Send m.id count) refl h)

post_counted : {n : ℕ} {arguments : Piece} (o : Option Member) (m : Member) (count : ℕ) → o ≡ Some m → Needs n arguments → Needs n (post_code o count arguments)
post_counted {n} {arguments} o m count is h = subst (λ o. Needs n (post_code o count arguments)) (sym is) (then_needs (instr.Post m.id count) refl h)

target_counted : {n : ℕ} {arguments : Piece} (env : Env) (at : At) (t : Target) (class : Class) (m : Member) (member : List ℕ) (count : ℕ) → member_named member class.members ≡ Some m → Needs n arguments
    → Needs (marked_uses env.marks (receives at.id (plain.found_at (plain_env env) t) (Some class)) + n) (target_code (env.marks at.id) at.line (found_at env t) (Some class) member count arguments)
target_counted {n} {arguments} env at t class m member count is h = by_kind class.is_regular where
  by_kind : (regular : Bool) → Needs (marked_uses env.marks (receives at.id (plain.found_at (plain_env env) t) (Some (record class { is_regular = regular }))) + n)
      (target_code (env.marks at.id) at.line (found_at env t) (Some (record class { is_regular = regular })) member count arguments)
  by_kind true = same_needs (omega arith) (send_counted (member_named member class.members) m count is h)
  by_kind false = both_need (then_needs (instr.Bound at.line) refl (read_counted env at.id t)) (post_counted (member_named member class.members) m count is h)

classes_counted : {n : ℕ} {arguments : Piece} (env : Env) (at : At) (t : Target) (class : Class) (m : Member) (member : List ℕ) (count : ℕ) → class_found env (found_at env t) ≡ Some class → member_named member class.members ≡ Some m → Needs n arguments
    → Needs (marked_uses env.marks (receives at.id (plain.found_at (plain_env env) t) (plain.class_found (plain_env env) (plain.found_at (plain_env env) t))) + n)
    (target_code (env.marks at.id) at.line (found_at env t) (class_found env (found_at env t)) member count arguments)
classes_counted {n} {arguments} env at t class m member count is named h =
    let same = class_same env (plain.found_at (plain_env env) t) (found_at env t) (found_same env t) in
    subst (λ o. Needs (marked_uses env.marks (receives at.id (plain.found_at (plain_env env) t) o) + n) (target_code (env.marks at.id) at.line (found_at env t) (class_found env (found_at env t)) member count arguments)) (sym same)
    (subst (λ o. Needs (marked_uses env.marks (receives at.id (plain.found_at (plain_env env) t) o) + n) (target_code (env.marks at.id) at.line (found_at env t) o member count arguments)) (sym is)
    (target_counted env at t class m member count named h))

-- ---- one form after another

mutual
  pub value_counted : (may : May) (env : Env) (expr : Expr) → ExprFits may env expr → Needs (marked_uses env.marks (value_ways (plain_env env) expr)) (value_code env expr)
  value_counted may env (e.Number at value) fits = one_needs (instr.Push value)
  value_counted may env (e.Truth at value) fits = one_needs (instr.Push (bool_word value))
  value_counted may env (e.Own at) fits = one_needs instr.Own
  value_counted may env (e.Input at) fits = one_needs (instr.Input at.line)
  value_counted may env (e.Whole at target) fits =
      subst (Needs (marked_uses env.marks (uses at.id (plain.found_at (plain_env env) target)))) (sym (whole_value (whole_slot env (name_of_target target)) (words_of_expr env (e.Whole at target)) (read_code (env.marks at.id) (found_at env target))))
      (read_counted env at.id target)
  value_counted may env (e.Element at line target index) fits =
      same_needs (omega arith) (both_need (place_counted env at.id target) (both_need (value_counted may env index fits.1) (element_counted line (found_at env target))))
  value_counted may env (e.PlainCall at function arguments) fits =
      let n = function_numbered env.declarations function.text fits.0 fits.1 in
      plain_counted (function_number env.declarations function.text) n.number n.numbered (values_counted may env fits.0.formals arguments fits.2)
  value_counted may env (e.Parenthesized at inner) fits = value_counted may env inner fits
  value_counted may env (e.Unary at line operator operand) fits = then_needs (unary_instr line operator) (unary_none line operator) (value_counted may env operand fits.0)
  value_counted may env (e.Binary at line operator left right) fits =
      binary_counted env.marks line operator (value_ways (plain_env env) left) (value_ways (plain_env env) right) (value_counted may env left fits.0) (value_counted may env right fits.2)
  value_counted may env (e.CallOnOwn at member arguments) fits = absurd fits
  value_counted may env (e.CallOnTarget at target member arguments) fits = absurd fits

  values_counted : (may : May) (env : Env) (formals : List Formal) (exprs : Exprs) → ValuesFit may env formals exprs → Needs (marked_uses env.marks (values_ways (plain_env env) exprs)) (values_code (codes_of_each env exprs))
  values_counted may env [] e.NoExpr fits = none_needed
  values_counted may env [] (e.MoreExprs expr exprs) fits = absurd fits
  values_counted may env (formal ∷ formals) e.NoExpr fits = absurd fits
  values_counted may env (formal ∷ formals) (e.MoreExprs expr exprs) fits = both_need (value_counted may env expr fits.0) (values_counted may env formals exprs fits.2)

mutual
  pub flow_counted : (may : May) (env : Env) (expr : Expr) → FlowFits may env expr → Needs (marked_uses env.marks (flow_ways (plain_env env) expr)) (flow_code env expr)
  flow_counted may env (e.Whole at target) fits =
      whole_counted env.marks env.scope (words_of_expr env (e.Whole at target)) (uses at.id (plain.found_at (plain_env env) target)) (plain.whole_slot (plain_env env) (e.Whole at target)) (whole_slot env (name_of_target target)) (whole_same env at target)
      (read_counted env at.id target)
  flow_counted may env (e.Number at value) fits = then_needs (instr.ArgWords 1) refl (value_counted may env (e.Number at value) fits)
  flow_counted may env (e.Truth at value) fits = then_needs (instr.ArgWords 1) refl (value_counted may env (e.Truth at value) fits)
  flow_counted may env (e.Own at) fits = then_needs (instr.ArgWords 1) refl (value_counted may env (e.Own at) fits)
  flow_counted may env (e.Input at) fits = then_needs (instr.ArgWords 1) refl (value_counted may env (e.Input at) fits)
  flow_counted may env (e.Element at line target index) fits = then_needs (instr.ArgWords 1) refl (value_counted may env (e.Element at line target index) fits)
  flow_counted may env (e.PlainCall at function arguments) fits = then_needs (instr.ArgWords (words_of_expr env (e.PlainCall at function arguments))) refl (value_counted may env (e.PlainCall at function arguments) fits)
  flow_counted may env (e.Parenthesized at inner) fits = then_needs (instr.ArgWords (words_of_expr env inner)) refl (value_counted may env (e.Parenthesized at inner) fits)
  flow_counted may env (e.Unary at line operator operand) fits = then_needs (instr.ArgWords 1) refl (value_counted may env (e.Unary at line operator operand) fits)
  flow_counted may env (e.Binary at line operator left right) fits = then_needs (instr.ArgWords 1) refl (value_counted may env (e.Binary at line operator left right) fits)
  flow_counted may env (e.CallOnOwn at member arguments) fits =
      own_counted (member_named member.text env.members) fits.1 (length (codes_of_each env arguments)) fits.4 (flows_counted may env fits.1.formals arguments fits.7)
  flow_counted may env (e.CallOnTarget at target member arguments) fits =
      classes_counted env at target fits.0 fits.1 member.text (length (codes_of_each env arguments)) fits.3 fits.4 (flows_counted may env fits.1.formals arguments fits.6)

  flows_counted : (may : May) (env : Env) (formals : List Formal) (exprs : Exprs) → FlowsFit may env formals exprs → Needs (marked_uses env.marks (flows_ways (plain_env env) exprs)) (flows_code (codes_of_each env exprs))
  flows_counted may env [] e.NoExpr fits = none_needed
  flows_counted may env [] (e.MoreExprs expr exprs) fits = absurd fits
  flows_counted may env (formal ∷ formals) e.NoExpr fits = absurd fits
  flows_counted may env (formal ∷ formals) (e.MoreExprs expr exprs) fits = both_need (flow_counted may env expr fits.0) (flows_counted may env formals exprs fits.2)
