-- Where no use is marked the code of an expression needs nothing, and so do guards.
use Rattle.std.proofs.Common.{◌≡◌, ℕ, ◌+◌, Bool, true, false, List, [], ◌∷◌, ◌++◌, length, Option, Some, None, refl, arith}
use Rattle.mpl_ast.specs.declared.class.Entry.{Entry}
use Rattle.mpl_ast.specs.declared.expression.Expression.{Expression}
use Rattle.mpl_ast.specs.declared.program.Declaration.{Declaration}
use Rattle.mdf_code.specs.declared.instr.Instr.TheVariants as instr
use Rattle.mdf_code.specs.declared.raw.RawEntry.{RawEntry}
use Rattle.mpl_value.specs.Words.{bool_word}
use Rattle.mpl_mean.specs.Laws.Sizes.{Every}
use Rattle.mpl_mean.specs.Levels.{BinaryOperator, Or, And, Equate, Compare, Add, Multiply}
use Rattle.mpl_mean.specs.Meaning.CallMeaning.{name_of_target}
use Rattle.mpl_mean.specs.Meaning.Layout.{Class, Member, member_named}
use Rattle.mpl_mean.specs.Plain.Expr.{Expr, Exprs, expr_of}
use Rattle.mpl_mean.specs.Plain.Expr as e
use Rattle.mpl_gen_code.specs.ExpressionCode.{Codes, binary_code, codes_of, codes_of_each, equality_instr, flows_code, function_number, need_of, of_call, of_place, of_value, own_code, plain_code, post_code, read_code, relation_instr, send_code, sum_instr, target_code, term_instr, unary_instr, values_code}
use Rattle.mpl_gen_code.specs.Pieces.{Piece}
use Rattle.mpl_gen_code.specs.ProgramImage.{all_entries, entries_image, entries_of_select, guard_code, guard_env, with_entry}
use Rattle.mpl_gen_code.specs.Scopes.{Env, Found, Slot, class_found, found_at, whole_slot}
use Rattle.mpl_gen_code.specs.Words.{words_of_expr}
use Rattle.mpl_gen_laws.specs.MarkedUses.{needs_of_guard}
use Rattle.mpl_gen_laws.proofs.CountedNeeds.{Needs, both_need, either_needs, none_needed, one_needs, same_needs, then_needs}
use Rattle.mpl_gen_laws.proofs.NeededExpressions.{element_counted, equality_none, load_counted, relation_none, sum_none, term_none, unary_none}

record NoNeeds (codes : Codes) : Type 0 where
  value : Needs 0 codes.value
  flow : Needs 0 codes.flow

valued : {value : Piece} (words : ℕ) → Needs 0 value → NoNeeds (of_value words value)
valued words h = record { value = h; flow = then_needs (instr.ArgWords words) refl h }

called : {call : Piece} → Needs 0 call → NoNeeds (of_call call)
called h = record { value = then_needs instr.Force refl h; flow = h }

placed : {value : Piece} (o : Option Slot) (words : ℕ) → Needs 0 value → NoNeeds (of_place o words value)
placed None words h = valued words h
placed (Some slot) words h = record { value = h; flow = one_needs (instr.ArgVariable slot.number) }

both_none : {p q : Piece} → Needs 0 p → Needs 0 q → Needs 0 (Rattle.mpl_gen_code.specs.Pieces.joined p q)
both_none h k = same_needs (omega arith) (both_need h k)

need_off : (b : Bool) (o : Option Found) → b ≡ false → Needs 0 (need_of b o)
need_off true o h = absurd cc
need_off false None h = none_needed
need_off false (Some found) h = none_needed

read_off : (b : Bool) (o : Option Found) → b ≡ false → Needs 0 (read_code b o)
read_off b o h = both_none (need_off b o h) (load_counted o)

binary_off : {left right : Piece} (line : ℕ) (operator : BinaryOperator) → Needs 0 left → Needs 0 right → Needs 0 (binary_code line operator left right)
binary_off line Or h k = both_none h (same_needs (omega arith) (either_needs (one_needs (instr.Push (bool_word true))) k))
binary_off line And h k = both_none h (same_needs (omega arith) (either_needs k (one_needs (instr.Push (bool_word false)))))
binary_off line (Equate operator) h k = both_none h (then_needs (equality_instr operator) (equality_none operator) k)
binary_off line (Compare operator) h k = both_none h (then_needs (relation_instr operator) (relation_none operator) k)
binary_off line (Add operator) h k = both_none h (then_needs (sum_instr line operator) (sum_none line operator) k)
binary_off line (Multiply operator) h k = both_none h (then_needs (term_instr line operator) (term_none line operator) k)

plain_off : {arguments : Piece} (o : Option ℕ) → Needs 0 arguments → Needs 0 (plain_code o arguments)
plain_off None h = none_needed
plain_off (Some number) h = then_needs (instr.Call number) refl h

own_off : {arguments : Piece} (o : Option Member) (count : ℕ) → Needs 0 arguments → Needs 0 (own_code o count arguments)
own_off None count h = none_needed
own_off (Some m) count h = both_none (one_needs instr.Own) (then_needs (instr.Post m.id count) refl h)

send_off : {arguments : Piece} (o : Option Member) (count : ℕ) → Needs 0 arguments → Needs 0 (send_code o count arguments)
send_off None count h = none_needed
send_off (Some m) count h = then_needs (instr.Send m.id count) refl h

post_off : {arguments : Piece} (o : Option Member) (count : ℕ) → Needs 0 arguments → Needs 0 (post_code o count arguments)
post_off None count h = none_needed
post_off (Some m) count h = then_needs (instr.Post m.id count) refl h

target_off : {arguments : Piece} (b : Bool) (line : ℕ) (found : Option Found) (class : Option Class) (member : List ℕ) (count : ℕ) → b ≡ false → Needs 0 arguments → Needs 0 (target_code b line found class member count arguments)
target_off b line found None member count off h = none_needed
target_off {arguments} b line found (Some class) member count off h = by_kind class.is_regular where
  by_kind : (regular : Bool) → Needs 0 (target_code b line found (Some (record class { is_regular = regular })) member count arguments)
  by_kind true = send_off (member_named member class.members) count h
  by_kind false = both_none (then_needs (instr.Bound line) refl (read_off b found off)) (post_off (member_named member class.members) count h)

record EachNone (codes : List Codes) : Type 0 where
  values : Needs 0 (values_code codes)
  flows : Needs 0 (flows_code codes)

mutual
  codes_off : (env : Env) → ((id : ℕ) → env.marks id ≡ false) → (expr : Expr) → NoNeeds (codes_of env expr)
  codes_off env off (e.Number at value) = valued 1 (one_needs (instr.Push value))
  codes_off env off (e.Truth at value) = valued 1 (one_needs (instr.Push (bool_word value)))
  codes_off env off (e.Own at) = valued 1 (one_needs instr.Own)
  codes_off env off (e.Input at) = valued 1 (one_needs (instr.Input at.line))
  codes_off env off (e.Whole at target) =
      placed (whole_slot env (name_of_target target)) (words_of_expr env (e.Whole at target)) (read_off (env.marks at.id) (found_at env target) (off at.id))
  codes_off env off (e.Element at line target index) =
      valued 1 (both_none (need_off (env.marks at.id) (found_at env target) (off at.id)) (both_none (codes_off env off index).value (element_counted line (found_at env target))))
  codes_off env off (e.PlainCall at function arguments) =
      valued (words_of_expr env (e.PlainCall at function arguments)) (plain_off (function_number env.declarations function.text) (each_off env off arguments).values)
  codes_off env off (e.Parenthesized at inner) = valued (words_of_expr env inner) (codes_off env off inner).value
  codes_off env off (e.Unary at line operator operand) = valued 1 (then_needs (unary_instr line operator) (unary_none line operator) (codes_off env off operand).value)
  codes_off env off (e.Binary at line operator left right) = valued 1 (binary_off line operator (codes_off env off left).value (codes_off env off right).value)
  codes_off env off (e.CallOnOwn at member arguments) = called (own_off (member_named member.text env.members) (length (codes_of_each env arguments)) (each_off env off arguments).flows)
  codes_off env off (e.CallOnTarget at target member arguments) =
      called (target_off (env.marks at.id) at.line (found_at env target) (class_found env (found_at env target)) member.text (length (codes_of_each env arguments)) (off at.id) (each_off env off arguments).flows)

  each_off : (env : Env) → ((id : ℕ) → env.marks id ≡ false) → (exprs : Exprs) → EachNone (codes_of_each env exprs)
  each_off env off e.NoExpr = record { values = none_needed; flows = none_needed }
  each_off env off (e.MoreExprs expr exprs) =
      record { values = both_none (codes_off env off expr).value (each_off env off exprs).values; flows = both_none (codes_off env off expr).flow (each_off env off exprs).flows }

-- ---- guards

abbrev GuardFree : RawEntry → Type 0
GuardFree entry = needs_of_guard entry.guard ≡ 0

guard_free : (ds : List Declaration) (class : Class) (m : Member) (o : Option Expression) → needs_of_guard (guard_code ds class m o) ≡ 0
guard_free ds class m None = refl
guard_free ds class m (Some guard) = (codes_off (guard_env ds class m) (λ id. refl) (expr_of guard)).value.are 0

with_free : (ds : List Declaration) (class : Class) (entry : Entry) (o : Option Member) (others : List RawEntry) → Every GuardFree others → Every GuardFree (with_entry ds class entry o others)
with_free ds class entry None others h = h
with_free ds class entry (Some m) others h = (guard_free ds class m entry.guard, h)

entries_free : (ds : List Declaration) (class : Class) (entries : List Entry) → Every GuardFree (entries_image ds class entries)
entries_free ds class [] = tt
entries_free ds class (entry ∷ entries) = with_free ds class entry (member_named entry.member.text class.members) (entries_image ds class entries) (entries_free ds class entries)

select_free : (ds : List Declaration) (class : Class) (o : Option (List Entry)) → Every GuardFree (entries_of_select ds class o)
select_free ds class None = tt
select_free ds class (Some entries) = entries_free ds class entries

every_both : {A : Type 0} (P : A → Type 0) (xs ys : List A) → Every P xs → Every P ys → Every P (xs ++ ys)
every_both P [] ys h k = k
every_both P (x ∷ xs) ys h k = (h.0, every_both P xs ys h.1 k)

pub guards_free : (ds : List Declaration) (classes : List Class) (selects : List (Option (List Entry))) → Every GuardFree (all_entries ds classes selects)
guards_free ds [] selects = tt
guards_free ds (class ∷ classes) [] = tt
guards_free ds (class ∷ classes) (select ∷ selects) = every_both GuardFree (entries_of_select ds class select) (all_entries ds classes selects) (select_free ds class select) (guards_free ds classes selects)
