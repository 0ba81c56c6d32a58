-- The code of an expression has at most five instructions a form.
use Rattle.std.proofs.Common.{◌≡◌, ◌≤◌, ℕ, ◌+◌, ◌*◌, Bool, true, false, List, [], ◌∷◌, length, Option, Some, None, if◌then◌else◌, arith}
use Rattle.mpl_ast.specs.declared.program.Declaration.{Declaration}
use Rattle.mpl_value.specs.Words.{bool_word}
use Rattle.mpl_mean.specs.Laws.Sizes.{Every}
use Rattle.mpl_mean.specs.Levels.{BinaryOperator, Or, And, Equate, Compare, Add, Multiply}
use Rattle.mpl_ast.specs.declared.expression.EqualityOperator.{EqualityOperator}
use Rattle.mpl_ast.specs.declared.expression.EqualityOperator.TheVariants as equality
use Rattle.mpl_ast.specs.declared.expression.RelationOperator.{RelationOperator}
use Rattle.mpl_ast.specs.declared.expression.RelationOperator.TheVariants as relation
use Rattle.mpl_ast.specs.declared.expression.SumOperator.{SumOperator}
use Rattle.mpl_ast.specs.declared.expression.SumOperator.TheVariants as sum
use Rattle.mpl_ast.specs.declared.expression.TermOperator.{TermOperator}
use Rattle.mpl_ast.specs.declared.expression.TermOperator.TheVariants as term
use Rattle.mpl_ast.specs.declared.expression.UnaryOperator.{UnaryOperator}
use Rattle.mpl_ast.specs.declared.expression.UnaryOperator.TheVariants as unary
use Rattle.mpl_mean.specs.Meaning.CallMeaning.{name_of_target}
use Rattle.mpl_mean.specs.Meaning.Layout.{Class, Member, member_named}
use Rattle.mpl_mean.specs.Plain.Expr.{Expr, Exprs}
use Rattle.mpl_mean.specs.Plain.Expr as e
use Rattle.mdf_code.specs.declared.instr.Instr.{Instr}
use Rattle.mdf_code.specs.declared.instr.Instr.TheVariants as instr
use Rattle.mpl_gen_code.specs.ExpressionCode.{Codes, binary_code, codes_of, codes_of_each, element_from, element_of, equality_instr, flows_code, function_number, load_from, load_of, need_of, need_of_slot, of_call, of_place, of_value, own_code, plain_code, post_code, read_code, relation_instr, send_code, sum_instr, target_code, term_instr, unary_instr, values_code}
use Rattle.mpl_gen_code.specs.Pieces.{Piece, one}
use Rattle.mpl_gen_code.specs.Scopes.{Env, Found, Slot, class_found, found_at, whole_slot}
use Rattle.mpl_gen_code.specs.Words.{words_of_expr}
use Rattle.mpl_gen_expr.specs.Drafts.{InstrFits}
use Rattle.mpl_gen_bounds.proofs.FormCounts.{forms, forms_each, some_forms}
use Rattle.mpl_gen_bounds.proofs.LaidPieces.{IsLimit, Laid, both_laid, either_laid, fits_below, marked_laid, more, none_laid, one_laid, then_laid}
use Rattle.mpl_gen_bounds.proofs.SmallScopes.{FoundSmall, IfAny, NumberSmall, Sized, Small, place_small, whole_small, words_small}

-- ---- operators

unary_fits : (line : ℕ) (operator : UnaryOperator) → InstrFits (unary_instr line operator)
unary_fits line unary.Negative = tt
unary_fits line unary.Not = tt

equality_fits : (operator : EqualityOperator) → InstrFits (equality_instr operator)
equality_fits equality.Equal = tt
equality_fits equality.Unequal = tt

relation_fits : (operator : RelationOperator) → InstrFits (relation_instr operator)
relation_fits relation.Less = tt
relation_fits relation.LessEqual = tt
relation_fits relation.Greater = tt
relation_fits relation.GreaterEqual = tt

sum_fits : (line : ℕ) (operator : SumOperator) → InstrFits (sum_instr line operator)
sum_fits line sum.Plus = tt
sum_fits line sum.Minus = tt

term_fits : (line : ℕ) (operator : TermOperator) → InstrFits (term_instr line operator)
term_fits line term.Times = tt
term_fits line term.Over = tt
term_fits line term.Modulo = tt

module _ (ds : List Declaration) (sized : Sized ds) (limit : ℕ) (is : IsLimit limit) (wide : 1024 ≤ limit) where
  binary_laid : {m n : ℕ} {left right : Piece} (line : ℕ) (operator : BinaryOperator) → Laid limit is m left → Laid limit is n right → Laid limit is (m + n + 3) (binary_code line operator left right)
  binary_laid line Or h k = more limit is (omega arith) (both_laid limit is h (either_laid limit is (one_laid limit is (instr.Push (bool_word true)) (λ room. tt)) k))
  binary_laid line And h k = more limit is (omega arith) (both_laid limit is h (either_laid limit is k (one_laid limit is (instr.Push (bool_word false)) (λ room. tt))))
  binary_laid line (Equate operator) h k = more limit is (omega arith) (both_laid limit is h (then_laid limit is (equality_instr operator) k (λ room. equality_fits operator)))
  binary_laid line (Compare operator) h k = more limit is (omega arith) (both_laid limit is h (then_laid limit is (relation_instr operator) k (λ room. relation_fits operator)))
  binary_laid line (Add operator) h k = more limit is (omega arith) (both_laid limit is h (then_laid limit is (sum_instr line operator) k (λ room. sum_fits line operator)))
  binary_laid line (Multiply operator) h k = more limit is (omega arith) (both_laid limit is h (then_laid limit is (term_instr line operator) k (λ room. term_fits line operator)))

  -- ---- places

  abbrev FoundFits : Found → Type 0
  FoundFits = FoundSmall ds sized limit

  abbrev NumberFits : Slot → Type 0
  NumberFits = NumberSmall ds sized limit

  pub need_slot_laid : (o : Option Slot) → IfAny NumberFits o → Laid limit is 1 (need_of_slot o)
  need_slot_laid None h = more limit is (omega arith) (none_laid limit is)
  need_slot_laid (Some slot) h = one_laid limit is (instr.Need slot.number) (λ room. fits_below slot.number is h)

  need_laid : (b : Bool) (o : Option Found) → IfAny FoundFits o → Laid limit is 1 (need_of b o)
  need_laid b None h = more limit is (omega arith) (none_laid limit is)
  need_laid b (Some found) h = marked_laid limit is b (need_slot_laid found.slot h.2)

  load_fits : (found : Found) (slot : Option Slot) → found.offset ≤ 512 → found.words ≤ 1024 → IfAny NumberFits slot → InstrFits (load_from found slot)
  load_fits found None h k n = (fits_below found.offset is (omega (arith, h, wide)), fits_below found.words is (omega (arith, k, wide)))
  load_fits found (Some slot) h k n = (fits_below slot.number is n, fits_below found.offset is (omega (arith, h, wide)), fits_below found.words is (omega (arith, k, wide)))

  load_laid : (o : Option Found) → IfAny FoundFits o → Laid limit is 1 (load_of o)
  load_laid None h = more limit is (omega arith) (none_laid limit is)
  load_laid (Some found) h = one_laid limit is (load_from found found.slot) (λ room. load_fits found found.slot h.0 h.1 h.2)

  read_laid : (b : Bool) (o : Option Found) → IfAny FoundFits o → Laid limit is 2 (read_code b o)
  read_laid b o h = both_laid limit is (need_laid b o h) (load_laid o h)

  element_fits : (line : ℕ) (found : Found) (slot : Option Slot) → found.offset ≤ 512 → found.words ≤ 1024 → IfAny NumberFits slot → InstrFits (element_from line found slot)
  element_fits line found None h k n = (fits_below found.offset is (omega (arith, h, wide)), fits_below found.words is (omega (arith, k, wide)))
  element_fits line found (Some slot) h k n = (fits_below slot.number is n, fits_below found.offset is (omega (arith, h, wide)), fits_below found.words is (omega (arith, k, wide)))

  element_laid : (line : ℕ) (o : Option Found) → IfAny FoundFits o → Laid limit is 1 (element_of line o)
  element_laid line None h = more limit is (omega arith) (none_laid limit is)
  element_laid line (Some found) h = one_laid limit is (element_from line found found.slot) (λ room. element_fits line found found.slot h.0 h.1 h.2)

  -- ---- values and flows

  pub record LaidCodes (n : ℕ) (codes : Codes) : Type 0 where
    pub value : Laid limit is n codes.value
    pub flow : Laid limit is n codes.flow

  valued : {m n : ℕ} {value : Piece} (words : ℕ) → m + 1 ≤ n → words ≤ 1024 → Laid limit is m value → LaidCodes n (of_value words value)
  valued words le few h = record {
    value = more limit is (omega (arith, le)) h;
    flow = more limit is le (then_laid limit is (instr.ArgWords words) h (λ room. fits_below words is (omega (arith, few, wide))));
  }

  called : {m n : ℕ} {call : Piece} → m + 1 ≤ n → Laid limit is m call → LaidCodes n (of_call call)
  called le h = record { value = more limit is le (then_laid limit is instr.Force h (λ room. tt)); flow = more limit is (omega (arith, le)) h }

  place_laid : {value : Piece} (slot : Option Slot) (words : ℕ) → IfAny NumberFits slot → words ≤ 1024 → Laid limit is 2 value → LaidCodes 5 (of_place slot words value)
  place_laid None words n few h = valued words (omega arith) few h
  place_laid (Some slot) words n few h = record {
    value = more limit is (omega arith) h;
    flow = more limit is (omega arith) (one_laid limit is (instr.ArgVariable slot.number) (λ room. fits_below slot.number is n));
  }

  -- ---- calls

  -- the arguments of a call, of so many forms
  record EachLaid (n : ℕ) (codes : List Codes) : Type 0 where
    values : Laid limit is (5 * n) (values_code codes)
    flows : Laid limit is (5 * n) (flows_code codes)
    count : length codes ≤ n

  plain_laid : {n : ℕ} {arguments : Piece} (o : Option ℕ) → Laid limit is n arguments → Laid limit is (n + 1) (plain_code o arguments)
  plain_laid None h = more limit is (omega arith) (none_laid limit is)
  plain_laid (Some number) h = then_laid limit is (instr.Call number) h (λ room. tt)

  own_laid : {n count : ℕ} {arguments : Piece} (o : Option Member) → count ≤ n → Laid limit is n arguments → Laid limit is (n + 2) (own_code o count arguments)
  own_laid None le h = more limit is (omega arith) (none_laid limit is)
  own_laid {n} {count} (Some m) le h =
      more limit is (omega arith) (both_laid limit is (one_laid limit is instr.Own (λ room. tt)) (then_laid limit is (instr.Post m.id count) h (λ room. fits_below count is (omega (arith, le, room)))))

  send_laid : {n count : ℕ} {arguments : Piece} (o : Option Member) → count ≤ n → Laid limit is n arguments → Laid limit is (n + 1) (send_code o count arguments)
  send_laid None le h = more limit is (omega arith) (none_laid limit is)
  send_laid {n} {count} (Some m) le h = then_laid limit is (instr.Send m.id count) h (λ room. fits_below count is (omega (arith, le, room)))

  post_laid : {n count : ℕ} {arguments : Piece} (o : Option Member) → count ≤ n → Laid limit is n arguments → Laid limit is (n + 1) (post_code o count arguments)
  post_laid None le h = more limit is (omega arith) (none_laid limit is)
  post_laid {n} {count} (Some m) le h = then_laid limit is (instr.Post m.id count) h (λ room. fits_below count is (omega (arith, le, room)))

  target_laid : {n count : ℕ} {arguments : Piece} (b : Bool) (line : ℕ) (found : Option Found) (class : Option Class) (member : List ℕ) → IfAny FoundFits found → count ≤ n → Laid limit is n arguments
      → Laid limit is (n + 4) (target_code b line found class member count arguments)
  target_laid b line found None member f le h = more limit is (omega arith) (none_laid limit is)
  target_laid {n} {count} {arguments} b line found (Some class) member f le h = by_kind class.is_regular where
    by_kind : (regular : Bool) → Laid limit is (n + 4) (target_code b line found (Some (record class { is_regular = regular })) member count arguments)
    by_kind true = more limit is (omega arith) (send_laid (member_named member class.members) le h)
    by_kind false =
        more limit is (omega arith)
        (both_laid limit is (then_laid limit is (instr.Bound line) (read_laid b found f) (λ room. tt)) (post_laid (member_named member class.members) le h))

  -- ---- one form after another

  mutual
    pub codes_laid : (env : Env) (expr : Expr) → Small ds sized limit env → LaidCodes (5 * forms expr) (codes_of env expr)
    codes_laid env (e.Number at value) small = valued 1 (omega arith) (omega arith) (one_laid limit is (instr.Push value) (λ room. tt))
    codes_laid env (e.Truth at value) small = valued 1 (omega arith) (omega arith) (one_laid limit is (instr.Push (bool_word value)) (λ room. tt))
    codes_laid env (e.Own at) small = valued 1 (omega arith) (omega arith) (one_laid limit is instr.Own (λ room. tt))
    codes_laid env (e.Input at) small = valued 1 (omega arith) (omega arith) (one_laid limit is (instr.Input at.line) (λ room. tt))
    codes_laid env (e.Whole at target) small =
        place_laid (whole_slot env (name_of_target target)) (words_of_expr env (e.Whole at target)) (whole_small ds sized limit env (name_of_target target) small)
        (words_small ds sized limit env (e.Whole at target) small) (read_laid (env.marks at.id) (found_at env target) (place_small ds sized limit env target small))
    codes_laid env (e.Element at line target index) small =
        let inner = codes_laid env index small in
        let place = place_small ds sized limit env target small in
        valued 1 (omega arith) (omega arith) (both_laid limit is (need_laid (env.marks at.id) (found_at env target) place) (both_laid limit is inner.value (element_laid line (found_at env target) place)))
    codes_laid env (e.PlainCall at function arguments) small =
        let each = each_laid env arguments small in
        valued (words_of_expr env (e.PlainCall at function arguments)) (omega arith) (words_small ds sized limit env (e.PlainCall at function arguments) small)
        (plain_laid (function_number env.declarations function.text) each.values)
    codes_laid env (e.Parenthesized at inner) small = valued (words_of_expr env inner) (omega arith) (words_small ds sized limit env inner small) (codes_laid env inner small).value
    codes_laid env (e.Unary at line operator operand) small =
        valued 1 (omega arith) (omega arith) (then_laid limit is (unary_instr line operator) (codes_laid env operand small).value (λ room. unary_fits line operator))
    codes_laid env (e.Binary at line operator left right) small =
        valued 1 (omega arith) (omega arith) (binary_laid line operator (codes_laid env left small).value (codes_laid env right small).value)
    codes_laid env (e.CallOnOwn at member arguments) small =
        let each = each_laid env arguments small in
        called (omega arith) (own_laid (member_named member.text env.members) (omega (arith, each.count)) each.flows)
    codes_laid env (e.CallOnTarget at target member arguments) small =
        let each = each_laid env arguments small in
        called (omega arith)
        (target_laid (env.marks at.id) at.line (found_at env target) (class_found env (found_at env target)) member.text (place_small ds sized limit env target small) (omega (arith, each.count)) each.flows)

    each_laid : (env : Env) (exprs : Exprs) → Small ds sized limit env → EachLaid (forms_each exprs) (codes_of_each env exprs)
    each_laid env e.NoExpr small = record { values = none_laid limit is; flows = none_laid limit is; count = omega arith }
    each_laid env (e.MoreExprs expr exprs) small =
        let first = codes_laid env expr small in
        let rest = each_laid env exprs small in
        let some = some_forms expr in record {
          values = more limit is (omega arith) (both_laid limit is first.value rest.values);
          flows = more limit is (omega arith) (both_laid limit is first.flow rest.flows);
          count = let few = rest.count in omega (arith, few, some);
        }
