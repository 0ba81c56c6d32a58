-- Each way round a loop of a program's code passes a test, and its lines have letters.
use Rattle.std.proofs.Common.{◌≡◌, ◌≤◌, ◌<◌, ℕ, zero, suc, ◌+◌, Bool, true, false, ◌&&◌, List, [], ◌∷◌, ◌++◌, length, map, Option, Some, None, if◌then◌else◌, ◌⊎◌, inl, inr, refl, ap, subst, arith, ◌∙◌}
use Rattle.std.proofs.lemmas.Option.{slice_get_past}
use Rattle.std.specs.List.{list_all, slice_get}
use Rattle.mpl_ast.specs.declared.expression.EqualityOperator.{EqualityOperator}
use Rattle.mpl_ast.specs.declared.expression.EqualityOperator.TheVariants as equality
use Rattle.mpl_ast.specs.declared.expression.RelationOperator.{RelationOperator}
use Rattle.mpl_ast.specs.declared.expression.RelationOperator.TheVariants as relation
use Rattle.mpl_ast.specs.declared.expression.SumOperator.{SumOperator}
use Rattle.mpl_ast.specs.declared.expression.SumOperator.TheVariants as sum
use Rattle.mpl_ast.specs.declared.expression.TermOperator.{TermOperator}
use Rattle.mpl_ast.specs.declared.expression.TermOperator.TheVariants as term
use Rattle.mpl_ast.specs.declared.expression.UnaryOperator.{UnaryOperator}
use Rattle.mpl_ast.specs.declared.expression.UnaryOperator.TheVariants as unary
use Rattle.mpl_ast.specs.declared.statement.TypeName.{TypeName}
use Rattle.mpl_value.specs.Words.{bool_word}
use Rattle.mpl_mean.specs.Laws.Sizes.{Every}
use Rattle.mpl_mean.specs.Levels.{BinaryOperator, Or, And, Equate, Compare, Add, Multiply}
use Rattle.mpl_mean.specs.Meaning.CallMeaning.{name_of_target}
use Rattle.mpl_mean.specs.Meaning.Layout.{Class, Member, member_named}
use Rattle.mpl_mean.specs.Plain.Expr.{Expr, Exprs}
use Rattle.mpl_mean.specs.Plain.Expr as e
use Rattle.mpl_mean.specs.Plain.Stmt.{NewLocal, Stmt, Stmts}
use Rattle.mpl_mean.specs.Plain.Stmt as s
use Rattle.mdf_code.specs.Images.{all_ways, is_letter, letters_fit, loops_pass, passes, ways_on}
use Rattle.mdf_code.specs.declared.instr.Instr.{Instr}
use Rattle.mdf_code.specs.declared.instr.Instr.TheVariants as instr
use Rattle.mpl_gen_code.specs.ExpressionCode.{Codes, binary_code, codes_of, codes_of_each, element_from, element_of, equality_instr, flow_code, flows_code, function_number, load_from, load_of, need_of, need_of_slot, of_place, own_code, plain_code, post_code, read_code, relation_instr, send_code, sum_instr, target_code, term_instr, unary_instr, value_code, values_code}
use Rattle.mpl_gen_code.specs.Pieces.{Piece, all_joined, either, followed_by, joined, loop, no_code, one, unless_zero, where_marked}
use Rattle.mpl_gen_code.specs.Scopes.{Env, Finish, OfBody, OfFunction, Found, Slot, class_found, found_at, whole_slot}
use Rattle.mpl_gen_code.specs.StatementCode.{assign_code, behind, behind_block, body_code, create_code, create_in, create_of, declares, element_code, end_instr, initial_code, into_code, into_slot, letter, letters_of, locals_code, return_code, return_instr, stmt_code, stmts_code, store_element, tests_index}
use Rattle.mpl_gen_code.specs.Words.{is_bool_expr, words_of_expr}
use Rattle.mpl_gen_code.proofs.Bodies.{from_whole}
use Rattle.mpl_gen_code.proofs.Reaching.{From, from_length, from_parts}
use Rattle.mpl_gen_laws.specs.PrintedLines.{AllPrint, Prints, PrintsValues}

-- ---- places that lead on

module _ (code : List Instr) where
  -- forward, or back to a test
  abbrev pub Leads : ℕ → ℕ → Type 0
  Leads place target = (place < target) ⊎ (slice_get code target ≡ Some instr.Test)

  abbrev pub Sound : ℕ → Instr → Type 0
  Sound place i = Every (Leads place) (ways_on i place) × (letters_fit i ≡ true)

  abbrev pub AllSound : ℕ → List Instr → Type 0
  AllSound place [] = Unit {0}
  AllSound place (i ∷ is) = Sound place i × AllSound (place + 1) is

  -- where it stands, a piece leads on
  abbrev pub Onward : Piece → Type 0
  Onward piece = (p q : ℕ) → From code p (piece p) q → AllSound p (piece p)

  -- an instruction that goes on behind itself
  next : (p : ℕ) → Every (Leads p) ((p + 1) ∷ [])
  next p = (inl (omega arith), tt)

  both_sound : (p : ℕ) (a b : List Instr) → AllSound p a → AllSound (p + length a) b → AllSound p (a ++ b)
  both_sound p [] b h k = subst (λ n. AllSound n b) (let z : p + 0 ≡ p = omega arith in z) k
  both_sound p (i ∷ a) b h k = (h.0, both_sound (p + 1) a b h.1 (subst (λ n. AllSound n b) (let z : p + suc (length a) ≡ p + 1 + length a = omega arith in z) k))

  nothing_onward : Onward no_code
  nothing_onward p q from = tt

  one_onward : (i : Instr) → ((p : ℕ) → Sound p i) → Onward (one i)
  one_onward i h p q from = (h p, tt)

  joined_onward : (a b : Piece) → Onward a → Onward b → Onward (joined a b)
  joined_onward a b h k p q from =
      let parts = from_parts code (a p) (b (p + length (a p))) p q from in
      let middle = from_length code (a p) p parts.0 parts.1 in
      both_sound p (a p) (b (p + length (a p))) (h p parts.0 parts.1) (k (p + length (a p)) q (subst (λ n. From code n (b (p + length (a p))) q) middle parts.2))

  followed_onward : (a : Piece) (i : Instr) → Onward a → ((p : ℕ) → Sound p i) → Onward (followed_by a i)
  followed_onward a i h k p q from =
      let parts = from_parts code (a p) (i ∷ []) p q from in
      both_sound p (a p) (i ∷ []) (h p parts.0 parts.1) (k (p + length (a p)), tt)

  marked_onward : (marked : Bool) (a : Piece) → Onward a → Onward (where_marked marked a)
  marked_onward true a h = h
  marked_onward false a h = nothing_onward

  unless_onward : (a : Piece) → Onward a → Onward (unless_zero a)
  unless_onward a h p q from = (((inl (omega arith), next p), refl), h (p + 1) q from.1)

  either_onward : (a b : Piece) → Onward a → Onward b → Onward (either a b)
  either_onward a b h k p q from =
      let c = length (a (p + 1)) in
      let o = p + 1 + c + 1 in
      let parts = from_parts code (a (p + 1)) (instr.Jump (o + length (b o)) ∷ b o) (p + 1) q from.1 in
      let middle : parts.0 ≡ p + 1 + c = from_length code (a (p + 1)) (p + 1) parts.0 parts.1 in
      let there : From code o (b o) q = subst (λ n. From code n (b o) q) (let z : parts.0 + 1 ≡ o = omega (arith, middle) in z) parts.2.1 in
      (((inl (omega arith), next p), refl), both_sound (p + 1) (a (p + 1)) (instr.Jump (o + length (b o)) ∷ b o) (h (p + 1) parts.0 parts.1) (((inl (omega arith), tt), refl), k o q there))

  loop_onward : (test body : Piece) → Onward test → Onward body → Onward (loop test body)
  loop_onward test body h k p q from =
      let rest = joined test (unless_zero (followed_by body (instr.Jump p))) in
      joined_onward (one instr.Test) rest (one_onward instr.Test (λ n. (tt, refl)))
      (joined_onward test (unless_zero (followed_by body (instr.Jump p))) h
      (unless_onward (followed_by body (instr.Jump p)) (followed_onward body (instr.Jump p) k (λ n. ((inr from.0, tt), refl)))))
      p q from

  -- ---- places and operators

  need_slot : (slot : Option Slot) → Onward (need_of_slot slot)
  need_slot None = nothing_onward
  need_slot (Some slot) = one_onward (instr.Need slot.number) (λ p. (next p, refl))

  need_onward : (marked : Bool) (o : Option Found) → Onward (need_of marked o)
  need_onward marked None = nothing_onward
  need_onward marked (Some found) = marked_onward marked (need_of_slot found.slot) (need_slot found.slot)

  load_sound : (found : Found) (slot : Option Slot) (p : ℕ) → Sound p (load_from found slot)
  load_sound found None p = (next p, refl)
  load_sound found (Some slot) p = (next p, refl)

  load_onward : (o : Option Found) → Onward (load_of o)
  load_onward None = nothing_onward
  load_onward (Some found) = one_onward (load_from found found.slot) (load_sound found found.slot)

  read_onward : (marked : Bool) (o : Option Found) → Onward (read_code marked o)
  read_onward marked o = joined_onward (need_of marked o) (load_of o) (need_onward marked o) (load_onward o)

  element_sound : (line : ℕ) (found : Found) (slot : Option Slot) (p : ℕ) → Sound p (element_from line found slot)
  element_sound line found None p = (next p, refl)
  element_sound line found (Some slot) p = (next p, refl)

  element_onward : (line : ℕ) (o : Option Found) → Onward (element_of line o)
  element_onward line None = nothing_onward
  element_onward line (Some found) = one_onward (element_from line found found.slot) (element_sound line found found.slot)

  unary_sound : (line : ℕ) (o : UnaryOperator) (p : ℕ) → Sound p (unary_instr line o)
  unary_sound line unary.Negative p = (next p, refl)
  unary_sound line unary.Not p = (next p, refl)

  equality_sound : (o : EqualityOperator) (p : ℕ) → Sound p (equality_instr o)
  equality_sound equality.Equal p = (next p, refl)
  equality_sound equality.Unequal p = (next p, refl)

  relation_sound : (o : RelationOperator) (p : ℕ) → Sound p (relation_instr o)
  relation_sound relation.Less p = (next p, refl)
  relation_sound relation.LessEqual p = (next p, refl)
  relation_sound relation.Greater p = (next p, refl)
  relation_sound relation.GreaterEqual p = (next p, refl)

  sum_sound : (line : ℕ) (o : SumOperator) (p : ℕ) → Sound p (sum_instr line o)
  sum_sound line sum.Plus p = (next p, refl)
  sum_sound line sum.Minus p = (next p, refl)

  term_sound : (line : ℕ) (o : TermOperator) (p : ℕ) → Sound p (term_instr line o)
  term_sound line term.Times p = (next p, refl)
  term_sound line term.Over p = (next p, refl)
  term_sound line term.Modulo p = (next p, refl)

  both_onward : (l r : Piece) (i : Instr) → Onward l → Onward r → ((p : ℕ) → Sound p i) → Onward (joined l (followed_by r i))
  both_onward l r i h k s = joined_onward l (followed_by r i) h (followed_onward r i k s)

  binary_onward : (line : ℕ) (o : BinaryOperator) (l r : Piece) → Onward l → Onward r → Onward (binary_code line o l r)
  binary_onward line Or l r h k = joined_onward l (either (one (instr.Push (bool_word true))) r) h (either_onward (one (instr.Push (bool_word true))) r (one_onward _ (λ p. (next p, refl))) k)
  binary_onward line And l r h k = joined_onward l (either r (one (instr.Push (bool_word false)))) h (either_onward r (one (instr.Push (bool_word false))) k (one_onward _ (λ p. (next p, refl))))
  binary_onward line (Equate o) l r h k = both_onward l r (equality_instr o) h k (equality_sound o)
  binary_onward line (Compare o) l r h k = both_onward l r (relation_instr o) h k (relation_sound o)
  binary_onward line (Add o) l r h k = both_onward l r (sum_instr line o) h k (sum_sound line o)
  binary_onward line (Multiply o) l r h k = both_onward l r (term_instr line o) h k (term_sound line o)

  -- ---- calls

  plain_onward : (number : Option ℕ) (arguments : Piece) → Onward arguments → Onward (plain_code number arguments)
  plain_onward None arguments h = nothing_onward
  plain_onward (Some number) arguments h = followed_onward arguments (instr.Call number) h (λ p. (next p, refl))

  own_onward : (m : Option Member) (count : ℕ) (arguments : Piece) → Onward arguments → Onward (own_code m count arguments)
  own_onward None count arguments h = nothing_onward
  own_onward (Some m) count arguments h =
      joined_onward (one instr.Own) (followed_by arguments (instr.Post m.id count)) (one_onward instr.Own (λ p. (next p, refl))) (followed_onward arguments (instr.Post m.id count) h (λ p. (next p, refl)))

  send_onward : (m : Option Member) (count : ℕ) (arguments : Piece) → Onward arguments → Onward (send_code m count arguments)
  send_onward None count arguments h = nothing_onward
  send_onward (Some m) count arguments h = followed_onward arguments (instr.Send m.id count) h (λ p. (next p, refl))

  post_onward : (m : Option Member) (count : ℕ) (arguments : Piece) → Onward arguments → Onward (post_code m count arguments)
  post_onward None count arguments h = nothing_onward
  post_onward (Some m) count arguments h = followed_onward arguments (instr.Post m.id count) h (λ p. (next p, refl))

  target_onward : (marked : Bool) (line : ℕ) (o : Option Found) (class : Option Class) (name : List ℕ) (count : ℕ) (arguments : Piece) → Onward arguments → Onward (target_code marked line o class name count arguments)
  target_onward marked line o None name count arguments h = nothing_onward
  target_onward marked line o (Some class) name count arguments h = by_kind class.is_regular where
    by_kind : (b : Bool) → Onward (if b then send_code (member_named name class.members) count arguments
        else joined (followed_by (read_code marked o) (instr.Bound line)) (post_code (member_named name class.members) count arguments))
    by_kind true = send_onward (member_named name class.members) count arguments h
    by_kind false =
        joined_onward (followed_by (read_code marked o) (instr.Bound line)) (post_code (member_named name class.members) count arguments)
        (followed_onward (read_code marked o) (instr.Bound line) (read_onward marked o) (λ p. (next p, refl))) (post_onward (member_named name class.members) count arguments h)

  -- ---- expressions

  abbrev Both : Codes → Type 0
  Both c = Onward c.value × Onward c.flow

  of_value_onward : (words : ℕ) (value : Piece) → Onward value → Onward value × Onward (followed_by value (instr.ArgWords words))
  of_value_onward words value h = (h, followed_onward value (instr.ArgWords words) h (λ p. (next p, refl)))

  of_call_onward : (call : Piece) → Onward call → Onward (followed_by call instr.Force) × Onward call
  of_call_onward call h = (followed_onward call instr.Force h (λ p. (next p, refl)), h)

  of_place_onward : (slot : Option Slot) (words : ℕ) (value : Piece) → Onward value → Both (of_place slot words value)
  of_place_onward None words value h = of_value_onward words value h
  of_place_onward (Some slot) words value h = (h, one_onward (instr.ArgVariable slot.number) (λ p. (next p, refl)))

  mutual
    pub codes_onward : (env : Env) (t : Expr) → Both (codes_of env t)
    codes_onward env (e.Number at value) = of_value_onward 1 (one (instr.Push value)) (one_onward (instr.Push value) (λ p. (next p, refl)))
    codes_onward env (e.Truth at value) = of_value_onward 1 (one (instr.Push (bool_word value))) (one_onward (instr.Push (bool_word value)) (λ p. (next p, refl)))
    codes_onward env (e.Own at) = of_value_onward 1 (one instr.Own) (one_onward instr.Own (λ p. (next p, refl)))
    codes_onward env (e.Input at) = of_value_onward 1 (one (instr.Input at.line)) (one_onward (instr.Input at.line) (λ p. (next p, refl)))
    codes_onward env (e.Whole at target) =
        of_place_onward (whole_slot env (name_of_target target)) (words_of_expr env (e.Whole at target)) (read_code (env.marks at.id) (found_at env target)) (read_onward (env.marks at.id) (found_at env target))
    codes_onward env (e.Element at line target index) =
        of_value_onward 1 (joined (need_of (env.marks at.id) (found_at env target)) (joined (codes_of env index).value (element_of line (found_at env target))))
        (joined_onward (need_of (env.marks at.id) (found_at env target)) (joined (codes_of env index).value (element_of line (found_at env target))) (need_onward (env.marks at.id) (found_at env target))
        (joined_onward (codes_of env index).value (element_of line (found_at env target)) (codes_onward env index).0 (element_onward line (found_at env target))))
    codes_onward env (e.PlainCall at function arguments) =
        of_value_onward (words_of_expr env (e.PlainCall at function arguments)) (plain_code (function_number env.declarations function.text) (values_code (codes_of_each env arguments)))
        (plain_onward (function_number env.declarations function.text) (values_code (codes_of_each env arguments)) (each_onward env arguments).0)
    codes_onward env (e.Parenthesized at inner) = of_value_onward (words_of_expr env inner) (codes_of env inner).value (codes_onward env inner).0
    codes_onward env (e.Unary at line operator operand) =
        of_value_onward 1 (followed_by (codes_of env operand).value (unary_instr line operator)) (followed_onward (codes_of env operand).value (unary_instr line operator) (codes_onward env operand).0 (unary_sound line operator))
    codes_onward env (e.Binary at line operator left right) =
        of_value_onward 1 (binary_code line operator (codes_of env left).value (codes_of env right).value)
        (binary_onward line operator (codes_of env left).value (codes_of env right).value (codes_onward env left).0 (codes_onward env right).0)
    codes_onward env (e.CallOnOwn at member arguments) =
        of_call_onward (own_code (member_named member.text env.members) (length (codes_of_each env arguments)) (flows_code (codes_of_each env arguments)))
        (own_onward (member_named member.text env.members) (length (codes_of_each env arguments)) (flows_code (codes_of_each env arguments)) (each_onward env arguments).1)
    codes_onward env (e.CallOnTarget at target member arguments) =
        of_call_onward (target_code (env.marks at.id) at.line (found_at env target) (class_found env (found_at env target)) member.text (length (codes_of_each env arguments)) (flows_code (codes_of_each env arguments)))
        (target_onward (env.marks at.id) at.line (found_at env target) (class_found env (found_at env target)) member.text (length (codes_of_each env arguments)) (flows_code (codes_of_each env arguments)) (each_onward env arguments).1)

    each_onward : (env : Env) (ts : Exprs) → Onward (values_code (codes_of_each env ts)) × Onward (flows_code (codes_of_each env ts))
    each_onward env e.NoExpr = (nothing_onward, nothing_onward)
    each_onward env (e.MoreExprs t ts) = (
      joined_onward (codes_of env t).value (values_code (codes_of_each env ts)) (codes_onward env t).0 (each_onward env ts).0,
      joined_onward (codes_of env t).flow (flows_code (codes_of_each env ts)) (codes_onward env t).1 (each_onward env ts).1,
    )

  -- ---- statements

  initial_onward : (env : Env) (o : Option Expr) → Onward (initial_code env o)
  initial_onward env None = one_onward (instr.Zero (length env.sizes)) (λ p. (next p, refl))
  initial_onward env (Some value) = followed_onward (flow_code env value) (instr.SetVariable (length env.sizes)) (codes_onward env value).1 (λ p. (next p, refl))

  locals_onward : (env : Env) (type : TypeName) (locals : List NewLocal) → Onward (locals_code env type locals)
  locals_onward env type [] = nothing_onward
  locals_onward env type (local ∷ locals) =
      joined_onward (initial_code env local.initialiser) (locals_code (declares type local env) type locals) (initial_onward env local.initialiser) (locals_onward (declares type local env) type locals)

  into_onward_slot : (marked : Bool) (c : Codes) → Both c → (found : Found) (slot : Option Slot) (is_whole : Bool) → Onward (into_slot marked c found slot is_whole)
  into_onward_slot marked c h found (Some slot) true = followed_onward c.flow (instr.SetVariable slot.number) h.1 (λ p. (next p, refl))
  into_onward_slot marked c h found (Some slot) false =
      joined_onward c.value (followed_by (where_marked marked (need_of_slot (Some slot))) (instr.Store slot.number found.offset found.words)) h.0
      (followed_onward (where_marked marked (need_of_slot (Some slot))) (instr.Store slot.number found.offset found.words) (marked_onward marked (need_of_slot (Some slot)) (need_slot (Some slot))) (λ p. (next p, refl)))
  into_onward_slot marked c h found None is_whole = followed_onward c.value (instr.Keep found.offset found.words) h.0 (λ p. (next p, refl))

  into_onward : (marked : Bool) (c : Codes) → Both c → (o : Option Found) → Onward (into_code marked c o)
  into_onward marked c h None = nothing_onward
  into_onward marked c h (Some found) = into_onward_slot marked c h found found.slot found.is_whole

  tests_onward : (line hidden words : ℕ) → Onward (tests_index line hidden words)
  tests_onward line hidden words p q from =
      ((next p, refl), ((next (p + 1), refl), ((next (p + 1 + 1), refl), ((next (p + 1 + 1 + 1), refl), ((next (p + 1 + 1 + 1 + 1), refl), ((next (p + 1 + 1 + 1 + 1 + 1), refl), tt))))))

  store_onward : (marked : Bool) (line hidden : ℕ) (found : Found) (slot : Option Slot) → Onward (store_element marked line hidden found slot)
  store_onward marked line hidden found None = one_onward (instr.KeepIndexed found.offset found.words line) (λ p. (next p, refl))
  store_onward marked line hidden found (Some slot) =
      joined_onward (tests_index line hidden found.words) (joined (where_marked marked (need_of_slot (Some slot))) stored) (tests_onward line hidden found.words)
      (joined_onward (where_marked marked (need_of_slot (Some slot))) stored (marked_onward marked (need_of_slot (Some slot)) (need_slot (Some slot))) (λ p q from. ((next p, refl), ((next (p + 1), refl), tt)))) where
        stored : Piece
        stored base = instr.Load hidden 0 1 ∷ instr.StoreIndexed slot.number found.offset found.words line ∷ []

  element_stored : (marked : Bool) (line hidden : ℕ) (value index : Piece) → Onward value → Onward index → (o : Option Found) → Onward (element_code marked line hidden value index o)
  element_stored marked line hidden value index h k None = nothing_onward
  element_stored marked line hidden value index h k (Some found) =
      joined_onward value (joined index (store_element marked line hidden found found.slot)) h (joined_onward index (store_element marked line hidden found found.slot) k (store_onward marked line hidden found found.slot))

  assigns_onward : (env : Env) (place value : Expr) → Onward (assign_code env place value)
  assigns_onward env (e.Whole at target) value = into_onward (env.marks at.id) (codes_of env value) (codes_onward env value) (found_at env target)
  assigns_onward env (e.Element at line target index) value =
      element_stored (env.marks at.id) line (length env.sizes) (value_code env value) (value_code env index) (codes_onward env value).0 (codes_onward env index).0 (found_at env target)
  assigns_onward env (e.Number at z) value = nothing_onward
  assigns_onward env (e.Truth at b) value = nothing_onward
  assigns_onward env (e.Own at) value = nothing_onward
  assigns_onward env (e.Input at) value = nothing_onward
  assigns_onward env (e.PlainCall at function arguments) value = nothing_onward
  assigns_onward env (e.Parenthesized at inner) value = nothing_onward
  assigns_onward env (e.Unary at line operator operand) value = nothing_onward
  assigns_onward env (e.Binary at line operator left right) value = nothing_onward
  assigns_onward env (e.CallOnOwn at member arguments) value = nothing_onward
  assigns_onward env (e.CallOnTarget at target member arguments) value = nothing_onward

  created_onward : (marked : Bool) (class : ℕ) (found : Found) (slot : Option Slot) (is_whole : Bool) → Onward (create_in marked class found slot is_whole)
  created_onward marked class found (Some slot) true = λ p q from. ((next p, refl), ((next (p + 1), refl), ((next (p + 1 + 1), refl), tt)))
  created_onward marked class found (Some slot) false =
      joined_onward (where_marked marked (need_of_slot (Some slot))) stored (marked_onward marked (need_of_slot (Some slot)) (need_slot (Some slot))) (λ p q from. ((next p, refl), ((next (p + 1), refl), tt))) where
        stored : Piece
        stored base = instr.Create class ∷ instr.Store slot.number found.offset found.words ∷ []
  created_onward marked class found None is_whole = λ p q from. ((next p, refl), ((next (p + 1), refl), tt))

  create_onward : (env : Env) (marked : Bool) (o : Option Found) → Onward (create_code env marked o)
  create_onward env marked None = nothing_onward
  create_onward env marked (Some found) = by_class (class_found env (Some found)) where
    by_class : (class : Option Class) → Onward (create_of marked found class)
    by_class None = nothing_onward
    by_class (Some class) = created_onward marked class.number found found.slot found.is_whole

  return_sound : (finish : Finish) (p : ℕ) → Sound p (return_instr finish)
  return_sound (OfBody line) p = (tt, refl)
  return_sound (OfFunction words line) p = (tt, refl)

  end_sound : (finish : Finish) (p : ℕ) → Sound p (end_instr finish)
  end_sound (OfBody line) p = (tt, refl)
  end_sound (OfFunction words line) p = (tt, refl)

  return_onward : (env : Env) (finish : Finish) (o : Option Expr) → Onward (return_code env finish o)
  return_onward env finish None = one_onward (return_instr finish) (return_sound finish)
  return_onward env finish (Some value) = followed_onward (value_code env value) (return_instr finish) (codes_onward env value).0 (return_sound finish)

  each_value_onward : (env : Env) (exprs : List Expr) → Onward (all_joined (map (value_code env) exprs))
  each_value_onward env [] = nothing_onward
  each_value_onward env (t ∷ exprs) = joined_onward (value_code env t) (all_joined (map (value_code env) exprs)) (codes_onward env t).0 (each_value_onward env exprs)

  -- a line has letters where something is printed
  letters_good : (env : Env) (exprs : List Expr) → list_all is_letter (letters_of env exprs) ≡ true
  letters_good env [] = refl
  letters_good env (t ∷ exprs) = by_bool (is_bool_expr env t) (letters_good env exprs) where
    by_bool : (b : Bool) → list_all is_letter (letters_of env exprs) ≡ true → list_all is_letter (letter b ∷ letters_of env exprs) ≡ true
    by_bool true h = h
    by_bool false h = h

module _ (code : List Instr) where
  print_sound : (env : Env) (exprs : List Expr) → PrintsValues exprs → (p : ℕ) → Sound code p (instr.Print (letters_of env exprs))
  print_sound env [] h p = absurd h
  print_sound env (t ∷ exprs) h p = (next code p, letters_good code env (t ∷ exprs))

  mutual
    pub stmt_onward : (env : Env) (stmt : Stmt) → Prints stmt → Onward code (stmt_code env stmt)
    stmt_onward env s.Nothing h = nothing_onward code
    stmt_onward env (s.Within stmts) h = stmts_onward env stmts h
    stmt_onward env (s.Locals type locals) h = locals_onward code env type locals
    stmt_onward env (s.Assigns at place value) h = assigns_onward code env place value
    stmt_onward env (s.Calls call) h = followed_onward code (flow_code env call) instr.DropFlow (codes_onward code env call).1 (λ p. (next code p, refl))
    stmt_onward env (s.Creates at target) h = create_onward code env (env.marks at.id) (found_at env target)
    stmt_onward env (s.When test then_part) h =
        joined_onward code (value_code env test) (unless_zero (stmt_code env then_part)) (codes_onward code env test).0 (unless_onward code (stmt_code env then_part) (stmt_onward env then_part h))
    stmt_onward env (s.Branches test then_part else_part) h =
        joined_onward code (value_code env test) (either (stmt_code env then_part) (stmt_code (behind_block then_part env) else_part)) (codes_onward code env test).0
        (either_onward code (stmt_code env then_part) (stmt_code (behind_block then_part env) else_part) (stmt_onward env then_part h.0) (stmt_onward (behind_block then_part env) else_part h.1))
    stmt_onward env (s.Repeats test body) h = loop_onward code (value_code env test) (stmt_code env body) (codes_onward code env test).0 (stmt_onward env body h)
    stmt_onward env (s.Loops first test step body) h =
        joined_onward code (stmt_code env first)
        (loop (value_code (behind first env) test) (joined (stmt_code (behind first env) body) (stmt_code (behind_block body (behind first env)) step))) (stmt_onward env first h.0)
        (loop_onward code (value_code (behind first env) test) (joined (stmt_code (behind first env) body) (stmt_code (behind_block body (behind first env)) step)) (codes_onward code (behind first env) test).0
        (joined_onward code (stmt_code (behind first env) body) (stmt_code (behind_block body (behind first env)) step) (stmt_onward (behind first env) body h.2) (stmt_onward (behind_block body (behind first env)) step h.1)))
    stmt_onward env (s.Prints at exprs) h =
        followed_onward code (all_joined (map (value_code env) exprs)) (instr.Print (letters_of env exprs)) (each_value_onward code env exprs) (print_sound env exprs h)
    stmt_onward env (s.Gives at value) h = followed_onward code (flow_code env value) (instr.Reply at.line) (codes_onward code env value).1 (λ p. (next code p, refl))
    stmt_onward env (s.Returns at value) h = return_onward code env env.finish value

    pub stmts_onward : (env : Env) (stmts : Stmts) → AllPrint stmts → Onward code (stmts_code env stmts)
    stmts_onward env s.NoStmt h = nothing_onward code
    stmts_onward env (s.MoreStmts stmt stmts) h =
        joined_onward code (stmt_code env stmt) (stmts_code (behind stmt env) stmts) (stmt_onward env stmt h.0) (stmts_onward (behind stmt env) stmts h.1)

  -- ---- what follows

  all_true : (ps : ℕ → Bool) (ns : List ℕ) → ((n : ℕ) → ps n ≡ true) → list_all ps ns ≡ true
  all_true ps [] h = refl
  all_true ps (n ∷ ns) h = ap (λ b. b && list_all ps ns) (h n) ∙ all_true ps ns h

  letters_of_all : (p : ℕ) (is : List Instr) → AllSound code p is → list_all letters_fit is ≡ true
  letters_of_all p [] h = refl
  letters_of_all p (i ∷ is) h = ap (λ b. b && list_all letters_fit is) h.0.1 ∙ letters_of_all (p + 1) is h.1

  at_place : (p : ℕ) (is : List Instr) → AllSound code p is → (k : ℕ) (i : Instr) → slice_get is k ≡ Some i → Sound code (p + k) i
  at_place p [] h k i e = absurd cc
  at_place p (j ∷ is) h zero i e = subst (λ n. Sound code n i) (let z : p ≡ p + 0 = omega arith in z) (subst (Sound code p) (some_instr e) h.0) where
    some_instr : {a b : Instr} → ◌≡◌ {A = Option Instr} (Some a) (Some b) → a ≡ b
    some_instr e = cc
  at_place p (j ∷ is) h (suc k) i e = subst (λ n. Sound code n i) (let z : p + 1 + k ≡ p + suc k = omega arith in z) (at_place (p + 1) is h.1 k i e)

  test_passes : (n place : ℕ) → slice_get code place ≡ Some instr.Test → passes code n place ≡ true
  test_passes zero place e = ap (λ (o : Option Instr). all_ways (λ _. false) o place) e
  test_passes (suc n) place e = ap (λ (o : Option Instr). all_ways (passes code n) o place) e

  ways_pass : (n place : ℕ) → length code ≤ suc n + place → ((place : ℕ) → length code ≤ n + place → passes code n place ≡ true) → (targets : List ℕ) → Every (Leads code place) targets → list_all (passes code n) targets ≡ true
  ways_pass n place long again [] h = refl
  ways_pass n place long again (target ∷ targets) h = ap (λ b. b && list_all (passes code n) targets) (by_way h.0) ∙ ways_pass n place long again targets h.1 where
    by_way : Leads code place target → passes code n target ≡ true
    by_way (inl later) = again target (let long' : length code ≤ suc n + place = long in omega (arith, later, long'))
    by_way (inr test) = test_passes n target test

  each_passes : AllSound code 0 code → (n place : ℕ) → length code ≤ n + place → passes code n place ≡ true
  each_passes h zero place long = ap (λ (o : Option Instr). all_ways (λ _. false) o place) (slice_get_past code place (let z : length code ≤ 0 + place = long in omega (arith, z)))
  each_passes h (suc n) place long = by_instruction (slice_get code place) refl (each_passes h n) where
    by_instruction : (o : Option Instr) → slice_get code place ≡ o → ((place : ℕ) → length code ≤ n + place → passes code n place ≡ true) → all_ways (passes code n) (slice_get code place) place ≡ true
    by_instruction None e again = ap (λ (o : Option Instr). all_ways (passes code n) o place) e
    by_instruction (Some i) e again =
        ap (λ (o : Option Instr). all_ways (passes code n) o place) e
        ∙ ways_pass n place long again (ways_on i place) (subst (λ k. Sound code k i) (let z : 0 + place ≡ place = omega arith in z) (at_place 0 code h place i e)).0

-- the code of a body passes tests, and its lines have letters
pub body_onward : (env : Env) (stmts : Stmts) → AllPrint stmts → (list_all letters_fit (body_code env stmts 0) ≡ true) × (loops_pass (body_code env stmts 0) ≡ true)
body_onward env stmts h = (letters_of_all code 0 code sound, all_true code (passes code (length code)) _ (λ n. each_passes code sound (length code) n (omega arith))) where
  code : List Instr
  code = body_code env stmts 0

  sound : AllSound (body_code env stmts 0) 0 (body_code env stmts 0)
  sound = followed_onward (body_code env stmts 0) (stmts_code env stmts) (end_instr env.finish) (stmts_onward (body_code env stmts 0) env stmts h) (end_sound (body_code env stmts 0) env.finish) 0 (length (body_code env stmts 0)) (from_whole (body_code env stmts 0))
