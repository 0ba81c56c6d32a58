-- Checked calls are as they are meant, and so is each expression and flow.
use Rattle.std.proofs.Common.{◌≡◌, ℕ, Bool, true, false, List, [], length, map, Option, Some, None, if◌then◌else◌, ℤ, refl, ap, sym, subst, true≢false, ◌∙◌}
use Rattle.std.proofs.lemmas.List.{length-map}
use Rattle.std.specs.FinMap.{get}
use Rattle.mpl_ast.specs.declared.expression.Target.{Target}
use Rattle.mpl_ast.specs.declared.place.Name.{Name}
use Rattle.mpl_value.specs.CallAnswers.{any_unknown, arg_of_reply, known_words, leftmost_trap}
use Rattle.mpl_value.specs.declared.body.Arg.{Arg}
use Rattle.mpl_value.specs.declared.body.Arg.TheVariants as arg
use Rattle.mpl_value.specs.declared.known.Trap.{Trap}
use Rattle.mpl_mean.specs.Meaning.CallMeaning.{answer, at_context, bound, call_of_member, call_on, call_on_target, class_of_location, made, persistent_call, regular_call, unless_trapped}
use Rattle.mpl_mean.specs.Meaning.Context.{Context}
use Rattle.mpl_mean.specs.Meaning.ExpressionMeaning.{Evaluates, call_plain, called, element_of, next_number, value_of_binary, value_of_unary}
use Rattle.mpl_mean.specs.Meaning.Layout.{Class, Function, Member, class_named, class_of_type, classes_of, function_named, member_named}
use Rattle.mpl_mean.specs.Meaning.PlaceMeaning.{Location, is_bool, location_of, read, words_of_location}
use Rattle.mpl_mean.specs.Meaning.Store.{Store, Step, Variable, ◌>>=◌, ◌>>◌, all_of, pure, spend, waits}
use Rattle.mpl_mean.specs.Meaning.Values.{Value, bool_value, first_word, int_value}
use Rattle.mpl_mean.specs.Plain.Expr.{Expr, Exprs}
use Rattle.mpl_mean.specs.Plain.Expr as e
use Rattle.mpl_mean.specs.Plain.Scopes.{Env, Found, Shape, class_found, found_at}
use Rattle.mpl_mean.specs.Pending.BodyWays.{binary_ways, flow_ways, flows_ways, receives, uses, value_ways, values_ways}
use Rattle.mpl_mean.specs.Pending.Looseness.{Loose, behind_path}
use Rattle.mpl_mean.specs.Pending.Paths.{Ways, NoEvent, Then, nothing}
use Rattle.mpl_plain.specs.Arity.{ClassTakes, ExprFits, ExprsFit, FunctionTakes, MemberTakes, count_of}
use Rattle.mpl_plain.specs.ExprMeaning.{tree_passes, tree_value, tree_values, trees_pass}
use Rattle.mpl_checked.specs.Checked.CheckedExpressions.{checked_answer, checked_binary, checked_call_on, checked_call_on_target, checked_called, checked_element, checked_flows, checked_of_member, checked_own_call, checked_passes, checked_persistent, checked_plain, checked_read, checked_regular, checked_unary, checked_unless_trapped, checked_value, checked_values, checked_words}
use Rattle.mpl_checked.specs.Checked.CheckedSteps.{CheckedStep, Checking, ◌>?>◌, checked_all, meant}
use Rattle.mpl_checked.proofs.Agreeing.{Agrees, Any, Anything, Keeps, Quiet, agrees_weaker, keeps_then, kept, kept_then, kept_same, quiet_both, quiet_then, skip_agrees, then_agrees, then_quiet}
use Rattle.mpl_checked.proofs.Covering.{Covers, covers_first, covers_second}
use Rattle.mpl_checked.proofs.Standing.{Beside}
use Rattle.mpl_checked.proofs.Uses.{Placed, env_of, name_at, placed, words_agree}
use Rattle.mpl_checked.proofs.AgreeForms.{Agreeing, Below, Long, Passed, may_be_loose, binary_agrees, class_is_named, element_agrees, flow_agrees, forced_agrees, keeps_answer, keeps_bound, keeps_next, keeps_spend, known_few, more_agree, none_agree, place_agrees, plain_agrees, reading_agrees, unary_agrees}

module _ (checking : Checking) (c : Context) (below : Below checking c) (scope : List Shape) where
  abbrev env : Env
  env = env_of c scope

  abbrev On : {A : Type 0} → (Loose → A → Type 0) → Ways → CheckedStep A → Step A → Type 0
  On P ways k o = Agreeing checking c scope P ways k o

  -- ---- plain functions

  called_quiet : (name : List ℕ) (n : ℕ) (f : Option Function) → function_named name c.declarations ≡ f → FunctionTakes f n → (words : List (List ℤ)) → length words ≡ n → (loose : Loose) (s : Store)
      → Beside loose scope s.variables → Quiet scope loose Any (checked_called checking f words s) (called c f words s)
  called_quiet name n None is takes words long loose s beside = record { same = refl; stays = tt }
  called_quiet name n (Some f) is takes words long loose s beside =
      let on = below.plain name f is words (takes ∙ sym long) s in
      quiet_both scope scope loose Any Any (checking.callees.plain f words s) (c.callees.plain f words s) (λ ws. meant (pure (record { words = ws; is_bool = is_bool f.result })))
      (λ ws. pure (record { words = ws; is_bool = is_bool f.result })) (kept_same scope loose Anything s (checking.callees.plain f words s) (c.callees.plain f words s) on.0 beside on.1)
      (λ ws t beside1 _. record { same = refl; stays = (beside1, tt) })

  plain_call_agrees : (function : Name) (n : ℕ) (ways : Ways) (ks : List (CheckedStep Value)) (os : List (Step Value)) → FunctionTakes (function_named function.text c.declarations) n
      → On (Long n) ways (checked_all ks) (all_of os) → On Any ways (checked_plain checking c function ks) (call_plain c function os)
  plain_call_agrees function n ways ks os takes on loose s covers beside =
      then_quiet ways scope scope loose (Long n) Any (checked_all ks s) (all_of os s)
      (λ values. checked_called checking (function_named function.text c.declarations) (map (λ (value : Value). value.words) values))
      (λ values. called c (function_named function.text c.declarations) (map (λ (value : Value). value.words) values)) (on loose s covers beside)
      (λ values s1 later beside1 long. called_quiet function.text n (function_named function.text c.declarations) refl takes (map (λ (value : Value). value.words) values)
      (length-map values (λ (value : Value). value.words) ∙ long) later s1 beside1)

  -- ---- members

  keeps_post : (object : ℤ) (m : Member) (args : List Arg) (s : Store)
      → Keeps Anything s ((spend c.turns >> (made object m.id args >>= (λ k. answer args (pure (arg_of_reply (get c.replies k)))))) s)
  keeps_post object m args s =
      keeps_then Anything Anything s (spend c.turns s) (λ _. made object m.id args >>= (λ k. answer args (pure (arg_of_reply (get c.replies k))))) (keeps_spend c.turns s)
      (λ _ t _. keeps_then Anything Anything t (made object m.id args t) (λ k. answer args (pure (arg_of_reply (get c.replies k)))) (refl, tt)
      (λ k u _. keeps_answer args (pure (arg_of_reply (get c.replies k))) u (refl, tt)))

  persistent_agrees : (object : ℤ) (m : Member) (n : ℕ) (ways : Ways) (ks : List (CheckedStep Arg)) (os : List (Step Arg)) → On (Long n) ways (checked_all ks) (all_of os)
      → On Any ways (checked_persistent c object m ks) (persistent_call c object m os)
  persistent_agrees object m n ways ks os on loose s covers beside =
      then_quiet ways scope scope loose (Long n) Any (checked_all ks s) (all_of os s)
      (λ args. meant (spend c.turns >> (made object m.id args >>= (λ k. answer args (pure (arg_of_reply (get c.replies k)))))))
      (λ args. spend c.turns >> (made object m.id args >>= (λ k. answer args (pure (arg_of_reply (get c.replies k)))))) (on loose s covers beside)
      (λ args s1 later beside1 _. kept scope later Anything s1 ((spend c.turns >> (made object m.id args >>= (λ k. answer args (pure (arg_of_reply (get c.replies k)))))) s1) beside1 (keeps_post object m args s1))

  answered_quiet : (args : List Arg) (known : CheckedStep Arg) (meaning : Step Arg) (loose : Loose) (s : Store) → Beside loose scope s.variables
      → (any_unknown args ≡ false → leftmost_trap args ≡ None → Quiet scope loose Any (known s) (meaning s)) → Quiet scope loose Any (checked_answer args known s) (answer args meaning s)
  answered_quiet args known meaning loose s beside f = by_unknown (any_unknown args) refl where
    by_trap : (t : Option Trap) → leftmost_trap args ≡ t → any_unknown args ≡ false → Quiet scope loose Any (checked_unless_trapped t known s) (unless_trapped t meaning s)
    by_trap None is u = f u is
    by_trap (Some t) is u = record { same = refl; stays = (beside, tt) }

    by_unknown : (b : Bool) → any_unknown args ≡ b
        → Quiet scope loose Any ((if b then meant (pure arg.Unknown) else checked_unless_trapped (leftmost_trap args) known) s) ((if b then pure arg.Unknown else unless_trapped (leftmost_trap args) meaning) s)
    by_unknown true is = record { same = refl; stays = (beside, tt) }
    by_unknown false is = by_trap (leftmost_trap args) refl is

  regular_agrees : (name member : List ℕ) (class : Class) (m : Member) → class_named name (classes_of c.declarations) ≡ Some class → class.is_regular ≡ true → member_named member class.members ≡ Some m
      → (n : ℕ) → length m.formals ≡ n → (ways : Ways) (ks : List (CheckedStep Arg)) (os : List (Step Arg)) → On (Long n) ways (checked_all ks) (all_of os)
      → On Any ways (checked_regular checking c m ks) (regular_call c m os)
  regular_agrees name member class m is regular found n takes ways ks os on loose s covers beside =
      then_quiet ways scope scope loose (Long n) Any (checked_all ks s) (all_of os s)
      (λ args. meant (spend c.turns) >?> (λ _. checked_answer args (checking.callees.regular m (known_words args))))
      (λ args. spend c.turns >> answer args (c.callees.regular m (known_words args))) (on loose s covers beside)
      (λ args s1 later beside1 long.
      kept_then scope later Anything Any s1 (spend c.turns s1) (λ _. checked_answer args (checking.callees.regular m (known_words args))) (λ _. answer args (c.callees.regular m (known_words args))) (keeps_spend c.turns s1)
      (λ _ t kept1 _.
      let beside2 : Beside later scope t.variables = subst (λ vs. Beside later scope vs) (sym kept1) beside1 in
      answered_quiet args (checking.callees.regular m (known_words args)) (c.callees.regular m (known_words args)) later t beside2
      (λ u trap. let called = below.regular name member class m is regular found (known_words args) (takes ∙ sym long ∙ sym (known_few args u trap)) t in
      kept_same scope later Anything t (checking.callees.regular m (known_words args) t) (c.callees.regular m (known_words args) t) called.0 beside2 called.1)))

  -- ---- receivers

  ends_so : {A : Type 0} (P : Loose → A → Type 0) (ways : Ways) → On P ways (meant waits) waits
  ends_so P ways loose s covers beside = record { same = refl; follows = tt }

  of_member_agrees : (ways : Ways) (found : Option Member) (k : Member → CheckedStep Arg) (o : Member → Step Arg) → ((m : Member) → found ≡ Some m → On Any ways (k m) (o m))
      → On Any ways (checked_of_member found k) (call_of_member found o)
  of_member_agrees ways None k o on loose s covers beside = record { same = refl; follows = tt }
  of_member_agrees ways (Some m) k o on loose s covers beside = on m refl loose s covers beside

  own_agrees : (member : Name) (n : ℕ) (ways : Ways) (ks : List (CheckedStep Arg)) (os : List (Step Arg)) → On (Long n) ways (checked_all ks) (all_of os)
      → On Any ways (checked_own_call c member ks) (call_of_member (member_named member.text c.members) (λ m. persistent_call c c.object m os))
  own_agrees member n ways ks os on =
      of_member_agrees ways (member_named member.text c.members) (λ m. checked_persistent c c.object m ks) (λ m. persistent_call c c.object m os)
      (λ m is. persistent_agrees c.object m n ways ks os on)

  same_class : (loose : Loose) (vs : List Variable) (name : List ℕ) (l : Option Location) (f : Option Found) → Placed loose scope vs name l f → class_of_location c l ≡ class_found env f
  same_class loose vs name None None place = refl
  same_class loose vs name None (Some f) place = absurd place
  same_class loose vs name (Some l) None place = absurd place
  same_class loose vs name (Some l) (Some f) place = ap (λ type. class_of_type c.declarations type) place.type

  found_is_named : (f : Option Found) (class : Class) → class_found env f ≡ Some class → (name : List ℕ) × (class_named name (classes_of c.declarations) ≡ Some class)
  found_is_named None class e = absurd cc
  found_is_named (Some f) class e = class_is_named c.declarations f.type class e

  call_on_agrees : (node line : ℕ) (t : Target) (member : List ℕ) (n : ℕ) (ways : Ways) (ks : List (CheckedStep Arg)) (os : List (Step Arg)) (class : Option Class)
      → class_found env (found_at env t) ≡ class → ClassTakes class member n → On (Long n) ways (checked_all ks) (all_of os)
      → (loose : Loose) (s : Store) → Covers checking.marks (Then (receives node (found_at env t) class) ways) loose → Beside loose scope s.variables
      → Agrees (Then (receives node (found_at env t) class) ways) scope loose Any
      (checked_call_on checking c node line (location_of c t s) class member ks s) (call_on c line (location_of c t s) class member os s)
  call_on_agrees node line t member n ways ks os None is takes on loose s covers beside = record { same = refl; follows = tt }
  call_on_agrees node line t member n ways ks os (Some class) is takes on loose s covers beside = by_kind class.is_regular refl covers where
    regular : class.is_regular ≡ true → On Any ways (checked_of_member (member_named member class.members) (λ m. checked_regular checking c m ks)) (call_of_member (member_named member class.members) (λ m. regular_call c m os))
    regular kind =
        let named = found_is_named (found_at env t) class is in
        of_member_agrees ways (member_named member class.members) (λ m. checked_regular checking c m ks) (λ m. regular_call c m os)
        (λ m found. regular_agrees named.0 member class m named.1 kind found n (subst (λ o. MemberTakes o n) found (takes kind)) ways ks os on)

    persistent : (object : ℤ) → On Any ways (checked_of_member (member_named member class.members) (λ m. checked_persistent c object m ks)) (call_of_member (member_named member class.members) (λ m. persistent_call c object m os))
    persistent object =
        of_member_agrees ways (member_named member class.members) (λ m. checked_persistent c object m ks) (λ m. persistent_call c object m os) (λ m found. persistent_agrees object m n ways ks os on)

    by_kind : (b : Bool) → class.is_regular ≡ b → Covers checking.marks (Then (if b then NoEvent else uses node (found_at env t)) ways) loose
        → Agrees (Then (if b then NoEvent else uses node (found_at env t)) ways) scope loose Any
        ((if b then checked_of_member (member_named member class.members) (λ m. checked_regular checking c m ks)
        else (checked_words checking node (location_of c t s) >?> (λ value. meant (bound line (first_word value.words)) >?> (λ object.
        checked_of_member (member_named member class.members) (λ m. checked_persistent c object m ks))))) s)
        ((if b then call_of_member (member_named member class.members) (λ m. regular_call c m os)
        else (words_of_location (location_of c t s) >>= (λ value. bound line (first_word value.words) >>= (λ object.
        call_of_member (member_named member class.members) (λ m. persistent_call c object m os))))) s)
    by_kind true kind covers = skip_agrees (regular kind loose s (covers_second covers [] nothing) beside)
    by_kind false kind covers =
        then_agrees (uses node (found_at env t)) ways scope scope loose Any Any (checked_words checking node (location_of c t s) s) (words_of_location (location_of c t s) s)
        (λ value. meant (bound line (first_word value.words)) >?> (λ object. checked_of_member (member_named member class.members) (λ m. checked_persistent c object m ks)))
        (λ value. bound line (first_word value.words) >>= (λ object. call_of_member (member_named member class.members) (λ m. persistent_call c object m os)))
        (words_agree checking scope loose node (name_at t) (location_of c t s) (found_at env t) s (covers_first covers) beside (placed c loose scope t s beside))
        (λ value s1 path through beside1 _.
        quiet_then ways scope scope (behind_path path loose) Any Any (meant (bound line (first_word value.words)) s1) (bound line (first_word value.words) s1)
        (λ object. checked_of_member (member_named member class.members) (λ m. checked_persistent c object m ks)) (λ object. call_of_member (member_named member class.members) (λ m. persistent_call c object m os))
        (kept scope (behind_path path loose) Anything s1 (bound line (first_word value.words) s1) beside1 (keeps_bound line (first_word value.words) s1))
        (λ object s2 beside2 _. persistent object (behind_path path loose) s2 (covers_second covers path through) beside2))

  target_agrees : (node line : ℕ) (t : Target) (member : List ℕ) (n : ℕ) (ways : Ways) (ks : List (CheckedStep Arg)) (os : List (Step Arg)) → ClassTakes (class_found env (found_at env t)) member n
      → On (Long n) ways (checked_all ks) (all_of os)
      → On Any (Then (receives node (found_at env t) (class_found env (found_at env t))) ways) (checked_call_on_target checking c node line t member ks) (call_on_target c line t member os)
  target_agrees node line t member n ways ks os takes on loose s covers beside =
      subst (λ class. Agrees (Then (receives node (found_at env t) (class_found env (found_at env t))) ways) scope loose Any
      (checked_call_on checking c node line (location_of c t s) class member ks s) (call_on c line (location_of c t s) class member os s))
      (sym (same_class loose s.variables (name_at t) (location_of c t s) (found_at env t) (placed c loose scope t s beside)))
      (call_on_agrees node line t member n ways ks os (class_found env (found_at env t)) refl takes on loose s covers beside)

  -- ---- the forms

  passed_call : (expr : Expr) → ((loose : Loose) → may_be_loose env loose expr ≡ true) → (ways : Ways) (k : CheckedStep Arg) (o : Step Arg) → On Any ways k o → On (Passed env expr) ways k o
  passed_call expr is ways k o on loose s covers beside =
      agrees_weaker ways scope loose Any (Passed env expr) (k s) (o s) (λ l a _ off. absurd (true≢false (sym (is l) ∙ off))) (on loose s covers beside)

  -- an expression as a value, and as a flow
  record Both (expr : Expr) : Type 0 where
    value : On Any (value_ways env expr) (checked_value checking expr c) (tree_value expr c)
    passes : On (Passed env expr) (flow_ways env expr) (checked_passes checking expr c) (tree_passes expr c)

  mutual
    means_agree : (expr : Expr) → ExprFits env expr → Both expr
    means_agree (e.Number at z) fits = let is = plain_agrees checking c scope (pure (int_value z)) (λ s. (refl, tt)) in
        record { value = is; passes = flow_agrees checking c scope (e.Number at z) NoEvent (meant (pure (int_value z))) (pure (int_value z)) is }
    means_agree (e.Truth at b) fits = let is = plain_agrees checking c scope (pure (bool_value b)) (λ s. (refl, tt)) in
        record { value = is; passes = flow_agrees checking c scope (e.Truth at b) NoEvent (meant (pure (bool_value b))) (pure (bool_value b)) is }
    means_agree (e.Own at) fits = let is = plain_agrees checking c scope (pure (int_value c.object)) (λ s. (refl, tt)) in
        record { value = is; passes = flow_agrees checking c scope (e.Own at) NoEvent (meant (pure (int_value c.object))) (pure (int_value c.object)) is }
    means_agree (e.Input at) fits = let is = plain_agrees checking c scope (next_number at.line) (λ s. keeps_next at.line s.input s) in
        record { value = is; passes = flow_agrees checking c scope (e.Input at) NoEvent (meant (next_number at.line)) (next_number at.line) is }
    means_agree (e.Whole at t) fits = record { value = reading_agrees checking c scope at.id t; passes = place_agrees checking c scope at t }
    means_agree (e.Element at line t index) fits =
        let is = element_agrees checking c scope line at.id t (value_ways env index) (checked_value checking index c) (tree_value index c) (means_agree index fits).value in
        record {
          value = is;
          passes = flow_agrees checking c scope (e.Element at line t index) (value_ways env (e.Element at line t index)) (checked_element line (checked_read checking at.id c t) (checked_value checking index c))
              (element_of line (read c t) (tree_value index c)) is;
        }
    means_agree (e.PlainCall at function arguments) fits =
        let ks = checked_values checking arguments c in
        let os = map (λ (evaluates : Evaluates). evaluates c) (tree_values arguments) in
        let is = plain_call_agrees function (count_of arguments) (values_ways env arguments) ks os fits.0 (values_agree arguments fits.1) in
        record { value = is; passes = flow_agrees checking c scope (e.PlainCall at function arguments) (values_ways env arguments) (checked_plain checking c function ks) (call_plain c function os) is }
    means_agree (e.Parenthesized at inner) fits = let is = (means_agree inner fits).value in
        record { value = is; passes = flow_agrees checking c scope (e.Parenthesized at inner) (value_ways env inner) (checked_value checking inner c) (tree_value inner c) is }
    means_agree (e.Unary at line operator operand) fits =
        let is = unary_agrees checking c scope line operator (value_ways env operand) (checked_value checking operand) (tree_value operand) (means_agree operand fits).value in
        record { value = is; passes = flow_agrees checking c scope (e.Unary at line operator operand) (value_ways env operand) (checked_unary line operator (checked_value checking operand) c) (value_of_unary line operator (tree_value operand) c) is }
    means_agree (e.Binary at line operator left right) fits =
        let is = binary_agrees checking c scope line operator (value_ways env left) (value_ways env right) (checked_value checking left) (checked_value checking right) (tree_value left) (tree_value right)
        (means_agree left fits.0).value (means_agree right fits.1).value in
        record {
          value = is;
          passes = flow_agrees checking c scope (e.Binary at line operator left right) (binary_ways operator (value_ways env left) (value_ways env right))
              (checked_binary line operator (checked_value checking left) (checked_value checking right) c) (value_of_binary line operator (tree_value left) (tree_value right) c) is;
        }
    means_agree (e.CallOnOwn at member arguments) fits =
        let ks = checked_flows checking arguments c in
        let os = at_context c (trees_pass arguments) in
        let is = own_agrees member (count_of arguments) (flows_ways env arguments) ks os (flows_agree arguments fits) in
        record {
          value = forced_agrees checking c scope Any (flows_ways env arguments) (checked_own_call c member ks) (call_of_member (member_named member.text c.members) (λ m. persistent_call c c.object m os)) is;
          passes = passed_call (e.CallOnOwn at member arguments) (λ l. refl) (flows_ways env arguments) (checked_own_call c member ks) (call_of_member (member_named member.text c.members) (λ m. persistent_call c c.object m os)) is;
        }
    means_agree (e.CallOnTarget at t member arguments) fits =
        let ks = checked_flows checking arguments c in
        let os = at_context c (trees_pass arguments) in
        let is = target_agrees at.id at.line t member.text (count_of arguments) (flows_ways env arguments) ks os fits.0 (flows_agree arguments fits.1) in
        record {
          value = forced_agrees checking c scope Any (value_ways env (e.CallOnTarget at t member arguments)) (checked_call_on_target checking c at.id at.line t member.text ks) (call_on_target c at.line t member.text os) is;
          passes = passed_call (e.CallOnTarget at t member arguments) (λ l. refl) (value_ways env (e.CallOnTarget at t member arguments)) (checked_call_on_target checking c at.id at.line t member.text ks) (call_on_target c at.line t member.text os) is;
        }

    values_agree : (exprs : Exprs) → ExprsFit env exprs
        → On (Long (count_of exprs)) (values_ways env exprs) (checked_all (checked_values checking exprs c)) (all_of (map (λ (evaluates : Evaluates). evaluates c) (tree_values exprs)))
    values_agree e.NoExpr fits = none_agree checking c scope
    values_agree (e.MoreExprs expr exprs) fits =
        more_agree checking c scope (value_ways env expr) (values_ways env exprs) Any (count_of exprs) (checked_value checking expr c) (checked_values checking exprs c) (tree_value expr c)
        (map (λ (evaluates : Evaluates). evaluates c) (tree_values exprs)) (means_agree expr fits.0).value (values_agree exprs fits.1)

    flows_agree : (exprs : Exprs) → ExprsFit env exprs
        → On (Long (count_of exprs)) (flows_ways env exprs) (checked_all (checked_flows checking exprs c)) (all_of (at_context c (trees_pass exprs)))
    flows_agree e.NoExpr fits = none_agree checking c scope
    flows_agree (e.MoreExprs expr exprs) fits =
        more_agree checking c scope (flow_ways env expr) (flows_ways env exprs) (Passed env expr) (count_of exprs) (checked_passes checking expr c) (checked_flows checking exprs c) (tree_passes expr c)
        (at_context c (trees_pass exprs)) (means_agree expr fits.0).passes (flows_agree exprs fits.1)

  pub value_agrees : (expr : Expr) → ExprFits env expr → On Any (value_ways env expr) (checked_value checking expr c) (tree_value expr c)
  value_agrees expr fits = (means_agree expr fits).value

  pub passes_agree : (expr : Expr) → ExprFits env expr → On (Passed env expr) (flow_ways env expr) (checked_passes checking expr c) (tree_passes expr c)
  passes_agree expr fits = (means_agree expr fits).passes
