-- What is called so many levels deep does what it means, and so does a body from its start.
use Rattle.std.proofs.Common.{◌≡◌, ◌≤◌, ◌<◌, ℕ, zero, suc, ◌+◌, Bool, true, false, List, [], ◌∷◌, length, map, Some, None, if◌then◌else◌, ℤ, pos, refl, ap, sym, subst, arith, ◌∙◌}
use Rattle.std.proofs.lemmas.Bool.{ltb-true}
use Rattle.std.proofs.lemmas.List.{length-map}
use Rattle.std.specs.FinMap.{empty}
use Rattle.std.specs.Prelude.{nat_lt}
use Rattle.mpl_ast.specs.declared.class.Formal.{Formal}
use Rattle.mpl_ast.specs.declared.class.ResultType.{ResultType}
use Rattle.mpl_ast.specs.declared.class.ResultType.TheVariants.{Void, Typed}
use Rattle.mpl_ast.specs.declared.program.Declaration.{Declaration}
use Rattle.mpl_ast.specs.declared.program.Program.{Program}
use Rattle.mpl_value.specs.CallAnswers.{arg_of_result}
use Rattle.mpl_value.specs.Results.{result_at}
use Rattle.mpl_value.specs.declared.body.Arg.{Arg}
use Rattle.mpl_value.specs.declared.body.Arg.TheVariants.{Know}
use Rattle.mpl_value.specs.declared.body.BodyEnd.{BodyEnd}
use Rattle.mpl_value.specs.declared.body.BodyEnd.TheVariants as end
use Rattle.mpl_value.specs.declared.body.BodyResult.{BodyResult}
use Rattle.mpl_value.specs.declared.body.BodyResult.TheVariants as result
use Rattle.mpl_value.specs.declared.body.BodyStart.{BodyStart}
use Rattle.mpl_value.specs.declared.body.MemberId.{MemberId}
use Rattle.mpl_value.specs.declared.body.Yield.{Yield}
use Rattle.mpl_mean.specs.Laws.Sizes.{member_of_id}
use Rattle.mpl_value.specs.declared.known.TrapKind.TheVariants.{NoReply}
use Rattle.mpl_mean.specs.Meaning.BodyMeaning.{body_of, callees_at, context_with, formals_holding, main_statements, main_yield, member_body, member_yield, result_at_end, run, split_words, store_with, with_variables, yield_of}
use Rattle.mpl_mean.specs.Meaning.Context.{Callees, Context}
use Rattle.mpl_mean.specs.Meaning.Layout.{Class, Function, Member, Part}
use Rattle.mpl_mean.specs.Meaning.PlaceMeaning.{is_bool}
use Rattle.mpl_mean.specs.Meaning.StatementMeaning.{Does, Effect}
use Rattle.mpl_mean.specs.Meaning.Store.{Store, Outcome, Goes, Returns, Ends, and_then, in_turn}
use Rattle.mpl_mean.specs.Plain.Stmt.{Stmts, stmts_from, stmts_of}
use Rattle.mpl_plain.specs.StmtMeaning.{trees_do, trees_run}
use Rattle.mpl_mean.proofs.MoreReplies.ComesBack.{after_plain, after_regular}
use Rattle.mpl_plain.proofs.StmtsSame.{run_same}
use Rattle.mpl_mean.specs.Plain.Scopes.{Env, Shape, formal_shape, function_env, member_env, main_env, regular_env}
use Rattle.mpl_body_code.specs.Codes.{finish_of, statements_code}
use Rattle.mpl_body_code.specs.Images.{ComesTo, HasCode, IsBodyCode, IsFunctionCode, IsMemberCode, main_machine, member_machine}
use Rattle.mpl_body_code.specs.Machine.{Caller, Frame, Item, Machine, Next, OfPlain, OfRegular, Setting, at_end, at_stop, ended, finished, item_of, resumed, returned, words_item, yield_at}
use Rattle.mpl_body_code.specs.Machine as machine
use Rattle.mpl_body_code.specs.Steps.{begun, body_begun, exec, followed, spends, stops, waiting}
use Rattle.mpl_body_code.specs.declared.instruction.Finish.{Finish}
use Rattle.mpl_body_code.specs.declared.instruction.Finish.TheVariants as finish
use Rattle.mpl_body_code.specs.declared.instruction.FunctionCode.{FunctionCode}
use Rattle.mpl_body_code.specs.declared.instruction.Instruction.TheVariants as instruction
use Rattle.mpl_body_code.specs.declared.instruction.MemberCode.{MemberCode}
use Rattle.mpl_body_code.proofs.Below.{Below, run_of}
use Rattle.mpl_body_code.proofs.Bodies.{statements_follow}
use Rattle.mpl_body_code.proofs.Reaching.{Around, Comes, comes_map, Leads, Reaches, Run, body_at, from_parts, performing, running}
use Rattle.mpl_body_code.proofs.Scoped.{Stands, context_of, variable_of, variables_of}

-- ---- formals

formals_hold : (formals : List Formal) (arguments : List (List ℤ)) → formals_holding formals arguments ≡ variables_of (map formal_shape formals) (map Know arguments)
formals_hold [] arguments = refl
formals_hold (formal ∷ formals) [] = refl
formals_hold (formal ∷ formals) (words ∷ arguments) = ap (λ vs. variable_of (formal_shape formal) (Know words) ∷ vs) (formals_hold formals arguments)

formals_sized : (formals : List Formal) (arguments : List (List ℤ)) → length formals ≡ length arguments → length (map formal_shape formals) ≡ length (map Know arguments)
formals_sized formals arguments e = length-map formals formal_shape ∙ e ∙ sym (length-map arguments Know)

-- ---- results at the end

pub end_same : (type : ResultType) (line : ℕ) (given : BodyResult) → result_at_end type line given ≡ at_end (finish_of type line) given
end_same (Void at) line result.Open = refl
end_same (Void at) line (result.Known known) = refl
end_same (Void at) line result.Unknown = refl
end_same (Typed at type) line result.Open = refl
end_same (Typed at type) line (result.Known known) = refl
end_same (Typed at type) line result.Unknown = refl

pub stop_same : (type : ResultType) (line : ℕ) (e : BodyEnd) (given : BodyResult) → result_at e given ≡ at_stop (finish_of type line) e given
stop_same (Void at) line e given = refl
stop_same (Typed at type) line e given = refl

-- ---- a body from behind the turn of its start

-- what a body does comes to what its code comes to, with the end of the code
body_follows : (K : Run) (ds : List Declaration) (members : List Member) (parts : List Part) (callees : Callees) → HasCode K.setting ds → (base : ℕ) → Below K.setting K.yield ds K.answered callees base
    → (scope : List Shape) (trees : Stmts) (entry : ℕ) (slots : List Arg) (s : Store) → base ≤ K.low
    → IsBodyCode K.setting (record { declarations = ds; members = members; parts = parts; scope = scope }) trees entry → Stands K scope slots s
    → Comes K (λ u t. K.low ≤ t.turns → t.turns ≤ K.setting.turns → Leads K.setting K.yield (finished K.around.callers (body_at K.answered K.around t) t.turns))
    (in_turn (map (λ (does : Does). does (context_of K callees (record { declarations = ds; members = members; parts = parts; scope = scope }))) (trees_do trees)) s)
    → Reaches K.setting K.yield (running K entry [] slots s)
body_follows K ds members parts callees has base below scope trees entry slots s above code stands h =
    let env : Env = record { declarations = ds; members = members; parts = parts; scope = scope } in
    let first = from_parts K.setting.image.code (statements_code env trees) _ entry code.last code.code in
    statements_follow K ds members parts callees has base below trees scope code.fits K.low slots entry first.0 [] s above first.1 stands
    (comes_map K (in_turn (map (λ (does : Does). does (context_of K callees env)) (trees_do trees)) s)
    (λ u t d later stands1. performing K.setting K.yield (running K first.0 [] later t) instruction.End first.2.0 (d stands1.low stands1.within)) h)

module _ (S : Setting) (y : Yield) (ds : List Declaration) (has : HasCode S ds) where
  -- ---- plain functions

  plain_back : (answered : Bool) (low : ℕ) (w : Around) (f : Function) (r : FunctionCode) (frame : Frame) (place : ℕ) (below : List Item) (slots : List Arg) (s : Store) (later : ℕ)
      → IsFunctionCode S ds f r → frame ≡ record { place = place + 1; stack = below; slots = slots; object = w.object; number = w.number } → low ≤ later → (o : Outcome (Unit {0}))
      → Comes (run_of S y answered low w)
      (λ words t. t.variables ≡ s.variables → low ≤ t.turns → t.turns ≤ S.turns → Reaches S y (running (run_of S y answered low w) (place + 1) (words_item words (is_bool f.result) ∷ below) slots t))
      (after_plain f s o)
      → Comes (run_of S y answered later (record { object = pos 0; number = 0; finish = w.finish; callers = OfPlain frame r.line r.is_bool ∷ w.callers }))
      (λ u t. later ≤ t.turns → t.turns ≤ S.turns
      → Leads S y (finished (OfPlain frame r.line r.is_bool ∷ w.callers) (body_at answered (record { object = pos 0; number = 0; finish = w.finish; callers = OfPlain frame r.line r.is_bool ∷ w.callers }) t) t.turns)) o
  plain_back answered low w f r frame place below slots s later is at less (Goes value t) h = λ above within.
      subst (λ line. Leads S y (ended w.callers (end.Trap (record { kind = NoReply; line = line })) (body_at answered w t) t.turns)) (sym is.line)
      (h (let a : later ≤ t.turns = above in omega arith) (λ _. within))
  plain_back answered low w f r frame place below slots s later is at less (Returns words t) h = λ above within.
      subst (λ frame. Leads S y (resumed frame (words_item words r.is_bool) (body_at answered w t) w.callers t.turns)) (sym at)
      (subst (λ b. Reaches S y (running (run_of S y answered low w) (place + 1) (words_item words b ∷ below) slots t)) (sym is.gives_bool)
      (h refl (let a : later ≤ t.turns = above in omega arith) within))
  plain_back answered low w f r frame place below slots s later is at less (Ends e t) h = λ above within. h (let a : later ≤ t.turns = above in omega arith) within

  plain_starts : (answered : Bool) (base : ℕ) (callees : Callees) → Below S y ds answered callees (base + 1) → (low : ℕ) → base ≤ low → (w : Around) (f : Function) (r : FunctionCode) → IsFunctionCode S ds f r
      → (arguments : List (List ℤ)) → length f.formals ≡ length arguments
      → (place : ℕ) (stack below : List Item) (slots : List Arg) (s : Store) → low ≤ s.turns → s.turns ≤ S.turns
      → (b : Bool) → nat_lt s.turns S.turns ≡ b
      → let run = run_of S y answered low w in let t : Store = record s { variables = formals_holding f.formals arguments; turns = s.turns + 1 } in
      let c = context_of run callees (function_env ds f) in
      Comes run (λ words t. t.variables ≡ s.variables → low ≤ t.turns → t.turns ≤ S.turns → Reaches S y (running run (place + 1) (words_item words (is_bool f.result) ∷ below) slots t))
      (after_plain f s (and_then {A = Unit {0}} {B = Unit {0}} (if b then Goes tt t else Ends end.Spent t)
      (λ _. in_turn (map (λ (does : Does). does (record c { object = pos 0; number = 0 })) (trees_do (stmts_of f.body))))))
      → let x = running run place stack slots (record s { turns = s.turns + 1 }) in
      Leads S y (if b then machine.Goes (record x { frame = begun r.entry (map Know arguments); callers = OfPlain (waiting x below) r.line r.is_bool ∷ x.callers }) else stops end.Spent x)
  plain_starts answered base callees under low above w f r is arguments sized place stack below slots s least within false turns h =
      h (let a : low ≤ s.turns = least in omega arith) (λ other. absurd (other refl))
  plain_starts answered base callees under low above w f r is arguments sized place stack below slots s least within true turns h =
      let less : s.turns < S.turns = ltb-true s.turns S.turns turns in
      let a : low ≤ s.turns = least in
      let later : ℕ = s.turns + 1 in
      let frame : Frame = record { place = place + 1; stack = below; slots = slots; object = w.object; number = w.number } in
      let inner : Run = run_of S y answered later (record { object = pos 0; number = 0; finish = w.finish; callers = OfPlain frame r.line r.is_bool ∷ w.callers }) in
      let t : Store = record s { variables = formals_holding f.formals arguments; turns = s.turns + 1 } in
      body_follows inner ds [] [] callees has (base + 1) under (map formal_shape f.formals) (stmts_of f.body) r.entry (map Know arguments) t (omega arith) is.body
      (record { agree = formals_hold f.formals arguments; sized = formals_sized f.formals arguments sized; low = omega arith; within = omega arith })
      (plain_back answered low w f r frame place below slots s later is refl (omega arith)
      (in_turn (map (λ (does : Does). does (context_of inner callees (function_env ds f))) (trees_do (stmts_of f.body))) t) h)

  -- ---- regular members

  regular_back : (answered : Bool) (low : ℕ) (w : Around) (m : Member) (r : MemberCode) (frame : Frame) (place : ℕ) (below : List Item) (slots : List Arg) (s : Store) (later : ℕ)
      → IsMemberCode S (regular_env ds m) m r → frame ≡ record { place = place + 1; stack = below; slots = slots; object = w.object; number = w.number } → low ≤ later → (o : Outcome (Unit {0}))
      → Comes (run_of S y answered low w)
      (λ a t. t.variables ≡ s.variables → low ≤ t.turns → t.turns ≤ S.turns → Reaches S y (running (run_of S y answered low w) (place + 1) (item_of a ∷ below) slots t))
      (after_regular m s o)
      → let inner : Around = record { object = pos 0; number = 0; finish = r.finish; callers = OfRegular frame (body_at answered w s) ∷ w.callers } in
      Comes (run_of S y false later inner) (λ u t. later ≤ t.turns → t.turns ≤ S.turns → Leads S y (finished inner.callers (body_at false inner t) t.turns)) o
  regular_back answered low w m r frame place below slots s later is at less (Goes value t) h = λ above within.
      subst (λ frame. Leads S y (resumed frame (item_of (arg_of_result (at_end r.finish t.result))) (body_at answered w s) w.callers t.turns)) (sym at)
      (subst (λ given. Reaches S y (running (run_of S y answered low w) (place + 1) (item_of (arg_of_result given) ∷ below) slots (record s { turns = t.turns })))
      (end_same m.result m.body.mark_line t.result ∙ ap (λ finish. at_end finish t.result) (sym is.finish))
      (h refl (let a : later ≤ t.turns = above in omega arith) within))
  regular_back answered low w m r frame place below slots s later is at less (Returns words t) h = λ above within.
      subst (λ frame. Leads S y (resumed frame (item_of (arg_of_result (at_end r.finish t.result))) (body_at answered w s) w.callers t.turns)) (sym at)
      (subst (λ given. Reaches S y (running (run_of S y answered low w) (place + 1) (item_of (arg_of_result given) ∷ below) slots (record s { turns = t.turns })))
      (end_same m.result m.body.mark_line t.result ∙ ap (λ finish. at_end finish t.result) (sym is.finish))
      (h refl (let a : later ≤ t.turns = above in omega arith) within))
  regular_back answered low w m r frame place below slots s later is at less (Ends end.Done t) h = λ above within.
      subst (λ frame. Leads S y (resumed frame (item_of (arg_of_result (at_stop r.finish end.Done t.result))) (body_at answered w s) w.callers t.turns)) (sym at)
      (subst (λ given. Reaches S y (running (run_of S y answered low w) (place + 1) (item_of (arg_of_result given) ∷ below) slots (record s { turns = t.turns })))
      (stop_same m.result m.body.mark_line end.Done t.result ∙ ap (λ finish. at_stop finish end.Done t.result) (sym is.finish))
      (h refl (let a : later ≤ t.turns = above in omega arith) (within (λ e. absurd cc))))
  regular_back answered low w m r frame place below slots s later is at less (Ends (end.Trap trap) t) h = λ above within.
      subst (λ frame. Leads S y (resumed frame (item_of (arg_of_result (at_stop r.finish (end.Trap trap) t.result))) (body_at answered w s) w.callers t.turns)) (sym at)
      (subst (λ given. Reaches S y (running (run_of S y answered low w) (place + 1) (item_of (arg_of_result given) ∷ below) slots (record s { turns = t.turns })))
      (stop_same m.result m.body.mark_line (end.Trap trap) t.result ∙ ap (λ finish. at_stop finish (end.Trap trap) t.result) (sym is.finish))
      (h refl (let a : later ≤ t.turns = above in omega arith) (within (λ e. absurd cc))))
  regular_back answered low w m r frame place below slots s later is at less (Ends end.Waits t) h = λ above within.
      subst (λ frame. Leads S y (resumed frame (item_of (arg_of_result (at_stop r.finish end.Waits t.result))) (body_at answered w s) w.callers t.turns)) (sym at)
      (subst (λ given. Reaches S y (running (run_of S y answered low w) (place + 1) (item_of (arg_of_result given) ∷ below) slots (record s { turns = t.turns })))
      (stop_same m.result m.body.mark_line end.Waits t.result ∙ ap (λ finish. at_stop finish end.Waits t.result) (sym is.finish))
      (h refl (let a : later ≤ t.turns = above in omega arith) (within (λ e. absurd cc))))
  regular_back answered low w m r frame place below slots s later is at less (Ends end.Spent t) h = λ above within.
      h (let a : later ≤ t.turns = above in omega arith) (λ other. absurd (other refl))

  regular_starts : (answered : Bool) (base : ℕ) (callees : Callees) → Below S y ds false callees (base + 1) → (low : ℕ) → base ≤ low → (w : Around) (m : Member) (r : MemberCode) → IsMemberCode S (regular_env ds m) m r
      → (arguments : List (List ℤ)) → length m.formals ≡ length arguments
      → (place : ℕ) (stack below : List Item) (slots : List Arg) (s : Store) → low ≤ s.turns → s.turns ≤ S.turns
      → (b : Bool) → nat_lt s.turns S.turns ≡ b
      → let run = run_of S y answered low w in let t : Store = store_with (formals_holding m.formals arguments) [] [] (s.turns + 1) in
      let c = context_of (run_of S y false low w) callees (regular_env ds m) in
      Comes run (λ a t. t.variables ≡ s.variables → low ≤ t.turns → t.turns ≤ S.turns → Reaches S y (running run (place + 1) (item_of a ∷ below) slots t))
      (after_regular m s (and_then {A = Unit {0}} {B = Unit {0}} (if b then Goes tt t else Ends end.Spent t)
      (λ _. in_turn (map (λ (does : Does). does (record c { object = pos 0; number = 0 })) (trees_do (stmts_of m.body))))))
      → let x = running run place stack slots (record s { turns = s.turns + 1 }) in
      Leads S y (if b then machine.Goes (record x { frame = begun r.entry (map Know arguments); body = body_begun r.finish; callers = OfRegular (waiting x below) x.body ∷ x.callers }) else stops end.Spent x)
  regular_starts answered base callees under low above w m r is arguments sized place stack below slots s least within false turns h =
      h (let a : low ≤ s.turns = least in omega arith) (λ other. absurd (other refl))
  regular_starts answered base callees under low above w m r is arguments sized place stack below slots s least within true turns h =
      let less : s.turns < S.turns = ltb-true s.turns S.turns turns in
      let a : low ≤ s.turns = least in
      let later : ℕ = s.turns + 1 in
      let frame : Frame = record { place = place + 1; stack = below; slots = slots; object = w.object; number = w.number } in
      let inner : Run = run_of S y false later (record { object = pos 0; number = 0; finish = r.finish; callers = OfRegular frame (body_at answered w s) ∷ w.callers }) in
      let t : Store = store_with (formals_holding m.formals arguments) [] [] (s.turns + 1) in
      body_follows inner ds [] [] callees has (base + 1) under (map formal_shape m.formals) (stmts_of m.body) r.entry (map Know arguments) t (omega arith) is.body
      (record { agree = formals_hold m.formals arguments; sized = formals_sized m.formals arguments sized; low = omega arith; within = omega arith })
      (regular_back answered low w m r frame place below slots s later is refl (omega arith)
      (in_turn (map (λ (does : Does). does (context_of inner callees (regular_env ds m))) (trees_do (stmts_of m.body))) t) h)

  -- ---- so many levels deep

  abbrev callees_of : ℕ → Bool → Callees
  callees_of level answered = callees_at level ds S.turns (if answered then S.replies else empty)

  by_none : {A : Type 0} (Q : A → Store → Type 0) (low : ℕ) (w : Around) (answered : Bool) (place : ℕ) (stack : List Item) (slots : List Arg) (s : Store) (next : Machine → Next)
      (b : Bool) → nat_lt s.turns S.turns ≡ b → low ≤ s.turns → S.turns ≤ s.turns
      → Comes (run_of S y answered low w) Q (and_then {A = Unit {0}} {B = A} (if b then Goes tt (record s { turns = s.turns + 1 }) else Ends end.Spent (record s { turns = s.turns + 1 })) (λ _ t. Ends end.Spent t))
      → Leads S y (if b then next (running (run_of S y answered low w) place stack slots (record s { turns = s.turns + 1 })) else stops end.Spent (running (run_of S y answered low w) place stack slots (record s { turns = s.turns + 1 })))
  by_none Q low w answered place stack slots s next true is from none h = absurd (let less : s.turns < S.turns = ltb-true s.turns S.turns is in omega arith)
  by_none Q low w answered place stack slots s next false is from none h = h (let a : low ≤ s.turns = from in omega arith) (λ other. absurd (other refl))

  pub below_at : (level base : ℕ) (answered : Bool) → S.turns ≤ base + level → Below S y ds answered (callees_of level answered) base
  below_at zero base answered least = record {
    plain = λ low above w f r is arguments sized place stack below slots s from within h.
        by_none _ low w answered place stack slots s (λ x. machine.Goes (record x { frame = begun r.entry (map Know arguments); callers = OfPlain (waiting x below) r.line r.is_bool ∷ x.callers }))
        (nat_lt s.turns S.turns) refl from (let a : low ≤ s.turns = from in omega arith) h;
    regular = λ low above w m r is arguments sized place stack below slots s from within h.
        by_none _ low w answered place stack slots s (λ x. machine.Goes (record x { frame = begun r.entry (map Know arguments); body = body_begun r.finish; callers = OfRegular (waiting x below) x.body ∷ x.callers }))
        (nat_lt s.turns S.turns) refl from (let a : low ≤ s.turns = from in omega arith) h;
  }
  below_at (suc level) base answered least = record {
    plain = λ low above w f r is arguments sized place stack below slots s from within h.
        plain_starts answered base (callees_of level answered) (below_at level (base + 1) answered (omega arith)) low above w f r is arguments sized place stack below slots s from within (nat_lt s.turns S.turns) refl
        (subst (λ effect. Comes (run_of S y answered low w)
        (λ words t. t.variables ≡ s.variables → low ≤ t.turns → t.turns ≤ S.turns → Reaches S y (running (run_of S y answered low w) (place + 1) (words_item words (is_bool f.result) ∷ below) slots t))
        (after_plain f s (effect (with_variables (formals_holding f.formals arguments) s))))
        (run_same (record (context_of (run_of S y answered low w) (callees_of level answered) (function_env ds f)) { object = pos 0; number = 0 }) f.body.statements) h);
    regular = λ low above w m r is arguments sized place stack below slots s from within h.
        regular_starts answered base (callees_of level false) (below_at level (base + 1) false (omega arith)) low above w m r is arguments sized place stack below slots s from within (nat_lt s.turns S.turns) refl
        (subst (λ effect. Comes (run_of S y answered low w)
        (λ a t. t.variables ≡ s.variables → low ≤ t.turns → t.turns ≤ S.turns → Reaches S y (running (run_of S y answered low w) (place + 1) (item_of a ∷ below) slots t))
        (after_regular m s (effect (store_with (formals_holding m.formals arguments) [] [] s.turns))))
        (run_same (record (context_of (run_of S y false low w) (callees_of level false) (regular_env ds m)) { object = pos 0; number = 0 }) m.body.statements) h);
  }

  -- ---- a body from its start

  -- the first body, that nothing called
  abbrev outermost : ℤ → ℕ → Finish → Run
  outermost object number finish = run_of S y true 0 (record { object = object; number = number; finish = finish; callers = [] })

  first_starts : (object : ℤ) (number : ℕ) (finish : Finish) (members : List Member) (parts : List Part) (scope : List Shape) (trees : Stmts) (entry : ℕ)
      (slots : List Arg) (s : Store) → IsBodyCode S (record { declarations = ds; members = members; parts = parts; scope = scope }) trees entry
      → s.variables ≡ variables_of scope slots → length scope ≡ length slots → s.turns ≡ 0
      → Comes (outermost object number finish) (λ u t. Leads S y (finished [] (body_at true (outermost object number finish).around t) t.turns))
      (trees_run (context_of (outermost object number finish) (callees_of S.turns true) (record { declarations = ds; members = members; parts = parts; scope = scope })) trees s)
      → Leads S y (spends S (running (outermost object number finish) entry [] slots s) machine.Goes)
  first_starts object number finish members parts scope trees entry slots s code agree sized none h = by_turns (nat_lt s.turns S.turns) refl h where
    env : Env
    env = record { declarations = ds; members = members; parts = parts; scope = scope }

    c : Context
    c = context_of (outermost object number finish) (callees_of S.turns true) (record { declarations = ds; members = members; parts = parts; scope = scope })

    by_turns : (b : Bool) → nat_lt s.turns S.turns ≡ b
        → Comes (outermost object number finish) (λ u t. Leads S y (finished [] (body_at true (outermost object number finish).around t) t.turns))
        (and_then {A = Unit {0}} {B = Unit {0}} (if b then Goes tt (record s { turns = s.turns + 1 }) else Ends end.Spent (record s { turns = s.turns + 1 }))
        (λ _. in_turn (map (λ (does : Does). does (context_of (outermost object number finish) (callees_of S.turns true) (record { declarations = ds; members = members; parts = parts; scope = scope }))) (trees_do trees))))
        → Leads S y (if b then machine.Goes (running (outermost object number finish) entry [] slots (record s { turns = s.turns + 1 })) else stops end.Spent (running (outermost object number finish) entry [] slots (record s { turns = s.turns + 1 })))
    by_turns true is h =
        let less : s.turns < S.turns = ltb-true s.turns S.turns is in
        body_follows (outermost object number finish) ds members parts (callees_of S.turns true) has 0 (below_at S.turns 0 true (omega arith)) scope trees entry slots (record s { turns = s.turns + 1 }) (omega arith) code
        (record { agree = agree; sized = sized; low = omega arith; within = omega arith })
        (comes_map (outermost object number finish)
        (in_turn (map (λ (does : Does). does (context_of (outermost object number finish) (callees_of S.turns true) (record { declarations = ds; members = members; parts = parts; scope = scope }))) (trees_do trees)) (record s { turns = s.turns + 1 }))
        (λ u t d low within. d) h)
    by_turns false is h = h (omega arith) (λ other. absurd (other refl))

-- ---- what the first body comes to is its yield

main_ends : (S : Setting) (start : BodyStart) (o : Outcome (Unit {0}))
    → let K = run_of S (main_yield o) true 0 (record { object = pos 0; number = start.number; finish = finish.Main; callers = [] }) in
    Comes K (λ u t. Leads S (main_yield o) (finished [] (body_at true K.around t) t.turns)) o
main_ends S start (Goes u t) = refl
main_ends S start (Returns words t) = λ low within. refl
main_ends S start (Ends e t) = λ low within. refl

member_ends : (S : Setting) (start : BodyStart) (m : Member) (o : Outcome (Unit {0}))
    → let K = run_of S (member_yield m o) true 0 (record { object = start.object; number = start.number; finish = finish_of m.result m.body.mark_line; callers = [] }) in
    Comes K (λ u t. Leads S (member_yield m o) (finished [] (body_at true K.around t) t.turns)) o
member_ends S start m (Goes u t) = ap (λ given. yield_at end.Done given (body_at true (record { object = start.object; number = start.number; finish = finish_of m.result m.body.mark_line; callers = [] }) t) t.turns) (sym (end_same m.result m.body.mark_line t.result))
member_ends S start m (Returns words t) = λ low within.
    ap (λ given. yield_at end.Done given (body_at true (record { object = start.object; number = start.number; finish = finish_of m.result m.body.mark_line; callers = [] }) t) t.turns) (sym (end_same m.result m.body.mark_line t.result))
member_ends S start m (Ends e t) = λ low within.
    ap (λ given. yield_at e given (body_at true (record { object = start.object; number = start.number; finish = finish_of m.result m.body.mark_line; callers = [] }) t) t.turns) (sym (stop_same m.result m.body.mark_line e t.result))

-- what is left to do after the turn of a start, in so many steps
comes_to : (S : Setting) (y : Yield) (x : Machine) → Leads S y (spends S x machine.Goes) → ComesTo S x y
comes_to S y x h = by_next (spends S x machine.Goes) refl h where
  by_next : (next : Next) → spends S x machine.Goes ≡ next → Leads S y next → ComesTo S x y
  by_next (machine.Goes z) is h = record { steps = h.0; comes = ap (followed (exec h.0 S)) is ∙ h.1 }
  by_next (machine.Stops z) is h = record { steps = 0; comes = ap (followed (exec 0 S)) is ∙ ap Some h }

pub main_comes : (S : Setting) (p : Program) (start : BodyStart) (entry : ℕ) → start.member ≡ None → HasCode S p.declarations
    → IsBodyCode S (main_env p.declarations) (stmts_from (main_statements p.declarations)) entry
    → ComesTo S (main_machine start entry) (yield_of p start S.replies S.turns)
main_comes S p start entry none has code =
    let c = context_of (run_of S (yield_of p start S.replies S.turns) true 0 (record { object = pos 0; number = start.number; finish = finish.Main; callers = [] })) (callees_at S.turns p.declarations S.turns S.replies) (main_env p.declarations) in
    let s : Store = store_with [] start.state start.input 0 in
    let statements = main_statements p.declarations in
    let o = trees_run c (stmts_from statements) s in
    let is : main_yield (run c statements s) ≡ main_yield o = ap (λ (effect : Effect). main_yield (effect s)) (run_same c statements) in
    let whole : yield_of p start S.replies S.turns ≡ main_yield o = ap (λ m. body_of
    (context_with p.declarations S.turns S.replies (callees_at S.turns p.declarations S.turns S.replies)) start m) none ∙ is in
    subst (ComesTo S (main_machine start entry)) (sym whole)
    (comes_to S (main_yield o) (main_machine start entry)
    (first_starts S (main_yield o) p.declarations has (pos 0) start.number finish.Main [] [] [] (stmts_from statements) entry [] s code refl refl refl (main_ends S start o)))

split_length : (ds : List Declaration) (formals : List Formal) (words : List ℤ) → length formals ≡ length (split_words ds formals words)
split_length ds [] words = refl
split_length ds (formal ∷ formals) words = ap suc (split_length ds formals _)

pub member_comes : (S : Setting) (p : Program) (start : BodyStart) (id : MemberId) (found : Class × Member) (code : MemberCode)
    → start.member ≡ Some id → member_of_id p.declarations id ≡ Some found → HasCode S p.declarations
    → IsMemberCode S (member_env p.declarations found.0 found.1) found.1 code
    → ComesTo S (member_machine p.declarations start found.1 code) (yield_of p start S.replies S.turns)
member_comes S p start id found code one two has stands =
    let outer = context_with p.declarations S.turns S.replies (callees_at S.turns p.declarations S.turns S.replies) in
    let is : yield_of p start S.replies S.turns ≡ member_body outer start (Some found) = ap (body_of outer start) one ∙ ap (member_body outer start) two in
    let m = found.1 in
    let ds = p.declarations in
    let env = member_env ds found.0 m in
    let arguments = split_words ds m.formals start.args in
    let c = context_of (run_of S (yield_of p start S.replies S.turns) true 0 (record { object = start.object; number = start.number; finish = code.finish; callers = [] })) (callees_at S.turns ds S.turns S.replies) env in
    let s : Store = store_with (formals_holding m.formals arguments) start.state start.input 0 in
    let o = trees_run c (stmts_of m.body) s in
    let whole : yield_of p start S.replies S.turns ≡ member_yield m o = is ∙ ap (λ (effect : Effect). member_yield m (effect s)) (run_same c m.body.statements) in
    subst (ComesTo S (member_machine ds start m code)) (sym whole)
    (comes_to S (member_yield m o) (member_machine ds start m code)
    (first_starts S (member_yield m o) ds has start.object start.number code.finish env.members env.parts env.scope (stmts_of m.body) code.entry (map Know arguments) s stands.body
    (formals_hold m.formals arguments) (formals_sized m.formals arguments (split_length ds m.formals start.args)) refl
    (subst (λ finish. Comes (run_of S (member_yield m o) true 0 (record { object = start.object; number = start.number; finish = finish; callers = [] }))
    (λ u t. Leads S (member_yield m o) (finished [] (body_at true (record { object = start.object; number = start.number; finish = finish; callers = [] }) t) t.turns)) o)
    (sym stands.finish) (member_ends S start m o))))
