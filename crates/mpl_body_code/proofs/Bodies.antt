-- The code of loops and of whole statements.
use Rattle.std.proofs.Common.{◌≡◌, ◌≤◌, ◌<◌, ℕ, zero, suc, ◌+◌, ◌-◌, Bool, true, false, List, [], ◌∷◌, ◌++◌, length, map, Option, Some, None, if◌then◌else◌, refl, ap, sym, subst, arith}
use Rattle.std.specs.Prelude.{slice_get}
use Rattle.mpl_ast.specs.declared.place.Name.{Name}
use Rattle.mpl_ast.specs.declared.program.Declaration.{Declaration}
use Rattle.mpl_ast.specs.declared.statement.Dimension.{Dimension}
use Rattle.mpl_ast.specs.declared.statement.TypeName.{TypeName}
use Rattle.mpl_value.specs.Words.{zeros}
use Rattle.mpl_value.specs.declared.body.Arg.{Arg}
use Rattle.mpl_value.specs.declared.body.Arg.TheVariants as arg
use Rattle.mpl_mean.specs.Meaning.Context.{Callees, Context}
use Rattle.mpl_mean.specs.Meaning.Layout.{Member, Part, dimension_of, words_of}
use Rattle.mpl_mean.specs.Meaning.StatementMeaning.{Does, Effect, assign_location, at_location, create_at, gives_result, line_of, nothing, while_loop}
use Rattle.mpl_mean.specs.Meaning.Store.{Store, Outcome, Goes, Returns, Ends, ◌>>=◌, ◌>>◌, all_of, and_then, declare, in_scope, in_turn, printed, waits}
use Rattle.mpl_mean.specs.Meaning.Values.{is_true}
use Rattle.mpl_mean.specs.Plain.Expr.{Expr}
use Rattle.mpl_mean.specs.Plain.Expr as e
use Rattle.mpl_mean.specs.Plain.Stmt.{NewLocal, Stmt, Stmts}
use Rattle.mpl_mean.specs.Plain.Stmt as t
use Rattle.mpl_plain.specs.ExprMeaning.{tree_passes, tree_value}
use Rattle.mpl_plain.specs.StmtMeaning.{assign_element, assign_tree, initial, local_does, tree_does, tree_loop, trees_do}
use Rattle.mpl_plain.specs.Arity.{AnyFits, ExprFits, IndexFits, LocalsFit, StatementFits, StatementsFit}
use Rattle.mpl_mean.specs.Plain.Scopes.{Env, Shape, behind, declares_all, found_at}
use Rattle.mpl_body_code.specs.Codes.{Code, From, expression_code, expression_codes, flow_code, initial_code, locals_code, loop_code, place_code, scope_code, statement_code, statements_code}
use Rattle.mpl_body_code.specs.Images.{HasCode}
use Rattle.mpl_body_code.specs.Machine.{Item, Machine, Next, OfValue, arg_of}
use Rattle.mpl_body_code.specs.Steps.{at_place, gives, onward, past, performs, spends}
use Rattle.mpl_body_code.specs.declared.instruction.Instruction.{Instruction}
use Rattle.mpl_body_code.specs.declared.instruction.Instruction.TheVariants as instruction
use Rattle.mpl_body_code.proofs.Below.{Below}
use Rattle.mpl_body_code.proofs.Expressions.{ValueAt}
use Rattle.mpl_body_code.proofs.Flows.{ItemAt, spends_follow}
use Rattle.mpl_body_code.proofs.Reaching.{Comes, Leads, Run, comes_map, from_length, from_parts, goes_on, running}
use Rattle.mpl_body_code.proofs.Scoped.{Stands, located, variable_of}
use Rattle.mpl_body_code.proofs.Statements as one
use Rattle.mpl_body_code.proofs.Statements.{behind_all, behind_all_newer, behind_newer}

-- a later start of the run asks less of what comes
comes_later : {A : Type 0} (K : Run) (low : ℕ) (Q : A → Store → Type 0) (o : Outcome A) → K.low ≤ low → Comes K Q o → Comes (record K { low = low }) Q o
comes_later K low Q (Goes a s) e h = h
comes_later K low Q (Returns words s) e h = λ above within. h (let a : low ≤ s.turns = above in omega arith) within
comes_later K low Q (Ends end s) e h = λ above within. h (let a : low ≤ s.turns = above in omega arith) within

module _ (K : Run) (ds : List Declaration) (members : List Member) (parts : List Part) (callees : Callees) (has : HasCode K.setting ds)
    (base : ℕ) (below : Below K.setting K.yield ds K.answered callees base) where
  abbrev env : List Shape → Env
  env = one.env K ds members parts callees has base below

  abbrev L : ℕ → Run
  L = one.L K ds members parts callees has base below

  abbrev X : List Arg → ℕ → List Item → Store → Type 0
  X = one.X K ds members parts callees has base below

  abbrev Done : ℕ → List Shape → ℕ → List Item → Unit {0} → Store → Type 0
  Done = one.Done K ds members parts callees has base below

  abbrev c : Context
  c = one.c K ds members parts callees has base below

  abbrev CodeFrom : ℕ → Code → ℕ → Type 0
  CodeFrom = From K.setting.image.code

  moves : {p q : ℕ} (slots : List Arg) (stack : List Item) (s : Store) → p ≡ q → X slots q stack s → X slots p stack s
  moves = one.moves K ds members parts callees has base below

  perform : (slots : List Arg) (p : ℕ) (stack : List Item) (s : Store) (i : Instruction) → slice_get K.setting.image.code p ≡ Some i
      → Leads K.setting K.yield (performs K.setting i (running K p stack slots s)) → X slots p stack s
  perform = one.perform K ds members parts callees has base below

  earlier : {low later : ℕ} {scope : List Shape} {slots : List Arg} {s : Store} → low ≤ later → Stands (L later) scope slots s → Stands (L low) scope slots s
  earlier {low} {later} {scope} {slots} {s} e stands =
      record { agree = stands.agree; sized = stands.sized; low = (let a : later ≤ s.turns = stands.low in omega arith); within = stands.within }

  -- ---- loops

  -- what an effect does, from wherever its code stands
  abbrev Follows : List Shape → Code → List Shape → Effect → Type 0
  Follows scope code after step = (low : ℕ) (slots : List Arg) (p q : ℕ) (stack : List Item) (s : Store) → base ≤ low → CodeFrom p code q → Stands (L low) scope slots s
      → Comes (L low) (Done low after q stack) (step s) → X slots p stack s

  -- the places of a loop: its test, the place where that decides, its body, and the way back
  record Loop (scope : List Shape) (test : Expr) (code : Code) (q : ℕ) : Type 0 where
    start : ℕ
    deciding : ℕ
    again : ℕ
    of_test : CodeFrom start (expression_code (env scope) test) deciding
    unless : slice_get K.setting.image.code deciding ≡ Some (instruction.Unless (suc (length code)))
    of_body : CodeFrom (deciding + 1) code again
    back : slice_get K.setting.image.code again ≡ Some (instruction.Again (length (expression_code (env scope) test) + suc (length code)))
    last : again + 1 ≡ q

  decides : (b : Bool) (scope : List Shape) (slots : List Arg) (low p q count : ℕ) (stack under : List Item) (s : Store) (more : Effect) → p + 1 + count ≡ q → Stands (L low) scope slots s
      → (low' : ℕ) → low' ≤ low → (Comes (L low) (Done low' scope q stack) (more s) → X slots (p + 1) stack s)
      → Comes (L low) (Done low' scope q stack) ((if b then more else nothing) s)
      → Leads K.setting K.yield (if b then onward (running K p under slots s) stack else past count (running K p under slots s) stack)
  decides true scope slots low p q count stack under s more e stands low' less f h = f h
  decides false scope slots low p q count stack under s more e stands low' less f h = moves slots stack s e (h slots (earlier less stands))

  loops_from : (fuel : ℕ) (scope : List Shape) (test : Expr) (code : Code) (step : Effect) (q : ℕ) (stack : List Item) → Loop scope test code q → ExprFits (env scope) test → Follows scope code scope step
      → (low : ℕ) (slots : List Arg) (p : ℕ) (s : Store) (next : Machine → Next) → base ≤ low → Stands (L low) scope slots s → K.setting.turns < s.turns + fuel
      → (start : ℕ) → ((z : Store) → X slots start stack z → Leads K.setting K.yield (next (running K p stack slots z)))
      → (l : Loop scope test code q) → l.start ≡ start
      → Comes (L low) (Done low scope q stack) (while_loop fuel K.setting.turns (tree_value test c) step s)
      → Leads K.setting K.yield (spends K.setting (running K p stack slots s) next)
  loops_from zero scope test code step q stack l fits follows low slots p s next above stands fuel start arrives l' is h =
      absurd (let within : s.turns ≤ K.setting.turns = stands.within in omega arith)
  loops_from (suc fuel) scope test code step q stack l0 fits follows low slots p s next above stands more start arrives l is h =
      spends_follow (L low) scope slots (Done low scope q stack) p stack s
      (tree_value test c >>= (λ value. if is_true value then (step >> while_loop fuel K.setting.turns (tree_value test c) step) else nothing)) next stands
      (λ stands1 h1.
      let low1 : ℕ = s.turns + 1 in
      let least : low ≤ s.turns = stands.low in
      let rises : low ≤ low1 = omega arith in
      let above1 : base ≤ low1 = omega arith in
      let s1 : Store = record s { turns = s.turns + 1 } in
      let ready : Stands (L low1) scope slots s1 = record { agree = stands1.agree; sized = stands1.sized; low = omega arith; within = stands1.within } in
      arrives s1
      (subst (λ n. X slots n stack s1) is
      (one.evaluates K ds members parts callees has base below low1 above1 scope slots test l.start l.deciding stack s1 l.of_test fits ready
      (goes_on (L low1) (Done low scope q stack) (ValueAt (L low1) scope slots l.deciding stack) (tree_value test c s1) _
      (λ v s2 h2 stands2. perform slots l.deciding (OfValue v ∷ stack) s2 _ l.unless
      (decides (is_true v) scope slots low1 l.deciding q (suc (length code)) stack (OfValue v ∷ stack) s2 (step >> while_loop fuel K.setting.turns (tree_value test c) step)
      (let a = from_length K.setting.image.code code (l.deciding + 1) l.again l.of_body in let b : l.again + 1 ≡ q = l.last in omega arith)
      stands2 low rises
      (λ h3. follows low1 slots (l.deciding + 1) l.again stack s2 above1 l.of_body stands2
      (goes_on (L low1) (Done low scope q stack) (Done low1 scope l.again stack) (step s2) _
      (λ u s3 h4 slots3 stands3. perform slots3 l.again stack s3 _ l.back
      (loops_from fuel scope test code step q stack l fits follows low1 slots3 l.again s3
      (λ x. at_place (x.frame.place - (length (expression_code (env scope) test) + suc (length code))) x x.frame.stack) above1 stands3
      (let after : low1 ≤ s3.turns = stands3.low in omega arith)
      l.start
      (λ z at. moves slots3 stack z
      (let a = from_length K.setting.image.code code (l.deciding + 1) l.again l.of_body in
      let b = from_length K.setting.image.code (expression_code (env scope) test) l.start l.deciding l.of_test in omega arith) at)
      l refl
      (comes_map (L low1) (while_loop fuel K.setting.turns (tree_value test c) step s3) (λ u t d slots stands. d slots (earlier rises stands)) h4)))
      h3))
      h2))
      (comes_later (L low) low1 (Done low scope q stack) _ rises h1)))))
      h

  loop_follows : (scope : List Shape) (test : Expr) (code : Code) (step : Effect) → ExprFits (env scope) test → Follows scope code scope step
      → Follows scope (loop_code (expression_code (env scope) test) code) scope (tree_loop c test step)
  loop_follows scope test code step fits follows low slots p q stack s above from stands h =
      let first = from_parts K.setting.image.code (expression_code (env scope) test) _ (p + 1) q from.1 in
      let second = from_parts K.setting.image.code code _ (first.0 + 1) q first.2.1 in
      let l : Loop scope test code q = record {
        start = p + 1;
        deciding = first.0;
        again = second.0;
        of_test = first.1;
        unless = first.2.0;
        of_body = second.1;
        back = second.2.0;
        last = second.2.1;
      } in
      perform slots p stack s instruction.Turn from.0
      (loops_from (K.setting.turns + 1) scope test code step q stack l fits follows low slots p s (λ x. onward x x.frame.stack) above stands (omega arith) (p + 1) (λ z at. at) l refl h)

  -- ---- locals

  module _ (type : TypeName) (name : Name) (dimension : Option Dimension) (scope : List Shape) where
    abbrev shape : Shape
    shape = record { name = name.text; type = type; dimension = dimension_of dimension }

    -- a new variable that holds what is passed on, and then the rest
    associates : (low : ℕ) (after : List Shape) (q : ℕ) (stack : List Item) (o : Outcome Arg) (rest : Effect)
        → Comes (L low) (Done low after q stack) (and_then (and_then o (λ holds. declare (variable_of shape holds))) (λ _. rest))
        → Comes (L low) (Done low after q stack) (and_then o (λ a t. rest (record t { variables = variable_of shape a ∷ t.variables })))
    associates low after q stack (Goes a t) rest h = h
    associates low after q stack (Returns words t) rest h = h
    associates low after q stack (Ends e t) rest h = h

    first_follows : (initialiser : Option Expr) (code : Code) (after : List Shape) (rest : Effect) → AnyFits (env scope) initialiser → Follows (shape ∷ scope) code after rest
        → Follows scope (initial_code (env scope) type dimension initialiser ++ code) after
        ((λ (context : Context). initial type dimension initialiser context >>= (λ holds. declare (variable_of shape holds))) c >>= (λ _. rest))
    first_follows None code after rest fits follows low slots p q stack s above from stands h =
        let holds : Arg = arg.Know (zeros (words_of ds type (dimension_of dimension))) in
        perform slots p stack s _ from.0
        (follows low (holds ∷ slots) (p + 1) q stack (record s { variables = variable_of shape holds ∷ s.variables }) above from.1
        (record { agree = ap (λ vs. variable_of shape holds ∷ vs) stands.agree; sized = ap suc stands.sized; low = stands.low; within = stands.within }) h)
    first_follows (Some value) code after rest fits follows low slots p q stack s above from stands h =
        let parts_of = from_parts K.setting.image.code (flow_code (env scope) value ++ instruction.Bind ∷ []) _ p q from in
        let first = from_parts K.setting.image.code (flow_code (env scope) value) _ p parts_of.0 parts_of.1 in
        one.passes_on K ds members parts callees has base below low above scope slots value p first.0 stack s first.1 fits stands
        (goes_on (L low) (Done low after q stack) (ItemAt (L low) scope slots first.0 stack) (tree_passes value c s)
        (λ a t. rest (record t { variables = variable_of shape a ∷ t.variables }))
        (λ a s1 h1 stands1 item is. perform slots first.0 (item ∷ stack) s1 _ first.2.0
        (moves (arg_of item ∷ slots) stack s1 first.2.1
        (follows low (arg_of item ∷ slots) parts_of.0 q stack (record s1 { variables = variable_of shape (arg_of item) ∷ s1.variables }) above parts_of.2
        (record { agree = ap (λ vs. variable_of shape (arg_of item) ∷ vs) stands1.agree; sized = ap suc stands1.sized; low = stands1.low; within = stands1.within })
        (subst (λ a. Comes (L low) (Done low after q stack) (rest (record s1 { variables = variable_of shape a ∷ s1.variables }))) (sym is) h1))))
        (associates low after q stack (tree_passes value c s) rest h))

  locals_follow : (type : TypeName) (news : List NewLocal) (scope : List Shape) → LocalsFit (env scope) type news
      → Follows scope (locals_code (env scope) type news) (declares_all type news (env scope)).scope (in_turn (map (λ new. local_does type new c) news))
  locals_follow type [] scope fits low slots p q stack s above from stands h = moves slots stack s from (h slots stands)
  locals_follow type (new ∷ news) scope fits low slots p q stack s above from stands h =
      let inner = record { name = new.name.text; type = type; dimension = dimension_of new.dimension } ∷ scope in
      first_follows type new.name new.dimension scope new.initialiser (locals_code (env inner) type news) (declares_all type news (env inner)).scope
      (in_turn (map (λ new. local_does type new c) news)) fits.0 (locals_follow type news inner fits.1) low slots p q stack s above from stands h

  -- ---- tests

  branches : (b : Bool) (scope : List Shape) (slots : List Arg) (low p q : ℕ) (then_code else_code : Code) (stack under : List Item) (s : Store) (f g : Effect) → base ≤ low
      → Stands (L low) scope slots s → Follows scope then_code scope f → Follows scope else_code scope g
      → CodeFrom (p + 1) (then_code ++ instruction.Skip (length else_code) ∷ else_code) q
      → Comes (L low) (Done low scope q stack) ((if b then f else g) s)
      → Leads K.setting K.yield (if b then onward (running K p under slots s) stack else past (suc (length then_code)) (running K p under slots s) stack)
  branches true scope slots low p q then_code else_code stack under s f g above stands on_then on_else from h =
      let first = from_parts K.setting.image.code then_code _ (p + 1) q from in
      on_then low slots (p + 1) first.0 stack s above first.1 stands
      (comes_map (L low) (f s) (λ u t d slots1 stands1. perform slots1 first.0 stack t _ first.2.0
      (moves slots1 stack t (sym (from_length K.setting.image.code else_code (first.0 + 1) q first.2.1)) (d slots1 stands1))) h)
  branches false scope slots low p q then_code else_code stack under s f g above stands on_then on_else from h =
      let first = from_parts K.setting.image.code then_code _ (p + 1) q from in
      let a = from_length K.setting.image.code then_code (p + 1) first.0 first.1 in
      moves slots stack s (let goal : p + 1 + suc (length then_code) ≡ first.0 + 1 = omega arith in goal) (on_else low slots (first.0 + 1) q stack s above first.2.1 stands h)

  branch : (b : Bool) (scope : List Shape) (slots : List Arg) (low p q : ℕ) (code : Code) (stack under : List Item) (s : Store) (f : Effect) → base ≤ low
      → Stands (L low) scope slots s → Follows scope code scope f → CodeFrom (p + 1) code q
      → Comes (L low) (Done low scope q stack) ((if b then f else nothing) s)
      → Leads K.setting K.yield (if b then onward (running K p under slots s) stack else past (length code) (running K p under slots s) stack)
  branch true scope slots low p q code stack under s f above stands follows from h = follows low slots (p + 1) q stack s above from stands h
  branch false scope slots low p q code stack under s f above stands follows from h =
      moves slots stack s (sym (from_length K.setting.image.code code (p + 1) q from)) (h slots stands)

  -- ---- the forms

  abbrev StatementFollows : Stmt → Type 0
  StatementFollows t = (scope : List Shape) → StatementFits (env scope) t → Follows scope (statement_code (env scope) t) (behind t (env scope)).scope (tree_does t c)

  -- a statement whose locals go with it
  in_own_scope : (t : Stmt) → StatementFollows t → (scope : List Shape) → StatementFits (env scope) t
      → Follows scope (scope_code (env scope) (statement_code (env scope) t)) scope (in_scope (tree_does t c))
  in_own_scope t follows scope fits low slots p q stack s above from stands h =
      one.scoped_follows K ds members parts callees has base below low above scope slots (tree_does t c) (statement_code (env scope) t) (behind t (env scope)).scope p q stack s
      (behind_newer t (env scope)) from stands (λ m from1 h1. follows scope fits low slots p m stack s above from1 stands h1) h

  -- the loop of a `for`, in what its start leaves
  for_follows : (test : Expr) (step body : Stmt) → StatementFollows step → StatementFollows body → (scope : List Shape) (around : Env) → around ≡ env scope
      → ExprFits around test → StatementFits around step → StatementFits around body → behind step around ≡ around
      → Follows scope (loop_code (expression_code around test) (scope_code around (statement_code around body) ++ statement_code around step)) scope
      (tree_loop c test (in_scope (tree_does body c) >> tree_does step c))
  for_follows test step body on_step on_body scope around is fits_test fits_step fits_body stays =
      by_env around (sym is) fits_test fits_step fits_body stays where
        turn_follows : StatementFits (env scope) step → StatementFits (env scope) body → behind step (env scope) ≡ env scope
            → Follows scope (scope_code (env scope) (statement_code (env scope) body) ++ statement_code (env scope) step) scope (in_scope (tree_does body c) >> tree_does step c)
        turn_follows fits_step fits_body stays low slots p q stack s above from stands h =
            let first = from_parts K.setting.image.code (scope_code (env scope) (statement_code (env scope) body)) _ p q from in
            in_own_scope body on_body scope fits_body low slots p first.0 stack s above first.1 stands
            (goes_on (L low) (Done low scope q stack) (Done low scope first.0 stack) (in_scope (tree_does body c) s) (λ _. tree_does step c)
            (λ u s1 h1 slots1 stands1. on_step scope fits_step low slots1 first.0 q stack s1 above first.2 stands1
            (subst (λ after. Comes (L low) (Done low after q stack) (tree_does step c s1)) (sym (ap Env.scope stays)) h1))
            h)

        by_env : (around : Env) → env scope ≡ around → ExprFits around test → StatementFits around step → StatementFits around body → behind step around ≡ around
            → Follows scope (loop_code (expression_code around test) (scope_code around (statement_code around body) ++ statement_code around step)) scope
            (tree_loop c test (in_scope (tree_does body c) >> tree_does step c))
        by_env around is =
            subst (λ around. ExprFits around test → StatementFits around step → StatementFits around body → behind step around ≡ around
            → Follows scope (loop_code (expression_code around test) (scope_code around (statement_code around body) ++ statement_code around step)) scope
            (tree_loop c test (in_scope (tree_does body c) >> tree_does step c))) is
            (λ fits_test fits_step fits_body stays. loop_follows scope test _ (in_scope (tree_does body c) >> tree_does step c) fits_test (turn_follows fits_step fits_body stays))

  waits_follow : (scope : List Shape) (low : ℕ) (slots : List Arg) (p q : ℕ) (stack : List Item) (s : Store) (item : Item)
      → CodeFrom p (instruction.Wait ∷ []) q → Stands (L low) scope slots s → Comes (L low) (Done low scope q stack) (waits s) → X slots p (item ∷ stack) s
  waits_follow scope low slots p q stack s item from stands h = perform slots p (item ∷ stack) s instruction.Wait from.0 (h stands.low (λ _. stands.within))

  -- what was passed on goes into what is assigned to
  place_follows : (place : Expr) (scope : List Shape) → IndexFits (env scope) place → (low : ℕ) (slots : List Arg) (p q : ℕ) (stack : List Item) (s : Store) (item : Item) (a : Arg)
      → base ≤ low → CodeFrom p (place_code (env scope) place) q → Stands (L low) scope slots s → arg_of item ≡ a
      → Comes (L low) (Done low scope q stack) (assign_tree place c a s) → X slots p (item ∷ stack) s
  place_follows (e.Whole at target) scope fits low slots p q stack s item a above from stands is h =
      one.assigned_follows K ds members parts callees has base below low above scope slots (found_at (env scope) target) item a p q stack s
      (one.slotted K ds members parts callees has base below low above scope slots target) is from stands
      (subst (λ l. Comes (L low) (Done low scope q stack) (assign_location l a s)) (located (L low) callees (env scope) slots s target stands) h)
  place_follows (e.Element at line target index) scope fits low slots p q stack s item a above from stands is h =
      let first = from_parts K.setting.image.code (expression_code (env scope) index) _ (p + 1) q from.1 in
      one.force_item K ds members parts callees has base below low above scope slots (Done low scope q stack) item a
      (λ words. tree_value index c >>= (λ i. at_location c target (λ location. assign_element line location i words))) p stack s is from.0 stands
      (λ v h1. one.evaluates K ds members parts callees has base below low above scope slots index (p + 1) first.0 (OfValue v ∷ stack) s first.1 fits stands
      (goes_on (L low) (Done low scope q stack) (ValueAt (L low) scope slots first.0 (OfValue v ∷ stack)) (tree_value index c s) _ (λ i s1 h2 stands1.
      one.element_follows K ds members parts callees has base below low above scope slots (found_at (env scope) target) line i v first.0 q stack s1
      (one.slotted K ds members parts callees has base below low above scope slots target) first.2 stands1
      (subst (λ l. Comes (L low) (Done low scope q stack) (assign_element line l i v.words s1)) (located (L low) callees (env scope) slots s1 target stands1) h2))
      h1))
      h
  place_follows (e.Number at value) scope fits low slots p q stack s item a above from stands is h = waits_follow scope low slots p q stack s item from stands h
  place_follows (e.Truth at value) scope fits low slots p q stack s item a above from stands is h = waits_follow scope low slots p q stack s item from stands h
  place_follows (e.Own at) scope fits low slots p q stack s item a above from stands is h = waits_follow scope low slots p q stack s item from stands h
  place_follows (e.Input at) scope fits low slots p q stack s item a above from stands is h = waits_follow scope low slots p q stack s item from stands h
  place_follows (e.PlainCall at function arguments) scope fits low slots p q stack s item a above from stands is h = waits_follow scope low slots p q stack s item from stands h
  place_follows (e.Parenthesized at inner) scope fits low slots p q stack s item a above from stands is h = waits_follow scope low slots p q stack s item from stands h
  place_follows (e.Unary at line operator operand) scope fits low slots p q stack s item a above from stands is h = waits_follow scope low slots p q stack s item from stands h
  place_follows (e.Binary at line operator left right) scope fits low slots p q stack s item a above from stands is h = waits_follow scope low slots p q stack s item from stands h
  place_follows (e.CallOnOwn at member arguments) scope fits low slots p q stack s item a above from stands is h = waits_follow scope low slots p q stack s item from stands h
  place_follows (e.CallOnTarget at target member arguments) scope fits low slots p q stack s item a above from stands is h = waits_follow scope low slots p q stack s item from stands h

  mutual
    pub statement_follows : (t : Stmt) → StatementFollows t
    statement_follows t.Nothing scope fits low slots p q stack s above from stands h = moves slots stack s from (h slots stands)
    statement_follows (t.Within stmts) scope fits low slots p q stack s above from stands h =
        one.scoped_follows K ds members parts callees has base below low above scope slots (in_turn (map (λ (does : Does). does c) (trees_do stmts))) (statements_code (env scope) stmts)
        (behind_all stmts (env scope)).scope p q stack s (behind_all_newer stmts (env scope)) from stands
        (λ m from1 h1. statements_follow stmts scope fits low slots p m stack s above from1 stands h1) h
    statement_follows (t.Locals type news) scope fits low slots p q stack s above from stands h = locals_follow type news scope fits low slots p q stack s above from stands h
    statement_follows (t.Assigns at place value) scope fits low slots p q stack s above from stands h =
        let first = from_parts K.setting.image.code (flow_code (env scope) value) _ p q from in
        one.passes_on K ds members parts callees has base below low above scope slots value p first.0 stack s first.1 fits.0 stands
        (goes_on (L low) (Done low scope q stack) (ItemAt (L low) scope slots first.0 stack) (tree_passes value c s) _ (λ a s1 h1 stands1 item is.
        place_follows place scope fits.1 low slots first.0 q stack s1 item a above first.2 stands1 is h1)
        h)
    statement_follows (t.Calls call) scope fits low slots p q stack s above from stands h =
        let first = from_parts K.setting.image.code (flow_code (env scope) call) _ p q from in
        one.passes_on K ds members parts callees has base below low above scope slots call p first.0 stack s first.1 fits stands
        (goes_on (L low) (Done low scope q stack) (ItemAt (L low) scope slots first.0 stack) (tree_passes call c s) (λ _. nothing)
        (λ a s1 h1 stands1 item is. perform slots first.0 (item ∷ stack) s1 instruction.Drop first.2.0 (moves slots stack s1 first.2.1 (h1 slots stands1)))
        h)
    statement_follows (t.Creates at target) scope fits low slots p q stack s above from stands h =
        one.creates_follow K ds members parts callees has base below low above scope slots (found_at (env scope) target) p q stack s
        (one.slotted K ds members parts callees has base below low above scope slots target) from stands
        (subst (λ l. Comes (L low) (Done low scope q stack) (create_at c l s)) (located (L low) callees (env scope) slots s target stands) h)
    statement_follows (t.When test then_part) scope fits low slots p q stack s above from stands h =
        let first = from_parts K.setting.image.code (expression_code (env scope) test) _ p q from in
        one.evaluates K ds members parts callees has base below low above scope slots test p first.0 stack s first.1 fits.0 stands
        (goes_on (L low) (Done low scope q stack) (ValueAt (L low) scope slots first.0 stack) (tree_value test c s) _ (λ v s1 h1 stands1.
        perform slots first.0 (OfValue v ∷ stack) s1 _ first.2.0
        (branch (is_true v) scope slots low first.0 q (scope_code (env scope) (statement_code (env scope) then_part)) stack (OfValue v ∷ stack) s1 (in_scope (tree_does then_part c)) above stands1
        (in_own_scope then_part (statement_follows then_part) scope fits.1) first.2.1 h1))
        h)
    statement_follows (t.Branches test then_part else_part) scope fits low slots p q stack s above from stands h =
        let first = from_parts K.setting.image.code (expression_code (env scope) test) _ p q from in
        one.evaluates K ds members parts callees has base below low above scope slots test p first.0 stack s first.1 fits.0 stands
        (goes_on (L low) (Done low scope q stack) (ValueAt (L low) scope slots first.0 stack) (tree_value test c s) _ (λ v s1 h1 stands1.
        perform slots first.0 (OfValue v ∷ stack) s1 _ first.2.0
        (branches (is_true v) scope slots low first.0 q (scope_code (env scope) (statement_code (env scope) then_part)) (scope_code (env scope) (statement_code (env scope) else_part)) stack (OfValue v ∷ stack) s1
        (in_scope (tree_does then_part c)) (in_scope (tree_does else_part c)) above stands1
        (in_own_scope then_part (statement_follows then_part) scope fits.1) (in_own_scope else_part (statement_follows else_part) scope fits.2) first.2.1 h1))
        h)
    statement_follows (t.Repeats test body) scope fits low slots p q stack s above from stands h =
        loop_follows scope test (scope_code (env scope) (statement_code (env scope) body)) (in_scope (tree_does body c)) fits.0 (in_own_scope body (statement_follows body) scope fits.1) low slots p q stack s above from stands h
    statement_follows (t.Loops first test step body) scope fits low slots p q stack s above from stands h =
        let around = behind first (env scope) in
        one.scoped_follows K ds members parts callees has base below low above scope slots
        (tree_does first c >> tree_loop c test (in_scope (tree_does body c) >> tree_does step c)) _ around.scope p q stack s (behind_newer first (env scope)) from stands
        (λ m from1 h1.
        let start = from_parts K.setting.image.code (statement_code (env scope) first) _ p m from1 in
        statement_follows first scope fits.0 low slots p start.0 stack s above start.1 stands
        (goes_on (L low) (Done low around.scope m stack) (Done low around.scope start.0 stack) (tree_does first c s) (λ _. tree_loop c test (in_scope (tree_does body c) >> tree_does step c))
        (λ u s1 h2 slots1 stands1.
        for_follows test step body (statement_follows step) (statement_follows body) around.scope around (one.behind_env K ds members parts callees has base below first scope)
        fits.1 fits.2 fits.3 fits.4 low slots1 start.0 m stack s1 above start.2 stands1 h2)
        h1))
        h
    statement_follows (t.Prints at arguments) scope fits low slots p q stack s above from stands h =
        let first = from_parts K.setting.image.code (expression_codes (env scope) arguments) _ p q from in
        one.values_follow K ds members parts callees has base below low above scope slots arguments p first.0 stack s first.1 fits stands
        (goes_on (L low) (Done low scope q stack) _ (all_of (map (λ expr. tree_value expr c) arguments) s) (λ values. printed (line_of values))
        (λ values s1 h1 stands1 sized. one.printed_follows K ds members parts callees has base below low above scope slots values (length arguments) first.0 q stack s1 sized first.2 stands1 h1)
        h)
    statement_follows (t.Gives at value) scope fits low slots p q stack s above from stands h =
        let first = from_parts K.setting.image.code (flow_code (env scope) value) _ p q from in
        one.passes_on K ds members parts callees has base below low above scope slots value p first.0 stack s first.1 fits stands
        (goes_on (L low) (Done low scope q stack) (ItemAt (L low) scope slots first.0 stack) (tree_passes value c s) (gives_result at.line)
        (λ a s1 h1 stands1 item is. perform slots first.0 (item ∷ stack) s1 (instruction.Give at.line) first.2.0
        (subst (λ a. Leads K.setting K.yield (gives (running K first.0 (item ∷ stack) slots s1) at.line a s1.result stack)) (sym is)
        (one.gives_follow K ds members parts callees has base below low above scope slots at.line a s1.result first.0 q (item ∷ stack) stack s1 first.2.1 stands1 h1)))
        h)
    statement_follows (t.Returns at value) scope fits low slots p q stack s above from stands h =
        one.returns_follow K ds members parts callees has base below low above scope slots value p q stack s from fits stands h

    pub statements_follow : (ts : Stmts) (scope : List Shape) → StatementsFit (env scope) ts
        → Follows scope (statements_code (env scope) ts) (behind_all ts (env scope)).scope (in_turn (map (λ (does : Does). does c) (trees_do ts)))
    statements_follow t.NoStmt scope fits low slots p q stack s above from stands h = moves slots stack s from (h slots stands)
    statements_follow (t.MoreStmts t ts) scope fits low slots p q stack s above from stands h =
        let around = behind t (env scope) in
        let is = one.behind_env K ds members parts callees has base below t scope in
        let first = from_parts K.setting.image.code (statement_code (env scope) t) _ p q from in
        statement_follows t scope fits.0 low slots p first.0 stack s above first.1 stands
        (goes_on (L low) (Done low (behind_all ts around).scope q stack) (Done low around.scope first.0 stack) (tree_does t c s) (λ _. in_turn (map (λ (does : Does). does c) (trees_do ts)))
        (λ u s1 h1 slots1 stands1.
        statements_follow ts around.scope (subst (λ e. StatementsFit e ts) is fits.1) low slots1 first.0 q stack s1 above (subst (λ e. CodeFrom first.0 (statements_code e ts) q) is first.2) stands1
        (subst (λ e. Comes (L low) (Done low (behind_all ts e).scope q stack) (in_turn (map (λ (does : Does). does c) (trees_do ts)) s1)) is h1))
        h)
