-- The code of a statement does what the statement does.
use Rattle.std.proofs.Common.{◌≡◌, ◌≤◌, ℕ, suc, ◌+◌, ◌-◌, Bool, true, false, List, [], ◌∷◌, ◌++◌, length, map, drop, Option, Some, None, ℤ, pos, refl, ap, sym, subst, append_assoc, ◌∙◌}
use Rattle.std.specs.Prelude.{slice_get}
use Rattle.std.specs.Option.{option_map}
use Rattle.mpl_ast.specs.declared.expression.Target.{Target}
use Rattle.mpl_ast.specs.declared.program.Declaration.{Declaration}
use Rattle.mpl_ast.specs.declared.statement.TypeName.{TypeName}
use Rattle.mpl_value.specs.Results.{result_of}
use Rattle.mpl_value.specs.Words.{index_below, object_word, with_words}
use Rattle.mpl_value.specs.declared.body.Arg.{Arg}
use Rattle.mpl_value.specs.declared.body.Arg.TheVariants as arg
use Rattle.mpl_value.specs.declared.body.BodyResult.{BodyResult}
use Rattle.mpl_value.specs.declared.body.BodyResult.TheVariants as result
use Rattle.mpl_mean.specs.Meaning.Context.{Callees, Context}
use Rattle.mpl_mean.specs.Meaning.Layout.{Class, Member, Part, dimension_of}
use Rattle.mpl_mean.specs.Meaning.PlaceMeaning.{put}
use Rattle.mpl_mean.specs.Meaning.StatementMeaning.{Effect, assign_location, created, create_at, give_result, line_of, new_object}
use Rattle.mpl_mean.specs.Meaning.Store.{Store, Step, ◌>>=◌, ◌>>◌, all_of, force, hold, holding, in_scope, printed, spend}
use Rattle.mpl_mean.specs.Meaning.Values.{Value, int_value, word_of}
use Rattle.mpl_mean.specs.Plain.Expr.{Expr}
use Rattle.mpl_mean.specs.Plain.Stmt.{NewLocal, Stmt, Stmts}
use Rattle.mpl_mean.specs.Plain.Stmt as t
use Rattle.mpl_plain.specs.ExprMeaning.{tree_passes, tree_value}
use Rattle.mpl_plain.specs.StmtMeaning.{assign_element, tree_returns}
use Rattle.mpl_plain.specs.Arity.{AnyFits, EachFits, ExprFits}
use Rattle.mpl_mean.specs.Plain.Scopes.{Env, Found, Shape, Slot, behind, class_found, declares, declares_all, found_at}
use Rattle.mpl_body_code.specs.Codes.{Code, From, create_code, create_in, element_code, expression_code, expression_codes, flow_code, into_code, into_slot, new_code, return_code, scope_code}
use Rattle.mpl_body_code.specs.Images.{HasCode}
use Rattle.mpl_body_code.specs.Machine.{Item, OfValue, OfTrap, NotKnown, arg_of, held, put_held}
use Rattle.mpl_body_code.specs.Scopes.{base_of_slot, spot_of}
use Rattle.mpl_body_code.specs.Steps.{gives, onward, performs, puts, values_of}
use Rattle.mpl_body_code.specs.declared.instruction.Instruction.{Instruction}
use Rattle.mpl_body_code.specs.declared.instruction.Instruction.TheVariants as instruction
use Rattle.mpl_body_code.proofs.Arguments.{below_pushed, known_length, pushed, top_pushed, values_known}
use Rattle.mpl_body_code.proofs.Below.{Below}
use Rattle.mpl_body_code.proofs.Expressions.{ValueAt, base_follows, forced_follows, indexed_follows}
use Rattle.mpl_body_code.proofs.Flows.{ItemAt, spends_follow}
use Rattle.mpl_body_code.proofs.Reaching.{Comes, Leads, Reaches, Run, comes_map, comes_then, from_parts, goes_on, performing, running}
use Rattle.mpl_body_code.proofs.Scoped.{Stands, context_of, location_at, variable_at}
use Rattle.mpl_body_code.proofs.Trees.{tree_follows}
use Rattle.mpl_body_code.proofs.Storing.{IsSlot, held_stands, oldest_comes, scope_left, slot_is}

-- ---- what surrounds later statements

abbrev pub behind_all : Stmts → Env → Env
behind_all t.NoStmt env = env
behind_all (t.MoreStmts stmt stmts) env = behind_all stmts (behind stmt env)

abbrev pub Newer : List Shape → List Shape → Type 0
Newer scope after = (newer : List Shape) × (after ≡ newer ++ scope)

newer_than : {a b d : List Shape} → Newer a b → Newer b d → Newer a d
newer_than {a} h k = (k.0 ++ h.0, k.1 ∙ ap (λ rest. k.0 ++ rest) h.1 ∙ sym (append_assoc k.0 h.0 a))

all_newer : (type : TypeName) (news : List NewLocal) (env : Env) → Newer env.scope (declares_all type news env).scope
all_newer type [] env = ([], refl)
all_newer type (new ∷ news) env =
    newer_than (record { name = new.name.text; type = type; dimension = dimension_of new.dimension } ∷ [], refl) (all_newer type news (declares type new env))

pub behind_newer : (stmt : Stmt) (env : Env) → Newer env.scope (behind stmt env).scope
behind_newer t.Nothing env = ([], refl)
behind_newer (t.Within stmts) env = ([], refl)
behind_newer (t.Locals type news) env = all_newer type news env
behind_newer (t.Assigns at place value) env = ([], refl)
behind_newer (t.Calls call) env = ([], refl)
behind_newer (t.Creates at target) env = ([], refl)
behind_newer (t.When test then_part) env = ([], refl)
behind_newer (t.Branches test then_part else_part) env = ([], refl)
behind_newer (t.Repeats test body) env = ([], refl)
behind_newer (t.Loops first test step body) env = ([], refl)
behind_newer (t.Prints at arguments) env = ([], refl)
behind_newer (t.Gives at value) env = ([], refl)
behind_newer (t.Returns at value) env = ([], refl)

pub behind_all_newer : (stmts : Stmts) (env : Env) → Newer env.scope (behind_all stmts env).scope
behind_all_newer t.NoStmt env = ([], refl)
behind_all_newer (t.MoreStmts stmt stmts) env = newer_than (behind_newer stmt env) (behind_all_newer stmts (behind stmt env))

module _ (K : Run) (ds : List Declaration) (members : List Member) (parts : List Part) (callees : Callees) (has : HasCode K.setting ds)
    (base : ℕ) (below : Below K.setting K.yield ds K.answered callees base) where
  abbrev pub env : List Shape → Env
  env scope = record { declarations = ds; members = members; parts = parts; scope = scope }

  abbrev pub c : Context
  c = context_of K callees (env [])

  -- the run, from so many turns on
  abbrev pub L : ℕ → Run
  L low = record K { low = low }

  abbrev pub X : List Arg → ℕ → List Item → Store → Type 0
  X slots place stack s = Reaches K.setting K.yield (running K place stack slots s)

  abbrev pub CodeFrom : ℕ → Code → ℕ → Type 0
  CodeFrom = From K.setting.image.code

  -- a statement is done, and these are the variables
  abbrev pub Done : ℕ → List Shape → ℕ → List Item → Unit {0} → Store → Type 0
  Done low scope place stack u s = (slots : List Arg) → Stands (L low) scope slots s → X slots place stack s

  pub moves : {p q : ℕ} (slots : List Arg) (stack : List Item) (s : Store) → p ≡ q → X slots q stack s → X slots p stack s
  moves slots stack s e = subst (λ n. X slots n stack s) (sym e)

  pub perform : (slots : List Arg) (p : ℕ) (stack : List Item) (s : Store) (i : Instruction) → slice_get K.setting.image.code p ≡ Some i
      → Leads K.setting K.yield (performs K.setting i (running K p stack slots s)) → X slots p stack s
  perform slots p stack s i = performing K.setting K.yield (running K p stack slots s) i

  -- ---- the environments of later statements are of the same body

  all_env : (type : TypeName) (news : List NewLocal) (scope : List Shape) → declares_all type news (env scope) ≡ env ((declares_all type news (env scope)).scope)
  all_env type [] scope = refl
  all_env type (new ∷ news) scope = all_env type news (record { name = new.name.text; type = type; dimension = dimension_of new.dimension } ∷ scope)

  pub behind_env : (stmt : Stmt) (scope : List Shape) → behind stmt (env scope) ≡ env ((behind stmt (env scope)).scope)
  behind_env t.Nothing scope = refl
  behind_env (t.Within stmts) scope = refl
  behind_env (t.Locals type news) scope = all_env type news scope
  behind_env (t.Assigns at place value) scope = refl
  behind_env (t.Calls call) scope = refl
  behind_env (t.Creates at target) scope = refl
  behind_env (t.When test then_part) scope = refl
  behind_env (t.Branches test then_part else_part) scope = refl
  behind_env (t.Repeats test body) scope = refl
  behind_env (t.Loops first test step body) scope = refl
  behind_env (t.Prints at arguments) scope = refl
  behind_env (t.Gives at value) scope = refl
  behind_env (t.Returns at value) scope = refl

  module _ (low : ℕ) (above : base ≤ low) (scope : List Shape) (slots : List Arg) where
    abbrev pub Ready : Store → Type 0
    Ready = Stands (L low) scope slots

    pub evaluates : (e : Expr) (p q : ℕ) (stack : List Item) (s : Store) → CodeFrom p (expression_code (env scope) e) q → ExprFits (env scope) e → Ready s
        → Comes (L low) (ValueAt (L low) scope slots q stack) (tree_value e c s) → X slots p stack s
    evaluates e p q stack s from fits = (tree_follows (L low) ds members parts callees has base below above scope slots e fits).value p q stack s from

    pub passes_on : (e : Expr) (p q : ℕ) (stack : List Item) (s : Store) → CodeFrom p (flow_code (env scope) e) q → ExprFits (env scope) e → Ready s
        → Comes (L low) (ItemAt (L low) scope slots q stack) (tree_passes e c s) → X slots p stack s
    passes_on e p q stack s from fits = (tree_follows (L low) ds members parts callees has base below above scope slots e fits).passes p q stack s from

    -- ---- storing

    pub force_item : {B : Type 0} (Q : B → Store → Type 0) (item : Item) (a : Arg) (h : List ℤ → Step B) (p : ℕ) (stack : List Item) (s : Store) → arg_of item ≡ a
        → slice_get K.setting.image.code p ≡ Some instruction.Force → Ready s → ((v : Value) → Comes (L low) Q (h v.words s) → X slots (p + 1) (OfValue v ∷ stack) s)
        → Comes (L low) Q ((force a >>= h) s) → X slots p (item ∷ stack) s
    force_item Q (OfValue v) a h p stack s e get stands f d = perform slots p (OfValue v ∷ stack) s instruction.Force get (f v (subst (λ a. Comes (L low) Q ((force a >>= h) s)) (sym e) d))
    force_item Q (OfTrap trap) a h p stack s e get stands f d =
        perform slots p (OfTrap trap ∷ stack) s instruction.Force get (subst (λ a. Comes (L low) Q ((force a >>= h) s)) (sym e) d stands.low (λ _. stands.within))
    force_item Q NotKnown a h p stack s e get stands f d =
        perform slots p (NotKnown ∷ stack) s instruction.Force get (subst (λ a. Comes (L low) Q ((force a >>= h) s)) (sym e) d stands.low (λ _. stands.within))

    abbrev pub Slotted : Option Slot → Type 0
    Slotted slot = (k : Slot) → slot ≡ Some k → IsSlot scope k

    puts_follow : (slot : Option Slot) (offset : ℕ) (words : List ℤ) (p q : ℕ) (under stack : List Item) (s : Store) → Slotted slot → p + 1 ≡ q → Ready s
        → Comes (L low) (Done low scope q stack) (put (option_map (variable_at slots) slot) offset words s)
        → Leads K.setting K.yield (puts (running K p under slots s) (base_of_slot slot) offset words stack)
    puts_follow None offset words p q under stack s is e stands h =
        moves slots stack (record s { state = with_words offset words s.state }) e (h slots (record { agree = stands.agree; sized = stands.sized; low = stands.low; within = stands.within }))
    puts_follow (Some k) offset words p q under stack s is e stands h =
        forced_follows (L low) scope slots (Done low scope q stack) p under s (held k.number slots) (λ old. hold k.shape.name (arg.Know (with_words offset words old))) _ stands
        (λ old d. moves (put_held k.number (arg.Know (with_words offset words old)) slots) stack
        (record s { variables = holding k.shape.name (arg.Know (with_words offset words old)) s.variables }) e
        (d (put_held k.number (arg.Know (with_words offset words old)) slots) (held_stands (L low) scope slots s k (arg.Know (with_words offset words old)) (is k refl) stands)))
        h

    hold_follows : (k : Slot) (item : Item) (a : Arg) (p q : ℕ) (stack : List Item) (s : Store) → IsSlot scope k → arg_of item ≡ a → CodeFrom p (instruction.Hold k.number ∷ []) q → Ready s
        → Comes (L low) (Done low scope q stack) (hold k.shape.name a s) → X slots p (item ∷ stack) s
    hold_follows k item a p q stack s is e from stands h =
        perform slots p (item ∷ stack) s (instruction.Hold k.number) from.0
        (moves (put_held k.number (arg_of item) slots) stack s from.1
        (subst (λ a. Comes (L low) (Done low scope q stack) (hold k.shape.name a s)) (sym e) h (put_held k.number (arg_of item) slots) (held_stands (L low) scope slots s k (arg_of item) is stands)))

    into_follows : (slot : Option Slot) (is_whole : Bool) (offset words : ℕ) (type : TypeName) (item : Item) (a : Arg) (p q : ℕ) (stack : List Item) (s : Store)
        → Slotted slot → arg_of item ≡ a → CodeFrom p (into_slot (record { slot = slot; offset = offset; words = words; type = type; is_whole = is_whole }) slot is_whole) q → Ready s
        → Comes (L low) (Done low scope q stack) (assign_location (Some (location_at slots (record { slot = slot; offset = offset; words = words; type = type; is_whole = is_whole }))) a s)
        → X slots p (item ∷ stack) s
    into_follows None is_whole offset words type item a p q stack s is e from stands h =
        force_item (Done low scope q stack) item a (λ words. put None offset words) p stack s e from.0 stands
        (λ v d. perform slots (p + 1) (OfValue v ∷ stack) s _ from.1.0 (puts_follow None offset v.words (p + 1) q (OfValue v ∷ stack) stack s is from.1.1 stands d)) h
    into_follows (Some k) true offset words type item a p q stack s is e from stands h = hold_follows k item a p q stack s (is k refl) e from stands h
    into_follows (Some k) false offset words type item a p q stack s is e from stands h =
        force_item (Done low scope q stack) item a (λ words. put (Some (variable_at slots k)) offset words) p stack s e from.0 stands
        (λ v d. perform slots (p + 1) (OfValue v ∷ stack) s _ from.1.0 (puts_follow (Some k) offset v.words (p + 1) q (OfValue v ∷ stack) stack s is from.1.1 stands d)) h

    pub assigned_follows : (found : Option Found) (item : Item) (a : Arg) (p q : ℕ) (stack : List Item) (s : Store) → ((o : Found) → found ≡ Some o → Slotted o.slot) → arg_of item ≡ a
        → CodeFrom p (into_code found) q → Ready s → Comes (L low) (Done low scope q stack) (assign_location (option_map (location_at slots) found) a s) → X slots p (item ∷ stack) s
    assigned_follows None item a p q stack s is e from stands h = perform slots p (item ∷ stack) s instruction.Wait from.0 (h stands.low (λ _. stands.within))
    assigned_follows (Some o) item a p q stack s is e from stands h = into_follows o.slot o.is_whole o.offset o.words o.type item a p q stack s (is o refl) e from stands h

    pub element_follows : (found : Option Found) (line : ℕ) (i : Value) (v : Value) (p q : ℕ) (stack : List Item) (s : Store) → ((o : Found) → found ≡ Some o → Slotted o.slot)
        → CodeFrom p (element_code line found) q → Ready s → Comes (L low) (Done low scope q stack) (assign_element line (option_map (location_at slots) found) i v.words s)
        → X slots p (OfValue i ∷ OfValue v ∷ stack) s
    element_follows None line i v p q stack s is from stands h = perform slots p (OfValue i ∷ OfValue v ∷ stack) s instruction.Wait from.0 (h stands.low (λ _. stands.within))
    element_follows (Some o) line i v p q stack s is from stands h =
        perform slots p (OfValue i ∷ OfValue v ∷ stack) s (instruction.PutElement line (spot_of o)) from.0
        (indexed_follows (L low) scope slots (Done low scope q stack) p (OfValue i ∷ OfValue v ∷ stack) s line (index_below o.words (word_of i))
        (λ n. put (option_map (variable_at slots) o.slot) (o.offset + n) v.words) _ stands
        (λ n d. puts_follow o.slot (o.offset + n) v.words p q (OfValue i ∷ OfValue v ∷ stack) stack s (is o refl) from.1 stands d) h)

    pub slotted : (target : Target) (o : Found) → found_at (env scope) target ≡ Some o → Slotted o.slot
    slotted target o e k is = slot_is (env scope) target o k e is

    -- ---- objects

    new_follows : {B : Type 0} (Q : B → Store → Type 0) (class : Option Class) (h : ℤ → Step B) (p m : ℕ) (stack : List Item) (s : Store) → CodeFrom p (new_code class) m → Ready s
        → ((object : ℤ) (s1 : Store) → Ready s1 → Comes (L low) Q (h object s1) → X slots m (OfValue (int_value object) ∷ stack) s1)
        → Comes (L low) Q ((new_object c class >>= h) s) → X slots p stack s
    new_follows Q None h p m stack s from stands f d = perform slots p stack s instruction.Wait from.0 (d stands.low (λ _. stands.within))
    new_follows Q (Some class) h p m stack s from stands f d =
        perform slots p stack s (instruction.New (pos class.number)) from.0
        (spends_follow (L low) scope slots (λ object s1. Comes (L low) Q (h object s1)) p stack s (created c class)
        (λ x. onward (record x { body = record x.body { creations = x.body.creations ++ pos class.number ∷ [] } })
        (OfValue (int_value (object_word x.frame.number (length x.body.creations + 1))) ∷ stack)) stands
        (λ stands1 d1.
        let object = object_word K.around.number (length s.creations + 1) in
        let s2 : Store = record s { turns = s.turns + 1; creations = s.creations ++ pos class.number ∷ [] } in
        moves slots (OfValue (int_value object) ∷ stack) s2 from.1 (f object s2 (record { agree = stands1.agree; sized = stands1.sized; low = stands1.low; within = stands1.within }) d1))
        (comes_then (L low) Q ((spend c.turns >> created c class) s) h d))

    create_follows : (slot : Option Slot) (is_whole : Bool) (offset words : ℕ) (type : TypeName) (class : Option Class) (p q : ℕ) (stack : List Item) (s : Store) → Slotted slot
        → class_found (env scope) (Some (record { slot = slot; offset = offset; words = words; type = type; is_whole = is_whole })) ≡ class
        → CodeFrom p (create_in (record { slot = slot; offset = offset; words = words; type = type; is_whole = is_whole }) slot is_whole
        (new_code (class_found (env scope) (Some (record { slot = slot; offset = offset; words = words; type = type; is_whole = is_whole }))))) q → Ready s
        → Comes (L low) (Done low scope q stack) (create_at c (Some (location_at slots (record { slot = slot; offset = offset; words = words; type = type; is_whole = is_whole }))) s)
        → X slots p stack s
    create_follows None is_whole offset words type class p q stack s is e from stands h =
        let first = from_parts K.setting.image.code (new_code (class_found (env scope) (Some (record { slot = None; offset = offset; words = words; type = type; is_whole = is_whole })))) _ p q from in
        new_follows (Done low scope q stack) _ (λ object. put None offset (object ∷ [])) p first.0 stack s first.1 stands
        (λ object s1 stands1 d. perform slots first.0 (OfValue (int_value object) ∷ stack) s1 _ first.2.0
        (puts_follow None offset (object ∷ []) first.0 q (OfValue (int_value object) ∷ stack) stack s1 is first.2.1 stands1 d)) h
    create_follows (Some k) true offset words type class p q stack s is e from stands h =
        let first = from_parts K.setting.image.code (new_code (class_found (env scope) (Some (record { slot = Some k; offset = offset; words = words; type = type; is_whole = true })))) _ p q from in
        new_follows (Done low scope q stack) _ (λ object. hold k.shape.name (arg.Know (object ∷ []))) p first.0 stack s first.1 stands
        (λ object s1 stands1 d. hold_follows k (OfValue (int_value object)) (arg.Know (object ∷ [])) first.0 q stack s1 (is k refl) refl first.2 stands1 d) h
    create_follows (Some k) false offset words type class p q stack s is e from stands h =
        let first = from_parts K.setting.image.code (new_code (class_found (env scope) (Some (record { slot = Some k; offset = offset; words = words; type = type; is_whole = false })))) _ (p + 1) q from.1 in
        perform slots p stack s _ from.0
        (base_follows (L low) scope slots (Done low scope q stack) p stack s (Some k) _ _ stands
        (λ old d. new_follows (Done low scope q stack) _ (λ object. put (Some (variable_at slots k)) offset (object ∷ [])) (p + 1) first.0 stack s first.1 stands
        (λ object s1 stands1 d. perform slots first.0 (OfValue (int_value object) ∷ stack) s1 _ first.2.0
        (puts_follow (Some k) offset (object ∷ []) first.0 q (OfValue (int_value object) ∷ stack) stack s1 is first.2.1 stands1 d)) d) h)

    pub creates_follow : (found : Option Found) (p q : ℕ) (stack : List Item) (s : Store) → ((o : Found) → found ≡ Some o → Slotted o.slot)
        → CodeFrom p (create_code (env scope) found) q → Ready s → Comes (L low) (Done low scope q stack) (create_at c (option_map (location_at slots) found) s) → X slots p stack s
    creates_follow None p q stack s is from stands h = perform slots p stack s instruction.Wait from.0 (h stands.low (λ _. stands.within))
    creates_follow (Some o) p q stack s is from stands h = create_follows o.slot o.is_whole o.offset o.words o.type _ p q stack s (is o refl) refl from stands h

    -- ---- results and lines

    pub gives_follow : (line : ℕ) (a : Arg) (given : BodyResult) (p q : ℕ) (under stack : List Item) (s : Store) → p + 1 ≡ q → Ready s
        → Comes (L low) (Done low scope q stack) (give_result line a given s) → Leads K.setting K.yield (gives (running K p under slots s) line a given stack)
    gives_follow line a result.Open p q under stack s e stands h =
        moves slots stack (record s { result = result_of a }) e (h slots (record { agree = stands.agree; sized = stands.sized; low = stands.low; within = stands.within }))
    gives_follow line a (result.Known known) p q under stack s e stands h = h stands.low (λ _. stands.within)
    gives_follow line a result.Unknown p q under stack s e stands h = h stands.low (λ _. stands.within)

    pub values_follow : (es : List Expr) (p q : ℕ) (stack : List Item) (s : Store) → CodeFrom p (expression_codes (env scope) es) q → EachFits (env scope) es → Ready s
        → Comes (L low) (λ values s1. Ready s1 → length values ≡ length es → X slots q (pushed (map OfValue values) stack) s1) (all_of (map (λ expr. tree_value expr c) es) s)
        → X slots p stack s
    values_follow [] p q stack s from fits stands h = moves slots stack s from (h stands refl)
    values_follow (e ∷ es) p q stack s from fits stands h =
        let first = from_parts K.setting.image.code (expression_code (env scope) e) _ p q from in
        evaluates e p first.0 stack s first.1 fits.0 stands
        (goes_on (L low) _ (ValueAt (L low) scope slots first.0 stack) (tree_value e c s) _ (λ v s1 h1 stands1.
        values_follow es first.0 q (OfValue v ∷ stack) s1 first.2 fits.1 stands1
        (goes_on (L low) _ _ (all_of (map (λ expr. tree_value expr c) es) s1) _ (λ values s2 h2 stands2 sized. h2 stands2 (ap suc sized)) h1))
        h)

    pub printed_follows : (values : List Value) (count p q : ℕ) (stack : List Item) (s : Store) → length values ≡ count → CodeFrom p (instruction.Print count ∷ []) q → Ready s
        → Comes (L low) (Done low scope q stack) (printed (line_of values) s) → X slots p (pushed (map OfValue values) stack) s
    printed_follows values count p q stack s sized from stands h =
        let items = map OfValue values in
        let all = pushed items stack in
        let long : length items ≡ count = known_length values ∙ sized in
        let x = running K p all slots s in
        perform slots p all s (instruction.Print count) from.0
        (subst (λ (top : List Item). Leads K.setting K.yield (onward (record x { body = record x.body { lines = x.body.lines ++ line_of (values_of top) } }) (drop count all))) (sym (top_pushed items stack count long))
        (subst (λ (under : List Item). Leads K.setting K.yield (onward (record x { body = record x.body { lines = x.body.lines ++ line_of (values_of items) } }) under)) (sym (below_pushed items stack count long))
        (subst (λ (vs : List Value). Leads K.setting K.yield (onward (record x { body = record x.body { lines = x.body.lines ++ line_of vs } }) stack)) (sym (values_known values))
        (moves slots stack (record s { lines = s.lines ++ line_of values }) from.1 (h slots (record { agree = stands.agree; sized = stands.sized; low = stands.low; within = stands.within }))))))

    pub returns_follow : (value : Option Expr) (p q : ℕ) (stack : List Item) (s : Store) → CodeFrom p (return_code (env scope) value) q → AnyFits (env scope) value → Ready s
        → Comes (L low) (Done low scope q stack) (tree_returns value c s) → X slots p stack s
    returns_follow None p q stack s from fits stands h = perform slots p stack s instruction.ReturnNothing from.0 (h stands.low stands.within)
    returns_follow (Some e) p q stack s from fits stands h =
        let first = from_parts K.setting.image.code (expression_code (env scope) e) _ p q from in
        evaluates e p first.0 stack s first.1 fits stands
        (goes_on (L low) (Done low scope q stack) (ValueAt (L low) scope slots first.0 stack) (tree_value e c s) _ (λ v s1 h1 stands1.
        perform slots first.0 (OfValue v ∷ stack) s1 instruction.Return first.2.0 (h1 stands1.low stands1.within))
        h)

    -- ---- scopes

    pub scoped_follows : (step : Effect) (code : Code) (after : List Shape) (p q : ℕ) (stack : List Item) (s : Store) → Newer scope after → CodeFrom p (scope_code (env scope) code) q → Ready s
        → ((m : ℕ) → CodeFrom p code m → Comes (L low) (Done low after m stack) (step s) → X slots p stack s)
        → Comes (L low) (Done low scope q stack) (in_scope step s) → X slots p stack s
    scoped_follows step code after p q stack s newer from stands f h =
        let first = from_parts K.setting.image.code code _ p q from in
        f first.0 first.1
        (comes_map (L low) (step s)
        (λ u t d later stands1. perform later first.0 stack t (instruction.Leave (length scope)) first.2.0
        (moves (drop (length later - length scope) later) stack t first.2.1
        (d (drop (length later - length scope) later)
        (scope_left (L low) newer.0 scope slots later s t stands (subst (λ all. Stands (L low) all later t) newer.1 stands1)))))
        (oldest_comes (L low) (Done low scope q stack) (length s.variables) (step s) h))
