-- The code of what is passed on does what that means, where the code of its parts does.
use Rattle.std.proofs.Common.{◌≡◌, ◌≤◌, ◌<◌, ℕ, suc, ◌+◌, Bool, true, false, List, [], ◌∷◌, ◌++◌, length, map, drop, Option, Some, None, if◌then◌else◌, ℤ, pos, refl, ap, ap₂, sym, subst, arith, ◌∙◌}
use Rattle.std.proofs.lemmas.Bool.{ltb-true}
use Rattle.std.proofs.lemmas.List.{length-map}
use Rattle.std.specs.FinMap.{FinMap, empty, get, get-empty}
use Rattle.std.specs.Ordering.{int_eq, nat_cmp}
use Rattle.std.specs.Prelude.{nat_lt, slice_get}
use Rattle.std.specs.Option.{option_map}
use Rattle.mpl_ast.specs.declared.expression.Target.{Target}
use Rattle.mpl_ast.specs.declared.place.Name.{Name}
use Rattle.mpl_ast.specs.declared.program.Declaration.{Declaration}
use Rattle.mpl_ast.specs.declared.statement.TypeName.{TypeName}
use Rattle.mpl_ast.specs.declared.statement.TypeName.TheVariants as type
use Rattle.mpl_value.specs.CallAnswers.{any_unknown, arg_of_reply, known_words, leftmost_trap}
use Rattle.mpl_value.specs.declared.body.Arg.{Arg}
use Rattle.mpl_value.specs.declared.body.Arg.TheVariants as arg
use Rattle.mpl_value.specs.declared.body.BodyEnd.TheVariants as end
use Rattle.mpl_value.specs.declared.known.Known.{Known}
use Rattle.mpl_value.specs.declared.known.Trap.{Trap}
use Rattle.mpl_value.specs.declared.known.TrapKind.TheVariants.{Unbound}
use Rattle.mpl_mean.specs.Meaning.CallMeaning.{MayName, Passes, answer, at_context, bound, call_of_member, call_on, class_of_location, held_or, made, persistent_call, regular_call, unless_trapped, whole_variable}
use Rattle.mpl_mean.specs.Meaning.Context.{Callees, Context}
use Rattle.mpl_mean.specs.Meaning.ExpressionMeaning.{Evaluates}
use Rattle.mpl_mean.specs.Meaning.Layout.{Class, Member, Part, class_named, class_of_type, classes_of, member_named}
use Rattle.mpl_mean.specs.Meaning.PlaceMeaning.{words_of_location}
use Rattle.mpl_mean.specs.Meaning.Store.{Store, Goes, Ends, Step, ◌>>=◌, ◌>>◌, all_of, and_then, force, pure, spend, trap, variable_named}
use Rattle.mpl_mean.specs.Meaning.Values.{first_word, int_value, word_of}
use Rattle.mpl_plain.specs.ExprMeaning.{call_on_own, call_on_place, means_result, passed}
use Rattle.mpl_plain.specs.Arity.{ClassTakes, MemberTakes}
use Rattle.mpl_body_code.specs.Codes.{Code, From, object_code, own_code, passed_code, read_code, regular_code, target_code, slot_of_name}
use Rattle.mpl_body_code.specs.Images.{HasCode, MemberAt}
use Rattle.mpl_body_code.specs.Machine.{Item, Machine, Next, OfValue, OfTrap, NotKnown, arg_of, held, item_of}
use Rattle.mpl_mean.specs.Plain.Scopes.{Env, Found, Shape, Slot, class_found, found_at, regular_env}
use Rattle.mpl_body_code.specs.Steps.{answers, begins_regular, calls_object, calls_regular, onward, performs, replies, spends, stops, top_of, with_call}
use Rattle.mpl_body_code.specs.Steps as steps
use Rattle.mpl_body_code.specs.declared.instruction.Instruction.{Instruction}
use Rattle.mpl_body_code.specs.declared.instruction.Instruction.TheVariants as instruction
use Rattle.mpl_body_code.proofs.Arguments.{below_pushed, pushed, top_pushed}
use Rattle.mpl_body_code.proofs.Below.{Below}
use Rattle.mpl_body_code.proofs.Expressions.{At, To, ValueAt, moved, read_follows}
use Rattle.mpl_body_code.proofs.Expressions as exprs
use Rattle.mpl_body_code.proofs.Reaching.{Comes, comes_map, Run, from_parts, goes_on, performing, running}
use Rattle.mpl_body_code.proofs.Scoped.{Stands, context_of, located, location_at, named, variable_at}

pub arg_item : (a : Arg) → arg_of (item_of a) ≡ a
arg_item (arg.Know words) = refl
arg_item (arg.Trapped trap) = refl
arg_item arg.Unknown = refl

known_few : (args : List Arg) → any_unknown args ≡ false → leftmost_trap args ≡ None → length (known_words args) ≡ length args
known_few [] u t = refl
known_few (arg.Know words ∷ args) u t = ap suc (known_few args u t)
known_few (arg.Trapped trap ∷ args) u t = absurd cc
known_few (arg.Unknown ∷ args) u t = absurd cc

known_same : (args : List Arg) → any_unknown args ≡ false → leftmost_trap args ≡ None → map arg.Know (known_words args) ≡ args
known_same [] u t = refl
known_same (arg.Know words ∷ args) u t = ap (λ (all : List Arg). arg.Know words ∷ all) (known_same args u t)
known_same (arg.Trapped trap ∷ args) u t = absurd cc
known_same (arg.Unknown ∷ args) u t = absurd cc

replied_same : (b : Bool) (replies : FinMap nat_cmp Known) (k : ℕ) → get (if b then replies else empty) k ≡ (if b then get replies k else None)
replied_same true table k = refl
replied_same false table k = get-empty nat_cmp k

class_is_named : (ds : List Declaration) (type : TypeName) (class : Class) → class_of_type ds type ≡ Some class → (name : List ℕ) × (class_named name (classes_of ds) ≡ Some class)
class_is_named ds (type.Int at) class e = absurd cc
class_is_named ds (type.Bool at) class e = absurd cc
class_is_named ds (type.Named at name) class e = (name.text, e)

found_is_named : (env : Env) (found : Option Found) (class : Class) → class_found env found ≡ Some class → (name : List ℕ) × (class_named name (classes_of env.declarations) ≡ Some class)
found_is_named env None class e = absurd cc
found_is_named env (Some found) class e = class_is_named env.declarations found.type class e

module _ (K : Run) (scope : List Shape) (slots : List Arg) where
  -- what is passed on is on top at a place
  abbrev pub ItemAt : ℕ → List Item → Arg → Store → Type 0
  ItemAt place stack a s = Stands K scope slots s → (item : Item) → arg_of item ≡ a → At K scope slots place (item ∷ stack) s

  -- the result of a call is on top at a place, as a reply or a body in place left it
  abbrev pub ResultAt : ℕ → List Item → Arg → Store → Type 0
  ResultAt place stack a s = Stands K scope slots s → At K scope slots place (item_of a ∷ stack) s

  abbrev pub turned : Store → Store
  turned s = record s { turns = s.turns + 1 }

  pub spends_follow : {B : Type 0} (Q : B → Store → Type 0) (p : ℕ) (stack : List Item) (s : Store) (rest : Step B) (next : Machine → Next) → Stands K scope slots s
      → (Stands K scope slots (turned s) → Comes K Q (rest (turned s)) → To K scope slots (next (running K p stack slots (turned s))))
      → Comes K Q ((spend K.setting.turns >> rest) s) → To K scope slots (spends K.setting (running K p stack slots s) next)
  spends_follow {B} Q p stack s rest next stands f h = by_turns (nat_lt s.turns K.setting.turns) refl h where
    by_turns : (b : Bool) → nat_lt s.turns K.setting.turns ≡ b
        → Comes K Q (and_then {A = Unit {0}} {B = B} (if b then Goes tt (turned s) else Ends end.Spent (turned s)) (λ _. rest))
        → To K scope slots (if b then next (running K p stack slots (turned s)) else stops end.Spent (running K p stack slots (turned s)))
    by_turns true is h =
        let below : s.turns < K.setting.turns = ltb-true s.turns K.setting.turns is in
        let low : K.low ≤ s.turns = stands.low in
        f (record { agree = stands.agree; sized = stands.sized; low = omega arith; within = omega arith }) h
    by_turns false is h = let low : K.low ≤ s.turns = stands.low in h (omega arith) (λ other. absurd (other refl))

  answers_follow : (p q : ℕ) (stack below : List Item) (s : Store) (args : List Arg) (known : Step Arg) (next : Next) → p + 1 ≡ q → Stands K scope slots s
      → (any_unknown args ≡ false → leftmost_trap args ≡ None → Comes K (ResultAt q below) (known s) → To K scope slots next)
      → Comes K (ResultAt q below) (answer args known s) → To K scope slots (answers (running K p stack slots s) args next below)
  answers_follow p q stack below s args known next e stands f h = by_unknown (any_unknown args) refl h where
    by_trap : (trap : Option Trap) → leftmost_trap args ≡ trap → any_unknown args ≡ false → Comes K (ResultAt q below) (unless_trapped trap known s)
        → To K scope slots (steps.unless_trapped (running K p stack slots s) trap next below)
    by_trap None is u h = f u is h
    by_trap (Some trap) is u h = moved K scope slots (OfTrap trap ∷ below) s e (h stands)

    by_unknown : (b : Bool) → any_unknown args ≡ b → Comes K (ResultAt q below) ((if b then pure arg.Unknown else unless_trapped (leftmost_trap args) known) s)
        → To K scope slots (if b then onward (running K p stack slots s) (NotKnown ∷ below) else steps.unless_trapped (running K p stack slots s) (leftmost_trap args) next below)
    by_unknown true is h = moved K scope slots (NotKnown ∷ below) s e (h stands)
    by_unknown false is h = by_trap (leftmost_trap args) refl is h

module _ (K : Run) (ds : List Declaration) (members : List Member) (parts : List Part) (callees : Callees) (has : HasCode K.setting ds)
    (base : ℕ) (below : Below K.setting K.yield ds K.answered callees base) (above : base ≤ K.low) (scope : List Shape) (slots : List Arg) where
  abbrev env : Env
  env = record { declarations = ds; members = members; parts = parts; scope = scope }

  abbrev c : Context
  c = context_of K callees env

  abbrev I : ℕ → List Item → Arg → Store → Type 0
  I = ItemAt K scope slots

  abbrev R : ℕ → List Item → Arg → Store → Type 0
  R = ResultAt K scope slots

  abbrev X : ℕ → List Item → Store → Type 0
  X = At K scope slots

  abbrev CodeFrom : ℕ → Code → ℕ → Type 0
  CodeFrom = From K.setting.image.code

  perform : (p : ℕ) (stack : List Item) (s : Store) (i : Instruction) → slice_get K.setting.image.code p ≡ Some i → To K scope slots (performs K.setting i (running K p stack slots s)) → X p stack s
  perform p stack s i = performing K.setting K.yield (running K p stack slots s) i

  -- ---- what is passed as it stands

  whole_same : (s : Store) (name : MayName) → Stands K scope slots s → whole_variable name s.variables ≡ option_map (variable_at slots) (slot_of_name env name)
  whole_same s None stands = refl
  whole_same s (Some name) stands = ap (λ vs. variable_named name vs) stands.agree ∙ named name scope slots stands.sized

  -- the code of a value, and its meaning
  abbrev ValueFollows : Code → Evaluates → Type 0
  ValueFollows = exprs.ValueFollows K ds members parts callees has base below above scope slots

  -- the code leaves what is passed on, wherever it stands
  abbrev pub FlowFollows : Code → Passes → Type 0
  FlowFollows code f = (p q : ℕ) (stack : List Item) (s : Store) → CodeFrom p code q → Stands K scope slots s → Comes K (I q stack) (f c s) → X p stack s

  -- the code leaves the result of a call
  abbrev pub ResultFollows : Code → Passes → Type 0
  ResultFollows code f = (p q : ℕ) (stack : List Item) (s : Store) → CodeFrom p code q → Stands K scope slots s → Comes K (R q stack) (f c s) → X p stack s

  by_slot : (slot : Option Slot) (code : Code) (v : Evaluates) → ValueFollows code v → (p q : ℕ) (stack : List Item) (s : Store) → CodeFrom p (passed_code slot code) q → Stands K scope slots s
      → Comes K (I q stack) (held_or (option_map (variable_at slots) slot) (v c) s) → X p stack s
  by_slot None code v follows p q stack s from stands h =
      follows p q stack s from stands (goes_on K (I q stack) (ValueAt K scope slots q stack) (v c s) _ (λ v s1 h1 stands1. h1 stands1 (OfValue v) refl) h)
  by_slot (Some slot) code v follows p q stack s from stands h =
      perform p stack s (instruction.Pass slot.number) from.0 (moved K scope slots (item_of (held slot.number slots) ∷ stack) s from.1 (h stands (item_of (held slot.number slots)) (arg_item (held slot.number slots))))

  pub passed_follows : (name : MayName) (code : Code) (v : Evaluates) → ValueFollows code v → FlowFollows (passed_code (slot_of_name env name) code) (passed name v)
  passed_follows name code v follows p q stack s from stands h =
      by_slot (slot_of_name env name) code v follows p q stack s from stands (subst (λ o. Comes K (I q stack) (held_or o (v c) s)) (whole_same s name stands) h)

  pub result_follows : (code : Code) (f : Passes) → ResultFollows code f → FlowFollows code f
  result_follows code f follows p q stack s from stands h = follows p q stack s from stands (comes_map K (f c s) (λ a s1 h1 stands1. h1 stands1 (item_of a) (arg_item a)) h)

  -- a result that is forced is a value
  forced_result : (a : Arg) (p q : ℕ) (stack : List Item) (s : Store) → p + 1 ≡ q → Stands K scope slots s
      → Comes K (ValueAt K scope slots q stack) ((force a >>= (λ words. pure (record { words = words; is_bool = false }))) s)
      → To K scope slots (performs K.setting instruction.Force (running K p (item_of a ∷ stack) slots s))
  forced_result (arg.Know words) p q stack s e stands h = moved K scope slots (item_of (arg.Know words) ∷ stack) s e (h stands)
  forced_result (arg.Trapped trap) p q stack s e stands h = h stands.low (λ _. stands.within)
  forced_result arg.Unknown p q stack s e stands h = h stands.low (λ _. stands.within)

  pub forced_follows : (code : Code) (f : Passes) → ResultFollows code f → ValueFollows (code ++ instruction.Force ∷ []) (means_result f).value
  forced_follows code f follows p q stack s from stands h =
      let first = from_parts K.setting.image.code code _ p q from in
      follows p first.0 stack s first.1 stands
      (goes_on K (ValueAt K scope slots q stack) (R first.0 stack) (f c s) _ (λ a s1 h1 stands1.
      perform first.0 (item_of a ∷ stack) s1 instruction.Force first.2.0 (forced_result a first.0 q stack s1 first.2.1 stands1 h1))
      h)

  -- ---- calls, behind their arguments

  -- the arguments were pushed
  abbrev Pushed : ℕ → List Item → ℕ → List Arg → Store → Type 0
  Pushed place stack count args s = Stands K scope slots s → (items : List Item) → map arg_of items ≡ args → length items ≡ count → X place (pushed items stack) s

  object_called : (m : Member) (object : ℤ) (p q count : ℕ) (stack : List Item) (s : Store) (items : List Item) (args : List Arg)
      → CodeFrom p (instruction.CallObject m.id count ∷ []) q → Stands K scope slots s → map arg_of items ≡ args → length items ≡ count
      → Comes K (R q stack) ((spend c.turns >> (made object m.id args >>= (λ k. answer args (pure (arg_of_reply (get c.replies k)))))) s)
      → X p (pushed items (OfValue (int_value object) ∷ stack)) s
  object_called m object p q count stack s items args from stands is sized h =
      let lower : List Item = OfValue (int_value object) ∷ stack in
      let all = pushed items lower in
      let x = running K p all slots s in
      let rest : Step Arg = made object m.id args >>= (λ k. answer args (pure (arg_of_reply (get c.replies k)))) in
      perform p all s (instruction.CallObject m.id count) from.0
      (subst (λ (rest : List Item). To K scope slots (steps.on_value x rest (λ value under. calls_object K.setting x m.id (map arg_of (top_of count all)) (word_of value) under))) (sym (below_pushed items lower count sized))
      (subst (λ (top : List Item). To K scope slots (calls_object K.setting x m.id (map arg_of top) object stack)) (sym (top_pushed items lower count sized))
      (subst (λ (passed : List Arg). To K scope slots (calls_object K.setting x m.id passed object stack)) (sym is)
      (spends_follow K scope slots (R q stack) p all s rest (λ x. replies K.setting (with_call x object m.id args) (length x.body.calls + 1) args stack) stands (λ stands1 h1.
      let s2 : Store = record (turned K scope slots s) { calls = s.calls ++ record { call = length s.calls + 1; object = object; member = record { 0 = m.id }; args = args } ∷ [] } in
      let stands2 : Stands K scope slots s2 = record { agree = stands.agree; sized = stands.sized; low = stands1.low; within = stands1.within } in
      answers_follow K scope slots p q all stack s2 args (pure (arg_of_reply (get c.replies (length s.calls + 1)))) _ from.1 stands2
      (λ u t h2. moved K scope slots _ s2 from.1
      (subst (λ r. X q (item_of (arg_of_reply r) ∷ stack) s2) (replied_same K.answered K.setting.replies (length s.calls + 1)) (h2 stands2)))
      h1)
      h))))

  regular_called : (m : Member) (found : MemberAt K.setting (regular_env ds m) m) (p q count : ℕ) (stack : List Item) (s : Store) (items : List Item) (args : List Arg)
      → length m.formals ≡ count → CodeFrom p (instruction.CallRegular m.id count ∷ []) q → Stands K scope slots s → map arg_of items ≡ args → length items ≡ count
      → Comes K (R q stack) ((spend c.turns >> answer args (callees.regular m (known_words args))) s)
      → X p (pushed items stack) s
  regular_called m found p q count stack s items args takes from stands is sized h =
      let all = pushed items stack in
      let x = running K p all slots s in
      perform p all s (instruction.CallRegular m.id count) from.0
      (subst (λ o. To K scope slots (calls_regular K.setting x o (map arg_of (top_of count all)) (drop count all))) (sym found.stands)
      (subst (λ (top : List Item). To K scope slots (calls_regular K.setting x (Some found.code) (map arg_of top) (drop count all))) (sym (top_pushed items stack count sized))
      (subst (λ (under : List Item). To K scope slots (calls_regular K.setting x (Some found.code) (map arg_of items) under)) (sym (below_pushed items stack count sized))
      (subst (λ (passed : List Arg). To K scope slots (calls_regular K.setting x (Some found.code) passed stack)) (sym is)
      (spends_follow K scope slots (R q stack) p all s (answer args (callees.regular m (known_words args))) (λ x. answers x args (begins_regular K.setting x found.code args stack) stack) stands (λ stands1 h1.
      answers_follow K scope slots p q all stack (turned K scope slots s) args (callees.regular m (known_words args)) _ from.1 stands1
      (λ u t h2.
      subst (λ (passed : List Arg). To K scope slots (begins_regular K.setting (running K p all slots (turned K scope slots s)) found.code passed stack)) (known_same args u t)
      (below.regular K.low above K.around m found.code found.is (known_words args)
      (takes ∙ sym sized ∙ sym (length-map items arg_of) ∙ ap length is ∙ sym (known_few args u t)) p all stack slots (turned K scope slots s) stands1.low stands1.within
      (comes_map K (callees.regular m (known_words args) (turned K scope slots s))
      (λ a s2 h3 same low within. moved K scope slots _ s2 from.1 (h3 (record { agree = same ∙ stands.agree; sized = stands.sized; low = low; within = within })))
      h2)))
      h1)
      h)))))

  -- ---- arguments before calls

  -- the code pushes so many arguments, wherever it stands
  abbrev pub ArgumentsFollow : Code → List Passes → ℕ → Type 0
  ArgumentsFollow code fs count = (p q : ℕ) (stack : List Item) (s : Store) → CodeFrom p code q → Stands K scope slots s
      → Comes K (Pushed q stack count) (all_of (at_context c fs) s) → X p stack s

  pub no_argument : ArgumentsFollow [] [] 0
  no_argument p q stack s from stands h = moved K scope slots stack s from (h stands [] refl refl)

  pub more_arguments : (code others : Code) (f : Passes) (fs : List Passes) (count : ℕ) → FlowFollows code f → ArgumentsFollow others fs count → ArgumentsFollow (code ++ others) (f ∷ fs) (suc count)
  more_arguments code others f fs count first rest p q stack s from stands h =
      let one = from_parts K.setting.image.code code others p q from in
      first p one.0 stack s one.1 stands
      (goes_on K (Pushed q stack (suc count)) (I one.0 stack) (f c s) _ (λ a s1 h1 stands1 item is.
      rest one.0 q (item ∷ stack) s1 one.2 stands1
      (goes_on K (Pushed q stack (suc count)) (Pushed q (item ∷ stack) count) (all_of (at_context c fs) s1) _
      (λ args s2 h2 stands2 items each sized. h2 stands2 (item ∷ items) (ap₂ (λ (a : Arg) (rest : List Arg). a ∷ rest) is each) (ap suc sized))
      h1))
      h)

  module _ (code : Code) (fs : List Passes) (count : ℕ) (arguments : ArgumentsFollow code fs count) where
    object_follows : (found : Option Member) (object : ℤ) (p q : ℕ) (stack : List Item) (s : Store)
        → CodeFrom p (object_code found count code) q → Stands K scope slots s
        → Comes K (R q stack) (call_of_member found (λ m. persistent_call c object m (at_context c fs)) s) → X p (OfValue (int_value object) ∷ stack) s
    object_follows None object p q stack s from stands h = perform p _ s instruction.Wait from.0 (h stands.low (λ _. stands.within))
    object_follows (Some m) object p q stack s from stands h =
        let first = from_parts K.setting.image.code code _ p q from in
        arguments p first.0 (OfValue (int_value object) ∷ stack) s first.1 stands
        (goes_on K (R q stack) _ (all_of (at_context c fs) s) _ (λ args s1 h1 stands1 items is sized.
        object_called m object first.0 q count stack s1 items args first.2 stands1 is sized h1)
        h)

    own_follows : (found : Option Member) (p q : ℕ) (stack : List Item) (s : Store)
        → CodeFrom p (own_code found count code) q → Stands K scope slots s
        → Comes K (R q stack) (call_of_member found (λ m. persistent_call c c.object m (at_context c fs)) s) → X p stack s
    own_follows None p q stack s from stands h = perform p stack s instruction.Wait from.0 (h stands.low (λ _. stands.within))
    own_follows (Some m) p q stack s from stands h =
        perform p stack s instruction.Own from.0 (object_follows (Some m) c.object (p + 1) q stack s from.1 stands h)

    regular_follows : (found : Option Member) → ((m : Member) → found ≡ Some m → MemberAt K.setting (regular_env ds m) m) → MemberTakes found count
        → (p q : ℕ) (stack : List Item) (s : Store) → CodeFrom p (regular_code found count code) q → Stands K scope slots s
        → Comes K (R q stack) (call_of_member found (λ m. regular_call c m (at_context c fs)) s) → X p stack s
    regular_follows None at takes p q stack s from stands h = perform p stack s instruction.Wait from.0 (h stands.low (λ _. stands.within))
    regular_follows (Some m) at takes p q stack s from stands h =
        let first = from_parts K.setting.image.code code _ p q from in
        arguments p first.0 stack s first.1 stands
        (goes_on K (R q stack) _ (all_of (at_context c fs) s) _ (λ args s1 h1 stands1 items is sized.
        regular_called m (at m refl) first.0 q count stack s1 items args takes first.2 stands1 is sized h1)
        h)

    -- the word of the receiver, which has to be an object's
    bound_follows : (b : Bool) (found : Option Member) (line : ℕ) (object : ℤ) (p q : ℕ) (stack under : List Item) (s : Store)
        → CodeFrom (p + 1) (object_code found count code) q → Stands K scope slots s
        → Comes K (R q stack) (((if b then trap Unbound line else pure object) >>= (λ object. call_of_member found (λ m. persistent_call c object m (at_context c fs)))) s)
        → To K scope slots (if b then steps.traps Unbound line (running K p under slots s) else onward (running K p under slots s) (OfValue (int_value object) ∷ stack))
    bound_follows true found line object p q stack under s from stands h = h stands.low (λ _. stands.within)
    bound_follows false found line object p q stack under s from stands h = object_follows found object (p + 1) q stack s from stands h

    class_same : (found : Option Found) → class_of_location c (option_map (location_at slots) found) ≡ class_found env found
    class_same None = refl
    class_same (Some found) = refl

    on_class : (b : Bool) (found : Option Found) (class : Class) (line : ℕ) (member : List ℕ) → class.is_regular ≡ b → class_found env found ≡ Some class
        → (class.is_regular ≡ true → MemberTakes (member_named member class.members) count) → (p q : ℕ) (stack : List Item) (s : Store)
        → CodeFrom p (if b then regular_code (member_named member class.members) count code
        else (read_code found ++ instruction.Receiver line ∷ object_code (member_named member class.members) count code)) q
        → Stands K scope slots s
        → Comes K (R q stack) ((if b then call_of_member (member_named member class.members) (λ m. regular_call c m (at_context c fs))
        else (words_of_location (option_map (location_at slots) found) >>= (λ value. bound line (first_word value.words) >>= (λ object.
        call_of_member (member_named member class.members) (λ m. persistent_call c object m (at_context c fs)))))) s)
        → X p stack s
    on_class true found class line member regular is takes p q stack s from stands h =
        let name = found_is_named env found class is in
        regular_follows (member_named member class.members) (λ m e. has.regular name.0 member class m name.1 regular e) (takes regular) p q stack s from stands h
    on_class false found class line member regular is takes p q stack s from stands h =
        let first = from_parts K.setting.image.code (read_code found) _ p q from in
        read_follows K scope slots p first.0 stack s found first.1 stands
        (goes_on K (R q stack) (ValueAt K scope slots first.0 stack) (words_of_location (option_map (location_at slots) found) s) _ (λ value s1 h1 stands1.
        perform first.0 (OfValue value ∷ stack) s1 (instruction.Receiver line) first.2.0
        (bound_follows (int_eq (first_word value.words) (pos 0)) (member_named member class.members) line (first_word value.words) first.0 q stack (OfValue value ∷ stack) s1 first.2.1 stands1 h1))
        h)

    on_target : (found : Option Found) (class : Option Class) (line : ℕ) (member : List ℕ) → class_found env found ≡ class
        → ClassTakes class member count → (p q : ℕ) (stack : List Item) (s : Store)
        → CodeFrom p (target_code line found class member count code) q → Stands K scope slots s
        → Comes K (R q stack) (call_on c line (option_map (location_at slots) found) class member (at_context c fs) s) → X p stack s
    on_target found None line member is takes p q stack s from stands h = perform p stack s instruction.Wait from.0 (h stands.low (λ _. stands.within))
    on_target found (Some class) line member is takes p q stack s from stands h =
        on_class class.is_regular found class line member refl is takes p q stack s from stands h

    -- ---- whole calls

    pub own_call_follows : (member : Name) → ResultFollows (own_code (member_named member.text members) count code) (call_on_own member fs)
    own_call_follows member p q stack s from stands h = own_follows (member_named member.text members) p q stack s from stands h

    pub target_call_follows : (line : ℕ) (t : Target) (member : Name) → ClassTakes (class_found env (found_at env t)) member.text count
        → ResultFollows (target_code line (found_at env t) (class_found env (found_at env t)) member.text count code) (call_on_place line t member fs)
    target_call_follows line t member takes p q stack s from stands h =
        on_target (found_at env t) (class_found env (found_at env t)) line member.text refl takes p q stack s from stands
        (subst (λ class. Comes K (R q stack) (call_on c line (option_map (location_at slots) (found_at env t)) class member.text (at_context c fs) s)) (class_same (found_at env t))
        (subst (λ l. Comes K (R q stack) (call_on c line l (class_of_location c l) member.text (at_context c fs) s)) (located K callees env slots s t stands) h))
