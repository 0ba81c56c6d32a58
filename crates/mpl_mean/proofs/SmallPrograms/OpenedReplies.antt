-- What a body does with replies, in a form that computes. What a finite map has at a key doesn't compute, so the replies
-- are looked up by a function beside it.
use Rattle.std.proofs.Common.{◌≡◌, ℕ, zero, suc, List, [], ◌∷◌, map, Option, Some, None, if◌then◌else◌, ℤ, refl, ap, ◌∙◌}
use Rattle.std.proofs.Math.Path.{fun_ext}
use Rattle.std.specs.Fmt.{digits}
use Rattle.std.specs.FinMap.{FinMap, empty, get, get-empty}
use Rattle.std.specs.Ordering.{nat_cmp}
use Rattle.mpl_ast.specs.declared.expression.Expression.{Expression}
use Rattle.mpl_ast.specs.declared.expression.Target.{Target}
use Rattle.mpl_ast.specs.declared.flow.Call.{Call, map-Call, out-Call}
use Rattle.mpl_ast.specs.declared.flow.Flow.{Flow, map-Flow, out-Flow}
use Rattle.mpl_ast.specs.declared.flow.Call.TheOpen.{Call-F, Flow-F}
use Rattle.mpl_ast.specs.declared.program.Declaration.{Declaration}
use Rattle.mpl_ast.specs.declared.program.Program.{Program}
use Rattle.mpl_ast.specs.declared.statement.Block.{Block, map-Block, out-Block}
use Rattle.mpl_ast.specs.declared.statement.Block.{Block-F}
use Rattle.mpl_ast.specs.declared.statement.Statement.{Statement, map-Statement, out-Statement}
use Rattle.mpl_ast.specs.declared.statement.Statement.TheOpen.{Statement-F}
use Rattle.mpl_value.specs.declared.body.Arg.{Arg}
use Rattle.mpl_value.specs.declared.body.BodyEnd.TheVariants as end
use Rattle.mpl_value.specs.declared.body.BodyStart.{BodyStart}
use Rattle.mpl_value.specs.declared.body.MemberId.{MemberId}
use Rattle.mpl_value.specs.declared.body.Yield.{Yield}
use Rattle.mpl_value.specs.declared.known.Known.{Known}
use Rattle.mpl_value.specs.CallAnswers.{arg_of_reply}
use Rattle.mpl_mean.specs.Meaning.BodyMeaning.{callees_at, body_of, context_with, formals_holding, in_class, main_statements, main_yield, member_of_classes, member_yield, split_words, store_with, with_variables, yield_of}
use Rattle.mpl_mean.specs.Meaning.CallMeaning.{MayName, Passes, answer, at_context, call_of_member, call_step, class_of_location, made, regular_call, bound}
use Rattle.mpl_mean.specs.Meaning.Context.{Callees, Context}
use Rattle.mpl_mean.specs.Meaning.ExpressionMeaning.{Evaluates}
use Rattle.mpl_mean.specs.Meaning.Layout.{Class, Function, Member, classes_of, member_named}
use Rattle.mpl_mean.specs.Meaning.PlaceMeaning.{Location, location_of, words_of_location}
use Rattle.mpl_mean.specs.Meaning.StatementMeaning.{Does, Effect, block_step, does}
use Rattle.mpl_mean.specs.Meaning.Store.{Step, Ends, ◌>>=◌, ◌>>◌, all_of, in_scope, in_turn, pure, spend, stop, waits}
use Rattle.mpl_mean.specs.Meaning.Values.{Value, first_word}
use Rattle.mpl_mean.proofs.MoreReplies.ComesBack.{after_plain, after_regular}
use Rattle.mpl_mean.proofs.SmallPrograms.OpenedBodies.{Doer, run_by}
use Rattle.mpl_mean.proofs.SmallPrograms.OpenTrees.{open_trees}
use Rattle.mpl_mean.proofs.SmallPrograms.OpenedExpressions.{name_to, value_to}
use Rattle.mpl_mean.proofs.SmallPrograms.OpenedStatements.{Done, Parts, Passed, does_opens, does_to, done, flow_step_by, next_done, next_passed, opened_done, opened_passed, parts_to, passed, statement_step_by}

abbrev LookUp : Type 0
LookUp = ℕ → Option Known

-- ---- calls

abbrev persistent_looking : LookUp → Context → ℤ → Member → List (Step Arg) → Step Arg
persistent_looking look context object member arguments =
    all_of arguments >>= (λ args. spend context.turns >> (made object member.id args >>= (λ k. answer args (pure (arg_of_reply (look k))))))

abbrev call_on_looking : LookUp → Context → ℕ → Option Location → Option Class → List ℕ → List (Step Arg) → Step Arg
call_on_looking look context line location None member arguments = waits
call_on_looking look context line location (Some class) member arguments =
    if class.is_regular then call_of_member (member_named member class.members) (λ m. regular_call context m arguments)
    else (words_of_location location >>= (λ (value : Value). bound line (first_word value.words) >>= (λ object.
    call_of_member (member_named member class.members) (λ m. persistent_looking look context object m arguments))))

abbrev target_looking : LookUp → Context → ℕ → Target → List ℕ → List (Step Arg) → Step Arg
target_looking look context line target member arguments store =
    call_on_looking look context line (location_of context target store) (class_of_location context (location_of context target store)) member arguments store

abbrev call_step_looking : LookUp → Call-F Passes Passes → Passes
call_step_looking look (Call-F.OnOwn at member arguments) = λ context.
    call_of_member (member_named member.text context.members) (λ m. persistent_looking look context context.object m (at_context context arguments))
call_step_looking look (Call-F.OnTarget at target member arguments) = λ context.
    target_looking look context at.line target member.text (at_context context arguments)

-- ---- calls in one context

record At : Type 0 where
  call : Call → Step Arg
  flow : Flow → Step Arg

abbrev pinned : At → Passed
pinned a = record { call = λ t c. a.call t; flow = λ t c. a.flow t }

abbrev at_of : Context → Passed → At
at_of x p = record { call = λ t. p.call t x; flow = λ t. p.flow t x }

abbrev FlowStep : Type 0
FlowStep = Flow-F Passes Passes → Passes

abbrev next_at : LookUp → FlowStep → Context → At → At
next_at look step x a = record {
  call = λ t. call_step_looking look (map-Call Call Flow Passes Passes (λ t c. a.call t) (λ t c. a.flow t) (out-Call t)) x;
  flow = λ t. step (map-Flow Call Flow Passes Passes (λ t c. a.call t) (λ t c. a.flow t) (out-Flow t)) x;
}

abbrev opened_at : LookUp → FlowStep → Context → ℕ → At
opened_at look step x zero = at_of x (passed step)
opened_at look step x (suc n) = next_at look step x (opened_at look step x n)

map_at : {A : Type 0} (x : Context) (f : A → Passes) (ts : List A) → map (λ (p : Passes). p x) (map f ts) ≡ map (λ (p : Passes). p x) (map (λ t c. f t x) ts)
map_at x f [] = refl
map_at x f (t ∷ ts) = ap (λ ss. f t x ∷ ss) (map_at x f ts)

call_layer : (x : Context) (p : Passed) (l : Call-F Call Flow)
    → call_step (map-Call Call Flow Passes Passes p.call p.flow l) x ≡ call_step_looking (get x.replies) (map-Call Call Flow Passes Passes (λ t c. p.call t x) (λ t c. p.flow t x) l) x
call_layer x p (Call-F.OnOwn at member arguments) =
    ap (λ args. call_of_member (member_named member.text x.members) (λ m. persistent_looking (get x.replies) x x.object m args)) (map_at x p.flow arguments)
call_layer x p (Call-F.OnTarget at target member arguments) = ap (λ args. target_looking (get x.replies) x at.line target member.text args) (map_at x p.flow arguments)

module _ (value : Expression → Evaluates) (name : Expression → MayName) (x : Context) where
  flow_layer : (p : Passed) (l : Flow-F Call Flow)
      → flow_step_by value name (map-Flow Call Flow Passes Passes p.call p.flow l) x ≡ flow_step_by value name (map-Flow Call Flow Passes Passes (λ t c. p.call t x) (λ t c. p.flow t x) l) x
  flow_layer p (Flow-F.OfCall at call) = refl
  flow_layer p (Flow-F.OfExpression at e) = refl

  one_at : (p : Passed) → at_of x (next_passed (flow_step_by value name) p) ≡ next_at (get x.replies) (flow_step_by value name) x (at_of x p)
  one_at p = λ i. record { call = λ t. call_layer x p (out-Call t) i; flow = λ t. flow_layer p (out-Flow t) i }

  at_opens : (n : ℕ) → at_of x (opened_passed (flow_step_by value name) n) ≡ opened_at (get x.replies) (flow_step_by value name) x n
  at_opens zero = refl
  at_opens (suc n) = one_at (opened_passed (flow_step_by value name) n) ∙ ap (next_at (get x.replies) (flow_step_by value name) x) (at_opens n)

-- ---- statements in one context

record Do : Type 0 where
  statement : Statement → Effect
  block : Block → Effect

abbrev do_of : Context → Done → Do
do_of x d = record { statement = λ t. d.statement t x; block = λ t. d.block t x }

abbrev parts_at : (Expression → Evaluates) → At → Parts
parts_at value a = record { value = value; passed = pinned a }

abbrev next_do : Parts → Context → Do → Do
next_do p x d = record {
  statement = λ t. statement_step_by p (map-Statement Statement Block Does Does (λ t c. d.statement t) (λ t c. d.block t) (out-Statement t)) x;
  block = λ t. block_step (map-Block Statement Block Does Does (λ t c. d.statement t) (λ t c. d.block t) (out-Block t)) x;
}

abbrev opened_do : Done → Parts → Context → ℕ → Do
opened_do base p x zero = do_of x base
opened_do base p x (suc n) = next_do p x (opened_do base p x n)

map_does : {A : Type 0} (x : Context) (f : A → Does) (ts : List A) → map (λ (p : Does). p x) (map f ts) ≡ map (λ (p : Does). p x) (map (λ t c. f t x) ts)
map_does x f [] = refl
map_does x f (t ∷ ts) = ap (λ ss. f t x ∷ ss) (map_does x f ts)

module _ (p : Parts) (x : Context) where
  abbrev here : Parts
  here = parts_at p.value (at_of x p.passed)

  statement_layer : (d : Done) (l : Statement-F Statement Block)
      → statement_step_by p (map-Statement Statement Block Does Does d.statement d.block l) x
      ≡ statement_step_by here (map-Statement Statement Block Does Does (λ t c. d.statement t x) (λ t c. d.block t x) l) x
  statement_layer d (Statement-F.OfBlock at block) = refl
  statement_layer d (Statement-F.Declare at local) = refl
  statement_layer d (Statement-F.Assign at assignment) = refl
  statement_layer d (Statement-F.CallAlone at call) = refl
  statement_layer d (Statement-F.Create at target) = refl
  statement_layer d (Statement-F.If at test then_part None) = refl
  statement_layer d (Statement-F.If at test then_part (Some else_part)) = refl
  statement_layer d (Statement-F.While at test body) = refl
  statement_layer d (Statement-F.For at head body) = refl
  statement_layer d (Statement-F.Print at arguments) = refl
  statement_layer d (Statement-F.Rtf at value) = refl
  statement_layer d (Statement-F.Return at value) = refl
  statement_layer d (Statement-F.Empty at) = refl

  block_layer : (d : Done) (l : Block-F Statement Block)
      → block_step (map-Block Statement Block Does Does d.statement d.block l) x ≡ block_step (map-Block Statement Block Does Does (λ t c. d.statement t x) (λ t c. d.block t x) l) x
  block_layer d l = ap (λ es. in_scope (in_turn es)) (map_does x d.statement l.statements)

  one_do : (d : Done) → do_of x (next_done p d) ≡ next_do here x (do_of x d)
  one_do d = λ i. record { statement = λ t. statement_layer d (out-Statement t) i; block = λ t. block_layer d (out-Block t) i }

  do_opens : (n : ℕ) → do_of x (opened_done p n) ≡ opened_do (done p) here x n
  do_opens zero = refl
  do_opens (suc n) = one_do (opened_done p n) ∙ ap (next_do here x) (do_opens n)

-- what a statement does with these replies
abbrev does_looking : LookUp → ℕ → Statement → Does
does_looking look n s x = (opened_do (done (parts_to n)) (parts_at (value_to n) (opened_at look (flow_step_by (value_to n) (name_to n)) x n)) x n).statement s

does_looks : (n : ℕ) (s : Statement) (x : Context) → does_to n s x ≡ does_looking (get x.replies) n s x
does_looks n s x =
    ap (λ (d : Do). d.statement s) (do_opens (parts_to n) x n)
    ∙ ap (λ (a : At). (opened_do (done (parts_to n)) (parts_at (value_to n) a) x n).statement s) (at_opens (value_to n) (name_to n) x n)

-- ---- bodies

abbrev pub none : LookUp
none call = None

none_is : get (empty {X = Known} {R = nat_cmp}) ≡ none
none_is = fun_ext (λ call. get-empty nat_cmp call)

run_looks : (n : ℕ) (x : Context) (look : LookUp) → get x.replies ≡ look → (statements : List Statement) → run_by does x statements ≡ run_by (does_looking look n) x statements
run_looks n x look e statements = ap (λ (effects : List Effect). spend x.turns >> in_turn effects) (each statements) where
  each : (statements : List Statement) → map (λ s. does s x) statements ≡ map (λ s. does_looking look n s x) statements
  each [] = refl
  each (s ∷ statements) =
      ap (λ (f : Effect). f ∷ map (λ s. does s x) statements) (ap (λ (d : Doer). d s x) (does_opens n) ∙ does_looks n s x ∙ ap (λ look. does_looking look n s x) e)
      ∙ ap (λ fs. does_looking look n s x ∷ fs) (each statements)

abbrev plain_with : Doer → Context → Function → List (List ℤ) → Step (List ℤ)
plain_with d x f arguments store = after_plain f store (run_by d x f.body.statements (with_variables (formals_holding f.formals arguments) store))

abbrev regular_with : Doer → Context → Member → List (List ℤ) → Step Arg
regular_with d x m arguments store = after_regular m store (run_by d x m.body.statements (store_with (formals_holding m.formals arguments) [] [] store.turns))

-- what is called, by what is called below with these replies and with none
abbrev one_level : Doer → Doer → List Declaration → ℕ → FinMap nat_cmp Known → Callees → Callees → Callees
one_level d alone ds turns replies callees below = record {
  plain = λ f arguments. plain_with d (context_with ds turns replies callees) f arguments;
  regular = λ m arguments. regular_with alone (context_with ds turns empty below) m arguments;
}

abbrev callees_looking : LookUp → ℕ → ℕ → List Declaration → ℕ → FinMap nat_cmp Known → Callees
callees_looking look n zero ds turns replies = record {
  plain = λ f arguments. spend turns >> stop end.Spent;
  regular = λ m arguments. spend turns >> stop end.Spent;
}
callees_looking look n (suc level) ds turns replies = record {
  plain = λ f arguments. plain_with (does_looking look n) (context_with ds turns replies (callees_looking look n level ds turns replies)) f arguments;
  regular = λ m arguments. regular_with (does_looking none n) (context_with ds turns empty (callees_looking none n level ds turns empty)) m arguments;
}

level_looks : (n : ℕ) (ds : List Declaration) (turns : ℕ) (replies : FinMap nat_cmp Known) (look : LookUp) → get replies ≡ look → (callees below : Callees)
    → one_level does does ds turns replies callees below ≡ one_level (does_looking look n) (does_looking none n) ds turns replies callees below
level_looks n ds turns replies look e callees below = λ i. record {
  plain = λ f arguments store. after_plain f store (run_looks n (context_with ds turns replies callees) look e f.body.statements i (with_variables (formals_holding f.formals arguments) store));
  regular = λ m arguments store. after_regular m store (run_looks n (context_with ds turns empty below) none none_is m.body.statements i (store_with (formals_holding m.formals arguments) [] [] store.turns));
}

callees_look : (n level : ℕ) (ds : List Declaration) (turns : ℕ) (replies : FinMap nat_cmp Known) (look : LookUp) → get replies ≡ look
    → callees_at level ds turns replies ≡ callees_looking look n level ds turns replies
callees_look n zero ds turns replies look e = refl
callees_look n (suc level) ds turns replies look e =
    ap (λ callees. one_level does does ds turns replies callees (callees_at level ds turns empty)) (callees_look n level ds turns replies look e)
    ∙ ap (λ below. one_level does does ds turns replies (callees_looking look n level ds turns replies) below) (callees_look n level ds turns empty none none_is)
    ∙ level_looks n ds turns replies look e (callees_looking look n level ds turns replies) (callees_looking none n level ds turns empty)

abbrev member_with : Doer → Context → BodyStart → Option (Class × Member) → Yield
member_with d x start None = main_yield (Ends end.Waits (store_with [] start.state start.input 0))
member_with d x start (Some found) =
    member_yield found.1 (run_by d (in_class found.0 start x) found.1.body.statements
    (store_with (formals_holding found.1.formals (split_words x.declarations found.1.formals start.args)) start.state start.input 0))

abbrev main_with : Doer → Context → BodyStart → Yield
main_with d x start = main_yield (run_by d (record x { number = start.number }) (main_statements x.declarations) (store_with [] start.state start.input 0))

abbrev body_with : Doer → Context → BodyStart → Option MemberId → Yield
body_with d x start None = main_with d x start
body_with d x start (Some m) = member_with d x start (member_of_classes m.0 (classes_of x.declarations))

abbrev yield_looking : LookUp → ℕ → Program → BodyStart → FinMap nat_cmp Known → ℕ → Yield
yield_looking look n p start replies turns =
    body_with (does_looking look n) (context_with p.declarations turns replies (callees_looking look n turns p.declarations turns replies)) start start.member

body_looks : (n : ℕ) (x : Context) (look : LookUp) → get x.replies ≡ look → (start : BodyStart) (member : Option MemberId) → body_of x start member ≡ body_with (does_looking look n) x start member
body_looks n x look e start None =
    ap (λ (f : Effect). main_yield (f (store_with [] start.state start.input 0))) (run_looks n (record x { number = start.number }) look e (main_statements x.declarations))
body_looks n x look e start (Some m) = by_found (member_of_classes m.0 (classes_of x.declarations)) where
  by_found : (found : Option (Class × Member)) → member_with does x start found ≡ member_with (does_looking look n) x start found
  by_found None = refl
  by_found (Some found) =
      ap (λ (f : Effect). member_yield found.1 (f (store_with (formals_holding found.1.formals (split_words x.declarations found.1.formals start.args)) start.state start.input 0)))
      (run_looks n (in_class found.0 start x) look e found.1.body.statements)

yield_looks : (n : ℕ) (p : Program) (start : BodyStart) (replies : FinMap nat_cmp Known) (turns : ℕ) (look : LookUp) → get replies ≡ look
    → yield_of p start replies turns ≡ yield_looking look n p start replies turns
yield_looks n p start replies turns look e =
    ap (λ callees. body_of (context_with p.declarations turns replies callees) start start.member) (callees_look n turns p.declarations turns replies look e)
    ∙ body_looks n (context_with p.declarations turns replies (callees_looking look n turns p.declarations turns replies)) look e start start.member

-- what a body does where the replies are looked up so, and where the trees are open
unfoldable pub opened_with : LookUp → Program → BodyStart → FinMap nat_cmp Known → ℕ → Yield
unfolding open_trees digits
opened_with look = yield_looking look 40

pub opens_with : (p : Program) (start : BodyStart) (replies : FinMap nat_cmp Known) (turns : ℕ) (look : LookUp) → get replies ≡ look → yield_of p start replies turns ≡ opened_with look p start replies turns
unfolding opened_with
opens_with = yield_looks 40
