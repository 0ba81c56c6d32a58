-- Two runs of a program, in which each step of the first has a counterpart in the second.
use Rattle.std.proofs.Common.{◌≡◌, ℕ, ◌+◌, List, [], ◌∷◌, map, Option, Some, None, ℤ, Result, Ok, Err, refl, subst}
use Rattle.std.specs.FinMap.{FinMap, get}
use Rattle.std.specs.List.{AllZip}
use Rattle.std.specs.Ordering.{nat_cmp}
use Rattle.mpl_value.specs.declared.body.Arg.{Arg}
use Rattle.mpl_value.specs.declared.body.BodyEnd.TheVariants as end
use Rattle.mpl_value.specs.declared.known.Known.{Known}
use Rattle.mpl_value.specs.declared.known.Trap.{Trap}
use Rattle.mpl_value.specs.declared.known.TrapKind.{TrapKind}
use Rattle.mpl_mean.specs.Meaning.BodyMeaning.{plain_body, regular_body, run}
use Rattle.mpl_mean.specs.Meaning.CallMeaning.{answer, made}
use Rattle.mpl_value.specs.CallAnswers.{arg_of_reply, known_words}
use Rattle.mpl_mean.specs.Meaning.ExpressionMeaning.{next_number}
use Rattle.mpl_mean.specs.Meaning.Context.{Callees, Context}
use Rattle.mpl_mean.specs.Meaning.Layout.{Class, Function, Member}
use Rattle.mpl_mean.specs.Meaning.StatementMeaning.{Effect, created, gives_result, while_loop}
use Rattle.mpl_mean.specs.Meaning.Store.{Goes, Returns, Step, Variable, ◌>>=◌, pure, stop, waits, spend, computed, all_of, in_turn, force, hold, declare, printed, in_scope, variable_named}
use Rattle.mpl_value.specs.Words.{with_words}
use Rattle.mpl_mean.specs.Meaning.Values.{Value}

abbrev pub Same : {A : Type 0} → A → A → Type 0
Same a b = a ≡ b

-- the same variable, but for what it holds
pub record VariableBeside (Held : Arg → Arg → Type 0) (v w : Variable) : Type 0 where
  pub same : record v { holds = w.holds } ≡ w
  pub holds : Held v.holds w.holds

-- what is shown of the variable that holds something else is shown of the second
pub at_variable : {Held : Arg → Arg → Type 0} {v w : Variable} → VariableBeside Held v w → (P : Variable → Type 0) → ((a : Arg) → Held v.holds a → P (record v { holds = a })) → P w
at_variable {w = w} b P h = subst P b.same (h w.holds b.holds)

abbrev pub MaybeBeside : {A : Type 0} → (A → A → Type 0) → Option A → Option A → Type 0
MaybeBeside R None None = Unit {0}
MaybeBeside R None (Some b) = ⊥
MaybeBeside R (Some a) None = ⊥
MaybeBeside R (Some a) (Some b) = R a b

-- The relation between the steps of two runs, and that all which a body does at its store keeps it.
pub record Simulation : Type 1 where
  -- the turns and the replies of the first run and of the second
  pub n : ℕ
  pub m : ℕ
  pub replies : FinMap nat_cmp Known
  pub more : FinMap nat_cmp Known
  -- what the second holds where the first holds something
  pub Held : Arg → Arg → Type 0
  -- the relations between values that serve, and the steps with values in one of them
  pub Serves : (A : Type 0) → (A → A → Type 0) → Type 0
  pub Steps : (A : Type 0) → (A → A → Type 0) → Step A → Step A → Type 0
  -- what is given for a call whose arguments are known
  pub Answers : Step Arg → Step Arg → Type 0
  pub same : (A : Type 0) → Serves A Same
  pub held : Serves Arg Held
  pub all_held : Serves (List Arg) (AllZip Held)
  pub itself : (a : Arg) → Held a a
  pub gives : (A : Type 0) (V : A → A → Type 0) (a b : A) → Serves A V → V a b → Steps A V (pure a) (pure b)
  pub goes_on : (A B : Type 0) (V : A → A → Type 0) (W : B → B → Type 0) (f g : Step A) (h k : A → Step B) → Serves A V → Steps A V f g
      → ((a b : A) → V a b → Steps B W (h a) (k b)) → Steps B W (f >>= h) (g >>= k)
  pub traps : (A : Type 0) (V : A → A → Type 0) (t : Trap) → Steps A V (stop (end.Trap t)) (stop (end.Trap t))
  pub waiting : (A : Type 0) (V : A → A → Type 0) → Steps A V waits waits
  pub spends : Steps (Unit {0}) Same (spend n) (spend m)
  pub looks : (A : Type 0) (V : A → A → Type 0) (name : List ℕ) (h k : Option Variable → Step A)
      → ((v w : Option Variable) → MaybeBeside (VariableBeside Held) v w → Steps A V (h v) (k w))
      → Steps A V (λ s. h (variable_named name s.variables) s) (λ s. k (variable_named name s.variables) s)
  pub returns : (words : List ℤ) → Steps (Unit {0}) Same (λ s. Returns words s) (λ s. Returns words s)
  pub state : Steps (List ℤ) Same (λ s. Goes s.state s) (λ s. Goes s.state s)
  pub restates : (offset : ℕ) (words : List ℤ) → let step : Effect = λ s. Goes tt (record s { state = with_words offset words s.state }) in Steps (Unit {0}) Same step step
  pub forces : (a b : Arg) → Held a b → Steps (List ℤ) Same (force a) (force b)
  pub holds : (name : List ℕ) (a b : Arg) → Held a b → Steps (Unit {0}) Same (hold name a) (hold name b)
  pub declares : (v w : Variable) → VariableBeside Held v w → Steps (Unit {0}) Same (declare v) (declare w)
  pub scopes : (A : Type 0) (V : A → A → Type 0) (f g : Step A) → Steps A V f g → Steps A V (in_scope f) (in_scope g)
  pub prints : (text : List ℕ) → Steps (Unit {0}) Same (printed text) (printed text)
  pub inputs : (line : ℕ) → Steps Value Same (next_number line) (next_number line)
  pub makes : (object : ℤ) (member : ℕ) (args others : List Arg) → AllZip Held args others → Steps ℕ Same (made object member args) (made object member others)
  pub creates : (x : Context) (class : Class) → Steps ℤ Same (created x class) (created x class)
  pub results : (line : ℕ) (a b : Arg) → Held a b → Steps (Unit {0}) Same (gives_result line a) (gives_result line b)
  pub answers : (args others : List Arg) (f g : List (List ℤ) → Step Arg) → AllZip Held args others → ((words : List (List ℤ)) → Answers (f words) (g words))
      → Steps Arg Held (answer args (f (known_words args))) (answer others (g (known_words others)))
  pub replied : (k : ℕ) → Answers (pure (arg_of_reply (get replies k))) (pure (arg_of_reply (get more k)))
  pub loops : (f g : Step Value) (h k : Effect) → Steps Value Same f g → Steps (Unit {0}) Same h k
      → Steps (Unit {0}) Same (while_loop (n + 1) n f h) (while_loop (m + 1) m g k)
  pub in_plain : (x y : Context) (f : Function) (arguments : List (List ℤ)) → Steps (Unit {0}) Same (run x f.body.statements) (run y f.body.statements)
      → Steps (List ℤ) Same (plain_body x f arguments) (plain_body y f arguments)
  pub in_regular : (x y : Context) (m : Member) (arguments : List (List ℤ)) → Steps (Unit {0}) Same (run x m.body.statements) (run y m.body.statements)
      → Answers (regular_body x m arguments) (regular_body y m arguments)

-- what is called from the first run and from the second
pub record BelowBeside (S : Simulation) (b c : Callees) : Type 0 where
  pub plain : (f : Function) (arguments : List (List ℤ)) → S.Steps (List ℤ) Same (b.plain f arguments) (c.plain f arguments)
  pub regular : (m : Member) (arguments : List (List ℤ)) → S.Answers (b.regular m arguments) (c.regular m arguments)

-- a body of the first run and of the second
abbrev pub first : Simulation → Callees → Context → Context
first S b x = record x { turns = S.n; replies = S.replies; callees = b }

abbrev pub second : Simulation → Callees → Context → Context
second S c x = record x { turns = S.m; replies = S.more; callees = c }

-- ---- steps that follow from these

pub goes_on_same : (S : Simulation) {A B : Type 0} {W : B → B → Type 0} (f g : Step A) (h k : A → Step B) → S.Steps A Same f g → ((a : A) → S.Steps B W (h a) (k a)) → S.Steps B W (f >>= h) (g >>= k)
goes_on_same S {A} {B} {W} f g h k r q = S.goes_on A B Same W f g h k (S.same A) r (λ a b e. subst (λ c. S.Steps B W (h a) (k c)) e (q a))

pub gives_same : (S : Simulation) {A : Type 0} (a : A) → S.Steps A Same (pure a) (pure a)
gives_same S {A} a = S.gives A Same a a (S.same A) refl

pub computes : (S : Simulation) (line : ℕ) (r : Result ℤ TrapKind) → S.Steps ℤ Same (computed line r) (computed line r)
computes S line (Ok z) = gives_same S z
computes S line (Err kind) = S.traps _ _ _

pub all_same : (S : Simulation) {A : Type 0} (fs gs : List (Step A)) → AllZip (S.Steps A Same) fs gs → S.Steps (List A) Same (all_of fs) (all_of gs)
all_same S [] [] r = gives_same S []
all_same S [] (g ∷ gs) r = absurd r
all_same S (f ∷ fs) [] r = absurd r
all_same S (f ∷ fs) (g ∷ gs) r =
    goes_on_same S f g _ _ r.0 (λ a. goes_on_same S (all_of fs) (all_of gs) _ _ (all_same S fs gs r.1) (λ xs. gives_same S (a ∷ xs)))

pub all_held : (S : Simulation) (fs gs : List (Step Arg)) → AllZip (S.Steps Arg S.Held) fs gs → S.Steps (List Arg) (AllZip S.Held) (all_of fs) (all_of gs)
all_held S [] [] r = S.gives _ _ [] [] S.all_held tt
all_held S [] (g ∷ gs) r = absurd r
all_held S (f ∷ fs) [] r = absurd r
all_held S (f ∷ fs) (g ∷ gs) r =
    S.goes_on _ _ _ _ f g _ _ S.held r.0 (λ a b h.
    S.goes_on _ _ _ _ (all_of fs) (all_of gs) _ _ S.all_held (all_held S fs gs r.1) (λ xs ys hs. S.gives _ _ (a ∷ xs) (b ∷ ys) S.all_held (h, hs)))

pub runs_in_turn : (S : Simulation) (fs gs : List Effect) → AllZip (S.Steps (Unit {0}) Same) fs gs → S.Steps (Unit {0}) Same (in_turn fs) (in_turn gs)
runs_in_turn S [] [] r = gives_same S tt
runs_in_turn S [] (g ∷ gs) r = absurd r
runs_in_turn S (f ∷ fs) [] r = absurd r
runs_in_turn S (f ∷ fs) (g ∷ gs) r = goes_on_same S f g _ _ r.0 (λ _. runs_in_turn S fs gs r.1)

-- a row of steps, one for each item of a list
pub zip_map : {X A : Type 0} (R : A → A → Type 0) (f g : X → A) (xs : List X) → ((x : X) → R (f x) (g x)) → AllZip R (map f xs) (map g xs)
zip_map R f g [] h = tt
zip_map R f g (x ∷ xs) h = (h x, zip_map R f g xs h)

pub zip_itself : {A : Type 0} (R : A → A → Type 0) → ((a : A) → R a a) → (xs : List A) → AllZip R xs xs
zip_itself R r [] = tt
zip_itself R r (x ∷ xs) = (r x, zip_itself R r xs)

pub variable_itself : (Held : Arg → Arg → Type 0) → ((a : Arg) → Held a a) → (v : Variable) → VariableBeside Held v v
variable_itself Held r v = record { same = refl; holds = r v.holds }

pub maybe_itself : {A : Type 0} (R : A → A → Type 0) → ((a : A) → R a a) → (v : Option A) → MaybeBeside R v v
maybe_itself R r None = tt
maybe_itself R r (Some a) = r a
