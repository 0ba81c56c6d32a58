-- What a step of a body keeps: the variables in scope, and the sizes of what it holds, gives and makes.
use Rattle.std.proofs.Common.{◌≡◌, ℕ, ◌+◌, Bool, true, false, List, [], ◌∷◌, length, map, Option, Some, None, if◌then◌else◌, nat_lt, ℤ, Result, Ok, Err, refl, subst}
use Rattle.std.specs.FinMap.{FinMap}
use Rattle.std.specs.Ordering.{nat_cmp}
use Rattle.mpl_ast.specs.declared.program.Declaration.{Declaration}
use Rattle.mpl_value.specs.declared.body.Arg.{Arg}
use Rattle.mpl_value.specs.declared.body.Arg.TheVariants.{Know, Trapped, Unknown}
use Rattle.mpl_value.specs.declared.body.BodyEnd.{BodyEnd}
use Rattle.mpl_value.specs.declared.body.BodyEnd.TheVariants as end
use Rattle.mpl_value.specs.declared.body.BodyResult.{BodyResult}
use Rattle.mpl_value.specs.declared.body.BodyResult.TheVariants as result
use Rattle.mpl_value.specs.declared.body.CallMade.{CallMade}
use Rattle.mpl_value.specs.declared.known.Known.{Known}
use Rattle.mpl_value.specs.declared.known.Known.TheVariants as known
use Rattle.mpl_value.specs.declared.known.TrapKind.{TrapKind}
use Rattle.mpl_mean.specs.Meaning.Layout.{words_of}
use Rattle.mpl_value.specs.Growing.{IsFront}
use Rattle.mpl_mean.specs.Laws.Sizes.{CallFits, Every}
use Rattle.mpl_mean.specs.Meaning.Store.{Store, Outcome, Goes, Returns, Ends, Step, Variable, ◌>>=◌, and_then, pure, stop, spend, computed, force}
use Rattle.mpl_mean.proofs.MoreReplies.Follows.{store_after}
use Rattle.mpl_mean.proofs.MoreReplies.Later.{Begins-itself}

-- What stays the same while a body runs: the program and its replies, the words of the state and of the result, all
-- calls in the end, what a function may return, and what holds where a call is made.
pub record Frame : Type 1 where
  pub declarations : List Declaration
  pub replies : FinMap nat_cmp Known
  pub state_words : ℕ
  pub result_words : Option ℕ
  pub calls : List CallMade
  pub MayReturn : List ℤ → Type 0
  pub MayMake : Type 0
  -- what holds where something isn't known
  pub MayWait : Type 0

-- a variable, whatever it holds
abbrev pub bare : Variable → Variable
bare v = record v { holds = Unknown }

abbrev pub variable_words : List Declaration → Variable → ℕ
variable_words ds v = words_of ds v.type v.dimension

-- a value of so many words, or one that isn't known where that may be
abbrev pub ArgIn : Type 0 → ℕ → Arg → Type 0
ArgIn W words (Know value) = length value ≡ words
ArgIn W words (Trapped t) = Unit {0}
ArgIn W words Unknown = W

-- the same of a result
abbrev pub GivenIn : Type 0 → Option ℕ → BodyResult → Type 0
GivenIn W (Some words) (result.Known (known.Value value)) = length value ≡ words
GivenIn W None (result.Known (known.Value value)) = ⊥
GivenIn W words result.Unknown = W
GivenIn W words other = Unit {0}

-- how a body may end before its last statement
abbrev pub MayEnd : Type 0 → BodyEnd → Type 0
MayEnd W end.Done = ⊥
MayEnd W (end.Trap t) = Unit {0}
MayEnd W end.Waits = W
MayEnd W end.Spent = Unit {0}

abbrev pub VariableFits : Type 0 → List Declaration → Variable → Type 0
VariableFits W ds v = ArgIn W (variable_words ds v) v.holds

abbrev pub CallRight : Frame → CallMade → Type 0
CallRight G call = CallFits G.declarations call × G.MayMake

pub calls_fit : (ds : List Declaration) (make : Type 0) (calls : List CallMade) → Every (λ call. CallFits ds call × make) calls → Every (CallFits ds) calls
calls_fit ds make [] h = tt
calls_fit ds make (call ∷ calls) h = (h.0.0, calls_fit ds make calls h.1)

pub record RestFits (G : Frame) (words : List ℤ) (made : List CallMade) (given : BodyResult) : Type 0 where
  pub state : length words ≡ G.state_words
  pub calls : Every (CallRight G) made
  pub result : GivenIn G.MayWait G.result_words given

abbrev pub Rest : Frame → Store → Type 0
Rest G s = RestFits G s.state s.calls s.result

-- a store with these variables in scope, in which all has its size
abbrev pub Fits : Frame → List Variable → Store → Type 0
Fits G vs s = (map bare s.variables ≡ vs) × Every (VariableFits G.MayWait G.declarations) s.variables × Rest G s

-- what is shown of an outcome
abbrev pub After : Frame → {A : Type 0} → (A → Store → Type 0) → Outcome A → Type 0
After G Q (Goes value s) = Q value s
After G Q (Returns words s) = G.MayReturn words × Rest G s
After G Q (Ends e s) = Rest G s × MayEnd G.MayWait e

-- the calls of a store are among those in the end
abbrev pub Within : Frame → Store → Type 0
Within G s = IsFront s.calls G.calls

-- Where the premise holds a step keeps what fits. Whether it holds or not, calls are only added.
pub record Triple (G : Frame) (A : Type 0) (P : Store → Type 0) (Q : A → Store → Type 0) (f : Step A) : Type 0 where
  pub grows : (s : Store) → IsFront s.calls (store_after (f s)).calls
  pub holds : (s : Store) → P s → Within G (store_after (f s)) → After G Q (f s)

pub front_itself : (xs : List CallMade) → IsFront xs xs
front_itself xs = Begins-itself _ (λ x. refl) xs

pub front_trans : (xs ys zs : List CallMade) → IsFront xs ys → IsFront ys zs → IsFront xs zs
front_trans [] ys zs h k = tt
front_trans (x ∷ xs) [] zs h k = absurd h
front_trans (x ∷ xs) (y ∷ ys) [] h k = absurd k
front_trans (x ∷ xs) (y ∷ ys) (z ∷ zs) h k = (subst (λ w. x ≡ w) k.0 h.0, front_trans xs ys zs h.1 k.1)

-- ---- one step after another

then_grows : {A B : Type 0} (h : A → Step B) → ((a : A) (s : Store) → IsFront s.calls (store_after (h a s)).calls) → (o : Outcome A)
    → IsFront (store_after o).calls (store_after (and_then o h)).calls
then_grows h r (Goes a s) = r a s
then_grows h r (Returns words s) = front_itself s.calls
then_grows h r (Ends e s) = front_itself s.calls

then_holds : (G : Frame) {A B : Type 0} (Q : A → Store → Type 0) (R : B → Store → Type 0) (h : A → Step B) → ((a : A) → Triple G B (Q a) R (h a)) → (o : Outcome A)
    → After G Q o → Within G (store_after (and_then o h)) → After G R (and_then o h)
then_holds G Q R h r (Goes a s) q w = (r a).holds s q w
then_holds G Q R h r (Returns words s) q w = q
then_holds G Q R h r (Ends e s) q w = q

pub then_triple : (G : Frame) {A B : Type 0} (P : Store → Type 0) (Q : A → Store → Type 0) (R : B → Store → Type 0) (f : Step A) (h : A → Step B)
    → Triple G A P Q f → ((a : A) → Triple G B (Q a) R (h a)) → Triple G B P R (f >>= h)
then_triple G P Q R f h t r =
    let grown : (s : Store) → IsFront (store_after (f s)).calls (store_after (and_then (f s) h)).calls = λ s. then_grows h (λ a. (r a).grows) (f s) in
    record {
      grows = λ s. front_trans s.calls (store_after (f s)).calls _ (t.grows s) (grown s);
      holds = λ s p w. then_holds G Q R h r (f s) (t.holds s p (front_trans (store_after (f s)).calls _ G.calls (grown s) w)) w;
    }

pub so_after : (G : Frame) {A : Type 0} {Q R : A → Store → Type 0} → ((a : A) (s : Store) → Q a s → R a s) → (o : Outcome A) → After G Q o → After G R o
so_after G r (Goes a s) q = r a s q
so_after G r (Returns words s) q = q
so_after G r (Ends e s) q = q

pub concludes : (G : Frame) {A : Type 0} {P : Store → Type 0} {Q R : A → Store → Type 0} {f : Step A} → ((a : A) (s : Store) → Q a s → R a s) → Triple G A P Q f → Triple G A P R f
concludes G {A} {P} {Q} {R} {f} r t = record { grows = t.grows; holds = λ s p w. so_after G r (f s) (t.holds s p w) }

-- ---- steps that keep the variables in scope

-- a step from a premise to a value of which something holds
abbrev pub Keeps : (G : Frame) (vs : List Variable) (P : Type 0) (A : Type 0) → (A → Type 0) → Step A → Type 0
Keeps G vs P A V f = Triple G A (λ s. P × Fits G vs s) (λ a s. (P × V a) × Fits G vs s) f

module _ (G : Frame) (vs : List Variable) where
  pub then_keeps : {P : Type 0} {A B : Type 0} {V : A → Type 0} {W : B → Type 0} {f : Step A} {h : A → Step B}
      → Keeps G vs P A V f → ((a : A) → Keeps G vs (P × V a) B W (h a)) → Keeps G vs P B W (f >>= h)
  then_keeps {P} {A} {B} {V} {W} {f} {h} t r =
      then_triple G (λ s. P × Fits G vs s) (λ a s. (P × V a) × Fits G vs s) (λ b s. (P × W b) × Fits G vs s) f h t
      (λ a. concludes G (λ b s q. ((q.0.0.0, q.0.1), q.1)) (r a))

  -- from another premise, to something else
  pub so_keeps : {P P' : Type 0} {A : Type 0} {V W : A → Type 0} {f : Step A} → (P → P') → ((a : A) → P → V a → W a) → Keeps G vs P' A V f → Keeps G vs P A W f
  so_keeps {P} {P'} {A} {V} {W} {f} p r t = record {
    grows = t.grows;
    holds = λ s q w. so_after G (λ a s i. ((q.0, r a q.0 i.0.1), i.1)) (f s) (t.holds s (p q.0, q.1) w);
  }

  pub from_premise : {P P' : Type 0} {A : Type 0} {V : A → Type 0} {f : Step A} → (P → P') → Keeps G vs P' A V f → Keeps G vs P A V f
  from_premise p t = so_keeps p (λ a q v. v) t

  pub give_keeps : {P : Type 0} {A : Type 0} {V : A → Type 0} (a : A) → (P → V a) → Keeps G vs P A V (pure a)
  give_keeps a v = record { grows = λ s. front_itself s.calls; holds = λ s q w. ((q.0, v q.0), q.1) }

  pub stop_keeps : {P : Type 0} {A : Type 0} {V : A → Type 0} (e : BodyEnd) → (P → MayEnd G.MayWait e) → Keeps G vs P A V (stop e)
  stop_keeps e m = record { grows = λ s. front_itself s.calls; holds = λ s q w. (q.1.2, m q.0) }

  pub if_keeps : {P : Type 0} {A : Type 0} {V : A → Type 0} (test : Bool) {f h : Step A} → Keeps G vs P A V f → Keeps G vs P A V h → Keeps G vs P A V (if test then f else h)
  if_keeps true t u = t
  if_keeps false t u = u

  pub spend_keeps : {P : Type 0} (n : ℕ) → Keeps G vs P (Unit {0}) (λ _. Unit {0}) (spend n)
  spend_keeps {P} n = record { grows = λ s. grown (nat_lt s.turns n) s; holds = λ s q w. held (nat_lt s.turns n) s q } where
    grown : (b : Bool) (s : Store) → IsFront s.calls (store_after {A = Unit {0}} (if b then Goes tt (record s { turns = s.turns + 1 }) else Ends end.Spent (record s { turns = s.turns + 1 }))).calls
    grown true s = front_itself s.calls
    grown false s = front_itself s.calls

    held : (b : Bool) (s : Store) → P × Fits G vs s
        → After G {A = Unit {0}} (λ _ s. (P × Unit {0}) × Fits G vs s) (if b then Goes tt (record s { turns = s.turns + 1 }) else Ends end.Spent (record s { turns = s.turns + 1 }))
    held true s q = ((q.0, tt), q.1)
    held false s q = (q.1.2, tt)

  pub computes : {P : Type 0} (line : ℕ) (r : Result ℤ TrapKind) → Keeps G vs P ℤ (λ _. Unit {0}) (computed line r)
  computes line (Ok z) = give_keeps z (λ p. tt)
  computes line (Err kind) = stop_keeps _ (λ p. tt)

  pub force_keeps : {P : Type 0} (n : ℕ) (a : Arg) → (P → ArgIn G.MayWait n a) → Keeps G vs P (List ℤ) (λ words. length words ≡ n) (force a)
  force_keeps n (Know words) h = give_keeps words h
  force_keeps n (Trapped t) h = stop_keeps _ (λ p. tt)
  force_keeps n Unknown h = stop_keeps _ h
