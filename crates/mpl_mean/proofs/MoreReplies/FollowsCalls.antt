-- What calls answer in a run with more replies follows what they answer in one with fewer; and loops.
use Rattle.std.proofs.Common.{◌≡◌, ℕ, zero, suc, ◌≤◌, Bool, true, false, List, [], ◌∷◌, Option, Some, None, if◌then◌else◌, ℤ, refl, sym, ap, ap₂, subst, arith}
use Rattle.std.specs.List.{AllZip}
use Rattle.mpl_value.specs.declared.body.Arg.{Arg}
use Rattle.mpl_value.specs.declared.body.Arg.TheVariants.{Know, Trapped, Unknown}
use Rattle.mpl_value.specs.declared.known.Known.{Known}
use Rattle.mpl_value.specs.declared.known.Known.TheVariants as known
use Rattle.mpl_value.specs.declared.known.Trap.{Trap}
use Rattle.mpl_mean.specs.Meaning.CallMeaning.{answer, unless_trapped}
use Rattle.mpl_value.specs.CallAnswers.{any_unknown, arg_of_reply, known_words, leftmost_trap}
use Rattle.mpl_value.specs.Growing.{Stays}
use Rattle.mpl_mean.specs.Meaning.StatementMeaning.{Effect, nothing, while_loop}
use Rattle.mpl_mean.specs.Meaning.Store.{Step, ◌>>◌, pure, spend}
use Rattle.mpl_mean.specs.Meaning.Values.{Value, is_true}
use Rattle.mpl_mean.proofs.Simulations.Simulation.{Same}
use Rattle.mpl_mean.proofs.MoreReplies.Follows.{Growing, StepFollows, then_grows, then_step, gives_step, spent_step, spend_step}
use Rattle.mpl_mean.proofs.MoreReplies.Later.{Later-itself}

abbrev pub ArgStep : Step Arg → Step Arg → Type 0
ArgStep = StepFollows Arg Stays

-- what is given where the first has nothing, too
pub record Answers (f g : Step Arg) : Type 0 where
  pub step : StepFollows Arg Stays f g
  pub unasked : StepFollows Arg Stays (pure Unknown) g

gives_arg : (a b : Arg) → Stays a b → ArgStep (pure a) (pure b)
gives_arg = gives_step Arg Stays

-- ---- answers

pub reply_stays : (before after : Option Known) → ((known : Known) → before ≡ Some known → after ≡ Some known) → Answers (pure (arg_of_reply before)) (pure (arg_of_reply after))
reply_stays before after r = record { step = gives_arg _ _ (stays before r); unasked = gives_arg Unknown _ tt } where
  stays : (before : Option Known) → ((known : Known) → before ≡ Some known → after ≡ Some known) → Stays (arg_of_reply before) (arg_of_reply after)
  stays None r = tt
  stays (Some (known.Value words)) r = sym (ap arg_of_reply (r _ refl))
  stays (Some (known.Trapped t)) r = sym (ap arg_of_reply (r _ refl))

all_known : (args others : List Arg) → AllZip Stays args others → any_unknown args ≡ false → args ≡ others
all_known [] [] h i = refl
all_known [] (b ∷ others) h i = absurd h
all_known (a ∷ args) [] h i = absurd h
all_known (Know words ∷ args) (b ∷ others) h i = ap₂ (λ b others. b ∷ others) h.0 (all_known args others h.1 i)
all_known (Trapped t ∷ args) (b ∷ others) h i = ap₂ (λ b others. b ∷ others) h.0 (all_known args others h.1 i)
all_known (Unknown ∷ args) (b ∷ others) h i = absurd cc

trapped_step : (trap : Option Trap) (f g : Step Arg) → ArgStep f g → ArgStep (unless_trapped trap f) (unless_trapped trap g)
trapped_step None f g r = r
trapped_step (Some t) f g r = gives_arg (Trapped t) (Trapped t) refl

unasked_trapped : (trap : Option Trap) (g : Step Arg) → ArgStep (pure Unknown) g → ArgStep (pure Unknown) (unless_trapped trap g)
unasked_trapped None g r = r
unasked_trapped (Some t) g r = gives_arg Unknown (Trapped t) tt

unasked_answer : (unknown : Bool) (trap : Option Trap) (g : Step Arg) → ArgStep (pure Unknown) g → ArgStep (pure Unknown) (if unknown then pure Unknown else unless_trapped trap g)
unasked_answer true trap g r = gives_arg Unknown Unknown tt
unasked_answer false trap g r = unasked_trapped trap g r

answer_known : (unknown : Bool) (trap : Option Trap) (f g : Step Arg) → ArgStep f g → ArgStep (if unknown then pure Unknown else unless_trapped trap f) (if unknown then pure Unknown else unless_trapped trap g)
answer_known true trap f g r = gives_arg Unknown Unknown tt
answer_known false trap f g r = trapped_step trap f g r

pub answer_step : (args others : List Arg) (f g : List (List ℤ) → Step Arg) → AllZip Stays args others → ((words : List (List ℤ)) → Answers (f words) (g words))
    → ArgStep (answer args (f (known_words args))) (answer others (g (known_words others)))
answer_step args others f g h r = by_first (any_unknown args) refl where
  by_first : (unknown : Bool) → any_unknown args ≡ unknown → ArgStep (answer args (f (known_words args))) (answer others (g (known_words others)))
  by_first true i =
      subst (λ b. ArgStep (if b then pure Unknown else unless_trapped (leftmost_trap args) (f (known_words args))) (answer others (g (known_words others)))) (sym i)
      (unasked_answer (any_unknown others) (leftmost_trap others) (g (known_words others)) (r (known_words others)).unasked)
  by_first false i =
      subst (λ others. ArgStep (answer args (f (known_words args))) (answer others (g (known_words others)))) (all_known args others h i)
      (answer_known (any_unknown args) (leftmost_trap args) (f (known_words args)) (g (known_words args)) (r (known_words args)).step)

-- ---- loops

if_step : (test : Bool) (h k : Effect) → StepFollows (Unit {0}) Same h k → StepFollows (Unit {0}) Same (if test then h else nothing) (if test then k else nothing)
if_step true h k r = r
if_step false h k r = gives_step _ _ tt tt refl

if_grows : (test : Bool) (h : Effect) → Growing h → Growing (if test then h else nothing)
if_grows true h r = r
if_grows false h r = Later-itself

loop_grows : (fuel n : ℕ) (f : Step Value) (h : Effect) → Growing f → Growing h → Growing (while_loop fuel n f h)
loop_grows zero n f h r q = Later-itself
loop_grows (suc fuel) n f h r q =
    then_grows (spend n) _ (spend_step n n).grows (λ _.
    then_grows f _ r (λ v. if_grows (is_true v) (h >> while_loop fuel n f h) (then_grows h (λ _. while_loop fuel n f h) q (λ _. loop_grows fuel n f h r q))))

pub loop_step : (fuel more n m : ℕ) (f g : Step Value) (h k : Effect) → fuel ≤ more → StepFollows Value Same f g → StepFollows (Unit {0}) Same h k
    → StepFollows (Unit {0}) Same (while_loop fuel n f h) (while_loop more m g k)
loop_step zero more n m f g h k le r q = spent_step _ _ (while_loop more m g k) (loop_grows more m g k r.grows q.grows)
loop_step (suc fuel) zero n m f g h k le r q = absurd (omega arith)
loop_step (suc fuel) (suc more) n m f g h k le r q =
    let others = loop_step fuel more n m f g h k (omega arith) r q in
    then_step _ _ Same Same (spend n) (spend m) _ _ (λ a. refl) (spend_step n m) (λ _ _ _.
    then_step _ _ Same Same f g _ _ (λ a. refl) r (λ v w e.
    subst (λ w. StepFollows (Unit {0}) Same (if is_true v then (h >> while_loop fuel n f h) else nothing) (if is_true w then (k >> while_loop more m g k) else nothing)) e
    (if_step (is_true v) _ _ (then_step _ _ Same Same h k (λ _. while_loop fuel n f h) (λ _. while_loop more m g k) (λ a. refl) q (λ _ _ _. others)))))
