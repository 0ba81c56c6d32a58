-- What a body comes to that calls a member, from what it comes to behind the call.
use Rattle.std.proofs.Common.{◌≡◌, ◌≤◌, ◌<◌, ℕ, suc, ◌+◌, Bool, true, false, List, [], ◌∷◌, ◌++◌, length, map, Option, Some, None, if◌then◌else◌, ℤ, refl, ap, sym, subst, arith, ◌∙◌}
use Rattle.std.proofs.lemmas.Bool.{eq-eqb, ltb-true}
use Rattle.std.specs.List.{slice_get}
use Rattle.std.specs.Option.{unwrap_or}
use Rattle.std.specs.Prelude.{nat_lt}
use Rattle.mpl_ast.specs.declared.class.Formal.{Formal}
use Rattle.mpl_ast.specs.declared.class.ResultType.{ResultType}
use Rattle.mpl_ast.specs.declared.class.ResultType.TheVariants.{Void, Typed}
use Rattle.mpl_ast.specs.declared.program.Declaration.{Declaration}
use Rattle.mpl_value.specs.CallAnswers.{any_unknown, arg_of_reply, known_words, leftmost_trap}
use Rattle.mpl_value.specs.declared.body.Arg.{Arg}
use Rattle.mpl_value.specs.declared.body.Arg.TheVariants as arg
use Rattle.mpl_value.specs.declared.body.BodyEnd.TheVariants as end
use Rattle.mpl_value.specs.declared.known.Known.{Known}
use Rattle.mpl_value.specs.declared.known.Known.TheVariants as known
use Rattle.mpl_value.specs.declared.known.Trap.{Trap}
use Rattle.mpl_mean.specs.Laws.InPlace.{ArgumentsHaveWords}
use Rattle.mpl_mean.specs.Laws.Sizes.{ArgumentsFit, CallReplyFits, FoundReplyFits, ReplyFits, member_of_id, words_of_formal, words_of_result}
use Rattle.mpl_mean.specs.Laws.Sizes as sizes
use Rattle.mpl_mean.specs.Meaning.CallMeaning as mean
use Rattle.mpl_mean.specs.Meaning.Layout.{Class, Member}
use Rattle.mpl_mean.specs.Meaning.Store.{Store, Outcome, Goes, Ends, Step, ◌>>=◌, ◌>>◌, and_then, pure, spend}
use Rattle.mdf_code.specs.Frames.{Flow, Frame, Next}
use Rattle.mdf_code.specs.Frames as frames
use Rattle.mdf_code.specs.Parts.{class_is_regular, result_words}
use Rattle.mdf_code.specs.Sizes.{ArgFits, ResultFits}
use Rattle.mdf_code.specs.Steps.{or_strays, sizes_agree, values_of}
use Rattle.mdf_code.specs.Steps as steps
use Rattle.mdf_code.specs.Yields.{Body, Ended, answer, answered, around, called_in_place, calls, ends, exec, found_regular, in_place, made, member_is_regular, persistent_call, regular_call, reply_to, spends, unless_trap, unless_trapped, with_frame, words_of_member}
use Rattle.mdf_code.specs.Yields as yields
use Rattle.mdf_code.specs.declared.instr.Instr.{Instr}
use Rattle.mdf_code.specs.declared.raw.RawImage.{RawImage}
use Rattle.mpl_checked.specs.Checked.CheckedSteps.{CheckedStep, Meant, goes_on}
use Rattle.mpl_gen_code.specs.ProgramImage.{member_image, result_image}
use Rattle.mpl_gen_code.proofs.Instructions.{At, Is, point}
use Rattle.mpl_gen_code.proofs.Popping.{if_true}
use Rattle.mpl_gen_code.proofs.Reaching.{Acts, Arrives, Comes, Point, Run, body_at, frame_at, performing}

-- ---- the member of an image

-- the image has the code of a member, and the kind of its class
pub record MemberStands (image : RawImage) (ds : List Declaration) (marks : ℕ → Bool) (class : Class) (m : Member) : Type 0 where
  pub stands : slice_get image.members m.id ≡ Some (member_image ds marks class m)
  pub class_is : class_is_regular (slice_get image.classes class.number) ≡ Some class.is_regular

pub result_same : (ds : List Declaration) (r : ResultType) → result_words (result_image ds r) ≡ words_of_result ds r
result_same ds (Void at) = refl
result_same ds (Typed at type) = refl

pub words_same : (image : RawImage) (ds : List Declaration) (marks : ℕ → Bool) (class : Class) (m : Member) → MemberStands image ds marks class m
    → yields.words_of_result image m.id ≡ words_of_result ds m.result
words_same image ds marks class m is = ap words_of_member is.stands ∙ result_same ds m.result

pub regular_same : (image : RawImage) (ds : List Declaration) (marks : ℕ → Bool) (class : Class) (m : Member) → MemberStands image ds marks class m
    → member_is_regular image m.id ≡ class.is_regular
regular_same image ds marks class m is = ap (found_regular image) is.stands ∙ ap (λ (o : Option Bool). unwrap_or o false) is.class_is

-- ---- arguments

-- a flow value for each formal
abbrev pub flows_for : List Declaration → List Formal → List Arg → List (Flow Arg)
flows_for ds [] args = []
flows_for ds (formal ∷ formals) [] = []
flows_for ds (formal ∷ formals) (a ∷ args) = record { value = a; words = words_of_formal ds formal } ∷ flows_for ds formals args

pub values_for : (ds : List Declaration) (formals : List Formal) (args : List Arg) → ArgumentsFit ds formals args → values_of (flows_for ds formals args) ≡ args
values_for ds [] [] fit = refl
values_for ds [] (a ∷ args) fit = absurd fit
values_for ds (formal ∷ formals) [] fit = absurd fit
values_for ds (formal ∷ formals) (a ∷ args) fit = ap (λ others. a ∷ others) (values_for ds formals args fit.1)

pub many_for : (ds : List Declaration) (formals : List Formal) (args : List Arg) → ArgumentsFit ds formals args → length (flows_for ds formals args) ≡ length formals
many_for ds [] [] fit = refl
many_for ds [] (a ∷ args) fit = absurd fit
many_for ds (formal ∷ formals) [] fit = absurd fit
many_for ds (formal ∷ formals) (a ∷ args) fit = ap suc (many_for ds formals args fit.1)

pub agree_for : (ds : List Declaration) (formals : List Formal) (args : List Arg) → ArgumentsFit ds formals args → sizes_agree (map (words_of_formal ds) formals) (flows_for ds formals args) ≡ true
agree_for ds [] [] fit = refl
agree_for ds [] (a ∷ args) fit = absurd fit
agree_for ds (formal ∷ formals) [] fit = absurd fit
agree_for ds (formal ∷ formals) (a ∷ args) fit =
    if_true _ false (eq-eqb (words_of_formal ds formal) (words_of_formal ds formal) refl) ∙ agree_for ds formals args fit.1

pub known_have : (ds : List Declaration) (formals : List Formal) (args : List Arg) → ArgumentsFit ds formals args → any_unknown args ≡ false → leftmost_trap args ≡ None
    → ArgumentsHaveWords ds formals (known_words args)
known_have ds [] [] fit known untrapped = tt
known_have ds [] (a ∷ args) fit known untrapped = absurd fit
known_have ds (formal ∷ formals) [] fit known untrapped = absurd fit
known_have ds (formal ∷ formals) (arg.Know words ∷ args) fit known untrapped = (fit.0, known_have ds formals args fit.1 known untrapped)
known_have ds (formal ∷ formals) (arg.Trapped t ∷ args) fit known untrapped = absurd cc
known_have ds (formal ∷ formals) (arg.Unknown ∷ args) fit known untrapped = absurd cc

-- ---- answers

-- what answers a call with these arguments, where this is known of it
pub answer_is : (args : List Arg) (a : Arg) (s : Store) → mean.answer args (pure a) s ≡ Goes (answer args a) s
answer_is args a s = by_test (any_unknown args) where
  by_trap : (t : Option Trap) → mean.unless_trapped t (pure a) s ≡ Goes (unless_trap a t) s
  by_trap None = refl
  by_trap (Some t) = refl

  by_test : (b : Bool) → (if b then pure arg.Unknown else mean.unless_trapped (leftmost_trap args) (pure a)) s ≡ Goes (if b then arg.Unknown else unless_trap a (leftmost_trap args)) s
  by_test true = refl
  by_test false = by_trap (leftmost_trap args)

pub answer_fits : (words : ℕ) (args : List Arg) (a : Arg) → ArgFits words a → ArgFits words (answer args a)
answer_fits words args a fit = by_test (any_unknown args) where
  by_trap : (t : Option Trap) → ArgFits words (unless_trap a t)
  by_trap None = fit
  by_trap (Some t) = tt

  by_test : (b : Bool) → ArgFits words (if b then arg.Unknown else unless_trap a (leftmost_trap args))
  by_test true = tt
  by_test false = by_trap (leftmost_trap args)

pub reply_fits : (words : ℕ) (reply : Option Known) → ReplyFits words reply → ArgFits words (arg_of_reply reply)
reply_fits words None fit = tt
reply_fits words (Some (known.Value value)) fit = fit
reply_fits words (Some (known.Trapped t)) fit = tt

pub last_is : {A : Type 0} (P : A → Type 0) (xs : List A) (x : A) → sizes.Every P (xs ++ x ∷ []) → P x
last_is P [] x h = h.0
last_is P (y ∷ xs) x h = last_is P xs x h.1

pub meant_then : {A B : Type 0} (o : Outcome A) (h : A → Step B) → Meant (and_then o h) ≡ goes_on (Meant o) (λ a s. Meant (h a s))
meant_then (Goes a s) h = refl
meant_then (Rattle.mpl_mean.specs.Meaning.Store.Returns words s) h = refl
meant_then (Ends x s) h = refl

module _ (K : Run) where
  abbrev pub turned : Store → Store
  turned s = record s { turns = s.turns + 1 }

  -- what is left to do behind a stop for a call comes to where it is to come
  abbrev pub Comes_by : (ℕ → Option Ended) → Type 0
  Comes_by run = (fuel : ℕ) × (e : Ended) × (run fuel ≡ Some e) × Arrives K.whole.outer K.whole.final e

  pub stops_for : (p : ℕ) (ws : List ℤ) (fs : List (Flow Arg)) (vs : List Arg) (s : Store) (i : Instr) (member : ℕ) (object : ℤ) (args : List Arg) (q : ℕ) (xs : List ℤ) (gs : List (Flow Arg)) → Is K p i
      → steps.does in_place (around K.whole.setting) i (frame_at (point K p ws fs vs) s) ≡ Some (frames.Stops (frames.Calls member object args) (frame_at (point K q xs gs vs) s))
      → ((sent : ℕ) → Comes_by (λ fuel. spends K.whole.setting (body_at (point K q xs gs vs) sent s) (calls (exec fuel) K.whole.setting member object args)))
      → At K p ws fs vs s
  stops_for p ws fs vs s i member object args q xs gs is e h sent =
      performing K.whole (body_at (point K p ws fs vs) sent s) i is
      (subst (λ (o : Option (Next Arg)). Acts K.whole (body_at (point K p ws fs vs) sent s) (or_strays (frame_at (point K p ws fs vs) s) o)) (sym e) (h sent))

  -- what holds of a store, whatever the scope
  pub record Bounded (s : Store) : Type 0 where
    pub low : K.low ≤ s.turns
    pub within : s.turns ≤ K.whole.setting.turns
    pub result : ResultFits K.whole.given s.result

  pub spends_comes : {B : Type 0} (Q : B → Store → Type 0) (at : Point) (sent : ℕ) (s : Store) (rest : CheckedStep B) (next : ℕ → Body → Option Ended) → Bounded s
      → (Bounded (turned s) → Comes K Q (rest (turned s)) → Comes_by (λ fuel. next fuel (body_at at sent (turned s))))
      → Comes K Q (goes_on (Meant (spend K.whole.setting.turns s)) (λ _. rest)) → Comes_by (λ fuel. spends K.whole.setting (body_at at sent s) (next fuel))
  spends_comes {B} Q at sent s rest next bounded f h = by_turns (nat_lt s.turns K.whole.setting.turns) refl h where
    by_turns : (b : Bool) → nat_lt s.turns K.whole.setting.turns ≡ b
        → Comes K Q (goes_on {A = Unit {0}} {B = B} (Meant (if b then Goes tt (turned s) else Ends end.Spent (turned s))) (λ _. rest))
        → Comes_by (λ fuel. if b then next fuel (body_at at sent (turned s)) else ends end.Spent (body_at at sent (turned s)))
    by_turns true is h =
        let below : s.turns < K.whole.setting.turns = ltb-true s.turns K.whole.setting.turns is in
        let low = bounded.low in
        f (record { low = omega arith; within = omega arith; result = bounded.result }) h
    by_turns false is h =
        let low = bounded.low in
        (0, _, refl, h (record { low = omega arith; within = λ other. absurd (other refl); result = bounded.result }) at sent)
