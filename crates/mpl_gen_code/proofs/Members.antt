-- Calls of members: on a persistent object with its reply, and on a regular class in place.
use Rattle.std.proofs.Common.{◌≡◌, ◌≤◌, ℕ, ◌+◌, ◌==◌, Bool, true, false, List, [], ◌∷◌, ◌++◌, length, Option, Some, None, if◌then◌else◌, ℤ, pos, refl, ap, sym, subst, ap₂, ◌∙◌}
use Rattle.std.proofs.lemmas.Bool.{eq-eqb}
use Rattle.std.specs.FinMap.{FinMap, get}
use Rattle.std.specs.List.{slice_get}
use Rattle.std.specs.Ordering.{nat_cmp}
use Rattle.mpl_ast.specs.declared.program.Declaration.{Declaration}
use Rattle.mpl_value.specs.CallAnswers.{any_unknown, arg_of_reply, known_words, leftmost_trap}
use Rattle.mpl_value.specs.declared.body.Arg.{Arg}
use Rattle.mpl_value.specs.declared.body.Arg.TheVariants as arg
use Rattle.mpl_value.specs.declared.known.Known.{Known}
use Rattle.mpl_value.specs.declared.known.Trap.{Trap}
use Rattle.mpl_mean.specs.Laws.Sizes.{ArgumentsFit, CallReplyFits, FoundReplyFits, member_of_id, words_of_result}
use Rattle.mpl_mean.specs.Meaning.CallMeaning as mean
use Rattle.mpl_mean.specs.Meaning.Layout.{Class, Member}
use Rattle.mpl_mean.specs.Meaning.Store.{Store, Outcome, Goes, Returns, Ends, ◌>>=◌, and_then, pure, spend}
use Rattle.mdf_code.specs.Frames.{Flow, Frame, Next}
use Rattle.mdf_code.specs.Frames as frames
use Rattle.mdf_code.specs.Parts.{is_regular, may_post, may_send, sizes_of_formals}
use Rattle.mdf_code.specs.Sizes.{ArgFits}
use Rattle.mdf_code.specs.Stacks.{popped_all, pushed}
use Rattle.mdf_code.specs.Steps.{or_strays, sizes_agree, values_of}
use Rattle.mdf_code.specs.Steps as steps
use Rattle.mdf_code.specs.Yields.{Body, Ended, answer, answered, around, called_in_place, calls, ends, exec, found_regular, in_place, made, member_is_regular, persistent_call, regular_call, reply_to, spends, unless_trap, unless_trapped, with_frame, words_of_member}
use Rattle.mdf_code.specs.Yields as yields
use Rattle.mdf_code.specs.declared.instr.Instr.TheVariants as instr
use Rattle.mdf_code.specs.declared.raw.RawMember.{RawMember}
use Rattle.mpl_checked.specs.Checked.CheckedExpressions.{checked_answer, checked_unless_trapped}
use Rattle.mpl_checked.specs.Checked.CheckedSteps.{Checked, CheckedCallees, CheckedStep, Meant, Astray, goes_on, meant}
use Rattle.mpl_gen_code.specs.Fits.{MemberIs}
use Rattle.mpl_gen_code.specs.ProgramImage.{member_env}
use Rattle.mpl_gen_code.specs.Scopes.{Env}
use Rattle.mpl_mean.specs.Plain.Stmt.{stmts_of}
use Rattle.mpl_mean.specs.Meaning.Layout.{words_of_parts}
use Rattle.mpl_gen_code.specs.ProgramImage.{member_image}
use Rattle.mpl_gen_code.proofs.Adding.{Promised, Within}
use Rattle.mpl_gen_code.proofs.Below.{Below}
use Rattle.mpl_gen_code.proofs.Calling.{Bounded, Comes_by, MemberStands, agree_for, answer_fits, answer_is, flows_for, known_have, last_is, many_for, meant_then, regular_same, reply_fits, spends_comes, stops_for, turned, values_for, words_same}
use Rattle.mpl_gen_code.proofs.Fronts.{formals_first}
use Rattle.mpl_gen_code.proofs.Instructions.{At, Is, point}
use Rattle.mpl_gen_code.proofs.Popping.{given_is, if_false, if_true, popped_pushed, true_is}
use Rattle.mpl_gen_code.proofs.Reaching.{Comes, Keeping, Keeps, Run, body_at, comes_map, frame_at}
use Rattle.mpl_gen_code.proofs.Scoped.{Replied, Stands}

-- what comes of an outcome, with what is promised of the calls
abbrev pub Meets : {A : Type 0} → Run → List Declaration → (A → Store → Type 0) → Checked (Outcome A) → Type 0
Meets K ds Q o = Within ds K.whole.vowed o × Comes K Q o

pub meets_both : {A : Type 0} (K : Run) (ds : List Declaration) (Q : A → Store → Type 0) (o : Checked (Outcome A)) → Meets K ds Q o → Comes K (λ a s. Promised ds K.whole.vowed s.calls × Q a s) o
meets_both K ds Q (Meant (Goes a s)) m = m
meets_both K ds Q (Meant (Returns words s)) m = m.1
meets_both K ds Q (Meant (Ends e s)) m = m.1
meets_both K ds Q Astray m = m.1

module _ (K : Run) (keeping : Keeping) (env : Env) (vs : List Arg) where
  abbrev ds : List Declaration
  ds = env.declarations

  abbrev S : Store → Type 0
  S s = Stands K keeping env vs s

  -- a flow value of so many words is on top at a place
  abbrev pub ItemAt : ℕ → List ℤ → List (Flow Arg) → ℕ → Arg → Store → Type 0
  ItemAt q ws fs words a s = S s → ArgFits words a → At K q ws (record { value = a; words = words } ∷ fs) vs s

  pub bounded : {s : Store} → S s → Bounded K s
  bounded stands = record { low = stands.low; within = stands.within; result = stands.result }

  formals_agree : (class : Class) (m : Member) (args : List Arg) → ArgumentsFit ds m.formals args → sizes_agree (sizes_of_formals (member_image ds env.marks class m)) (flows_for ds m.formals args) ≡ true
  formals_agree class m args fit =
      ap (λ (sizes : List ℕ). sizes_agree sizes (flows_for ds m.formals args)) (formals_first ds m.formals (stmts_of m.body) (member_env ds env.marks class m) refl)
      ∙ agree_for ds m.formals args fit

  -- ---- on a persistent object

  pub post_follows : (class : Class) (m : Member) → MemberIs ds class m → MemberStands K.whole.setting.image ds env.marks class m → class.is_regular ≡ false
      → may_post K.whole.setting.image K.here.code ≡ true → K.whole.vowed ≡ K.whole.table → K.whole.setting.answers ≡ None → Replied K
      → (p q : ℕ) (ws : List ℤ) (fs : List (Flow Arg)) (s : Store) (object : ℤ) (args : List Arg) (count : ℕ) → length m.formals ≡ count → ArgumentsFit ds m.formals args
      → Is K p (instr.Post m.id count) → p + 1 ≡ q → S s
      → Meets K ds (ItemAt q ws fs (words_of_result ds m.result))
      (Meant (and_then (spend K.whole.setting.turns s) (λ _. mean.made object m.id args >>= (λ k. mean.answer args (pure (arg_of_reply (get K.whole.table k)))))))
      → At K p (object ∷ ws) (pushed (flows_for ds m.formals args) fs) vs s
  post_follows class m is stands_in persistent may vow in_place_too replied p q ws fs s object args count long fit stands_at there stands h =
      stops_for K p (object ∷ ws) (pushed flows fs) vs s (instr.Post m.id count) m.id object args (p + 1) ws fs stands_at stepped
      (λ sent. spends_comes K (λ a t. Promised ds K.whole.vowed t.calls × ItemAt q ws fs (words_of_result ds m.result) a t) (point K (p + 1) ws fs vs) sent s rest
      (λ fuel. calls (exec fuel) K.whole.setting m.id object args) (bounded stands) (λ now c. replies sent now c)
      (subst (Comes K (λ a t. Promised ds K.whole.vowed t.calls × ItemAt q ws fs (words_of_result ds m.result) a t)) (meant_then (spend K.whole.setting.turns s) _)
      (meets_both K ds (ItemAt q ws fs (words_of_result ds m.result)) (Meant (and_then (spend K.whole.setting.turns s) (λ _. mean.made object m.id args >>= (λ k. mean.answer args (pure (reply k)))))) h))) where
        flows : List (Flow Arg)
        flows = flows_for ds m.formals args

        member : RawMember
        member = member_image ds env.marks class m

        reply : ℕ → Arg
        reply k = arg_of_reply (get K.whole.table k)

        rest : CheckedStep Arg
        rest t = Meant ((mean.made object m.id args >>= (λ k. mean.answer args (pure (reply k)))) t)

        stepped : steps.does in_place (around K.whole.setting) (instr.Post m.id count) (frame_at (point K p (object ∷ ws) (pushed flows fs) vs) s)
            ≡ Some (frames.Stops (frames.Calls m.id object args) (frame_at (point K (p + 1) ws fs vs) s))
        stepped =
            true_is (may_post K.whole.setting.image K.here.code) _ may
            ∙ given_is (slice_get K.whole.setting.image.members m.id) member _ stands_in.stands
            ∙ given_is (is_regular K.whole.setting.image member) false _ (stands_in.class_is ∙ ap Some persistent)
            ∙ true_is (length m.formals == count) _ (eq-eqb (length m.formals) count long)
            ∙ given_is (popped_all (length m.formals) (pushed flows fs)) _ _ (popped_pushed flows fs (length m.formals) (many_for ds m.formals args fit))
            ∙ true_is (sizes_agree (sizes_of_formals member) flows) _ (formals_agree class m args fit)
            ∙ ap (λ (values : List Arg). Some (frames.Stops (frames.Calls m.id object values) (frame_at (point K (p + 1) ws fs vs) s))) (values_for ds m.formals args fit)

        called : Store
        called = record s { turns = s.turns + 1; calls = s.calls ++ record { call = length s.calls + 1; object = object; member = record { 0 = m.id }; args = args } ∷ [] }

        replies : (sent : ℕ) → Bounded K (turned K s) → Comes K (λ a t. Promised ds K.whole.vowed t.calls × ItemAt q ws fs (words_of_result ds m.result) a t) (rest (turned K s))
            → Comes_by K (λ fuel. calls (exec fuel) K.whole.setting m.id object args (body_at (point K (p + 1) ws fs vs) sent (turned K s)))
        replies sent now c =
            let d = subst (λ (o : Outcome Arg). Comes K (λ a t. Promised ds K.whole.vowed t.calls × ItemAt q ws fs (words_of_result ds m.result) a t) (Meant o)) (answer_is args (reply (length s.calls + 1)) called) c in
            let of_reply : FoundReplyFits ds (get K.whole.table (length s.calls + 1)) (member_of_id ds (record { 0 = m.id })) =
            subst (λ (table : FinMap nat_cmp Known). FoundReplyFits ds (get table (length s.calls + 1)) (member_of_id ds (record { 0 = m.id }))) vow (last_is (CallReplyFits ds K.whole.vowed) s.calls _ d.0) in
            let fits = answer_fits (words_of_result ds m.result) args (reply (length s.calls + 1))
            (reply_fits (words_of_result ds m.result) (get K.whole.table (length s.calls + 1)) (subst (FoundReplyFits ds (get K.whole.table (length s.calls + 1))) is.found of_reply)) in
            let stands_then : S called = record { agree = stands.agree; sized = stands.sized; keeps = stands.keeps; long = stands.long; low = now.low; within = now.within; result = stands.result } in
            let r = subst (λ n. At K n ws (record { value = answer args (reply (length s.calls + 1)); words = words_of_result ds m.result } ∷ fs) vs called) (sym there) (d.1 stands_then fits) (sent + 1) in
            (r.0, r.1, if_false _ _ (regular_same K.whole.setting.image ds env.marks class m stands_in ∙ persistent) ∙ same r.0 ∙ r.2, r.3) where
              -- the body that goes on with a value of so many words
              going : ℕ → ℕ → Arg → Option Ended
              going fuel words value = exec fuel K.whole.setting (body_at (point K (p + 1) ws (record { value = value; words = words } ∷ fs) vs) (sent + 1) called)

              same : (fuel : ℕ) → persistent_call (exec fuel) K.whole.setting m.id object args (body_at (point K (p + 1) ws fs vs) (sent + 1) (turned K s))
                  ≡ going fuel (words_of_result ds m.result) (answer args (reply (length s.calls + 1)))
              same fuel =
                  ap₂ (going fuel) (words_same K.whole.setting.image ds env.marks class m stands_in)
                  (ap (reply_to args K.whole.setting.replies (body_at (point K (p + 1) ws fs vs) (sent + 1) (turned K s))) in_place_too ∙ ap (answer args) (replied (length s.calls + 1)))

  -- ---- on a regular class

  pub send_follows : (callees : CheckedCallees) (base : ℕ) → Below K.whole ds callees base → base ≤ K.low
      → (class : Class) (m : Member) → MemberIs ds class m → MemberStands K.whole.setting.image ds env.marks class m → class.is_regular ≡ true
      → may_send K.here.code ≡ true → K.whole.setting.answers ≡ None
      → (p q : ℕ) (ws : List ℤ) (fs : List (Flow Arg)) (s : Store) (args : List Arg) (count : ℕ) → length m.formals ≡ count → ArgumentsFit ds m.formals args
      → Is K p (instr.Send m.id count) → p + 1 ≡ q → S s
      → Comes K (ItemAt q ws fs (words_of_result ds m.result))
      (goes_on (Meant (spend K.whole.setting.turns s)) (λ _. checked_answer args (callees.regular m (known_words args))))
      → At K p ws (pushed (flows_for ds m.formals args) fs) vs s
  send_follows callees base below above class m is stands_in regular may in_place_too p q ws fs s args count long fit stands_at there stands h =
      stops_for K p ws (pushed flows fs) vs s (instr.Send m.id count) m.id (pos 0) args (p + 1) ws fs stands_at stepped
      (λ sent. spends_comes K (ItemAt q ws fs (words_of_result ds m.result)) (point K (p + 1) ws fs vs) sent s (checked_answer args (callees.regular m (known_words args)))
      (λ fuel. calls (exec fuel) K.whole.setting m.id (pos 0) args) (bounded stands) (λ now c. answers sent now (any_unknown args) refl c) h) where
        flows : List (Flow Arg)
        flows = flows_for ds m.formals args

        member : RawMember
        member = member_image ds env.marks class m

        stepped : steps.does in_place (around K.whole.setting) (instr.Send m.id count) (frame_at (point K p ws (pushed flows fs) vs) s)
            ≡ Some (frames.Stops (frames.Calls m.id (pos 0) args) (frame_at (point K (p + 1) ws fs vs) s))
        stepped =
            true_is (may_send K.here.code) _ may
            ∙ given_is (slice_get K.whole.setting.image.members m.id) member _ stands_in.stands
            ∙ given_is (is_regular K.whole.setting.image member) true _ (stands_in.class_is ∙ ap Some regular)
            ∙ true_is (length m.formals == count) _ (eq-eqb (length m.formals) count long)
            ∙ given_is (popped_all (length m.formals) (pushed flows fs)) _ _ (popped_pushed flows fs (length m.formals) (many_for ds m.formals args fit))
            ∙ true_is (sizes_agree (sizes_of_formals member) flows) _ (formals_agree class m args fit)
            ∙ ap (λ (values : List Arg). Some (frames.Stops (frames.Calls m.id (pos 0) values) (frame_at (point K (p + 1) ws fs vs) s))) (values_for ds m.formals args fit)

        now_stands : Bounded K (turned K s) → S (turned K s)
        now_stands now = record { agree = stands.agree; sized = stands.sized; keeps = stands.keeps; long = stands.long; low = now.low; within = now.within; result = stands.result }

        called : ℕ → Body
        called sent = body_at (point K (p + 1) ws fs vs) (sent + 1) (turned K s)

        -- the body that goes on with a value of so many words
        going : ℕ → ℕ → Arg → ℕ → Option Ended
        going sent fuel value words = exec fuel K.whole.setting (body_at (point K (p + 1) ws (record { value = value; words = words } ∷ fs) vs) (sent + 1) (turned K s))

        chosen : (fuel sent : ℕ) → calls (exec fuel) K.whole.setting m.id (pos 0) args (body_at (point K (p + 1) ws fs vs) sent (turned K s))
            ≡ regular_call (exec fuel) K.whole.setting m.id args None (called sent)
        chosen fuel sent =
            if_true _ _ (regular_same K.whole.setting.image ds env.marks class m stands_in ∙ regular)
            ∙ ap (λ (o : Option (ℕ → Arg)). regular_call (exec fuel) K.whole.setting m.id args o (called sent)) in_place_too

        -- with a value that no body gave
        with_value : (sent : ℕ) (value : Arg) → S (turned K s) → ArgFits (words_of_result ds m.result) value → ItemAt q ws fs (words_of_result ds m.result) value (turned K s)
            → Comes_by K (λ fuel. going sent fuel value (yields.words_of_result K.whole.setting.image m.id))
        with_value sent value stands_then fits d =
            let r = subst (λ n. At K n ws (record { value = value; words = words_of_result ds m.result } ∷ fs) vs (turned K s)) (sym there) (d stands_then fits) (sent + 1) in
            (r.0, r.1, ap (going sent r.0 value) (words_same K.whole.setting.image ds env.marks class m stands_in) ∙ r.2, r.3)

        by_trap : (sent : ℕ) → Bounded K (turned K s) → any_unknown args ≡ false → (t : Option Trap) → leftmost_trap args ≡ t
            → Comes K (ItemAt q ws fs (words_of_result ds m.result)) (checked_unless_trapped t (callees.regular m (known_words args)) (turned K s))
            → Comes_by K (λ fuel. unless_trapped (exec fuel) K.whole.setting m.id (called sent) t (called_in_place (exec fuel) K.whole.setting m.id (known_words args) (called sent)))
        by_trap sent now known None e c =
            below.regular K.low above K.here class m is regular (known_words args) (known_have ds m.formals args fit known e) (p + 1) ws fs vs (turned K s) now.low now.within now.result
            (comes_map K (callees.regular m (known_words args) (turned K s)) (λ a t d same state result low within fits.
            subst (λ n. At K n ws (record { value = a; words = words_of_result ds m.result } ∷ fs) vs t) (sym there)
            (d (record {
              agree = same ∙ stands.agree;
              sized = stands.sized;
              keeps = subst (Keeps keeping) (sym state) stands.keeps;
              long = subst (λ (st : List ℤ). words_of_parts env.parts ≤ length st) (sym state) stands.long;
              low = low;
              within = within;
              result = result;
            }) fits)) c) (sent + 1)
        by_trap sent now known (Some t) e c = with_value sent (arg.Trapped t) (now_stands now) tt c

        answers : (sent : ℕ) → Bounded K (turned K s) → (b : Bool) → any_unknown args ≡ b
            → Comes K (ItemAt q ws fs (words_of_result ds m.result)) (checked_answer args (callees.regular m (known_words args)) (turned K s))
            → Comes_by K (λ fuel. calls (exec fuel) K.whole.setting m.id (pos 0) args (body_at (point K (p + 1) ws fs vs) sent (turned K s)))
        answers sent now true e c =
            let d : Comes K (ItemAt q ws fs (words_of_result ds m.result)) (Meant (Goes arg.Unknown (turned K s))) =
            subst (λ b. Comes K (ItemAt q ws fs (words_of_result ds m.result)) ((if b then meant (pure arg.Unknown) else checked_unless_trapped (leftmost_trap args) (callees.regular m (known_words args))) (turned K s))) e c in
            let r = with_value sent arg.Unknown (now_stands now) tt d in
            (r.0, r.1, chosen r.0 sent ∙ if_true _ _ e ∙ r.2, r.3)
        answers sent now false e c =
            let r = by_trap sent now e (leftmost_trap args) refl
            (subst (λ b. Comes K (ItemAt q ws fs (words_of_result ds m.result)) ((if b then meant (pure arg.Unknown) else checked_unless_trapped (leftmost_trap args) (callees.regular m (known_words args))) (turned K s))) e c) in
            (r.0, r.1, chosen r.0 sent ∙ if_false _ _ e ∙ r.2, r.3)
