-- A regular member that is called in place does what it means, if what it calls does.
use Rattle.std.proofs.Common.{◌≡◌, ◌≢◌, ◌≤◌, ℕ, zero, suc, ◌+◌, Bool, true, false, not, List, [], ◌∷◌, length, map, take, drop, flat_map, sum, Option, Some, None, if◌then◌else◌, ℤ, pos, inl, refl, ap, ap₂, sym, subst, arith, ◌∙◌}
use Rattle.std.proofs.lemmas.Bool.{le-ltb, lt-ltb}
use Rattle.std.specs.FinMap.{empty}
use Rattle.std.specs.Option.{option_map}
use Rattle.std.specs.Prelude.{nat_lt}
use Rattle.mpl_ast.specs.declared.class.ResultType.{ResultType}
use Rattle.mpl_ast.specs.declared.class.ResultType.TheVariants.{Void, Typed}
use Rattle.mpl_ast.specs.declared.program.Declaration.{Declaration}
use Rattle.mpl_value.specs.CallAnswers.{arg_of_result}
use Rattle.mpl_value.specs.Results.{result_at}
use Rattle.mpl_value.specs.Words.{zeros}
use Rattle.mpl_value.specs.declared.body.Arg.{Arg}
use Rattle.mpl_value.specs.declared.body.Arg.TheVariants.{Know}
use Rattle.mpl_value.specs.declared.body.BodyEnd.{BodyEnd}
use Rattle.mpl_value.specs.declared.body.BodyEnd.TheVariants as end
use Rattle.mpl_value.specs.declared.body.BodyResult.{BodyResult}
use Rattle.mpl_value.specs.declared.body.BodyResult.TheVariants as result
use Rattle.mpl_value.specs.declared.body.MemberId.{MemberId}
use Rattle.mpl_value.specs.declared.known.Known.TheVariants as known
use Rattle.mpl_mean.specs.Laws.InPlace.{ArgumentsHaveWords}
use Rattle.mpl_mean.specs.Laws.Sizes.{words_of_formal, words_of_result}
use Rattle.mpl_mean.specs.Meaning.BodyMeaning.{callees_at, formals_holding, result_at_end, store_with}
use Rattle.mpl_mean.specs.Meaning.Context.{Context}
use Rattle.mpl_mean.specs.Meaning.Layout.{Class, Member, parts_of}
use Rattle.mpl_mean.specs.Meaning.Store.{Store, Outcome, Goes, Returns, Ends, and_then, stop}
use Rattle.mpl_mean.specs.Plain.Stmt.{Stmts, stmts_of}
use Rattle.mdf_code.specs.Frames.{Flow, InMember}
use Rattle.mdf_code.specs.Parts.{sizes_at, sizes_of, text_at, text_of, variables_holding}
use Rattle.mdf_code.specs.Sizes.{ArgFits, ResultFits}
use Rattle.mdf_code.specs.Stacks.{given}
use Rattle.mdf_code.specs.Yields.{Body, Ended, Setting, called_in_place, comes_back, comes_back_at, exec, formals_at, formals_of, missed_at, missed_by, or_missed, regular_setting, regular_start, result_at_trap, spends, start_body}
use Rattle.mdf_code.specs.Yields as yields
use Rattle.mdf_code.specs.declared.raw.RawMember.{RawMember}
use Rattle.mdf_code.proofs.FittingValues.{held_fit}
use Rattle.mdf_code.proofs.MoreSteps.{exec_kept}
use Rattle.mpl_checked.specs.Checked.CheckedBodies.{after_member, checked_callees_at, checked_run}
use Rattle.mpl_checked.specs.Checked.CheckedStatements.{checked_each}
use Rattle.mpl_checked.specs.Checked.CheckedSteps.{Checked, Meant, Astray, CheckedStep, Checking, checked_in_turn, goes_on, unless_astray}
use Rattle.mpl_gen_code.specs.Fits.{MemberIs, StmtsFit, member_may}
use Rattle.mpl_gen_code.specs.ProgramImage.{member_env, member_image, result_image}
use Rattle.mpl_gen_code.specs.Scopes.{Env, OfBody, formals_from}
use Rattle.mpl_gen_code.specs.StatementCode.{behind_all, body_code}
use Rattle.mpl_gen_code.proofs.AddingCallees.{plain_adds, regular_adds}
use Rattle.mpl_gen_code.specs.ProgramFits.{ProgramFits}
use Rattle.mpl_gen_code.proofs.Below.{Below}
use Rattle.mpl_gen_code.proofs.Bodies.{Finished, IsBody, body_follows, within_none}
use Rattle.mpl_gen_code.proofs.Calling.{Bounded, Comes_by, MemberStands, spends_comes, words_same}
use Rattle.mpl_gen_code.proofs.Compiled.{Compiled}
use Rattle.mpl_gen_code.proofs.Fronts.{formals_first}
use Rattle.mpl_gen_code.proofs.Instructions.{At as Reached, point}
use Rattle.mpl_gen_code.proofs.Raising.{raised}
use Rattle.mpl_gen_code.proofs.Reaching.{Arrives, Comes, Halted, Here, IsDone, Kept, Run, Sized, Stopped, Whole, body_at, comes_map, run_of, stopped}
use Rattle.mpl_gen_code.proofs.Scoped.{Allowed, Stands, context_of, variables_of}
use Rattle.mpl_gen_code.proofs.Starting.{formals_held, formals_well, joined_long, many_have, split_joined, start_variables}

-- ---- results

-- a result that a body ends with is the one of its code
pub end_same : (ds : List Declaration) (line : ℕ) (r : ResultType) (given : BodyResult) → result_at_end r line given ≡ or_missed (yields.missed line (result_image ds r)) given
end_same ds line (Void at) result.Open = refl
end_same ds line (Void at) (result.Known known) = refl
end_same ds line (Void at) result.Unknown = refl
end_same ds line (Typed at type) result.Open = refl
end_same ds line (Typed at type) (result.Known known) = refl
end_same ds line (Typed at type) result.Unknown = refl

pub stop_same : (member : MemberId) (e : BodyEnd) (given : BodyResult) → result_at e given ≡ stopped (Some member) e given
stop_same member (end.Trap t) given = refl
stop_same member end.Done result.Open = refl
stop_same member end.Done (result.Known known) = refl
stop_same member end.Done result.Unknown = refl
stop_same member end.Waits result.Open = refl
stop_same member end.Waits (result.Known known) = refl
stop_same member end.Waits result.Unknown = refl
stop_same member end.Spent result.Open = refl
stop_same member end.Spent (result.Known known) = refl
stop_same member end.Spent result.Unknown = refl

result_arg : (words : ℕ) (given : BodyResult) → ResultFits (Some words) given → ArgFits words (arg_of_result given)
result_arg words result.Open fit = tt
result_arg words (result.Known (known.Value value)) fit = fit
result_arg words (result.Known (known.Trapped t)) fit = tt
result_arg words result.Unknown fit = tt

end_fits : (ds : List Declaration) (line : ℕ) (r : ResultType) (given : BodyResult) → ResultFits (Some (words_of_result ds r)) given → ResultFits (Some (words_of_result ds r)) (result_at_end r line given)
end_fits ds line (Void at) result.Open fit = refl
end_fits ds line (Void at) (result.Known known) fit = fit
end_fits ds line (Void at) result.Unknown fit = tt
end_fits ds line (Typed at type) result.Open fit = tt
end_fits ds line (Typed at type) (result.Known known) fit = fit
end_fits ds line (Typed at type) result.Unknown fit = tt

stop_fits : (words : ℕ) (e : BodyEnd) (given : BodyResult) → ResultFits (Some words) given → ResultFits (Some words) (result_at e given)
stop_fits words (end.Trap t) result.Open fit = tt
stop_fits words (end.Trap t) (result.Known known) fit = fit
stop_fits words (end.Trap t) result.Unknown fit = tt
stop_fits words end.Done result.Open fit = tt
stop_fits words end.Done (result.Known known) fit = fit
stop_fits words end.Done result.Unknown fit = tt
stop_fits words end.Waits result.Open fit = tt
stop_fits words end.Waits (result.Known known) fit = fit
stop_fits words end.Waits result.Unknown fit = tt
stop_fits words end.Spent result.Open fit = tt
stop_fits words end.Spent (result.Known known) fit = fit
stop_fits words end.Spent result.Unknown fit = tt

words_result : (ds : List Declaration) (r : ResultType) (n : ℕ) → result_image ds r ≡ Some n → words_of_result ds r ≡ n
words_result ds (Void at) n e = absurd cc
words_result ds (Typed at type) n e = cc

-- ---- more steps

spends_longer : (s t : Setting) (b : Body) (e : Ended) (k l : ℕ) → k ≤ l → spends s b (exec k t) ≡ Some e → spends s b (exec l t) ≡ Some e
spends_longer s t b e k l le h = by_turns (nat_lt b.turns s.turns) h where
  going : Body
  going = record b { turns = b.turns + 1 }

  by_turns : (c : Bool) → (if c then exec k t going else yields.ends end.Spent going) ≡ Some e → (if c then exec l t going else yields.ends end.Spent going) ≡ Some e
  by_turns true h = exec_kept t.turns t.turns (let le : t.turns ≤ t.turns = omega arith in le) k l le t going e h (λ _. refl)
  by_turns false h = h

back_longer : (s : Setting) (member : ℕ) (b : Body) (ended e : Ended) (x : BodyEnd) (k l : ℕ) → k ≤ l → comes_back_at (exec k) s member b ended x ≡ Some e → comes_back_at (exec l) s member b ended x ≡ Some e
back_longer s member b ended e end.Done k l le h = exec_kept s.turns s.turns (let le : s.turns ≤ s.turns = omega arith in le) k l le s _ e h (λ _. refl)
back_longer s member b ended e (end.Trap t) k l le h = exec_kept s.turns s.turns (let le : s.turns ≤ s.turns = omega arith in le) k l le s _ e h (λ _. refl)
back_longer s member b ended e end.Waits k l le h = exec_kept s.turns s.turns (let le : s.turns ≤ s.turns = omega arith in le) k l le s _ e h (λ _. refl)
back_longer s member b ended e end.Spent k l le h = h

module _ (W : Whole) (ds : List Declaration) (marks : ℕ → Bool) (compiled : Compiled W.setting.image ds marks) (trees : ProgramFits ds marks) (in_place_too : W.setting.answers ≡ None) where
  module _ (here : Here) (low : ℕ) (class : Class) (m : Member) (is : MemberIs ds class m) (regular : class.is_regular ≡ true)
      (arguments : List (List ℤ)) (have : ArgumentsHaveWords ds m.formals arguments) (p : ℕ) (ws : List ℤ) (fs : List (Flow Arg)) (vs : List Arg) (s : Store) (sent : ℕ) where
    abbrev K : Run
    K = run_of W low here

    abbrev stmts : Stmts
    stmts = stmts_of m.body

    abbrev raw : RawMember
    raw = member_image ds marks class m

    abbrev id : MemberId
    id = record { 0 = m.id }

    abbrev words : List ℤ
    words = flat_map (λ words. words) arguments

    -- the caller
    abbrev waiting : Body
    waiting = body_at (point K p ws fs vs) sent s

    -- the body of the member, for which the caller waits
    abbrev pub U : Whole
    U = record {
      setting = regular_setting W.setting m.id;
      outer = record { setting = W.setting; member = m.id; body = waiting } ∷ W.outer;
      final = W.final;
      given = Some (words_of_result ds m.result);
      table = empty;
      vowed = empty;
    }

    abbrev there : Here
    there = record { code = InMember m.id; callers = []; finish = OfBody m.body.mark_line; keeping = Sized 0; object = pos 0; number = 0 }

    stands_in : MemberStands W.setting.image ds marks class m
    stands_in = compiled.members class m is

    -- a member of a regular class has no object
    abbrev outer : Env
    outer = record (member_env ds marks class m) { members = []; parts = [] }

    outer_same : member_env ds marks class m ≡ outer
    outer_same = ap (λ (b : Bool). record (member_env ds marks class m) { members = if b then [] else class.members; parts = if b then [] else parts_of ds class.state }) regular

    abbrev us : List Arg
    us = map Know (variables_holding (formals_at W.setting.image (Some id)) (sizes_at W.setting.image (InMember m.id)) words)

    formals_are : formals_at W.setting.image (Some id) ≡ length m.formals
    formals_are = ap formals_of stands_in.stands

    text_is : text_at W.setting.image (InMember m.id) ≡ body_code outer stmts 0
    text_is = ap (λ (o : Option RawMember). text_of (option_map (λ (m : RawMember). m.body) o)) stands_in.stands ∙ ap (λ (e : Env). body_code e stmts 0) outer_same

    sizes_are : sizes_at W.setting.image (InMember m.id) ≡ (behind_all stmts outer).sizes
    sizes_are = ap (λ (o : Option RawMember). sizes_of (option_map (λ (m : RawMember). m.body) o)) stands_in.stands ∙ ap (λ (e : Env). (behind_all stmts e).sizes) outer_same

    body_is : IsBody U there outer stmts
    body_is = record { text = text_is; sizes = sizes_are; places = λ n h. lt-ltb n (length (text_at W.setting.image (InMember m.id))) h }

    first : take (length m.formals) (sizes_at W.setting.image (InMember m.id)) ≡ map (words_of_formal ds) m.formals
    first = ap (take (length m.formals)) sizes_are ∙ formals_first ds m.formals stmts outer refl

    long : length words ≡ sum (take (formals_at W.setting.image (Some id)) (sizes_at W.setting.image (InMember m.id)))
    long = joined_long ds m.formals arguments have ∙ ap sum (sym (ap (λ n. take n (sizes_at W.setting.image (InMember m.id))) formals_are ∙ first))

    allowed : (high : ℕ) → Allowed (run_of U high there) (member_may ds class m) []
    allowed high = record {
      input = λ e. absurd cc;
      own = λ e. absurd (let f = ap not regular in cc (e, f));
      sends = λ e. refl;
      posts = λ e. absurd (let f = ap not regular in cc (e, f));
      gives = λ n e. (ap (λ (o : Option RawMember). given o (λ m. m.result)) stands_in.stands ∙ e, ap Some (words_result ds m.result n e));
      reads = inl refl;
      writes = inl refl;
    }

    abbrev begin : Store
    begin = store_with (formals_holding m.formals arguments) [] [] s.turns

    -- ---- behind the call

    abbrev Q : Arg → Store → Type 0
    Q a t = t.variables ≡ s.variables → t.state ≡ s.state → ResultFits W.given t.result → low ≤ t.turns → t.turns ≤ W.setting.turns → ArgFits (words_of_result ds m.result) a
        → Reached K p ws (record { value = a; words = words_of_result ds m.result } ∷ fs) vs t

    answered_on : (given : BodyResult) (turns : ℕ) (a : Arg) → arg_of_result given ≡ a → Reached K p ws (record { value = a; words = words_of_result ds m.result } ∷ fs) vs (record s { turns = turns })
        → Comes_by K (λ fuel. yields.goes_on_answered (exec fuel) W.setting m.id (record waiting { turns = turns }) (arg_of_result given))
    answered_on given turns a e h =
        let r = h sent in
        (r.0, r.1, ap₂ (going r.0) (words_same W.setting.image ds marks class m stands_in) e ∙ r.2, r.3) where
          going : ℕ → ℕ → Arg → Option Ended
          going fuel words value = exec fuel W.setting (body_at (point K p ws (record { value = value; words = words } ∷ fs) vs) sent (record s { turns = turns }))

    is_done : ResultFits W.given s.result → (t : Store) → Kept (run_of U low there) t → Q (arg_of_result (result_at_end m.result m.body.mark_line t.result)) (record s { turns = t.turns }) → IsDone U m.body.mark_line t
    is_done result t kept next at sent_there =
        answered_on (or_missed (missed_at W.setting.image m.body.mark_line (Some id)) t.result) t.turns _
        (ap (λ (o : Option RawMember). arg_of_result (or_missed (missed_by m.body.mark_line o) t.result)) stands_in.stands ∙ sym (ap arg_of_result (end_same ds m.body.mark_line m.result t.result)))
        (next refl refl result kept.low kept.within (result_arg (words_of_result ds m.result) _ (end_fits ds m.body.mark_line m.result t.result kept.result)))

    stops : ResultFits W.given s.result → (e : BodyEnd) (t : Store) → Halted (run_of U low there) e t → e ≢ end.Spent → Q (arg_of_result (result_at e t.result)) (record s { turns = t.turns })
        → Comes_by K (λ fuel. yields.goes_on_answered (exec fuel) W.setting m.id (record waiting { turns = t.turns }) (arg_of_result (stopped (Some id) e t.result)))
    stops result e t halted other next =
        answered_on (stopped (Some id) e t.result) t.turns _ (sym (ap arg_of_result (stop_same id e t.result)))
        (next refl refl result halted.low (halted.within other) (result_arg (words_of_result ds m.result) _ (stop_fits (words_of_result ds m.result) e t.result halted.result)))

    comes_back_so : ResultFits W.given s.result → (o : Checked (Outcome (Unit {0}))) → Comes K Q (unless_astray (after_member m s) o) → Comes (run_of U low there) (λ u t. Finished (run_of U low there) there.finish t) o
    comes_back_so result (Meant (Goes u t)) c = λ kept. is_done result t kept c
    comes_back_so result (Meant (Returns words t)) c = λ kept. is_done result t kept c
    comes_back_so result (Meant (Ends end.Done t)) c = λ halted at sent_there. stops result end.Done t halted (λ e. absurd cc) c
    comes_back_so result (Meant (Ends (end.Trap trap) t)) c = λ halted at sent_there. stops result (end.Trap trap) t halted (λ e. absurd cc) c
    comes_back_so result (Meant (Ends end.Waits t)) c = λ halted at sent_there. stops result end.Waits t halted (λ e. absurd cc) c
    comes_back_so result (Meant (Ends end.Spent t)) c = λ halted at sent_there.
        (0, _, refl, c (record { low = halted.low; within = λ other. absurd (other refl); result = result }) (point K p ws fs vs) sent)
    comes_back_so result Astray c = c

    -- ---- the call

    stands_start : s.turns + 1 ≤ W.setting.turns → Stands (run_of U (s.turns + 1) there) (Sized 0) outer us (record begin { turns = s.turns + 1 })
    stands_start more = record {
      agree =
          formals_held m.formals arguments (map Know (map zeros (drop (length m.formals) (sizes_at W.setting.image (InMember m.id))))) (many_have ds m.formals arguments have)
          ∙ ap (λ (all : List Arg). variables_of all (formals_from 0 m.formals))
          (sym (start_variables ds m.formals (sizes_at W.setting.image (InMember m.id)) words arguments (formals_at W.setting.image (Some id)) formals_are first (split_joined ds m.formals arguments have)));
      sized = held_fit (formals_at W.setting.image (Some id)) (sizes_at W.setting.image (InMember m.id)) words long;
      keeps = refl;
      long = let e : 0 ≤ 0 = omega arith in e;
      low = let e : s.turns + 1 ≤ s.turns + 1 = omega arith in e;
      within = more;
      result = tt;
    }

    -- with the end of the member's body the caller goes on
    whole : Comes_by (run_of U low there) (λ fuel. spends U.setting (body_at (point (run_of U low there) 0 [] [] us) 0 begin) (exec fuel U.setting))
        → (fuel : ℕ) × (e : Ended) × (called_in_place (exec fuel) W.setting m.id arguments waiting ≡ Some e) × Arrives W.outer W.final e
    whole r =
        let back = r.3 in
        let fuel = r.0 + back.0 in (
          fuel,
          back.1,
          ap (comes_back (exec fuel) W.setting m.id waiting) (spends_longer U.setting U.setting (body_at (point (run_of U low there) 0 [] [] us) 0 begin) r.1 r.0 fuel (omega arith) r.2)
              ∙ back_longer W.setting m.id waiting r.1 back.1 r.1.end back.0 fuel (omega arith) back.2,
          back.3,
        )

    pub called : (level : ℕ) → Below U ds (checked_callees_at marks level ds W.setting.turns empty) (s.turns + 1) → low ≤ s.turns → s.turns ≤ W.setting.turns → ResultFits W.given s.result
        → Comes K Q ((checked_callees_at marks (suc level) ds W.setting.turns W.table).regular m arguments s)
        → (fuel : ℕ) × (e : Ended) × (called_in_place (exec fuel) W.setting m.id arguments waiting ≡ Some e) × Arrives W.outer W.final e
    called level below le within result c =
        whole (spends_comes (run_of U low there) End (point (run_of U low there) 0 [] [] us) 0 begin rest (λ fuel. exec fuel U.setting) (record { low = le; within = within; result = tt }) behind
        (comes_back_so result (checked_run chk context stmts begin) c)) where
          chk : Checking
          chk = record { marks = marks; callees = checked_callees_at marks level ds W.setting.turns empty }

          context : Context
          context = context_of (run_of U 0 there) (callees_at level ds W.setting.turns empty) outer

          rest : CheckedStep (Unit {0})
          rest = checked_in_turn (checked_each chk stmts context)

          End : Unit {0} → Store → Type 0
          End u t = Finished (run_of U low there) there.finish t

          high : ℕ
          high = s.turns + 1

          turned : Store
          turned = record begin { turns = s.turns + 1 }

          behind : Bounded (run_of U low there) turned → Comes (run_of U low there) End (rest turned) → Comes_by (run_of U low there) (λ fuel. exec fuel U.setting (body_at (point (run_of U low there) 0 [] [] us) 0 turned))
          behind now d =
              let d_high : Comes (run_of U high there) (λ u t. Finished (run_of U high there) there.finish t) (rest turned) =
              raised U there low high (omega arith) _ (rest turned) (comes_map (run_of U low there) (rest turned) (λ u t e kept. e (record { low = let h = kept.low in omega arith; within = kept.within; keeps = kept.keeps; result = kept.result })) d) in
              body_follows U there (member_may ds class m) outer (callees_at level ds W.setting.turns empty) (checked_callees_at marks level ds W.setting.turns empty) high below allowed
              (λ low. record { members = compiled.members; classes = compiled.classes; in_place = refl })
              (plain_adds ds empty marks level W.setting.turns empty) (regular_adds ds empty marks level W.setting.turns empty) (λ low. inl refl) refl (λ low. tt)
              stmts body_is (subst (λ (e : Env). StmtsFit (member_may ds class m) e stmts) outer_same (trees.member class m is)) (formals_well ds m.formals) high (omega arith) us turned (stands_start now.within)
              (within_none (run_of U high there) ds _ (rest turned) d_high) d_high 0

    -- where no turn is left
    pub called_spent : W.setting.turns ≤ s.turns → low ≤ s.turns → s.turns ≤ W.setting.turns → ResultFits W.given s.result
        → (P : Arg → Store → Type 0) → Comes K P ((checked_callees_at marks zero ds W.setting.turns W.table).regular m arguments s)
        → (fuel : ℕ) × (e : Ended) × (called_in_place (exec fuel) W.setting m.id arguments waiting ≡ Some e) × Arrives W.outer W.final e
    called_spent none le within result P c =
        whole (spends_comes (run_of U low there) Nothing (point (run_of U low there) 0 [] [] us) 0 begin (λ t. Meant (Ends end.Spent t)) (λ fuel. exec fuel U.setting) (record { low = le; within = within; result = tt })
        (λ now d. absurd (let h = now.within in omega arith))
        (subst (λ b. Comes (run_of U low there) Nothing (goes_on (Meant (spent_or begin b)) (λ _ t. Meant (Ends end.Spent t)))) (sym none_left)
        (λ halted at sent_there. (0, _, refl, stopped_so (record { low = halted.low; within = λ other. absurd (other refl); result = result }) (point K p ws fs vs) sent)))) where
          Nothing : Unit {0} → Store → Type 0
          Nothing u t = ⊥

          none_left : nat_lt s.turns W.setting.turns ≡ false
          none_left = le-ltb s.turns W.setting.turns none

          spent_or : Store → Bool → Outcome (Unit {0})
          spent_or t b = if b then Goes tt (record t { turns = t.turns + 1 }) else Ends end.Spent (record t { turns = t.turns + 1 })

          stopped_so : Halted K end.Spent (record s { turns = s.turns + 1 }) → Stopped W end.Spent (record s { turns = s.turns + 1 })
          stopped_so = subst (λ b. Comes K P (Meant (and_then (spent_or s b) (λ _. stop end.Spent)))) none_left c
