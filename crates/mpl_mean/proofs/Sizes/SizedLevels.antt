-- Members of regular classes in place, and what is called so many levels deep.
use Rattle.std.proofs.Common.{◌≡◌, ◌≢◌, ℕ, zero, suc, Bool, true, false, not, List, [], map, Option, Some, None, ℤ, refl, sym, ap, subst}
use Rattle.std.specs.FinMap.{FinMap, empty}
use Rattle.std.specs.Ordering.{nat_cmp}
use Rattle.mpl_ast.specs.declared.class.ResultType.{ResultType}
use Rattle.mpl_ast.specs.declared.class.ResultType.TheVariants.{Void, Typed}
use Rattle.mpl_ast.specs.declared.program.Declaration.{Declaration}
use Rattle.mpl_value.specs.declared.body.Arg.{Arg}
use Rattle.mpl_value.specs.declared.body.BodyEnd.{BodyEnd}
use Rattle.mpl_value.specs.declared.body.BodyEnd.TheVariants as end
use Rattle.mpl_value.specs.declared.body.BodyResult.{BodyResult}
use Rattle.mpl_value.specs.declared.body.BodyResult.TheVariants as result
use Rattle.mpl_value.specs.declared.body.CallMade.{CallMade}
use Rattle.mpl_value.specs.declared.known.Known.{Known}
use Rattle.mpl_value.specs.declared.known.Trap.{Trap}
use Rattle.mpl_value.specs.CallAnswers.{arg_of_result}
use Rattle.mpl_mean.specs.Meaning.BodyMeaning.{back_with, callees_at, context_with, formals_holding, member_end, regular_body, result_at_end, run, store_of, store_with}
use Rattle.mpl_value.specs.Results.{result_at}
use Rattle.mpl_mean.specs.TypeRules.CallRules.{call_may_stand}
use Rattle.mpl_mean.specs.Meaning.Context.{Callees, Context}
use Rattle.mpl_mean.specs.Meaning.Layout.{Member}
use Rattle.mpl_value.specs.Growing.{IsFront}
use Rattle.mpl_mean.specs.TypeRules.Scopes.{InMember, Surrounding, state_members}
use Rattle.mpl_mean.specs.Laws.Sizes.{words_of_result}
use Rattle.mpl_mean.specs.Meaning.Store.{Store, Outcome, Goes, Returns, Ends, Variable, stop}
use Rattle.mpl_mean.specs.TypeRules.Types.{InState, OfClass, OneValue, declared_fields, declared_formals, first_named}
use Rattle.mpl_mean.proofs.MoreReplies.Follows.{store_after}
use Rattle.mpl_mean.proofs.Sizes.SizedAnswers.{ListsFit}
use Rattle.mpl_mean.proofs.Sizes.SizedBodies.{arg_of_fits, at_fits, end_fits, formals_fit, formals_match, member_is, plain_keeps, run_moves, setting}
use Rattle.mpl_mean.proofs.Sizes.SizedParts.{PartFits}
use Rattle.mpl_mean.proofs.Sizes.SizedRules.{WellResult}
use Rattle.mpl_mean.proofs.Sizes.SizedScopes.{Moved}
use Rattle.mpl_mean.proofs.Sizes.SizedSettings.{BelowFits, RegularFits, Setting, Sound, frame}
use Rattle.mpl_mean.proofs.Sizes.SizedSteps.{After, ArgIn, Fits, Frame, GivenIn, Keeps, MayEnd, bare, front_itself, spend_keeps, stop_keeps, then_keeps}
use Rattle.mpl_mean.proofs.Sizes.SizedTypes.{WellProgram}

not_persistent : (b : Bool) → b ≡ true → not b ≡ true → ⊥
not_persistent true e i = cc
not_persistent false e i = cc

may_not : (result : ResultType) (b : Bool) → b ≡ true → call_may_stand (InMember result) (not b) (Some (OneValue (OfClass []))) ≡ true → ⊥
may_not result true e i = cc
may_not result false e i = cc

-- a body in place, and a caller with replies of its own
-- how a body has ended
abbrev pub MayFinish : Type 0 → Outcome (Unit {0}) → Type 0
MayFinish W (Goes value after) = Unit {0}
MayFinish W (Returns words after) = Unit {0}
MayFinish W (Ends e after) = MayEnd W e

closed : (type : ResultType) (line : ℕ) (r : BodyResult) → result_at_end type line r ≢ result.Open
closed (Void at) line result.Open e = cc
closed (Typed at type) line result.Open e = cc
closed (Void at) line (result.Known known) e = cc
closed (Typed at type) line (result.Known known) e = cc
closed (Void at) line result.Unknown e = cc
closed (Typed at type) line result.Unknown e = cc

trap_closes : (t : Trap) (r : BodyResult) → result_at (end.Trap t) r ≢ result.Open
trap_closes t result.Open e = cc
trap_closes t (result.Known known) e = cc
trap_closes t result.Unknown e = cc

module _ (ds : List Declaration) (well : WellProgram ds) (outer replies : FinMap nat_cmp Known) (turns : ℕ) (b : Callees) (callees : BelowFits ds replies b) where
  abbrev context : Context
  context = context_with ds turns replies b

  abbrev regular_frame : Member → List CallMade → Frame
  regular_frame m calls = frame ds ⊥ ⊥ replies 0 (Some (words_of_result ds m.result)) calls (λ _. Unit {0})

  abbrev regular_setting : Surrounding → Member → Setting
  regular_setting class m = setting (Some class) (InMember m.result) (declared_formals m.formals) context

  regular_sound : (m : Member) (calls : List CallMade) (fits : RegularFits ds m) → Sound (regular_frame m calls) (regular_setting fits.class m)
  regular_sound m calls fits = record {
    well = well;
    state = λ name. subst (λ fields. PartFits ds 0 (first_named name (declared_fields InState fields)) None) (sym fits.stateless) tt;
    own = λ blocks name e. absurd (not_persistent (fits.class).is_regular fits.regular e);
    replies = λ e. absurd (may_not m.result (fits.class).is_regular fits.regular e);
    makes = λ e. absurd (may_not m.result (fits.class).is_regular fits.regular e);
    awaits = λ e. absurd (may_not m.result (fits.class).is_regular fits.regular e);
    own_class = λ e. absurd (not_persistent (fits.class).is_regular fits.regular e);
    own_items = λ blocks e. absurd (not_persistent (fits.class).is_regular fits.regular e);
    result = λ r e. ap (λ r. Some (words_of_result ds r)) (member_is e);
    typed = λ r e. subst (λ r. WellResult ds r) (member_is e) (fits.well).1;
    function_typed = λ t e. absurd cc;
    returns = λ words h. tt;
    callees = callees;
  }

  rest_of : (m : Member) (calls : List CallMade) (P : Type 0) (vs : List Variable) (Q : List Variable → Type 0) (o : Outcome (Unit {0})) → After (regular_frame m calls) (λ _ t. Moved (regular_frame m calls) vs P Q t) o
      → GivenIn ⊥ (Some (words_of_result ds m.result)) (store_of o).result × MayFinish ⊥ o
  rest_of m calls P vs Q (Goes value after) i = let r = i.1.2.2 in (r.result, tt)
  rest_of m calls P vs Q (Returns words after) i = let r = i.1 in (r.result, tt)
  rest_of m calls P vs Q (Ends e after) i = let r = i.0 in (r.result, i.1)

  -- what a caller gets of a body that isn't spent
  abbrev Brings : Type 0 → Member → BodyEnd × BodyResult → Type 0
  Brings W m (end.Spent, r) = Unit {0}
  Brings W m (e, r) = ArgIn W (words_of_result ds m.result) (arg_of_result r)

  ended_has : (W : Type 0) (m : Member) (r : BodyResult) → GivenIn ⊥ (Some (words_of_result ds m.result)) r → ArgIn W (words_of_result ds m.result) (arg_of_result (result_at_end m.result m.body.mark_line r))
  ended_has W m r h = arg_of_fits W (words_of_result ds m.result) _ (closed m.result m.body.mark_line r) (end_fits ⊥ ds m.result m.body.mark_line r h)

  end_has : (W : Type 0) (m : Member) (o : Outcome (Unit {0})) → GivenIn ⊥ (Some (words_of_result ds m.result)) (store_of o).result → MayFinish ⊥ o → Brings W m (member_end m o)
  end_has W m (Goes value after) h k = ended_has W m after.result h
  end_has W m (Returns words after) h k = ended_has W m after.result h
  end_has W m (Ends end.Done after) h k = absurd k
  end_has W m (Ends (end.Trap t) after) h k =
      arg_of_fits W (words_of_result ds m.result) _ (trap_closes t after.result) (at_fits ⊥ (Some (words_of_result ds m.result)) (end.Trap t) after.result h)
  end_has W m (Ends end.Waits after) h k = absurd k
  end_has W m (Ends end.Spent after) h k = tt

  regular_keeps : (make wait : Type 0) (state : ℕ) (result : Option ℕ) (calls : List CallMade) (May : List ℤ → Type 0) (vs : List Variable) (m : Member) (arguments : List (List ℤ))
      → Keeps (frame ds make wait outer state result calls May) vs (RegularFits ds m × ListsFit ds m.formals arguments) Arg (ArgIn wait (words_of_result ds m.result)) (regular_body context m arguments)
  regular_keeps make wait state result calls May vs m arguments = record {
    grows = λ s. let o = run context m.body.statements (store_with (formals_holding m.formals arguments) [] [] s.turns) in grown s (store_of o).turns (member_end m o);
    holds = λ s q w.
        let o = run context m.body.statements (store_with (formals_holding m.formals arguments) [] [] s.turns) in
        let made = (store_after o).calls in
        let fits = q.0.0 in
        let t = run_moves (regular_frame m made) (regular_setting fits.class m) (regular_sound m made fits) (map bare (formals_holding m.formals arguments)) m.body.statements in
        let after = t.holds (store_with (formals_holding m.formals arguments) [] [] s.turns) (
          (
            λ name.
                formals_match ds 0 name m.formals arguments (state_members (Some fits.class)) None q.0.1 (fits.well).0.0
                (subst (λ fields. PartFits ds 0 (first_named name (declared_fields InState fields)) None) (sym fits.stateless) tt),
            (fits.well).0.1,
          ),
          (refl, formals_fit ⊥ ds m.formals arguments q.0.1, record { state = refl; calls = tt; result = tt }),
        ) (front_itself made) in
        let rest = rest_of m made _ (map bare (formals_holding m.formals arguments)) (λ ws. Unit {0}) o after in
        held s q (store_of o).turns (member_end m o) (end_has wait m o rest.0 rest.1);
  } where
    grown : (s : Store) (n : ℕ) (e : BodyEnd × BodyResult) → IsFront s.calls (store_after (back_with n e s)).calls
    grown s n (end.Done, r) = front_itself s.calls
    grown s n (end.Trap t, r) = front_itself s.calls
    grown s n (end.Waits, r) = front_itself s.calls
    grown s n (end.Spent, r) = front_itself s.calls

    held : (s : Store) → (RegularFits ds m × ListsFit ds m.formals arguments) × Fits (frame ds make wait outer state result calls May) vs s → (n : ℕ) (e : BodyEnd × BodyResult)
        → Brings wait m e
        → After (frame ds make wait outer state result calls May)
        (λ a t. ((RegularFits ds m × ListsFit ds m.formals arguments) × ArgIn wait (words_of_result ds m.result) a) × Fits (frame ds make wait outer state result calls May) vs t) (back_with n e s)
    held s q n (end.Done, r) h = ((q.0, h), q.1)
    held s q n (end.Trap t, r) h = ((q.0, h), q.1)
    held s q n (end.Waits, r) h = ((q.0, h), q.1)
    held s q n (end.Spent, r) h = (q.1.2, tt)

-- ---- so many levels deep

pub callees_fit : (ds : List Declaration) → WellProgram ds → (replies : FinMap nat_cmp Known) (turns level : ℕ) → BelowFits ds replies (callees_at level ds turns replies)
callees_fit ds well replies turns zero = record {
  plain = λ make wait state result calls May vs f arguments.
      let G = frame ds make wait replies state result calls May in
      then_keeps G vs {h = λ _. stop end.Spent} (spend_keeps G vs turns) (λ _. stop_keeps G vs end.Spent (λ p. tt));
  regular = λ make wait state result calls May vs m arguments.
      let G = frame ds make wait replies state result calls May in
      then_keeps G vs {h = λ _. stop end.Spent} (spend_keeps G vs turns) (λ _. stop_keeps G vs end.Spent (λ p. tt));
}
callees_fit ds well replies turns (suc level) =
    record {
      plain = plain_keeps ds well replies turns (callees_at level ds turns replies) (callees_fit ds well replies turns level);
      regular = regular_keeps ds well replies empty turns (callees_at level ds turns empty) (callees_fit ds well empty turns level);
    }
