-- The law of sizes.
use Rattle.std.proofs.Common.{◌≡◌, ℕ, Bool, true, false, not, List, [], ◌∷◌, length, map, Option, Some, None, if◌then◌else◌, refl, sym, ap, subst, ◌∙◌, arith}
use Rattle.std.specs.FinMap.{FinMap, get}
use Rattle.std.specs.Option.{option_and_then, option_map}
use Rattle.std.specs.Ordering.{nat_cmp}
use Rattle.std.specs.Prelude.{codes, is_some}
use Rattle.mpl_ast.specs.declared.class.ResultType.{ResultType}
use Rattle.mpl_ast.specs.declared.program.Declaration.{Declaration}
use Rattle.mpl_ast.specs.declared.program.Program.{Program}
use Rattle.mpl_value.specs.declared.body.BodyEnd.{BodyEnd}
use Rattle.mpl_value.specs.declared.body.BodyEnd.TheVariants as end
use Rattle.mpl_value.specs.declared.body.BodyResult.{BodyResult}
use Rattle.mpl_value.specs.declared.body.BodyResult.TheVariants as result
use Rattle.mpl_value.specs.declared.body.BodyStart.{BodyStart}
use Rattle.mpl_value.specs.declared.body.CallMade.{CallMade}
use Rattle.mpl_value.specs.declared.body.MemberId.{MemberId}
use Rattle.mpl_value.specs.declared.body.Yield.{Yield}
use Rattle.mpl_value.specs.declared.known.Known.{Known}
use Rattle.mpl_value.specs.declared.known.Known.TheVariants as known
use Rattle.mpl_mean.specs.Plain.Stmt.{stmt_of}
use Rattle.mpl_mean.specs.Plain.Stmt as stmt
use Rattle.mpl_mean.specs.Meaning.BodyMeaning.{callees_at, body_of, context_with, formals_holding, in_class, main_yield, member_body, member_yield, of_object, run, split_words, statements_of, store_of, store_with, yield_of}
use Rattle.mpl_mean.specs.TypeRules.CallRules.{call_may_stand}
use Rattle.mpl_mean.specs.Meaning.Context.{Context}
use Rattle.mpl_mean.specs.Meaning.Layout.{Class, Function, Member, function_named, member_named, part_named, parts_of, state_of, words_of_parts}
use Rattle.mpl_mean.specs.TypeRules.Rules.{is_typed}
use Rattle.mpl_mean.specs.TypeRules.Scopes.{InMain, InMember, state_members}
use Rattle.mpl_mean.specs.Laws.Sizes.{CallFits, CallReplyFits, Every, MemberFits, RepliesFit, ResultFits, Sized, StartFits, WordsFit, member_of_id, words_given, words_of_formals, words_of_object, words_of_result}
use Rattle.mpl_mean.specs.TypeRules.StatementNodes.{stmts_walk}
use Rattle.mpl_mean.specs.Meaning.Store.{Store, Outcome, Goes, Returns, Ends, Variable}
use Rattle.mpl_mean.specs.TypeRules.Types.{Declared, InState, OfClass, OneValue, declared_fields, declared_formals, first_named}
use Rattle.mpl_mean.specs.TypeRules.Typing.{items_called, items_of_meant, member_called, member_of}
use Rattle.mpl_mean.specs.Laws.Waiting.{CanCall, FoundCanCall, HasPersistent}
use Rattle.mpl_mean.proofs.MoreReplies.Follows.{store_after}
use Rattle.mpl_mean.proofs.Sizes.SizedAnswers.{IsMember}
use Rattle.mpl_mean.proofs.Sizes.SizedBodies.{at_fits, end_fits, formals_fit, formals_match, member_is, run_moves, setting}
use Rattle.mpl_mean.proofs.Sizes.SizedCallees.{MemberOf, callees_of}
use Rattle.mpl_mean.proofs.Sizes.SizedLevels.{MayFinish, callees_fit}
use Rattle.mpl_mean.proofs.Sizes.SizedParts.{PartFits, parts_fit}
use Rattle.mpl_mean.proofs.Sizes.SizedPrograms.{well_program}
use Rattle.mpl_mean.proofs.Sizes.SizedRules.{AllRight, WellResult, within}
use Rattle.mpl_mean.proofs.Sizes.SizedScopes.{Moved}
use Rattle.mpl_mean.proofs.Sizes.SizedSettings.{CalleesMatch, Setting, Sound, frame}
use Rattle.mpl_mean.proofs.Sizes.SizedStarts.{ClassNumbered, class_numbered, main_of, split_fit, surrounding_of}
use Rattle.mpl_mean.proofs.Sizes.SizedSteps.{After, Frame, GivenIn, MayEnd, Rest, bare, calls_fit, front_itself}
use Rattle.mpl_mean.proofs.Sizes.SizedTypes.{WellProgram}
use Rattle.mpl_mean.proofs.Truth.{not_true}

may_call : (type : ResultType) (b : Bool) → call_may_stand (InMember type) (not b) (Some (OneValue (OfClass []))) ≡ true → b ≡ false
may_call type true e = absurd cc
may_call type false e = refl

-- what is shown of the yield of a start, by the words of its result and of its state
pub record YieldFits (ds : List Declaration) (make wait : Type 0) (words : Option ℕ) (state : ℕ) (yield : Yield) : Type 0 where
  pub made : Every (λ call. CallFits ds call × make) yield.calls
  pub given : GivenIn wait words yield.result
  pub kept : length yield.state ≡ state
  pub waits : yield.end ≡ end.Waits → wait

-- what holds at the end of a body
rest_after : (G : Frame) (P : Type 0) (vs : List Variable) (Q : List Variable → Type 0) (o : Outcome (Unit {0})) → After G (λ _ t. Moved G vs P Q t) o → Rest G (store_of o) × MayFinish G.MayWait o
rest_after G P vs Q (Goes value after) i = (i.1.2.2, tt)
rest_after G P vs Q (Returns words after) i = (i.1, tt)
rest_after G P vs Q (Ends e after) i = i

ends_waits : (W : Type 0) (e : BodyEnd) → MayEnd W e → e ≡ end.Waits → W
ends_waits W end.Done k e = absurd k
ends_waits W (end.Trap t) k e = absurd cc
ends_waits W end.Waits k e = k
ends_waits W end.Spent k e = absurd cc

main_fits : (ds : List Declaration) (make wait : Type 0) (replies : FinMap nat_cmp Known) (state : ℕ) (calls : List CallMade) (o : Outcome (Unit {0}))
    → Rest (frame ds make wait replies state None calls (λ _. Unit {0})) (store_of o) × MayFinish wait o → YieldFits ds make wait None state (main_yield o)
main_fits ds make wait replies state calls (Goes value after) i = let r = i.0 in record { made = r.calls; given = r.result; kept = r.state; waits = λ e. absurd cc }
main_fits ds make wait replies state calls (Returns words after) i = let r = i.0 in record { made = r.calls; given = r.result; kept = r.state; waits = λ e. absurd cc }
main_fits ds make wait replies state calls (Ends x after) i = let r = i.0 in record { made = r.calls; given = r.result; kept = r.state; waits = ends_waits wait x i.1 }

member_fits : (ds : List Declaration) (make wait : Type 0) (replies : FinMap nat_cmp Known) (state : ℕ) (calls : List CallMade) (m : Member) (o : Outcome (Unit {0}))
    → Rest (frame ds make wait replies state (Some (words_of_result ds m.result)) calls (λ _. Unit {0})) (store_of o) × MayFinish wait o
    → YieldFits ds make wait (Some (words_of_result ds m.result)) state (member_yield m o)
member_fits ds make wait replies state calls m (Goes value after) i =
    let r = i.0 in
    record { made = r.calls; given = end_fits wait ds m.result m.body.mark_line after.result r.result; kept = r.state; waits = λ e. absurd cc }
member_fits ds make wait replies state calls m (Returns words after) i =
    let r = i.0 in
    record { made = r.calls; given = end_fits wait ds m.result m.body.mark_line after.result r.result; kept = r.state; waits = λ e. absurd cc }
member_fits ds make wait replies state calls m (Ends x after) i =
    let r = i.0 in
    record { made = r.calls; given = at_fits wait (Some (words_of_result ds m.result)) x after.result r.result; kept = r.state; waits = ends_waits wait x i.1 }

-- the calls of a body are those of its store
same_after : (o : Outcome (Unit {0})) → store_after o ≡ store_of o
same_after (Goes value after) = refl
same_after (Returns words after) = refl
same_after (Ends e after) = refl

main_calls : (o : Outcome (Unit {0})) → (main_yield o).calls ≡ (store_after o).calls
main_calls (Goes value after) = refl
main_calls (Returns words after) = refl
main_calls (Ends e after) = refl

callees_as : (ds : List Declaration) (R T : Member → Type 0) (n o : Option Member) → ((m : Member) → R m → T m) → CalleesMatch ds R n o → CalleesMatch ds T n o
callees_as ds R T None None h c = tt
callees_as ds R T None (Some m) h c = absurd c
callees_as ds R T (Some n) None h c = absurd c
callees_as ds R T (Some n) (Some m) h c = (c.0, h m c.1)

-- a body that makes calls only where this holds, and waits only where that does
module _ (ds : List Declaration) (well : WellProgram ds) (make wait : Type 0) (replies : FinMap nat_cmp Known) (turns : ℕ) (start : BodyStart) where
  -- what is asked of the calls in the end
  abbrev pub CallsFit : List CallMade → Type 0
  CallsFit calls = make × Every (CallReplyFits ds replies) calls × Every (λ (call : CallMade). get replies call.call ≡ None → wait) calls

  abbrev context : Context
  context = context_with ds turns replies (callees_at turns ds turns replies)

  -- ---- `main`

  abbrev main_context : Context
  main_context = record context { number = start.number }

  main_sound : (calls : List CallMade) → (HasPersistent ds → CallsFit calls) → Sound (frame ds make wait replies (length start.state) None calls (λ _. Unit {0})) (setting None InMain [] main_context)
  main_sound calls fit = record {
    well = well;
    state = λ name. tt;
    own = λ blocks name e. absurd cc;
    replies = λ e h. (fit h).1;
    makes = λ e h. (fit h).0;
    awaits = λ e h. (fit h).2;
    own_class = λ e. absurd cc;
    own_items = λ blocks e. absurd cc;
    result = λ r e. absurd cc;
    typed = λ r e. absurd cc;
    function_typed = λ t e. absurd cc;
    returns = λ words h. tt;
    callees = callees_fit ds well replies turns turns;
  }

  main_yields : (f : Option Function) → function_named (codes "main") ds ≡ f → let o = run main_context (statements_of f) (store_with [] start.state start.input 0) in
      (HasPersistent ds → CallsFit (main_yield o).calls) → YieldFits ds make wait None (length start.state) (main_yield o)
  main_yields f e fit =
      let o = run main_context (statements_of f) (store_with [] start.state start.input 0) in
      let calls = (store_after o).calls in
      let t = run_moves (frame ds make wait replies (length start.state) None calls (λ _. Unit {0})) (setting None InMain [] main_context)
      (main_sound calls (λ h. subst CallsFit (main_calls o) (fit h))) [] (statements_of f) in
      main_fits ds make wait replies (length start.state) calls o
      (rest_after (frame ds make wait replies (length start.state) None calls (λ _. Unit {0})) _ [] (λ ws. Unit {0}) o
      (t.holds (store_with [] start.state start.input 0) ((λ name. tt, right f e), (refl, tt, record { state = refl; calls = tt; result = tt })) (front_itself calls))) where
        right : (f : Option Function) → function_named (codes "main") ds ≡ f
            → AllRight (stmts_walk (stmt.in_turn (map stmt_of (statements_of f))) (within ds None InMain [] ([] ∷ []))).nodes
        right None e = tt
        right (Some f) e =
            let m = main_of ds f ds well.each e in
            subst (λ formals. AllRight (stmts_walk (stmt.in_turn (map stmt_of f.body.statements)) (within ds None InMain (declared_formals formals) ([] ∷ []))).nodes) m.1 m.0.1

  -- ---- a member

  module _ (found : Class × Member) (is : ClassNumbered ds found [] 0 0 ds) where
    abbrev member_context : Context
    member_context = in_class found.0 start context

    abbrev member_setting : Setting
    member_setting = setting (Some (surrounding_of found.0 is.items)) (InMember (found.1).result) (declared_formals (found.1).formals) member_context

    abbrev member_frame : List CallMade → Frame
    member_frame calls = frame ds make wait replies (length start.state) (Some (words_of_result ds (found.1).result)) calls (λ _. Unit {0})

    -- a regular class has no state
    object_parts : parts_of ds (found.0).state ≡ of_object found.0 (parts_of ds (found.0).state)
    object_parts = by_kind (found.0).is_regular refl where
      by_kind : (b : Bool) → (found.0).is_regular ≡ b → parts_of ds (found.0).state ≡ (if b then [] else parts_of ds (found.0).state)
      by_kind true e = ap (parts_of ds) (is.state ∙ (is.right).2 e)
      by_kind false e = refl

    state_fits : length start.state ≡ words_of_object ds found.0 → (name : List ℕ)
        → PartFits ds (length start.state) (first_named name (state_members (Some (surrounding_of found.0 is.items)))) (part_named name (of_object found.0 (parts_of ds (found.0).state)))
    state_fits e name =
        subst (λ ps. PartFits ds (length start.state) (first_named name (state_members (Some (surrounding_of found.0 is.items)))) (part_named name ps)) object_parts
        (subst (λ fields. PartFits ds (length start.state) (first_named name (declared_fields InState (state_of is.items))) (part_named name (parts_of ds fields))) (sym is.state)
        (parts_fit ds (length start.state) name InState 0 (state_of is.items) (is.right).1
        (let long : length start.state ≡ words_of_parts (parts_of ds (state_of is.items)) = e ∙ ap (λ fields. words_of_parts (parts_of ds fields)) is.state in omega arith)))

    own_fits : (blocks : List (List Declared)) (name : List ℕ) → not (found.0).is_regular ≡ true
        → CalleesMatch ds (IsMember ds) (member_called (within ds (Some (surrounding_of found.0 is.items)) (InMember (found.1).result) (declared_formals (found.1).formals) blocks) None name)
        (member_named name (of_object found.0 (found.0).members))
    own_fits blocks name e =
        subst (λ ms. CalleesMatch ds (IsMember ds) (member_called (within ds (Some (surrounding_of found.0 is.items)) (InMember (found.1).result) (declared_formals (found.1).formals) blocks) None name) (member_named name ms))
        (sym (ap (λ b. if b then [] else (found.0).members) (not_true (found.0).is_regular e)))
        (subst (λ b. CalleesMatch ds (IsMember ds) (option_and_then (member_of name) (items_called ds (option_map OneValue (if b then None else Some (OfClass (found.0).name))))) (member_named name (found.0).members))
        (sym (not_true (found.0).is_regular e))
        (subst (λ m. CalleesMatch ds (IsMember ds) (option_and_then (member_of name) (items_of_meant m)) (member_named name (found.0).members)) (sym is.meant)
        (callees_as ds (MemberOf ds (found.0).is_regular) (IsMember ds) (member_of name is.items) (member_named name (found.0).members) (λ m h. h.is)
        (callees_of well (found.0).name (found.0).name (found.0).is_regular is.items is.meant found.0 is.named name))))

    member_sound : (calls : List CallMade) → ((found.0).is_regular ≡ false → CallsFit calls) → length start.state ≡ words_of_object ds found.0 → Sound (member_frame calls) member_setting
    member_sound calls fit long = record {
      well = well;
      state = state_fits long;
      own = own_fits;
      replies = λ e h. (fit (may_call (found.1).result (found.0).is_regular e)).1;
      makes = λ e h. (fit (may_call (found.1).result (found.0).is_regular e)).0;
      awaits = λ e h. (fit (may_call (found.1).result (found.0).is_regular e)).2;
      own_class = λ e. record { name = (found.0).name; class = found.0; named = is.named; persistent = not_true (found.0).is_regular e };
      own_items = λ blocks e.
          subst (λ b. is_some (items_called ds (option_map OneValue (if b then None else Some (OfClass (found.0).name)))) ≡ true) (sym (not_true (found.0).is_regular e))
          (subst (λ m. is_some (items_of_meant m) ≡ true) (sym is.meant) refl);
      result = λ r e. ap (λ r. Some (words_of_result ds r)) (member_is e);
      typed = λ r e. subst (λ r. WellResult ds r) (member_is e) (is.member).1;
      function_typed = λ t e. absurd cc;
      returns = λ words h. tt;
      callees = callees_fit ds well replies turns turns;
    }

    member_yields : length start.args ≡ words_of_formals ds (found.1).formals → length start.state ≡ words_of_object ds found.0
        → ((found.0).is_regular ≡ false → CallsFit (member_body context start (Some found)).calls) → YieldFits ds make wait (Some (words_of_result ds (found.1).result)) (length start.state) (member_body context start (Some found))
    member_yields args long fit =
        let words = split_words ds (found.1).formals start.args in
        let held = formals_holding (found.1).formals words in
        let first = store_with held start.state start.input 0 in
        let o = run member_context (found.1).body.statements first in
        let calls = (store_after o).calls in
        let split = split_fit ds (found.1).formals start.args (omega arith) in
        let t = run_moves (member_frame calls) member_setting (member_sound calls (λ h. subst (λ (s : Store). CallsFit s.calls) (sym (same_after o)) (fit h)) long) (map bare held) (found.1).body.statements in
        member_fits ds make wait replies (length start.state) calls found.1 o
        (rest_after (member_frame calls) _ (map bare held) (λ ws. Unit {0}) o
        (t.holds first (
          (
            λ name.
                formals_match ds (length start.state) name (found.1).formals words (state_members (Some (surrounding_of found.0 is.items))) (part_named name (of_object found.0 (parts_of ds (found.0).state))) split (is.member).0.0 (state_fits long name),
            (is.member).0.1,
          ),
          (refl, formals_fit wait ds (found.1).formals words split, record { state = refl; calls = tt; result = tt }),
        ) (front_itself calls)))

  -- ---- every start

  found_yields : (id : MemberId) (found : Option (Class × Member)) → member_of_id ds id ≡ found → MemberFits ds start found → (FoundCanCall found → CallsFit (member_body context start found).calls)
      → YieldFits ds make wait (option_map (λ (found : Class × Member). words_of_result ds found.1.result) found) (length start.state) (member_body context start found)
  found_yields id None e words fit = absurd words
  found_yields id (Some found) e words fit = member_yields found (class_numbered ds id.0 found 0 0 [] ds well.differ well.each e) words.0 words.1 fit

  pub body_yields : (member : Option MemberId) → WordsFit ds start member → (CanCall ds member → CallsFit (body_of context start member).calls)
      → YieldFits ds make wait (words_given ds member) (length start.state) (body_of context start member)
  body_yields None words fit = main_yields (function_named (codes "main") ds) refl fit
  body_yields (Some id) words fit = found_yields id (member_of_id ds id) refl words fit

-- ---- the law of sizes

all_hold : {A : Type 0} (P : A → Type 0) → ((a : A) → P a) → (xs : List A) → Every P xs
all_hold P h [] = tt
all_hold P h (x ∷ xs) = (h x, all_hold P h xs)

given_fits : (W : Type 0) (words : Option ℕ) (r : BodyResult) → GivenIn W words r → ResultFits words r
given_fits W (Some words) (result.Known (known.Value value)) h = h
given_fits W None (result.Known (known.Value value)) h = h
given_fits W (Some words) (result.Known (known.Trapped t)) h = tt
given_fits W None (result.Known (known.Trapped t)) h = tt
given_fits W (Some words) result.Open h = tt
given_fits W None result.Open h = tt
given_fits W (Some words) result.Unknown h = tt
given_fits W None result.Unknown h = tt

-- In a well typed program what a body makes has the sizes of its declarations.
pub sizes_kept : (p : Program) (start : BodyStart) (replies : FinMap nat_cmp Known) (n : ℕ) → is_typed p ≡ true → StartFits p start → RepliesFit p start replies n
    → Sized p start (yield_of p start replies n)
sizes_kept p start replies n typed starts fit =
    let calls = (yield_of p start replies n).calls in
    let y = body_yields p.declarations (well_program p typed) (Unit {0}) (Unit {0}) replies n start start.member starts.words (λ c. (tt, fit, all_hold _ (λ call none. tt) calls)) in
    record { calls = calls_fit p.declarations (Unit {0}) calls y.made; result = given_fits (Unit {0}) _ _ y.given; state = y.kept }
