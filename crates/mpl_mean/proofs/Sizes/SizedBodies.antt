-- Bodies that are called in place keep the sizes.
use Rattle.std.proofs.Common.{◌≡◌, ◌≢◌, ℕ, Bool, true, false, List, [], ◌∷◌, ◌++◌, length, map, Option, Some, None, if◌then◌else◌, ℤ, refl, ap, subst}
use Rattle.std.specs.FinMap.{FinMap}
use Rattle.std.specs.Ordering.{nat_cmp}
use Rattle.std.specs.Str.{bytes_eq}
use Rattle.mpl_ast.specs.declared.class.Formal.{Formal}
use Rattle.mpl_ast.specs.declared.class.ResultType.{ResultType}
use Rattle.mpl_ast.specs.declared.class.ResultType.TheVariants.{Void, Typed}
use Rattle.mpl_ast.specs.declared.program.Declaration.{Declaration}
use Rattle.mpl_ast.specs.declared.statement.Statement.{Statement}
use Rattle.mpl_ast.specs.declared.statement.TypeName.{TypeName}
use Rattle.mpl_value.specs.declared.body.Arg.TheVariants.{Unknown}
use Rattle.mpl_value.specs.declared.body.BodyEnd.{BodyEnd}
use Rattle.mpl_value.specs.declared.body.BodyEnd.TheVariants as end
use Rattle.mpl_value.specs.declared.body.BodyResult.{BodyResult}
use Rattle.mpl_value.specs.declared.body.BodyResult.TheVariants as result
use Rattle.mpl_value.specs.declared.body.CallMade.{CallMade}
use Rattle.mpl_value.specs.declared.known.Known.{Known}
use Rattle.mpl_value.specs.declared.known.Known.TheVariants as known
use Rattle.mpl_mean.specs.Plain.Stmt.{Stmts, stmt_of, stmts_of}
use Rattle.mpl_mean.specs.Plain.Stmt as stmt
use Rattle.mpl_value.specs.CallAnswers.{arg_of_result}
use Rattle.mpl_mean.specs.Meaning.BodyMeaning.{context_with, formals_holding, plain_body, result_at_end, run, with_variables}
use Rattle.mpl_value.specs.Results.{result_at}
use Rattle.mpl_mean.specs.Meaning.Context.{Callees, Context}
use Rattle.mpl_mean.specs.Meaning.Layout.{Function, Part, words_of}
use Rattle.mpl_value.specs.Growing.{IsFront}
use Rattle.mpl_mean.specs.TypeRules.Scopes.{Body, InFunction, InMember, NoBody, Surrounding}
use Rattle.mpl_mean.specs.Laws.Sizes.{Every, words_of_result}
use Rattle.mpl_mean.specs.Meaning.StatementMeaning.{Does, does}
use Rattle.mpl_mean.specs.TypeRules.StatementNodes.{stmts_walk}
use Rattle.mpl_mean.specs.Meaning.Store.{Store, Outcome, Goes, Returns, Ends, Variable, in_turn, spend, variable_named}
use Rattle.mpl_mean.specs.TypeRules.Types.{Declared, declared_fields, declared_formals, first_named}
use Rattle.mpl_mean.specs.TypeRules.Types as types
use Rattle.mpl_mean.proofs.MoreReplies.ComesBack.{after_plain}
use Rattle.mpl_mean.proofs.MoreReplies.Follows.{store_after}
use Rattle.mpl_mean.proofs.Sizes.SizedAnswers.{ListsFit}
use Rattle.mpl_mean.proofs.Sizes.SizedParts.{PartFits}
use Rattle.mpl_mean.proofs.Sizes.SizedRules.{AllRight, HasType, WellDeclared}
use Rattle.mpl_mean.proofs.Sizes.SizedScopes.{Moved, Moves, so_moves, still_moves, then_moves}
use Rattle.mpl_mean.proofs.Sizes.SizedSettings.{BelowFits, Matches, PlaceFits, PlainFits, Setting, Sound, frame, environment, inside}
use Rattle.mpl_mean.proofs.Sizes.SizedStatementForms.{statements_act}
use Rattle.mpl_mean.proofs.Sizes.SizedStatements.{acts_each}
use Rattle.mpl_mean.proofs.Sizes.SizedSteps.{After, ArgIn, Fits, Frame, GivenIn, Keeps, VariableFits, Within, bare, spend_keeps}
use Rattle.mpl_mean.proofs.Sizes.SizedTypes.{WellProgram}

-- ---- a turn and the statements of a body

each_does : (x : Context) (ts : List Statement) → map (λ (does : Does). does x) (map does ts) ≡ map (λ s. does s x) ts
each_does x [] = refl
each_does x (t ∷ ts) = ap (λ fs. does t x ∷ fs) (each_does x ts)

abbrev pub RunReady : Frame → Setting → List Variable → List Statement → Type 0
RunReady G S vs ts = Matches G S ([] ∷ []) vs × AllRight (stmts_walk (stmt.in_turn (map stmt_of ts)) (environment G S ([] ∷ []))).nodes

pub run_moves : (G : Frame) (S : Setting) (s : Sound G S) (vs : List Variable) (ts : List Statement) → Moves G vs (RunReady G S vs ts) (λ ws. Unit {0}) (run (inside G S) ts)
run_moves G S s vs ts =
    let x = inside G S in
    then_moves (λ ws. RunReady G S ws ts) (λ ws. Unit {0}) {f = spend S.context.turns} {g = in_turn (map (λ s. does s x) ts)}
    (still_moves (λ ws. RunReady G S ws ts) (λ p. p) (spend_keeps G vs S.context.turns))
    (λ ws.
    so_moves (λ ws. Unit {0}) (λ ws. Unit {0}) (λ p. p.1) (λ vs p m. m)
    (subst (λ fs. Moves G ws (RunReady G S ws ts) (λ ws. Unit {0}) (in_turn fs)) (each_does x ts) (acts_each G S s ([] ∷ []) ws (statements_act ts))))

-- ---- formals

pub formals_match : (ds : List Declaration) (total : ℕ) (name : List ℕ) (formals : List Formal) (arguments : List (List ℤ)) (state : List Declared) (part : Option Part)
    → ListsFit ds formals arguments → Every (WellDeclared ds) (declared_formals formals) → PartFits ds total (first_named name state) part
    → PlaceFits ds total (first_named name (declared_formals formals ++ state)) (variable_named name (map bare (formals_holding formals arguments))) part
formals_match ds total name [] arguments state part h w p = p
formals_match ds total name (formal ∷ formals) [] state part h w p = absurd h
formals_match ds total name (formal ∷ formals) (words ∷ arguments) state part h w p =
    chosen (bytes_eq formal.name.text name) (formals_match ds total name formals arguments state part h.1 w.1 p) where
      chosen : (b : Bool) → PlaceFits ds total (first_named name (declared_formals formals ++ state)) (variable_named name (map bare (formals_holding formals arguments))) part
          → PlaceFits ds total (if b then Some (record { role = types.AsFormal; name = formal.name.text; type = formal.type_name; dimension = None }) else first_named name (declared_formals formals ++ state))
          (if b then Some (record { name = formal.name.text; type = formal.type_name; dimension = None; holds = Unknown }) else variable_named name (map bare (formals_holding formals arguments))) part
      chosen true k = (refl, refl, w.0)
      chosen false k = k

pub formals_fit : (W : Type 0) (ds : List Declaration) (formals : List Formal) (arguments : List (List ℤ)) → ListsFit ds formals arguments → Every (VariableFits W ds) (formals_holding formals arguments)
formals_fit W ds [] arguments h = tt
formals_fit W ds (formal ∷ formals) [] h = absurd h
formals_fit W ds (formal ∷ formals) (words ∷ arguments) h = (h.0, formals_fit W ds formals arguments h.1)

-- ---- results

pub end_fits : (W : Type 0) (ds : List Declaration) (type : ResultType) (line : ℕ) (r : BodyResult) → GivenIn W (Some (words_of_result ds type)) r → GivenIn W (Some (words_of_result ds type)) (result_at_end type line r)
end_fits W ds (Void at) line result.Open h = refl
end_fits W ds (Typed at type) line result.Open h = tt
end_fits W ds (Void at) line (result.Known known) h = h
end_fits W ds (Typed at type) line (result.Known known) h = h
end_fits W ds (Void at) line result.Unknown h = h
end_fits W ds (Typed at type) line result.Unknown h = h

pub at_fits : (W : Type 0) (n : Option ℕ) (e : BodyEnd) (r : BodyResult) → GivenIn W n r → GivenIn W n (result_at e r)
at_fits W None (end.Trap t) result.Open h = tt
at_fits W (Some n) (end.Trap t) result.Open h = tt
at_fits W n end.Done result.Open h = h
at_fits W n end.Waits result.Open h = h
at_fits W n end.Spent result.Open h = h
at_fits W n end.Done (result.Known known) h = h
at_fits W n end.Waits (result.Known known) h = h
at_fits W n end.Spent (result.Known known) h = h
at_fits W n (end.Trap t) (result.Known known) h = h
at_fits W n end.Done result.Unknown h = h
at_fits W n end.Waits result.Unknown h = h
at_fits W n end.Spent result.Unknown h = h
at_fits W n (end.Trap t) result.Unknown h = h

-- what a caller gets of a result that isn't open
pub arg_of_fits : (W : Type 0) (n : ℕ) (r : BodyResult) → r ≢ result.Open → GivenIn ⊥ (Some n) r → ArgIn W n (arg_of_result r)
arg_of_fits W n result.Open o h = absurd (o refl)
arg_of_fits W n (result.Known (known.Value words)) o h = h
arg_of_fits W n (result.Known (known.Trapped t)) o h = tt
arg_of_fits W n result.Unknown o h = absurd h

-- ---- settings of bodies that are called in place

abbrev pub setting : Option Surrounding → Body → List Declared → Context → Setting
setting class body formals x = record { class = class; body = body; formals = formals; context = x }

pub member_is : {a b : ResultType} → InMember a ≡ InMember b → a ≡ b
member_is e = cc

function_is : {a b : TypeName} → InFunction a ≡ InFunction b → a ≡ b
function_is e = cc

module _ (ds : List Declaration) (well : WellProgram ds) (replies : FinMap nat_cmp Known) (turns : ℕ) (b : Callees) (callees : BelowFits ds replies b) where
  abbrev pub context : Context
  context = context_with ds turns replies b

  -- for what is only to grow, nothing is asked
  bare_sound : (make wait : Type 0) (state : ℕ) (result : Option ℕ) (calls : List CallMade) → Sound (frame ds make wait replies state result calls (λ _. Unit {0})) (setting None NoBody [] context)
  bare_sound make wait state result calls = record {
    well = well;
    state = λ name. tt;
    own = λ blocks name e. absurd cc;
    replies = λ e. absurd cc;
    makes = λ e. absurd cc;
    awaits = λ e. absurd cc;
    own_class = λ e. absurd cc;
    own_items = λ blocks e. absurd cc;
    result = λ r e. absurd cc;
    typed = λ r e. absurd cc;
    function_typed = λ t e. absurd cc;
    returns = λ words h. tt;
    callees = callees;
  }

  function_sound : (make wait : Type 0) (state : ℕ) (result : Option ℕ) (calls : List CallMade) (f : Function) → PlainFits ds f
      → Sound (frame ds make wait replies state result calls (λ words. length words ≡ words_of ds f.result None)) (setting None (InFunction f.result) (declared_formals f.formals) context)
  function_sound make wait state result calls f fits = record {
    well = well;
    state = λ name. tt;
    own = λ blocks name e. absurd cc;
    replies = λ e. absurd cc;
    makes = λ e. absurd cc;
    awaits = λ e. absurd cc;
    own_class = λ e. absurd cc;
    own_items = λ blocks e. absurd cc;
    result = λ r e. absurd cc;
    typed = λ r e. absurd cc;
    function_typed = λ t e. subst (λ t. HasType ds t) (function_is e) fits.result;
    returns = λ words h. h;
    callees = callees;
  }

  pub plain_keeps : (make wait : Type 0) (state : ℕ) (result : Option ℕ) (calls : List CallMade) (May : List ℤ → Type 0) (vs : List Variable) (f : Function) (arguments : List (List ℤ))
      → Keeps (frame ds make wait replies state result calls May) vs (PlainFits ds f × ListsFit ds f.formals arguments) (List ℤ) (λ words. length words ≡ words_of ds f.result None) (plain_body context f arguments)
  plain_keeps make wait state result calls May vs f arguments = record {
    grows = λ s.
        grown s (run context f.body.statements (with_variables (formals_holding f.formals arguments) s))
        ((run_moves (frame ds make wait replies state result calls (λ _. Unit {0})) (setting None NoBody [] context) (bare_sound make wait state result calls) [] f.body.statements).grows (with_variables (formals_holding f.formals arguments) s));
    holds = λ s q w.
        let G = frame ds make wait replies state result calls (λ words. length words ≡ words_of ds f.result None) in
        let S = setting None (InFunction f.result) (declared_formals f.formals) context in
        let o = run context f.body.statements (with_variables (formals_holding f.formals arguments) s) in
        let t = run_moves G S (function_sound make wait state result calls f q.0.0) (map bare (formals_holding f.formals arguments)) f.body.statements in
        held s q o
        (t.holds (with_variables (formals_holding f.formals arguments) s) (
          (λ name. formals_match ds state name f.formals arguments [] None q.0.1 (q.0.0).routine.0 tt, (q.0.0).routine.1),
          (refl, formals_fit wait ds f.formals arguments q.0.1, record { state = q.1.2.state; calls = q.1.2.calls; result = q.1.2.result }),
        )
        (inside_calls s o w));
  } where
    grown : (s : Store) (o : Outcome (Unit {0})) → IsFront s.calls (store_after o).calls → IsFront s.calls (store_after (after_plain f s o)).calls
    grown s (Goes value after) h = h
    grown s (Returns words after) h = h
    grown s (Ends e after) h = h

    inside_calls : (s : Store) (o : Outcome (Unit {0})) → Within (frame ds make wait replies state result calls May) (store_after (after_plain f s o))
        → Within (frame ds make wait replies state result calls (λ words. length words ≡ words_of ds f.result None)) (store_after o)
    inside_calls s (Goes value after) h = h
    inside_calls s (Returns words after) h = h
    inside_calls s (Ends e after) h = h

    held : (s : Store) → (PlainFits ds f × ListsFit ds f.formals arguments) × Fits (frame ds make wait replies state result calls May) vs s → (o : Outcome (Unit {0}))
        → After (frame ds make wait replies state result calls (λ words. length words ≡ words_of ds f.result None)) (λ _ t. Moved (frame ds make wait replies state result calls (λ words. length words ≡ words_of ds f.result None))
        (map bare (formals_holding f.formals arguments)) (RunReady (frame ds make wait replies state result calls (λ words. length words ≡ words_of ds f.result None))
        (setting None (InFunction f.result) (declared_formals f.formals) context) (map bare (formals_holding f.formals arguments)) f.body.statements) (λ ws. Unit {0}) t) o
        → After (frame ds make wait replies state result calls May) (λ words t. ((PlainFits ds f × ListsFit ds f.formals arguments) × (length words ≡ words_of ds f.result None)) × Fits (frame ds make wait replies state result calls May) vs t)
        (after_plain f s o)
    held s q (Goes value after) i = let r = i.1.2.2 in (record { state = r.state; calls = r.calls; result = r.result }, tt)
    held s q (Returns words after) i = let r = i.1 in ((q.0, i.0), (q.1.0, q.1.1, record { state = r.state; calls = r.calls; result = r.result }))
    held s q (Ends e after) i = let r = i.0 in (record { state = r.state; calls = r.calls; result = r.result }, i.1)
