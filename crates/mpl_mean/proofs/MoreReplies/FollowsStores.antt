-- What is stored, printed, read and made in a run with more replies follows what is in one with fewer.
use Rattle.std.proofs.Common.{◌≡◌, ℕ, ◌+◌, Bool, true, false, List, [], ◌∷◌, ◌++◌, length, Option, if◌then◌else◌, ℤ, pos, refl, sym, ap, subst}
use Rattle.std.proofs.lemmas.List.Elements.{AllZip-push}
use Rattle.std.proofs.lemmas.Slice.Zip.{AllZip-long}
use Rattle.std.specs.List.{AllZip}
use Rattle.std.specs.Str.{bytes_eq}
use Rattle.mpl_value.specs.declared.body.Arg.{Arg}
use Rattle.mpl_value.specs.declared.body.Arg.TheVariants.{Know, Trapped, Unknown}
use Rattle.mpl_value.specs.declared.body.BodyResult.{BodyResult}
use Rattle.mpl_value.specs.declared.body.BodyResult.TheVariants as result
use Rattle.mpl_mean.specs.Meaning.CallMeaning.{made}
use Rattle.mpl_mean.specs.Meaning.Context.{Context}
use Rattle.mpl_mean.specs.Meaning.ExpressionMeaning.{next_of, next_number}
use Rattle.mpl_mean.specs.Meaning.Layout.{Class}
use Rattle.mpl_value.specs.Growing.{Stays, CallStays, ResultStays}
use Rattle.mpl_mean.specs.Meaning.StatementMeaning.{Effect, created, give_result, gives_result}
use Rattle.mpl_value.specs.Words.{object_word}
use Rattle.mpl_value.specs.Results.{result_of}
use Rattle.mpl_mean.specs.Meaning.Store.{Store, Goes, Step, Variable, hold, holding, declare, printed, variable_named}
use Rattle.mpl_value.specs.Words.{with_words}
use Rattle.mpl_mean.specs.Meaning.Values.{Value}
use Rattle.mpl_mean.proofs.Simulations.Simulation.{Same, VariableBeside, MaybeBeside, at_variable, maybe_itself, variable_itself}
use Rattle.mpl_mean.proofs.MoreReplies.Later.{Later, Later-itself, Adds, Adds-itself, Beside, Begins-append, Begins-itself, ResultBeside, CallStays-itself, Stays-itself}
use Rattle.mpl_mean.proofs.MoreReplies.Follows.{Follows, goes, ends, StepFollows, store_after, named_beside}

-- ---- variables and the state

pub looks_step : (A : Type 0) (V : A → A → Type 0) (name : List ℕ) (h k : Option Variable → Step A) → ((v w : Option Variable) → MaybeBeside (VariableBeside Stays) v w → StepFollows A V (h v) (k w))
    → StepFollows A V (λ s. h (variable_named name s.variables) s) (λ s. k (variable_named name s.variables) s)
looks_step A V name h k r = record {
  follows = λ s t e. (r (variable_named name s.variables) (variable_named name t.variables) (named_beside name s.variables t.variables e.variables)).follows s t e;
  grows = λ t. let v = variable_named name t.variables in (r v v (maybe_itself (VariableBeside Stays) (variable_itself Stays Stays-itself) v)).grows t;
  adds = λ s. let v = variable_named name s.variables in (r v v (maybe_itself (VariableBeside Stays) (variable_itself Stays Stays-itself) v)).adds s;
}

pub state_step : StepFollows (List ℤ) Same (λ s. Goes s.state s) (λ s. Goes s.state s)
state_step = record { follows = λ s t e. goes (ap (λ (u : Store). u.state) e.same) e; grows = Later-itself; adds = Adds-itself }

pub restates_step : (offset : ℕ) (words : List ℤ) → let step : Effect = λ s. Goes tt (record s { state = with_words offset words s.state }) in StepFollows (Unit {0}) Same step step
restates_step offset words = record {
  follows = λ s t e. goes refl (record {
    same = ap (λ (u : Store). record u { state = with_words offset words u.state }) e.same;
    variables = e.variables;
    calls = e.calls;
    result = e.result;
    turns = e.turns;
  });
  grows = λ t. let l = Later-itself t in record { result = l.result; lines = l.lines; creations = l.creations; calls = l.calls; turns = l.turns };
  adds = Adds-itself;
}

held_beside : (b : Bool) (v w : Variable) (vs ws us us' : List Variable) → VariableBeside Stays v w → AllZip (VariableBeside Stays) vs ws → (x y : Variable) → VariableBeside Stays x y → AllZip (VariableBeside Stays) us us'
    → AllZip (VariableBeside Stays) (if b then x ∷ vs else v ∷ us) (if b then y ∷ ws else w ∷ us')
held_beside true v w vs ws us us' h hs x y k ks = (k, hs)
held_beside false v w vs ws us us' h hs x y k ks = (h, ks)

holding_beside : (name : List ℕ) (a b : Arg) → Stays a b → (vs ws : List Variable) → AllZip (VariableBeside Stays) vs ws → AllZip (VariableBeside Stays) (holding name a vs) (holding name b ws)
holding_beside name a b r [] [] h = tt
holding_beside name a b r [] (w ∷ ws) h = absurd h
holding_beside name a b r (v ∷ vs) [] h = absurd h
holding_beside name a b r (v ∷ vs) (w ∷ ws) h =
    let others = holding_beside name a b r vs ws h.1 in
    at_variable h.0 (λ w. AllZip (VariableBeside Stays) (holding name a (v ∷ vs)) (holding name b (w ∷ ws)))
    (λ c i.
    held_beside (bytes_eq v.name name) v (record v { holds = c }) vs ws (holding name a vs) (holding name b ws) (record { same = refl; holds = i }) h.1
    (record v { holds = a }) (record v { holds = b }) (record { same = refl; holds = r }) others)

-- other variables
varied : (s t : Store) (vs ws : List Variable) → Beside s t → AllZip (VariableBeside Stays) vs ws → Beside (record s { variables = vs }) (record t { variables = ws })
varied s t vs ws e h = record { same = ap (λ (u : Store). record u { variables = ws }) e.same; variables = h; calls = e.calls; result = e.result; turns = e.turns }

later_variables : (t : Store) (vs : List Variable) → Later t (record t { variables = vs })
later_variables t vs = let l = Later-itself t in record { result = l.result; lines = l.lines; creations = l.creations; calls = l.calls; turns = l.turns }

pub holds_step : (name : List ℕ) (a b : Arg) → Stays a b → StepFollows (Unit {0}) Same (hold name a) (hold name b)
holds_step name a b h = record {
  follows = λ s t e. goes refl (varied s t _ _ e (holding_beside name a b h s.variables t.variables e.variables));
  grows = λ t. later_variables t (holding name b t.variables);
  adds = Adds-itself;
}

pub declares_step : (v w : Variable) → VariableBeside Stays v w → StepFollows (Unit {0}) Same (declare v) (declare w)
declares_step v w h = record {
  follows = λ s t e. goes refl (varied s t (v ∷ s.variables) (w ∷ t.variables) e (h, e.variables));
  grows = λ t. later_variables t (w ∷ t.variables);
  adds = Adds-itself;
}

-- ---- lines and input

pub prints_step : (text : List ℕ) → StepFollows (Unit {0}) Same (printed text) (printed text)
prints_step text = record {
  follows = λ s t e. goes refl (record {
    same = ap (λ (u : Store). record u { lines = u.lines ++ text }) e.same;
    variables = e.variables;
    calls = e.calls;
    result = e.result;
    turns = e.turns;
  });
  grows = λ t.
      let l = Later-itself t in
      record { result = l.result; lines = Begins-append _ (λ x. refl) t.lines text; creations = l.creations; calls = l.calls; turns = l.turns };
  adds = Adds-itself;
}

next_follows : (line : ℕ) (input : List ℤ) (s t : Store) → Beside s t → Follows {A = Value} Same (next_of line input s) (next_of line input t)
next_follows line [] s t e = ends e
next_follows line (z ∷ input) s t e = goes refl (record {
  same = ap (λ (u : Store). record u { input = input }) e.same;
  variables = e.variables;
  calls = e.calls;
  result = e.result;
  turns = e.turns;
})

next_grows : (line : ℕ) (input : List ℤ) (t : Store) → Later t (store_after (next_of line input t))
next_grows line [] t = Later-itself t
next_grows line (z ∷ input) t = let l = Later-itself t in record { result = l.result; lines = l.lines; creations = l.creations; calls = l.calls; turns = l.turns }

next_adds : (line : ℕ) (input : List ℤ) (s : Store) → Adds s (store_after (next_of line input s))
next_adds line [] s = Adds-itself s
next_adds line (z ∷ input) s = Adds-itself s

pub inputs_step : (line : ℕ) → StepFollows Value Same (next_number line) (next_number line)
inputs_step line = record {
  follows = λ s t e.
      subst (λ input. Follows {A = Value} Same (next_of line s.input s) (next_of line input t)) (ap (λ (u : Store). u.input) e.same) (next_follows line s.input s t e);
  grows = λ t. next_grows line t.input t;
  adds = λ s. next_adds line s.input s;
}

-- ---- calls and objects

pub makes_step : (object : ℤ) (member : ℕ) (args others : List Arg) → AllZip Stays args others → StepFollows ℕ Same (made object member args) (made object member others)
makes_step object member args others h = record {
  follows = λ s t e.
      let long : length s.calls + 1 ≡ length t.calls + 1 = ap (λ n. n + 1) (sym (AllZip-long CallStays s.calls t.calls e.calls)) in
      goes long (record {
        same = ap (λ (u : Store). record u { calls = t.calls ++ record { call = length t.calls + 1; object = object; member = record { 0 = member }; args = others } ∷ [] }) e.same;
        variables = e.variables;
        calls = AllZip-push CallStays s.calls t.calls _ _ e.calls (record { call = long; object = refl; member = refl; arguments = h });
        result = e.result;
        turns = e.turns;
      });
  grows = λ t.
      let l = Later-itself t in
      record { result = l.result; lines = l.lines; creations = l.creations; calls = Begins-append CallStays CallStays-itself t.calls _; turns = l.turns };
  adds = λ s. (Begins-append _ (λ x. refl) s.calls _, Begins-itself _ (λ x. refl) s.creations);
}

pub creates_step : (x : Context) (class : Class) → StepFollows ℤ Same (created x class) (created x class)
creates_step x class = record {
  follows = λ s t e. goes (ap (λ (u : Store). object_word x.number (length u.creations + 1)) e.same) (record {
    same = ap (λ (u : Store). record u { creations = u.creations ++ pos class.number ∷ [] }) e.same;
    variables = e.variables;
    calls = e.calls;
    result = e.result;
    turns = e.turns;
  });
  grows = λ t.
      let l = Later-itself t in
      record { result = l.result; lines = l.lines; creations = Begins-append _ (λ x. refl) t.creations _; calls = l.calls; turns = l.turns };
  adds = λ s. (Begins-itself _ (λ x. refl) s.calls, Begins-append _ (λ x. refl) s.creations _);
}

-- ---- results

result_beside : (a b : Arg) → Stays a b → ResultBeside (result_of a) (result_of b)
result_beside (Know words) b h = ap result_of h
result_beside (Trapped t) b h = ap result_of h
result_beside Unknown (Know words) h = tt
result_beside Unknown (Trapped t) h = tt
result_beside Unknown Unknown h = tt

given_follows : (line : ℕ) (a b : Arg) → Stays a b → (r q : BodyResult) → ResultBeside r q → (s t : Store) → Beside s t
    → Follows {A = Unit {0}} Same (give_result line a r s) (give_result line b q t)
given_follows line a b h result.Open q i s t e =
    subst (λ q. Follows {A = Unit {0}} Same (give_result line a result.Open s) (give_result line b q t)) i (goes refl (record {
      same = ap (λ (u : Store). record u { result = result_of b }) e.same;
      variables = e.variables;
      calls = e.calls;
      result = result_beside a b h;
      turns = e.turns;
    }))
given_follows line a b h (result.Known known) q i s t e =
    subst (λ q. Follows {A = Unit {0}} Same (give_result line a (result.Known known) s) (give_result line b q t)) i (ends e)
given_follows line a b h result.Unknown result.Open i s t e = absurd i
given_follows line a b h result.Unknown (result.Known known) i s t e = ends e
given_follows line a b h result.Unknown result.Unknown i s t e = ends e

given_grows : (line : ℕ) (b : Arg) (q : BodyResult) (t : Store) → q ≡ t.result → Later t (store_after (give_result line b q t))
given_grows line b result.Open t i =
    let l = Later-itself t in
    record { result = subst (λ r. ResultStays r (result_of b)) i tt; lines = l.lines; creations = l.creations; calls = l.calls; turns = l.turns }
given_grows line b (result.Known known) t i = Later-itself t
given_grows line b result.Unknown t i = Later-itself t

given_adds : (line : ℕ) (a : Arg) (r : BodyResult) (s : Store) → Adds s (store_after (give_result line a r s))
given_adds line a result.Open s = Adds-itself s
given_adds line a (result.Known known) s = Adds-itself s
given_adds line a result.Unknown s = Adds-itself s

pub results_step : (line : ℕ) (a b : Arg) → Stays a b → StepFollows (Unit {0}) Same (gives_result line a) (gives_result line b)
results_step line a b h = record {
  follows = λ s t e. given_follows line a b h s.result t.result e.result s t e;
  grows = λ t. given_grows line b t.result t refl;
  adds = λ s. given_adds line a s.result s;
}
