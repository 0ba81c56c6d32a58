-- What is stored, declared, made and given keeps the sizes.
use Rattle.std.proofs.Common.{◌≡◌, ℕ, zero, suc, ◌+◌, ◌≤◌, Bool, true, false, List, [], ◌∷◌, ◌++◌, length, map, take, drop, Option, Some, if◌then◌else◌, ℤ, refl, sym, ap, subst, ◌∙◌, arith}
use Rattle.std.proofs.lemmas.List.{length-append, length-drop, length-take-le}
use Rattle.std.specs.Str.{bytes_eq}
use Rattle.mpl_ast.specs.declared.program.Declaration.{Declaration}
use Rattle.mpl_value.specs.declared.body.Arg.{Arg}
use Rattle.mpl_value.specs.declared.body.Arg.TheVariants.{Know, Trapped, Unknown}
use Rattle.mpl_value.specs.declared.body.BodyEnd.TheVariants as end
use Rattle.mpl_value.specs.declared.body.BodyResult.{BodyResult}
use Rattle.mpl_value.specs.declared.body.BodyResult.TheVariants as result
use Rattle.mpl_mean.specs.Meaning.Context.{Context}
use Rattle.mpl_mean.specs.Meaning.ExpressionMeaning.{next_of, next_number}
use Rattle.mpl_mean.specs.Meaning.Layout.{Class}
use Rattle.mpl_value.specs.Growing.{IsFront}
use Rattle.mpl_mean.specs.Laws.Sizes.{Every}
use Rattle.mpl_mean.specs.Meaning.StatementMeaning.{Effect, created, give_result, gives_result, while_loop}
use Rattle.mpl_value.specs.Results.{result_of}
use Rattle.mpl_mean.specs.Meaning.Store.{Store, Goes, Step, Variable, hold, holding, printed, variable_named}
use Rattle.mpl_value.specs.Words.{with_words, words_at}
use Rattle.mpl_mean.specs.Meaning.Values.{Value, is_true}
use Rattle.mpl_mean.proofs.MoreReplies.Follows.{store_after}
use Rattle.mpl_mean.proofs.Sizes.SizedSteps.{ArgIn, Frame, GivenIn, Keeps, Fits, VariableFits, After, bare, variable_words, front_itself, give_keeps, stop_keeps, spend_keeps, then_keeps, from_premise, if_keeps}
use Rattle.mpl_mean.proofs.Truth.{some_is}

-- ---- words

pub words_at_long : (offset count : ℕ) (words : List ℤ) → offset + count ≤ length words → length (words_at offset count words) ≡ count
words_at_long offset count words h = length-take-le count (drop offset words) (omega (arith, length-drop offset words))

pub with_words_long : (offset : ℕ) (new words : List ℤ) → offset + length new ≤ length words → length (with_words offset new words) ≡ length words
with_words_long offset new words h =
    omega (
      arith,
      length-append (take offset words) (new ++ drop (offset + length new) words),
      length-append new (drop (offset + length new) words),
      length-take-le offset words (omega arith),
      length-drop (offset + length new) words,
    )

pub every_append : {A : Type 0} (P : A → Type 0) (xs ys : List A) → Every P xs → Every P ys → Every P (xs ++ ys)
every_append P [] ys h k = k
every_append P (x ∷ xs) ys h k = (h.0, every_append P xs ys h.1 k)

-- ---- variables

pub bare_holding : (name : List ℕ) (a : Arg) (vs : List Variable) → map bare (holding name a vs) ≡ map bare vs
bare_holding name a [] = refl
bare_holding name a (v ∷ vs) = chosen (bytes_eq v.name name) (bare_holding name a vs) where
  chosen : (b : Bool) → map bare (holding name a vs) ≡ map bare vs → map bare (if b then record v { holds = a } ∷ vs else v ∷ holding name a vs) ≡ map bare (v ∷ vs)
  chosen true e = refl
  chosen false e = ap (λ ws. bare v ∷ ws) e

-- what the newest variable of this name may hold
abbrev pub MayHold : Type 0 → List Declaration → List ℕ → Arg → List Variable → Type 0
MayHold W ds name a vs = (w : Variable) × (variable_named name vs ≡ Some w) × ArgIn W (variable_words ds w) a

pub holding_fits : (W : Type 0) (ds : List Declaration) (name : List ℕ) (a : Arg) (vs : List Variable) → MayHold W ds name a (map bare vs) → Every (VariableFits W ds) vs → Every (VariableFits W ds) (holding name a vs)
holding_fits W ds name a [] m h = tt
holding_fits W ds name a (v ∷ vs) m h = chosen (bytes_eq v.name name) m.1 (holding_fits W ds name a vs) where
  chosen : (b : Bool) → (if b then Some (bare v) else variable_named name (map bare vs)) ≡ Some m.0 → (MayHold W ds name a (map bare vs) → Every (VariableFits W ds) vs → Every (VariableFits W ds) (holding name a vs))
      → Every (VariableFits W ds) (if b then record v { holds = a } ∷ vs else v ∷ holding name a vs)
  chosen true e k = (subst (λ (w : Variable). ArgIn W (variable_words ds w) a) (sym (some_is e)) m.2, h.1)
  chosen false e k = (h.0, k (m.0, e, m.2) h.1)

module _ (G : Frame) (vs : List Variable) where
  pub hold_keeps : {P : Type 0} (name : List ℕ) (a : Arg) → (P → MayHold G.MayWait G.declarations name a vs) → Keeps G vs P (Unit {0}) (λ _. Unit {0}) (hold name a)
  hold_keeps name a m = record {
    grows = λ s. front_itself s.calls;
    holds = λ s q w. (
      (q.0, tt),
      (
        bare_holding name a s.variables ∙ q.1.0,
        holding_fits G.MayWait G.declarations name a s.variables (subst (λ vs. MayHold G.MayWait G.declarations name a vs) (sym q.1.0) (m q.0)) q.1.1,
        q.1.2,
      ),
    );
  }

  -- ---- the state, what is printed and what is read

  pub state_keeps : {P : Type 0} → Keeps G vs P (List ℤ) (λ words. length words ≡ G.state_words) (λ s. Goes s.state s)
  state_keeps = record { grows = λ s. front_itself s.calls; holds = λ s q w. ((q.0, q.1.2.state), q.1) }

  pub restates_keeps : {P : Type 0} (offset : ℕ) (new : List ℤ) → (P → offset + length new ≤ G.state_words)
      → Keeps G vs P (Unit {0}) (λ _. Unit {0}) (λ s. Goes tt (record s { state = with_words offset new s.state }))
  restates_keeps offset new m = record {
    grows = λ s. front_itself s.calls;
    holds = λ s q w.
        let i = m q.0 in
        let j = q.1.2.state in
        ((q.0, tt), (q.1.0, q.1.1, record { state = with_words_long offset new s.state (omega arith) ∙ j; calls = q.1.2.calls; result = q.1.2.result }));
  }

  pub prints_keeps : {P : Type 0} (text : List ℕ) → Keeps G vs P (Unit {0}) (λ _. Unit {0}) (printed text)
  prints_keeps text = record { grows = λ s. front_itself s.calls; holds = λ s q w. ((q.0, tt), q.1) }

  pub inputs_keeps : {P : Type 0} (line : ℕ) → Keeps G vs P Value (λ v. length v.words ≡ 1) (next_number line)
  inputs_keeps {P} line = record { grows = λ s. grown s.input s; holds = λ s q w. held s.input s q } where
    grown : (input : List ℤ) (s : Store) → IsFront s.calls (store_after (next_of line input s)).calls
    grown [] s = front_itself s.calls
    grown (z ∷ input) s = front_itself s.calls

    held : (input : List ℤ) (s : Store) → P × Fits G vs s → After G (λ (v : Value) s. (P × (length v.words ≡ 1)) × Fits G vs s) (next_of line input s)
    held [] s q = (q.1.2, tt)
    held (z ∷ input) s q = ((q.0, refl), q.1)

  pub created_keeps : {P : Type 0} (x : Context) (class : Class) → Keeps G vs P ℤ (λ _. Unit {0}) (created x class)
  created_keeps x class = record { grows = λ s. front_itself s.calls; holds = λ s q w. ((q.0, tt), q.1) }

  -- ---- results

  given_fits : (a : Arg) (words : Option ℕ) (n : ℕ) → words ≡ Some n → ArgIn G.MayWait n a → GivenIn G.MayWait words (result_of a)
  given_fits (Know value) words n e h = subst (λ w. GivenIn G.MayWait w (result_of (Know value))) (sym e) h
  given_fits (Trapped t) words n e h = subst (λ w. GivenIn G.MayWait w (result_of (Trapped t))) (sym e) tt
  given_fits Unknown words n e h = subst (λ w. GivenIn G.MayWait w (result_of Unknown)) (sym e) h

  pub results_keeps : {P : Type 0} (line : ℕ) (a : Arg) → (P → (n : ℕ) × (G.result_words ≡ Some n) × ArgIn G.MayWait n a) → Keeps G vs P (Unit {0}) (λ _. Unit {0}) (gives_result line a)
  results_keeps {P} line a m = record { grows = λ s. grown s.result s; holds = λ s q w. held s.result s q } where
    grown : (r : BodyResult) (s : Store) → IsFront s.calls (store_after (give_result line a r s)).calls
    grown result.Open s = front_itself s.calls
    grown (result.Known known) s = front_itself s.calls
    grown result.Unknown s = front_itself s.calls

    held : (r : BodyResult) (s : Store) → P × Fits G vs s → After G (λ _ s. (P × Unit {0}) × Fits G vs s) (give_result line a r s)
    held result.Open s q =
        ((q.0, tt), (q.1.0, q.1.1, record { state = q.1.2.state; calls = q.1.2.calls; result = let i = m q.0 in given_fits a G.result_words i.0 i.1 i.2 }))
    held (result.Known known) s q = (q.1.2, tt)
    held result.Unknown s q = (q.1.2, tt)

  -- ---- loops

  pub loops_keep : {P : Type 0} {V : Value → Type 0} (fuel turns : ℕ) {f : Step Value} {h : Effect} → Keeps G vs P Value V f → Keeps G vs P (Unit {0}) (λ _. Unit {0}) h
      → Keeps G vs P (Unit {0}) (λ _. Unit {0}) (while_loop fuel turns f h)
  loops_keep zero turns t u = stop_keeps G vs end.Spent (λ p. tt)
  loops_keep {P} {V} (suc fuel) turns {f} {h} t u =
      then_keeps G vs (spend_keeps G vs turns) (λ _.
      then_keeps G vs (from_premise G vs (λ p. p.0) t) (λ v.
      if_keeps G vs (is_true v)
      (then_keeps G vs {h = λ _. while_loop fuel turns f h} (from_premise G vs (λ p. p.0.0) u) (λ _. from_premise G vs (λ p. p.0.0.0) (loops_keep fuel turns t u)))
      (give_keeps G vs tt (λ p. tt))))
