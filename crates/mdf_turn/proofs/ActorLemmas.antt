-- The actors that events name, and those that are held.
use Rattle.std.proofs.Common.{◌≡◌, ℕ, ◌≤◌, Bool, true, false, cond, List, [], ◌++◌, length, sym, ap, ◌∙◌, subst, ◌⊎◌, ⊎_elim, arith}
use Rattle.std.specs.Prelude.{Option, Contains, filter}
use Rattle.std.proofs.lemmas.List.Elements.{Contains-append_right, Contains-append_cases, filter_map-append, All-filter, All-contains, All-contains_itself, filter_passes}
use Rattle.mdf_turn.specs.Prefixes.{StartsWith, after, longer, shorter}
use Rattle.mdf_turn.specs.Actors.{named, OthersStay, NameNone, held_after}
use Rattle.mdf_turn.proofs.PrefixLemmas.{after-seen, after-longer, begins, longer_cases}

pub nothing : (x : ℕ) → ¬ Contains [] x
nothing x c = absurd (omega (arith, c.1))

module _ {E : Type 0} (actor : E → Option ℕ) where
  pub named_cases : (xs ys : List E) (x : ℕ) → Contains (named actor (xs ++ ys)) x → Contains (named actor xs) x ⊎ Contains (named actor ys) x
  named_cases xs ys x c = Contains-append_cases (named actor xs) (named actor ys) x (subst (λ (l : List ℕ). Contains l x) (filter_map-append actor xs ys) c)

  pub named_later : (xs ys : List E) (x : ℕ) → Contains (named actor ys) x → Contains (named actor (xs ++ ys)) x
  named_later xs ys x c = subst (λ (l : List ℕ). Contains l x) (sym (filter_map-append actor xs ys)) (Contains-append_right (named actor xs) (named actor ys) x c)

  pub calm_nothing : (held : List ℕ) → NameNone actor [] held
  calm_nothing held x h c = nothing x c

  pub calm_both : (xs ys : List E) (held : List ℕ) → NameNone actor xs held → NameNone actor ys held → NameNone actor (xs ++ ys) held
  calm_both xs ys held a b x h c = ⊎_elim (a x h) (b x h) (named_cases xs ys x c)

  pub calm_later : (xs ys : List E) (held : List ℕ) → NameNone actor (xs ++ ys) held → NameNone actor ys held
  calm_later xs ys held a x h c = a x h (named_later xs ys x c)

  -- what two hold
  pub calm_held : (xs : List E) (held more : List ℕ) → NameNone actor xs held → NameNone actor xs more → NameNone actor xs (held ++ more)
  calm_held xs held more a b x h c = ⊎_elim (λ (l : Contains held x). a x l c) (λ (r : Contains more x). b x r c) (Contains-append_cases held more x h)

  -- what stands behind the longer of two beginnings stands behind either
  pub calm_longer : (log a b : List E) (held : List ℕ) → StartsWith log a → StartsWith log b → NameNone actor (after a log) held → NameNone actor (after (longer a b) log) held
  calm_longer log a b held s t calm = ⊎_elim
      (λ (c : (longer a b ≡ a) × (shorter a b ≡ b) × (length b ≤ length a)). subst (λ (l : List E). NameNone actor (after l log) held) (sym c.0) calm)
      (λ (c : (longer a b ≡ b) × (shorter a b ≡ a) × (length a ≤ length b)). subst (λ (l : List E). NameNone actor (after l log) held) (sym c.0)
      (calm_later (after a b) (after b log) held (subst (λ (l : List E). NameNone actor l held) (after-longer log b a t (begins log a b s t c.2)) calm)))
      (longer_cases a b)

  pub calm_longer_other : (log a b : List E) (held : List ℕ) → StartsWith log a → StartsWith log b → NameNone actor (after b log) held → NameNone actor (after (longer a b) log) held
  calm_longer_other log a b held s t calm = ⊎_elim
      (λ (c : (longer a b ≡ a) × (shorter a b ≡ b) × (length b ≤ length a)). subst (λ (l : List E). NameNone actor (after l log) held) (sym c.0)
      (calm_later (after b a) (after a log) held (subst (λ (l : List E). NameNone actor l held) (after-longer log a b s (begins log b a t s c.2)) calm)))
      (λ (c : (longer a b ≡ b) × (shorter a b ≡ a) × (length a ≤ length b)). subst (λ (l : List E). NameNone actor (after l log) held) (sym c.0) calm)
      (longer_cases a b)

  module _ (is_out : List E → ℕ → Bool) where
    -- an actor that is out stays so where the added events don't name it
    pub out_stays : OthersStay actor is_out → (log found : List E) → StartsWith log found → (x : ℕ) → ¬ Contains (named actor (after found log)) x → is_out found x ≡ true → is_out log x ≡ true
    out_stays stay log found s x unnamed out = let P : List E → Type 0 = λ l. ¬ Contains (named actor l) x in let is = stay found s.rest x (subst P (after-seen log found s) unnamed) in
        ap (λ l. is_out l x) s.is ∙ (is ∙ out)

    module _ (has_ended : List E → Bool) where
      -- what is held afterwards is out, and was held or is named
      pub held_out : (held : List ℕ) (found log : List E) (x : ℕ) → Contains (held_after actor is_out has_ended held found log) x → is_out log x ≡ true
      held_out held found log x = ended (has_ended log)
        where
          ended : (b : Bool) → Contains (cond b [] (filter (is_out log) (held ++ named actor (after found log)))) x → is_out log x ≡ true
          ended true c = absurd (nothing x c)
          ended false c = let both = held ++ named actor (after found log) in All-contains (λ y. is_out log y ≡ true) (filter (is_out log) both) x (filter_passes (is_out log) both) c

      pub held_from : (held : List ℕ) (found log : List E) (x : ℕ) → Contains (held_after actor is_out has_ended held found log) x → Contains held x ⊎ Contains (named actor (after found log)) x
      held_from held found log x = ended (has_ended log)
        where
          from : Contains (held ++ named actor (after found log)) x → Contains held x ⊎ Contains (named actor (after found log)) x
          from = Contains-append_cases held (named actor (after found log)) x

          ended : (b : Bool) → Contains (cond b [] (filter (is_out log) (held ++ named actor (after found log)))) x → Contains held x ⊎ Contains (named actor (after found log)) x
          ended true c = absurd (nothing x c)
          ended false c = let both = held ++ named actor (after found log) in from (All-contains (Contains both) (filter (is_out log) both) x (All-filter (is_out log) (Contains both) both (All-contains_itself both)) c)
