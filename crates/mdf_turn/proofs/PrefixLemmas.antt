-- Logs that begin with one another.
use Rattle.std.proofs.Common.{◌≡◌, ◌≤◌, ◌<◌, ◌⊎◌, inl, inr, ⊎_elim, Bool, true, false, List, [], ◌∷◌, ◌++◌, length, drop, leb, cond, sym, refl, ap, ap₂, ◌∙◌, arith, append_assoc, append-nil, length-append}
use Rattle.std.proofs.Math.Seq.{drop-append_seam}
use Rattle.std.proofs.lemmas.List.{drop-append-le}
use Rattle.std.proofs.lemmas.Bool.{leb-true, leb-false}
use Rattle.mdf_turn.specs.Prefixes.{StartsWith, after, longer, shorter}

module _ {E : Type 0} where
  pub starts_itself : (log : List E) → StartsWith log log
  starts_itself log = record { rest = []; is = sym (append-nil log) }

  pub starts_further : (log found seen : List E) → StartsWith log found → StartsWith found seen → StartsWith log seen
  starts_further log found seen a b = record { rest = b.rest ++ a.rest; is = a.is ∙ (ap (λ l. l ++ a.rest) b.is ∙ append_assoc seen b.rest a.rest) }

  pub length_seen : (log seen : List E) → StartsWith log seen → length seen ≤ length log
  length_seen log seen s = omega (arith, ap length s.is, length-append seen s.rest)

  pub after-itself : (log : List E) → after log log ≡ []
  after-itself log = ap (drop (length log)) (sym (append-nil log)) ∙ drop-append_seam log []

  pub after-seen : (log seen : List E) (s : StartsWith log seen) → after seen log ≡ s.rest
  after-seen log seen s = ap (drop (length seen)) s.is ∙ drop-append_seam seen s.rest

  -- what stands behind what was seen is what stood there before, and then what was added
  pub after-longer : (log found seen : List E) → StartsWith log found → StartsWith found seen → after seen log ≡ after seen found ++ after found log
  after-longer log found seen a b =
      ap (drop (length seen)) a.is ∙ (drop-append-le (length seen) found a.rest (length_seen found seen b) ∙ ap (λ l. after seen found ++ l) (sym (after-seen log found a)))

  one_begins : (a b x y : List E) → a ++ x ≡ b ++ y → length a ≤ length b → StartsWith b a
  one_begins [] b x y same less = record { rest = b; is = refl }
  one_begins (c ∷ cs) [] x y same less = absurd (omega arith)
  one_begins (c ∷ cs) (d ∷ ds) x y same less = let tail : cs ++ x ≡ ds ++ y = cc in let head : d ≡ c = cc in
      let r = one_begins cs ds x y tail (omega arith) in record { rest = r.rest; is = ap₂ (λ e es. e ∷ es) head r.is }

  -- of two beginnings of one log the shorter begins the longer
  pub begins : (log a b : List E) → StartsWith log a → StartsWith log b → length a ≤ length b → StartsWith b a
  begins log a b s t less = one_begins a b s.rest t.rest (sym s.is ∙ t.is) less

  -- both beginnings of one log, as the longer and the shorter
  pub starts_longer : (log a b : List E) → StartsWith log a → StartsWith log b → StartsWith log (longer a b)
  starts_longer log a b s t = elim (leb (length b) (length a)) as (λ c. StartsWith log (cond c a b)) [ true ↦ s | false ↦ t ]

  pub starts_shorter : (log a b : List E) → StartsWith log a → StartsWith log b → StartsWith log (shorter a b)
  starts_shorter log a b s t = elim (leb (length b) (length a)) as (λ c. StartsWith log (cond c b a)) [ true ↦ t | false ↦ s ]

  -- the longer is one of the two, and the other no longer than it; the shorter is that other one
  pub longer_cases : (a b : List E) → ((longer a b ≡ a) × (shorter a b ≡ b) × (length b ≤ length a)) ⊎ ((longer a b ≡ b) × (shorter a b ≡ a) × (length a ≤ length b))
  longer_cases a b = by_test (leb (length b) (length a)) refl
    where
      by_test : (c : Bool) → leb (length b) (length a) ≡ c → ((cond c a b ≡ a) × (cond c b a ≡ b) × (length b ≤ length a)) ⊎ ((cond c a b ≡ b) × (cond c b a ≡ a) × (length a ≤ length b))
      by_test true is = inl (refl, refl, leb-true (length b) (length a) is)
      by_test false is = let less : length a < length b = leb-false (length b) (length a) is in inr (refl, refl, omega arith)

  pub shorter_fits : (a b : List E) → length (shorter a b) ≤ length (longer a b)
  shorter_fits a b = ⊎_elim
      (λ (c : (longer a b ≡ a) × (shorter a b ≡ b) × (length b ≤ length a)). omega (arith, c.2, ap length c.0, ap length c.1))
      (λ (c : (longer a b ≡ b) × (shorter a b ≡ a) × (length a ≤ length b)). omega (arith, c.2, ap length c.0, ap length c.1))
      (longer_cases a b)
