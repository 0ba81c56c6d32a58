-- Laws of whole journals: what comes later only adds.
use Rattle.std.proofs.Common.{◌≡◌, ◌≢◌, ℕ, ◌<◌, ◌≤◌, ◌⊎◌, inl, inr, List, [], ◌∷◌, ◌++◌, map, Option, Some, None, refl, sym, ap, subst, arith, le_refl}
use Rattle.mpl_value.specs.declared.body.BodyEnd.{BodyEnd}
use Rattle.mpl_value.specs.declared.body.BodyEnd.TheVariants as end
use Rattle.mpl_value.specs.declared.body.BodyStart.{BodyStart}
use Rattle.mpl_value.specs.declared.body.CallMade.{CallMade}
use Rattle.mpl_value.specs.Growing.{Grows}
use Rattle.mpl_mean.specs.Laws.Sizes.{Every}
use Rattle.mdf_mean.specs.declared.entry.Entry.{Entry}
use Rattle.mdf_mean.specs.declared.entry.Entry.TheVariants.{Arrive, Accept, Reply}
use Rattle.mdf_mean.specs.Explained.{Explained, Justified, Over, total_turns, turns_of}
use Rattle.mdf_mean.specs.Fits.{AreAmong, Fits, Lawful}
use Rattle.mdf_mean.specs.Histories.{replies_to}
use Rattle.mdf_mean.specs.Later.{AddsTo}
use Rattle.mdf_mean.specs.Meanings.{Meaning, Setting}
use Rattle.mdf_mean.specs.Ran.{Ran, accepted_start, bodies, known_call, ran, starts_of, state_of, with_call}
use Rattle.mdf_mean.proofs.Along.{Along, among_itself, begins}
use Rattle.mdf_mean.proofs.AlongAccepts.{accepted}
use Rattle.mdf_mean.proofs.AlongReplies.{more_replies_with, replied}
use Rattle.mdf_mean.proofs.Basics.{every_map}
use Rattle.mdf_mean.proofs.Found.{find_start, free_absent, starts_with}

-- ---- along a journal

same_along : (s : Setting) (i k : ℕ) (h : List Entry) (starts : List BodyStart) → Along s h starts → Along s (Arrive i k ∷ h) starts
same_along s i k h starts a = record { apart = a.apart; fits = a.fits; answers = a.answers; links = a.links; classes = a.classes; created = a.created; made = a.made; silent = a.silent }

pub along : (s : Setting) (law : Lawful s.meaning) (h : List Entry) → Explained s h → Along s h (starts_of s h)
along s law [] e = begins s law
along s law (Arrive i k ∷ h) e = same_along s i k h (starts_of s h) (along s law h e.1)
along s law (Accept n i k ∷ h) e =
    subst (λ starts. Along s (Accept n i k ∷ h) starts) (sym (starts_with s h n i k e.0))
    (accepted s law h (starts_of s h) n i k e.0 (free_absent s h n e.0.least e.0.free) (along s law h e.1))
along s law (Reply i k v ∷ h) e = replied s law h (starts_of s h) i k v e.0 (along s law h e.1)

abbrev FitsAt : Setting → List Entry → BodyStart → Type 0
FitsAt s h b = Fits s.meaning b (replies_to b.number h) s.turns

pub starts_fit : (s : Setting) (law : Lawful s.meaning) (h : List Entry) → Explained s h → Every (λ (b : BodyStart). Fits s.meaning b (replies_to b.number h) s.turns) (starts_of s h)
starts_fit s law h e = let a = along s law h e in every_map (λ (b : BodyStart). find_start b.number (starts_of s h) ≡ Some b) (FitsAt s h) (λ b f. a.fits b.number b f) (starts_of s h) a.apart

-- ---- fronts

pub front_explained : (s : Setting) (later front : List Entry) → Explained s (later ++ front) → Explained s front
front_explained s [] front e = e
front_explained s (x ∷ later) front e = front_explained s later front e.1

pub stays_justified : (s : Setting) (later : List Entry) (entry : Entry) (front : List Entry) → Explained s (later ++ entry ∷ front) → Justified s front entry
stays_justified s [] entry front e = e.0
stays_justified s (x ∷ later) entry front e = stays_justified s later entry front e.1

with_added : (m : Meaning) (n : ℕ) (bs : List Ran) (starts old : List BodyStart) → AddsTo old starts → (call : Option CallMade) → AddsTo old (with_call m n bs starts call)
with_added m n bs starts old a None = a
with_added m n bs starts old a (Some call) = record { added = accepted_start n (state_of m bs call.object) call ∷ a.added; is = ap (λ xs. accepted_start n (state_of m bs call.object) call ∷ xs) a.is }

pub starts_stay : (s : Setting) (later front : List Entry) → AddsTo (starts_of s front) (starts_of s (later ++ front))
starts_stay s [] front = record { added = []; is = refl }
starts_stay s (Arrive i k ∷ later) front = starts_stay s later front
starts_stay s (Accept n i k ∷ later) front =
    with_added s.meaning n (bodies s (later ++ front)) (starts_of s (later ++ front)) (starts_of s front) (starts_stay s later front) (known_call (bodies s (later ++ front)) i k)
starts_stay s (Reply i k v ∷ later) front = starts_stay s later front

pub replies_stay : (s : Setting) (later front : List Entry) (j : ℕ) → Explained s (later ++ front) → AreAmong (replies_to j front) (replies_to j (later ++ front))
replies_stay s [] front j e = among_itself (replies_to j front)
replies_stay s (Arrive i k ∷ later) front j e = replies_stay s later front j e.1
replies_stay s (Accept n i k ∷ later) front j e = replies_stay s later front j e.1
replies_stay s (Reply i k v ∷ later) front j e = λ call known a. more_replies_with i k v (later ++ front) j e.0.first call known (replies_stay s later front j e.1 call known a)

pub every_behind : {A : Type 0} (P : A → Type 0) (xs ys : List A) → Every P (xs ++ ys) → Every P ys
every_behind P [] ys h = h
every_behind P (x ∷ xs) ys h = every_behind P xs ys h.1

every_both : {A : Type 0} (P Q : A → Type 0) (xs : List A) → Every P xs → Every Q xs → Every (λ x. P x × Q x) xs
every_both P Q [] p q = tt
every_both P Q (x ∷ xs) p q = ((p.0, q.0), every_both P Q xs p.1 q.1)

-- the starts of a front fit there and later
fit_twice : (s : Setting) (law : Lawful s.meaning) (later front : List Entry) → Explained s (later ++ front)
    → Every (λ b. FitsAt s front b × FitsAt s (later ++ front) b) (starts_of s front)
fit_twice s law later front e =
    let more = starts_stay s later front in
    every_both (FitsAt s front) (FitsAt s (later ++ front)) (starts_of s front) (starts_fit s law front (front_explained s later front e))
    (every_behind (FitsAt s (later ++ front)) more.added (starts_of s front) (subst (Every (FitsAt s (later ++ front))) more.is (starts_fit s law (later ++ front) e)))

-- ---- growing

pub by_spent : {P : Type 0} (e : BodyEnd) → (e ≡ end.Spent → P) → (e ≢ end.Spent → P) → P
by_spent end.Done is not_it = not_it (λ e. absurd cc)
by_spent (end.Trap t) is not_it = not_it (λ e. absurd cc)
by_spent end.Waits is not_it = not_it (λ e. absurd cc)
by_spent end.Spent is not_it = is refl

module _ (s : Setting) (law : Lawful s.meaning) (later front : List Entry) (e : Explained s (later ++ front)) where
  abbrev among : (b : BodyStart) → AreAmong (replies_to b.number front) (replies_to b.number (later ++ front))
  among b = replies_stay s later front b.number e

  -- what is spent stays spent
  spent_before : (b : BodyStart) → FitsAt s front b → FitsAt s (later ++ front) b → (ran s (later ++ front) b).yield.end ≢ end.Spent → (ran s front b).yield.end ≢ end.Spent
  spent_before b f g calm spent =
      let i = law.beyond b (replies_to b.number front) (replies_to b.number (later ++ front)) s.turns s.turns f (among b) (le_refl s.turns) spent in
      let j = law.within b (replies_to b.number (later ++ front)) s.turns g calm in
      absurd (omega (arith, i, j))

  grows_at : (b : BodyStart) → FitsAt s front b → FitsAt s (later ++ front) b → (ran s (later ++ front) b).yield.end ≢ end.Spent → Grows (ran s front b).yield (ran s (later ++ front) b).yield
  grows_at b f g calm = law.more_replies b (replies_to b.number front) (replies_to b.number (later ++ front)) s.turns f (among b) (spent_before b f g calm) calm

  turns_at : (b : BodyStart) → FitsAt s front b → FitsAt s (later ++ front) b → (ran s front b).yield.turns ≤ (ran s (later ++ front) b).yield.turns
  turns_at b f g = by_spent (ran s front b).yield.end
      (λ spent.
      let i = law.beyond b (replies_to b.number front) (replies_to b.number (later ++ front)) s.turns s.turns f (among b) (le_refl s.turns) spent in
      let j = law.spent b (replies_to b.number front) s.turns f spent in
      omega (arith, i, j))
      (λ calm. by_spent (ran s (later ++ front) b).yield.end
      (λ spent.
      let i = law.within b (replies_to b.number front) s.turns f calm in
      let j = law.spent b (replies_to b.number (later ++ front)) s.turns g spent in
      omega (arith, i, j))
      (λ still. (grows_at b f g still).turns))

pub bodies_grow : (s : Setting) (law : Lawful s.meaning) (later front : List Entry) → Explained s (later ++ front)
    → Every (λ (b : BodyStart). (ran s (later ++ front) b).yield.end ≢ end.Spent → Grows (ran s front b).yield (ran s (later ++ front) b).yield) (starts_of s front)
bodies_grow s law later front e = every_map _ _ (λ b f. grows_at s law later front e b f.0 f.1) (starts_of s front) (fit_twice s law later front e)

-- ---- turns

total_le : (f g : BodyStart → Ran) (starts : List BodyStart) → Every (λ b. (f b).yield.turns ≤ (g b).yield.turns) starts → total_turns (map f starts) ≤ total_turns (map g starts)
total_le f g [] h = omega arith
total_le f g (b ∷ starts) h = let r = total_le f g starts h.1 in let i = h.0 in omega (arith, r, i)

total_behind : (f : BodyStart → Ran) (added starts : List BodyStart) → total_turns (map f starts) ≤ total_turns (map f (added ++ starts))
total_behind f [] starts = le_refl _
total_behind f (b ∷ added) starts = let r = total_behind f added starts in omega (arith, r)

pub turns_grow : (s : Setting) (law : Lawful s.meaning) (later front : List Entry) → Explained s (later ++ front) → turns_of s front ≤ turns_of s (later ++ front)
turns_grow s law later front e =
    let more = starts_stay s later front in
    let i = total_le (ran s front) (ran s (later ++ front)) (starts_of s front) (every_map _ _ (λ b f. turns_at s law later front e b f.0 f.1) (starts_of s front) (fit_twice s law later front e)) in
    let j : total_turns (map (ran s (later ++ front)) (starts_of s front)) ≤ turns_of s (later ++ front) =
    subst (λ starts. total_turns (map (ran s (later ++ front)) (starts_of s front)) ≤ total_turns (map (ran s (later ++ front)) starts)) (sym more.is) (total_behind (ran s (later ++ front)) more.added (starts_of s front)) in
    omega (arith, i, j)

calm_all : (s : Setting) (law : Lawful s.meaning) (h : List Entry) (starts : List BodyStart) → Every (FitsAt s h) starts → total_turns (map (ran s h) starts) ≤ s.turns
    → Every (λ (b : BodyStart). (ran s h b).yield.end ≢ end.Spent) starts
calm_all s law h [] f le = tt
calm_all s law h (b ∷ starts) f le = (λ spent. absurd (let i = law.spent b (replies_to b.number h) s.turns f.0 spent in omega (arith, i)), calm_all s law h starts f.1 (omega arith))

-- where all turns are within the allowance no body of any front is spent
pub none_spent : (s : Setting) (law : Lawful s.meaning) (later front : List Entry) → Explained s (later ++ front) → turns_of s (later ++ front) ≤ s.turns
    → Every (λ (b : BodyStart). (ran s front b).yield.end ≢ end.Spent) (starts_of s front)
none_spent s law later front e le =
    let i = turns_grow s law later front e in
    calm_all s law front (starts_of s front) (starts_fit s law front (front_explained s later front e)) (omega (arith, i))

pub not_over : (s : Setting) (h : List Entry) → Explained s h → (Over s h → ⊥) → turns_of s h ≤ s.turns
not_over s h e over = by_order (least s.turns (turns_of s h)) where
  least : (m n : ℕ) → (m < n) ⊎ (n ≤ m)
  least m n = grind arith

  by_order : (s.turns < turns_of s h) ⊎ (turns_of s h ≤ s.turns) → turns_of s h ≤ s.turns
  by_order (inl more) = absurd (over (record { later = []; front = h; is = refl; explained = e; turns = more }))
  by_order (inr within) = within
