-- A journal in two settings in which its bodies do the same.
use Rattle.std.proofs.Common.{◌≡◌, ◌≢◌, ◌↔◌, ℕ, ◌<◌, ◌≤◌, List, [], ◌∷◌, ◌++◌, length, map, Option, Some, None, ℤ, refl, sym, ap, ◌∙◌, subst, le_trans}
use Rattle.std.specs.Option.{option_map}
use Rattle.mpl_value.specs.declared.body.BodyEnd.TheVariants as end
use Rattle.mpl_value.specs.declared.body.BodyStart.{BodyStart}
use Rattle.mpl_value.specs.declared.body.CallMade.{CallMade}
use Rattle.mpl_mean.specs.Laws.Sizes.{Every}
use Rattle.mpl_mean.specs.Meaning.DirectRun.{main_start}
use Rattle.mpl_mean.proofs.Truth.{some_is}
use Rattle.mdf_mean.specs.Agree.{Agrees, SameJournal}
use Rattle.mdf_mean.specs.declared.entry.Entry.{Entry}
use Rattle.mdf_mean.specs.declared.entry.Entry.TheVariants.{Arrive, Accept, Reply}
use Rattle.mdf_mean.specs.Explained.{Closed, Explained, IsClosed, Justified, MayCome, Over, outcome_with, total_turns, turns_of}
use Rattle.mdf_mean.specs.Fits.{ArgumentsFit, Fits, Lawful}
use Rattle.mdf_mean.specs.Histories.{replies_to}
use Rattle.mdf_mean.specs.Meanings.{Meaning, Setting}
use Rattle.mdf_mean.specs.Picks.{Candidate, best_of, better, candidate, choices_of, greatest, open_at, pick, priority_of, waiting_call}
use Rattle.mdf_mean.specs.Ran.{Ran, accepted_start, bodies, class_of, known_call, last_on, ran, starts_of, state_left, state_of, with_call, words_of_object}
use Rattle.mdf_mean.proofs.Along.{Along}
use Rattle.mdf_mean.proofs.AlongAccepts.{created_by, state_fits}
use Rattle.mdf_mean.proofs.Basics.{by_option, every_map, every_numbered}
use Rattle.mdf_mean.proofs.Found.{made_by}
use Rattle.mdf_mean.proofs.Picked.{waits_as}
use Rattle.mdf_mean.proofs.Whole.{along, every_behind, none_spent, starts_fit, starts_stay, turns_grow}

-- ---- states

object_words : (m other : Meaning) → ((class : ℤ) → other.words class ≡ m.words class) → (class : Option ℤ) → words_of_object other class ≡ words_of_object m class
object_words m other h None = refl
object_words m other h (Some class) = h class

same_state : (m other : Meaning) → ((class : ℤ) → other.words class ≡ m.words class) → (bs : List Ran) (o : ℤ) → state_of other bs o ≡ state_of m bs o
same_state m other h bs o = ap (λ words. state_left words (last_on o bs)) (object_words m other h (class_of bs o))

same_with : (m other : Meaning) → ((class : ℤ) → other.words class ≡ m.words class) → (n : ℕ) (bs : List Ran) (starts : List BodyStart) (call : Option CallMade)
    → with_call other n bs starts call ≡ with_call m n bs starts call
same_with m other h n bs starts None = refl
same_with m other h n bs starts (Some call) = ap (λ state. accepted_start n state call ∷ starts) (same_state m other h bs call.object)

-- ---- alike

-- The second setting does as the first on explained journals of some kind, and their fronts are of that kind.
pub record Alike (s t : Setting) (P : List Entry → Type 0) : Type 0 where
  pub input : t.input ≡ s.input
  pub words : (class : ℤ) → t.meaning.words class ≡ s.meaning.words class
  pub fronts : (e : Entry) (h : List Entry) → Explained s (e ∷ h) → P (e ∷ h) → P h
  pub runs : (h : List Entry) → Explained s h → P h → Every (λ (b : BodyStart). ran t h b ≡ ran s h b) (starts_of s h)
  pub main : (h : List Entry) → Explained s h → P h → ran t h (main_start s.input) ≡ ran s h (main_start s.input)
  pub picks : (h : List Entry) → Explained s h → P h → (o : ℤ) → pick t.meaning (bodies s h) h o ≡ pick s.meaning (bodies s h) h o

map_same : {A B : Type 0} (f g : A → B) (xs : List A) → Every (λ x. f x ≡ g x) xs → map f xs ≡ map g xs
map_same f g [] h = refl
map_same f g (x ∷ xs) h = ap (λ y. y ∷ map f xs) h.0 ∙ ap (λ ys. g x ∷ ys) (map_same f g xs h.1)

module _ (s t : Setting) (P : List Entry → Type 0) (a : Alike s t P) where
  bodies_from : (h : List Entry) → Explained s h → P h → starts_of t h ≡ starts_of s h → bodies t h ≡ bodies s h
  bodies_from h e p i = ap (map (ran t h)) i ∙ map_same (ran t h) (ran s h) (starts_of s h) (a.runs h e p)

  same_starts : (h : List Entry) → Explained s h → P h → starts_of t h ≡ starts_of s h
  same_starts [] e p = ap (λ input. main_start input ∷ []) a.input
  same_starts (Arrive i k ∷ h) e p = same_starts h e.1 (a.fronts _ h e p)
  same_starts (Accept n i k ∷ h) e p =
      let q = a.fronts _ h e p in
      let i' = same_starts h e.1 q in
      let j' = bodies_from h e.1 q i' in
      ap (λ starts. with_call t.meaning n (bodies t h) starts (known_call (bodies t h) i k)) i'
      ∙ ap (λ bs. with_call t.meaning n bs (starts_of s h) (known_call bs i k)) j'
      ∙ same_with s.meaning t.meaning a.words n (bodies s h) (starts_of s h) (known_call (bodies s h) i k)
  same_starts (Reply i k v ∷ h) e p = same_starts h e.1 (a.fronts _ h e p)

  pub same_bodies : (h : List Entry) → Explained s h → P h → bodies t h ≡ bodies s h
  same_bodies h e p = bodies_from h e p (same_starts h e p)

  -- ---- what may come

  to_other : (h : List Entry) → Explained s h → P h → (e : Entry) → MayCome s.meaning (bodies s h) h e → MayCome t.meaning (bodies s h) h e
  to_other h x p (Arrive i k) may = may
  to_other h x p (Accept n i k) may =
      record { call = may.call; made = may.made; idle = may.idle; picked = a.picks h x p may.call.object ∙ may.picked; least = may.least; most = may.most; free = may.free }
  to_other h x p (Reply i k v) may = may

  from_other : (h : List Entry) → Explained s h → P h → (e : Entry) → MayCome t.meaning (bodies s h) h e → MayCome s.meaning (bodies s h) h e
  from_other h x p (Arrive i k) may = may
  from_other h x p (Accept n i k) may =
      record { call = may.call; made = may.made; idle = may.idle; picked = sym (a.picks h x p may.call.object) ∙ may.picked; least = may.least; most = may.most; free = may.free }
  from_other h x p (Reply i k v) may = may

  pub justified_there : (h : List Entry) → Explained s h → P h → (e : Entry) → Justified s h e → Justified t h e
  justified_there h x p e may = subst (λ bs. MayCome t.meaning bs h e) (sym (same_bodies h x p)) (to_other h x p e may)

  pub justified_here : (h : List Entry) → Explained s h → P h → (e : Entry) → Justified t h e → Justified s h e
  justified_here h x p e may = from_other h x p e (subst (λ bs. MayCome t.meaning bs h e) (same_bodies h x p) may)

  pub explained_there : (h : List Entry) → Explained s h → P h → Explained t h
  explained_there [] x p = tt
  explained_there (e ∷ h) x p = let q = a.fronts e h x p in (justified_there h x.1 q e x.0, explained_there h x.1 q)

  closed_there : (h : List Entry) → Explained s h → P h → Closed s h → Closed t h
  closed_there h x p c =
      subst (λ bs. IsClosed t.meaning bs h) (sym (same_bodies h x p)) (record { arrived = c.arrived; accepted = λ o idle. a.picks h x p o ∙ c.accepted o idle; replied = c.replied })

  closed_here : (h : List Entry) → Explained s h → P h → Closed t h → Closed s h
  closed_here h x p c =
      let d = subst (λ bs. IsClosed t.meaning bs h) (same_bodies h x p) c in
      record { arrived = d.arrived; accepted = λ o idle. sym (a.picks h x p o) ∙ d.accepted o idle; replied = d.replied }

  pub same_journal : (h : List Entry) → Explained s h → P h → SameJournal s t h
  same_journal h x p = record {
    starts = same_starts h x p;
    bodies = same_bodies h x p;
    justified = λ e. (justified_there h x p e, justified_here h x p e);
    explained = (λ _. explained_there h x p, λ _. x);
    closed = (closed_there h x p, closed_here h x p);
    turns = ap total_turns (same_bodies h x p);
    outcome = ap (λ input. outcome_with (ran t h (main_start input)).yield) a.input ∙ ap (λ (r : Ran). outcome_with r.yield) (a.main h x p);
  }

-- ---- more turns

-- the same with so many turns
abbrev pub with_turns : ℕ → Setting → Setting
with_turns n s = record s { turns = n }

turns_front : (s : Setting) (law : Lawful s.meaning) (e : Entry) (h : List Entry) → Explained s (e ∷ h) → turns_of s (e ∷ h) ≤ s.turns → turns_of s h ≤ s.turns
turns_front s law e h x le = le_trans (turns_grow s law (e ∷ []) h x) le

more_runs : (s : Setting) (law : Lawful s.meaning) (n : ℕ) → s.turns ≤ n → (h : List Entry) (starts : List BodyStart) → Every (λ (b : BodyStart). Fits s.meaning b (replies_to b.number h) s.turns) starts
    → Every (λ (b : BodyStart). (ran s h b).yield.end ≢ end.Spent) starts → Every (λ (b : BodyStart). ran (with_turns n s) h b ≡ ran s h b) starts
more_runs s law n le h [] f c = tt
more_runs s law n le h (b ∷ starts) f c =
    (ap (λ y. record { start = b; yield = y }) (law.more_turns b (replies_to b.number h) s.turns n f.0 c.0 le), more_runs s law n le h starts f.1 c.1)

main_among : (s : Setting) (h : List Entry) (P : BodyStart → Type 0) → Every P (starts_of s h) → P (main_start s.input)
main_among s h P e = let more = starts_stay_all s h in (every_behind P more.0 (main_start s.input ∷ []) (subst (Every P) more.1 e)).0 where
  starts_stay_all : (s : Setting) (h : List Entry) → (added : List BodyStart) × (starts_of s h ≡ added ++ (main_start s.input ∷ []))
  starts_stay_all s h = let more = starts_stay s h [] in (more.added, ap (starts_of s) (sym (end_of h)) ∙ more.is) where
    end_of : (xs : List Entry) → xs ++ [] ≡ xs
    end_of [] = refl
    end_of (x ∷ xs) = ap (λ ys. x ∷ ys) (end_of xs)

pub more_alike : (s : Setting) (law : Lawful s.meaning) (n : ℕ) → s.turns ≤ n → Alike s (with_turns n s) (λ h. turns_of s h ≤ s.turns)
more_alike s law n le = record {
  input = refl;
  words = λ class. refl;
  fronts = λ e h x p. turns_front s law e h x p;
  runs = λ h x p. more_runs s law n le h (starts_of s h) (starts_fit s law h x) (none_spent s law [] h x p);
  main = λ h x p. main_among s h (λ b. ran (with_turns n s) h b ≡ ran s h b) (more_runs s law n le h (starts_of s h) (starts_fit s law h x) (none_spent s law [] h x p));
  picks = λ h x p o. refl;
}

-- ---- another meaning

-- the same with another meaning
abbrev pub with_meaning : Meaning → Setting → Setting
with_meaning m s = record s { meaning = m }

agreed_runs : (s : Setting) (other : Meaning) → Agrees s.meaning other → (h : List Entry) (starts : List BodyStart) → Every (λ (b : BodyStart). Fits s.meaning b (replies_to b.number h) s.turns) starts
    → Every (λ (b : BodyStart). ran (with_meaning other s) h b ≡ ran s h b) starts
agreed_runs s other g h starts f =
    every_map _ (λ (b : BodyStart). ran (with_meaning other s) h b ≡ ran s h b) (λ b f. ap (λ y. record { start = b; yield = y }) (g.yields b (replies_to b.number h) s.turns f)) starts f

module _ (s : Setting) (law : Lawful s.meaning) (other : Meaning) (g : Agrees s.meaning other) (h : List Entry) (a : Along s h (starts_of s h)) where
  abbrev m : Meaning
  m = s.meaning

  state_words : (o class : ℤ) → class_of (bodies s h) o ≡ Some class → length (state_of s.meaning (bodies s h) o) ≡ s.meaning.words class
  state_words o class is =
      let by = created_by s h (starts_of s h) o class is in
      subst (λ c. length (state_of s.meaning (bodies s h) o) ≡ s.meaning.words c) (some_is (sym by.is ∙ is)) (state_fits s law h (starts_of s h) a o by)

  open_same : (o : ℤ) (i k : ℕ) (call : CallMade) → known_call (bodies s h) i k ≡ Some call
      → open_at (choices_of other (class_of (bodies s h) o)) (state_of other (bodies s h) o) call ≡ open_at (choices_of m (class_of (bodies s h) o)) (state_of m (bodies s h) o) call
  open_same o i k call made =
      let maker = made_by s h (starts_of s h) i k call made in
      let fits = every_numbered (λ (c : CallMade). ArgumentsFit c.args (m.sizes c.member)) _ k call (law.sizes maker.maker (replies_to i h) s.turns (a.fits i maker.maker maker.found)).calls maker.made in
      ap (λ state. open_at (choices_of other (class_of (bodies s h) o)) state call) (same_state m other g.words (bodies s h) o)
      ∙ by_option (class_of (bodies s h) o)
      (λ n. ap (λ class. open_at (choices_of other class) (state_of m (bodies s h) o) call) n ∙ sym (ap (λ class. open_at (choices_of m class) (state_of m (bodies s h) o) call) n))
      (λ class is.
      ap (λ class. open_at (choices_of other class) (state_of m (bodies s h) o) call) is
      ∙ g.choices class (state_of m (bodies s h) o) call (state_words o class is) maker.are_known fits
      ∙ sym (ap (λ class. open_at (choices_of m class) (state_of m (bodies s h) o) call) is))

  same_candidate : (o : ℤ) (i k : ℕ) → candidate other (bodies s h) h o i k ≡ candidate m (bodies s h) h o i k
  same_candidate o i k = ap (option_map (λ priority. record { priority = priority; name = record { body = i; call = k } })) (by_call (waiting_call (bodies s h) h o i k) refl) where
    by_call : (call : Option CallMade) → waiting_call (bodies s h) h o i k ≡ call → priority_of other (bodies s h) o call ≡ priority_of m (bodies s h) o call
    by_call None w = refl
    by_call (Some call) w = ap greatest (open_same o i k call (waits_as (bodies s h) h o i k call w).1)

  same_best : (o : ℤ) (part : List Entry) → best_of other (bodies s h) h o part ≡ best_of m (bodies s h) h o part
  same_best o [] = refl
  same_best o (Arrive i k ∷ part) = ap (λ c. better c (best_of other (bodies s h) h o part)) (same_candidate o i k) ∙ ap (better (candidate m (bodies s h) h o i k)) (same_best o part)
  same_best o (Accept n i k ∷ part) = same_best o part
  same_best o (Reply i k v ∷ part) = same_best o part

  pub same_pick : (o : ℤ) → pick other (bodies s h) h o ≡ pick m (bodies s h) h o
  same_pick o = ap (option_map (λ (c : Candidate). c.name)) (same_best o h)

pub agreed_alike : (s : Setting) (law : Lawful s.meaning) (other : Meaning) → Agrees s.meaning other → Alike s (with_meaning other s) (λ h. Unit {0})
agreed_alike s law other g = record {
  input = refl;
  words = g.words;
  fronts = λ e h x p. tt;
  runs = λ h x p. agreed_runs s other g h (starts_of s h) (starts_fit s law h x);
  main = λ h x p. main_among s h (λ b. ran (with_meaning other s) h b ≡ ran s h b) (agreed_runs s other g h (starts_of s h) (starts_fit s law h x));
  picks = λ h x p o. same_pick s law other g h (along s law h x) o;
}

-- what the other meaning explains is explained
pub agreed_explains : (s : Setting) (law : Lawful s.meaning) (other : Meaning) → Agrees s.meaning other → (h : List Entry) → Explained (with_meaning other s) h → Explained s h
agreed_explains s law other g [] x = tt
agreed_explains s law other g (e ∷ h) x =
    let y = agreed_explains s law other g h x.1 in (justified_here s (with_meaning other s) (λ h. Unit {0}) (agreed_alike s law other g) h y tt e x.0, y)

pub agreed_over : (s : Setting) (law : Lawful s.meaning) (other : Meaning) → Agrees s.meaning other → (h : List Entry) → Over s h ↔ Over (with_meaning other s) h
agreed_over s law other g h = (
  λ (o : Over s h). record {
    later = o.later;
    front = o.front;
    is = o.is;
    explained = explained_there s (with_meaning other s) (λ h. Unit {0}) (agreed_alike s law other g) o.front o.explained tt;
    turns = subst (λ n. s.turns < n) (sym (ap total_turns (same_bodies s (with_meaning other s) (λ h. Unit {0}) (agreed_alike s law other g) o.front o.explained tt))) o.turns;
  },
  λ (o : Over (with_meaning other s) h).
      let x = agreed_explains s law other g o.front o.explained in
      record {
        later = o.later;
        front = o.front;
        is = o.is;
        explained = x;
        turns = subst (λ n. s.turns < n) (ap total_turns (same_bodies s (with_meaning other s) (λ h. Unit {0}) (agreed_alike s law other g) o.front x tt)) o.turns;
      },
)
