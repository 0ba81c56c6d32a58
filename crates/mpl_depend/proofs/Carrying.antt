-- What a path carries to a place comes from one place.
use Rattle.std.proofs.Common.{◌≡◌, ◌+◌, ℕ, Bool, true, false, [], ◌∷◌, ◌++◌, if◌then◌else◌, refl, ap, sym, true≢false, ◌∙◌, arith}
use Rattle.std.specs.Prelude.{nat_eq}
use Rattle.std.proofs.lemmas.Bool.{eq-eqb, eqb-true, ne_eqb}
use Rattle.mpl_mean.specs.Pending.Looseness.{Event, Loosens, Settles, Copies, Forces, Loose, Path, behind_event, behind_path, where_one_is}
use Rattle.mpl_depend.specs.Internal.Carried.{AreIn, Places, event_on, path_on}

pub carried_both : (p q : Path) (places : Places) → path_on (p ++ q) places ≡ path_on q (path_on p places)
carried_both [] q places = refl
carried_both (event ∷ p) q places = carried_both p q (event_on event places)

-- where what stands at a place comes from
abbrev pub Source : (Places → Places) → Places → ℕ → Type 0
Source carried places place = (from : ℕ) × (places from ≡ true) × ((other : Places) → other from ≡ true → carried other place ≡ true)

at_one : (n m : ℕ) (b : Bool) (places : Places) → nat_eq n m ≡ true → where_one_is n b places m ≡ b
at_one n m b places e = ap (λ t. if t then b else places m) e

at_other : (n m : ℕ) (b : Bool) (places : Places) → nat_eq n m ≡ false → where_one_is n b places m ≡ places m
at_other n m b places e = ap (λ t. if t then b else places m) e

cleared_source : (n m : ℕ) (places : Places) → where_one_is n false places m ≡ true → Source (λ other. where_one_is n false other) places m
cleared_source n m places h = by_place (nat_eq n m) refl where
  by_place : (t : Bool) → nat_eq n m ≡ t → Source (λ other. where_one_is n false other) places m
  by_place true e = absurd (true≢false (sym h ∙ at_one n m false places e))
  by_place false e = (m, sym (at_other n m false places e) ∙ h, λ other is. at_other n m false other e ∙ is)

copied_source : (n j m : ℕ) (places : Places) → where_one_is n (places j) places m ≡ true → Source (λ other. where_one_is n (other j) other) places m
copied_source n j m places h = by_place (nat_eq n m) refl where
  by_place : (t : Bool) → nat_eq n m ≡ t → Source (λ other. where_one_is n (other j) other) places m
  by_place true e = (j, sym (at_one n m (places j) places e) ∙ h, λ other is. at_one n m (other j) other e ∙ is)
  by_place false e = (m, sym (at_other n m (places j) places e) ∙ h, λ other is. at_other n m (other j) other e ∙ is)

pub event_source : (event : Event) (places : Places) (m : ℕ) → event_on event places m ≡ true → Source (event_on event) places m
event_source (Loosens n) places m h = copied_source (n + 1) 0 m places h
event_source (Settles n) places m h = cleared_source (n + 1) m places h
event_source (Copies n j) places m h = copied_source (n + 1) (j + 1) m places h
event_source (Forces node n) places m h = cleared_source (n + 1) m places h

pub path_source : (path : Path) (places : Places) (n : ℕ) → path_on path places n ≡ true → Source (path_on path) places n
path_source [] places n h = (n, h, λ other is. is)
path_source (event ∷ path) places n h = further (path_source path (event_on event places) n h) where
  before : (m : ℕ) → ((other : Places) → other m ≡ true → path_on path other n ≡ true) → Source (event_on event) places m → Source (path_on (event ∷ path)) places n
  before m f from = (from.0, from.1, λ other is. f (event_on event other) (from.2 other is))

  further : Source (path_on path) (event_on event places) n → Source (path_on (event ∷ path)) places n
  further from = before from.0 from.2 (event_source event places from.0 from.1)

-- of more a path carries more
pub carried_more : (path : Path) (few many : Places) (n : ℕ) → AreIn few many → path_on path few n ≡ true → path_on path many n ≡ true
carried_more path few many n more h = let from = path_source path few n h in from.2 many (more from.0 from.1)

pub event_more : (event : Event) (few many : Places) → AreIn few many → AreIn (event_on event few) (event_on event many)
event_more event few many more = λ n h. let from = event_source event few n h in from.2 many (more from.0 from.1)

-- ---- the definition's

-- a path comes, and these variables are loose
pub record Shows (places : Places) (loose : Loose) : Type 0 where
  pub comes : places 0 ≡ true
  pub same : (variable : ℕ) → places (variable + 1) ≡ loose variable

set_shown : (n : ℕ) (b c : Bool) (places : Places) (loose : Loose) → b ≡ c → Shows places loose → Shows (where_one_is (n + 1) b places) (where_one_is n c loose)
set_shown n b c places loose e shows = record {
  comes = at_other (n + 1) 0 b places (ne_eqb (n + 1) 0 (λ e. absurd (let e' : n + 1 ≡ 0 = e in omega arith))) ∙ shows.comes;
  same = λ m. by_place m (nat_eq n m) refl;
} where
  by_place : (m : ℕ) (t : Bool) → nat_eq n m ≡ t → where_one_is (n + 1) b places (m + 1) ≡ where_one_is n c loose m
  by_place m true h = at_one (n + 1) (m + 1) b places (eq-eqb (n + 1) (m + 1) (ap (λ k. k + 1) (eqb-true n m h))) ∙ (e ∙ sym (at_one n m c loose h))
  by_place m false h = at_other (n + 1) (m + 1) b places (ne_eqb (n + 1) (m + 1) (λ e. true≢false (sym (eq-eqb n m (let e' : n + 1 ≡ m + 1 = e in omega arith)) ∙ h))) ∙ (shows.same m ∙ sym (at_other n m c loose h))

event_shown : (event : Event) (places : Places) (loose : Loose) → Shows places loose → Shows (event_on event places) (behind_event event loose)
event_shown (Loosens n) places loose shows = set_shown n (places 0) true places loose shows.comes shows
event_shown (Settles n) places loose shows = set_shown n false false places loose refl shows
event_shown (Copies n j) places loose shows = set_shown n (places (j + 1)) (loose j) places loose (shows.same j) shows
event_shown (Forces node n) places loose shows = set_shown n false false places loose refl shows

pub path_shown : (path : Path) (places : Places) (loose : Loose) → Shows places loose → Shows (path_on path places) (behind_path path loose)
path_shown [] places loose shows = shows
path_shown (event ∷ path) places loose shows = path_shown path (event_on event places) (behind_event event loose) (event_shown event places loose shows)
