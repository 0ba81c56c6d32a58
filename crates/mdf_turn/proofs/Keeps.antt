-- Each kind of step keeps the rule.
use Rattle.std.proofs.Common.{◌≡◌, ℕ, zero, suc, ◌+◌, ◌*◌, ◌%◌, ◌≤◌, ◌<◌, ◌≢◌, Bool, true, false, eqb, List, [], ◌∷◌, ◌++◌, length, get_or, set, sym, refl, ap, ap₂, ◌∙◌, subst, ◌⊎◌, inl, inr, ⊎_elim, arith, eq-eqb, ne_eqb}
use Rattle.std.specs.Prelude.{Option, Some, None, Contains}
use mathlib.Core.Logic.{dite}
use mathlib.Core.Option.{none, some, some-injective, some-ne-none}
use native.Mathlib.Decide.{ℕ_discrete}
use lib.ListN.{get_elem?}
use prog.Atomic.{either}
use Rattle.atomic_table.specs.Table.{State, Me, step, Act, keeps, takes, gives, Valid, carried_after, stepped, rest, put_back, Allows, Splits, Joins, Final, Seen, opening}
use Rattle.atomic_table.proofs.Lists.{at_set, at_snoc, set_again, set_else}
use Rattle.std.proofs.lemmas.List.Elements.{Contains-append_cases}
use Rattle.mdf_turn.specs.declared.view.View.{View}
use Rattle.mdf_turn.specs.Prefixes.{StartsWith, after, longer}
use Rattle.mdf_turn.specs.Actors.{named, OthersStay, NameNone, NameOnlyFree, held_after}
use Rattle.mdf_turn.specs.Rule.{opened, HoldApart, IsHeld, Fits, IsFree, Kept}
use Rattle.mdf_turn.specs.Steps.{Takes, tried, view_given, given, Looks, view_kept, view_cut, view_joined, view_spent}
use Rattle.mdf_turn.proofs.PrefixLemmas.{starts_itself, starts_further, after-itself, after-longer, begins, starts_longer, starts_shorter, shorter_fits}
use Rattle.mdf_turn.proofs.ActorLemmas.{nothing, calm_nothing, calm_both, calm_held, calm_longer, calm_longer_other, out_stays, held_out, held_from}
use Rattle.mdf_turn.proofs.ViewLemmas.{at_set_here, set_swap, one_there, false_unless, holds_alone, true_or_false, total_parts-set, total_parts-snoc, all_in_one, apart-set, apart-snoc, SameInside, same_inside_set, same_inside_snoc, same_inside_twice, none_inside}

one_word : (ws : List ℕ) (w : ℕ) → ws ≡ w ∷ [] → set ws 0 (get_or ws 0 0) ≡ ws
one_word ws w e = ap (λ (l : List ℕ). set l 0 (get_or l 0 0)) e ∙ sym e

-- what stands in the slot that was taken last
abbrev last_slot : {T : Type 0} → List (ℕ × Option T) → Option T
last_slot [] = None
last_slot (x ∷ xs) = x.1

same_value : {T V : Type 0} (me : Me (Option T) V) (a b : T) → me.1 ≡ (0, Some a) ∷ [] → me.1 ≡ (0, Some b) ∷ [] → a ≡ b
same_value me a b p q = let e : Some a ≡ Some b = ap last_slot (sym p ∙ q) in cc

module _ {T J E : Type 0} (job : T → J) (events : T → List E) (actor : E → Option ℕ) (is_out : List E → ℕ → Bool) (root : J) (parts : ℕ) where
  abbrev V : Type 0
  V = View J E

  abbrev S : Type 0
  S = State (Option T) V

  abbrev M : Type 0
  M = Me (Option T) V

  abbrev FitsAt : List E → V → Type 0
  FitsAt log v = Fits job events actor is_out root log v

  abbrev Rule : S → Type 0
  Rule s = Kept job events actor is_out root parts s

  abbrev AllFit : List E → List V → Type 0
  AllFit log views = (seat : ℕ) (v : V) → get_elem? views seat ≡ some v → FitsAt log v

  abbrev Stands : List E → ℕ → S → Type 0
  Stands log turns s = IsFree job events actor is_out root log turns s ⊎ IsHeld log turns s

  abbrev with_views : S → List V → S
  with_views s views = record { words = s.words; homes = s.homes; views = views }

  fit-set : (log : List E) (views : List V) (id : ℕ) (w : V) → AllFit log views → FitsAt log w → AllFit log (set views id w)
  fit-set log views id w all one seat v at = ⊎_elim
      (λ (p : (seat ≡ id) × (w ≡ v)). subst (λ (z : V). FitsAt log z) p.1 one)
      (λ (p : (seat ≢ id) × (get_elem? views seat ≡ some v)). all seat v p.1)
      (at_set views id seat w v at)

  fit-snoc : (log : List E) (views : List V) (w : V) → AllFit log views → FitsAt log w → AllFit log (views ++ w ∷ [])
  fit-snoc log views w all one seat v at = ⊎_elim
      (λ (p : get_elem? views seat ≡ some v). all seat v p)
      (λ (p : w ≡ v). subst (λ (z : V). FitsAt log z) p one)
      (at_snoc views w v seat at)

  stands_along : (log : List E) (turns : ℕ) (s : S) (later : List V) → SameInside s.views later → Stands log turns s → Stands log turns (with_views s later)
  stands_along log turns s later same = ⊎_elim
      (λ (f : IsFree job events actor is_out root log turns s). inl record { word = f.word; value = f.value; home = f.home; job_is = f.job_is; log_is = f.log_is; outside = none_inside s.views later same f.outside })
      (λ (h : IsHeld log turns s). inr record {
        word = h.word;
        home = h.home;
        holder = h.holder;
        view = h.view;
        at = same.stay h.holder h.view h.at h.inside;
        inside = h.inside;
        number = h.number;
        found = h.found;
        alone = λ seat v there inside. h.alone seat v (same.come seat v there inside) inside;
      })

  word_again : (log : List E) (turns : ℕ) (s : S) → Stands log turns s → set s.words 0 (get_or s.words 0 0) ≡ s.words
  word_again log turns s = ⊎_elim (λ (f : IsFree job events actor is_out root log turns s). one_word s.words (2 * turns) f.word) (λ (h : IsHeld log turns s). one_word s.words (2 * turns + 1) h.word)

  unmoved : (s : S) (k : Rule s) (id : ℕ) (me : M) → get_elem? s.views id ≡ some me.0 → Rule (stepped s 0 (get_or s.words 0 0) id me.1 me.0 keeps)
  unmoved s k id me at = let same : stepped s 0 (get_or s.words 0 0) id me.1 me.0 keeps ≡ s = λ i. record { words = word_again k.log k.turns s k.stands i; homes = s.homes; views = set_again s.views id me.0 at i } in
      subst (λ (z : S). Rule z) (sym same) k

  pub opens : (value : T) → root ≡ job value → Rule (opening (0 ∷ []) (Some value ∷ []) (opened root (events value) parts))
  opens value is = record {
    log = events value;
    turns = 0;
    all = omega arith;
    fits = λ seat v there. only seat v there;
    apart = λ a b v w at_a at_b differ x has _. absurd (differ (zero_seat a v at_a ∙ sym (zero_seat b w at_b)));
    stands = inl record { word = refl; value = value; home = refl; job_is = sym is; log_is = refl; outside = λ seat v there. ap (λ (z : V). z.inside) (sym (only_view seat v there)) };
  }
    where
      first : V
      first = opened root (events value) parts

      zero_seat : (seat : ℕ) (v : V) → get_elem? (first ∷ []) seat ≡ some v → seat ≡ 0
      zero_seat zero v there = refl
      zero_seat (suc n) v there = absurd (some-ne-none v (sym there))

      only_view : (seat : ℕ) (v : V) → get_elem? (first ∷ []) seat ≡ some v → first ≡ v
      only_view zero v there = some-injective first v there
      only_view (suc n) v there = absurd (some-ne-none v (sym there))

      only : (seat : ℕ) (v : V) → get_elem? (first ∷ []) seat ≡ some v → FitsAt (events value) v
      only seat v there = subst (λ (z : V). FitsAt (events value) z) (only_view seat v there) record {
        root_is = λ _. refl;
        told_is = λ _. refl;
        seen = starts_itself (events value);
        told = record { rest = events value; is = refl };
        calm = λ x has. absurd (nothing x has);
        out = λ x has. absurd (nothing x has);
        has_part = λ inside. absurd (true_or_false false inside refl);
      }

  -- the view of a seat that takes the turn
  abbrev inside_now : M → T → ℕ → V
  inside_now me value turns = record me.0 { seen = events value; inside = true; turns = turns }

  taken : (s : S) (k : Rule s) (id : ℕ) (me : M) (word : ℕ) → get_elem? s.views id ≡ some me.0 → 0 < me.0.parts → word ≡ 2 * k.turns → (f : IsFree job events actor is_out root k.log k.turns s)
      → Rule (stepped s 0 (word + 1) id me.1 (inside_now me f.value k.turns) (takes 0 (Some f.value)))
  taken s k id me word at part is f = let w = inside_now me f.value k.turns in let mine = k.fits id me.0 at in let sum = total_parts-set s.views id me.0 w at in let all = k.all in record {
    log = k.log;
    turns = k.turns;
    all = omega arith;
    fits = fit-set k.log s.views id w k.fits record {
      root_is = mine.root_is;
      told_is = mine.told_is;
      seen = subst (λ (l : List E). StartsWith k.log l) (sym f.log_is) (starts_itself k.log);
      told = mine.told;
      calm = subst (λ (l : List E). NameNone actor l me.0.held) (sym (ap (λ l. after l k.log) f.log_is ∙ after-itself k.log)) (calm_nothing actor me.0.held);
      out = mine.out;
      has_part = λ _. part;
    };
    apart = apart-set s.views id w k.apart (holds_alone s.views id me.0 w k.apart at (λ x has. has));
    stands = inr record {
      word = ap (λ l. set l 0 (word + 1)) f.word ∙ ap (λ n. (n + 1) ∷ []) is;
      home = ap (λ l. set l 0 none) f.home;
      holder = id;
      view = w;
      at = at_set_here s.views id me.0 w at;
      inside = refl;
      number = refl;
      found = f.log_is;
      alone = λ seat v there inside. ⊎_elim
          (λ (p : (seat ≡ id) × (w ≡ v)). p.0)
          (λ (p : (seat ≢ id) × (get_elem? s.views seat ≡ some v)). absurd (true_or_false v.inside inside (f.outside seat v p.1)))
          (at_set s.views id seat w v there);
    };
  }

  -- the seat has a new view and an act that keep the rule, and the step tells `then`
  abbrev Goes : S → ℕ → M → (ℕ → ℕ) → (ℕ → M → Type 0) → Type 0
  Goes s id me f then = (w : V) × (a : Act (Option T)) × Valid s.homes me.1 a × Rule (stepped s 0 (f (get_or s.words 0 0)) id me.1 w a) × then (get_or s.words 0 0) (w, carried_after me.1 a)

  abbrev taking : ℕ → ℕ → ℕ
  taking word n = either (eqb n word) (word + 1) n

  takes_free : (slots id : ℕ) (me : M) (word : ℕ) (s : S) (k : Rule s) → get_elem? s.views id ≡ some me.0 → 0 < me.0.parts → me.1 ≡ [] → get_or s.words 0 0 ≡ word
      → IsFree job events actor is_out root k.log k.turns s → Goes s id me (taking word) (tried job events actor (step slots 0 word (word + 1) none) me)
  takes_free slots id me word s k at part empty hit f = let x : ℕ = get_or s.words 0 0 in let even : x ≡ 2 * k.turns = ap (λ l. get_or l 0 0) f.word in let mine = k.fits id me.0 at in
      let w = inside_now me f.value k.turns in (
        w,
        takes 0 (Some f.value),
        ap (λ l. get_elem? l 0) f.home,
        subst (λ b. Rule (stepped s 0 (either b (word + 1) x) id me.1 w (takes 0 (Some f.value)))) (sym (eq-eqb x word hit)) (taken s k id me word at part (sym hit ∙ even) f),
        (
          (λ _. (
            k.turns,
            even,
            record {
              value = f.value;
              view = refl;
              slot = ap (λ l. (0, Some f.value) ∷ l) empty;
              job_is = mine.root_is part ∙ ap (λ j. Some j) (sym f.job_is);
              seen = subst (λ (l : List E). StartsWith l me.0.seen) (sym f.log_is) mine.seen;
              calm = subst (λ (l : List E). NameNone actor (after me.0.seen l) me.0.held) (sym f.log_is) mine.calm;
            },
          )),
          λ miss. absurd (miss hit),
        ),
      )

  pub takes_turn : (slots id : ℕ) (me : M) (word : ℕ) → word % 2 ≡ 0 → 0 < me.0.parts → me.1 ≡ []
      → Allows Rule slots id me 0 (taking word) (tried job events actor (step slots 0 word (word + 1) none) me)
  takes_turn slots id me word even part empty s k _ at _ = let x : ℕ = get_or s.words 0 0 in dite (ℕ_discrete x word)
      (λ hit. ⊎_elim
      (λ (f : IsFree job events actor is_out root k.log k.turns s). takes_free slots id me word s k at part empty hit f)
      (λ (h : IsHeld k.log k.turns s). let odd : x ≡ 2 * k.turns + 1 = ap (λ l. get_or l 0 0) h.word in absurd (omega arith))
      k.stands)
      (λ miss. (
        me.0,
        keeps,
        tt,
        subst (λ b. Rule (stepped s 0 (either b (word + 1) x) id me.1 me.0 keeps)) (sym (ne_eqb x word miss)) (unmoved s k id me at),
        ((λ same. absurd (miss same)), λ _. refl),
      ))

  looks : (slots id : ℕ) (me : M) → 0 < me.0.parts → length me.0.seen_told ≤ length me.0.seen → Allows Rule slots id me 0 (λ n. n) (Looks (step slots 0 0 0 none) me)
  looks slots id me part less s k _ at _ = let mine = k.fits id me.0 at in (
    me.0,
    keeps,
    tt,
    unmoved s k id me at,
    record { same = refl; told = begins k.log me.0.seen_told me.0.seen mine.told mine.seen less; root = mine.root_is part ∙ sym (mine.told_is part) },
  )

  -- the look that follows a join
  pub looks_joined : (slots id : ℕ) (me : M) (v w : V) (carried : List (ℕ × Option T)) → me ≡ (view_joined v w, carried) → 0 < v.parts → Allows Rule slots id me 0 (λ n. n) (Looks (step slots 0 0 0 none) me)
  looks_joined slots id me v w carried is part = subst (λ (m : M). Allows Rule slots id m 0 (λ n. n) (Looks (step slots 0 0 0 none) m)) (sym is) (looks slots id (view_joined v w, carried) (omega arith) (shorter_fits v.seen w.seen))

  pub splits : (id : ℕ) (v : V) → v.inside ≡ false → 2 ≤ v.parts → Splits Rule id v (view_kept v) (view_cut v)
  splits id v outside two s k at = let mine = k.fits id v at in let left = view_kept v in let right = view_cut v in let views = set s.views id left in
      let sum = total_parts-set s.views id v left at in let more = total_parts-snoc views right in let all = k.all in record {
        log = k.log;
        turns = k.turns;
        all = omega arith;
        fits = fit-snoc k.log views right
            (fit-set k.log s.views id left k.fits record {
              root_is = λ _. mine.root_is (omega arith);
              told_is = λ _. mine.told_is (omega arith);
              seen = mine.seen;
              told = mine.told;
              calm = mine.calm;
              out = mine.out;
              has_part = λ inside. absurd (true_or_false v.inside inside outside);
            })
            record {
              root_is = λ _. mine.root_is (omega arith);
              told_is = λ _. mine.told_is (omega arith);
              seen = mine.seen;
              told = mine.told;
              calm = λ x has. absurd (nothing x has);
              out = λ x has. absurd (nothing x has);
              has_part = λ inside. absurd (true_or_false v.inside inside outside);
            };
        apart = apart-snoc views right (apart-set s.views id left k.apart (holds_alone s.views id v left k.apart at (λ x has. has))) refl;
        stands = stands_along k.log k.turns s (views ++ right ∷ [])
            (same_inside_twice s.views views (views ++ right ∷ []) (same_inside_set s.views id v left at outside outside) (same_inside_snoc views right outside)) k.stands;
      }

  -- the view of two that were made one fits, as they did
  fit-joined : (log : List E) (v w : V) → FitsAt log v → FitsAt log w → 0 < v.parts → 0 < w.parts → v.inside ≡ false → FitsAt log (view_joined v w)
  fit-joined log v w a b part other_part outside = record {
    root_is = λ _. a.root_is part;
    told_is = λ _. b.root_is other_part;
    seen = starts_longer log v.seen w.seen a.seen b.seen;
    told = starts_shorter log v.seen w.seen a.seen b.seen;
    calm = calm_held actor (after (longer v.seen w.seen) log) v.held w.held
        (calm_longer actor log v.seen w.seen v.held a.seen b.seen a.calm) (calm_longer_other actor log v.seen w.seen w.held a.seen b.seen b.calm);
    out = λ x has. ⊎_elim (a.out x) (b.out x) (Contains-append_cases v.held w.held x has);
    has_part = λ inside. absurd (true_or_false v.inside inside outside);
  }

  fit-spent : (log : List E) → FitsAt log view_spent
  fit-spent log = record {
    root_is = λ some_part. absurd (omega arith);
    told_is = λ some_part. absurd (omega arith);
    seen = record { rest = log; is = refl };
    told = record { rest = log; is = refl };
    calm = λ x has. absurd (nothing x has);
    out = λ x has. absurd (nothing x has);
    has_part = λ inside. absurd (true_or_false false inside refl);
  }

  joined_views : (id : ℕ) (v : V) (other : ℕ) (w : V) (s : S) (k : Rule s) → v.inside ≡ false → w.inside ≡ false → 0 < v.parts → 0 < w.parts
      → get_elem? s.views id ≡ some v → ¬ (other ≡ id) → get_elem? s.views other ≡ some w → Rule (with_views s (set (set s.views other view_spent) id (view_joined v w)))
  joined_views id v other w s k outside outside' part part' at differ there =
      let both = view_joined v w in let first = set s.views other view_spent in let last = set first id both in
      let at' : get_elem? first id ≡ some v = set_else s.views other id view_spent (λ same. differ (sym same)) ∙ at in
      let sum = total_parts-set s.views other w view_spent there in let sum' = total_parts-set first id v both at' in let all = k.all in record {
        log = k.log;
        turns = k.turns;
        all = omega arith;
        fits = fit-set k.log first id both (fit-set k.log s.views other view_spent k.fits (fit-spent k.log))
            (fit-joined k.log v w (k.fits id v at) (k.fits other w there) part part' outside);
        apart = apart-set first id both (apart-set s.views other view_spent k.apart (λ seat u t d x has. absurd (nothing x has)))
            (λ seat u t d x has has_u. ⊎_elim
            (λ (p : (seat ≡ other) × (view_spent ≡ u)). nothing x (subst (λ (z : V). Contains z.held x) (sym p.1) has_u))
            (λ (p : (seat ≢ other) × (get_elem? s.views seat ≡ some u)). ⊎_elim
            (λ (l : Contains v.held x). k.apart id seat v u at p.1 (λ same. d (sym same)) x l has_u)
            (λ (r : Contains w.held x). k.apart other seat w u there p.1 (λ same. p.0 (sym same)) x r has_u)
            (Contains-append_cases v.held w.held x has))
            (at_set s.views other seat view_spent u t));
        stands = stands_along k.log k.turns s last
            (same_inside_twice s.views first last (same_inside_set s.views other w view_spent there outside' refl) (same_inside_set first id v both at' outside outside)) k.stands;
      }

  pub joins : (id : ℕ) (v : V) (other : ℕ) (w : V) → v.inside ≡ false → w.inside ≡ false → 0 < v.parts → 0 < w.parts → Joins Rule id v other w (view_joined v w) view_spent
  joins id v other w outside outside' part part' s k at differ there =
      let there' : get_elem? s.views other ≡ some w = sym (set_else s.views id other (view_joined v w) differ) ∙ there in
      subst (λ (l : List V). Rule (with_views s l)) (set_swap s.views other id view_spent (view_joined v w) differ) (joined_views id v other w s k outside outside' part part' at differ there')

  -- where one pass has all parts, the turn is free
  free_at_last : (s : S) (k : Rule s) (id : ℕ) (v : V) → get_elem? s.views id ≡ some v → v.inside ≡ false → v.parts ≡ parts → IsFree job events actor is_out root k.log k.turns s
  free_at_last s k id v at outside whole = let all = k.all in ⊎_elim
      (λ (f : IsFree job events actor is_out root k.log k.turns s). f)
      (λ (h : IsHeld k.log k.turns s). absurd (dite (ℕ_discrete h.holder id)
      (λ same. let e : h.view ≡ v = one_there s.views id h.view v (subst (λ (z : ℕ). get_elem? s.views z ≡ some h.view) same h.at) at in
      true_or_false h.view.inside h.inside (ap (λ (z : V). z.inside) e ∙ outside))
      (λ differ. let none_left : h.view.parts ≡ 0 = all_in_one s.views id h.holder v h.view at h.at differ (omega arith) in
      let some_left = (k.fits h.holder h.view h.at).has_part h.inside in let absurdity : ⊥ = omega arith in absurdity)))
      k.stands

  -- What the last pass finds in the slot: a value of the turn's job, whose log begins with what the pass has seen
  pub record IsLast (v : V) (found : Option T) : Type 0 where
    pub value : T
    pub is : found ≡ Some value
    pub job_is : v.root ≡ Some (job value)
    pub seen : StartsWith (events value) v.seen

  pub closes : (id : ℕ) (v : V) (words : List ℕ) (slots : List (Option T)) (found : Option T) → get_elem? slots 0 ≡ some found → v.inside ≡ false → v.parts ≡ parts → 0 < v.parts
      → Final (Seen Rule id v) words slots → IsLast v found
  closes id v words slots found there outside whole part last = let s = last.0 in let k = last.1.0 in let at = last.1.1 in let mine = k.fits id v at in
      let f = free_at_last s k id v at outside whole in record {
        value = f.value;
        is = some-injective found (Some f.value) (sym there ∙ last.4 0 (Some f.value) (ap (λ l. get_elem? l 0) f.home));
        job_is = mine.root_is part ∙ ap (λ j. Some j) (sym f.job_is);
        seen = subst (λ (l : List E). StartsWith l v.seen) (sym f.log_is) mine.seen;
      }

  pub last_job : (v : V) (found : Option T) (value : T) → IsLast v found → found ≡ Some value → v.root ≡ Some (job value)
  last_job v found value l is = let e : Some l.value ≡ Some value = sym l.is ∙ is in let same : l.value ≡ value = cc in l.job_is ∙ ap (λ z. Some (job z)) same

  pub last_seen : (v : V) (found : Option T) (value : T) → IsLast v found → found ≡ Some value → StartsWith (events value) v.seen
  last_seen v found value l is = let e : Some l.value ≡ Some value = sym l.is ∙ is in let same : l.value ≡ value = cc in subst (λ (z : T). StartsWith (events z) v.seen) same l.seen

  -- what a take tells of the value that was in the slot
  pub taken_calm : (turns : ℕ) (before now : M) (value : T) → Takes job events actor turns before now → now.1 ≡ (0, Some value) ∷ [] → NameNone actor (after before.0.seen (events value)) before.0.held
  taken_calm turns before now value step is = subst (λ (z : T). NameNone actor (after before.0.seen (events z)) before.0.held) (same_value now step.value value step.slot is) step.calm

  module _ (has_ended : List E → Bool) (stay : OthersStay actor is_out) where
    abbrev new_view : T → V → V
    new_view value v = view_given events actor is_out has_ended value v

    -- the events of a leaver name nobody whom another holds
    unnamed : (log : List E) (views : List V) (id : ℕ) (v u : V) (seat : ℕ) → HoldApart views → FitsAt v.seen u → get_elem? views id ≡ some v → get_elem? views seat ≡ some u → ¬ (seat ≡ id)
        → NameOnlyFree actor is_out (after v.seen log) v.held v.seen → NameNone actor (after v.seen log) u.held
    unnamed log views id v u seat apart fit at there differ free x has named = ⊎_elim
        (λ (mine : Contains v.held x). apart id seat v u at there (λ same. differ (sym same)) x mine has)
        (λ (back : is_out v.seen x ≡ false). true_or_false (is_out v.seen x) (fit.out x has) back)
        (free x named)

    fit-other : (log found : List E) (u : V) → StartsWith log found → FitsAt found u → NameNone actor (after found log) u.held → FitsAt log u
    fit-other log found u more fit calm = record {
      root_is = fit.root_is;
      told_is = fit.told_is;
      seen = starts_further log found u.seen more fit.seen;
      told = starts_further log found u.seen_told more fit.told;
      calm = subst (λ (l : List E). NameNone actor l u.held) (sym (after-longer log found u.seen more fit.seen)) (calm_both actor (after u.seen found) (after found log) u.held fit.calm calm);
      out = λ x has. out_stays actor is_out stay log found more x (calm x has) (fit.out x has);
      has_part = fit.has_part;
    }

    fit-leaver : (value : T) (v : V) → StartsWith (events value) v.seen → FitsAt v.seen v → FitsAt (events value) (new_view value v)
    fit-leaver value v more fit = let log = events value in record {
      root_is = fit.root_is;
      told_is = fit.told_is;
      seen = starts_itself log;
      told = starts_further log v.seen v.seen_told more fit.told;
      calm = let held = held_after actor is_out has_ended v.held v.seen log in subst (λ (l : List E). NameNone actor l held) (sym (after-itself log)) (calm_nothing actor held);
      out = held_out actor is_out has_ended v.held v.seen log;
      has_part = λ inside. absurd (true_or_false false inside refl);
    }

    given_back : (s : S) (k : Rule s) (h : IsHeld k.log k.turns s) (id : ℕ) (me : M) (value : T) (word : ℕ) → get_elem? s.views id ≡ some me.0 → me.1 ≡ (0, Some value) ∷ [] → h.holder ≡ id → h.view ≡ me.0
        → word ≡ 2 * me.0.turns + 2 → job value ≡ root → StartsWith (events value) me.0.seen → NameOnlyFree actor is_out (after me.0.seen (events value)) me.0.held me.0.seen
        → Rule (stepped s 0 word id me.1 (new_view value me.0) gives)
    given_back s k h id me value word at slot is_me view_is number of_root more free =
        let v = me.0 in let w = new_view value v in let log = events value in let sum = total_parts-set s.views id v w at in let all = k.all in
        let found : v.seen ≡ k.log = ap (λ (z : V). z.seen) (sym view_is) ∙ h.found in
        let turns_is : v.turns ≡ k.turns = ap (λ (z : V). z.turns) (sym view_is) ∙ h.number in
        let fits : AllFit v.seen s.views = subst (λ (l : List E). AllFit l s.views) (sym found) k.fits in
        let calm : (seat : ℕ) (u : V) → get_elem? s.views seat ≡ some u → ¬ (seat ≡ id) → NameNone actor (after v.seen log) u.held = λ seat u there differ.
        unnamed log s.views id v u seat k.apart (fits seat u there) at there differ free in record {
          log = log;
          turns = k.turns + 1;
          all = omega arith;
          fits = λ seat u there. ⊎_elim
              (λ (p : (seat ≡ id) × (w ≡ u)). subst (λ (z : V). FitsAt log z) p.1 (fit-leaver value v more (fits id v at)))
              (λ (p : (seat ≢ id) × (get_elem? s.views seat ≡ some u)). fit-other log v.seen u more (fits seat u p.1) (calm seat u p.1 p.0))
              (at_set s.views id seat w u there);
          apart = apart-set s.views id w k.apart (λ seat u there differ x has has_u. ⊎_elim
              (λ (mine : Contains v.held x). k.apart id seat v u at there (λ same. differ (sym same)) x mine has_u)
              (λ (new : Contains (named actor (after v.seen log)) x). calm seat u there differ x has_u new)
              (held_from actor is_out has_ended v.held v.seen log x has));
          stands = inl record {
            word = ap (λ l. set l 0 word) h.word ∙ ap (λ n. n ∷ []) (number ∙ omega arith);
            value = value;
            home = ap (λ c. put_back s.homes c) slot ∙ ap (λ l. set l 0 (some (Some value))) h.home;
            job_is = of_root;
            log_is = refl;
            outside = λ seat u there. ⊎_elim
                (λ (p : (seat ≡ id) × (w ≡ u)). ap (λ (z : V). z.inside) (sym p.1))
                (λ (p : (seat ≢ id) × (get_elem? s.views seat ≡ some u)). false_unless u.inside (λ inside. p.0 (h.alone seat u p.1 inside ∙ is_me)))
                (at_set s.views id seat w u there);
          };
        }

    gives_turn : (slots id : ℕ) (me : M) (value : T) (word : ℕ) → me.1 ≡ (0, Some value) ∷ [] → me.0.inside ≡ true → word ≡ 2 * me.0.turns + 2 → me.0.root ≡ Some (job value)
        → StartsWith (events value) me.0.seen → NameOnlyFree actor is_out (after me.0.seen (events value)) me.0.held me.0.seen
        → Allows Rule slots id me 0 (λ _. word) (λ _. given events actor is_out has_ended (step slots 0 word 0 none) me word)
    gives_turn slots id me value word slot inside number of_root more free s k _ at _ = ⊎_elim
        (λ (f : IsFree job events actor is_out root k.log k.turns s). absurd (true_or_false me.0.inside inside (f.outside id me.0 at)))
        (λ (h : IsHeld k.log k.turns s).
        let mine = k.fits id me.0 at in
        let is_me : id ≡ h.holder = h.alone id me.0 at inside in
        let view_is : h.view ≡ me.0 = one_there s.views id h.view me.0 (subst (λ (z : ℕ). get_elem? s.views z ≡ some h.view) (sym is_me) h.at) at in
        let same_job : Some (job value) ≡ Some root = sym of_root ∙ mine.root_is (mine.has_part inside) in
        let job_is : job value ≡ root = cc in (
          new_view value me.0,
          gives,
          tt,
          given_back s k h id me value word at slot (sym is_me) view_is number job_is more free,
          (number, λ other slot'. ap₂ (λ x c. (new_view x me.0, rest c)) (same_value me value other slot slot') slot'),
        ))
        k.stands

    -- the same where the slot was put in just before
    pub gives_put : (slots id : ℕ) (me : M) (v : V) (value : T) (word : ℕ) → me ≡ (v, (0, Some value) ∷ []) → v.inside ≡ true → word ≡ 2 * v.turns + 2 → v.root ≡ Some (job value)
        → StartsWith (events value) v.seen → NameOnlyFree actor is_out (after v.seen (events value)) v.held v.seen
        → Allows Rule slots id me 0 (λ _. word) (λ _. given events actor is_out has_ended (step slots 0 word 0 none) me word)
    gives_put slots id me v value word is inside number of_root more free =
        subst (λ (m : M). Allows Rule slots id m 0 (λ _. word) (λ _. given events actor is_out has_ended (step slots 0 word 0 none) m word)) (sym is)
        (gives_turn slots id (v, (0, Some value) ∷ []) value word refl inside number of_root more free)
