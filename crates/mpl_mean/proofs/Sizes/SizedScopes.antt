-- What is declared in a scope goes with it.
use Rattle.std.proofs.Common.{◌≡◌, ℕ, zero, suc, ◌-◌, List, [], ◌∷◌, ◌++◌, length, map, drop, refl, sym, ap, subst, ◌∙◌, arith}
use Rattle.std.proofs.lemmas.List.{append_assoc, length-append}
use Rattle.std.proofs.Math.Seq.{drop-append_seam}
use Rattle.mpl_value.specs.Growing.{IsFront}
use Rattle.mpl_mean.specs.Laws.Sizes.{Every}
use Rattle.mpl_mean.specs.Meaning.StatementMeaning.{Effect}
use Rattle.mpl_mean.specs.Meaning.Store.{Store, Outcome, Goes, Returns, Ends, Step, Variable, ◌>>=◌, ◌>>◌, declare, in_scope, oldest, only_oldest}
use Rattle.mpl_mean.proofs.MoreReplies.Follows.{store_after}
use Rattle.mpl_mean.proofs.Sizes.SizedSteps.{Frame, Triple, Keeps, Fits, VariableFits, After, Within, bare, concludes, front_itself, then_triple}

-- From a premise a step adds variables to those in scope, of which something holds then.
abbrev pub Moved : Frame → List Variable → Type 0 → (List Variable → Type 0) → Store → Type 0
Moved G vs P Q s = P × ((added : List Variable) × Q (added ++ vs) × Fits G (added ++ vs) s)

abbrev pub Moves : Frame → List Variable → Type 0 → (List Variable → Type 0) → Effect → Type 0
Moves G vs P Q f = Triple G (Unit {0}) (λ s. P × Fits G vs s) (λ _ s. Moved G vs P Q s) f

pub still_moves : {G : Frame} {vs : List Variable} {P : Type 0} (Q : List Variable → Type 0) {V : Unit {0} → Type 0} {f : Effect}
    → (P → Q vs) → Keeps G vs P (Unit {0}) V f → Moves G vs P Q f
still_moves {G} {vs} {P} Q {V} {f} m t = concludes G (λ _ s q. (q.0.0, ([], m q.0.0, q.1))) t

pub so_moves : {G : Frame} {vs : List Variable} {P P' : Type 0} (Q R : List Variable → Type 0) {f : Effect} → (P → P') → ((ws : List Variable) → P → Q ws → R ws)
    → Moves G vs P' Q f → Moves G vs P R f
so_moves {G} {vs} {P} {P'} Q R {f} p r t = record { grows = t.grows; holds = λ s q w. more q.0 (f s) (t.holds s (p q.0, q.1) w) } where
  more : P → (o : Outcome (Unit {0})) → After G (λ _ s. Moved G vs P' Q s) o → After G (λ _ s. Moved G vs P R s) o
  more q (Goes a s) i = (q, (i.1.0, r _ q i.1.1, i.1.2))
  more q (Returns words s) i = i
  more q (Ends e s) i = i

pub then_moves : {G : Frame} {vs : List Variable} {P : Type 0} (Q R : List Variable → Type 0) {f g : Effect} → Moves G vs P Q f
    → ((ws : List Variable) → Moves G ws (P × Q ws) R g) → Moves G vs P R (f >> g)
then_moves {G} {vs} {P} Q R {f} {g} t r = then_triple G (λ s. P × Fits G vs s) (λ _ s. Moved G vs P Q s) (λ _ s. Moved G vs P R s) f (λ _. g) t
    (λ _. record { grows = (r vs).grows; holds = λ s q w. further q.1.0 (g s) ((r (q.1.0 ++ vs)).holds s ((q.0, q.1.1), q.1.2) w) }) where
      further : (added : List Variable) → (o : Outcome (Unit {0})) → After G (λ _ s. Moved G (added ++ vs) (P × Q (added ++ vs)) R s) o → After G (λ _ s. Moved G vs P R s) o
      further added (Goes a s) i =
          (i.0.0, (i.1.0 ++ added, subst R (sym (append_assoc i.1.0 added vs)) i.1.1, subst (λ ws. Fits G ws s) (sym (append_assoc i.1.0 added vs)) i.1.2))
      further added (Returns words s) i = i
      further added (Ends e s) i = i

-- a value, and then what is done with it
pub keeps_then_moves : {G : Frame} {vs : List Variable} {P : Type 0} {A : Type 0} (V : A → Type 0) (Q : List Variable → Type 0) {f : Step A} {h : A → Effect} → Keeps G vs P A V f
    → ((a : A) → Moves G vs (P × V a) Q (h a)) → Moves G vs P Q (f >>= h)
keeps_then_moves {G} {vs} {P} {A} V Q {f} {h} t r =
    then_triple G (λ s. P × Fits G vs s) (λ a s. (P × V a) × Fits G vs s) (λ _ s. Moved G vs P Q s) f h t (λ a. concludes G (λ _ s q. (q.0.0, q.1)) (r a))

pub declare_moves : {G : Frame} {vs : List Variable} {P : Type 0} (Q : List Variable → Type 0) (v : Variable) → (P → VariableFits G.MayWait G.declarations v) → (P → Q (bare v ∷ vs))
    → Moves G vs P Q (declare v)
declare_moves {G} {vs} Q v m r = record {
  grows = λ s. front_itself s.calls;
  holds = λ s q w. (q.0, (bare v ∷ [], r q.0, (ap (λ ws. bare v ∷ ws) q.1.0, (m q.0, q.1.1), q.1.2)));
}

-- ---- scopes

every_drop : (P : Variable → Type 0) (n : ℕ) (vs : List Variable) → Every P vs → Every P (drop n vs)
every_drop P zero vs h = h
every_drop P (suc n) [] h = tt
every_drop P (suc n) (v ∷ vs) h = every_drop P n vs h.1

bare_drop : (n : ℕ) (vs : List Variable) → map bare (drop n vs) ≡ drop n (map bare vs)
bare_drop zero vs = refl
bare_drop (suc n) [] = refl
bare_drop (suc n) (v ∷ vs) = bare_drop n vs

bare_long : (vs : List Variable) → length (map bare vs) ≡ length vs
bare_long [] = refl
bare_long (v ∷ vs) = ap suc (bare_long vs)

-- the variables that were there before
older : (before after added : List Variable) → map bare after ≡ added ++ map bare before → map bare (oldest (length before) after) ≡ map bare before
older before after added e =
    let long : length after - length before ≡ length added = omega (arith, bare_long before, bare_long after, ap length e, length-append added (map bare before)) in
    bare_drop (length after - length before) after ∙ (ap (λ vs. drop (length after - length before) vs) e
    ∙ (ap (λ n. drop n (added ++ map bare before)) long ∙ drop-append_seam added (map bare before)))

pub scope_keeps : {G : Frame} {vs : List Variable} {P : Type 0} (Q : List Variable → Type 0) {f : Effect} → Moves G vs P Q f → Keeps G vs P (Unit {0}) (λ _. Unit {0}) (in_scope f)
scope_keeps {G} {vs} {P} Q {f} t = record {
  grows = λ s. grown (length s.variables) s (f s) (t.grows s);
  holds = λ s q w. held s q.1.0 (f s) (t.holds s q (within (length s.variables) (f s) w));
} where
  grown : (n : ℕ) (s : Store) (o : Outcome (Unit {0})) → IsFront s.calls (store_after o).calls → IsFront s.calls (store_after (only_oldest n o)).calls
  grown n s (Goes a t) h = h
  grown n s (Returns words t) h = h
  grown n s (Ends e t) h = h

  within : (n : ℕ) (o : Outcome (Unit {0})) → Within G (store_after (only_oldest n o)) → Within G (store_after o)
  within n (Goes a t) h = h
  within n (Returns words t) h = h
  within n (Ends e t) h = h

  held : (s : Store) → map bare s.variables ≡ vs → (o : Outcome (Unit {0})) → After G (λ _ s. Moved G vs P Q s) o → After G (λ _ s. (P × Unit {0}) × Fits G vs s) (only_oldest (length s.variables) o)
  held s e (Goes a t) i =
      ((i.0, tt), (older s.variables t.variables i.1.0 (i.1.2.0 ∙ ap (λ ws. i.1.0 ++ ws) (sym e)) ∙ e, every_drop _ (length t.variables - length s.variables) t.variables i.1.2.1, i.1.2.2))
  held s e (Returns words t) i = i
  held s e (Ends end t) i = i
