-- A checked step that is as it is meant, and the path that it follows.
use Rattle.std.proofs.Common.{◌≡◌, List, [], ◌∷◌, ◌++◌, refl, ap, sym, subst, ◌∙◌}
use Rattle.mpl_mean.specs.Meaning.Store.{Store, Outcome, Goes, Returns, Ends, Step, and_then}
use Rattle.mpl_mean.specs.Plain.Scopes.{Shape}
use Rattle.mpl_mean.specs.Pending.Looseness.{Event, Loose, Path, behind_event, behind_path}
use Rattle.mpl_mean.specs.Pending.Paths.{Ways, NoEvent, Only, Then, Either, Through, nothing, only, in_turn, one_way, other_way}
use Rattle.mpl_checked.specs.Checked.CheckedSteps.{Checked, Meant, CheckedStep, goes_on}
use Rattle.mpl_checked.proofs.Covering.{behind_both}
use Rattle.mpl_checked.proofs.Standing.{Beside}

-- where a step goes on, it has followed a path
abbrev pub Follows : {A : Type 0} → Ways → List Shape → Loose → (Loose → A → Type 0) → Outcome A → Type 0
Follows {A} ways scope loose P (Goes a s) = (path : Path) × Through ways path × Beside (behind_path path loose) scope s.variables × P (behind_path path loose) a
Follows {A} ways scope loose P (Returns words s) = Unit {0}
Follows {A} ways scope loose P (Ends e s) = Unit {0}

pub record Agrees {A : Type 0} (ways : Ways) (scope : List Shape) (loose : Loose) (P : Loose → A → Type 0) (k : Checked (Outcome A)) (o : Outcome A) : Type 0 where
  pub same : k ≡ Meant o
  pub follows : Follows ways scope loose P o

abbrev pub Any : {A : Type 0} → Loose → A → Type 0
Any loose a = Unit {0}

-- ---- one after another

followed : {A : Type 0} (first second : Ways) (scope : List Shape) (loose : Loose) (P : Loose → A → Type 0) (p : Path) (o : Outcome A) → Through first p
    → Follows second scope (behind_path p loose) P o → Follows (Then first second) scope loose P o
followed first second scope loose P p (Goes a s) t f =
    (p ++ f.0, in_turn t f.1, subst (λ l. Beside l scope s.variables) (sym (behind_both p f.0 loose)) f.2, subst (λ l. P l a) (sym (behind_both p f.0 loose)) f.3)
followed first second scope loose P p (Returns words s) t f = tt
followed first second scope loose P p (Ends e s) t f = tt

pub then_agrees : {A B : Type 0} (first second : Ways) (mid scope : List Shape) (loose : Loose) (P : Loose → A → Type 0) (Q : Loose → B → Type 0)
    (k : Checked (Outcome A)) (o : Outcome A) (kh : A → CheckedStep B) (h : A → Step B) → Agrees first mid loose P k o
    → ((a : A) (s : Store) (path : Path) → Through first path → Beside (behind_path path loose) mid s.variables → P (behind_path path loose) a
    → Agrees second scope (behind_path path loose) Q (kh a s) (h a s))
    → Agrees (Then first second) scope loose Q (goes_on k kh) (and_then o h)
then_agrees first second mid scope loose P Q k (Goes a s) kh h is f =
    let next = f a s is.follows.0 is.follows.1 is.follows.2 is.follows.3 in
    record { same = ap (λ k. goes_on k kh) is.same ∙ next.same; follows = followed first second scope loose Q is.follows.0 (h a s) is.follows.1 next.follows }
then_agrees first second mid scope loose P Q k (Returns words s) kh h is f = record { same = ap (λ k. goes_on k kh) is.same; follows = tt }
then_agrees first second mid scope loose P Q k (Ends e s) kh h is f = record { same = ap (λ k. goes_on k kh) is.same; follows = tt }

-- ---- steps without an event

abbrev pub Stays : {A : Type 0} → List Shape → Loose → (Loose → A → Type 0) → Outcome A → Type 0
Stays {A} scope loose P (Goes a s) = Beside loose scope s.variables × P loose a
Stays {A} scope loose P (Returns words s) = Unit {0}
Stays {A} scope loose P (Ends e s) = Unit {0}

-- it is as it is meant, and changes no variable
pub record Quiet {A : Type 0} (scope : List Shape) (loose : Loose) (P : Loose → A → Type 0) (k : Checked (Outcome A)) (o : Outcome A) : Type 0 where
  pub same : k ≡ Meant o
  pub stays : Stays scope loose P o

no_event : {A : Type 0} (scope : List Shape) (loose : Loose) (P : Loose → A → Type 0) (o : Outcome A) → Stays scope loose P o → Follows NoEvent scope loose P o
no_event scope loose P (Goes a s) h = ([], nothing, h.0, h.1)
no_event scope loose P (Returns words s) h = tt
no_event scope loose P (Ends e s) h = tt

pub quiet_agrees : {A : Type 0} {scope : List Shape} {loose : Loose} {P : Loose → A → Type 0} {k : Checked (Outcome A)} {o : Outcome A} → Quiet scope loose P k o → Agrees NoEvent scope loose P k o
quiet_agrees {scope = scope} {loose = loose} {P = P} {o = o} q = record { same = q.same; follows = no_event scope loose P o q.stays }

-- first with no event
pub quiet_then : {A B : Type 0} (ways : Ways) (mid scope : List Shape) (loose : Loose) (P : Loose → A → Type 0) (Q : Loose → B → Type 0)
    (k : Checked (Outcome A)) (o : Outcome A) (kh : A → CheckedStep B) (h : A → Step B) → Quiet mid loose P k o
    → ((a : A) (s : Store) → Beside loose mid s.variables → P loose a → Agrees ways scope loose Q (kh a s) (h a s))
    → Agrees ways scope loose Q (goes_on k kh) (and_then o h)
quiet_then ways mid scope loose P Q k (Goes a s) kh h is f =
    let next = f a s is.stays.0 is.stays.1 in record { same = ap (λ k. goes_on k kh) is.same ∙ next.same; follows = next.follows }
quiet_then ways mid scope loose P Q k (Returns words s) kh h is f = record { same = ap (λ k. goes_on k kh) is.same; follows = tt }
quiet_then ways mid scope loose P Q k (Ends e s) kh h is f = record { same = ap (λ k. goes_on k kh) is.same; follows = tt }

follows_still : {A : Type 0} (ways : Ways) (scope : List Shape) (loose : Loose) (P : Loose → A → Type 0) (p : Path) (o : Outcome A) → Through ways p
    → Stays scope (behind_path p loose) P o → Follows ways scope loose P o
follows_still ways scope loose P p (Goes a s) t h = (p, t, h.0, h.1)
follows_still ways scope loose P p (Returns words s) t h = tt
follows_still ways scope loose P p (Ends e s) t h = tt

-- at the end with no event
pub then_quiet : {A B : Type 0} (ways : Ways) (mid scope : List Shape) (loose : Loose) (P : Loose → A → Type 0) (Q : Loose → B → Type 0)
    (k : Checked (Outcome A)) (o : Outcome A) (kh : A → CheckedStep B) (h : A → Step B) → Agrees ways mid loose P k o
    → ((a : A) (s : Store) (later : Loose) → Beside later mid s.variables → P later a → Quiet scope later Q (kh a s) (h a s))
    → Agrees ways scope loose Q (goes_on k kh) (and_then o h)
then_quiet ways mid scope loose P Q k (Goes a s) kh h is f =
    let next = f a s (behind_path is.follows.0 loose) is.follows.2 is.follows.3 in
    record { same = ap (λ k. goes_on k kh) is.same ∙ next.same; follows = follows_still ways scope loose Q is.follows.0 (h a s) is.follows.1 next.stays }
then_quiet ways mid scope loose P Q k (Returns words s) kh h is f = record { same = ap (λ k. goes_on k kh) is.same; follows = tt }
then_quiet ways mid scope loose P Q k (Ends e s) kh h is f = record { same = ap (λ k. goes_on k kh) is.same; follows = tt }

pub quiet_both : {A B : Type 0} (mid scope : List Shape) (loose : Loose) (P : Loose → A → Type 0) (Q : Loose → B → Type 0)
    (k : Checked (Outcome A)) (o : Outcome A) (kh : A → CheckedStep B) (h : A → Step B) → Quiet mid loose P k o
    → ((a : A) (s : Store) → Beside loose mid s.variables → P loose a → Quiet scope loose Q (kh a s) (h a s))
    → Quiet scope loose Q (goes_on k kh) (and_then o h)
quiet_both mid scope loose P Q k (Goes a s) kh h is f =
    let next = f a s is.stays.0 is.stays.1 in record { same = ap (λ k. goes_on k kh) is.same ∙ next.same; stays = next.stays }
quiet_both mid scope loose P Q k (Returns words s) kh h is f = record { same = ap (λ k. goes_on k kh) is.same; stays = tt }
quiet_both mid scope loose P Q k (Ends e s) kh h is f = record { same = ap (λ k. goes_on k kh) is.same; stays = tt }

-- ---- one event

pub event_agrees : {A : Type 0} (event : Event) (scope : List Shape) (loose : Loose) (P : Loose → A → Type 0) (k : Checked (Outcome A)) (o : Outcome A)
    → Quiet scope (behind_event event loose) P k o → Agrees (Only event) scope loose P k o
event_agrees event scope loose P k (Goes a s) q = record { same = q.same; follows = (event ∷ [], only, q.stays.0, q.stays.1) }
event_agrees event scope loose P k (Returns words s) q = record { same = q.same; follows = tt }
event_agrees event scope loose P k (Ends e s) q = record { same = q.same; follows = tt }

after_event : {A : Type 0} (event : Event) (ways : Ways) (scope : List Shape) (loose : Loose) (P : Loose → A → Type 0) (o : Outcome A) → Follows ways scope (behind_event event loose) P o
    → Follows (Then (Only event) ways) scope loose P o
after_event event ways scope loose P (Goes a s) f = (event ∷ f.0, in_turn only f.1, f.2, f.3)
after_event event ways scope loose P (Returns words s) f = tt
after_event event ways scope loose P (Ends e s) f = tt

pub event_then : {A : Type 0} (event : Event) (ways : Ways) (scope : List Shape) (loose : Loose) (P : Loose → A → Type 0) (k : Checked (Outcome A)) (o : Outcome A)
    → Agrees ways scope (behind_event event loose) P k o → Agrees (Then (Only event) ways) scope loose P k o
event_then event ways scope loose P k o is = record { same = is.same; follows = after_event event ways scope loose P o is.follows }

-- ---- either way

goes_one_way : {A : Type 0} (one other : Ways) (scope : List Shape) (loose : Loose) (P : Loose → A → Type 0) (o : Outcome A) → Follows one scope loose P o → Follows (Either one other) scope loose P o
goes_one_way one other scope loose P (Goes a s) f = (f.0, one_way f.1, f.2, f.3)
goes_one_way one other scope loose P (Returns words s) f = tt
goes_one_way one other scope loose P (Ends e s) f = tt

goes_other_way : {A : Type 0} (one other : Ways) (scope : List Shape) (loose : Loose) (P : Loose → A → Type 0) (o : Outcome A) → Follows other scope loose P o → Follows (Either one other) scope loose P o
goes_other_way one other scope loose P (Goes a s) f = (f.0, other_way f.1, f.2, f.3)
goes_other_way one other scope loose P (Returns words s) f = tt
goes_other_way one other scope loose P (Ends e s) f = tt

pub one_agrees : {A : Type 0} {one other : Ways} {scope : List Shape} {loose : Loose} {P : Loose → A → Type 0} {k : Checked (Outcome A)} {o : Outcome A} → Agrees one scope loose P k o → Agrees (Either one other) scope loose P k o
one_agrees {one = one} {other = other} {scope = scope} {loose = loose} {P = P} {o = o} is = record { same = is.same; follows = goes_one_way one other scope loose P o is.follows }

pub other_agrees : {A : Type 0} {one other : Ways} {scope : List Shape} {loose : Loose} {P : Loose → A → Type 0} {k : Checked (Outcome A)} {o : Outcome A} → Agrees other scope loose P k o → Agrees (Either one other) scope loose P k o
other_agrees {one = one} {other = other} {scope = scope} {loose = loose} {P = P} {o = o} is = record { same = is.same; follows = goes_other_way one other scope loose P o is.follows }

-- ---- nothing comes first

skipped : {A : Type 0} (ways : Ways) (scope : List Shape) (loose : Loose) (P : Loose → A → Type 0) (o : Outcome A) → Follows ways scope loose P o → Follows (Then NoEvent ways) scope loose P o
skipped ways scope loose P (Goes a s) f = (f.0, in_turn nothing f.1, f.2, f.3)
skipped ways scope loose P (Returns words s) f = tt
skipped ways scope loose P (Ends e s) f = tt

pub skip_agrees : {A : Type 0} {ways : Ways} {scope : List Shape} {loose : Loose} {P : Loose → A → Type 0} {k : Checked (Outcome A)} {o : Outcome A} → Agrees ways scope loose P k o → Agrees (Then NoEvent ways) scope loose P k o
skip_agrees {ways = ways} {scope = scope} {loose = loose} {P = P} {o = o} is = record { same = is.same; follows = skipped ways scope loose P o is.follows }

-- ---- more is known of what it gives

pub agrees_weaker : {A : Type 0} (ways : Ways) (scope : List Shape) (loose : Loose) (P Q : Loose → A → Type 0) (k : Checked (Outcome A)) (o : Outcome A)
    → ((l : Loose) (a : A) → P l a → Q l a) → Agrees ways scope loose P k o → Agrees ways scope loose Q k o
agrees_weaker ways scope loose P Q k (Goes a s) f is = record { same = is.same; follows = (is.follows.0, is.follows.1, is.follows.2, f (behind_path is.follows.0 loose) a is.follows.3) }
agrees_weaker ways scope loose P Q k (Returns words s) f is = record { same = is.same; follows = tt }
agrees_weaker ways scope loose P Q k (Ends e s) f is = record { same = is.same; follows = tt }

-- ---- steps that force no variable

-- no variable changes, and what is known of the value
abbrev pub Keeps : {A : Type 0} → (A → Type 0) → Store → Outcome A → Type 0
Keeps {A} P s (Goes a t) = (t.variables ≡ s.variables) × P a
Keeps {A} P s (Returns words t) = Unit {0}
Keeps {A} P s (Ends e t) = Unit {0}

stays_kept : {A : Type 0} (scope : List Shape) (loose : Loose) (P : A → Type 0) (s : Store) (o : Outcome A) → Beside loose scope s.variables → Keeps P s o → Stays scope loose (λ l. P) o
stays_kept scope loose P s (Goes a t) h k = (subst (λ vs. Beside loose scope vs) (sym k.0) h, k.1)
stays_kept scope loose P s (Returns words t) h k = tt
stays_kept scope loose P s (Ends e t) h k = tt

pub kept : {A : Type 0} (scope : List Shape) (loose : Loose) (P : A → Type 0) (s : Store) (o : Outcome A) → Beside loose scope s.variables → Keeps P s o → Quiet scope loose (λ l. P) (Meant o) o
kept scope loose P s o h k = record { same = refl; stays = stays_kept scope loose P s o h k }

pub kept_same : {A : Type 0} (scope : List Shape) (loose : Loose) (P : A → Type 0) (s : Store) (k : Checked (Outcome A)) (o : Outcome A) → k ≡ Meant o → Beside loose scope s.variables → Keeps P s o
    → Quiet scope loose (λ l. P) k o
kept_same scope loose P s k o e beside keeps = record { same = e; stays = stays_kept scope loose P s o beside keeps }

abbrev pub Anything : {A : Type 0} → A → Type 0
Anything a = Unit {0}

keeps_on : {A : Type 0} (Q : A → Type 0) (s t : Store) (o : Outcome A) → t.variables ≡ s.variables → Keeps Q t o → Keeps Q s o
keeps_on Q s t (Goes a u) e k = (k.0 ∙ e, k.1)
keeps_on Q s t (Returns words u) e k = tt
keeps_on Q s t (Ends end u) e k = tt

pub keeps_then : {A B : Type 0} (P : A → Type 0) (Q : B → Type 0) (s : Store) (o : Outcome A) (h : A → Step B) → Keeps P s o
    → ((a : A) (t : Store) → P a → Keeps Q t (h a t)) → Keeps Q s (and_then o h)
keeps_then P Q s (Goes a t) h k f = keeps_on Q s t (h a t) k.0 (f a t k.1)
keeps_then P Q s (Returns words t) h k f = tt
keeps_then P Q s (Ends e t) h k f = tt

pub kept_then : {A B : Type 0} (scope : List Shape) (loose : Loose) (P : A → Type 0) (Q : Loose → B → Type 0) (s : Store) (o : Outcome A) (kh : A → CheckedStep B) (h : A → Step B) → Keeps P s o
    → ((a : A) (t : Store) → t.variables ≡ s.variables → P a → Quiet scope loose Q (kh a t) (h a t))
    → Quiet scope loose Q (goes_on (Meant o) kh) (and_then o h)
kept_then scope loose P Q s (Goes a t) kh h k f = f a t k.0 k.1
kept_then scope loose P Q s (Returns words t) kh h k f = record { same = refl; stays = tt }
kept_then scope loose P Q s (Ends e t) kh h k f = record { same = refl; stays = tt }
