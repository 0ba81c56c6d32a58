-- Which events take a frame out, and which put it back.
use Rattle.std.proofs.Common.{◌≡◌, ℕ, Bool, true, false, cond, List, Option, Some, None, ℤ, refl, ap, nat_eq, eqb-true}
use Rattle.mdf_core.specs.Events.{Ending, Event, Fire, Send, Create, Learn, Park, Resume, Reply, End, Beat, Match, Arrive, Accept, Quit}
use Rattle.mdf_core.specs.Out.{actor_of, is_actor, moved, moves}

-- whether the actor is out behind an event, where this says whether it was before
abbrev pub out_behind : Event → ℕ → Bool → Bool
out_behind e a before = cond (is_actor a (actor_of e)) (moved before (moves e)) before

not_taken : (named : Bool) (move : Option Bool) → (move ≡ Some true → ⊥) → cond named (moved false move) false ≡ true → ⊥
not_taken true None other h = cc h
not_taken true (Some true) other h = other refl
not_taken true (Some false) other h = cc h
not_taken false move other h = cc h

not_put_back : (named : Bool) (move : Option Bool) → (move ≡ Some false → ⊥) → cond named (moved true move) true ≡ false → ⊥
not_put_back true None other h = cc h
not_put_back true (Some true) other h = cc h
not_put_back true (Some false) other h = other refl
not_put_back false move other h = cc h

named_taken : (named : Bool) → cond named true false ≡ true → named ≡ true
named_taken true h = refl
named_taken false h = absurd (cc h)

named_put_back : (named : Bool) → cond named false true ≡ false → named ≡ true
named_put_back true h = refl
named_put_back false h = absurd (cc h)

-- a frame is taken out by a fire or a resume
pub taken_out : {P : Type 0} (e : Event) (a : ℕ) → out_behind e a false ≡ true → (e ≡ Fire a → P) → (e ≡ Resume a → P) → P
taken_out (Fire b) a h fires resumes = fires (ap Fire (eqb-true b a (named_taken (nat_eq b a) h)))
taken_out (Resume b) a h fires resumes = resumes (ap Resume (eqb-true b a (named_taken (nat_eq b a) h)))
taken_out (Send b turns callee member object arguments) a h fires resumes = absurd (not_taken (nat_eq b a) None (λ s. cc s) h)
taken_out (Create b turns class object) a h fires resumes = absurd (not_taken (nat_eq b a) None (λ s. cc s) h)
taken_out (Learn b turns call) a h fires resumes = absurd (not_taken (nat_eq b a) None (λ s. cc s) h)
taken_out (Park b turns call) a h fires resumes = absurd (not_taken (nat_eq b a) (Some false) (λ s. cc s) h)
taken_out (Reply b turns value) a h fires resumes = absurd (not_taken (nat_eq b a) None (λ s. cc s) h)
taken_out (End b turns ending state) a h fires resumes = absurd (not_taken (nat_eq b a) (Some false) (λ s. cc s) h)
taken_out (Beat b) a h fires resumes = absurd (not_taken (nat_eq b a) None (λ s. cc s) h)
taken_out (Match place) a h fires resumes = absurd (cc h)
taken_out (Arrive b) a h fires resumes = absurd (cc h)
taken_out (Accept object b number) a h fires resumes = absurd (cc h)
taken_out (Quit why) a h fires resumes = absurd (cc h)

-- and put back by a park or an end
pub put_back : {P : Type 0} (e : Event) (a : ℕ) → out_behind e a true ≡ false → ((turns call : ℕ) → e ≡ Park a turns call → P) → ((turns : ℕ) (ending : Ending) (state : List ℤ) → e ≡ End a turns ending state → P) → P
put_back (Park b turns call) a h parks ends = parks turns call (ap (λ c. Park c turns call) (eqb-true b a (named_put_back (nat_eq b a) h)))
put_back (End b turns ending state) a h parks ends = ends turns ending state (ap (λ c. End c turns ending state) (eqb-true b a (named_put_back (nat_eq b a) h)))
put_back (Fire b) a h parks ends = absurd (not_put_back (nat_eq b a) (Some true) (λ s. cc s) h)
put_back (Resume b) a h parks ends = absurd (not_put_back (nat_eq b a) (Some true) (λ s. cc s) h)
put_back (Send b turns callee member object arguments) a h parks ends = absurd (not_put_back (nat_eq b a) None (λ s. cc s) h)
put_back (Create b turns class object) a h parks ends = absurd (not_put_back (nat_eq b a) None (λ s. cc s) h)
put_back (Learn b turns call) a h parks ends = absurd (not_put_back (nat_eq b a) None (λ s. cc s) h)
put_back (Reply b turns value) a h parks ends = absurd (not_put_back (nat_eq b a) None (λ s. cc s) h)
put_back (Beat b) a h parks ends = absurd (not_put_back (nat_eq b a) None (λ s. cc s) h)
put_back (Match place) a h parks ends = absurd (cc h)
put_back (Arrive b) a h parks ends = absurd (cc h)
put_back (Accept object b number) a h parks ends = absurd (cc h)
put_back (Quit why) a h parks ends = absurd (cc h)
