-- Parsers in turn take what each of them takes.
use Rattle.std.proofs.Common.{◌≡◌, ℕ, ap, ◌∙◌, Option, Some, true, false, Bool, if◌then◌else◌}
use Rattle.std.specs.Option.{option_and_then, option_map}
use Rattle.mpl_mean.specs.Text.Reading.{Reads, Rest}
use Rattle.mpl_mean.proofs.Readers.Parts.{Reading}
use Rattle.mpl_trees.specs.Taking.{Takes, alone, both, continued, made, skip_then, then_skip}

pub joins : {A B C : Type 0} (limit : ℕ) (join : A → B → C) (first : Takes A) (second : Takes B) (r : Rest) {m x : Rest} {a : A} {b : B} → first limit r ≡ Some (a, m) → second limit m ≡ Some (b, x)
    → both join first second limit r ≡ Some (join a b, x)
joins {A = A} {B = B} limit join first second r {a = a} e f =
    ap (option_and_then (λ (p : A × Rest). option_map (λ (q : B × Rest). (join p.0 q.0, q.1)) (second limit p.1))) e ∙ ap (option_map (λ (q : B × Rest). (join a q.0, q.1))) f

pub skips : {A : Type 0} (limit : ℕ) (a : Reads) (take : Takes A) {r m x : Rest} {t : A} → Reading a r m → take limit m ≡ Some (t, x) → skip_then a take limit r ≡ Some (t, x)
skips limit a take h e = ap (option_and_then (take limit)) h.is ∙ e

pub skips_behind : {A : Type 0} (limit : ℕ) (take : Takes A) (a : Reads) (r : Rest) {m x : Rest} {t : A} → take limit r ≡ Some (t, m) → Reading a m x → then_skip take a limit r ≡ Some (t, x)
skips_behind {A = A} limit take a r {t = t} e h =
    ap (option_and_then (λ (p : A × Rest). option_map (λ (x : Rest). (p.0, x)) (a p.1))) e ∙ ap (option_map (λ (x : Rest). (t, x))) h.is

pub makes : {A B : Type 0} (limit : ℕ) (make : A → B) (take : Takes A) (r : Rest) {x : Rest} {t : A} → take limit r ≡ Some (t, x) → made make take limit r ≡ Some (make t, x)
makes {A = A} limit make take r e = ap (option_map (λ (p : A × Rest). (make p.0, p.1))) e

pub continues : {A B : Type 0} (limit : ℕ) (take : Takes A) (go : A → Takes B) (r : Rest) {m x : Rest} {a : A} {b : B} → take limit r ≡ Some (a, m) → go a limit m ≡ Some (b, x) → continued take go limit r ≡ Some (b, x)
continues {A = A} limit take go r e f = ap (option_and_then (λ (p : A × Rest). go p.0 limit p.1)) e ∙ f

pub alone_is : {A : Type 0} (limit : ℕ) (tree : A) (a : Reads) {r x : Rest} → Reading a r x → alone tree a limit r ≡ Some (tree, x)
alone_is limit tree a h = ap (option_map (λ (x : Rest). (tree, x))) h.is

pub if_true : {A : Type 0} (b : Bool) (o u : Option A) → b ≡ true → (if b then o else u) ≡ o
if_true b o u e = ap (λ (b : Bool). if b then o else u) e

pub if_false : {A : Type 0} (b : Bool) (o u : Option A) → b ≡ false → (if b then o else u) ≡ u
if_false b o u e = ap (λ (b : Bool). if b then o else u) e
