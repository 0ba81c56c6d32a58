-- How the store of a run with fewer replies stands to one with more: beside it, or before it.
use Rattle.std.proofs.Common.{◌≡◌, ◌≤◌, List, [], ◌∷◌, ◌++◌, refl, ap, subst, ◌∙◌, le_refl, le_trans, sym}
use Rattle.std.specs.List.{AllZip}
use Rattle.mpl_value.specs.declared.body.Arg.{Arg}
use Rattle.mpl_value.specs.declared.body.Arg.TheVariants.{Know, Trapped, Unknown}
use Rattle.mpl_value.specs.declared.body.BodyResult.{BodyResult}
use Rattle.mpl_value.specs.declared.body.BodyResult.TheVariants as result
use Rattle.mpl_value.specs.declared.body.CallMade.{CallMade}
use Rattle.mpl_value.specs.Growing.{Stays, CallStays, Begins, IsFront, ResultStays}
use Rattle.mpl_mean.specs.Meaning.Store.{Store, Variable}
use Rattle.mpl_mean.proofs.Simulations.Simulation.{VariableBeside, variable_itself, zip_itself}

-- ---- lists

zip_trans : {A : Type 0} (R : A → A → Type 0) → ((a b c : A) → R a b → R b c → R a c) → (xs ys zs : List A) → AllZip R xs ys → AllZip R ys zs → AllZip R xs zs
zip_trans R r [] [] zs h k = k
zip_trans R r [] (y ∷ ys) zs h k = absurd h
zip_trans R r (x ∷ xs) [] zs h k = absurd h
zip_trans R r (x ∷ xs) (y ∷ ys) [] h k = absurd k
zip_trans R r (x ∷ xs) (y ∷ ys) (z ∷ zs) h k = (r x y z h.0 k.0, zip_trans R r xs ys zs h.1 k.1)

pub Begins-append : {A : Type 0} (R : A → A → Type 0) → ((a : A) → R a a) → (xs more : List A) → Begins R xs (xs ++ more)
Begins-append R r [] more = tt
Begins-append R r (x ∷ xs) more = (r x, Begins-append R r xs more)

pub Begins-itself : {A : Type 0} (R : A → A → Type 0) → ((a : A) → R a a) → (xs : List A) → Begins R xs xs
Begins-itself R r [] = tt
Begins-itself R r (x ∷ xs) = (r x, Begins-itself R r xs)

Begins-trans : {A : Type 0} (R : A → A → Type 0) → ((a b c : A) → R a b → R b c → R a c) → (xs ys zs : List A) → Begins R xs ys → Begins R ys zs → Begins R xs zs
Begins-trans R r [] ys zs h k = tt
Begins-trans R r (x ∷ xs) [] zs h k = absurd h
Begins-trans R r (x ∷ xs) (y ∷ ys) [] h k = absurd k
Begins-trans R r (x ∷ xs) (y ∷ ys) (z ∷ zs) h k = (r x y z h.0 k.0, Begins-trans R r xs ys zs h.1 k.1)

-- what is added behind the second list changes nothing
Begins-front : {A : Type 0} (R : A → A → Type 0) (xs ys zs : List A) → Begins R xs ys → IsFront ys zs → Begins R xs zs
Begins-front R [] ys zs h k = tt
Begins-front R (x ∷ xs) [] zs h k = absurd h
Begins-front R (x ∷ xs) (y ∷ ys) [] h k = absurd k
Begins-front R (x ∷ xs) (y ∷ ys) (z ∷ zs) h k = (subst (λ w. R x w) k.0 h.0, Begins-front R xs ys zs h.1 k.1)

zip_back : {A : Type 0} (R : A → A → Type 0) (xs ys : List A) → AllZip R xs ys → Begins (λ y x. R x y) ys xs
zip_back R [] [] h = tt
zip_back R [] (y ∷ ys) h = absurd h
zip_back R (x ∷ xs) [] h = absurd h
zip_back R (x ∷ xs) (y ∷ ys) h = (h.0, zip_back R xs ys h.1)

pub Begins-from_zip : {A : Type 0} (R : A → A → Type 0) (xs ys : List A) → AllZip R xs ys → Begins R xs ys
Begins-from_zip R [] ys h = tt
Begins-from_zip R (x ∷ xs) [] h = absurd h
Begins-from_zip R (x ∷ xs) (y ∷ ys) h = (h.0, Begins-from_zip R xs ys h.1)

pub front_of_same : {A : Type 0} (xs ys : List A) → xs ≡ ys → IsFront xs ys
front_of_same xs ys e = subst (λ ys. IsFront xs ys) e (Begins-itself _ (λ x. refl) xs)

-- ---- what stays

pub Stays-itself : (a : Arg) → Stays a a
Stays-itself (Know words) = refl
Stays-itself (Trapped t) = refl
Stays-itself Unknown = tt

Stays-trans : (a b c : Arg) → Stays a b → Stays b c → Stays a c
Stays-trans (Know words) b c h k = subst (λ b. Stays b c → Know words ≡ c) h (λ i. i) k
Stays-trans (Trapped t) b c h k = subst (λ b. Stays b c → Trapped t ≡ c) h (λ i. i) k
Stays-trans Unknown b c h k = tt

pub CallStays-itself : (c : CallMade) → CallStays c c
CallStays-itself c = record { call = refl; object = refl; member = refl; arguments = zip_itself Stays Stays-itself c.args }

CallStays-trans : (b c d : CallMade) → CallStays b c → CallStays c d → CallStays b d
CallStays-trans b c d h k = record {
  call = h.call ∙ k.call;
  object = h.object ∙ k.object;
  member = h.member ∙ k.member;
  arguments = zip_trans Stays Stays-trans b.args c.args d.args h.arguments k.arguments;
}

pub ResultStays-itself : (r : BodyResult) → ResultStays r r
ResultStays-itself result.Open = tt
ResultStays-itself (result.Known known) = refl
ResultStays-itself result.Unknown = tt

ResultStays-trans : (p q r : BodyResult) → ResultStays p q → ResultStays q r → ResultStays p r
ResultStays-trans result.Open q r h k = tt
ResultStays-trans (result.Known known) q r h k = subst (λ q. ResultStays q r → result.Known known ≡ r) h (λ i. i) k
ResultStays-trans result.Unknown q r h k = tt

-- ---- one store before another

pub record Later (s t : Store) : Type 0 where
  pub result : ResultStays s.result t.result
  pub lines : IsFront s.lines t.lines
  pub creations : IsFront s.creations t.creations
  pub calls : Begins CallStays s.calls t.calls
  pub turns : s.turns ≤ t.turns

pub Later-itself : (s : Store) → Later s s
Later-itself s = record {
  result = ResultStays-itself s.result;
  lines = front_of_same s.lines s.lines refl;
  creations = front_of_same s.creations s.creations refl;
  calls = Begins-itself CallStays CallStays-itself s.calls;
  turns = le_refl s.turns;
}

pub Later-trans : (s t u : Store) → Later s t → Later t u → Later s u
Later-trans s t u h k = record {
  result = ResultStays-trans s.result t.result u.result h.result k.result;
  lines = Begins-trans _ (λ a b c e f. e ∙ f) s.lines t.lines u.lines h.lines k.lines;
  creations = Begins-trans _ (λ a b c e f. e ∙ f) s.creations t.creations u.creations h.creations k.creations;
  calls = Begins-trans CallStays CallStays-trans s.calls t.calls u.calls h.calls k.calls;
  turns = le_trans h.turns k.turns;
}

-- ---- what one run adds

-- a run goes on from the first store to the second: it only adds calls and creations
abbrev pub Adds : Store → Store → Type 0
Adds s t = IsFront s.calls t.calls × IsFront s.creations t.creations

pub Adds-itself : (s : Store) → Adds s s
Adds-itself s = (front_of_same s.calls s.calls refl, front_of_same s.creations s.creations refl)

pub Adds-trans : (s t u : Store) → Adds s t → Adds t u → Adds s u
Adds-trans s t u h k =
    (Begins-front (λ x y. x ≡ y) s.calls t.calls u.calls h.0 k.0, Begins-front (λ x y. x ≡ y) s.creations t.creations u.creations h.1 k.1)

-- the first run has made the calls and the creations of the second, and maybe more
abbrev pub Ahead : Store → Store → Type 0
Ahead s t = Begins (λ after before. CallStays before after) t.calls s.calls × IsFront t.creations s.creations

pub Ahead-adds : (s u t : Store) → Ahead s t → Adds s u → Ahead u t
Ahead-adds s u t h k =
    (Begins-front (λ after before. CallStays before after) t.calls s.calls u.calls h.0 k.0, Begins-front (λ x y. x ≡ y) t.creations s.creations u.creations h.1 k.1)

-- ---- one store beside another

-- a result that is there stays there
abbrev pub ResultBeside : BodyResult → BodyResult → Type 0
ResultBeside result.Open after = result.Open ≡ after
ResultBeside (result.Known known) after = result.Known known ≡ after
ResultBeside result.Unknown result.Open = ⊥
ResultBeside result.Unknown (result.Known known) = Unit {0}
ResultBeside result.Unknown result.Unknown = Unit {0}

ResultBeside-itself : (r : BodyResult) → ResultBeside r r
ResultBeside-itself result.Open = refl
ResultBeside-itself (result.Known known) = refl
ResultBeside-itself result.Unknown = tt

pub ResultBeside-stays : (r q : BodyResult) → ResultBeside r q → ResultStays r q
ResultBeside-stays result.Open q h = tt
ResultBeside-stays (result.Known known) q h = h
ResultBeside-stays result.Unknown q h = tt

-- the same store, but for what wasn't known and for the turns that were spent on it
pub record Beside (s t : Store) : Type 0 where
  pub same : record s { variables = t.variables; calls = t.calls; result = t.result; turns = t.turns } ≡ t
  pub variables : AllZip (VariableBeside Stays) s.variables t.variables
  pub calls : AllZip CallStays s.calls t.calls
  pub result : ResultBeside s.result t.result
  pub turns : s.turns ≤ t.turns

pub variables_itself : (vs : List Variable) → AllZip (VariableBeside Stays) vs vs
variables_itself = zip_itself (VariableBeside Stays) (variable_itself Stays Stays-itself)

pub Beside-itself : (s : Store) → Beside s s
Beside-itself s = record {
  same = refl;
  variables = variables_itself s.variables;
  calls = zip_itself CallStays CallStays-itself s.calls;
  result = ResultBeside-itself s.result;
  turns = le_refl s.turns;
}

pub Beside-later : (s t : Store) → Beside s t → Later s t
Beside-later s t h = record {
  result = ResultBeside-stays s.result t.result h.result;
  lines = front_of_same s.lines t.lines (ap (λ (u : Store). u.lines) h.same);
  creations = front_of_same s.creations t.creations (ap (λ (u : Store). u.creations) h.same);
  calls = Begins-from_zip CallStays s.calls t.calls h.calls;
  turns = h.turns;
}

pub Beside-ahead : (s t : Store) → Beside s t → Ahead s t
Beside-ahead s t h = (zip_back CallStays s.calls t.calls h.calls, front_of_same t.creations s.creations (sym (ap (λ (u : Store). u.creations) h.same)))
