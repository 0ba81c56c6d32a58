-- The variables of a store beside the scope and what is loose: what isn't loose is known.
use Rattle.std.proofs.Common.{◌≡◌, ◌≤◌, ◌<◌, ℕ, suc, Bool, true, false, List, [], ◌∷◌, length, Option, Some, None, if◌then◌else◌, refl, ap, sym, subst, arith, ◌∙◌}
use Rattle.std.proofs.lemmas.Bool.{eq-eqb, ne_eqb}
use Rattle.std.specs.Str.{bytes_eq}
use Rattle.mpl_value.specs.declared.body.Arg.{Arg}
use Rattle.mpl_value.specs.declared.body.Arg.TheVariants.{Know, Trapped, Unknown}
use Rattle.mpl_mean.specs.Meaning.Store.{Variable, holding, variable_named}
use Rattle.mpl_mean.specs.Plain.Scopes.{Shape, Slot, slot_named}
use Rattle.mpl_mean.specs.Pending.Looseness.{Loose, where_one_is}
use Rattle.mpl_mean.proofs.Sizes.SizedClasses.{bytes_same}

abbrev pub IsKnown : Arg → Type 0
IsKnown (Know words) = Unit {0}
IsKnown (Trapped trap) = ⊥
IsKnown Unknown = ⊥

-- a variable beside what the scope says of it
pub record Fits (loose : Loose) (number : ℕ) (shape : Shape) (v : Variable) : Type 0 where
  pub name : v.name ≡ shape.name
  pub type : v.type ≡ shape.type
  pub known : loose number ≡ false → IsKnown v.holds

abbrev pub Beside : Loose → List Shape → List Variable → Type 0
Beside loose [] [] = Unit {0}
Beside loose [] (v ∷ vs) = ⊥
Beside loose (shape ∷ scope) [] = ⊥
Beside loose (shape ∷ scope) (v ∷ vs) = Fits loose (length scope) shape v × Beside loose scope vs

-- ---- other variables

pub here_is : (n : ℕ) (b : Bool) (loose : Loose) → where_one_is n b loose n ≡ b
here_is n b loose = ap (λ t. if t then b else loose n) (eq-eqb n n refl)

pub elsewhere_is : (n m : ℕ) (b : Bool) (loose : Loose) → (n ≡ m → ⊥) → where_one_is n b loose m ≡ loose m
elsewhere_is n m b loose differ = ap (λ t. if t then b else loose m) (ne_eqb n m differ)

fits_other : (n m : ℕ) (b : Bool) (loose : Loose) (shape : Shape) (v : Variable) → (n ≡ m → ⊥) → Fits loose m shape v → Fits (where_one_is n b loose) m shape v
fits_other n m b loose shape v differ fits = record {
  name = fits.name;
  type = fits.type;
  known = λ e. fits.known (sym (elsewhere_is n m b loose differ) ∙ e);
}

pub other_beside : (n : ℕ) (b : Bool) (loose : Loose) (scope : List Shape) (vs : List Variable) → length scope ≤ n → Beside loose scope vs → Beside (where_one_is n b loose) scope vs
other_beside n b loose [] [] above h = tt
other_beside n b loose [] (v ∷ vs) above h = h
other_beside n b loose (shape ∷ scope) [] above h = h
other_beside n b loose (shape ∷ scope) (v ∷ vs) above h =
    let more : suc (length scope) ≤ n = above in
    (fits_other n (length scope) b loose shape v (λ e. absurd (let e' : n ≡ length scope = e in omega arith)) h.0, other_beside n b loose scope vs (omega arith) h.1)

-- ---- look-up

-- where a variable of a name stands
pub record Seat (loose : Loose) (scope : List Shape) (vs : List Variable) (name : List ℕ) (v : Variable) (slot : Slot) : Type 0 where
  pub named : v.name ≡ name
  pub type : v.type ≡ slot.shape.type
  pub below : slot.number < length scope
  pub known : loose slot.number ≡ false → IsKnown v.holds
  pub settled : IsKnown v.holds → Beside (where_one_is slot.number false loose) scope vs
  pub held : (a : Arg) (b : Bool) → (b ≡ false → IsKnown a) → Beside (where_one_is slot.number b loose) scope (holding name a vs)

abbrev pub Sits : Loose → List Shape → List Variable → List ℕ → Option Variable → Option Slot → Type 0
Sits loose scope vs name None None = Unit {0}
Sits loose scope vs name None (Some slot) = ⊥
Sits loose scope vs name (Some v) None = ⊥
Sits loose scope vs name (Some v) (Some slot) = Seat loose scope vs name v slot

seat_first : (loose : Loose) (scope : List Shape) (vs : List Variable) (name : List ℕ) (shape : Shape) (v : Variable) → bytes_eq v.name name ≡ true → Fits loose (length scope) shape v → Beside loose scope vs
    → Seat loose (shape ∷ scope) (v ∷ vs) name v (record { number = length scope; shape = shape })
seat_first loose scope vs name shape v e fits rest =
    let same : length scope ≤ length scope = omega arith in
    record {
      named = bytes_same v.name name e;
      type = fits.type;
      below = omega arith;
      known = fits.known;
      settled = λ k. (record { name = fits.name; type = fits.type; known = λ _. k }, other_beside (length scope) false loose scope vs same rest);
      held = λ a b h. subst (λ t. Beside (where_one_is (length scope) b loose) (shape ∷ scope) (if t then record v { holds = a } ∷ vs else v ∷ holding name a vs)) (sym e)
          (record { name = fits.name; type = fits.type; known = λ off. h (sym (here_is (length scope) b loose) ∙ off) }, other_beside (length scope) b loose scope vs same rest);
    }

seat_later : (loose : Loose) (scope : List Shape) (vs : List Variable) (name : List ℕ) (shape : Shape) (v : Variable) (found : Option Variable) (slot : Option Slot) → bytes_eq v.name name ≡ false
    → Fits loose (length scope) shape v → Sits loose scope vs name found slot → Sits loose (shape ∷ scope) (v ∷ vs) name found slot
seat_later loose scope vs name shape v None None e fits sits = tt
seat_later loose scope vs name shape v None (Some slot) e fits sits = sits
seat_later loose scope vs name shape v (Some found) None e fits sits = sits
seat_later loose scope vs name shape v (Some found) (Some slot) e fits sits =
    let less : slot.number < length scope = sits.below in
    let differ : slot.number ≡ length scope → ⊥ = λ same. absurd (let same' : slot.number ≡ length scope = same in omega arith) in
    record {
      named = sits.named;
      type = sits.type;
      below = omega arith;
      known = sits.known;
      settled = λ k. (fits_other slot.number (length scope) false loose shape v differ fits, sits.settled k);
      held = λ a b h. subst (λ t. Beside (where_one_is slot.number b loose) (shape ∷ scope) (if t then record v { holds = a } ∷ vs else v ∷ holding name a vs)) (sym e)
          (fits_other slot.number (length scope) b loose shape v differ fits, sits.held a b h);
    }

pub sits : (name : List ℕ) (loose : Loose) (scope : List Shape) (vs : List Variable) → Beside loose scope vs → Sits loose scope vs name (variable_named name vs) (slot_named name scope)
sits name loose [] [] h = tt
sits name loose [] (v ∷ vs) h = absurd h
sits name loose (shape ∷ scope) [] h = absurd h
sits name loose (shape ∷ scope) (v ∷ vs) h =
    subst (λ w. Sits loose (shape ∷ scope) (v ∷ vs) name (if bytes_eq v.name name then Some v else variable_named name vs)
    (if bytes_eq w name then Some (record { number = length scope; shape = shape }) else slot_named name scope)) h.0.name (chosen (bytes_eq v.name name) refl (sits name loose scope vs h.1)) where
      chosen : (b : Bool) → bytes_eq v.name name ≡ b → Sits loose scope vs name (variable_named name vs) (slot_named name scope)
          → Sits loose (shape ∷ scope) (v ∷ vs) name (if b then Some v else variable_named name vs) (if b then Some (record { number = length scope; shape = shape }) else slot_named name scope)
      chosen true e later = seat_first loose scope vs name shape v e h.0 h.1
      chosen false e later = seat_later loose scope vs name shape v (variable_named name vs) (slot_named name scope) e h.0 later
