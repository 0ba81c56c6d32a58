-- What is read and stored at a place, in two runs.
use Rattle.std.proofs.Common.{◌≡◌, ℕ, List, Option, Some, None, ℤ, refl, subst}
use Rattle.mpl_ast.specs.declared.expression.Target.{Target}
use Rattle.mpl_ast.specs.declared.expression.Target.TheVariants as target
use Rattle.mpl_value.specs.declared.body.Arg.TheVariants.{Know}
use Rattle.mpl_mean.specs.Meaning.Context.{Callees, Context}
use Rattle.mpl_mean.specs.Meaning.Layout.{Part, part_named, parts_of_type}
use Rattle.mpl_mean.specs.Meaning.PlaceMeaning.{Location, location_of_part, location_of_name, field_of_location, location_of, base_of, words_of_location, read, tested_index, index_of, put}
use Rattle.mpl_value.specs.Words.{index_below}
use Rattle.mpl_mean.specs.Meaning.Store.{Step, Variable, force}
use Rattle.mpl_mean.specs.Meaning.Values.{Value}
use Rattle.mpl_mean.proofs.Simulations.Simulation.{Simulation, Same, VariableBeside, MaybeBeside, at_variable, first, second, goes_on_same, gives_same}

abbrev pub VariablesBeside : Simulation → Option Variable → Option Variable → Type 0
VariablesBeside S = MaybeBeside (VariableBeside S.Held)

-- the same place, of variables that may hold something else
pub record SpotBeside (S : Simulation) (p q : Location) : Type 0 where
  pub same : record p { variable = q.variable } ≡ q
  pub variable : VariablesBeside S p.variable q.variable

pub at_place : {S : Simulation} {p q : Location} → SpotBeside S p q → (P : Location → Type 0) → ((w : Option Variable) → VariablesBeside S p.variable w → P (record p { variable = w })) → P q
at_place {q = q} b P h = subst P b.same (h q.variable b.variable)

abbrev pub SpotsBeside : Simulation → Option Location → Option Location → Type 0
SpotsBeside S = MaybeBeside (SpotBeside S)

-- ---- which place it is

part_beside : (S : Simulation) (v w : Option Variable) (offset : ℕ) (part : Option Part) → VariablesBeside S v w → SpotsBeside S (location_of_part v offset part) (location_of_part w offset part)
part_beside S v w offset None b = tt
part_beside S v w offset (Some part) b = record { same = refl; variable = b }

name_beside : (S : Simulation) (b c : Callees) (x : Context) (name : List ℕ) (v w : Option Variable) → VariablesBeside S v w
    → SpotsBeside S (location_of_name (first S b x) v name) (location_of_name (second S c x) w name)
name_beside S b c x name None None h = part_beside S None None 0 (part_named name x.state) tt
name_beside S b c x name None (Some w) h = absurd h
name_beside S b c x name (Some v) None h = absurd h
name_beside S b c x name (Some v) (Some w) h =
    at_variable h (λ w. SpotsBeside S (location_of_name (first S b x) (Some v) name) (location_of_name (second S c x) (Some w) name))
    (λ a r. record { same = refl; variable = record { same = refl; holds = r } })

field_beside : (S : Simulation) (b c : Callees) (x : Context) (field : List ℕ) (p q : Option Location) → SpotsBeside S p q
    → SpotsBeside S (field_of_location (first S b x) field p) (field_of_location (second S c x) field q)
field_beside S b c x field None None h = tt
field_beside S b c x field None (Some q) h = absurd h
field_beside S b c x field (Some p) None h = absurd h
field_beside S b c x field (Some p) (Some q) h =
    at_place h (λ q. SpotsBeside S (field_of_location (first S b x) field (Some p)) (field_of_location (second S c x) field (Some q)))
    (λ w r. part_beside S p.variable w p.offset (part_named field (parts_of_type x.declarations p.type)) r)

-- a step that begins with a look at a place
pub looks_at : (S : Simulation) (b c : Callees) (x : Context) {A : Type 0} {V : A → A → Type 0} (t : Target) (h k : Option Location → Step A)
    → ((p q : Option Location) → SpotsBeside S p q → S.Steps A V (h p) (k q))
    → S.Steps A V (λ s. h (location_of (first S b x) t s) s) (λ s. k (location_of (second S c x) t s) s)
looks_at S b c x {A} {V} (target.Variable at name) h k r =
    S.looks A V name.text (λ v. h (location_of_name (first S b x) v name.text)) (λ w. k (location_of_name (second S c x) w name.text))
    (λ v w e. r _ _ (name_beside S b c x name.text v w e))
looks_at S b c x {A} {V} (target.Field at name field) h k r =
    S.looks A V name.text (λ v. h (field_of_location (first S b x) field.text (location_of_name (first S b x) v name.text)))
    (λ w. k (field_of_location (second S c x) field.text (location_of_name (second S c x) w name.text)))
    (λ v w e. r _ _ (field_beside S b c x field.text _ _ (name_beside S b c x name.text v w e)))

-- ---- reading and storing

pub base_kept : (S : Simulation) (v w : Option Variable) → VariablesBeside S v w → S.Steps (List ℤ) Same (base_of v) (base_of w)
base_kept S None None h = S.state
base_kept S None (Some w) h = absurd h
base_kept S (Some v) None h = absurd h
base_kept S (Some v) (Some w) h = S.forces v.holds w.holds h.holds

pub words_kept : (S : Simulation) (p q : Option Location) → SpotsBeside S p q → S.Steps Value Same (words_of_location p) (words_of_location q)
words_kept S None None h = gives_same S _
words_kept S None (Some q) h = absurd h
words_kept S (Some p) None h = absurd h
words_kept S (Some p) (Some q) h =
    at_place h (λ q. S.Steps Value Same (words_of_location (Some p)) (words_of_location (Some q)))
    (λ w r. goes_on_same S (base_of p.variable) (base_of w) _ _ (base_kept S p.variable w r) (λ words. gives_same S _))

pub read_kept : (S : Simulation) (b c : Callees) (x : Context) (t : Target) → S.Steps Value Same (read (first S b x) t) (read (second S c x) t)
read_kept S b c x t = looks_at S b c x t words_of_location words_of_location (words_kept S)

tested_kept : (S : Simulation) (line : ℕ) (n : Option ℕ) → S.Steps ℕ Same (tested_index line n) (tested_index line n)
tested_kept S line None = S.traps _ _ _
tested_kept S line (Some n) = gives_same S n

pub index_kept : (S : Simulation) (line dimension : ℕ) (z : ℤ) → S.Steps ℕ Same (index_of line dimension z) (index_of line dimension z)
index_kept S line dimension z = tested_kept S line (index_below dimension z)

pub put_kept : (S : Simulation) (v w : Option Variable) (offset : ℕ) (words : List ℤ) → VariablesBeside S v w → S.Steps (Unit {0}) Same (put v offset words) (put w offset words)
put_kept S None None offset words h = S.restates offset words
put_kept S None (Some w) offset words h = absurd h
put_kept S (Some v) None offset words h = absurd h
put_kept S (Some v) (Some w) offset words h =
    at_variable h (λ w. S.Steps (Unit {0}) Same (put (Some v) offset words) (put (Some w) offset words))
    (λ a r. goes_on_same S (force v.holds) (force a) _ _ (S.forces v.holds a r) (λ old. S.holds v.name (Know _) (Know _) (S.itself _)))
