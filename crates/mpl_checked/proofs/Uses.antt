-- Places that are read, and parts that are stored: each forces its variable.
use Rattle.std.proofs.Common.{◌≡◌, ℕ, Bool, true, false, List, [], Option, Some, None, ℤ, refl, sym, subst}
use Rattle.mpl_ast.specs.declared.expression.Target.{Target}
use Rattle.mpl_ast.specs.declared.expression.Target.TheVariants as target
use Rattle.mpl_value.specs.Words.{with_words, words_at}
use Rattle.mpl_value.specs.declared.body.Arg.{Arg}
use Rattle.mpl_value.specs.declared.body.Arg.TheVariants as arg
use Rattle.mpl_mean.specs.Meaning.Context.{Context}
use Rattle.mpl_mean.specs.Meaning.Layout.{Part, part_named, parts_of_type}
use Rattle.mpl_mean.specs.Meaning.PlaceMeaning.{Location, base_of, field_of_location, is_bool, location_of, location_of_name, location_of_part, put, read, words_of_location}
use Rattle.mpl_mean.specs.Meaning.Store.{Store, Step, Variable, and_then, force, hold, holding, pure, variable_named}
use Rattle.mpl_mean.specs.Meaning.Values.{Value}
use Rattle.mpl_mean.specs.Plain.Scopes.{Env, Found, Shape, Slot, found_at, found_field, found_name, found_part, slot_named}
use Rattle.mpl_mean.specs.Pending.BodyWays.{forces, uses}
use Rattle.mpl_mean.specs.Pending.Looseness.{Forces, Loose, where_one_is}
use Rattle.mpl_mean.specs.Pending.Paths.{Only, here}
use Rattle.mpl_checked.specs.Checked.CheckedExpressions.{checked_base, checked_read, checked_words}
use Rattle.mpl_checked.specs.Checked.CheckedStatements.{checked_put}
use Rattle.mpl_checked.specs.Checked.CheckedSteps.{CheckedStep, Checking, checked_force, force_unknown, goes_on, meant}
use Rattle.mpl_checked.proofs.Agreeing.{Agrees, Any, Quiet, event_agrees, quiet_agrees}
use Rattle.mpl_checked.proofs.Covering.{Covers}
use Rattle.mpl_checked.proofs.Standing.{Beside, IsKnown, Sits, sits}

-- what surrounds a statement in a context
abbrev pub env_of : Context → List Shape → Env
env_of c scope = record { declarations = c.declarations; members = c.members; parts = c.state; scope = scope }

-- ---- places

pub record SamePlace (loose : Loose) (scope : List Shape) (vs : List Variable) (name : List ℕ) (l : Location) (f : Found) : Type 0 where
  pub type : l.type ≡ f.type
  pub whole : l.is_whole ≡ f.is_whole
  pub seat : Sits loose scope vs name l.variable f.slot

abbrev pub Placed : Loose → List Shape → List Variable → List ℕ → Option Location → Option Found → Type 0
Placed loose scope vs name None None = Unit {0}
Placed loose scope vs name None (Some f) = ⊥
Placed loose scope vs name (Some l) None = ⊥
Placed loose scope vs name (Some l) (Some f) = SamePlace loose scope vs name l f

abbrev pub name_at : Target → List ℕ
name_at (target.Variable at variable) = variable.text
name_at (target.Field at variable field) = variable.text

part_placed : (loose : Loose) (scope : List Shape) (vs : List Variable) (name : List ℕ) (v : Option Variable) (slot : Option Slot) (m n : ℕ) (part : Option Part) → Sits loose scope vs name v slot
    → Placed loose scope vs name (location_of_part v m part) (found_part slot n part)
part_placed loose scope vs name v slot m n None h = tt
part_placed loose scope vs name v slot m n (Some part) h = record { type = refl; whole = refl; seat = h }

name_placed : (c : Context) (loose : Loose) (scope : List Shape) (vs : List Variable) (name : List ℕ) (v : Option Variable) (slot : Option Slot) → Sits loose scope vs name v slot
    → Placed loose scope vs name (location_of_name c v name) (found_name (env_of c scope) slot name)
name_placed c loose scope vs name None None h = part_placed loose scope vs name None None 0 0 (part_named name c.state) tt
name_placed c loose scope vs name None (Some slot) h = absurd h
name_placed c loose scope vs name (Some v) None h = absurd h
name_placed c loose scope vs name (Some v) (Some slot) h = record { type = h.type; whole = refl; seat = h }

field_placed : (c : Context) (loose : Loose) (scope : List Shape) (vs : List Variable) (name field : List ℕ) (l : Option Location) (f : Option Found) → Placed loose scope vs name l f
    → Placed loose scope vs name (field_of_location c field l) (found_field (env_of c scope) field f)
field_placed c loose scope vs name field None None h = tt
field_placed c loose scope vs name field None (Some f) h = absurd h
field_placed c loose scope vs name field (Some l) None h = absurd h
field_placed c loose scope vs name field (Some l) (Some f) h =
    subst (λ type. Placed loose scope vs name (location_of_part l.variable l.offset (part_named field (parts_of_type c.declarations l.type))) (found_part f.slot f.offset (part_named field (parts_of_type c.declarations type))))
    h.type (part_placed loose scope vs name l.variable f.slot l.offset f.offset (part_named field (parts_of_type c.declarations l.type)) h.seat)

pub placed : (c : Context) (loose : Loose) (scope : List Shape) (t : Target) (s : Store) → Beside loose scope s.variables
    → Placed loose scope s.variables (name_at t) (location_of c t s) (found_at (env_of c scope) t)
placed c loose scope (target.Variable at variable) s h =
    name_placed c loose scope s.variables variable.text (variable_named variable.text s.variables) (slot_named variable.text scope) (sits variable.text loose scope s.variables h)
placed c loose scope (target.Field at variable field) s h =
    field_placed c loose scope s.variables variable.text field.text (location_of_name c (variable_named variable.text s.variables) variable.text) (found_name (env_of c scope) (slot_named variable.text scope) variable.text)
    (name_placed c loose scope s.variables variable.text (variable_named variable.text s.variables) (slot_named variable.text scope) (sits variable.text loose scope s.variables h))

-- ---- forced uses

module _ (checking : Checking) (scope : List Shape) where
  -- a use of what isn't known is marked
  pub use_marked : (node number : ℕ) (loose : Loose) (b : Bool) → loose number ≡ b → Covers checking.marks (Only (Forces node number)) loose → (b ≡ false → ⊥) → checking.marks node ≡ true
  use_marked node number loose true is covers unknown = covers.marked node number [] here is
  use_marked node number loose false is covers unknown = absurd (unknown refl)

  -- a variable is forced, and then no event comes
  pub forced_then : {B : Type 0} (loose : Loose) (Q : Loose → B → Type 0) (node : ℕ) (v : Variable) (slot : Slot) (s : Store) (kh : List ℤ → CheckedStep B) (h : List ℤ → Step B)
      → Covers checking.marks (Only (Forces node slot.number)) loose → (loose slot.number ≡ false → IsKnown v.holds)
      → ((words : List ℤ) → v.holds ≡ arg.Know words → Quiet scope (where_one_is slot.number false loose) Q (kh words s) (h words s))
      → Agrees (Only (Forces node slot.number)) scope loose Q (goes_on (checked_force (checking.marks node) v.holds s) kh) (and_then (force v.holds s) h)
  forced_then {B} loose Q node v slot s kh h covers known rest = by_holds v.holds refl where
    marked : (a : Arg) → v.holds ≡ a → (IsKnown a → ⊥) → true ≡ checking.marks node
    marked a is unknown = sym (use_marked node slot.number loose (loose slot.number) refl covers (λ off. unknown (subst IsKnown is (known off))))

    ends : (a : Arg) → Agrees (Only (Forces node slot.number)) scope loose Q (goes_on (force_unknown true a s) kh) (and_then (force a s) h) → true ≡ checking.marks node
        → Agrees (Only (Forces node slot.number)) scope loose Q (goes_on (force_unknown (checking.marks node) a s) kh) (and_then (force a s) h)
    ends a is marked = subst (λ b. Agrees (Only (Forces node slot.number)) scope loose Q (goes_on (force_unknown b a s) kh) (and_then (force a s) h)) marked is

    by_holds : (a : Arg) → v.holds ≡ a → Agrees (Only (Forces node slot.number)) scope loose Q (goes_on (checked_force (checking.marks node) a s) kh) (and_then (force a s) h)
    by_holds (arg.Know words) is = event_agrees (Forces node slot.number) scope loose Q (kh words s) (h words s) (rest words is)
    by_holds (arg.Trapped trap) is = ends (arg.Trapped trap) (record { same = refl; follows = tt }) (marked (arg.Trapped trap) is (λ k. k))
    by_holds arg.Unknown is = ends arg.Unknown (record { same = refl; follows = tt }) (marked arg.Unknown is (λ k. k))

  -- ---- reading

  based : (loose : Loose) (node : ℕ) (l : Location) (name : List ℕ) (v : Option Variable) (slot : Option Slot) (s : Store) (h : List ℤ → Step Value)
      → Covers checking.marks (forces node slot) loose → Beside loose scope s.variables → Sits loose scope s.variables name v slot → ((words : List ℤ) (later : Loose) → Beside later scope s.variables → Quiet scope later Any (meant (h words) s) (h words s))
      → Agrees (forces node slot) scope loose Any (goes_on (checked_base checking node v s) (λ words. meant (h words))) (and_then (base_of v s) h)
  based loose node l name None None s h covers beside seat rest = quiet_agrees (rest s.state loose beside)
  based loose node l name None (Some slot) s h covers beside seat rest = absurd seat
  based loose node l name (Some v) None s h covers beside seat rest = absurd seat
  based loose node l name (Some v) (Some slot) s h covers beside seat rest =
      forced_then loose Any node v slot s (λ words. meant (h words)) h covers seat.known
      (λ words is. rest words (where_one_is slot.number false loose) (seat.settled (subst IsKnown (sym is) tt)))

  pub words_agree : (loose : Loose) (node : ℕ) (name : List ℕ) (l : Option Location) (f : Option Found) (s : Store) → Covers checking.marks (uses node f) loose → Beside loose scope s.variables
      → Placed loose scope s.variables name l f → Agrees (uses node f) scope loose Any (checked_words checking node l s) (words_of_location l s)
  words_agree loose node name None None s covers beside place = quiet_agrees (record { same = refl; stays = (beside, tt) })
  words_agree loose node name None (Some f) s covers beside place = absurd place
  words_agree loose node name (Some l) None s covers beside place = absurd place
  words_agree loose node name (Some l) (Some f) s covers beside place =
      based loose node l name l.variable f.slot s (λ words. pure (record { words = words_at l.offset l.words words; is_bool = is_bool l.type })) covers beside place.seat
      (λ words later b. record { same = refl; stays = (b, tt) })

  pub read_agrees : (c : Context) (loose : Loose) (node : ℕ) (t : Target) (s : Store) → Covers checking.marks (uses node (found_at (env_of c scope) t)) loose → Beside loose scope s.variables
      → Agrees (uses node (found_at (env_of c scope) t)) scope loose Any (checked_read checking node c t s) (read c t s)
  read_agrees c loose node t s covers beside =
      words_agree loose node (name_at t) (location_of c t s) (found_at (env_of c scope) t) s covers beside (placed c loose scope t s beside)

  -- ---- storing

  pub put_agrees : (loose : Loose) (node : ℕ) (name : List ℕ) (v : Option Variable) (slot : Option Slot) (offset : ℕ) (words : List ℤ) (s : Store) → Covers checking.marks (forces node slot) loose
      → Beside loose scope s.variables → Sits loose scope s.variables name v slot → Agrees (forces node slot) scope loose Any (checked_put checking node v offset words s) (put v offset words s)
  put_agrees loose node name None None offset words s covers beside seat = quiet_agrees (record { same = refl; stays = (beside, tt) })
  put_agrees loose node name None (Some slot) offset words s covers beside seat = absurd seat
  put_agrees loose node name (Some v) None offset words s covers beside seat = absurd seat
  put_agrees loose node name (Some v) (Some slot) offset words s covers beside seat =
      forced_then loose Any node v slot s (λ old. meant (hold v.name (arg.Know (with_words offset words old)))) (λ old. hold v.name (arg.Know (with_words offset words old))) covers seat.known
      (λ old is. record {
        same = refl;
        stays = (
          subst (λ n. Beside (where_one_is slot.number false loose) scope (holding n (arg.Know (with_words offset words old)) s.variables)) (sym seat.named)
              (seat.held (arg.Know (with_words offset words old)) false (λ _. tt)),
          tt,
        );
      })
