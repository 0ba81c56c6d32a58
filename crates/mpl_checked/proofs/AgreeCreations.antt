-- Objects that are created, as they are meant.
use Rattle.std.proofs.Common.{◌≡◌, ℕ, Bool, true, false, List, [], ◌∷◌, Option, Some, None, ℤ, refl, sym, subst}
use Rattle.mpl_ast.specs.declared.expression.Target.{Target}
use Rattle.mpl_ast.specs.declared.statement.TypeName.{TypeName}
use Rattle.mpl_value.specs.Words.{with_words}
use Rattle.mpl_value.specs.declared.body.Arg.TheVariants as arg
use Rattle.mpl_mean.specs.Meaning.CallMeaning.{class_of_location}
use Rattle.mpl_mean.specs.Meaning.Context.{Context}
use Rattle.mpl_mean.specs.Meaning.Layout.{Class}
use Rattle.mpl_mean.specs.Meaning.PlaceMeaning.{Location, location_of, put}
use Rattle.mpl_mean.specs.Meaning.StatementMeaning.{at_location, create_at, created, new_object}
use Rattle.mpl_mean.specs.Meaning.Store.{Store, Variable, ◌>>=◌, and_then, force, hold, holding, spend}
use Rattle.mpl_mean.specs.Plain.Scopes.{Env, Found, Shape, Slot, found_at}
use Rattle.mpl_mean.specs.Pending.BodyWays.{create_ways, created_in}
use Rattle.mpl_mean.specs.Pending.Looseness.{Settles, Loose, where_one_is}
use Rattle.mpl_checked.specs.Checked.CheckedStatements.{checked_create, checked_put}
use Rattle.mpl_checked.specs.Checked.CheckedSteps.{Checking, ◌>?>◌, checked_force, goes_on, meant}
use Rattle.mpl_checked.proofs.Agreeing.{Agrees, Any, Anything, Keeps, Quiet, event_agrees, keeps_then, kept_then, quiet_agrees}
use Rattle.mpl_checked.proofs.AgreeForms.{Agreeing, keeps_spend}
use Rattle.mpl_checked.proofs.Covering.{Covers}
use Rattle.mpl_checked.proofs.Standing.{Beside, Seat, Sits}
use Rattle.mpl_checked.proofs.Uses.{Placed, env_of, forced_then, name_at, placed}

keeps_new : (c : Context) (class : Option Class) (s : Store) → Keeps Anything s (new_object c class s)
keeps_new c None s = tt
keeps_new c (Some class) s = keeps_then Anything Anything s (spend c.turns s) (λ _. created c class) (keeps_spend c.turns s) (λ _ t _. (refl, tt))

module _ (checking : Checking) (c : Context) (scope : List Shape) where
  abbrev env : Env
  env = env_of c scope

  known_put : (node : ℕ) (v : Variable) (name : List ℕ) (slot : Slot) (offset : ℕ) (words old : List ℤ) (loose : Loose) (s : Store) (vs : List Variable) → v.holds ≡ arg.Know old → s.variables ≡ vs → Seat loose scope vs name v slot
      → Quiet scope (where_one_is slot.number false loose) Any (checked_put checking node (Some v) offset words s) (put (Some v) offset words s)
  known_put node v name slot offset words old loose s vs is same seat =
      subst (λ a. Quiet scope (where_one_is slot.number false loose) Any (goes_on (checked_force (checking.marks node) a s) (λ old. meant (hold v.name (arg.Know (with_words offset words old)))))
      (and_then (force a s) (λ old. hold v.name (arg.Know (with_words offset words old))))) (sym is)
      (record {
        same = refl;
        stays = (
          subst (λ n. Beside (where_one_is slot.number false loose) scope (holding n (arg.Know (with_words offset words old)) s.variables)) (sym seat.named)
              (subst (λ vs. Beside (where_one_is slot.number false loose) scope (holding name (arg.Know (with_words offset words old)) vs)) (sym same) (seat.held (arg.Know (with_words offset words old)) false (λ _. tt))),
          tt,
        );
      })

  create_in_agrees : (node : ℕ) (name : List ℕ) (v : Option Variable) (offset size : ℕ) (type : TypeName) (whole : Bool) (slot : Option Slot) (loose : Loose) (s : Store)
      → Covers checking.marks (created_in node slot whole) loose → Beside loose scope s.variables → Sits loose scope s.variables name v slot
      → let l : Location = record { variable = v; offset = offset; words = size; type = type; is_whole = whole } in
      Agrees (created_in node slot whole) scope loose Any (checked_create checking c node (Some l) s) (create_at c (Some l) s)
  create_in_agrees node name None offset size type whole None loose s covers beside seat =
      let l : Location = record { variable = None; offset = offset; words = size; type = type; is_whole = whole } in
      quiet_agrees (kept_then scope loose Anything Any s (new_object c (class_of_location c (Some l)) s) (λ object. meant (put None offset (object ∷ []))) (λ object. put None offset (object ∷ []))
      (keeps_new c (class_of_location c (Some l)) s)
      (λ object t same _. record { same = refl; stays = (subst (λ vs. Beside loose scope vs) (sym same) beside, tt) }))
  create_in_agrees node name None offset size type whole (Some slot) loose s covers beside seat = absurd seat
  create_in_agrees node name (Some v) offset size type whole None loose s covers beside seat = absurd seat
  create_in_agrees node name (Some v) offset size type true (Some slot) loose s covers beside seat =
      let l : Location = record { variable = Some v; offset = offset; words = size; type = type; is_whole = true } in
      event_agrees (Settles slot.number) scope loose Any (checked_create checking c node (Some l) s) (create_at c (Some l) s)
      (kept_then scope (where_one_is slot.number false loose) Anything Any s (new_object c (class_of_location c (Some l)) s) (λ object. meant (hold v.name (arg.Know (object ∷ [])))) (λ object. hold v.name (arg.Know (object ∷ [])))
      (keeps_new c (class_of_location c (Some l)) s)
      (λ object t same _. record {
        same = refl;
        stays = (
          subst (λ n. Beside (where_one_is slot.number false loose) scope (holding n (arg.Know (object ∷ [])) t.variables)) (sym seat.named)
              (subst (λ vs. Beside (where_one_is slot.number false loose) scope (holding name (arg.Know (object ∷ [])) vs)) (sym same) (seat.held (arg.Know (object ∷ [])) false (λ _. tt))),
          tt,
        );
      }))
  create_in_agrees node name (Some v) offset size type false (Some slot) loose s covers beside seat =
      let l : Location = record { variable = Some v; offset = offset; words = size; type = type; is_whole = false } in
      forced_then checking scope loose Any node v slot s
      (λ _. meant (new_object c (class_of_location c (Some l))) >?> (λ object. checked_put checking node (Some v) offset (object ∷ [])))
      (λ _. new_object c (class_of_location c (Some l)) >>= (λ object. put (Some v) offset (object ∷ []))) covers seat.known
      (λ old is. kept_then scope (where_one_is slot.number false loose) Anything Any s (new_object c (class_of_location c (Some l)) s)
      (λ object. checked_put checking node (Some v) offset (object ∷ [])) (λ object. put (Some v) offset (object ∷ [])) (keeps_new c (class_of_location c (Some l)) s)
      (λ object t same _. known_put node v name slot offset (object ∷ []) old loose t s.variables is same seat))

  create_agrees : (node : ℕ) (name : List ℕ) (l : Option Location) (f : Option Found) (loose : Loose) (s : Store) → Covers checking.marks (create_ways node f) loose → Beside loose scope s.variables
      → Placed loose scope s.variables name l f → Agrees (create_ways node f) scope loose Any (checked_create checking c node l s) (create_at c l s)
  create_agrees node name None None loose s covers beside place = record { same = refl; follows = tt }
  create_agrees node name None (Some f) loose s covers beside place = absurd place
  create_agrees node name (Some l) None loose s covers beside place = absurd place
  create_agrees node name (Some l) (Some f) loose s covers beside place =
      subst (λ whole. Agrees (created_in node f.slot whole) scope loose Any (checked_create checking c node (Some l) s) (create_at c (Some l) s)) place.whole
      (create_in_agrees node name l.variable l.offset l.words l.type l.is_whole f.slot loose s
      (subst (λ whole. Covers checking.marks (created_in node f.slot whole) loose) (sym place.whole) covers) beside place.seat)

  pub creates_agree : (node : ℕ) (t : Target)
      → Agreeing checking c scope Any (create_ways node (found_at env t)) (λ s. checked_create checking c node (location_of c t s) s) (at_location c t (create_at c))
  creates_agree node t loose s covers beside =
      create_agrees node (name_at t) (location_of c t s) (found_at env t) loose s covers beside (placed c loose scope t s beside)
