-- A world in which one actor is another than before.
use Rattle.std.proofs.Common.{◌≡◌, ◌<◌, ◌+◌, ◌⊎◌, ℕ, List, length, set, Bool, true, false, Option, Some, None, refl, sym, ap, ◌∙◌, subst, arith, inl, inr, slice_get}
use Rattle.std.specs.Prelude.{is_some}
use Rattle.mdf_actor.specs.declared.status.ActorStatus.{ActorStatus}
use Rattle.mdf_actor.specs.declared.status.ActorStatus.TheVariants as status
use Rattle.mdf_core.specs.Actors.{Actor, known_of}
use Rattle.mdf_core.specs.Worlds.{World, acts, change, fate_at, put, spends}
use Rattle.mdf_core.proofs.Lists.{put_here, put_there, same_or}
use Rattle.mdf_drive.specs.DriveOrder.{goes_on}
use Rattle.mdf_machine.specs.Internal.Held.{MarkIs}
use Rattle.mdf_machine.specs.Internal.Rows.{changed}
use Rattle.mdf_machine.specs.Internal.Tables.{Each}
use Rattle.mdf_machine.proofs.Changed.{each_as, each_changed, each_set}

pub record One (a : ℕ) (y : Actor) (w v : World) : Type 0 where
  pub here : v.actors a ≡ y
  pub others : (k : ℕ) → (k ≡ a → ⊥) → v.actors k ≡ w.actors k

pub acts_one : (a t : ℕ) (f : Actor → Actor) (w : World) → One a (spends t (f (w.actors a))) w (acts a t f w)
acts_one a t f w = record { here = put_here a (spends t (f (w.actors a))) w.actors; others = λ k differ. put_there a k (spends t (f (w.actors a))) w.actors differ }

pub change_one : (a : ℕ) (f : Actor → Actor) (w : World) → One a (f (w.actors a)) w (change a f w)
change_one a f w = record { here = put_here a (f (w.actors a)) w.actors; others = λ k differ. put_there a k (f (w.actors a)) w.actors differ }

-- ---- tables over actors

pub each_one : {A : Type 0} (P : Actor → A → Type 0) (a : ℕ) (y : Actor) (w v : World) (n m : ℕ) (xs : List A) → One a y w v → Each (λ k x. P (w.actors k) x) n xs → n ≡ m →
    ((x : A) → P (w.actors a) x → P y x) → Each (λ k x. P (v.actors k) x) m xs
each_one P a y w v n m xs one e same here = each_as (λ k x. P (w.actors k) x) (λ k x. P (v.actors k) x) n m xs e same (λ k x below p. at k x p (same_or k a)) where
  at : (k : ℕ) (x : _) → P (w.actors k) x → (k ≡ a) ⊎ (k ≡ a → ⊥) → P (v.actors k) x
  at k x p (inl is) = subst (λ z. P z x) (sym (ap v.actors is ∙ one.here)) (here x (subst (λ j. P (w.actors j) x) is p))
  at k x p (inr differ) = subst (λ z. P z x) (sym (one.others k differ)) p

pub each_one_set : {A : Type 0} (P : Actor → A → Type 0) (a : ℕ) (y : Actor) (w v : World) (n m : ℕ) (xs : List A) (z : A) → One a y w v → Each (λ k x. P (w.actors k) x) n xs → n ≡ m →
    P y z → Each (λ k x. P (v.actors k) x) m (set xs a z)
each_one_set P a y w v n m xs z one e same here =
    each_set (λ k x. P (w.actors k) x) (λ k x. P (v.actors k) x) n m a z xs e same (subst (λ u. P u z) (sym one.here) here) (λ k x below differ p. subst (λ u. P u x) (sym (one.others k differ)) p)

pub each_one_changed : {A : Type 0} (P : Actor → A → Type 0) (a : ℕ) (y : Actor) (w v : World) (n m : ℕ) (g : A → A) (xs : List A) → One a y w v → Each (λ k x. P (w.actors k) x) n xs → n ≡ m →
    ((x : A) → P (w.actors a) x → P y (g x)) → Each (λ k x. P (v.actors k) x) m (changed g a xs)
each_one_changed P a y w v n m g xs one e same here =
    each_changed (λ k x. P (w.actors k) x) (λ k x. P (v.actors k) x) n m a g xs e same (λ x p. subst (λ u. P u (g x)) (sym one.here) (here x p)) (λ k x below differ p. subst (λ u. P u x) (sym (one.others k differ)) p)

-- ---- fates

pub fates_one : (a : ℕ) (y : Actor) (w v : World) → One a y w v → y.fate ≡ fate_at w a → (k : ℕ) → fate_at v k ≡ fate_at w k
fates_one a y w v one same k = at (same_or k a) where
  at : (k ≡ a) ⊎ (k ≡ a → ⊥) → fate_at v k ≡ fate_at w k
  at (inl is) = ap (fate_at v) is ∙ ap (λ (x : Actor). x.fate) one.here ∙ same ∙ ap (fate_at w) (sym is)
  at (inr differ) = ap (λ (x : Actor). x.fate) (one.others k differ)

pub goes_same : (w v : World) → ((k : ℕ) → fate_at v k ≡ fate_at w k) → (s : ActorStatus) → goes_on v s ≡ goes_on w s
goes_same w v same (status.Waiting missing) = refl
goes_same w v same status.Ready = refl
goes_same w v same status.Running = refl
goes_same w v same (status.Parked child) = ap (λ f. is_some (known_of f)) (same child)
goes_same w v same status.Ended = refl
goes_same w v same status.Poisoned = refl

-- ---- marks

pub marks_one : (a : ℕ) (y : Actor) (w v : World) (n m : ℕ) (marks : List Bool) → One a y w v → ((k : ℕ) → fate_at v k ≡ fate_at w k) → Each (MarkIs w) n marks → n ≡ m →
    goes_on w y.status ≡ goes_on w (w.actors a).status → Each (MarkIs v) m marks
marks_one a y w v n m marks one same e count goes = each_as (MarkIs w) (MarkIs v) n m marks e count (λ k mark below is. is ∙ at k (same_or k a)) where
  at : (k : ℕ) → (k ≡ a) ⊎ (k ≡ a → ⊥) → goes_on w (w.actors k).status ≡ goes_on v (v.actors k).status
  at k (inl is) = ap (λ j. goes_on w (w.actors j).status) is ∙ sym goes ∙ sym (goes_same w v same y.status) ∙ ap (λ (x : Actor). goes_on v x.status) (sym (ap v.actors is ∙ one.here))
  at k (inr differ) = ap (λ (x : Actor). goes_on w x.status) (sym (one.others k differ)) ∙ sym (goes_same w v same (v.actors k).status)

pub marks_one_set : (a : ℕ) (y : Actor) (w v : World) (n m : ℕ) (marks : List Bool) (mark : Bool) → One a y w v → ((k : ℕ) → fate_at v k ≡ fate_at w k) → Each (MarkIs w) n marks → n ≡ m →
    mark ≡ goes_on w y.status → Each (MarkIs v) m (set marks a mark)
marks_one_set a y w v n m marks mark one same e count goes =
    each_set (MarkIs w) (MarkIs v) n m a mark marks e count (goes ∙ sym (goes_same w v same y.status) ∙ ap (λ (x : Actor). goes_on v x.status) (sym one.here))
    (λ k x below differ is. is ∙ ap (λ (z : Actor). goes_on w z.status) (sym (one.others k differ)) ∙ sym (goes_same w v same (v.actors k).status))
