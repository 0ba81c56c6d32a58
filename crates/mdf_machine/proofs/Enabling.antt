-- The drive list, by what is kept.
use Rattle.std.proofs.Common.{◌≡◌, ◌<◌, ◌≤◌, ◌+◌, ◌-◌, ℕ, Bool, true, false, cond, List, [], ◌∷◌, length, Some, None, refl, sym, ap, ap₂, ◌∙◌, arith, slice_get, nat_lt, ltb-true, ltb-false}
use Rattle.std.specs.List.{items_where_true, range_with_len}
use Rattle.std.specs.Option.{option_map}
use Rattle.std.proofs.lemmas.Option.{slice_get_within}
use Rattle.mdf_core.specs.declared.item.Item.{Item}
use Rattle.mdf_core.specs.declared.item.Item.TheVariants as item
use Rattle.mdf_core.specs.declared.status.MachineStatus.TheVariants.{Going}
use Rattle.mdf_core.specs.DriveList.{items}
use Rattle.mdf_core.specs.Steps.{Log, after}
use Rattle.mdf_core.specs.Worlds.{Job}
use Rattle.mdf_drive.specs.DriveOrder.{next_in, next_of}
use Rattle.mdf_drive.proofs.DriveOrders.{item_is}
use Rattle.mdf_order.specs.InOrder.{serials_in}
use Rattle.mdf_order.proofs.InOrderSerials.{rank-of_place}
use Rattle.mdf_machine.specs.declared.parts.Parts.{Parts}
use Rattle.mdf_machine.specs.Internal.Held.{Kept}
use Rattle.mdf_machine.proofs.FewArcs.{few_actors, few_due}
use Rattle.mdf_machine.proofs.Quitted.{many_due, who_goes}
use Rattle.mdf_machine.proofs.Seen.{status_there}

few_marked : (marks : List Bool) (xs : List ℕ) → length (items_where_true marks xs) ≤ length marks
few_marked [] xs = omega arith
few_marked (b ∷ marks) [] = omega arith
few_marked (true ∷ marks) (x ∷ xs) = omega (arith, few_marked marks xs)
few_marked (false ∷ marks) (x ∷ xs) = omega (arith, few_marked marks xs)

pub few_items : (job : Job) (log : Log) (p : Parts) → Kept job log p → length p.results.due + length (serials_in p.going) < 100000000
few_items job log p k =
    let budget : job.budget ≤ 4000000 = k.budget in
    omega (arith, many_due job (after job log) p k.holds, few_due job log k.image k.is_log, few_actors job log k.image k.is_log, budget, few_marked p.going (range_with_len 0 (length p.going)), k.holds.going.length_is)

module _ (job : Job) (log : Log) (p : Parts) (place : ℕ) (k : Kept job log p) (going : (after job log).why ≡ Going) where
  by_place : (b : Bool) → nat_lt place (length (after job log).due) ≡ b →
      slice_get (items job (after job log)) place ≡ cond b (Some (item.Match place)) (option_map (next_in (after job log)) (slice_get (serials_in p.going) (place - length p.results.due)))
  by_place b is = item_is job log p.going k.plain k.is_log going (who_goes job (after job log) p k.holds) place
      ∙ ap₂ (λ b n. cond b (Some (item.Match place)) (option_map (next_in (after job log)) (slice_get (serials_in p.going) (place - n)))) is (sym (many_due job (after job log) p k.holds))

  below : (b : Bool) → nat_lt place (length (after job log).due) ≡ b → place < length p.results.due → b ≡ true
  below true is less = refl
  below false is less = absurd (omega (arith, less, many_due job (after job log) p k.holds, ltb-false place (length (after job log).due) is))

  past : (b : Bool) → nat_lt place (length (after job log).due) ≡ b → length p.results.due ≤ place → b ≡ false
  past true is more = absurd (omega (arith, more, many_due job (after job log) p k.holds, ltb-true place (length (after job log).due) is))
  past false is more = refl

  pub token_item : place < length p.results.due → Some (item.Match place) ≡ slice_get (items job (after job log)) place
  token_item less = sym (by_place true (below (nat_lt place (length (after job log).due)) refl less))

  pub no_item : length p.results.due ≤ place → slice_get (serials_in p.going) (place - length p.results.due) ≡ None → None ≡ slice_get (items job (after job log)) place
  no_item more none = sym (by_place false (past (nat_lt place (length (after job log).due)) refl more) ∙ ap (option_map (next_in (after job log))) none)

  pub actor_there : (a : ℕ) → slice_get (serials_in p.going) (place - length p.results.due) ≡ Some a → a < (after job log).count
  actor_there a found = omega (arith, slice_get_within p.going a true (rank-of_place p.going (place - length p.results.due) a found).0, k.holds.going.length_is)

  pub actor_item : length p.results.due ≤ place → (a : ℕ) → slice_get (serials_in p.going) (place - length p.results.due) ≡ Some a → (i : Item) → option_map (next_of a) (slice_get p.statuses a) ≡ Some i → Some i ≡ slice_get (items job (after job log)) place
  actor_item more a found i is = sym (by_place false (past (nat_lt place (length (after job log).due)) refl more) ∙ ap (option_map (next_in (after job log))) found
      ∙ ap (option_map (next_of a)) (sym (status_there job (after job log) p k.holds a (actor_there a found))) ∙ is)
