-- What stands in mailboxes, and what was accepted.
use Rattle.std.specs.Prelude.{ℕ, ◌≡◌, ◌<◌, true, false}
use Rattle.mdf_actor.specs.declared.status.ActorStatus.TheVariants as status
use Rattle.mdf_core.specs.Actors.{is_post}
use Rattle.mdf_core.specs.Worlds.{World, is_in}

pub record MailIs (w : World) : Type 0 where
  -- what arrived are calls on objects
  pub there : (c : ℕ) → is_in c w.arrived ≡ true → c < w.count
  pub posts : (c : ℕ) → is_in c w.arrived ≡ true → is_post (w.actors c).call ≡ true
  -- what was accepted has arrived, and what has arrived waits with all its arguments until then
  pub came : (c : ℕ) → is_in c w.accepted ≡ true → is_in c w.arrived ≡ true
  pub waits : (c : ℕ) → is_in c w.arrived ≡ true → is_in c w.accepted ≡ false → (w.actors c).status ≡ status.Waiting 0
