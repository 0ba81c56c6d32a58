-- What a pass keeps of its seat.
use Rattle.std.specs.Prelude.{◌≡◌, ℕ, ◌+◌, ◌^◌, ◌<◌, true, false, [], ◌∷◌, Option, None}
use Rattle.atomic_table.specs.Table.{Me}
use Rattle.mdf_turn.specs.declared.view.View.{View}

-- The pass has a part. Outside it has taken no slot; inside it has taken the one slot, whose value is out, and the number of its turn leaves room for the next
pub record IsInOrder {T J E : Type 0} (me : Me (Option T) (View J E)) (turns : ℕ) : Type 0 where
  pub has_part : 0 < me.0.parts
  pub outside : me.0.inside ≡ false → me.1 ≡ []
  pub slot : me.0.inside ≡ true → me.1 ≡ (0, None) ∷ []
  pub number : me.0.inside ≡ true → me.0.turns ≡ turns
  pub room : me.0.inside ≡ true → turns + 1 < 2 ^ 63
