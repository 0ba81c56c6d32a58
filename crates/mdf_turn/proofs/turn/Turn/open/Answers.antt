use Rattle.std.proofs.Common.{◌≡◌, List, [], ◌∷◌, ◌++◌, ap, sym, refl, ◌∙◌, subst}
use Rattle.std.specs.Prelude.{Option, Some}
use Rattle.atomic_table.specs.Table.{opening}
use Rattle.mdf_turn.specs.Rule.{Kept, opened}
use Rattle.mdf_turn.proofs.Keeps.{opens}
use Rattle.mdf_turn.proofs.turn.Turn.open.Goals as goal

pub new-requires : goal.new-requires
new-requires g c = let t = g.T.Logged in let value = c.of.result.value in let parts = c.args.parts in
    let slot : Some c.args.value ∷ [] ≡ Some value ∷ [] = ap (λ v. Some v ∷ []) (sym c.of.ensures) in
    let items : c.push_reserved.new.self.items ≡ Some value ∷ [] = c.push_reserved.ensures.items ∙ (ap (λ l. l ++ Some c.args.value ∷ []) c.in_ok-slots.ensures.items ∙ slot) in
    let P : List (Option g.row.T.Denot) → Type 0 = λ l. Kept t.job t.events t.actor t.is_out (t.job value) parts (opening (0 ∷ []) l (opened (t.job value) (t.events value) parts)) in
    subst P (sym items) (opens t.job t.events t.actor t.is_out (t.job value) parts value refl)
