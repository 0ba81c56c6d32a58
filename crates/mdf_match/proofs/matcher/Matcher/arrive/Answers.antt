-- The token's actor is open, since one of its ports is; the row that is lent is that of its ports.
use Rattle.std.proofs.Common.{◌≡◌, ℕ, ap, ap₂, refl, sym, subst, ◌∙◌}
use Rattle.std.specs.Prelude.{Some, None, Option, IsSome, unwrap_or, slice_get, slice_set, []}
use Rattle.std.specs.FinMap.{get, insert}
use Rattle.mpl_value.specs.declared.known.Known.{Known}
use Rattle.mpl_value.proofs.Table.{lookup-get, updated}
use Rattle.mdf_match.specs.Ports.{Row, filled_row, ticket_of}
use Rattle.mdf_match.proofs.matcher.Matcher.arrive.Goals as goal

-- an actor that isn't open has no port
is_open : (found : Option Row) (port : ℕ) → found ≡ None → slice_get (unwrap_or found []) port ≡ Some None → ◌≡◌ {A = Option (Option Known)} None (Some None)
is_open found port none empty = sym (ap (λ o. slice_get (unwrap_or o []) port) none) ∙ empty

not_found : (c : goal.Joined-known) → get c.args.self.now c.args.token.tag.actor ≡ None
not_found c = sym (ap (λ m. get m c.args.token.tag.actor) c.self.view_is) ∙ sym (lookup-get _ c.args.token.tag.actor) ∙ sym c.in_err-ports.ensures.value

pub returns-in_err-ports-clause-filled : goal.returns-in_err-ports-clause-filled
returns-in_err-ports-clause-filled c = let e = is_open _ c.args.token.tag.port (not_found c) c.requires.empty in absurd (cc)

pub returns-in_err-ports-clause-ticket : goal.returns-in_err-ports-clause-ticket
returns-in_err-ports-clause-ticket c = let e = is_open _ c.args.token.tag.port (not_found c) c.requires.empty in absurd (cc)

pub fill-requires : goal.fill-requires
fill-requires c =
    let found : get c.args.self.now c.args.token.tag.actor ≡ Some c.in_ok-ports.ports.now = sym (ap (λ m. get m c.args.token.tag.actor) c.self.view_is) ∙ sym (lookup-get _ c.args.token.tag.actor) ∙ sym c.in_ok-ports.ensures.value in
    sym (ap (λ o. slice_get (unwrap_or o []) c.args.token.tag.port) found) ∙ c.requires.empty

-- the row that was lent has the token at its port
row_is : (c : goal.After-self-2-1) → c.fill.new.self ≡ filled_row c.args.self.now c.args.token
row_is c =
    let found : get c.args.self.now c.args.token.tag.actor ≡ Some c.in_ok-ports.ports.now = sym (ap (λ m. get m c.args.token.tag.actor) c.self.view_is) ∙ sym (lookup-get _ c.args.token.tag.actor) ∙ sym c.in_ok-ports.ensures.value in
    c.fill.ensures ∙ ap₂ (λ o d. slice_set (unwrap_or o []) c.args.token.tag.port (Some d)) (sym found) c.new.ensures

pub returns-clause-filled : goal.returns-clause-filled
returns-clause-filled c =
    updated _ _ c.args.token.tag.actor c.fill.new.self ((c.get_mut.follows.holds c.fill.new.self).3 (subst IsSome c.in_ok-ports.ensures.value refl)).0
    ∙ ap₂ (λ m row. insert m c.args.token.tag.actor row) c.self.view_is (row_is c)

pub returns-clause-ticket : goal.returns-clause-ticket
returns-clause-ticket c = c.ticket.ensures ∙ ap (λ row. ticket_of row c.args.token.tag.actor) (row_is c)
