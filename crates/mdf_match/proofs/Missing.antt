-- How many ports are missing, as they are filled.
use Rattle.std.proofs.Common.{◌≡◌, ℕ, zero, suc, ◌+◌, [], ◌∷◌, refl, ap, sym, ◌∙◌, arith, length}
use Rattle.std.specs.Prelude.{◌==◌, Some, None, replicate, slice_get, slice_set, if◌then◌else◌}
use Rattle.std.proofs.lemmas.Bool.{eq-eqb, ne_eqb}
use Rattle.mpl_value.specs.declared.known.Known.{Known}
use Rattle.mdf_match.specs.declared.token.Ticket.{Ticket}
use Rattle.mdf_match.specs.Ports.{Row, missing_in}
use Rattle.mdf_match.specs.Arrivals.{Arrivals, after, ComeToEmptyPorts, LastGivesTheTicket}

pub missing-filled : (row : Row) (port : ℕ) (known : Known) → slice_get row port ≡ Some None
    → 1 + missing_in (slice_set row port (Some known)) ≡ missing_in row
missing-filled [] port known empty = absurd (cc)
missing-filled (None ∷ row) zero known empty = refl
missing-filled (Some _ ∷ row) zero known empty = absurd (cc)
missing-filled (None ∷ row) (suc port) known empty = ap (λ n. 1 + n) (missing-filled row port known empty)
missing-filled (Some _ ∷ row) (suc port) known empty = missing-filled row port known empty

pub missing-replicate : (count : ℕ) → missing_in (replicate count None) ≡ count
missing-replicate zero = refl
missing-replicate (suc count) = omega (arith, missing-replicate count)

-- each value that comes fills one port
each-fills : (row : Row) (arrivals : Arrivals) → ComeToEmptyPorts row arrivals → missing_in (after row arrivals) + length arrivals ≡ missing_in row
each-fills row [] come = omega arith
each-fills row (arrival ∷ later) come =
    let filled = missing-filled row arrival.0 arrival.1 come.0 in
    let others = each-fills (slice_set row arrival.0 (Some arrival.1)) later come.1 in
    omega (arith, filled, others)

none-is-all : (missing come ports : ℕ) → missing + come ≡ ports → (missing == 0) ≡ (come == ports)
none-is-all zero come ports all = sym (eq-eqb come ports (omega (arith, all)))
none-is-all (suc missing) come ports all =
    ne_eqb (suc missing) 0 (λ e. absurd (omega (arith, e))) ∙ sym (ne_eqb come ports (λ same. absurd (omega (arith, all, same))))

pub ticket_with_the_last : LastGivesTheTicket
ticket_with_the_last ports actor arrivals come =
    let ticket : Ticket = record { actor = actor } in
    ap (λ all. if all then Some ticket else None)
    (none-is-all (missing_in (after (replicate ports None) arrivals)) (length arrivals) ports (each-fills (replicate ports None) arrivals come ∙ missing-replicate ports))
