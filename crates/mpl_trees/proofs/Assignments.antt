-- Every assignment is taken.
use Rattle.std.proofs.Common.{◌≡◌, ℕ, suc, ◌≤◌, List, [], ◌∷◌, length, Some, arith}
use Rattle.mpl_ast.specs.declared.expression.Place.{Place}
use Rattle.mpl_ast.specs.declared.flow.Assignment.{Assignment}
use Rattle.mpl_ast.specs.declared.flow.Flow.{Flow}
use Rattle.mpl_ast.specs.declared.token.Mark.TheVariants as m
use Rattle.mpl_mean.specs.Text.ExpressionText.{place_text}
use Rattle.mpl_mean.specs.Text.Reading.{Reads, Rest, mark}
use Rattle.mpl_mean.specs.Text.StatementText.{assignment_text, flow_text}
use Rattle.mpl_mean.proofs.Readers.Parts.{Reading, Through, chain, in_turn}
use Rattle.mpl_trees.specs.Expressions.{take_expression, take_place}
use Rattle.mpl_trees.specs.Flows.{take_assignment, take_flow}
use Rattle.mpl_trees.specs.Taking.{both, inside, skip_then}
use Rattle.mpl_trees.proofs.Steps.{joins, skips}
use Rattle.mpl_trees.proofs.Took.{fewer-took, noded, takes-node, took_mark}
use Rattle.mpl_trees.proofs.Growth.{Growing, fewer, growing-mark, growing-node, growing-then, rising}
use Rattle.mpl_trees.proofs.Ends.{Ends}
use Rattle.mpl_trees.proofs.Targets.{NamedAhead}
use Rattle.mpl_trees.proofs.Places.{PlaceAhead, assign_ahead}
use Rattle.mpl_trees.proofs.Expressions.{place-is}
use Rattle.mpl_trees.proofs.Flows.{flow-is}

abbrev parts_of : Assignment → List Reads
parts_of a = place_text a.place ∷ mark m.Assign ∷ flow_text a.value ∷ []

read : (a : Assignment) {r x : Rest} → Reading (assignment_text a) r x → Through (parts_of a) (inside r) x
read a h = in_turn (parts_of a) (noded a.at (chain (parts_of a)) h).read

pub growing-assignment : (a : Assignment) → Growing 1 0 (assignment_text a)
growing-assignment a = growing-node a.at 0 (omega arith) (growing-then (place-is a.place).grows (growing-then (growing-mark m.Assign) (flow-is a.value).grows))

pub assignment-named : (a : Assignment) {r x : Rest} → Reading (assignment_text a) r x → NamedAhead r
assignment-named a h = let n = (place-is a.place).named (read a h).1 in record { text = n.text; is = n.is }

pub assignment-ahead : (a : Assignment) {r x : Rest} → Reading (assignment_text a) r x → PlaceAhead r
assignment-ahead a h =
    let u = read a h in
    let p = (place-is a.place).assigned u.1 (assign_ahead (took_mark m.Assign u.2.1)) in
    record { no_member = p.no_member; no_create = p.no_create; no_name = p.no_name }

pub assignment-taken : (a : Assignment) (d : ℕ) {r x : Rest} → Reading (assignment_text a) r x → Ends x → length r.tokens ≤ suc d → (limit : ℕ) → x.next ≤ limit → take_assignment d limit r ≡ Some (a, x)
assignment-taken a d {r = r} h e k limit l =
    let n = noded a.at (chain (parts_of a)) h in
    let u = in_turn (parts_of a) n.read in
    let t = took_mark m.Assign u.2.1 in
    let place = (place-is a.place).taken u.1 (assign_ahead t).follows d k limit (omega (arith, l, t.next, rising (flow-is a.value).grows u.2.2)) in
    let value = (flow-is a.value).taken u.2.2 e d (omega (arith, k, fewer (place-is a.place).grows u.1, fewer-took t)) limit l in
    takes-node limit (λ at (p : Place × Flow). record { at = at; place = p.0; value = p.1 }) (both (λ place value. (place, value)) (take_place (take_expression d)) (skip_then (mark m.Assign) (take_flow d))) n (rising (growing-assignment a) h) l
    (joins limit (λ place value. (place, value)) (take_place (take_expression d)) (skip_then (mark m.Assign) (take_flow d)) (inside r) place (skips limit (mark m.Assign) (take_flow d) u.2.1 value))
