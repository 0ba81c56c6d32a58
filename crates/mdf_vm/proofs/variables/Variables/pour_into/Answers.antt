use Rattle.std.proofs.Common.{◌≡◌, ap, arith, drop, length, refl, subst, sym, take, ◌∙◌}
use Rattle.std.proofs.lemmas.List.{length-take-le}
use Rattle.std.proofs.Math.Nat.{min-le_left, min-le_right}
use Rattle.mdf_vm.proofs.Laid.{got, seen_count, within}
use Rattle.mdf_vm.proofs.Written.{laid_still, leaves_all, leaves_rest, pours_nothing, pours_one}
use Rattle.mdf_vm.proofs.variables.Variables.pour_into.Goals as goal

pub returns-then-is_some-clause-held : goal.returns-then-is_some-clause-held
returns-then-is_some-clause-held c = λ held found.
    let words = c.self.inside.words.items in
    let slots = c.self.inside.slots.items in
    let there = got slots slots c.args.place c.index.result.now refl c.index.ensures (omega (arith, c.requires, seen_count words slots c.args.self.now c.self.view_is)) in
    pours_nothing words c.args.words.now slots c.args.place c.index.result.now c.args.self.now held there c.self.view_is c.if-is_some.ensures found

pub returns-then-is_some-clause-left : goal.returns-then-is_some-clause-left
returns-then-is_some-clause-left c = λ held found.
    let words = c.self.inside.words.items in
    let slots = c.self.inside.slots.items in
    let there = got slots slots c.args.place c.index.result.now refl c.index.ensures (omega (arith, c.requires, seen_count words slots c.args.self.now c.self.view_is)) in
    leaves_all words c.args.words.now slots c.args.place c.index.result.now c.args.self.now held there c.self.view_is c.if-is_some.ensures found

pub write_at-requires : goal.write_at-requires
write_at-requires c =
    let words = c.self.inside.words.items in
    let slots = c.self.inside.slots.items in
    let s = c.index.result.now in
    let there = got slots slots c.args.place s refl c.index.ensures (omega (arith, c.requires, seen_count words slots c.args.self.now c.self.view_is)) in
    let few = min-le_left s.count (length c.args.words.now) in
    let long = ap length c.split_at.ensures.front ∙ length-take-le c.min.result c.args.words.now (omega (arith, c.min.ensures, min-le_right s.count (length c.args.words.now))) in
    omega (arith, long, c.min.ensures, few, (within 0 (length words) slots c.args.place s c.self.invariant there).1)

pub invariant_of-self : goal.invariant_of-self
invariant_of-self c =
    let words = c.self.inside.words.items in
    let slots = c.self.inside.slots.items in
    let s = c.index.result.now in
    let there = got slots slots c.args.place s refl c.index.ensures (omega (arith, c.requires, seen_count words slots c.args.self.now c.self.view_is)) in
    let few = min-le_left s.count (length c.args.words.now) in
    let long = ap length c.split_at.ensures.front ∙ length-take-le c.min.result c.args.words.now (omega (arith, c.min.ensures, min-le_right s.count (length c.args.words.now))) in
    laid_still words c.split_at.result.0.now c.write_at.new.words.items slots s.at c.self.invariant
    (omega (arith, long, c.min.ensures, few, (within 0 (length words) slots c.args.place s c.self.invariant there).1)) c.write_at.ensures

pub returns-clause-held : goal.returns-clause-held
returns-clause-held c = λ held found.
    let words = c.self.inside.words.items in
    let slots = c.self.inside.slots.items in
    let s = c.index.result.now in
    let there = got slots slots c.args.place s refl c.index.ensures (omega (arith, c.requires, seen_count words slots c.args.self.now c.self.view_is)) in
    let few = min-le_left s.count (length c.args.words.now) in
    let long = ap length c.split_at.ensures.front ∙ length-take-le c.min.result c.args.words.now (omega (arith, c.min.ensures, min-le_right s.count (length c.args.words.now))) in
    pours_one words c.args.words.now c.split_at.result.0.now c.write_at.new.words.items slots c.args.place s c.args.self.now held c.self.invariant there c.self.view_is c.if-is_some.ensures
    (subst (λ n. c.split_at.result.0.now ≡ take n c.args.words.now) c.min.ensures c.split_at.ensures.front) (omega (arith, long, c.min.ensures, few)) c.write_at.ensures found

pub returns-clause-left : goal.returns-clause-left
returns-clause-left c = λ held found.
    let words = c.self.inside.words.items in
    let slots = c.self.inside.slots.items in
    let s = c.index.result.now in
    let there = got slots slots c.args.place s refl c.index.ensures (omega (arith, c.requires, seen_count words slots c.args.self.now c.self.view_is)) in
    leaves_rest words c.args.words.now c.split_at.result.1.now slots c.args.place s c.args.self.now held c.self.invariant there c.self.view_is c.if-is_some.ensures
    (subst (λ n. c.split_at.result.1.now ≡ drop n c.args.words.now) c.min.ensures c.split_at.ensures.back) found
