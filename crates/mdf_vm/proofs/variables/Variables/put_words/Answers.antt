use Rattle.std.proofs.Common.{arith, length, refl}
use Rattle.mdf_vm.proofs.Laid.{got, seen_count, within}
use Rattle.mdf_vm.proofs.Written.{put_laid, put_seen}
use Rattle.mdf_vm.proofs.variables.Variables.put_words.Goals as goal

pub write_at-requires : goal.write_at-requires
write_at-requires c =
    let s = c.index-slot.result.now in
    let words = c.self.inside.words.items in
    let slots = c.self.inside.slots.items in
    let count = seen_count words slots c.args.self.now c.self.view_is in
    let there = got slots slots c.args.variable s refl c.index-slot.ensures (omega (arith, c.requires, count)) in
    omega (arith, c.if-slot-words.false, (within 0 (length words) slots c.args.variable s c.self.invariant there).1)

pub invariant_of-self : goal.invariant_of-self
invariant_of-self c =
    let s = c.index-slot.result.now in
    let t = c.index_mut.result.now in
    let words = c.self.inside.words.items in
    let slots = c.self.inside.slots.items in
    let count = seen_count words slots c.args.self.now c.self.view_is in
    let there = got slots slots c.args.variable s refl c.index-slot.ensures (omega (arith, c.requires, count)) in
    let other = got slots slots c.args.variable t refl c.index_mut.ensures.value (omega (arith, c.requires, count)) in
    put_laid words c.args.words.now c.write_at.new.words.items slots c.args.variable s t c.self.invariant there other c.if-slot-words.false c.write_at.ensures

pub returns-clause-ok : goal.returns-clause-ok
returns-clause-ok c =
    let s = c.index-slot.result.now in
    let t = c.index_mut.result.now in
    let words = c.self.inside.words.items in
    let slots = c.self.inside.slots.items in
    let count = seen_count words slots c.args.self.now c.self.view_is in
    let there = got slots slots c.args.variable s refl c.index-slot.ensures (omega (arith, c.requires, count)) in
    let other = got slots slots c.args.variable t refl c.index_mut.ensures.value (omega (arith, c.requires, count)) in
    put_seen words c.args.words.now c.write_at.new.words.items slots c.args.variable s t c.args.self.now c.self.invariant there other c.if-slot-words.false c.write_at.ensures c.self.view_is
