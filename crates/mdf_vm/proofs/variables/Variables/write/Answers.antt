use Rattle.std.proofs.Common.{◌≡◌, ◌+◌, ap, arith, length, refl}
use Rattle.std.proofs.lemmas.Option.{slice_get_within}
use Rattle.mdf_vm.specs.Results.{knows_of}
use Rattle.mpl_value.specs.Words.{with_words, words_at}
use Rattle.mdf_code.specs.Alone.{Words}
use Rattle.mdf_vm.proofs.Laid.{got, seen_count}
use Rattle.mdf_vm.proofs.Operands.{on_ok}
use Rattle.mdf_vm.proofs.Written.{fits, known_fits, known_of_call, laid_still, set_is, told, write_here, write_is}
use Rattle.mdf_vm.proofs.variables.Variables.write.Goals as goal

pub write_at-requires : goal.write_at-requires
write_at-requires c =
    let words = c.self.inside.words.items in
    let slots = c.self.inside.slots.items in
    let s = c.index-slot.result.now in
    let r = c.requires in
    let inside = slice_get_within c.args.self.now c.args.variable r.0 r.2 in
    let there = got slots slots c.args.variable s refl c.index-slot.ensures (omega (arith, inside, seen_count words slots c.args.self.now c.self.view_is)) in
    fits words c.args.words.now slots c.args.variable c.args.offset s c.self.invariant there
    (known_fits (knows_of c.args.results.now) words c.args.words.now r.1 slots c.args.variable c.args.offset s c.args.self.now r.0 c.self.invariant there c.self.view_is c.in-None.is r.2 r.3 r.4)

pub invariant_of-self : goal.invariant_of-self
invariant_of-self c =
    let words = c.self.inside.words.items in
    let slots = c.self.inside.slots.items in
    let s = c.index-slot.result.now in
    let r = c.requires in
    let inside = slice_get_within c.args.self.now c.args.variable r.0 r.2 in
    let there = got slots slots c.args.variable s refl c.index-slot.ensures (omega (arith, inside, seen_count words slots c.args.self.now c.self.view_is)) in
    laid_still words c.args.words.now c.write_at.new.words.items slots (s.at + c.args.offset) c.self.invariant
    (fits words c.args.words.now slots c.args.variable c.args.offset s c.self.invariant there
    (known_fits (knows_of c.args.results.now) words c.args.words.now r.1 slots c.args.variable c.args.offset s c.args.self.now r.0 c.self.invariant there c.self.view_is c.in-None.is r.2 r.3 r.4)) c.write_at.ensures

pub write_known-requires-clause-known : goal.write_known-requires-clause-known
write_known-requires-clause-known c =
    let words = c.self.inside.words.items in
    let slots = c.self.inside.slots.items in
    let s = c.index-slot.result.now in
    let r = c.requires in
    let inside = slice_get_within c.args.self.now c.args.variable r.0 r.2 in
    let there = got slots slots c.args.variable s refl c.index-slot.ensures (omega (arith, inside, seen_count words slots c.args.self.now c.self.view_is)) in
    (r.1, known_of_call (knows_of c.args.results.now) s.pending (words_at s.at s.count words) r.1 c.in-Some.number r.0 c.in-Some.is (told words slots c.args.variable s c.args.self.now r.0 there c.self.view_is r.2) r.3, r.4)

pub write_known-requires-clause-there : goal.write_known-requires-clause-there
write_known-requires-clause-there c = slice_get_within c.args.self.now c.args.variable c.requires.0 c.requires.2

pub returns-in-None-clause-ok : goal.returns-in-None-clause-ok
returns-in-None-clause-ok c = λ held known found is.
    let words = c.self.inside.words.items in
    let slots = c.self.inside.slots.items in
    let s = c.index-slot.result.now in
    let r = c.requires in
    let inside = slice_get_within c.args.self.now c.args.variable r.0 r.2 in
    let there = got slots slots c.args.variable s refl c.index-slot.ensures (omega (arith, inside, seen_count words slots c.args.self.now c.self.view_is)) in
    write_here (knows_of c.args.results.now) words c.args.words.now known c.write_at.new.words.items slots c.args.variable c.args.offset s c.args.self.now held c.self.invariant there c.self.view_is c.in-None.is c.write_at.ensures
    (known_fits (knows_of c.args.results.now) words c.args.words.now r.1 slots c.args.variable c.args.offset s c.args.self.now r.0 c.self.invariant there c.self.view_is c.in-None.is r.2 r.3 r.4) inside found is

pub returns-in-Some-clause-ok : goal.returns-in-Some-clause-ok
returns-in-Some-clause-ok c =
    let words = c.self.inside.words.items in
    let slots = c.self.inside.slots.items in
    let s = c.index-slot.result.now in
    let r = c.requires in
    let inside = slice_get_within c.args.self.now c.args.variable r.0 r.2 in
    let there = got slots slots c.args.variable s refl c.index-slot.ensures (omega (arith, inside, seen_count words slots c.args.self.now c.self.view_is)) in
    on_ok c.write_known.result (λ wrote held known found is.
    let mine = known_of_call (knows_of c.args.results.now) s.pending (words_at s.at s.count words) known c.in-Some.number held c.in-Some.is (told words slots c.args.variable s c.args.self.now held there c.self.view_is found) is in
    let asked = known_of_call (knows_of c.args.results.now) s.pending (words_at s.at s.count words) r.1 c.in-Some.number r.0 c.in-Some.is (told words slots c.args.variable s c.args.self.now r.0 there c.self.view_is r.2) r.3 in
    let same : r.1 ≡ known = cc (mine, asked) in (
      write_is c.args.offset c.args.words.now known (omega (arith, r.4, ap length same)),
      set_is c.args.self.now c.write_known.new.self c.args.variable (Words (with_words c.args.offset c.args.words.now known)) inside (wrote known mine),
    )) c.write_known.ensures.ok
