use Rattle.std.proofs.Common.{◌∙◌, sym, length, ap, arith}
use Rattle.mdf_vm.proofs.GuardReads.{formal_of, length_pushed, load_goes, load_past}
use Rattle.mdf_vm.proofs.guarding.Guarding.load.Goals as goal

pub returns-then-offset-count : goal.returns-then-offset-count
returns-then-offset-count g c = λ image entry state.
    load_past (record { image = image; entry = entry; formals = g.F.Formals.words c.args.formals.now; state = state }) c.args.variable c.args.offset c.args.count c.in-Some.size c.args.self.now c.args.self.now
    (formal_of (g.F.Formals.words c.args.formals.now) c.args.sizes.now c.args.variable c.in-Some.size c.requires.fits (sym c.size_at.ensures ∙ c.in-Some.is)) c.if-offset-count.true

pub take_words-requires-clause-there : goal.take_words-requires-clause-there
take_words-requires-clause-there g c =
    let f = formal_of (g.F.Formals.words c.args.formals.now) c.args.sizes.now c.args.variable c.in-Some.size c.requires.fits (sym c.size_at.ensures ∙ c.in-Some.is) in
    (f.words, f.there, omega (arith, f.long, c.if-offset-count.false))

pub returns : goal.returns
returns g c = λ image entry state.
    let f = formal_of (g.F.Formals.words c.args.formals.now) c.args.sizes.now c.args.variable c.in-Some.size c.requires.fits (sym c.size_at.ensures ∙ c.in-Some.is) in
    let new = c.take_words.ensures f.words f.there in
    let few = length_pushed c.args.offset c.args.count f.words c.args.self.now.words in
    rw c.requires.next (load_goes (record { image = image; entry = entry; formals = g.F.Formals.words c.args.formals.now; state = state }) c.args.variable c.args.offset c.args.count c.in-Some.size c.args.self.now c.take_words.new.self f (omega (arith, c.if-offset-count.false)) (omega (arith, ap length new, few, c.room.ensures, c.if-count-room.false)) new)
