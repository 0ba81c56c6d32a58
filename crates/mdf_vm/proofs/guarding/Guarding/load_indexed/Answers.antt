use Rattle.std.proofs.Common.{◌+◌, ◌∙◌, sym, ap, arith, rules}
use Rattle.mpl_value.specs.Words.{index_below}
use Rattle.mdf_vm.proofs.GuardReads.{formal_of, load_indexed_goes, load_indexed_past, same_word, word_there}
use Rattle.mdf_vm.proofs.guarding.Guarding.load_indexed.Goals as goal

pub returns-then-offset-count : goal.returns-then-offset-count
returns-then-offset-count g c = λ image entry line state.
    load_indexed_past (record { image = image; entry = entry; formals = g.F.Formals.words c.args.formals.now; state = state }) c.args.variable c.args.offset c.args.count line c.in-Some.size c.args.self.now c.args.self.now
    (formal_of (g.F.Formals.words c.args.formals.now) c.args.sizes.now c.args.variable c.in-Some.size c.requires.fits (sym c.size_at.ensures ∙ c.in-Some.is)) c.if-offset-count.true

pub word-word-requires : goal.word-word-requires
word-word-requires g c =
    let f = formal_of (g.F.Formals.words c.args.formals.now) c.args.sizes.now c.args.variable c.in-Some.size c.requires.fits (sym c.size_at.ensures ∙ c.in-Some.is) in
    word_there (g.F.Formals.words c.args.formals.now) c.args.variable (c.args.offset + c.in-Some-index_within.place) f.words f.there (omega (arith, f.long, c.if-offset-count.false, c.in-Some-index_within.ensures.below))

pub returns : goal.returns
returns g c = λ image entry line state.
    let f = formal_of (g.F.Formals.words c.args.formals.now) c.args.sizes.now c.args.variable c.in-Some.size c.requires.fits (sym c.size_at.ensures ∙ c.in-Some.is) in
    rw (c.requires.next, c.push.ensures, same_word c.word-word.result (record { sfits = c.word-word.type_inv }))
    (load_indexed_goes (record { image = image; entry = entry; formals = g.F.Formals.words c.args.formals.now; state = state }) c.args.variable c.args.offset c.args.count line c.in-Some.size c.args.self.now c.in-Some-pop.index c.pop.new.self
    c.in-Some-index_within.place c.word-word.result f (omega (arith, c.if-offset-count.false)) c.in-Some-pop.ensures.value (ap (λ i. index_below c.args.count i) (sym (same_word c.in-Some-pop.index (record { sfits = search rules }))) ∙ (sym c.index_within.ensures.value ∙ c.in-Some-index_within.is)) c.in-Some-index_within.ensures.below c.word-word.ensures c.in-Some-pop.ensures.few)
