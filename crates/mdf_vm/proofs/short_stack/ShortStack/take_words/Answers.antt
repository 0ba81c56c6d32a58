use Rattle.std.proofs.Common.{◌+◌, ◌∙◌, ◌∷◌, List, length, ap, arith}
use Rattle.std.specs.Prelude.{ℤ}
use Rattle.mdf_vm.proofs.GuardReads.{one_more, same_word, word_is, word_there}
use Rattle.mdf_vm.proofs.short_stack.ShortStack.take_words.Goals as goal

pub word-word-requires : goal.word-word-requires
word-word-requires g c =
    word_there (g.F.Formals.words c.args.formals.now) c.args.formal (c.args.offset + c.loop-place.place) (c.requires.there).0 (c.requires.there).1 (omega (arith, (c.requires.there).2, c.loop-place-test.true))

pub loop-place-preserved : goal.loop-place-preserved
loop-place-preserved g c = (
  λ words there. c.push.ensures ∙ (ap (λ (w : ℤ). w ∷ c.loop-place.self) (same_word c.word-word.result (record { sfits = c.word-word.type_inv }))
      ∙ (ap (λ (l : List ℤ). c.word-word.result ∷ l) (c.loop-place.invariant.0 words there)
      ∙ one_more words c.args.offset c.loop-place.place c.word-word.result c.args.self.now (word_is (g.F.Formals.words c.args.formals.now) c.args.formal (c.args.offset + c.loop-place.place) words c.word-word.result there c.word-word.ensures))),
  omega (arith, ap length c.push.ensures, c.loop-place.invariant.1),
)
