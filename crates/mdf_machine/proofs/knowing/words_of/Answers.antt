use Rattle.std.proofs.Common.{◌≡◌, ap, sym, ◌∙◌, ◌++◌, ◌∷◌, [], suc, take, ℕ, add-one, w64}
use Rattle.std.proofs.lemmas.Int.{to_z-of_z}
use Rattle.mdf_future.specs.Results.{known_words}
use Rattle.mdf_machine.proofs.Changed.{take_one}
use Rattle.mdf_machine.proofs.knowing.words_of.Goals as goal

pub loop-at-preserved : goal.loop-at-preserved
loop-at-preserved c = rw add-one (c.in_ok-push.ensures.ok ∙ ap (λ z. c.loop-at.words ++ z ∷ []) (to_z-of_z w64 c.word.result (record { sfits = c.word.type_inv }))
    ∙ ap (λ words. words ++ c.word.result ∷ []) c.loop-at.invariant ∙ sym (take_one (known_words c.args.results.now c.args.actor) c.loop-at.at c.word.result c.word.ensures))
