use Rattle.std.proofs.Common.{◌≡◌, ap, sym, ◌∙◌, ◌++◌, ◌∷◌, [], suc, take, add-one, append_assoc, w64}
use Rattle.std.proofs.lemmas.Int.{to_z-of_z}
use Rattle.mdf_match.specs.Ports.{known_words}
use Rattle.mdf_machine.proofs.Changed.{take_one}
use Rattle.mdf_machine.proofs.starting.add_all.Goals as goal

pub loop-at-preserved : goal.loop-at-preserved
loop-at-preserved c = rw add-one (c.in_ok-push.ensures.ok ∙ ap (λ z. c.loop-at.words ++ z ∷ []) (to_z-of_z w64 c.word.result (record { sfits = c.word.type_inv }))
    ∙ ap (λ words. words ++ c.word.result ∷ []) c.loop-at.invariant
    ∙ append_assoc c.args.words.now (take c.loop-at.at (known_words c.args.ports.now c.args.tag)) (c.word.result ∷ [])
    ∙ ap (λ more. c.args.words.now ++ more) (sym (take_one (known_words c.args.ports.now c.args.tag) c.loop-at.at c.word.result c.word.ensures)))
