use Rattle.std.proofs.Common.{◌≡◌, ◌+◌, ◌∷◌, ◌++◌, [], ℕ, List, Some, ℤ, ap, arith, drop, subst, sym, take, ◌∙◌}
use Rattle.std.specs.Int.{w64}
use Rattle.std.proofs.lemmas.Int.{to_z-of_z}
use Rattle.mentat_input.specs.Words.{number_of}
use Rattle.mentat_input.proofs.DigitLemmas.{number_fits}
use Rattle.mentat_input.proofs.WordLemmas.{SoFar, from_place, inside, past_blank, past_word}
use Rattle.mentat_input.proofs.words.numbers_of.Goals as goal

pub loop-at-preserved-then-length-eq0 : goal.loop-at-preserved-then-length-eq0
loop-at-preserved-then-length-eq0 c =
    past_blank c.args.bytes.now c.loop-at.at c.loop-at.numbers c.loop-at.invariant c.loop-at-test.true
    (ap inside (sym (from_place c.args.bytes.now c.loop-at.at)) ∙ sym c.word_length-length.ensures ∙ c.if-length-eq0.true)

pub loop-at-preserved : goal.loop-at-preserved
loop-at-preserved c =
    let bytes = c.args.bytes.now in
    let at = c.loop-at.at in
    let n = c.word_length-length.result in
    let there = from_place bytes at in
    let word : number_of (take n (drop at bytes)) ≡ Some c.in-Some.number =
    ap (λ (rest : List ℕ). number_of (take n rest)) (sym there) ∙ sym c.number_of.ensures ∙ c.in-Some.is in
    let next = past_word bytes at n c.loop-at.numbers c.in-Some.number c.loop-at.invariant (c.word_length-length.ensures ∙ ap inside there) (omega (arith, c.if-length-eq0.false)) word in
    let same = to_z-of_z w64 c.in-Some.number (number_fits (take n (drop at bytes)) c.in-Some.number word) in
    subst (SoFar bytes (at + n)) (sym (c.in_ok-push.ensures ∙ ap (λ (z : ℤ). c.loop-at.numbers ++ z ∷ []) same)) next
