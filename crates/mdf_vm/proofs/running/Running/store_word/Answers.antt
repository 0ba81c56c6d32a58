use Rattle.std.proofs.Common.{ap, sym, ◌∙◌, ◌∷◌, [], drop}
use Rattle.std.proofs.lemmas.Int.{to_z-of_z}
use Rattle.std.specs.Int.{w64}
use Rattle.mpl_value.specs.Words.{with_words}
use Rattle.mdf_code.specs.Stacks.{write_words}
use Rattle.mdf_code.specs.Steps.{or_strays}
use Rattle.mdf_vm.specs.Runnings.{frame_of}
use Rattle.mdf_vm.specs.Results.{knows_of}
use Rattle.mdf_vm.proofs.Storing.{stored}
use Rattle.mdf_vm.proofs.running.Running.store_word.Goals as goal

pub returns-clause-ok : goal.returns-clause-ok
returns-clause-ok c =
    let same = to_z-of_z w64 c.args.word c.ranges.word in
    let held = sym c.in-Some.ensures in
    let known = sym c.in-Some-words.ensures in
    let words = c.in-Some-words.known.now in
    let wrote = rw same at (c.in_ok-write.ensures.ok c.in-Some.held words held known) in
    let f = frame_of c.args.self.now in
    rw (held, known)
    (ap (or_strays f) (stored (knows_of c.args.results.now) c.args.variable (record f { words = drop 2 c.args.self.now.words }) (write_words c.args.at (c.args.word ∷ []) words)
    (with_words c.args.at (c.args.word ∷ []) words) c.write.new.self wrote.0 wrote.1) ∙ (cc))
