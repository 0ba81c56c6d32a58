use Rattle.std.proofs.Common.{◌-◌, drop, arith}
use Rattle.std.proofs.lemmas.List.{length-take, length-drop}
use Rattle.mentat_cmd.proofs.OutputLemmas.{Appends-more}
use Rattle.mentat_cmd.proofs.output.write_all.Goals as goal

pub loop-at-preserved : goal.loop-at-preserved
loop-at-preserved g c =
    let bytes = c.args.bytes.now in
    let at = c.loop-at.at in
    let size = c.min-end.result - at in
    record {
      within = omega (arith, c.in_ok-at.ensures.bound, length-take size (drop at bytes), length-drop at bytes);
      written = Appends-more _ (g.K.Sink.written c.loop-at.out) _ bytes at size c.in_ok-at.field-0 c.in_ok-at.ensures.bound c.loop-at.invariant.written c.in_ok-at.ensures.appended;
      later = omega (arith, c.loop-at.invariant.later, c.in_ok-at.ensures.later);
    }
