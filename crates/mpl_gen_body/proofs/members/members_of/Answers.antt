use Rattle.std.proofs.Common.{◌≡◌, ◌+◌, suc, ◌∷◌, drop, drop-cons, arith, ap, sym, ◌∙◌}
use Rattle.mpl_gen_scope.specs.SeenMarks.{marked}
use Rattle.mpl_gen_body.proofs.Fitting.{members_more, members_split, states_more}
use Rattle.mpl_gen_body.proofs.members.members_of.Goals as goal

pub add_class-requires-clause-fits : goal.add_class-requires-clause-fits
add_class-requires-clause-fits c =
    let all = c.classes-class-items.result.now in
    let i = c.loop-class.class-index in
    let x = c.class-item.result in
    let split : drop i all ≡ x ∷ drop (i + 1) all =
    drop-cons all i x (omega arith) ∙ ap (λ y. y ∷ drop (suc i) all) (sym c.class-item.is) ∙ ap (λ n. x ∷ drop n all) (let e : suc i ≡ i + 1 = omega arith in e) in
    (members_split c.args.outline.now (marked c.args.marks.nodes.now) x (drop (i + 1) all) (drop i all) split c.loop-class.invariant.fits).0

pub loop-class-preserved : goal.loop-class-preserved
loop-class-preserved c =
    let all = c.classes-class-items.result.now in
    let i = c.loop-class.class-index in
    let x = c.class-item.result in
    let split : drop i all ≡ x ∷ drop (i + 1) all =
    drop-cons all i x (omega arith) ∙ ap (λ y. y ∷ drop (suc i) all) (sym c.class-item.is) ∙ ap (λ n. x ∷ drop n all) (let e : suc i ≡ i + 1 = omega arith in e) in
    let marks = marked c.args.marks.nodes.now in
    record {
      images = members_more c.args.outline.now marks x (drop (i + 1) all) (drop i all) c.loop-class.members c.add_class.new.members _ split c.in_ok-add_class.ensures c.loop-class.invariant.images;
      fit = states_more c.args.outline.now x (drop (i + 1) all) (drop i all) split c.loop-class.invariant.fit;
      fits = (members_split c.args.outline.now marks x (drop (i + 1) all) (drop i all) split c.loop-class.invariant.fits).1;
    }
