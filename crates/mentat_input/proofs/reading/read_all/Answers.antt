use Rattle.std.proofs.Common.{◌≡◌, ◌++◌, ap, arith, drop, length, length-append, subst, sym, take, ◌∙◌}
use Rattle.std.proofs.lemmas.List.{length-take, take-append-le}
use Rattle.mentat_input.proofs.ReadLemmas.{Taken, full_read, piece_taken, whole_read}
use Rattle.mentat_input.proofs.reading.read_all.Goals as goal

pub returns-then-count-eq0-clause-read : goal.returns-then-count-eq0-clause-read
returns-then-count-eq0-clause-read g c =
    whole_read (g.S.Source.left c.args.input.now) (g.S.Source.left c.loop-piece.input) (g.S.Source.left c.read.new.self) c.loop-piece.bytes c.in_ok-count.count
    c.loop-piece.invariant.taken (c.in_ok-count.ensures.end c.if-count-eq0.true) (omega arith) c.if-count-eq0.true c.in_ok-count.ensures.rest

pub loop-piece-preserved : goal.loop-piece-preserved
loop-piece-preserved g c =
    let before = g.S.Source.left c.args.input.now in
    let left = g.S.Source.left c.loop-piece.input in
    let now = g.S.Source.left c.read.new.self in
    let count = c.in_ok-count.count in
    let read = c.read.new.buf in
    let rest = drop c.min-room.result c.loop-piece.piece in
    let fits = c.in_ok-count.ensures.bound in
    let piece : take count (read ++ rest) ≡ take count read = take-append-le count read rest fits in
    let bytes : c.extend.new.self ≡ c.loop-piece.bytes ++ take count read = c.in_ok-extend.ensures.ok ∙ ap (λ more. c.loop-piece.bytes ++ more) piece in
    let taken = piece_taken before left now c.loop-piece.bytes read count c.loop-piece.invariant.taken c.in_ok-count.ensures.moved fits c.in_ok-count.ensures.rest in
    record {
      short = omega (arith, ap length bytes, length-append c.loop-piece.bytes (take count read), length-take count read, length-take c.min-room.result c.loop-piece.piece, fits);
      taken = subst (Taken before now) (sym bytes) taken;
      later = omega (arith, c.loop-piece.invariant.later, c.in_ok-count.ensures.later);
    }

pub returns-clause-read : goal.returns-clause-read
returns-clause-read g c =
    full_read (g.S.Source.left c.args.input.now) (g.S.Source.left c.loop-piece.input) c.loop-piece.bytes c.loop-piece.invariant.taken (omega arith)
