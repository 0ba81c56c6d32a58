use Rattle.std.proofs.Common.{◌≡◌, ◌+◌, arith}
use Rattle.mpl_reader.proofs.Numbers.{fits, too_great}
use Rattle.mpl_reader.proofs.reader.Reader.advance.Goals as goal

pub returns-in_default : goal.returns-in_default
returns-in_default c = λ _. too_great _ (let h = c.in_default.ensures in omega arith)

pub returns-in_default-checked_add : goal.returns-in_default-checked_add
returns-in_default-checked_add c = λ _. too_great _ (let h = c.in_default-checked_add.ensures in let k = c.in-Ok.ensures in omega arith)

pub returns : goal.returns
returns c =
    let h = c.in-Some.ensures in
    let k = c.in-Ok.ensures in
    let e : c.in-Some.next ≡ c.args.self.now.next + c.args.nodes = omega arith in
    rw e (fits _ (omega arith))
