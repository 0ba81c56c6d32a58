use Rattle.mdf_code.specs.declared.instr.Instr.TheVariants as instr
use Rattle.mdf_vm.proofs.GuardRuns.{took}
use Rattle.mdf_vm.proofs.guarding.Guarding.step.Goals as goal

pub returns-in-Push : goal.returns-in-Push
returns-in-Push g c = λ image entry same.
    took (record { image = image; entry = entry; formals = g.F.Formals.words c.args.formals.now; state = c.args.state.now }) c.args.instruction.now (instr.Push c.in-Push.word) c.args.self.now c.push.new.self c.push.result c.in-Push.is
    (c.push.ensures (record { image = image; entry = entry; formals = g.F.Formals.words c.args.formals.now; state = c.args.state.now }))

pub returns-in-Drop : goal.returns-in-Drop
returns-in-Drop g c = λ image entry same.
    took (record { image = image; entry = entry; formals = g.F.Formals.words c.args.formals.now; state = c.args.state.now }) c.args.instruction.now (instr.Drop c.in-Drop.count) c.args.self.now c.drop_words.new.self c.drop_words.result c.in-Drop.is
    (c.drop_words.ensures (record { image = image; entry = entry; formals = g.F.Formals.words c.args.formals.now; state = c.args.state.now }))

pub returns-in-Load : goal.returns-in-Load
returns-in-Load g c = λ image entry same.
    took (record { image = image; entry = entry; formals = g.F.Formals.words c.args.formals.now; state = c.args.state.now }) c.args.instruction.now (instr.Load c.in-Load.variable c.in-Load.offset c.in-Load.words) c.args.self.now c.load.new.self c.load.result c.in-Load.is
    (c.load.ensures image entry c.args.state.now)

pub returns-in-LoadIndexed : goal.returns-in-LoadIndexed
returns-in-LoadIndexed g c = λ image entry same.
    took (record { image = image; entry = entry; formals = g.F.Formals.words c.args.formals.now; state = c.args.state.now }) c.args.instruction.now (instr.LoadIndexed c.in-LoadIndexed.variable c.in-LoadIndexed.offset c.in-LoadIndexed.words c.in-LoadIndexed.field-3) c.args.self.now c.load_indexed.new.self c.load_indexed.result c.in-LoadIndexed.is
    (c.load_indexed.ensures image entry c.in-LoadIndexed.field-3 c.args.state.now)

pub returns-in-Fetch : goal.returns-in-Fetch
returns-in-Fetch g c = λ image entry same.
    took (record { image = image; entry = entry; formals = g.F.Formals.words c.args.formals.now; state = c.args.state.now }) c.args.instruction.now (instr.Fetch c.in-Fetch.offset c.in-Fetch.words) c.args.self.now c.fetch.new.self c.fetch.result c.in-Fetch.is
    (c.fetch.ensures image entry (g.F.Formals.words c.args.formals.now))

pub returns-in-FetchIndexed : goal.returns-in-FetchIndexed
returns-in-FetchIndexed g c = λ image entry same.
    took (record { image = image; entry = entry; formals = g.F.Formals.words c.args.formals.now; state = c.args.state.now }) c.args.instruction.now (instr.FetchIndexed c.in-FetchIndexed.offset c.in-FetchIndexed.words c.in-FetchIndexed.field-2) c.args.self.now c.fetch_indexed.new.self c.fetch_indexed.result c.in-FetchIndexed.is
    (c.fetch_indexed.ensures image entry c.in-FetchIndexed.field-2 (g.F.Formals.words c.args.formals.now))

pub returns-in-Add : goal.returns-in-Add
returns-in-Add g c = λ image entry same.
    took (record { image = image; entry = entry; formals = g.F.Formals.words c.args.formals.now; state = c.args.state.now }) c.args.instruction.now (instr.Add c.in-Add.field-0) c.args.self.now c.compute.new.self c.compute.result c.in-Add.is
    (c.compute.ensures (record { image = image; entry = entry; formals = g.F.Formals.words c.args.formals.now; state = c.args.state.now }) c.in-Add.field-0)

pub returns-in-Sub : goal.returns-in-Sub
returns-in-Sub g c = λ image entry same.
    took (record { image = image; entry = entry; formals = g.F.Formals.words c.args.formals.now; state = c.args.state.now }) c.args.instruction.now (instr.Sub c.in-Sub.field-0) c.args.self.now c.compute-in-Sub.new.self c.compute-in-Sub.result c.in-Sub.is
    (c.compute-in-Sub.ensures (record { image = image; entry = entry; formals = g.F.Formals.words c.args.formals.now; state = c.args.state.now }) c.in-Sub.field-0)

pub returns-in-Mul : goal.returns-in-Mul
returns-in-Mul g c = λ image entry same.
    took (record { image = image; entry = entry; formals = g.F.Formals.words c.args.formals.now; state = c.args.state.now }) c.args.instruction.now (instr.Mul c.in-Mul.field-0) c.args.self.now c.compute-in-Mul.new.self c.compute-in-Mul.result c.in-Mul.is
    (c.compute-in-Mul.ensures (record { image = image; entry = entry; formals = g.F.Formals.words c.args.formals.now; state = c.args.state.now }) c.in-Mul.field-0)

pub returns-in-Div : goal.returns-in-Div
returns-in-Div g c = λ image entry same.
    took (record { image = image; entry = entry; formals = g.F.Formals.words c.args.formals.now; state = c.args.state.now }) c.args.instruction.now (instr.Div c.in-Div.field-0) c.args.self.now c.compute-in-Div.new.self c.compute-in-Div.result c.in-Div.is
    (c.compute-in-Div.ensures (record { image = image; entry = entry; formals = g.F.Formals.words c.args.formals.now; state = c.args.state.now }) c.in-Div.field-0)

pub returns-in-Rem : goal.returns-in-Rem
returns-in-Rem g c = λ image entry same.
    took (record { image = image; entry = entry; formals = g.F.Formals.words c.args.formals.now; state = c.args.state.now }) c.args.instruction.now (instr.Rem c.in-Rem.field-0) c.args.self.now c.compute-in-Rem.new.self c.compute-in-Rem.result c.in-Rem.is
    (c.compute-in-Rem.ensures (record { image = image; entry = entry; formals = g.F.Formals.words c.args.formals.now; state = c.args.state.now }) c.in-Rem.field-0)

pub returns-in-Neg : goal.returns-in-Neg
returns-in-Neg g c = λ image entry same.
    took (record { image = image; entry = entry; formals = g.F.Formals.words c.args.formals.now; state = c.args.state.now }) c.args.instruction.now (instr.Neg c.in-Neg.field-0) c.args.self.now c.negate.new.self c.negate.result c.in-Neg.is
    (c.negate.ensures (record { image = image; entry = entry; formals = g.F.Formals.words c.args.formals.now; state = c.args.state.now }) c.in-Neg.field-0)

pub returns-in-Not : goal.returns-in-Not
returns-in-Not g c = λ image entry same.
    took (record { image = image; entry = entry; formals = g.F.Formals.words c.args.formals.now; state = c.args.state.now }) c.args.instruction.now (instr.Not) c.args.self.now c.invert.new.self c.invert.result c.in-Not.is
    (c.invert.ensures (record { image = image; entry = entry; formals = g.F.Formals.words c.args.formals.now; state = c.args.state.now }))

pub returns-in-Equal : goal.returns-in-Equal
returns-in-Equal g c = λ image entry same.
    took (record { image = image; entry = entry; formals = g.F.Formals.words c.args.formals.now; state = c.args.state.now }) c.args.instruction.now (instr.Equal) c.args.self.now c.compare.new.self c.compare.result c.in-Equal.is
    (c.compare.ensures (record { image = image; entry = entry; formals = g.F.Formals.words c.args.formals.now; state = c.args.state.now }))

pub returns-in-NotEqual : goal.returns-in-NotEqual
returns-in-NotEqual g c = λ image entry same.
    took (record { image = image; entry = entry; formals = g.F.Formals.words c.args.formals.now; state = c.args.state.now }) c.args.instruction.now (instr.NotEqual) c.args.self.now c.compare-in-NotEqual.new.self c.compare-in-NotEqual.result c.in-NotEqual.is
    (c.compare-in-NotEqual.ensures (record { image = image; entry = entry; formals = g.F.Formals.words c.args.formals.now; state = c.args.state.now }))

pub returns-in-Less : goal.returns-in-Less
returns-in-Less g c = λ image entry same.
    took (record { image = image; entry = entry; formals = g.F.Formals.words c.args.formals.now; state = c.args.state.now }) c.args.instruction.now (instr.Less) c.args.self.now c.compare-in-Less.new.self c.compare-in-Less.result c.in-Less.is
    (c.compare-in-Less.ensures (record { image = image; entry = entry; formals = g.F.Formals.words c.args.formals.now; state = c.args.state.now }))

pub returns-in-LessEqual : goal.returns-in-LessEqual
returns-in-LessEqual g c = λ image entry same.
    took (record { image = image; entry = entry; formals = g.F.Formals.words c.args.formals.now; state = c.args.state.now }) c.args.instruction.now (instr.LessEqual) c.args.self.now c.compare-in-LessEqual.new.self c.compare-in-LessEqual.result c.in-LessEqual.is
    (c.compare-in-LessEqual.ensures (record { image = image; entry = entry; formals = g.F.Formals.words c.args.formals.now; state = c.args.state.now }))

pub returns-in-Greater : goal.returns-in-Greater
returns-in-Greater g c = λ image entry same.
    took (record { image = image; entry = entry; formals = g.F.Formals.words c.args.formals.now; state = c.args.state.now }) c.args.instruction.now (instr.Greater) c.args.self.now c.compare-in-Greater.new.self c.compare-in-Greater.result c.in-Greater.is
    (c.compare-in-Greater.ensures (record { image = image; entry = entry; formals = g.F.Formals.words c.args.formals.now; state = c.args.state.now }))

pub returns-in-GreaterEqual : goal.returns-in-GreaterEqual
returns-in-GreaterEqual g c = λ image entry same.
    took (record { image = image; entry = entry; formals = g.F.Formals.words c.args.formals.now; state = c.args.state.now }) c.args.instruction.now (instr.GreaterEqual) c.args.self.now c.compare-in-GreaterEqual.new.self c.compare-in-GreaterEqual.result c.in-GreaterEqual.is
    (c.compare-in-GreaterEqual.ensures (record { image = image; entry = entry; formals = g.F.Formals.words c.args.formals.now; state = c.args.state.now }))

pub returns-in-Jump : goal.returns-in-Jump
returns-in-Jump g c = λ image entry same.
    took (record { image = image; entry = entry; formals = g.F.Formals.words c.args.formals.now; state = c.args.state.now }) c.args.instruction.now (instr.Jump c.in-Jump.place) c.args.self.now c.jump.new.self c.jump.result c.in-Jump.is
    (c.jump.ensures (record { image = image; entry = entry; formals = g.F.Formals.words c.args.formals.now; state = c.args.state.now }) same)

pub returns-in-JumpZero : goal.returns-in-JumpZero
returns-in-JumpZero g c = λ image entry same.
    took (record { image = image; entry = entry; formals = g.F.Formals.words c.args.formals.now; state = c.args.state.now }) c.args.instruction.now (instr.JumpZero c.in-JumpZero.place) c.args.self.now c.jump_zero.new.self c.jump_zero.result c.in-JumpZero.is
    (c.jump_zero.ensures (record { image = image; entry = entry; formals = g.F.Formals.words c.args.formals.now; state = c.args.state.now }) same)
