use Rattle.mdf_code.specs.declared.instr.Instr.TheVariants as instr
use Rattle.mdf_vm.specs.Results.{knows_of}
use Rattle.mdf_vm.proofs.Quickly.{tried}
use Rattle.mdf_vm.proofs.running.Running.try_now.Goals as goal

pub returns-in-Push-clause-did : goal.returns-in-Push-clause-did
returns-in-Push-clause-did c = λ x same.
    tried (knows_of c.args.results.now) x c.args.instruction.now (instr.Push c.in-Push.word) c.args.self.now c.try_push.new.self c.try_push.result c.in-Push.is (c.try_push.ensures.did (knows_of c.args.results.now) x)

pub returns-in-Load-clause-did : goal.returns-in-Load-clause-did
returns-in-Load-clause-did c = λ x same.
    tried (knows_of c.args.results.now) x c.args.instruction.now (instr.Load c.in-Load.variable c.in-Load.offset c.in-Load.count) c.args.self.now c.try_load.new.self c.try_load.result c.in-Load.is (c.try_load.ensures.did x)

pub returns-in-Store-clause-did : goal.returns-in-Store-clause-did
returns-in-Store-clause-did c = λ x same.
    tried (knows_of c.args.results.now) x c.args.instruction.now (instr.Store c.in-Store.variable c.in-Store.offset c.in-Store.count) c.args.self.now c.try_store.new.self c.try_store.result c.in-Store.is (c.try_store.ensures.did x)

pub returns-in-LoadIndexed-clause-did : goal.returns-in-LoadIndexed-clause-did
returns-in-LoadIndexed-clause-did c = λ x same.
    tried (knows_of c.args.results.now) x c.args.instruction.now (instr.LoadIndexed c.in-LoadIndexed.variable c.in-LoadIndexed.offset c.in-LoadIndexed.count c.in-LoadIndexed.field-3) c.args.self.now c.try_load_indexed.new.self c.try_load_indexed.result c.in-LoadIndexed.is (c.try_load_indexed.ensures.did x c.in-LoadIndexed.field-3)

pub returns-in-StoreIndexed-clause-did : goal.returns-in-StoreIndexed-clause-did
returns-in-StoreIndexed-clause-did c = λ x same.
    tried (knows_of c.args.results.now) x c.args.instruction.now (instr.StoreIndexed c.in-StoreIndexed.variable c.in-StoreIndexed.offset c.in-StoreIndexed.count c.in-StoreIndexed.field-3) c.args.self.now c.try_store_indexed.new.self c.try_store_indexed.result c.in-StoreIndexed.is (c.try_store_indexed.ensures.did x c.in-StoreIndexed.field-3)

pub returns-in-Add-clause-did : goal.returns-in-Add-clause-did
returns-in-Add-clause-did c = λ x same.
    tried (knows_of c.args.results.now) x c.args.instruction.now (instr.Add c.in-Add.field-0) c.args.self.now c.try_compute.new.self c.try_compute.result c.in-Add.is (c.try_compute.ensures.did c.in-Add.field-0)

pub returns-in-Sub-clause-did : goal.returns-in-Sub-clause-did
returns-in-Sub-clause-did c = λ x same.
    tried (knows_of c.args.results.now) x c.args.instruction.now (instr.Sub c.in-Sub.field-0) c.args.self.now c.try_compute-in-Sub.new.self c.try_compute-in-Sub.result c.in-Sub.is (c.try_compute-in-Sub.ensures.did c.in-Sub.field-0)

pub returns-in-Mul-clause-did : goal.returns-in-Mul-clause-did
returns-in-Mul-clause-did c = λ x same.
    tried (knows_of c.args.results.now) x c.args.instruction.now (instr.Mul c.in-Mul.field-0) c.args.self.now c.try_compute-in-Mul.new.self c.try_compute-in-Mul.result c.in-Mul.is (c.try_compute-in-Mul.ensures.did c.in-Mul.field-0)

pub returns-in-Div-clause-did : goal.returns-in-Div-clause-did
returns-in-Div-clause-did c = λ x same.
    tried (knows_of c.args.results.now) x c.args.instruction.now (instr.Div c.in-Div.field-0) c.args.self.now c.try_compute-in-Div.new.self c.try_compute-in-Div.result c.in-Div.is (c.try_compute-in-Div.ensures.did c.in-Div.field-0)

pub returns-in-Rem-clause-did : goal.returns-in-Rem-clause-did
returns-in-Rem-clause-did c = λ x same.
    tried (knows_of c.args.results.now) x c.args.instruction.now (instr.Rem c.in-Rem.field-0) c.args.self.now c.try_compute-in-Rem.new.self c.try_compute-in-Rem.result c.in-Rem.is (c.try_compute-in-Rem.ensures.did c.in-Rem.field-0)

pub returns-in-Jump-clause-did : goal.returns-in-Jump-clause-did
returns-in-Jump-clause-did c = λ x same.
    tried (knows_of c.args.results.now) x c.args.instruction.now (instr.Jump c.in-Jump.place) c.args.self.now c.try_jump.new.self c.try_jump.result c.in-Jump.is (c.try_jump.ensures.did (knows_of c.args.results.now) x same)

pub returns-in-JumpZero-clause-did : goal.returns-in-JumpZero-clause-did
returns-in-JumpZero-clause-did c = λ x same.
    tried (knows_of c.args.results.now) x c.args.instruction.now (instr.JumpZero c.in-JumpZero.place) c.args.self.now c.try_jump_zero.new.self c.try_jump_zero.result c.in-JumpZero.is (c.try_jump_zero.ensures.did (knows_of c.args.results.now) x same)
