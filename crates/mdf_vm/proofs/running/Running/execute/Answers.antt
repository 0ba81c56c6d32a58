use Rattle.mdf_code.specs.declared.instr.Instr.TheVariants as instr
use Rattle.mdf_vm.specs.Results.{knows_of}
use Rattle.mdf_vm.proofs.Executing.{any, around, imaged, known, one}
use Rattle.mdf_vm.proofs.running.Running.execute.Goals as goal

pub returns-in-Push-clause-ok : goal.returns-in-Push-clause-ok
returns-in-Push-clause-ok c =
    any (knows_of c.args.setting.now.results) (record { image = c.args.image.now; object = c.args.setting.now.object }) c.args.instruction.now (instr.Push c.in-Push.word) c.args.self.now c.push.new.self c.push.result c.in-Push.is
    c.push.ensures.ok

pub returns-in-Drop-clause-ok : goal.returns-in-Drop-clause-ok
returns-in-Drop-clause-ok c =
    one (knows_of c.args.setting.now.results) (record { image = c.args.image.now; object = c.args.setting.now.object }) c.args.instruction.now (instr.Drop c.in-Drop.count) c.args.self.now c.drop_words.new.self c.drop_words.result c.in-Drop.is
    (c.drop_words.ensures (knows_of c.args.setting.now.results) (record { image = c.args.image.now; object = c.args.setting.now.object }))

pub returns-in-Load-clause-ok : goal.returns-in-Load-clause-ok
returns-in-Load-clause-ok c =
    known (knows_of c.args.setting.now.results) (record { image = c.args.image.now; object = c.args.setting.now.object }) c.args.instruction.now (instr.Load c.in-Load.variable c.in-Load.offset c.in-Load.count) c.args.self.now c.load.new.self c.load.result c.in-Load.is
    c.load.ensures.ok

pub returns-in-Store-clause-ok : goal.returns-in-Store-clause-ok
returns-in-Store-clause-ok c =
    known (knows_of c.args.setting.now.results) (record { image = c.args.image.now; object = c.args.setting.now.object }) c.args.instruction.now (instr.Store c.in-Store.variable c.in-Store.offset c.in-Store.count) c.args.self.now c.store.new.self c.store.result c.in-Store.is
    c.store.ensures.ok

pub returns-in-LoadIndexed-clause-ok : goal.returns-in-LoadIndexed-clause-ok
returns-in-LoadIndexed-clause-ok c =
    one (knows_of c.args.setting.now.results) (record { image = c.args.image.now; object = c.args.setting.now.object }) c.args.instruction.now (instr.LoadIndexed c.in-LoadIndexed.variable c.in-LoadIndexed.offset c.in-LoadIndexed.count c.in-LoadIndexed.line) c.args.self.now c.load_indexed.new.self c.load_indexed.result c.in-LoadIndexed.is
    (c.load_indexed.ensures (record { image = c.args.image.now; object = c.args.setting.now.object }))

pub returns-in-StoreIndexed-clause-ok : goal.returns-in-StoreIndexed-clause-ok
returns-in-StoreIndexed-clause-ok c =
    known (knows_of c.args.setting.now.results) (record { image = c.args.image.now; object = c.args.setting.now.object }) c.args.instruction.now (instr.StoreIndexed c.in-StoreIndexed.variable c.in-StoreIndexed.offset c.in-StoreIndexed.count c.in-StoreIndexed.line) c.args.self.now c.store_indexed.new.self c.store_indexed.result c.in-StoreIndexed.is
    c.store_indexed.ensures.ok

pub returns-in-Zero-clause-ok : goal.returns-in-Zero-clause-ok
returns-in-Zero-clause-ok c =
    imaged (knows_of c.args.setting.now.results) c.args.image.now c.args.setting.now.object c.args.instruction.now (instr.Zero c.in-Zero.variable) c.args.self.now c.zero.new.self c.zero.result c.in-Zero.is
    c.zero.ensures.ok

pub returns-in-Copy-clause-ok : goal.returns-in-Copy-clause-ok
returns-in-Copy-clause-ok c =
    imaged (knows_of c.args.setting.now.results) c.args.image.now c.args.setting.now.object c.args.instruction.now (instr.Copy c.in-Copy.variable c.in-Copy.source) c.args.self.now c.copy.new.self c.copy.result c.in-Copy.is
    c.copy.ensures.ok

pub returns-in-Need-clause-ok : goal.returns-in-Need-clause-ok
returns-in-Need-clause-ok c =
    one (knows_of c.args.setting.now.results) (record { image = c.args.image.now; object = c.args.setting.now.object }) c.args.instruction.now (instr.Need c.in-Need.variable) c.args.self.now c.need.new.self c.need.result c.in-Need.is
    (c.need.ensures (record { image = c.args.image.now; object = c.args.setting.now.object }))

pub returns-in-Fetch-clause-ok : goal.returns-in-Fetch-clause-ok
returns-in-Fetch-clause-ok c =
    imaged (knows_of c.args.setting.now.results) c.args.image.now c.args.setting.now.object c.args.instruction.now (instr.Fetch c.in-Fetch.offset c.in-Fetch.count) c.args.self.now c.fetch.new.self c.fetch.result c.in-Fetch.is
    c.fetch.ensures.ok

pub returns-in-Keep-clause-ok : goal.returns-in-Keep-clause-ok
returns-in-Keep-clause-ok c =
    one (knows_of c.args.setting.now.results) (record { image = c.args.image.now; object = c.args.setting.now.object }) c.args.instruction.now (instr.Keep c.in-Keep.offset c.in-Keep.count) c.args.self.now c.keep.new.self c.keep.result c.in-Keep.is
    (c.keep.ensures (knows_of c.args.setting.now.results) c.args.setting.now.object)

pub returns-in-FetchIndexed-clause-ok : goal.returns-in-FetchIndexed-clause-ok
returns-in-FetchIndexed-clause-ok c =
    one (knows_of c.args.setting.now.results) (record { image = c.args.image.now; object = c.args.setting.now.object }) c.args.instruction.now (instr.FetchIndexed c.in-FetchIndexed.offset c.in-FetchIndexed.count c.in-FetchIndexed.line) c.args.self.now c.fetch_indexed.new.self c.fetch_indexed.result c.in-FetchIndexed.is
    (c.fetch_indexed.ensures (knows_of c.args.setting.now.results) c.args.setting.now.object)

pub returns-in-KeepIndexed-clause-ok : goal.returns-in-KeepIndexed-clause-ok
returns-in-KeepIndexed-clause-ok c =
    one (knows_of c.args.setting.now.results) (record { image = c.args.image.now; object = c.args.setting.now.object }) c.args.instruction.now (instr.KeepIndexed c.in-KeepIndexed.offset c.in-KeepIndexed.count c.in-KeepIndexed.line) c.args.self.now c.keep_indexed.new.self c.keep_indexed.result c.in-KeepIndexed.is
    (c.keep_indexed.ensures (knows_of c.args.setting.now.results) c.args.setting.now.object)

pub returns-in-Neg-clause-ok : goal.returns-in-Neg-clause-ok
returns-in-Neg-clause-ok c =
    one (knows_of c.args.setting.now.results) (record { image = c.args.image.now; object = c.args.setting.now.object }) c.args.instruction.now (instr.Neg c.in-Neg.line) c.args.self.now c.negate.new.self c.negate.result c.in-Neg.is
    (c.negate.ensures (knows_of c.args.setting.now.results) (record { image = c.args.image.now; object = c.args.setting.now.object }))

pub returns-in-Not-clause-ok : goal.returns-in-Not-clause-ok
returns-in-Not-clause-ok c =
    one (knows_of c.args.setting.now.results) (record { image = c.args.image.now; object = c.args.setting.now.object }) c.args.instruction.now instr.Not c.args.self.now c.invert.new.self c.invert.result c.in-Not.is
    (c.invert.ensures (knows_of c.args.setting.now.results) (record { image = c.args.image.now; object = c.args.setting.now.object }))

pub returns-in-Jump-clause-ok : goal.returns-in-Jump-clause-ok
returns-in-Jump-clause-ok c =
    one (knows_of c.args.setting.now.results) (record { image = c.args.image.now; object = c.args.setting.now.object }) c.args.instruction.now (instr.Jump c.in-Jump.place) c.args.self.now c.jump.new.self c.jump.result c.in-Jump.is
    (c.jump.ensures (knows_of c.args.setting.now.results) c.args.setting.now.object)

pub returns-in-JumpZero-clause-ok : goal.returns-in-JumpZero-clause-ok
returns-in-JumpZero-clause-ok c =
    one (knows_of c.args.setting.now.results) (record { image = c.args.image.now; object = c.args.setting.now.object }) c.args.instruction.now (instr.JumpZero c.in-JumpZero.place) c.args.self.now c.jump_zero.new.self c.jump_zero.result c.in-JumpZero.is
    (c.jump_zero.ensures (knows_of c.args.setting.now.results) c.args.setting.now.object)

pub returns-in-Test-clause-ok : goal.returns-in-Test-clause-ok
returns-in-Test-clause-ok c =
    one (knows_of c.args.setting.now.results) (record { image = c.args.image.now; object = c.args.setting.now.object }) c.args.instruction.now instr.Test c.args.self.now c.test.new.self c.test.result c.in-Test.is
    (c.test.ensures (knows_of c.args.setting.now.results) (record { image = c.args.image.now; object = c.args.setting.now.object }))

pub returns-in-Call-clause-ok : goal.returns-in-Call-clause-ok
returns-in-Call-clause-ok c =
    imaged (knows_of c.args.setting.now.results) c.args.image.now c.args.setting.now.object c.args.instruction.now (instr.Call c.in-Call.function) c.args.self.now c.call.new.self c.call.result c.in-Call.is
    c.call.ensures.ok

pub returns-in-Return-clause-ok : goal.returns-in-Return-clause-ok
returns-in-Return-clause-ok c =
    imaged (knows_of c.args.setting.now.results) c.args.image.now c.args.setting.now.object c.args.instruction.now (instr.Return c.in-Return.count) c.args.self.now c.hand_back.new.self c.hand_back.result c.in-Return.is
    c.hand_back.ensures.ok

pub returns-in-Own-clause-ok : goal.returns-in-Own-clause-ok
returns-in-Own-clause-ok c =
    around (knows_of c.args.setting.now.results) (record { image = c.args.image.now; object = c.args.setting.now.object }) c.args.instruction.now instr.Own c.args.self.now c.own.new.self c.own.result c.in-Own.is
    c.own.ensures.ok

pub returns-in-Bound-clause-ok : goal.returns-in-Bound-clause-ok
returns-in-Bound-clause-ok c =
    one (knows_of c.args.setting.now.results) (record { image = c.args.image.now; object = c.args.setting.now.object }) c.args.instruction.now (instr.Bound c.in-Bound.line) c.args.self.now c.bound.new.self c.bound.result c.in-Bound.is
    (c.bound.ensures (knows_of c.args.setting.now.results) (record { image = c.args.image.now; object = c.args.setting.now.object }))

pub returns-in-ArgWords-clause-ok : goal.returns-in-ArgWords-clause-ok
returns-in-ArgWords-clause-ok c =
    any (knows_of c.args.setting.now.results) (record { image = c.args.image.now; object = c.args.setting.now.object }) c.args.instruction.now (instr.ArgWords c.in-ArgWords.count) c.args.self.now c.arg_words.new.self c.arg_words.result c.in-ArgWords.is
    c.arg_words.ensures.ok

pub returns-in-ArgVariable-clause-ok : goal.returns-in-ArgVariable-clause-ok
returns-in-ArgVariable-clause-ok c =
    imaged (knows_of c.args.setting.now.results) c.args.image.now c.args.setting.now.object c.args.instruction.now (instr.ArgVariable c.in-ArgVariable.variable) c.args.self.now c.arg_variable.new.self c.arg_variable.result c.in-ArgVariable.is
    c.arg_variable.ensures.ok

pub returns-in-Send-clause-ok : goal.returns-in-Send-clause-ok
returns-in-Send-clause-ok c =
    imaged (knows_of c.args.setting.now.results) c.args.image.now c.args.setting.now.object c.args.instruction.now (instr.Send c.in-Send.member c.in-Send.count) c.args.self.now c.send.new.self c.send.result c.in-Send.is
    c.send.ensures.ok

pub returns-in-Post-clause-ok : goal.returns-in-Post-clause-ok
returns-in-Post-clause-ok c =
    imaged (knows_of c.args.setting.now.results) c.args.image.now c.args.setting.now.object c.args.instruction.now (instr.Post c.in-Post.member c.in-Post.count) c.args.self.now c.post.new.self c.post.result c.in-Post.is
    c.post.ensures.ok

pub returns-in-SetVariable-clause-ok : goal.returns-in-SetVariable-clause-ok
returns-in-SetVariable-clause-ok c =
    imaged (knows_of c.args.setting.now.results) c.args.image.now c.args.setting.now.object c.args.instruction.now (instr.SetVariable c.in-SetVariable.variable) c.args.self.now c.set_variable.new.self c.set_variable.result c.in-SetVariable.is
    c.set_variable.ensures.ok

pub returns-in-DropFlow-clause-ok : goal.returns-in-DropFlow-clause-ok
returns-in-DropFlow-clause-ok c =
    one (knows_of c.args.setting.now.results) (record { image = c.args.image.now; object = c.args.setting.now.object }) c.args.instruction.now instr.DropFlow c.args.self.now c.drop_flow.new.self c.drop_flow.result c.in-DropFlow.is
    (c.drop_flow.ensures (knows_of c.args.setting.now.results) (record { image = c.args.image.now; object = c.args.setting.now.object }))

pub returns-in-Force-clause-ok : goal.returns-in-Force-clause-ok
returns-in-Force-clause-ok c =
    known (knows_of c.args.setting.now.results) (record { image = c.args.image.now; object = c.args.setting.now.object }) c.args.instruction.now instr.Force c.args.self.now c.force.new.self c.force.result c.in-Force.is
    c.force.ensures.ok

pub returns-in-Create-clause-ok : goal.returns-in-Create-clause-ok
returns-in-Create-clause-ok c =
    one (knows_of c.args.setting.now.results) (record { image = c.args.image.now; object = c.args.setting.now.object }) c.args.instruction.now (instr.Create c.in-Create.class) c.args.self.now c.create.new.self c.create.result c.in-Create.is
    (c.create.ensures (knows_of c.args.setting.now.results) c.args.setting.now.object)

pub returns-in-Reply-clause-ok : goal.returns-in-Reply-clause-ok
returns-in-Reply-clause-ok c =
    one (knows_of c.args.setting.now.results) (record { image = c.args.image.now; object = c.args.setting.now.object }) c.args.instruction.now (instr.Reply c.in-Reply.line) c.args.self.now c.reply.new.self c.reply.result c.in-Reply.is
    (c.reply.ensures (knows_of c.args.setting.now.results) c.args.setting.now.object)

pub returns-in-Input-clause-ok : goal.returns-in-Input-clause-ok
returns-in-Input-clause-ok c =
    any (knows_of c.args.setting.now.results) (record { image = c.args.image.now; object = c.args.setting.now.object }) c.args.instruction.now (instr.Input c.in-Input.line) c.args.self.now c.input.new.self c.input.result c.in-Input.is
    c.input.ensures.ok

pub returns-in-Print-clause-ok : goal.returns-in-Print-clause-ok
returns-in-Print-clause-ok c =
    any (knows_of c.args.setting.now.results) (record { image = c.args.image.now; object = c.args.setting.now.object }) c.args.instruction.now (instr.Print c.in-Print.letters) c.args.self.now c.print.new.self c.print.result c.in-Print.is
    c.print.ensures.ok

pub returns-in-End-clause-ok : goal.returns-in-End-clause-ok
returns-in-End-clause-ok c =
    one (knows_of c.args.setting.now.results) (record { image = c.args.image.now; object = c.args.setting.now.object }) c.args.instruction.now (instr.End c.in-End.line) c.args.self.now c.args.self.now c.end.result c.in-End.is
    (c.end.ensures (knows_of c.args.setting.now.results) (record { image = c.args.image.now; object = c.args.setting.now.object }))

pub returns-in-Fail-clause-ok : goal.returns-in-Fail-clause-ok
returns-in-Fail-clause-ok c =
    one (knows_of c.args.setting.now.results) (record { image = c.args.image.now; object = c.args.setting.now.object }) c.args.instruction.now (instr.Fail c.in-Fail.line) c.args.self.now c.args.self.now c.fail.result c.in-Fail.is
    (c.fail.ensures (knows_of c.args.setting.now.results) c.args.setting.now.object)
