use Rattle.std.proofs.Common.{refl, rules}
use Rattle.mpl_body_run.specs.Seen.{machine_seen}
use Rattle.mpl_body_run.specs.SeenSetting.{setting_seen}
use Rattle.mpl_body_run.proofs.Performing.{performing}
use Rattle.mpl_body_run.proofs.machine.Machine.perform.Goals as goal

pub returns-in-Number : goal.returns-in-Number
returns-in-Number c =
    performing (setting_seen c.args.setting.now) (machine_seen c.args.self.now) (machine_seen c.number.new.self) c.number.result c.in-Number.is
    (search (rules, c.number.ensures (setting_seen c.args.setting.now)))

pub returns-in-Truth : goal.returns-in-Truth
returns-in-Truth c =
    performing (setting_seen c.args.setting.now) (machine_seen c.args.self.now) (machine_seen c.truth.new.self) c.truth.result c.in-Truth.is (c.truth.ensures (setting_seen c.args.setting.now))

pub returns-in-Own : goal.returns-in-Own
returns-in-Own c =
    performing (setting_seen c.args.setting.now) (machine_seen c.args.self.now) (machine_seen c.own.new.self) c.own.result c.in-Own.is (c.own.ensures (setting_seen c.args.setting.now))

pub returns-in-Nothing : goal.returns-in-Nothing
returns-in-Nothing c =
    performing (setting_seen c.args.setting.now) (machine_seen c.args.self.now) (machine_seen c.nothing.new.self) c.nothing.result c.in-Nothing.is (c.nothing.ensures (setting_seen c.args.setting.now))

pub returns-in-Input : goal.returns-in-Input
returns-in-Input c =
    performing (setting_seen c.args.setting.now) (machine_seen c.args.self.now) (machine_seen c.input.new.self) c.input.result c.in-Input.is (c.input.ensures (setting_seen c.args.setting.now))

pub returns-in-Read : goal.returns-in-Read
returns-in-Read c =
    performing (setting_seen c.args.setting.now) (machine_seen c.args.self.now) (machine_seen c.read.new.self) c.read.result c.in-Read.is (c.read.ensures (setting_seen c.args.setting.now))

pub returns-in-Index : goal.returns-in-Index
returns-in-Index c =
    performing (setting_seen c.args.setting.now) (machine_seen c.args.self.now) (machine_seen c.index.new.self) c.index.result c.in-Index.is (c.index.ensures (setting_seen c.args.setting.now))

pub returns-in-Unary : goal.returns-in-Unary
returns-in-Unary c =
    performing (setting_seen c.args.setting.now) (machine_seen c.args.self.now) (machine_seen c.unary.new.self) c.unary.result c.in-Unary.is (c.unary.ensures (setting_seen c.args.setting.now))

pub returns-in-Binary : goal.returns-in-Binary
returns-in-Binary c =
    performing (setting_seen c.args.setting.now) (machine_seen c.args.self.now) (machine_seen c.binary.new.self) c.binary.result c.in-Binary.is (c.binary.ensures (setting_seen c.args.setting.now))

pub returns-in-Or : goal.returns-in-Or
returns-in-Or c =
    performing (setting_seen c.args.setting.now) (machine_seen c.args.self.now) (machine_seen c.or.new.self) c.or.result c.in-Or.is (c.or.ensures (setting_seen c.args.setting.now))

pub returns-in-And : goal.returns-in-And
returns-in-And c =
    performing (setting_seen c.args.setting.now) (machine_seen c.args.self.now) (machine_seen c.and.new.self) c.and.result c.in-And.is (c.and.ensures (setting_seen c.args.setting.now))

pub returns-in-Declare : goal.returns-in-Declare
returns-in-Declare c =
    performing (setting_seen c.args.setting.now) (machine_seen c.args.self.now) (machine_seen c.declare.new.self) c.declare.result c.in-Declare.is (c.declare.ensures (setting_seen c.args.setting.now))

pub returns-in-Bind : goal.returns-in-Bind
returns-in-Bind c =
    performing (setting_seen c.args.setting.now) (machine_seen c.args.self.now) (machine_seen c.bind.new.self) c.bind.result c.in-Bind.is (c.bind.ensures (setting_seen c.args.setting.now))

pub returns-in-Pass : goal.returns-in-Pass
returns-in-Pass c =
    performing (setting_seen c.args.setting.now) (machine_seen c.args.self.now) (machine_seen c.pass.new.self) c.pass.result c.in-Pass.is (c.pass.ensures (setting_seen c.args.setting.now))

pub returns-in-Receiver : goal.returns-in-Receiver
returns-in-Receiver c =
    performing (setting_seen c.args.setting.now) (machine_seen c.args.self.now) (machine_seen c.receiver.new.self) c.receiver.result c.in-Receiver.is (c.receiver.ensures (setting_seen c.args.setting.now))

pub returns-in-Hold : goal.returns-in-Hold
returns-in-Hold c =
    performing (setting_seen c.args.setting.now) (machine_seen c.args.self.now) (machine_seen c.hold.new.self) c.hold.result c.in-Hold.is (c.hold.ensures (setting_seen c.args.setting.now))

pub returns-in-Force : goal.returns-in-Force
returns-in-Force c =
    performing (setting_seen c.args.setting.now) (machine_seen c.args.self.now) (machine_seen c.force.new.self) c.force.result c.in-Force.is (c.force.ensures (setting_seen c.args.setting.now))

pub returns-in-Put : goal.returns-in-Put
returns-in-Put c =
    performing (setting_seen c.args.setting.now) (machine_seen c.args.self.now) (machine_seen c.put.new.self) c.put.result c.in-Put.is (c.put.ensures (setting_seen c.args.setting.now))

pub returns-in-PutElement : goal.returns-in-PutElement
returns-in-PutElement c =
    performing (setting_seen c.args.setting.now) (machine_seen c.args.self.now) (machine_seen c.put_element.new.self) c.put_element.result c.in-PutElement.is (c.put_element.ensures (setting_seen c.args.setting.now))

pub returns-in-New : goal.returns-in-New
returns-in-New c =
    performing (setting_seen c.args.setting.now) (machine_seen c.args.self.now) (machine_seen c.create.new.self) c.create.result c.in-New.is
    (search (rules, c.create.ensures (setting_seen c.args.setting.now) refl))

pub returns-in-ForceSpot : goal.returns-in-ForceSpot
returns-in-ForceSpot c =
    performing (setting_seen c.args.setting.now) (machine_seen c.args.self.now) (machine_seen c.force_spot.new.self) c.force_spot.result c.in-ForceSpot.is (c.force_spot.ensures (setting_seen c.args.setting.now))

pub returns-in-Drop : goal.returns-in-Drop
returns-in-Drop c =
    performing (setting_seen c.args.setting.now) (machine_seen c.args.self.now) (machine_seen c.drop_top.new.self) c.drop_top.result c.in-Drop.is (c.drop_top.ensures (setting_seen c.args.setting.now))

pub returns-in-Unless : goal.returns-in-Unless
returns-in-Unless c =
    performing (setting_seen c.args.setting.now) (machine_seen c.args.self.now) (machine_seen c.unless.new.self) c.unless.result c.in-Unless.is (c.unless.ensures (setting_seen c.args.setting.now))

pub returns-in-Skip : goal.returns-in-Skip
returns-in-Skip c =
    performing (setting_seen c.args.setting.now) (machine_seen c.args.self.now) (machine_seen c.skip.new.self) c.skip.result c.in-Skip.is (c.skip.ensures (setting_seen c.args.setting.now))

pub returns-in-Leave : goal.returns-in-Leave
returns-in-Leave c =
    performing (setting_seen c.args.setting.now) (machine_seen c.args.self.now) (machine_seen c.leave.new.self) c.leave.result c.in-Leave.is (c.leave.ensures (setting_seen c.args.setting.now))

pub returns-in-Turn : goal.returns-in-Turn
returns-in-Turn c =
    performing (setting_seen c.args.setting.now) (machine_seen c.args.self.now) (machine_seen c.turn.new.self) c.turn.result c.in-Turn.is (c.turn.ensures (setting_seen c.args.setting.now) refl)

pub returns-in-Again : goal.returns-in-Again
returns-in-Again c =
    performing (setting_seen c.args.setting.now) (machine_seen c.args.self.now) (machine_seen c.again.new.self) c.again.result c.in-Again.is (c.again.ensures (setting_seen c.args.setting.now) refl)

pub returns-in-Print : goal.returns-in-Print
returns-in-Print c =
    performing (setting_seen c.args.setting.now) (machine_seen c.args.self.now) (machine_seen c.print.new.self) c.print.result c.in-Print.is (c.print.ensures (setting_seen c.args.setting.now))

pub returns-in-Give : goal.returns-in-Give
returns-in-Give c =
    performing (setting_seen c.args.setting.now) (machine_seen c.args.self.now) (machine_seen c.give.new.self) c.give.result c.in-Give.is (c.give.ensures (setting_seen c.args.setting.now))

pub returns-in-Return : goal.returns-in-Return
returns-in-Return c =
    performing (setting_seen c.args.setting.now) (machine_seen c.args.self.now) (machine_seen c.return_value.new.self) c.return_value.result c.in-Return.is (c.return_value.ensures (setting_seen c.args.setting.now))

pub returns-in-ReturnNothing : goal.returns-in-ReturnNothing
returns-in-ReturnNothing c =
    performing (setting_seen c.args.setting.now) (machine_seen c.args.self.now) (machine_seen c.return_nothing.new.self) c.return_nothing.result c.in-ReturnNothing.is (c.return_nothing.ensures (setting_seen c.args.setting.now))

pub returns-in-End : goal.returns-in-End
returns-in-End c =
    performing (setting_seen c.args.setting.now) (machine_seen c.args.self.now) (machine_seen c.end.new.self) c.end.result c.in-End.is (c.end.ensures (setting_seen c.args.setting.now))
