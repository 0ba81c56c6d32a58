-- A flow value that was handed out, as the frame had it.
use Rattle.mpl_value.specs.declared.known.Known.TheVariants as known
use Rattle.mdf_code.specs.Alone.{Held, Words, Pending}
use Rattle.mdf_vm.specs.declared.stop.FlowArg.{FlowArg}
use Rattle.mdf_vm.specs.declared.stop.FlowArg.TheVariants as flow

-- a frame hands out no known trap
abbrev pub held_in : FlowArg → Held
held_in (flow.Known (known.Value words)) = Words words
held_in (flow.Known (known.Trapped trap)) = Pending 0
held_in (flow.Result result) = Pending result
