-- A flow value as it is handed out.
use Rattle.mpl_value.specs.declared.known.Known.TheVariants as known
use Rattle.mdf_code.specs.Alone.{Held, Words, Pending}
use Rattle.mdf_vm.specs.declared.stop.FlowArg.{FlowArg}
use Rattle.mdf_vm.specs.declared.stop.FlowArg.TheVariants as flow

abbrev pub flow_arg : Held → FlowArg
flow_arg (Words words) = flow.Known (known.Value words)
flow_arg (Pending result) = flow.Result result
