use Rattle.std.proofs.Common.{◌≡◌, ◌+◌, ◌≤◌, ◌++◌, drop}
use Rattle.std.specs.VecDeque.{deque_len, deque_capacity}
use Rattle.mdf_future.specs.Consumers.{deliveries}
use Rattle.mdf_future.proofs.consumer.deliver.Given as goal

abbrev pub invariant-loop-consumer : goal.invariant-loop-consumer
invariant-loop-consumer l =
    (l.due.items ++ deliveries l.from (drop l.consumer-index l.consumers) ≡ l.initial.due.items ++ deliveries l.from l.consumers)
    × (deque_len l.due ≤ deque_len l.initial.due + l.consumer-index)
    × (deque_capacity l.due ≡ deque_capacity l.initial.due)
