use Rattle.mdf_future.proofs.Queues.{due_is_the_queue}
use Rattle.mdf_future.proofs.law.each_consumer_is_due_once.Goals as goal

pub returns : goal.returns
returns c = due_is_the_queue
