use Rattle.mentat_cmd.proofs.RunLemmas.{runs_directly}
use Rattle.mentat_cmd.proofs.run.walk_main.Goals as goal

pub returns-clause-meaning : goal.returns-clause-meaning
returns-clause-meaning c =
    runs_directly c.args.typed.now c.in_ok-done.done c.args.numbers c.start_of_main-start.result c.new-replies.result c.args.budget
    c.in_ok-done.ensures.meaning c.start_of_main-start.ensures c.new-replies.ensures
