use Rattle.mdf_programs.proofs.ProgramRuns.{run_the_same, turns_within}
use Rattle.mdf_programs.proofs.laws.orders_and_marks_do_not_matter.Goals as goal

pub returns-clause-same : goal.returns-clause-same
returns-clause-same c = λ p marks others input budget typed regular covers others_cover one other h. run_the_same p marks others input budget typed regular covers others_cover one other h

pub returns-clause-within : goal.returns-clause-within
returns-clause-within c = λ p marks others input budget typed regular covers others_cover one other h. turns_within p marks others input budget typed regular covers others_cover one other h
