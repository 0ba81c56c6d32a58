use Rattle.mdf_drive.proofs.FittingLogs.{arguments_fit, results_fit, starts_fit}
use Rattle.mdf_programs.proofs.laws.logs_keep_sizes.Goals as goal

pub returns-clause-starts : goal.returns-clause-starts
returns-clause-starts c = starts_fit

pub returns-clause-arguments : goal.returns-clause-arguments
returns-clause-arguments c = arguments_fit

pub returns-clause-results : goal.returns-clause-results
returns-clause-results c = results_fit
