-- A command in code.
use Rattle.mentat_cmd.specs.Words.{Command}
use Rattle.mentat_cmd.specs.declared.words.Command as words

abbrev pub command_seen : words.Command → Command
command_seen c = record { file = c.file.now; budget = c.budget }
