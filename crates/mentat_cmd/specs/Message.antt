-- What a command says of its status on standard error: one line, or nothing where it is done.
use Rattle.std.specs.Prelude.{ℕ, List, string_bytes, [], ◌∷◌, ◌++◌, codes, decimal}
use Rattle.mpl_value.specs.declared.known.Trap.{Trap}
use Rattle.mpl_value.specs.declared.known.TrapKind.{TrapKind}
use Rattle.mpl_value.specs.declared.known.TrapKind.TheVariants.{Overflow, DivZero, Index, Unbound, NoInput, NoReply, Twice}
use Rattle.mentat_cmd.specs.declared.message.Message.{Message}
use Rattle.mentat_cmd.specs.declared.message.Message.TheVariants.{Fixed, Made}
use Rattle.mentat_cmd.specs.declared.status.Refusal.{Refusal}
use Rattle.mentat_cmd.specs.declared.status.Refusal.TheVariants.{BadByte, WideNumber, OpenComment, Syntax, TooDeep, Rule}
use Rattle.mentat_cmd.specs.declared.status.Status.{Status}
use Rattle.mentat_cmd.specs.declared.status.Status.TheVariants as status

abbrev pub kind_name : TrapKind → List ℕ
kind_name Overflow = codes "Overflow"
kind_name DivZero = codes "DivZero"
kind_name Index = codes "Index"
kind_name Unbound = codes "Unbound"
kind_name NoInput = codes "NoInput"
kind_name NoReply = codes "NoReply"
kind_name Twice = codes "Twice"

abbrev pub refused : List ℕ → ℕ → List ℕ
refused fault at = codes "mentat: refused " ++ (fault ++ (codes " at byte " ++ (decimal at ++ 10 ∷ [])))

abbrev pub refusal_message : Refusal → List ℕ
refusal_message (BadByte at) = refused (codes "BadByte") at
refusal_message (WideNumber at) = refused (codes "WideNumber") at
refusal_message (OpenComment at) = refused (codes "OpenComment") at
refusal_message (Syntax at) = refused (codes "Syntax") at
refusal_message (TooDeep at) = refused (codes "TooDeep") at
refusal_message (Rule rule at) = refused (codes "rule " ++ decimal rule) at

abbrev pub trap_message : Trap → List ℕ
trap_message trap = codes "mentat: trap " ++ (kind_name trap.kind ++ (codes " at line " ++ (decimal trap.line ++ 10 ∷ [])))

abbrev pub message : Status → List ℕ
message status.Done = []
message status.Usage = codes "mentat: usage" ++ 10 ∷ []
message (status.Refused refusal) = refusal_message refusal
message (status.Trap trap) = trap_message trap
message status.Spent = codes "mentat: spent" ++ 10 ∷ []
message status.Stuck = codes "mentat: stuck" ++ 10 ∷ []
message status.ReadFault = codes "mentat: read fault" ++ 10 ∷ []
message status.WriteFault = codes "mentat: write fault" ++ 10 ∷ []
message (status.BadInput at) = codes "mentat: bad input at byte " ++ (decimal at ++ 10 ∷ [])
message status.NoMemory = codes "mentat: no memory" ++ 10 ∷ []
message status.TooLong = codes "mentat: too long" ++ 10 ∷ []
message (status.Unbuilt at) = codes "mentat: unbuilt at byte " ++ (decimal at ++ 10 ∷ [])

-- a message as it is written
abbrev pub text_of : Message → List ℕ
text_of (Fixed text) = text.now
text_of (Made text) = string_bytes text
