-- The arguments of a call, as they are handed out.
use Rattle.std.proofs.Common.{◌≡◌, ℕ, List, [], ◌∷◌, map, Option, None, refl, ap, ap₂}
use Rattle.std.specs.List.{AllByRecursion}
use Rattle.mdf_code.specs.Alone.{Held, Words, Pending}
use Rattle.mdf_core.specs.Calls.{port_of}
use Rattle.mdf_core.specs.Worlds.{World}
use Rattle.mdf_drive.specs.Handing.{IsHanded}
use Rattle.mdf_vm.specs.FlowArgs.{flow_arg}
use Rattle.mdf_machine.specs.declared.rows.Row.{Row}
use Rattle.mdf_machine.specs.Internal.Happened.{held_of}
use Rattle.mdf_machine.specs.Internal.Rows.{child_at}
use Rattle.mdf_machine.specs.Internal.Sending.{IsShort, passed_by, port_given}
use Rattle.mdf_machine.proofs.SentArcs.{passed_of}

pub given_so : (arguments : List Held) → map port_given (map flow_arg arguments) ≡ map port_of arguments
given_so [] = refl
given_so (Words words ∷ others) = ap (λ ports. port_of (Words words) ∷ ports) (given_so others)
given_so (Pending call ∷ others) = ap (λ ports. port_of (Pending call) ∷ ports) (given_so others)

pub short_so : (w : World) (a : ℕ) (arguments : List Held) → AllByRecursion (IsHanded w a) arguments → AllByRecursion IsShort (map flow_arg arguments)
short_so w a [] h = tt
short_so w a (Words words ∷ others) h = (h.0, short_so w a others h.1)
short_so w a (Pending call ∷ others) h = (tt, short_so w a others h.1)

pub passed_so : (rows : List Row) (a : ℕ) (child : ℕ → Option ℕ) (arguments : List Held) → ((call : ℕ) → child_at rows a call ≡ child call) → map (passed_by rows a) (map flow_arg arguments) ≡ passed_of child arguments
passed_so rows a child [] same = refl
passed_so rows a child (Words words ∷ others) same = ap (λ ps. None ∷ ps) (passed_so rows a child others same)
passed_so rows a child (Pending call ∷ others) same = ap₂ (λ p ps. p ∷ ps) (same call) (passed_so rows a child others same)

pub held_so : (arguments : List Held) → map held_of (map flow_arg arguments) ≡ arguments
held_so [] = refl
held_so (Words words ∷ others) = ap (λ hs. Words words ∷ hs) (held_so others)
held_so (Pending call ∷ others) = ap (λ hs. Pending call ∷ hs) (held_so others)
