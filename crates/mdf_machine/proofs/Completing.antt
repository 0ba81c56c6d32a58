-- All arguments of an actor have come.
use Rattle.std.proofs.Common.{◌≡◌, ◌<◌, ℕ, zero, suc, List, [], ◌∷◌, drop, length, Option, Some, None, refl, sym, ap, ◌∙◌, arith, slice_get, slice_index_or}
use Rattle.std.proofs.lemmas.List.{length-set}
use Rattle.std.specs.Prelude.{IsSome, is_some, false, unwrap_or}
use Rattle.std.specs.FinMap.{get}
use Rattle.std.specs.Option.{option_and_then, option_map}
use Rattle.mdf_match.specs.Data.{seen_of}
use Rattle.mpl_value.specs.declared.known.Known.{Known}
use Rattle.mpl_value.specs.declared.known.Known.TheVariants.{Value, Trapped}
use Rattle.mpl_value.specs.declared.known.Trap.{Trap}
use Rattle.mpl_value.specs.CallAnswers.{leftmost_trap}
use Rattle.mdf_core.specs.Actors.{arguments_of}
use Rattle.mdf_match.specs.declared.token.Tag.{Tag}
use Rattle.mdf_match.specs.declared.token.Token.{Token}
use Rattle.mdf_match.specs.Ports.{Row as Ports, filled, filled_row, row_of}
use Rattle.mdf_machine.specs.declared.parts.Parts.{Parts}
use Rattle.mdf_machine.specs.Internal.Bringing.{MayCount, trap_in}
use Rattle.mdf_machine.proofs.Keyed.{inserted_here}

-- ---- the leftmost trap

pub trap_here : (row : Ports) (port : ℕ) (t : Trap) → option_and_then trap_in (slice_index_or row port None) ≡ Some t → leftmost_trap (arguments_of (drop port row)) ≡ Some t
trap_here [] port t h = absurd (cc h)
trap_here (None ∷ row) zero t h = absurd (cc h)
trap_here (Some (Value words) ∷ row) zero t h = absurd (cc h)
trap_here (Some (Trapped trap) ∷ row) zero t h = h
trap_here (x ∷ row) (suc port) t h = trap_here row port t h

pub no_trap_here : (row : Ports) (port : ℕ) → port < length row → option_and_then trap_in (slice_index_or row port None) ≡ None → leftmost_trap (arguments_of (drop (suc port) row)) ≡ leftmost_trap (arguments_of (drop port row))
no_trap_here [] port below h = absurd (omega (arith, below))
no_trap_here (None ∷ row) zero below h = refl
no_trap_here (Some (Value words) ∷ row) zero below h = refl
no_trap_here (Some (Trapped trap) ∷ row) zero below h = absurd (cc h)
no_trap_here (x ∷ row) (suc port) below h = no_trap_here row port (omega (arith, below)) h

-- ---- ports

pub empty_there : {A : Type 0} (xs : List (Option A)) (i : ℕ) → i < length xs → slice_index_or xs i None ≡ None → slice_get xs i ≡ Some None
empty_there [] i below none = absurd (omega (arith, below))
empty_there (x ∷ xs) zero below none = ap Some none
empty_there (x ∷ xs) (suc i) below none = empty_there xs i (omega (arith, below)) none

pub some_there : {A : Type 0} (o : Option A) {x : A} → o ≡ Some x → IsSome o
some_there None is = absurd (cc is)
some_there (Some x) is = refl

abbrev pub with_token : Parts → Tag → Known → Parts
with_token p tag known = record p { ports = filled p.ports (record { tag = tag; known = known }) }

pub filled_count : (p : Parts) (tag : Tag) (known : Known) → MayCount p tag.actor → MayCount (with_token p tag known) tag.actor
filled_count p tag known m =
    let token : Token = record { tag = tag; known = known } in
    let here = inserted_here p.ports tag.actor (filled_row p.ports token) in
    record {
      status = m.status;
      mark = m.mark;
      there = m.there;
      caller = record { status = m.caller.status; mark = m.caller.mark };
      ports = λ row is. m.ports row is ∙ sym (length-set (row_of p.ports tag.actor) tag.port (Some known)) ∙ ap (λ o. length (unwrap_or o [])) (sym here);
      opened = some_there (get (filled p.ports token) tag.actor) here;
      may = m.may;
    }

pub none_seen : (o : Option Known) → is_some (option_map seen_of o) ≡ false → o ≡ None
none_seen None h = refl
none_seen (Some known) h = absurd (cc h)
