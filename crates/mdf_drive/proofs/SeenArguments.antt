-- At rest the ports of an actor hold what is known of its arguments, and what isn't known will not be.
use Rattle.std.proofs.Common.{◌≡◌, ◌<◌, ℕ, suc, false, List, [], ◌∷◌, map, length, slice_get, Option, Some, None, refl, sym, ap, ap₂, ◌∙◌, subst, arith, inl, inr}
use Rattle.std.specs.List.{AllByRecursion}
use Rattle.mpl_value.specs.declared.body.Arg.{Arg}
use Rattle.mpl_value.specs.declared.known.Known.{Known}
use Rattle.mpl_value.specs.CallAnswers.{arg_of_reply}
use Rattle.mdf_code.specs.Alone.{Held, Words, Pending, seen_by, values_seen}
use Rattle.mdf_core.specs.Actors.{Arc, Fate, Open, Is, Forwarded, Target, Port, Result, arguments_of, is_known, known_of}
use Rattle.mdf_core.specs.Arguments.{ArgumentIs, ArcsLead, HasArgument, Leads, LeadsTo, LeadsToPort}
use Rattle.mdf_core.specs.Awaited.{AllAwaited, IsAwaited, LeadsThere, PassesAlong, PassesOn, PassesTo}
use Rattle.mdf_core.specs.Causes.{Passes}
use Rattle.mdf_core.specs.DueArcs.{ArcsAreDue}
use Rattle.mdf_core.specs.Worlds.{World, fate_at, known_at}
use Rattle.mdf_core.proofs.FilledPorts.{some_same}
use Rattle.mdf_drive.specs.AtRest.{call_seen}
use Rattle.mdf_drive.proofs.Resting.{Resting}

-- ---- arcs

every_both : (P Q : Arc → Type 0) (xs : List Arc) → AllByRecursion P xs → AllByRecursion Q xs → AllByRecursion (λ x. P x × Q x) xs
every_both P Q [] h k = tt
every_both P Q (x ∷ xs) h k = ((h.0, k.0), every_both P Q xs h.1 k.1)

every_there : (P : Arc → Type 0) (to : Target) (xs : List Arc) → AllByRecursion P xs → LeadsThere to xs → (arc : Arc) × P arc × (arc.to ≡ to)
every_there P to [] h l = absurd l
every_there P to (x ∷ xs) h (inl is) = (x, h.0, is)
every_there P to (x ∷ xs) h (inr l) = every_there P to xs h.1 l

unknown_of : (f : Fate) → is_known f ≡ false → known_of f ≡ None
unknown_of Open h = refl
unknown_of (Is known) h = absurd (cc h)
unknown_of (Forwarded child) h = refl

-- what holds of a machine at rest, as far as its arcs and ports go
pub record Still (w : World) : Type 0 where
  pub rest : Resting w
  pub awaited : AllAwaited w
  pub lead : ArcsLead w
  pub due : ArcsAreDue w
  pub fits : (c place : ℕ) (known : Known) → c < w.count → slice_get (w.actors c).ports place ≡ Some (Some known) → HasArgument w c place known

waiting_arc : (w : World) → Still w → (to : Target) → IsAwaited w to → (arc : Arc) × ((LeadsTo w arc.from arc.to × PassesTo w arc.from arc.to) × (known_at w (Some arc.from) ≡ None)) × (arc.to ≡ to)
waiting_arc w s to (inl h) = let a = every_there (λ arc. (Leads w arc × PassesAlong w arc) × (is_known (fate_at w arc.from) ≡ false)) to w.waits
    (every_both (λ arc. Leads w arc × PassesAlong w arc) (λ arc. is_known (fate_at w arc.from) ≡ false) w.waits (every_both (Leads w) (PassesAlong w) w.waits s.lead.waits s.awaited.waits) s.due.waits) h in
    (a.0, (a.1.0, unknown_of (fate_at w a.0.from) a.1.1), a.2)
waiting_arc w s to (inr h) = absurd (s.rest.undue to h)

-- a port that is empty is one of a result that isn't known
record Lacks (w : World) (c place : ℕ) : Type 0 where
  call : ℕ
  at : slice_get (w.actors c).call.arguments place ≡ Some (Pending call)
  is : known_at w ((w.actors (w.actors c).call.caller).child call) ≡ None

empty_lacks : (w : World) → Still w → (c place : ℕ) → c < w.count → slice_get (w.actors c).ports place ≡ Some None → Lacks w c place
empty_lacks w s c place there empty = let a = waiting_arc w s (Port c place) (s.awaited.ports c place there empty) in
    let l : LeadsToPort w a.0.from c place = subst (LeadsTo w a.0.from) a.2 a.1.0.0 in record { call = l.call; at = l.at; is = ap (known_at w) l.is ∙ a.1.1 }

-- a result that is forwarded at rest isn't known
pub forwarded_unknown : (w : World) → Still w → (a child : ℕ) → fate_at w a ≡ Forwarded child → known_at w (Some child) ≡ None
forwarded_unknown w s a child is = let b = waiting_arc w s (Result a) (s.awaited.results a child is) in
    let on : PassesOn w b.0.from a = subst (PassesTo w b.0.from) b.2 b.1.0.1 in at b.0.from on.passes b.1.1 where
      at : (from : ℕ) → Passes w a from → known_at w (Some from) ≡ None → known_at w (Some child) ≡ None
      at from (inl f) none = ap (λ d. known_at w (Some d)) (sym (same from (sym f ∙ is))) ∙ none where
        same : (from : ℕ) → Forwarded from ≡ Forwarded child → from ≡ child
        same from e = cc e
      at from (inr k) none = absurd (cc (k.1, is))

-- ---- ports

pub seen_all : (see : Held → Arg) (ports : List (Option Known)) (arguments : List Held) → length ports ≡ length arguments →
    ((place : ℕ) (o : Option Known) (x : Held) → slice_get ports place ≡ Some o → slice_get arguments place ≡ Some x → arg_of_reply o ≡ see x) → map arg_of_reply ports ≡ map see arguments
seen_all see [] [] same each = refl
seen_all see [] (x ∷ xs) same each = absurd (omega (arith, same))
seen_all see (o ∷ os) [] same each = absurd (omega (arith, same))
seen_all see (o ∷ os) (x ∷ xs) same each = ap₂ (λ y ys. y ∷ ys) (each 0 o x refl refl) (seen_all see os xs (omega (arith, same)) (λ place p y. each (suc place) p y))

pub arguments_seen : (w : World) → Still w → (c : ℕ) → c < w.count → length (w.actors c).ports ≡ length (w.actors c).call.arguments →
    arguments_of (w.actors c).ports ≡ values_seen (seen_by (call_seen w (w.actors c).call.caller)) (w.actors c).call.arguments
arguments_seen w s c there sized = seen_all (seen_by (call_seen w (w.actors c).call.caller)) (w.actors c).ports (w.actors c).call.arguments sized each where
  value : (known : Known) (argument : Held) → ArgumentIs w (w.actors c).call.caller known argument → arg_of_reply (Some known) ≡ seen_by (call_seen w (w.actors c).call.caller) argument
  value known (Words words) is = ap (λ k. arg_of_reply (Some k)) (sym is)
  value known (Pending call) is = ap arg_of_reply (sym is)

  each : (place : ℕ) (o : Option Known) (x : Held) → slice_get (w.actors c).ports place ≡ Some o → slice_get (w.actors c).call.arguments place ≡ Some x → arg_of_reply o ≡ seen_by (call_seen w (w.actors c).call.caller) x
  each place None x port at = let l = empty_lacks w s c place there port in
      ap arg_of_reply (sym l.is) ∙ ap (seen_by (call_seen w (w.actors c).call.caller)) (some_same (sym l.at ∙ at))
  each place (Some known) x port at = let a = s.fits c place known there port in value known a.argument a.is ∙ ap (seen_by (call_seen w (w.actors c).call.caller)) (some_same (sym a.at ∙ at))
