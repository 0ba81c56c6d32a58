-- How many arcs there are, along the parts of a step.
use Rattle.std.proofs.Common.{◌≡◌, ◌+◌, ◌<◌, ◌≤◌, ℕ, zero, suc, Bool, true, false, not, cond, List, [], ◌∷◌, length, Option, Some, None, ℤ, refl, ◌∙◌, filter, slice_get, remove, arith}
use Rattle.std.proofs.lemmas.List.{length-append}
use Rattle.std.proofs.lemmas.List.Edits.{length-remove}
use Rattle.std.proofs.lemmas.List.Filters.{length-filter_both}
use Rattle.mpl_value.specs.CallAnswers.{leftmost_trap}
use Rattle.mpl_value.specs.declared.body.BodyResult.{BodyResult}
use Rattle.mpl_value.specs.declared.body.BodyResult.TheVariants as result
use Rattle.mpl_value.specs.declared.known.Known.{Known}
use Rattle.mpl_value.specs.declared.known.Known.TheVariants.{Value, Trapped}
use Rattle.mpl_value.specs.declared.known.Trap.{Trap}
use Rattle.mdf_code.specs.Alone.{Held, Words, Pending}
use Rattle.mdf_code.specs.Told.{Gave}
use Rattle.mdf_match.specs.Ports.{missing_in}
use Rattle.mdf_core.specs.Actors.{Actor, Arc, Fate, Open, Is, Forwarded, Target, Port, Result, arguments_of, is_known, is_post}
use Rattle.mdf_core.specs.Calls.{arc_to, arcs_to, awaits, becomes, calls_on, completed, counts_ports, leads_from, new_actor, poisoned, with_arcs}
use Rattle.mdf_core.specs.Events.{Ending}
use Rattle.mdf_core.specs.Steps.{accepts_on, becomes_forwarded, becomes_result, brings, brings_known, ends, fills_port, finishes, forwards, frees, frees_object, gives, matches, result_at_end, sends, tells, unless_given, with_actor}
use Rattle.mdf_core.specs.Worlds.{Job, Object, World, acts, change, fate_at, known_at}
use Rattle.mdf_core.proofs.Turning.{with_port}

-- those that wait and those that are due
abbrev pub arcs_in : World → ℕ
arcs_in w = length w.waits + length w.due

-- ---- results

becomes_arcs : (c : ℕ) (known : Known) (w : World) → arcs_in (becomes c known w) ≡ arcs_in w
becomes_arcs c known w = omega (
  arith,
  length-append w.due (filter (leads_from c) w.waits),
  length-filter_both (leads_from c) (λ arc. not (leads_from c arc)) (λ arc. refl) w.waits,
)

added_arcs : (arcs : List Arc) (w : World) → arcs_in (with_arcs arcs w) ≡ arcs_in w + length arcs
added_arcs arcs w = omega (
  arith,
  length-append w.waits (filter (λ (arc : Arc). not (is_known (fate_at w arc.from))) arcs),
  length-append w.due (filter (λ (arc : Arc). is_known (fate_at w arc.from)) arcs),
  length-filter_both (λ (arc : Arc). is_known (fate_at w arc.from)) (λ (arc : Arc). not (is_known (fate_at w arc.from))) (λ arc. refl) arcs,
)

forwards_arcs : (a : ℕ) (child : Option ℕ) (w : World) → arcs_in (forwards a child w) ≤ arcs_in w + 1
forwards_arcs a None w = omega arith
forwards_arcs a (Some child) w = let one = added_arcs (record { from = child; to = Result a } ∷ []) (change a (λ x. record x { fate = Forwarded child }) w) in omega (arith, one)

gives_arcs : (a : ℕ) (value : Held) (w : World) → arcs_in (gives a value w) ≤ arcs_in w + 1
gives_arcs a (Words words) w = let same = becomes_arcs a (Value words) w in omega (arith, same)
gives_arcs a (Pending call) w = forwards_arcs a ((w.actors a).child call) w

result_arcs : (a : ℕ) (r : BodyResult) (w : World) → arcs_in (becomes_result a r w) ≡ arcs_in w
result_arcs a result.Open w = refl
result_arcs a (result.Known known) w = becomes_arcs a known w
result_arcs a result.Unknown w = refl

unless_arcs : (f : Fate) (w settled : World) → arcs_in settled ≡ arcs_in w → arcs_in (unless_given f settled w) ≡ arcs_in w
unless_arcs Open w settled same = same
unless_arcs (Is known) w settled same = refl
unless_arcs (Forwarded child) w settled same = refl

frees_object_arcs : (o : ℤ) (state : List ℤ) (object : Option Object) (w : World) → arcs_in (frees_object o state object w) ≡ arcs_in w
frees_object_arcs o state None w = refl
frees_object_arcs o state (Some object) w = refl

frees_arcs : (x : Actor) (state : List ℤ) (w : World) → arcs_in (frees x state w) ≡ arcs_in w
frees_arcs x state w = at (is_post x.call) where
  at : (b : Bool) → arcs_in (cond b (frees_object x.call.object state (w.objects x.call.object) w) w) ≡ arcs_in w
  at true = frees_object_arcs x.call.object state (w.objects x.call.object) w
  at false = refl

-- ---- ports

completed_arcs : (c : ℕ) (x : Actor) (trap : Option Trap) (w : World) → arcs_in (completed c x trap w) ≡ arcs_in w
completed_arcs c x (Some trap) w = becomes_arcs c (Trapped trap) (change c poisoned w)
completed_arcs c x None w = refl

awaits_arcs : (c : ℕ) (x : Actor) (n : ℕ) (w : World) → arcs_in (awaits c x n w) ≡ arcs_in w
awaits_arcs c x zero w = completed_arcs c x (leftmost_trap (arguments_of x.ports)) w
awaits_arcs c x (suc n) w = refl

counts_arcs : (c : ℕ) (w : World) → arcs_in (counts_ports c w) ≡ arcs_in w
counts_arcs c w = awaits_arcs c (w.actors c) (missing_in (w.actors c).ports) w

fills_arcs : (c port : ℕ) (known : Known) (o : Option (Option Known)) (w : World) → arcs_in (fills_port c port known o w) ≡ arcs_in w
fills_arcs c port known None w = refl
fills_arcs c port known (Some (Some other)) w = refl
fills_arcs c port known (Some None) w = counts_arcs c (change c (with_port port known) w)

forwarded_arcs : (c : ℕ) (known : Known) (f : Fate) (w : World) → arcs_in (becomes_forwarded c known f w) ≡ arcs_in w
forwarded_arcs c known (Forwarded child) w = becomes_arcs c known w
forwarded_arcs c known Open w = refl
forwarded_arcs c known (Is other) w = refl

brings_arcs : (known : Known) (to : Target) (w : World) → arcs_in (brings known to w) ≡ arcs_in w
brings_arcs known (Port c port) w = fills_arcs c port known (slice_get (w.actors c).ports port) w
brings_arcs known (Result c) w = forwarded_arcs c known (fate_at w c) w

known_arcs : (o : Option Known) (to : Target) (w : World) → arcs_in (brings_known o to w) ≡ arcs_in w
known_arcs None to w = refl
known_arcs (Some known) to w = brings_arcs known to w

-- ---- the arguments of a call

arc_few : (callee port : ℕ) (child : Option ℕ) → length (arc_to callee port child) ≤ 1
arc_few callee port None = omega arith
arc_few callee port (Some from) = omega arith

argument_arcs : (child : ℕ → Option ℕ) (callee port : ℕ) (arguments : List Held) → length (arcs_to child callee port arguments) ≤ length arguments
argument_arcs child callee port [] = omega arith
argument_arcs child callee port (Words words ∷ others) = let few = argument_arcs child callee (port + 1) others in omega (arith, few)
argument_arcs child callee port (Pending call ∷ others) =
    let few = argument_arcs child callee (port + 1) others in let one = arc_few callee port (child call) in
    omega (arith, few, one, length-append (arc_to callee port (child call)) (arcs_to child callee (port + 1) others))

-- ---- events

pub sends_arcs : (job : Job) (a turns callee member : ℕ) (object : ℤ) (arguments : List Held) (w : World) → arcs_in (sends job a turns callee member object arguments w) ≤ arcs_in w + length arguments
sends_arcs job a turns callee member object arguments w =
    let arcs = arcs_to (w.actors a).child callee 0 arguments in
    let y = with_actor callee (new_actor job a (w.actors a) member object arguments) (acts a (turns + 1) (calls_on job callee member) w) in
    let few = argument_arcs (w.actors a).child callee 0 arguments in
    omega (arith, counts_arcs callee (with_arcs arcs y), added_arcs arcs y, few)

pub reply_arcs : (a turns : ℕ) (value : Held) (w : World) → arcs_in (gives a value (acts a turns (tells Gave) w)) ≤ arcs_in w + 1
reply_arcs a turns value w = gives_arcs a value (acts a turns (tells Gave) w)

pub finishes_arcs : (job : Job) (a turns : ℕ) (ending : Ending) (state : List ℤ) (w : World) → arcs_in (finishes job a turns ending state w) ≡ arcs_in w
finishes_arcs job a turns ending state w =
    let v = acts a turns (ends turns) w in let freed = frees (w.actors a) state v in let r = result_at_end job (w.actors a) ending in
    unless_arcs (w.actors a).fate freed (becomes_result a r freed) (result_arcs a r freed) ∙ frees_arcs (w.actors a) state v

place_below : {A : Type 0} (xs : List A) (place : ℕ) (x : A) → slice_get xs place ≡ Some x → place < length xs
place_below [] place x h = absurd (cc h)
place_below (y ∷ ys) zero x h = omega arith
place_below (y ∷ ys) (suc place) x h = let below = place_below ys place x h in omega (arith, below)

pub matches_arcs : (place : ℕ) (arc : Arc) (w : World) → slice_get w.due place ≡ Some arc → arcs_in (matches place (Some arc) w) + 1 ≡ arcs_in w
matches_arcs place arc w is =
    let u = record w { due = remove w.due place } in
    omega (arith, known_arcs (known_at w (Some arc.from)) arc.to u, length-remove w.due place (place_below w.due place arc is))

pub accepts_arcs : (o : ℤ) (a number : ℕ) (object : Option Object) (w : World) → arcs_in (accepts_on o a number object w) ≡ arcs_in w
accepts_arcs o a number None w = refl
accepts_arcs o a number (Some object) w = refl
