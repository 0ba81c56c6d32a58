-- What frames hand out is small, where the image is one: the sizes are those of members, and results are those of calls.
use Rattle.std.proofs.Common.{◌≡◌, ◌<◌, ◌≤◌, ◌+◌, ◌==◌, ◌&&◌, ℕ, zero, suc, nat_le, Bool, true, false, cond, List, [], ◌∷◌, length, take, map, slice_get, Option, Some, None, ℤ, refl, sym, ap, ◌∙◌, subst, arith}
use Rattle.std.proofs.lemmas.Bool.{leb-true}
use Rattle.std.specs.List.{AllByRecursion, AllZip, list_all}
use Rattle.mpl_value.specs.declared.body.Arg.{Arg}
use Rattle.mpl_value.specs.declared.body.Arg.TheVariants.{Know, Unknown}
use Rattle.mpl_value.specs.declared.body.BodyStart.{BodyStart}
use Rattle.mpl_value.specs.declared.body.MemberId.{MemberId}
use Rattle.mpl_value.specs.Results.{result_of}
use Rattle.mdf_actor.specs.declared.status.ActorStatus.TheVariants as status
use Rattle.mdf_code.specs.declared.raw.RawImage.{RawImage}
use Rattle.mdf_code.specs.declared.raw.RawMember.{RawMember}
use Rattle.mdf_code.specs.Alone.{Held, Words, Pending, framed, seen_by, values_seen}
use Rattle.mdf_code.specs.Frames.{Around, Frame, Next, Goes, Spends, Stops, Stop, Calls, Creates, Ends, Needs, Replies, Strays, Traps}
use Rattle.mdf_code.specs.Images.{is_code, is_image, is_member, letters_fit, loops_pass, most_formals, most_words, result_fits, words_fit}
use Rattle.mdf_code.specs.Parts.{result_words, sizes_of_formals}
use Rattle.mdf_code.specs.Sizes.{ArgFits, ArgumentsFit, ResultFits, words_given}
use Rattle.mdf_code.specs.Steps.{step}
use Rattle.mdf_code.specs.Told.{Beats, Halt, HaltsNext, IsMade, NamesMade, Stands, Stood, Told, after, around_start, behind, calls_made, most_turns, run, runs_on}
use Rattle.mdf_code.specs.Yields.{words_of_member}
use Rattle.mdf_code.proofs.NeedingSteps.{StopsHere, stops_here}
use Rattle.mdf_code.proofs.Passing.{found, parts}
use Rattle.mdf_code.proofs.ToldFrames.{names_made}
use Rattle.mdf_core.specs.Enabled.{IsLog, StopsAt}
use Rattle.mdf_core.specs.Stages.{has_begun}
use Rattle.mdf_core.specs.Steps.{Log}
use Rattle.mdf_core.specs.Steps as steps
use Rattle.mdf_core.specs.Trees.{IsTree}
use Rattle.mdf_core.specs.Worlds.{Job, World}
use Rattle.mdf_core.proofs.TreeOfActors.{tree}
use Rattle.mdf_drive.specs.AtRest.{call_seen}
use Rattle.mdf_drive.specs.Handing.{HandsOut, IsHanded, IsMissing, IsOfCall}
use Rattle.mdf_drive.proofs.FittingFrames.{HaltFits, given_some}
use Rattle.mdf_drive.proofs.FittingLogs.{halts_fit}

both_true : (a b : Bool) → (a && b) ≡ true → (a ≡ true) × (b ≡ true)
both_true true b e = (refl, e)
both_true false b e = absurd cc

some_is : {A : Type 0} (a b : A) → Some a ≡ Some b → a ≡ b
some_is a b e = cc e

-- ---- needs

-- a value that is needed isn't known
abbrev NeedsMissing : Halt → Type 0
NeedsMissing (Stands (Needs (Words words))) = ⊥
NeedsMissing halt = Unit {0}

abbrev NextMissing : Next Held → Type 0
NextMissing (Stops stop g) = NeedsMissing (Stands stop)
NextMissing next = Unit {0}

next_missing : (knows : ℕ → Arg) (f : Frame Held) (next later : Next Held) → StopsHere (seen_by knows) (seen_by knows) f next later → NextMissing next
next_missing knows f (Stops (Needs (Words words)) g) later here = absurd (cc here.unknown)
next_missing knows f (Stops (Needs (Pending call)) g) later here = tt
next_missing knows f (Stops (Calls member object arguments) g) later here = tt
next_missing knows f (Stops (Replies value) g) later here = tt
next_missing knows f (Stops (Creates class) g) later here = tt
next_missing knows f (Stops (Ends line) g) later here = tt
next_missing knows f (Stops Strays g) later here = tt
next_missing knows f (Stops (Traps trap) g) later here = tt
next_missing knows f (Goes g) later here = tt
next_missing knows f (Spends g) later here = tt

run_missing : (fuel : ℕ) (knows : ℕ → Arg) (x : Around) (quantum turns : ℕ) (f : Frame Held) (stood : Stood) → run fuel knows x quantum turns f ≡ Some stood → NeedsMissing stood.halt
run_missing zero knows x quantum turns f stood e = absurd cc
run_missing (suc fuel) knows x quantum turns f stood e =
    by_next (step (framed knows) x f) (next_missing knows f (step (framed knows) x f) (step (framed knows) x f) (stops_here (framed knows) (seen_by knows) x f)) e (run_missing fuel knows x quantum) where
      by_beat : (b : Bool) (turns : ℕ) (g : Frame Held) → cond b (Some (record { halt = Beats; turns = turns; frame = g })) (run fuel knows x quantum turns g) ≡ Some stood
          → ((turns : ℕ) (g : Frame Held) (stood : Stood) → run fuel knows x quantum turns g ≡ Some stood → NeedsMissing stood.halt) → NeedsMissing stood.halt
      by_beat true turns g e again = subst (λ (s : Stood). NeedsMissing s.halt) (some_is (record { halt = Beats; turns = turns; frame = g }) stood e) tt
      by_beat false turns g e again = again turns g stood e

      by_next : (next : Next Held) → NextMissing next → after (run fuel knows x quantum) quantum turns next ≡ Some stood
          → ((turns : ℕ) (g : Frame Held) (stood : Stood) → run fuel knows x quantum turns g ≡ Some stood → NeedsMissing stood.halt) → NeedsMissing stood.halt
      by_next (Goes g) m e again = again turns g stood e
      by_next (Spends g) m e again = by_beat (turns + 1 == quantum) (turns + 1) g e again
      by_next (Stops stop g) m e again = subst (λ (s : Stood). NeedsMissing s.halt) (some_is (record { halt = Stands stop; turns = turns; frame = g }) stood e) m

halt_missing : (image : RawImage) (start : BodyStart) (told : List Told) (stood : Stood) → HaltsNext image start told stood → NeedsMissing stood.halt
halt_missing image start told stood halts =
    let one = given_some (behind halts.steps image start told) (runs_on halts.steps image start) stood halts.within in
    run_missing halts.steps one.0.knows (around_start image start) most_turns 0 one.0.frame stood one.2

-- ---- the limits of an image

-- a member has few formals, and its formals and its result have few words
record IsSmall (m : RawMember) : Type 0 where
  formals : m.formals ≤ most_formals
  sizes : list_all words_fit m.body.vars ≡ true
  result : result_fits m.result ≡ true

small : (m : RawMember) → is_member m ≡ true → IsSmall m
small m h =
    let a = both_true (nat_le m.formals (length m.body.vars)) (nat_le m.formals most_formals && (result_fits m.result && is_code m.body)) h in
    let b = both_true (nat_le m.formals most_formals) (result_fits m.result && is_code m.body) a.1 in
    let c = both_true (result_fits m.result) (is_code m.body) b.1 in
    let d = both_true (list_all words_fit m.body.vars) (list_all letters_fit m.body.code && loops_pass m.body.code) c.1 in
    record { formals = leb-true m.formals most_formals b.0; sizes = d.0; result = c.0 }

few_words : (o : Option ℕ) → result_fits o ≡ true → result_words o ≤ most_words
few_words None h = omega arith
few_words (Some words) h = leb-true words most_words h

-- ---- a call's arguments

few_taken : (count : ℕ) (sizes : List ℕ) → length (take count sizes) ≤ count
few_taken zero sizes = omega arith
few_taken (suc count) [] = omega arith
few_taken (suc count) (size ∷ sizes) = let rest = few_taken count sizes in omega (arith, rest)

taken_fit : (count : ℕ) (sizes : List ℕ) → list_all words_fit sizes ≡ true → list_all words_fit (take count sizes) ≡ true
taken_fit zero sizes h = refl
taken_fit (suc count) [] h = refl
taken_fit (suc count) (size ∷ sizes) h =
    let b = both_true (words_fit size) (list_all words_fit sizes) h in
    ap (λ first. first && list_all words_fit (take count sizes)) b.0 ∙ taken_fit count sizes b.1

module _ (w : World) (t : IsTree w) (a : ℕ) (there : a < w.count) where
  of_call : (call : ℕ) → 1 ≤ call → call ≤ calls_made (w.actors a).told → IsOfCall w a call
  of_call call first made =
      let c = t.calls a call there first made in let k = t.children a call c.0 c.1 in
      record { child = c.0; is = c.1; newer = k.newer; there = k.there }

  handed_one : (will : ℕ → Arg) (size : ℕ) (x : Held) → size ≤ most_words → ArgFits size (seen_by will x) → IsMade (calls_made (w.actors a).told) x → IsHanded w a x
  handed_one will size (Words words) few fits made = let many : length words ≡ size = fits in omega (arith, many, few)
  handed_one will size (Pending call) few fits made = of_call call made.0 made.1

  handed_all : (will : ℕ → Arg) (sizes : List ℕ) (arguments : List Held) → list_all words_fit sizes ≡ true → AllZip ArgFits sizes (values_seen (seen_by will) arguments)
      → AllByRecursion (IsMade (calls_made (w.actors a).told)) arguments → (length arguments ≤ length sizes) × AllByRecursion (IsHanded w a) arguments
  handed_all will [] [] few fits made = (omega arith, tt)
  handed_all will [] (x ∷ arguments) few fits made = absurd fits
  handed_all will (size ∷ sizes) [] few fits made = absurd fits
  handed_all will (size ∷ sizes) (x ∷ arguments) few fits made =
      let b = both_true (words_fit size) (list_all words_fit sizes) few in
      let rest = handed_all will sizes arguments b.1 fits.1 made.1 in
      (omega (arith, rest.0), (handed_one will size x (leb-true size most_words b.0) fits.0 made.0, rest.1))

  -- ---- halts

  module _ (image : RawImage) (start : BodyStart) (will : ℕ → Arg) (is : is_image image ≡ true) where
    calls_small : (o : Option RawMember) → ((m : RawMember) → o ≡ Some m → IsSmall m) → (arguments : List Held) → ArgumentsFit (values_seen (seen_by will) arguments) o
        → AllByRecursion (IsMade (calls_made (w.actors a).told)) arguments → (length arguments ≤ most_formals) × AllByRecursion (IsHanded w a) arguments
    calls_small None each arguments fits made = absurd fits
    calls_small (Some m) each arguments fits made =
        let s = each m refl in
        let all = handed_all will (sizes_of_formals m) arguments (taken_fit m.formals m.body.vars s.sizes) fits made in
        (omega (arith, all.0, few_taken m.formals m.body.vars, s.formals), all.1)

    members_small : (n : ℕ) (m : RawMember) → slice_get image.members n ≡ Some m → IsSmall m
    members_small n m at = small m (found is_member image.members n m (parts image is).members at)

    -- words that a member gives
    gives_few : (member : Option MemberId) (words : List ℤ) → ResultFits (words_given image member) (result_of (Know words)) → length words ≤ most_words
    gives_few None words fits = absurd fits
    gives_few (Some member) words fits = by_member (slice_get image.members member.0) refl fits where
      by_member : (o : Option RawMember) → slice_get image.members member.0 ≡ o → length words ≡ words_of_member o → length words ≤ most_words
      by_member None at many = omega (arith, many)
      by_member (Some m) at many = let few = few_words m.result (members_small member.0 m at).result in omega (arith, many, few)

    replies_small : (value : Held) → ResultFits (words_given image start.member) (result_of (seen_by will value)) → IsMade (calls_made (w.actors a).told) value → IsHanded w a value
    replies_small (Words words) fits made = gives_few start.member words fits
    replies_small (Pending call) fits made = of_call call made.0 made.1

    hands_out : (halt : Halt) (f : Frame Held) → HaltFits image start will halt f → NamesMade (calls_made (w.actors a).told) halt → NeedsMissing halt → HandsOut w a halt
    hands_out (Stands (Calls member object arguments)) f fits made needs = calls_small (slice_get image.members member) (members_small member) arguments fits.1 made
    hands_out (Stands (Needs (Words words))) f fits made needs = needs
    hands_out (Stands (Needs (Pending call))) f fits made needs = of_call call made.0 made.1
    hands_out (Stands (Replies value)) f fits made needs = replies_small value fits.1 made
    hands_out (Stands (Creates class)) f fits made needs = tt
    hands_out (Stands (Ends line)) f fits made needs = tt
    hands_out (Stands Strays) f fits made needs = tt
    hands_out (Stands (Traps trap)) f fits made needs = tt
    hands_out Beats f fits made needs = tt

-- ---- logs

-- where a running actor stops, it hands out so
pub hands_out_little : (job : Job) (log : Log) → is_image job.image ≡ true → IsLog job log → (a turns : ℕ) (stood : Stood) → StopsAt job (steps.after job log) a turns stood
    → HandsOut (steps.after job log) a stood.halt
hands_out_little job log is h a turns stood s =
    let w = steps.after job log in
    hands_out w (tree job log h) a s.there job.image (w.actors a).start (call_seen w a) is stood.halt stood.frame
    (halts_fit job log h a s.there (ap has_begun s.running) stood s.halts)
    (names_made job.image (w.actors a).start (w.actors a).told stood s.halts)
    (halt_missing job.image (w.actors a).start (w.actors a).told stood s.halts)

-- and its state has as many words as at its start
pub keeps_its_state : (job : Job) (log : Log) → IsLog job log → (a turns : ℕ) (stood : Stood) → StopsAt job (steps.after job log) a turns stood
    → length stood.frame.state ≡ length ((steps.after job log).actors a).start.state
keeps_its_state job log h a turns stood s = kept stood.halt (halts_fit job log h a s.there (ap has_begun s.running) stood s.halts) where
  kept : (halt : Halt) → HaltFits job.image ((steps.after job log).actors a).start (call_seen (steps.after job log) a) halt stood.frame
      → length stood.frame.state ≡ length ((steps.after job log).actors a).start.state
  kept (Stands (Calls member object arguments)) fits = fits.0.state
  kept (Stands (Replies value)) fits = fits.0.state
  kept (Stands (Needs value)) fits = fits.state
  kept (Stands (Creates class)) fits = fits.state
  kept (Stands (Ends line)) fits = fits.state
  kept (Stands Strays) fits = fits.state
  kept (Stands (Traps trap)) fits = fits.state
  kept Beats fits = fits.state
