-- The machine's first fault is the fault of the tokens, and where it has none they are a program's.
use Rattle.std.proofs.Common.{◌≡◌, ℕ, ◌+◌, ◌≤◌, Bool, true, false, ◌&&◌, List, [], ◌∷◌, ◌++◌, length, nat_le, Option, Some, None, if◌then◌else◌, refl, ap, sym, ◌∙◌, subst, append_assoc, length-append, arith, take}
use Rattle.std.specs.List.{list_all}
use Rattle.std.specs.Prelude.{slice_get}
use Rattle.std.proofs.Math.Seq.{take-append_seam}
use Rattle.std.proofs.lemmas.Bool.{leb-false, leb-true}
use Rattle.std.proofs.lemmas.List.Folds.{list_all-append}
use Rattle.mpl_ast.specs.declared.program.Program.{Program}
use Rattle.mpl_ast.specs.declared.token.Token.{Token}
use Rattle.mpl_mean.specs.Limits.{most_weight}
use Rattle.mpl_mean.specs.Text.Begins.{Begins, IsLightFront, WeighsBehind}
use Rattle.mpl_mean.specs.Text.ParseFaults.{HasNoProgram}
use Rattle.mpl_mean.specs.Text.ProgramText.{spells}
use Rattle.mpl_mean.specs.Text.Weight.{weights}
use Rattle.mpl_grammar.specs.Internal.Fits.{FaultFits}
use Rattle.mpl_grammar.specs.Internal.Grammar.{Stack, may_end}
use Rattle.mpl_grammar.specs.Internal.Machine.{Ends, Trace, behind, fault, is_accepted, next, onward, trace, weight, weights_along}
use Rattle.mpl_grammar.specs.declared.faults.Fault.{Fault}
use Rattle.mpl_grammar.specs.declared.faults.Fault.TheVariants.{Syntax, TooDeep}
use Rattle.mpl_grammar.proofs.Accepted.{accepted-spelled}
use Rattle.mpl_grammar.proofs.Completions.{completing, finishes}
use Rattle.mpl_grammar.proofs.Growth.{next-grows}
use Rattle.mpl_grammar.proofs.Passes.{prepend, prepend-append}
use Rattle.mpl_grammar.proofs.Programs.{spelled-trace}

-- ---- traces

pub accepted-prepend : (ws : List ℕ) (t : Trace) → is_accepted (prepend ws t) ≡ is_accepted t
accepted-prepend [] t = refl
accepted-prepend (w ∷ ws) t = accepted-prepend ws t

pub weights-prepend : (ws : List ℕ) (t : Trace) → weights_along (prepend ws t) ≡ ws ++ weights_along t
weights-prepend [] t = refl
weights-prepend (w ∷ ws) t = ap (λ vs. w ∷ vs) (weights-prepend ws t)

pub nothing_behind : {A : Type 0} (xs : List A) → xs ++ [] ≡ xs
nothing_behind [] = refl
nothing_behind (x ∷ xs) = ap (λ ys. x ∷ ys) (nothing_behind xs)

-- The tokens take the machine to this stack, with these weights.
record Reaches (front : List Token) (s : Stack) (ws : List ℕ) : Type 0 where
  along : (more : List Token) → trace (front ++ more) [] ≡ prepend ws (trace more s)
  counts : length ws ≡ length front
  light : list_all (λ w. nat_le w most_weight) ws ≡ true
  now : weight s ≤ most_weight

record GoesOn (ws : List ℕ) (t : Trace) (p : Program) : Type 0 where
  accepted : is_accepted t ≡ true
  weighs : weights p ≡ ws ++ weights_along t

-- a program with the front goes on where the machine is
goes-on : (front : List Token) (s : Stack) (ws : List ℕ) → Reaches front s ws → (p : Program) (more : List Token) → spells p (front ++ more) ≡ true → GoesOn ws (trace more s) p
goes-on front s ws r p more h =
    let same = sym (spelled-trace p (front ++ more) h) ∙ r.along more in
    record {
      accepted = sym (accepted-prepend ws (trace more s)) ∙ ap is_accepted (sym same) ∙ accepted-prepend (weights p) (Ends true);
      weighs = sym (nothing_behind (weights p)) ∙ sym (weights-prepend (weights p) (Ends true)) ∙ ap weights_along same ∙ weights-prepend ws (trace more s);
    }

begins-reached : (front : List Token) (s : Stack) (ws : List ℕ) → Reaches front s ws → Begins front
begins-reached front s ws r =
    let accepted = ap is_accepted (r.along (completing s)) ∙ accepted-prepend ws (trace (completing s) s) ∙ finishes s in
    let found = accepted-spelled (front ++ completing s) accepted in
    record { program = found.program; more = completing s; spelled = found.spelled }

light-reached : (front : List Token) (s : Stack) (ws : List ℕ) → Reaches front s ws → IsLightFront front
light-reached front s ws r p more h =
    let g = goes-on front s ws r p more h in
    let front_weights : take (length front) (weights p) ≡ ws =
    ap (λ n. take n (weights p)) (sym r.counts) ∙ ap (take (length ws)) g.weighs ∙ take-append_seam ws (weights_along (trace more s)) in
    ap (list_all (λ w. nat_le w most_weight)) front_weights ∙ r.light

-- ---- one token more

accepted_next : (ts : List Token) (s : Stack) (t : Token) → next s t.kind ≡ None → is_accepted (trace (t ∷ ts) s) ≡ true → ⊥
accepted_next ts s t h a = let stuck = ap (λ o. is_accepted (onward (trace ts) o)) h in absurd cc

pub one_more : {A : Type 0} (xs : List A) (x : A) (ys : List A) → (xs ++ x ∷ []) ++ ys ≡ xs ++ x ∷ ys
one_more xs x ys = append_assoc xs (x ∷ []) ys

further : (front : List Token) (s : Stack) (ws : List ℕ) → Reaches front s ws → (t : Token) → next s t.kind ≡ None → ¬ Begins (front ++ t ∷ [])
further front s ws r t h b =
    let spelled = subst (λ ts. spells b.program ts ≡ true) (one_more front t b.more) b.spelled in
    accepted_next b.more s t h (goes-on front s ws r b.program (t ∷ b.more) spelled).accepted

along-next : (front : List Token) (s : Stack) (ws : List ℕ) → Reaches front s ws → (t : Token) (z : Stack) → next s t.kind ≡ Some z → (more : List Token)
    → trace ((front ++ t ∷ []) ++ more) [] ≡ prepend (ws ++ weight z ∷ []) (trace more z)
along-next front s ws r t z h more =
    ap (λ ts. trace ts []) (one_more front t more) ∙ r.along (t ∷ more) ∙ ap (λ o. prepend ws (onward (trace more) o)) h
    ∙ sym (prepend-append ws (weight z ∷ []) (trace more z))

abbrev all_light : List ℕ → Bool
all_light = list_all (λ w. nat_le w most_weight)

light-more : (ws : List ℕ) (w : ℕ) → all_light ws ≡ true → nat_le w most_weight ≡ true → all_light (ws ++ w ∷ []) ≡ true
light-more ws w h e = list_all-append (λ w. nat_le w most_weight) ws (w ∷ []) ∙ ap (λ b. b && (nat_le w most_weight && true)) h ∙ ap (λ b. b && true) e

reaches-next : (front : List Token) (s : Stack) (ws : List ℕ) → Reaches front s ws → (t : Token) (z : Stack) → next s t.kind ≡ Some z → nat_le (weight z) most_weight ≡ true → Reaches (front ++ t ∷ []) z (ws ++ weight z ∷ [])
reaches-next front s ws r t z h e = record {
  along = along-next front s ws r t z h;
  counts = length-append ws (weight z ∷ []) ∙ ap (λ n. n + 1) r.counts ∙ sym (length-append front (t ∷ []));
  light = light-more ws (weight z) r.light e;
  now = leb-true (weight z) most_weight e;
}

-- the weight above the limit is the next one
too_heavy : (s z : Stack) → weight s ≤ most_weight → weight z ≤ weight s + 1 → nat_le (weight z) most_weight ≡ false → weight z ≡ most_weight + 1
too_heavy s z h g e = let above = leb-false (weight z) most_weight e in omega arith

begins-next : (front : List Token) (s : Stack) (ws : List ℕ) → Reaches front s ws → (t : Token) (z : Stack) → next s t.kind ≡ Some z → Begins (front ++ t ∷ [])
begins-next front s ws r t z h =
    let accepted = ap is_accepted (along-next front s ws r t z h (completing z)) ∙ accepted-prepend (ws ++ weight z ∷ []) (trace (completing z) z) ∙ finishes z in
    let found = accepted-spelled ((front ++ t ∷ []) ++ completing z) accepted in
    record { program = found.program; more = completing z; spelled = found.spelled }

get-seam : (ws : List ℕ) (w : ℕ) (vs : List ℕ) → slice_get (ws ++ w ∷ vs) (length ws) ≡ Some w
get-seam [] w vs = refl
get-seam (x ∷ ws) w vs = get-seam ws w vs

heavy-next : (front : List Token) (s : Stack) (ws : List ℕ) → Reaches front s ws → (t : Token) (z : Stack) → next s t.kind ≡ Some z → weight z ≡ most_weight + 1 → WeighsBehind front t (most_weight + 1)
heavy-next front s ws r t z h e p more spelled =
    let g = goes-on front s ws r p (t ∷ more) spelled in
    let first : weights p ≡ ws ++ weight z ∷ weights_along (trace more z) = g.weighs ∙ ap (λ o. ws ++ weights_along (onward (trace more) o)) h in
    ap (λ n. slice_get (weights p) n) (sym r.counts) ∙ ap (λ vs. slice_get vs (length ws)) first ∙ get-seam ws (weight z) (weights_along (trace more z)) ∙ ap Some e

-- ---- the fault

at_end : (end : ℕ) (front : List Token) (s : Stack) (ws : List ℕ) → Reaches front s ws → (b : Bool) → list_all may_end s ≡ b → (tokens : List Token) → tokens ≡ front ++ [] → FaultFits tokens end (if b then None else Some (Syntax end))
at_end end front s ws r true e tokens w =
    let accepted = ap is_accepted (r.along []) ∙ accepted-prepend ws (trace [] s) ∙ e in
    let found = accepted-spelled (front ++ []) accepted in
    let g = goes-on front s ws r found.program [] found.spelled in
    let all : weights found.program ≡ ws = g.weighs ∙ nothing_behind ws in
    record { program = found.program; spelled = subst (λ ts. spells found.program ts ≡ true) (sym w) found.spelled; light = ap all_light all ∙ r.light }
at_end end front s ws r false e tokens w =
    let no_program : HasNoProgram (front ++ []) = λ p h. let g = (goes-on front s ws r p [] h).accepted in absurd cc in
    record {
      front = front;
      rest = [];
      whole = w;
      place = refl;
      begins = begins-reached front s ws r;
      light = light-reached front s ws r;
      no_further = subst HasNoProgram (nothing_behind front) no_program;
      none = subst HasNoProgram (sym w) no_program;
    }

weighed : (end : ℕ) (front : List Token) (s : Stack) (ws : List ℕ) → Reaches front s ws → (t : Token) (ts tokens : List Token) → tokens ≡ front ++ t ∷ ts → (z : Stack) → next s t.kind ≡ Some z → (b : Bool) → nat_le (weight z) most_weight ≡ b
    → (b ≡ true → FaultFits tokens end (fault end ts z)) → FaultFits tokens end (if b then fault end ts z else Some (TooDeep t.span.from))
weighed end front s ws r t ts tokens w z h true e later = later refl
weighed end front s ws r t ts tokens w z h false e later = record {
  front = front;
  token = t;
  rest = ts;
  whole = w;
  place = refl;
  begins = begins-next front s ws r t z h;
  light = light-reached front s ws r;
  heavy = heavy-next front s ws r t z h (too_heavy s z r.now (next-grows s t.kind z h) e);
}

stepped : (end : ℕ) (front : List Token) (s : Stack) (ws : List ℕ) → Reaches front s ws → (t : Token) (ts tokens : List Token) → tokens ≡ front ++ t ∷ ts → (o : Option Stack) → next s t.kind ≡ o
    → ((z : Stack) → o ≡ Some z → nat_le (weight z) most_weight ≡ true → FaultFits tokens end (fault end ts z)) → FaultFits tokens end (behind o t.span.from (fault end ts))
stepped end front s ws r t ts tokens w None e later = record {
  front = front;
  rest = t ∷ ts;
  whole = w;
  place = refl;
  begins = begins-reached front s ws r;
  light = light-reached front s ws r;
  no_further = further front s ws r t e;
  none = λ p h. accepted_next ts s t e (goes-on front s ws r p (t ∷ ts) (subst (λ us. spells p us ≡ true) w h)).accepted;
}
stepped end front s ws r t ts tokens w (Some z) e later = weighed end front s ws r t ts tokens w z e (nat_le (weight z) most_weight) refl (λ h. later z refl h)

faults : (end : ℕ) (rest front : List Token) (s : Stack) (ws : List ℕ) → Reaches front s ws → (tokens : List Token) → tokens ≡ front ++ rest → FaultFits tokens end (fault end rest s)
faults end [] front s ws r tokens w = at_end end front s ws r (list_all may_end s) refl tokens w
faults end (t ∷ ts) front s ws r tokens w =
    stepped end front s ws r t ts tokens w (next s t.kind) refl
    (λ z e h. faults end ts (front ++ t ∷ []) z (ws ++ weight z ∷ []) (reaches-next front s ws r t z e h) tokens (w ∙ sym (one_more front t ts)))

pub fault-fits : (tokens : List Token) (end : ℕ) → FaultFits tokens end (fault end tokens [])
fault-fits tokens end = faults end tokens [] [] [] (record { along = λ more. refl; counts = refl; light = refl; now = omega arith }) tokens refl

-- an answer that is the machine's
pub answer-fits : {tokens all : List Token} {found other : Option Fault} (end : ℕ) → all ≡ tokens → found ≡ fault end all [] → found ≡ other → FaultFits tokens end other
answer-fits {tokens = tokens} end same is there =
    subst (FaultFits tokens end) (ap (λ ts. fault end ts []) (sym same) ∙ sym is ∙ there) (fault-fits tokens end)
