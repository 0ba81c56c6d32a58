-- Values of these sizes: what is taken from them, put among them and split among them has its size.
use Rattle.std.proofs.Common.{◌≡◌, ◌≤◌, ◌+◌, ◌==◌, ℕ, zero, suc, nat_le, nat_lt, Bool, true, false, cond, List, [], ◌∷◌, ◌++◌, length, map, take, drop, reverse, flat_map, sum, Some, None, ℤ, pos, refl, sym, ap, ◌∙◌, subst, arith}
use Rattle.std.proofs.lemmas.Bool.{eqb-true, leb-true}
use Rattle.std.proofs.lemmas.List.{length-append, length-drop, length-replicate, length-reverse, length-take, length-take-le, reverse-append}
use Rattle.std.proofs.lemmas.List.Sums.{sum_by-cons}
use Rattle.std.specs.List.{AllByRecursion, AllZip, slice_get, slice_set}
use Rattle.mpl_value.specs.declared.body.Arg.{Arg}
use Rattle.mpl_value.specs.declared.body.Arg.TheVariants.{Know, Trapped, Unknown}
use Rattle.mpl_value.specs.CallAnswers.{any_unknown, known_words, leftmost_trap}
use Rattle.mpl_value.specs.Words.{with_words, zeros}
use Rattle.mdf_code.specs.Frames.{Flow}
use Rattle.mdf_code.specs.Parts.{variables_holding}
use Rattle.mdf_code.specs.Sizes.{ArgFits}
use Rattle.mdf_code.specs.Stacks.{PoppedAll, known_words_of, popped_all, set_at, write_words}
use Rattle.mdf_code.specs.Steps.{sizes_agree, values_of}

-- a flow value has its words, where it is known
abbrev pub FlowFits : Flow Arg → Type 0
FlowFits flow = ArgFits flow.words flow.value

-- ---- lists

every_append : {A : Type 0} (P : A → Type 0) (xs ys : List A) → AllByRecursion P xs → AllByRecursion P ys → AllByRecursion P (xs ++ ys)
every_append P [] ys h g = g
every_append P (x ∷ xs) ys h g = (h.0, every_append P xs ys h.1 g)

pub every_pushed : {A : Type 0} (P : A → Type 0) (xs : List A) (x : A) → AllByRecursion P xs → P x → AllByRecursion P (xs ++ x ∷ [])
every_pushed P xs x h g = every_append P xs (x ∷ []) h (g, tt)

every_take : {A : Type 0} (P : A → Type 0) (count : ℕ) (xs : List A) → AllByRecursion P xs → AllByRecursion P (take count xs)
every_take P zero xs h = tt
every_take P (suc count) [] h = tt
every_take P (suc count) (x ∷ xs) h = (h.0, every_take P count xs h.1)

every_drop : {A : Type 0} (P : A → Type 0) (count : ℕ) (xs : List A) → AllByRecursion P xs → AllByRecursion P (drop count xs)
every_drop P zero xs h = h
every_drop P (suc count) [] h = tt
every_drop P (suc count) (x ∷ xs) h = every_drop P count xs h.1

every_reverse : {A : Type 0} (P : A → Type 0) (xs : List A) → AllByRecursion P xs → AllByRecursion P (reverse xs)
every_reverse P [] h = tt
every_reverse P (x ∷ xs) h = subst (AllByRecursion P) (sym (reverse-append (x ∷ []) xs)) (every_append P (reverse xs) (x ∷ []) (every_reverse P xs h.1) (h.0, tt))

-- ---- stacks

pub some_is : {A : Type 0} (a b : A) → Some a ≡ Some b → a ≡ b
some_is a b h = cc h

-- what is popped is so many, and they and those below are of the stack
pub record PoppedFrom {A : Type 0} (P : A → Type 0) (count : ℕ) (top : PoppedAll A) : Type 0 where
  pub many : length top.items ≡ count
  pub items : AllByRecursion P top.items
  pub below : AllByRecursion P top.below

pub popped_from : {A : Type 0} (P : A → Type 0) (count : ℕ) (stack : List A) (top : PoppedAll A) → AllByRecursion P stack → popped_all count stack ≡ Some top → PoppedFrom P count top
popped_from {A} P count stack top every h = by_test (nat_le count (length stack)) refl h where
  there : PoppedAll A
  there = record { items = reverse (take count stack); below = drop count stack }

  from : count ≤ length stack → PoppedFrom P count there
  from enough = record {
    many = length-reverse (take count stack) ∙ length-take-le count stack enough;
    items = every_reverse P (take count stack) (every_take P count stack every);
    below = every_drop P count stack every;
  }

  by_test : (t : Bool) → nat_le count (length stack) ≡ t → cond t (Some there) None ≡ Some top → PoppedFrom P count top
  by_test true is g = subst (PoppedFrom P count) (some_is there top g) (from (leb-true count (length stack) is))
  by_test false is g = absurd (cc g)

all_unit : {A : Type 0} (xs : List A) → AllByRecursion (λ _. Unit {0}) xs
all_unit [] = tt
all_unit (x ∷ xs) = (tt, all_unit xs)

pub popped_many : {A : Type 0} (count : ℕ) (stack : List A) (top : PoppedAll A) → popped_all count stack ≡ Some top → length top.items ≡ count
popped_many count stack top h = (popped_from (λ _. Unit {0}) count stack top (all_unit stack) h).many

-- ---- words

pub same_length : (offset : ℕ) (new words written : List ℤ) → write_words offset new words ≡ Some written → length written ≡ length words
same_length offset new words written h = by_test (nat_le (offset + length new) (length words)) refl h where
  kept : offset + length new ≤ length words → length (with_words offset new words) ≡ length words
  kept enough =
      let front = length-take offset words in
      let whole = length-append (take offset words) (new ++ drop (offset + length new) words) in
      let rest = length-append new (drop (offset + length new) words) in
      let back = length-drop (offset + length new) words in
      omega (arith, front, whole, rest, back, enough)

  by_test : (t : Bool) → nat_le (offset + length new) (length words) ≡ t → cond t (Some (with_words offset new words)) None ≡ Some written → length written ≡ length words
  by_test true is g = sym (ap length (some_is (with_words offset new words) written g)) ∙ kept (leb-true (offset + length new) (length words) is)
  by_test false is g = absurd (cc g)

pub zeros_fit : (size : ℕ) → length (zeros size) ≡ size
zeros_fit size = length-replicate size (pos 0)

-- ---- variables

pub got_fits : (sizes : List ℕ) (values : List Arg) (place size : ℕ) (value : Arg) → AllZip ArgFits sizes values → slice_get sizes place ≡ Some size → slice_get values place ≡ Some value → ArgFits size value
got_fits [] values place size value fit h g = absurd (cc h)
got_fits (s ∷ sizes) [] place size value fit h g = absurd fit
got_fits (s ∷ sizes) (v ∷ values) zero size value fit h g = subst (λ (n : ℕ). ArgFits n value) (some_is s size h) (subst (ArgFits s) (some_is v value g) fit.0)
got_fits (s ∷ sizes) (v ∷ values) (suc place) size value fit h g = got_fits sizes values place size value fit.1 h g

slice_set_fits : (sizes : List ℕ) (values : List Arg) (place : ℕ) (new : Arg) → AllZip ArgFits sizes values → ((size : ℕ) → slice_get sizes place ≡ Some size → ArgFits size new) → AllZip ArgFits sizes (slice_set values place new)
slice_set_fits [] [] place new fit each = tt
slice_set_fits [] (v ∷ values) place new fit each = absurd fit
slice_set_fits (s ∷ sizes) [] place new fit each = absurd fit
slice_set_fits (s ∷ sizes) (v ∷ values) zero new fit each = (each s refl, fit.1)
slice_set_fits (s ∷ sizes) (v ∷ values) (suc place) new fit each = (fit.0, slice_set_fits sizes values place new fit.1 each)

pub set_fits : (sizes : List ℕ) (values held : List Arg) (place : ℕ) (new : Arg) → AllZip ArgFits sizes values → ((size : ℕ) → slice_get sizes place ≡ Some size → ArgFits size new) → set_at place new values ≡ Some held →
    AllZip ArgFits sizes held
set_fits sizes values held place new fit each h = by_test (nat_lt place (length values)) h where
  by_test : (t : Bool) → cond t (Some (slice_set values place new)) None ≡ Some held → AllZip ArgFits sizes held
  by_test true g = subst (AllZip ArgFits sizes) (some_is (slice_set values place new) held g) (slice_set_fits sizes values place new fit each)
  by_test false g = absurd (cc g)

-- a value that is known to be these words
pub known_is : (value : Arg) (held : List ℤ) → known_words_of value ≡ Some held → value ≡ Know held
known_is (Know words) held h = ap Know (some_is words held h)
known_is (Trapped t) held h = absurd (cc h)
known_is Unknown held h = absurd (cc h)

-- ---- words split among variables

zeros_all_fit : (sizes : List ℕ) → AllZip ArgFits sizes (map Know (map zeros sizes))
zeros_all_fit [] = tt
zeros_all_fit (size ∷ sizes) = (zeros_fit size, zeros_all_fit sizes)

pub held_fit : (formals : ℕ) (sizes : List ℕ) (words : List ℤ) → length words ≡ sum (take formals sizes) → AllZip ArgFits sizes (map Know (variables_holding formals sizes words))
held_fit zero sizes words h = zeros_all_fit sizes
held_fit (suc formals) [] words h = tt
held_fit (suc formals) (size ∷ sizes) words h =
    let total : sum (size ∷ take formals sizes) ≡ size + sum (take formals sizes) = sum_by-cons (λ n. n) size (take formals sizes) in
    let front = length-take size words in
    let back = length-drop size words in
    (omega (arith, h, total, front), held_fit formals sizes (drop size words) (omega (arith, h, total, back)))

-- ---- flow values

pub agreed_fit : (sizes : List ℕ) (flows : List (Flow Arg)) → AllByRecursion FlowFits flows → sizes_agree sizes flows ≡ true → AllZip ArgFits sizes (values_of flows)
agreed_fit [] [] fit h = tt
agreed_fit [] (flow ∷ flows) fit h = absurd (cc h)
agreed_fit (size ∷ sizes) [] fit h = absurd (cc h)
agreed_fit (size ∷ sizes) (flow ∷ flows) fit h = by_test (agreed_fit sizes flows fit.1) (flow.words == size) refl h where
  by_test : (sizes_agree sizes flows ≡ true → AllZip ArgFits sizes (values_of flows)) → (t : Bool) → (flow.words == size) ≡ t → cond t (sizes_agree sizes flows) false ≡ true →
      AllZip ArgFits (size ∷ sizes) (values_of (flow ∷ flows))
  by_test others true is g = (subst (λ (n : ℕ). ArgFits n flow.value) (eqb-true flow.words size is) fit.0, others g)
  by_test others false is g = absurd (cc g)

-- known arguments have as many words as their formals
pub joined_fit : (sizes : List ℕ) (arguments : List Arg) → AllZip ArgFits sizes arguments → any_unknown arguments ≡ false → leftmost_trap arguments ≡ None → length (flat_map (λ words. words) (known_words arguments)) ≡ sum sizes
joined_fit [] [] fit known untrapped = refl
joined_fit [] (a ∷ arguments) fit known untrapped = absurd fit
joined_fit (size ∷ sizes) [] fit known untrapped = absurd fit
joined_fit (size ∷ sizes) (Trapped t ∷ arguments) fit known untrapped = absurd (cc untrapped)
joined_fit (size ∷ sizes) (Unknown ∷ arguments) fit known untrapped = absurd (cc known)
joined_fit (size ∷ sizes) (Know words ∷ arguments) fit known untrapped =
    let total : sum (size ∷ sizes) ≡ size + sum sizes = sum_by-cons (λ n. n) size sizes in
    let whole = length-append words (flat_map (λ words. words) (known_words arguments)) in
    let rest = joined_fit sizes arguments fit.1 known untrapped in
    let first : length words ≡ size = fit.0 in
    omega (arith, total, whole, rest, first)
