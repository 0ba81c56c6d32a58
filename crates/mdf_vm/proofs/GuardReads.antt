-- What a guard reads of the formals.
use Rattle.std.proofs.Common.{◌≡◌, ◌≤◌, ◌<◌, ◌+◌, ℕ, Bool, true, false, List, [], ◌∷◌, ◌++◌, length, map, take, drop, get_or, Option, Some, None, cond, FitsSigned, w64, of_z, to_z, refl, ap, sym, ◌∙◌, arith}
use Rattle.std.proofs.lemmas.Bool.{le-leb, lt-leb}
use Rattle.std.proofs.lemmas.Int.{to_z-of_z}
use Rattle.std.proofs.lemmas.List.{drop_more, get_or-drop, get_or-take, length-append, length-drop, length-reverse, length-take, reverse-append, take_more}
use Rattle.std.proofs.lemmas.Option.{get_or_from_slice_get, slice_get-get_or, slice_get-map, slice_get_within}
use Rattle.std.specs.Prelude.{ℤ, pos, reverse, slice_get}
use Rattle.std.specs.Option.{option_map}
use Rattle.mpl_value.specs.declared.body.Arg.{Arg}
use Rattle.mpl_value.specs.declared.body.Arg.TheVariants.{Know}
use Rattle.mpl_value.specs.Words.{index_below, words_at}
use Rattle.mdf_code.specs.Guards.{goes_within}
use Rattle.mdf_code.specs.Stacks.{Popped, given, known_words_of, popped, pushed, read_words}
use Rattle.mdf_code.specs.Steps.{Does, at_index, goes_with, indexed, on_known, on_word, or_strays}
use Rattle.mdf_code.specs.Yields.{in_place}
use Rattle.mdf_code.specs.declared.instr.Instr.TheVariants as instr
use Rattle.mdf_vm.specs.GuardFormals.{word_of}
use Rattle.mdf_vm.specs.Internal.Guarded.{GuardDid, Looks, guard_at}
use Rattle.mdf_vm.specs.declared.guarding.Guarding.{Guarding}

-- ---- formals

-- a formal of so many words
pub record Formal (formals : List (List ℤ)) (formal size : ℕ) : Type 0 where
  pub words : List ℤ
  pub there : slice_get formals formal ≡ Some words
  pub long : length words ≡ size
  pub known : slice_get (map Know formals) formal ≡ Some (Know words)

pub formal_of : (formals : List (List ℤ)) (sizes : List ℕ) (formal size : ℕ) → map length formals ≡ sizes → slice_get sizes formal ≡ Some size → Formal formals formal size
formal_of formals sizes formal size fits is = at (slice_get formals formal) refl where
  at : (o : Option (List ℤ)) → slice_get formals formal ≡ o → Formal formals formal size
  at None none =
      let e : slice_get sizes formal ≡ None = ap (λ l. slice_get l formal) (sym fits) ∙ (slice_get-map length formals formal ∙ ap (option_map length) none) in
      absurd (cc (e, is))
  at (Some words) some =
      let e : Some (length words) ≡ Some size = sym (ap (λ l. slice_get l formal) (sym fits) ∙ (slice_get-map length formals formal ∙ ap (option_map length) some)) ∙ is in
      record { words = words; there = some; long = cc e; known = slice_get-map Know formals formal ∙ ap (option_map Know) some }

-- ---- words of a formal

-- a word that is handed on
pub same_word : (word : ℤ) → FitsSigned w64 word → to_z w64 (of_z w64 word) ≡ word
same_word word fits = to_z-of_z w64 word fits

pub word_there : (formals : List (List ℤ)) (formal at : ℕ) (words : List ℤ) → slice_get formals formal ≡ Some words → at < length words → (word : ℤ) × (word_of formals formal at ≡ Some word)
word_there formals formal at words there within =
    (get_or words at (pos 0), ap (λ o. given o (λ ws. slice_get ws at)) there ∙ slice_get-get_or words at (pos 0) within)

pub word_is : (formals : List (List ℤ)) (formal at : ℕ) (words : List ℤ) (word : ℤ) → slice_get formals formal ≡ Some words → word_of formals formal at ≡ Some word → slice_get words at ≡ Some word
word_is formals formal at words word there is = sym (ap (λ o. given o (λ ws. slice_get ws at)) there) ∙ is

-- a further word at an offset
further : (words : List ℤ) (offset place : ℕ) (word : ℤ) → slice_get words (offset + place) ≡ Some word → words_at offset (place + 1) words ≡ words_at offset place words ++ word ∷ []
further words offset place word h =
    let within : place < length (drop offset words) = omega (arith, slice_get_within words (offset + place) word h, length-drop offset words) in
    let same : get_or (drop offset words) place (pos 0) ≡ word = get_or-drop offset words place (pos 0) ∙ get_or_from_slice_get words (offset + place) word (pos 0) h in
    take_more (drop offset words) place (pos 0) within ∙ ap (λ (w : ℤ). take place (drop offset words) ++ w ∷ []) same

pub one_more : (words : List ℤ) (offset place : ℕ) (word : ℤ) (old : List ℤ) → slice_get words (offset + place) ≡ Some word →
    word ∷ pushed (words_at offset place words) old ≡ pushed (words_at offset (place + 1) words) old
one_more words offset place word old h =
    sym (ap (λ (l : List ℤ). reverse l ++ old) (further words offset place word h) ∙ ap (λ (l : List ℤ). l ++ old) (reverse-append (words_at offset place words) (word ∷ [])))

-- ---- instructions

knows : (l : Looks) (g : Guarding) (variable size : ℕ) (f : Formal l.formals variable size) (next : List ℤ → Does Arg) → on_known in_place variable (guard_at l g) next ≡ next f.words
knows l g variable size f next = ap (λ (o : Option Arg). given o (λ value. given (known_words_of (in_place.see value)) next)) f.known

pub reads_past : (offset count : ℕ) (words : List ℤ) → length words < offset + count → read_words offset count words ≡ None
reads_past offset count words past = ap (λ (b : Bool). cond b (Some (words_at offset count words)) None) (lt-leb (offset + count) (length words) past)

pub reads_there : (offset count : ℕ) (words : List ℤ) → offset + count ≤ length words → read_words offset count words ≡ Some (words_at offset count words)
reads_there offset count words there = ap (λ (b : Bool). cond b (Some (words_at offset count words)) None) (le-leb (offset + count) (length words) there)

pub load_past : (l : Looks) (variable offset count size : ℕ) (g after : Guarding) → Formal l.formals variable size → size < offset + count → GuardDid l (instr.Load variable offset count) g false after
load_past l variable offset count size g after f past again =
    let none : read_words offset count f.words ≡ None = reads_past offset count f.words (omega (arith, past, f.long)) in
    ap (λ (d : Does Arg). goes_within again (or_strays (guard_at l g) d))
    (knows l g variable size f (λ held. given (read_words offset count held) (λ words. goes_with (pushed words g.words) (guard_at l g)))
    ∙ ap (λ (o : Option (List ℤ)). given o (λ words. goes_with (pushed words g.words) (guard_at l g))) none)

pub load_goes : (l : Looks) (variable offset count size : ℕ) (g : Guarding) (words : List ℤ) → (f : Formal l.formals variable size) → offset + count ≤ size → length words ≤ 128 → words ≡ pushed (words_at offset count f.words) g.words →
    GuardDid l (instr.Load variable offset count) g true (record { place = g.place + 1; words = words })
load_goes l variable offset count size g words f there few is again =
    let read : read_words offset count f.words ≡ Some (words_at offset count f.words) = reads_there offset count f.words (omega (arith, there, f.long)) in
    ap (λ (d : Does Arg). goes_within again (or_strays (guard_at l g) d))
    (knows l g variable size f (λ held. given (read_words offset count held) (λ new. goes_with (pushed new g.words) (guard_at l g)))
    ∙ (ap (λ (o : Option (List ℤ)). given o (λ new. goes_with (pushed new g.words) (guard_at l g))) read
    ∙ ap (λ (new : List ℤ). goes_with new (guard_at l g)) (sym is)))
    ∙ ap (λ (b : Bool). cond b (again (guard_at l (record { place = g.place + 1; words = words }))) false) (le-leb (length words) 128 few)

one_word : (words : List ℤ) (offset count place : ℕ) (word : ℤ) → place < count → offset + count ≤ length words → slice_get words (offset + place) ≡ Some word → read_words place 1 (words_at offset count words) ≡ Some (word ∷ [])
one_word words offset count place word within there is =
    let rest : place < length (drop offset words) = omega (arith, within, there, length-drop offset words) in
    let array : place + 1 ≤ length (words_at offset count words) = omega (arith, within, there, length-drop offset words, length-take count (drop offset words)) in
    let same : get_or (words_at offset count words) place (pos 0) ≡ word =
    get_or-take count (drop offset words) place (pos 0) within ∙ (get_or-drop offset words place (pos 0) ∙ get_or_from_slice_get words (offset + place) word (pos 0) is) in
    reads_there place 1 (words_at offset count words) array
    ∙ ap (λ (l : List ℤ). Some (take 1 l)) (drop_more (words_at offset count words) place (pos 0) (omega (arith, array)))
    ∙ ap (λ (w : ℤ). Some (w ∷ [])) same

-- what an index into an array of the formal picks
abbrev pub picked : Looks → Guarding → ℕ → ℕ → List ℤ → Does Arg
picked l g count line array =
    on_word (guard_at l g) (λ i below. indexed count i line (guard_at l g) (λ n. given (read_words n 1 array) (λ words. goes_with (pushed words below) (guard_at l g))))

abbrev pub picks : Looks → Guarding → ℕ → ℕ → ℕ → List ℤ → Does Arg
picks l g offset count line held = given (read_words offset count held) (picked l g count line)

pub load_indexed_past : (l : Looks) (variable offset count line size : ℕ) (g after : Guarding) → Formal l.formals variable size → size < offset + count → GuardDid l (instr.LoadIndexed variable offset count line) g false after
load_indexed_past l variable offset count line size g after f past again =
    let none : read_words offset count f.words ≡ None = reads_past offset count f.words (omega (arith, past, f.long)) in
    ap (λ (d : Does Arg). goes_within again (or_strays (guard_at l g) d))
    (knows l g variable size f (picks l g offset count line) ∙ ap (λ (o : Option (List ℤ)). given o (picked l g count line)) none)

pub load_indexed_goes : (l : Looks) (variable offset count line size : ℕ) (g : Guarding) (i : ℤ) (below : List ℤ) (place : ℕ) (word : ℤ) → (f : Formal l.formals variable size) → offset + count ≤ size →
    popped g.words ≡ Some (record { items = i; below = below }) → index_below count i ≡ Some place → place < count → word_of l.formals variable (offset + place) ≡ Some word → length below < 128 →
    GuardDid l (instr.LoadIndexed variable offset count line) g true (record { place = g.place + 1; words = word ∷ below })
load_indexed_goes l variable offset count line size g i below place word f there top index within is few again =
    let long : offset + count ≤ length f.words = omega (arith, there, f.long) in
    let read : read_words offset count f.words ≡ Some (words_at offset count f.words) = reads_there offset count f.words long in
    let one : read_words place 1 (words_at offset count f.words) ≡ Some (word ∷ []) = one_word f.words offset count place word within long (word_is l.formals variable (offset + place) f.words word f.there is) in
    ap (λ (d : Does Arg). goes_within again (or_strays (guard_at l g) d))
    (knows l g variable size f (picks l g offset count line)
    ∙ (ap (λ (o : Option (List ℤ)). given o (picked l g count line)) read
    ∙ (ap (λ (o : Option (Popped ℤ)). given o (λ t. indexed count t.items line (guard_at l g) (λ n. given (read_words n 1 (words_at offset count f.words)) (λ words. goes_with (pushed words t.below) (guard_at l g))))) top
    ∙ (ap (λ (o : Option ℕ). at_index o line (guard_at l g) (λ n. given (read_words n 1 (words_at offset count f.words)) (λ words. goes_with (pushed words below) (guard_at l g)))) index
    ∙ ap (λ (o : Option (List ℤ)). given o (λ words. goes_with (pushed words below) (guard_at l g))) one))))
    ∙ ap (λ (b : Bool). cond b (again (guard_at l (record { place = g.place + 1; words = word ∷ below }))) false) (le-leb (length (word ∷ below)) 128 (omega (arith, few)))

pub length_pushed : (offset count : ℕ) (words old : List ℤ) → length (pushed (words_at offset count words) old) ≤ count + length old
length_pushed offset count words old =
    omega (arith, length-append (reverse (words_at offset count words)) old, length-reverse (words_at offset count words), length-take count (drop offset words))
