-- Items that were pushed one after another.
use Rattle.std.proofs.Common.{◌≡◌, ℕ, List, [], ◌∷◌, ◌++◌, length, map, take, drop, reverse, append_assoc, refl, ap, ap₂, sym, ◌∙◌}
use Rattle.std.proofs.Math.Seq.{take-append_seam, drop-append_seam}
use Rattle.std.proofs.lemmas.List.{length-map, length-reverse, reverse-append, reverse-reverse}
use Rattle.mpl_value.specs.declared.body.Arg.TheVariants.{Know}
use Rattle.mpl_mean.specs.Meaning.Values.{Value}
use Rattle.mpl_body_code.specs.Machine.{Item, OfValue, arg_of}
use Rattle.mpl_body_code.specs.Steps.{top_of, values_of}

abbrev pub pushed : List Item → List Item → List Item
pushed [] below = below
pushed (item ∷ items) below = pushed items (item ∷ below)

pushed_is : (items below : List Item) → pushed items below ≡ reverse items ++ below
pushed_is [] below = refl
pushed_is (item ∷ items) below =
    pushed_is items (item ∷ below)
    ∙ sym (append_assoc (reverse items) (item ∷ []) below)
    ∙ ap (λ all. all ++ below) (sym (reverse-append (item ∷ []) items))

reversed_length : (items : List Item) → length (reverse items) ≡ length items
reversed_length = length-reverse

pub top_pushed : (items below : List Item) (count : ℕ) → length items ≡ count → top_of count (pushed items below) ≡ items
top_pushed items below count e =
    ap₂ (λ n all. reverse (take n all)) (sym e ∙ sym (reversed_length items)) (pushed_is items below)
    ∙ ap reverse (take-append_seam (reverse items) below)
    ∙ reverse-reverse items

pub below_pushed : (items below : List Item) (count : ℕ) → length items ≡ count → drop count (pushed items below) ≡ below
below_pushed items below count e =
    ap₂ (λ n all. drop n all) (sym e ∙ sym (reversed_length items)) (pushed_is items below) ∙ drop-append_seam (reverse items) below

pub values_known : (values : List Value) → values_of (map OfValue values) ≡ values
values_known [] = refl
values_known (value ∷ values) = ap (λ vs. value ∷ vs) (values_known values)

pub values_passed : (values : List Value) → map Know (map (λ (value : Value). value.words) values) ≡ map arg_of (map OfValue values)
values_passed [] = refl
values_passed (value ∷ values) = ap (λ all. Know value.words ∷ all) (values_passed values)

pub known_length : (values : List Value) → length (map OfValue values) ≡ length values
known_length values = length-map values OfValue
