-- Words that are split into pieces.
use Rattle.std.proofs.Common.{◌≡◌, ℕ, List, [], ◌∷◌, ◌++◌, length, map, reverse, take, drop, ℤ, false, append_assoc, refl, ap, ap₂, sym, ◌∙◌}
use Rattle.std.proofs.lemmas.List.{append-nil, reverse-append}
use Rattle.std.specs.Prelude.{min}
use Rattle.mpl_value.specs.declared.body.Arg.TheVariants.{Know}
use Rattle.mpl_body_code.specs.Machine.{Item, arg_of, words_item}
use Rattle.mpl_body_code.specs.Steps.{top_of}
use Rattle.mpl_body_run.specs.Splitting.{split_by}
use Rattle.mpl_body_run.proofs.WordLists.{drop_least, take_least}

abbrev pub piece_item : List ℤ → Item
piece_item words = words_item words false

pub one_piece : (items : List Item) (count : ℕ) (counts : List ℕ) (rest : List ℤ)
    → reverse (piece_item (take (min count (length rest)) rest) ∷ items) ++ map piece_item (split_by counts (drop (min count (length rest)) rest))
    ≡ reverse items ++ map piece_item (split_by (count ∷ counts) rest)
one_piece items count counts rest =
    ap₂ (λ piece others. reverse (piece_item piece ∷ items) ++ map piece_item (split_by counts others)) (take_least count rest) (drop_least count rest)
    ∙ ap (λ all. all ++ map piece_item (split_by counts (drop count rest))) (reverse-append (piece_item (take count rest) ∷ []) items)
    ∙ append_assoc (reverse items) (piece_item (take count rest) ∷ []) (map piece_item (split_by counts (drop count rest)))

take_all : (xs : List Item) → take (length xs) xs ≡ xs
take_all [] = refl
take_all (x ∷ xs) = ap (λ all. x ∷ all) (take_all xs)

args_of_pieces : (pieces : List (List ℤ)) → map arg_of (map piece_item pieces) ≡ map Know pieces
args_of_pieces [] = refl
args_of_pieces (piece ∷ pieces) = ap (λ all. Know piece ∷ all) (args_of_pieces pieces)

pub all_pieces : (items : List Item) (n : ℕ) (pieces : List (List ℤ)) → length items ≡ n → reverse items ++ [] ≡ map piece_item pieces → map arg_of (top_of n items) ≡ map Know pieces
all_pieces items n pieces few is =
    ap (λ n. map arg_of (top_of n items)) (sym few) ∙ ap (λ all. map arg_of (reverse all)) (take_all items)
    ∙ ap (map arg_of) (sym (append-nil (reverse items)) ∙ is) ∙ args_of_pieces pieces
