-- Words that are poured into zeros are the formals' words.
use Rattle.std.proofs.Common.{◌≡◌, ◌≤◌, ◌<◌, ◌+◌, ℕ, zero, suc, List, [], ◌∷◌, ◌++◌, map, take, drop, set, length, get_or, sum, refl, ap, ap₂, sym, ◌∙◌, arith}
use Rattle.std.proofs.lemmas.List.{append_assoc, append-nil, drop_all, take_all, drop_more, take_more_set, drop-set-lt, length-replicate, length-drop, length-take-le}
use Rattle.std.proofs.lemmas.List.Sums.{sum_by-cons}
use Rattle.std.specs.Prelude.{ℤ}
use Rattle.mpl_value.specs.Words.{with_words, zeros}
use Rattle.mdf_code.specs.Alone.{Held, Words}
use Rattle.mdf_code.specs.Parts.{split_words}
use Rattle.mdf_vm.specs.Internal.Pouring.{all_poured, left_by, poured}

-- one variable more
pub poured_more : (items initial : List Held) (words rest : List ℤ) (place : ℕ) (old new : Held) → place < length items → old ≡ get_or items place old →
    take place items ++ all_poured (drop place items) rest ≡ all_poured initial words → new ≡ poured old rest →
    take (place + 1) (set items place new) ++ all_poured (drop (place + 1) (set items place new)) (left_by old rest) ≡ all_poured initial words
poured_more items initial words rest place old new within read before is =
    ap₂ (λ front back. front ++ all_poured back (left_by old rest)) (take_more_set items place new within) (drop-set-lt (place + 1) items place new (omega arith))
    ∙ (append_assoc (take place items) (new ∷ []) (all_poured (drop (place + 1) items) (left_by old rest))
    ∙ (ap (λ (h : Held). take place items ++ h ∷ all_poured (drop (place + 1) items) (left_by old rest)) is
    ∙ (ap (λ l. take place items ++ all_poured l rest) (sym (drop_more items place old within ∙ ap (λ (h : Held). h ∷ drop (place + 1) items) (sym read))) ∙ before)))

-- nothing changes zeros
nothing_poured : (size : ℕ) → poured (Words (zeros size)) [] ≡ Words (zeros size)
nothing_poured size = ap (λ (new : List ℤ). Words (with_words 0 new (zeros size))) (take_all (length (zeros size)) [] (omega arith))

none_poured : (sizes : List ℕ) → all_poured (map Words (map zeros sizes)) [] ≡ map Words (map zeros sizes)
none_poured [] = refl
none_poured (size ∷ sizes) =
    ap₂ (λ (h : Held) (hs : List Held). h ∷ hs) (nothing_poured size)
    (ap (all_poured (map Words (map zeros sizes))) (drop_all (length (zeros size)) [] (omega arith)) ∙ none_poured sizes)

-- a variable is full
one_poured : (size : ℕ) (words : List ℤ) → size ≤ length words → poured (Words (zeros size)) words ≡ Words (take size words)
one_poured size words enough =
    let n : length (zeros size) ≡ size = length-replicate size _ in
    let taken : take (length (zeros size)) words ≡ take size words = ap (λ k. take k words) n in
    let over : drop (0 + length (take size words)) (zeros size) ≡ [] = drop_all _ (zeros size) (omega (arith, n, length-take-le size words enough)) in
    ap (λ new. Words (with_words 0 new (zeros size))) taken
    ∙ ap (λ rest. Words (take size words ++ rest)) over ∙ ap Words (append-nil (take size words))

no_words : (words : List ℤ) → length words ≡ 0 → words ≡ []
no_words [] h = refl
no_words (word ∷ words) h = absurd (omega (arith, h))

pub fills : (formals : ℕ) (sizes : List ℕ) (words : List ℤ) → length words ≡ sum (take formals sizes) →
    all_poured (map Words (map zeros sizes)) words ≡ map Words (split_words (take formals sizes) words ++ map zeros (drop formals sizes))
fills zero sizes words h = ap (all_poured (map Words (map zeros sizes))) (no_words words h) ∙ none_poured sizes
fills (suc formals) [] words h = refl
fills (suc formals) (size ∷ sizes) words h =
    let all : length words ≡ size + sum (take formals sizes) = h ∙ sum_by-cons (λ x. x) size (take formals sizes) in
    let rest : length (drop size words) ≡ sum (take formals sizes) = length-drop size words ∙ omega (arith, all) in
    ap₂ (λ (x : Held) (xs : List Held). x ∷ xs) (one_poured size words (omega (arith, all)))
    (ap (λ n. all_poured (map Words (map zeros sizes)) (drop n words)) (length-replicate size _) ∙ fills formals sizes (drop size words) rest)

pub poured_all : (items initial : List Held) (words rest : List ℤ) (place : ℕ) → length items ≤ place → take place items ++ all_poured (drop place items) rest ≡ all_poured initial words → items ≡ all_poured initial words
poured_all items initial words rest place past h =
    sym (ap₂ (λ front back. front ++ all_poured back rest) (take_all place items past) (drop_all place items past) ∙ append-nil items) ∙ h
