-- What stands at the front of some bytes has at least one of them, and none behind them.
use Rattle.std.proofs.Common.{◌≡◌, ℕ, suc, ◌+◌, ◌<◌, ◌≤◌, List, [], ◌∷◌, length, take, drop, Some, None, Option, Bool, true, false, cond, eqb, ltb, nat_eq, ◌&&◌, ◌||◌, not, take_while, find, IfSome, IfOk, Result, Ok, Err, get_or, refl, sym, ap, ◌∙◌, subst, arith, rules}
use Rattle.std.specs.Prelude.{◌^◌, pos}
use Rattle.std.specs.List.{starts_with, list_all, prefix_len}
use Rattle.std.proofs.lemmas.Bool.{cond_both, cond-true, cond-false}
use Rattle.std.proofs.lemmas.Bool.Decides.{nat_tests}
use Rattle.std.proofs.lemmas.List.{length-take, length-drop}
use Rattle.std.proofs.lemmas.List.Folds.{length-prefix_len}
use Rattle.std.proofs.lemmas.List.Sums.{take_while-cons}
use Rattle.std.proofs.lemmas.Slice.Eq.{bytes_eq-Decides}
use Rattle.mpl_ast.specs.declared.token.Mark.{Mark}
use Rattle.mpl_ast.specs.declared.token.TokenKind.{TokenKind}
use Rattle.mpl_ast.specs.declared.token.TokenKind.TheVariants as kind
use Rattle.mpl_mean.specs.Text.TokenTable.{mark_spelling, marks}
use Rattle.mpl_mean.specs.Text.Lexemes.{Lexeme, Gap, Word, Fault, is_line_feed, is_blank, is_letter, is_digit, continues_name, comment_rest, comment_lexeme, mark_lexeme, number_lexeme, word_kind, value_of, WideNumber}
use Rattle.mpl_lexer.specs.declared.lexer.LexFault.{LexFault}
use Rattle.mpl_lexer.specs.declared.lexeme.Lexeme.{Lexeme as Found}
use Rattle.mpl_lexer.specs.Lexing.{lexeme_of, IsLexeme, IsFound}
use Rattle.mpl_mean.proofs.Truth.{both_true}

abbrev pub IsWithin : ℕ → Lexeme → Type 0
IsWithin len (Gap n) = (0 < n) × (n ≤ len)
IsWithin len (Word n kind) = (0 < n) × (n ≤ len)
IsWithin len (Fault fault) = Unit {0}

pub starts_with_fits : (bytes text : List ℕ) → starts_with nat_eq bytes text ≡ true → length text ≤ length bytes
starts_with_fits bytes text e =
    let same = ap length ((bytes_eq-Decides text (take (length text) bytes)).0 e) in
    omega (arith, same, length-take (length text) bytes)

take_while_within : (p : ℕ → Bool) (b : ℕ) (bytes : List ℕ) → p b ≡ true → (0 < length (take_while p (b ∷ bytes))) × (length (take_while p (b ∷ bytes)) ≤ suc (length bytes))
take_while_within p b bytes e =
    let first = take_while-cons p b bytes ∙ ap (λ t. cond t (b ∷ take_while p bytes) []) e in
    let same : length (take_while p (b ∷ bytes)) ≡ suc (length (take_while p bytes)) = ap length first in
    let rest = length-take (prefix_len p bytes) bytes in
    (omega (arith, same), omega (arith, same, rest))

pub find_passes : {X : Type 0} (p q : X → Bool) (xs : List X) → list_all q xs ≡ true → IfSome (find p xs) (λ x. (p x ≡ true) × (q x ≡ true))
find_passes p q [] all = tt
find_passes {X} p q (x ∷ xs) all =
    let both = both_true (q x) (list_all q xs) all in
    let P : Option X → Type 0 = λ o. IfSome o (λ x. (p x ≡ true) × (q x ≡ true)) in
    cond_both (p x) (Some x) (find p xs) P (λ e. (e, both.0)) (λ e. find_passes p q xs both.1)

abbrev is_spelled : Mark → Bool
is_spelled m = ltb 0 (length (mark_spelling m))

all_spelled : list_all is_spelled marks ≡ true
all_spelled = refl

mark_within : (bytes : List ℕ) (found : Option Mark) → IfSome found (λ m. (starts_with nat_eq bytes (mark_spelling m) ≡ true) × (is_spelled m ≡ true)) → IsWithin (length bytes) (mark_lexeme found)
mark_within bytes None h = tt
mark_within bytes (Some m) h =
    let fits = starts_with_fits bytes (mark_spelling m) h.0 in
    let spelled = h.1 in
    (search (rules, nat_tests), fits)

one_more_within : (len : ℕ) (rest : Option ℕ) → IfSome rest (λ n. n ≤ len) → IfSome (elim rest as (λ x. Option ℕ) [ None ↦ None | Some n ↦ Some (n + 1) ]) (λ n. n ≤ suc len)
one_more_within len None h = tt
one_more_within len (Some n) h = omega arith

pub comment_rest_within : (bytes : List ℕ) → IfSome (comment_rest bytes) (λ n. n ≤ length bytes)
comment_rest_within [] = tt
comment_rest_within (b ∷ []) = tt
comment_rest_within (b ∷ c ∷ bytes) =
    let P : Option ℕ → Type 0 = λ o. IfSome o (λ n. n ≤ suc (suc (length bytes))) in
    cond_both (eqb b 42 && eqb c 47) (Some 2) _ P (λ _. omega arith) (λ _. one_more_within (suc (length bytes)) (comment_rest (c ∷ bytes)) (comment_rest_within (c ∷ bytes)))

comment_within : (len : ℕ) (rest : Option ℕ) → IfSome rest (λ n. n ≤ len) → IsWithin (suc (suc len)) (comment_lexeme rest)
comment_within len None h = tt
comment_within len (Some n) h = (omega arith, omega arith)

block_within : (bytes : List ℕ) → IsWithin (suc (length bytes)) (comment_lexeme (elim bytes as (λ x. Option ℕ) [ [] ↦ None | star ∷ rest ↦ comment_rest rest ]))
block_within [] = tt
block_within (star ∷ rest) = comment_within (length rest) (comment_rest rest) (comment_rest_within rest)

not_feed : (b : ℕ) (bytes : List ℕ) → starts_with nat_eq (b ∷ bytes) (47 ∷ 47 ∷ []) ≡ true → not (is_line_feed b) ≡ true
not_feed b bytes e =
    let slash = (both_true (eqb 47 b) _ e).0 in
    grind (arith, nat_tests)

pub take_while-front : (p : ℕ → Bool) (bytes : List ℕ) → take_while p bytes ≡ take (length (take_while p bytes)) bytes
take_while-front p bytes = ap (λ n. take n bytes) (sym (length-prefix_len p bytes))

letter_continues : (b : ℕ) → is_letter b ≡ true → continues_name b ≡ true
letter_continues b e = ap (λ t. t || is_digit b) e

number_within : (digits : List ℕ) (len : ℕ) → (0 < length digits) × (length digits ≤ len) → IsWithin len (number_lexeme digits)
number_within digits len h =
    let P : Lexeme → Type 0 = IsWithin len in
    let word : Lexeme = Word (length digits) (kind.Number (pos (value_of digits))) in
    cond_both (ltb (value_of digits) (2 ^ 63)) word (Fault WideNumber) P (λ _. h) (λ _. tt)

pub lexeme_within : (bytes : List ℕ) → IsWithin (length bytes) (lexeme_of bytes)
lexeme_within [] = tt
lexeme_within (b ∷ bytes) =
    let P : Lexeme → Type 0 = IsWithin (suc (length bytes)) in
    let word = take_while_within continues_name b bytes in
    let digits = take_while_within is_digit b bytes in
    cond_both (is_blank b) _ _ P (λ _. (omega arith, omega arith))
    (λ _. cond_both (starts_with nat_eq (b ∷ bytes) (47 ∷ 47 ∷ [])) _ _ P (λ e. take_while_within (λ b. not (is_line_feed b)) b bytes (not_feed b bytes e))
    (λ _. cond_both (starts_with nat_eq (b ∷ bytes) (47 ∷ 42 ∷ [])) _ _ P (λ _. block_within bytes)
    (λ _. cond_both (is_letter b) _ _ P (λ e. word (letter_continues b e))
    (λ _. cond_both (eqb b 48) _ _ P (λ _. (omega arith, omega arith))
    (λ _. cond_both (is_digit b) _ _ P (λ e. number_within (take_while is_digit (b ∷ bytes)) (suc (length bytes)) (digits e))
    (λ _. mark_within (b ∷ bytes) _ (find_passes (λ m. starts_with nat_eq (b ∷ bytes) (mark_spelling m)) is_spelled marks all_spelled)))))))

IsLexeme-within : (len n : ℕ) (kind : Option TokenKind) (there : Lexeme) → IsLexeme n kind there → IsWithin len there → (0 < n) × (n ≤ len)
IsLexeme-within len n None there e h = subst (IsWithin len) e h
IsLexeme-within len n (Some kind) there e h = subst (IsWithin len) e h

IsFound-fits : (place len : ℕ) (found : Result Found LexFault) (there : Lexeme) → IsFound place found there → IsWithin len there → IfOk found (λ l. (0 < l.length) × (l.length ≤ len))
IsFound-fits place len (Ok l) there e h = IsLexeme-within len l.length l.kind there e h
IsFound-fits place len (Err e) there _ h = tt

IfOk-shift : (at len whole : ℕ) (found : Result Found LexFault) → at + len ≡ whole → IfOk found (λ l. (0 < l.length) × (l.length ≤ len)) → IfOk found (λ l. (0 < l.length) × (at + l.length ≤ whole))
IfOk-shift at len whole (Ok l) e h = (h.0, omega (arith, h.1))
IfOk-shift at len whole (Err _) e h = tt

-- what stands at a place of a source is in the source
pub IsFound-within : (place : ℕ) (found : Result Found LexFault) (source : List ℕ) (at : ℕ) → at ≤ length source → IsFound place found (lexeme_of (drop at source)) → IfOk found (λ l. (0 < l.length) × (at + l.length ≤ length source))
IsFound-within place found source at inside e =
    IfOk-shift at (length (drop at source)) (length source) found (omega (arith, length-drop at source))
    (IsFound-fits place (length (drop at source)) found (lexeme_of (drop at source)) e (lexeme_within (drop at source)))

-- where a name or a keyword stands
pub lexeme_of_word : (bytes : List ℕ) → 0 < length bytes → is_blank (get_or bytes 0 0) ≡ false → starts_with nat_eq bytes (47 ∷ 47 ∷ []) ≡ false → starts_with nat_eq bytes (47 ∷ 42 ∷ []) ≡ false → is_letter (get_or bytes 0 0) ≡ true → lexeme_of bytes ≡ Word (length (take_while continues_name bytes)) (word_kind (take_while continues_name bytes))
lexeme_of_word [] some blank line block letter = absurd (omega arith)
lexeme_of_word (b ∷ bytes) some blank line block letter =
    cond-false _ _ _ blank ∙ cond-false _ _ _ line ∙ cond-false _ _ _ block ∙ cond-true _ _ _ letter
