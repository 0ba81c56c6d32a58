-- No line feed stands in a token.
use Rattle.std.proofs.Common.{◌≡◌, ℕ, ◌+◌, ◌<◌, ◌≤◌, ◌^◌, List, [], ◌∷◌, ◌++◌, length, take, drop, Some, None, Option, Bool, true, false, cond, eqb, ltb, nat_eq, take_while, find, count_by, IfSome, refl, sym, ap, ◌∙◌, subst, arith}
use Rattle.std.specs.Prelude.{pos}
use Rattle.std.specs.List.{starts_with}
use Rattle.std.proofs.lemmas.Bool.{cond_both}
use Rattle.std.proofs.lemmas.Bool.Decides.{Decides-eqb}
use Rattle.std.proofs.lemmas.List.Sums.{sum_by-cons, take_while-cons}
use Rattle.std.proofs.lemmas.Slice.Eq.{bytes_eq-Decides}
use Rattle.mpl_ast.specs.declared.token.Mark.{Mark}
use Rattle.mpl_ast.specs.declared.token.Token.{Token}
use Rattle.mpl_ast.specs.declared.token.TokenKind.{TokenKind}
use Rattle.mpl_ast.specs.declared.token.TokenKind.TheVariants as kind
use Rattle.mpl_mean.specs.Text.TokenTable.{mark_spelling, marks}
use Rattle.mpl_mean.specs.Text.Lexemes.{Lexeme, Gap, Word, Fault, WideNumber, lexeme, is_line_feed, is_blank, is_letter, is_digit, continues_name, value_of, comment_lexeme, number_lexeme, mark_lexeme}
use Rattle.mpl_lexer.specs.Lexing.{lexeme_of}
use Rattle.mpl_lexer.proofs.Steps.{LoopKeeps, LoopKeeps-word, token_at}
use Rattle.mpl_lexer.proofs.Words.{find_passes, take_while-front}

abbrev IsOneLine : List ℕ → Lexeme → Type 0
IsOneLine bytes (Gap n) = Unit {0}
IsOneLine bytes (Word n kind) = count_by is_line_feed (take n bytes) ≡ 0
IsOneLine bytes (Fault fault) = Unit {0}

is_no : (b : Bool) → (b ≡ true → ⊥) → b ≡ false
is_no true h = absurd (h refl)
is_no false h = refl

-- a byte of a kind that has no line feed in it
other_byte : (p : ℕ → Bool) (b : ℕ) → p 10 ≡ false → p b ≡ true → is_line_feed b ≡ false
other_byte p b none e =
    is_no (is_line_feed b) (λ t. let f : true ≡ false = sym e ∙ ap p ((Decides-eqb b 10).0 t) ∙ none in cc)

abbrev weighs : Bool → ℕ
weighs t = cond t 1 0

none_in : (b : ℕ) (bytes : List ℕ) → is_line_feed b ≡ false → count_by is_line_feed bytes ≡ 0 → count_by is_line_feed (b ∷ bytes) ≡ 0
none_in b bytes f e =
    let one : cond (is_line_feed b) 1 0 ≡ 0 = ap weighs f in
    omega (arith, sum_by-cons (λ x. cond (is_line_feed x) 1 0) b bytes, one, e)

none_in_front : (p : ℕ → Bool) → p 10 ≡ false → (bytes : List ℕ) → count_by is_line_feed (take_while p bytes) ≡ 0
none_in_front p none [] = refl
none_in_front p none (b ∷ bytes) =
    let P : List ℕ → Type 0 = λ xs. count_by is_line_feed xs ≡ 0 in
    subst P (sym (take_while-cons p b bytes)) (cond_both (p b) (b ∷ take_while p bytes) [] P (λ e. none_in b (take_while p bytes) (other_byte p b none e) (none_in_front p none bytes)) (λ _. refl))

none_in_taken : (p : ℕ → Bool) → p 10 ≡ false → (bytes : List ℕ) → count_by is_line_feed (take (length (take_while p bytes)) bytes) ≡ 0
none_in_taken p none bytes = ap (count_by is_line_feed) (sym (take_while-front p bytes)) ∙ none_in_front p none bytes

abbrev is_one_line : Mark → Bool
is_one_line m = eqb (count_by is_line_feed (mark_spelling m)) 0

mark_line : (bytes : List ℕ) (found : Option Mark) → IfSome found (λ m. (starts_with nat_eq bytes (mark_spelling m) ≡ true) × (is_one_line m ≡ true)) → IsOneLine bytes (mark_lexeme found)
mark_line bytes None h = tt
mark_line bytes (Some m) h =
    let same = (bytes_eq-Decides (mark_spelling m) (take (length (mark_spelling m)) bytes)).0 h.0 in
    ap (count_by is_line_feed) (sym same) ∙ (Decides-eqb (count_by is_line_feed (mark_spelling m)) 0).0 h.1

number_line : (bytes digits : List ℕ) → count_by is_line_feed (take (length digits) bytes) ≡ 0 → IsOneLine bytes (number_lexeme digits)
number_line bytes digits e =
    let P : Lexeme → Type 0 = IsOneLine bytes in
    let word : Lexeme = Word (length digits) (kind.Number (pos (value_of digits))) in
    cond_both (ltb (value_of digits) (2 ^ 63)) word (Fault WideNumber) P (λ _. e) (λ _. tt)

comment_line : (bytes : List ℕ) (rest : Option ℕ) → IsOneLine bytes (comment_lexeme rest)
comment_line bytes None = tt
comment_line bytes (Some n) = tt

zero_line : (b : ℕ) (bytes : List ℕ) → eqb b 48 ≡ true → count_by is_line_feed (take 1 (b ∷ bytes)) ≡ 0
zero_line b bytes e =
    let is_zero = (Decides-eqb b 48).0 e in
    rw is_zero refl

lexeme_line : (b : ℕ) (bytes : List ℕ) → IsOneLine (b ∷ bytes) (lexeme b bytes)
lexeme_line b bytes =
    let P : Lexeme → Type 0 = IsOneLine (b ∷ bytes) in
    let test : Mark → Bool = λ m. starts_with nat_eq (b ∷ bytes) (mark_spelling m) in
    cond_both (is_blank b) _ _ P (λ _. tt)
    (λ _. cond_both (starts_with nat_eq (b ∷ bytes) (47 ∷ 47 ∷ [])) _ _ P (λ _. tt)
    (λ _. cond_both (starts_with nat_eq (b ∷ bytes) (47 ∷ 42 ∷ [])) _ _ P (λ _. comment_line (b ∷ bytes) _)
    (λ _. cond_both (is_letter b) _ _ P (λ _. none_in_taken continues_name refl (b ∷ bytes))
    (λ _. cond_both (eqb b 48) _ _ P (λ e. zero_line b bytes e)
    (λ _. cond_both (is_digit b) _ _ P (λ _. number_line (b ∷ bytes) (take_while is_digit (b ∷ bytes)) (none_in_taken is_digit refl (b ∷ bytes)))
    (λ _. mark_line (b ∷ bytes) (find test marks) (find_passes test is_one_line marks refl)))))))

none_in_word : (bytes : List ℕ) (n : ℕ) (kind : TokenKind) → lexeme_of bytes ≡ Word n kind → count_by is_line_feed (take n bytes) ≡ 0
none_in_word [] n kind e = cc
none_in_word (b ∷ bytes) n kind e = subst (IsOneLine (b ∷ bytes)) e (lexeme_line b bytes)

-- the loop goes past a token, on its line
pub LoopKeeps-token : (source : List ℕ) (at line : ℕ) (ts : List Token) (n : ℕ) (kind : TokenKind) → LoopKeeps source at line ts → 0 < n → at + n ≤ length source → lexeme_of (drop at source) ≡ Word n kind → LoopKeeps source (at + n) line (ts ++ token_at at line n kind ∷ [])
LoopKeeps-token source at line ts n kind keeps some fits e =
    let same : line + count_by is_line_feed (take n (drop at source)) ≡ line = omega (arith, none_in_word (drop at source) n kind e) in
    subst (λ l. LoopKeeps source (at + n) l (ts ++ token_at at line n kind ∷ [])) same (LoopKeeps-word source at line ts n kind keeps some fits e)
