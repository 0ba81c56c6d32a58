-- The tokens of a source stand in it, one behind another.
use Rattle.std.proofs.Common.{◌≡◌, ℕ, suc, ◌+◌, ◌-◌, ◌≤◌, ◌^◌, List, [], ◌∷◌, length, take, drop, Some, None, Option, Ok, Err, Bool, true, eqb, ltb, nat_eq, take_while, find, IfSome, All, refl, sym, ap, ◌∙◌, subst, arith}
use Rattle.std.specs.Prelude.{zero, pos}
use Rattle.std.specs.Str.{bytes_eq}
use Rattle.std.specs.List.{starts_with}
use Rattle.std.proofs.lemmas.Bool.{cond_both}
use Rattle.std.proofs.lemmas.Bool.Decides.{Decides-eqb}
use Rattle.std.proofs.lemmas.List.{length-drop, drop-drop}
use Rattle.std.proofs.lemmas.List.Elements.{All-cons}
use Rattle.std.proofs.lemmas.Slice.Eq.{bytes_eq-Decides}
use Rattle.mpl_ast.specs.declared.token.Keyword.{Keyword}
use Rattle.mpl_ast.specs.declared.token.Mark.{Mark}
use Rattle.mpl_ast.specs.declared.token.Token.{Token}
use Rattle.mpl_ast.specs.declared.token.TokenKind.{TokenKind}
use Rattle.mpl_ast.specs.declared.token.TokenKind.TheVariants as kind
use Rattle.mpl_mean.specs.Text.TokenTable.{keyword_spelling, keywords, mark_spelling, marks}
use Rattle.mpl_mean.specs.Text.Lexemes.{Lexeme, Gap, Word, Fault, WideNumber, lexeme, word_kind, is_blank, is_letter, is_digit, continues_name, value_of, comment_lexeme, number_lexeme, mark_lexeme, tokens_from, tokens_of, with_token, line_after}
use Rattle.mpl_lexer.specs.Spans.{SpansRise, IsSpelled, StandsIn, AreSpansOf}
use Rattle.mpl_lexer.proofs.Words.{IsWithin, lexeme_within, find_passes, take_while-front}
use Rattle.mpl_lexer.proofs.Steps.{Read, after, token_at}

-- ---- the text of what stands at the front

abbrev IsText : List ℕ → Lexeme → Type 0
IsText bytes (Gap n) = Unit {0}
IsText bytes (Word n kind) = IsSpelled kind (take n bytes)
IsText bytes (Fault fault) = Unit {0}

keyword_or_name : (text bytes : List ℕ) (found : Option Keyword) → IfSome found (λ k. bytes_eq (keyword_spelling k) text ≡ true) → text ≡ bytes → IsSpelled (elim found as (λ x. TokenKind) [ None ↦ kind.Name text | Some k ↦ kind.Keyword k ]) bytes
keyword_or_name text bytes None h e = e
keyword_or_name text bytes (Some k) h e = (bytes_eq-Decides (keyword_spelling k) text).0 h ∙ e

IfSome-first : {X : Type 0} (P Q : X → Type 0) (o : Option X) → IfSome o (λ x. P x × Q x) → IfSome o P
IfSome-first P Q None h = tt
IfSome-first P Q (Some x) h = h.0

abbrev spells : List ℕ → Keyword → Bool
spells text k = bytes_eq (keyword_spelling k) text

word_kind_spelled : (text bytes : List ℕ) → text ≡ bytes → IsSpelled (word_kind text) bytes
word_kind_spelled text bytes e =
    let found = find_passes (spells text) (λ _. true) keywords refl in
    keyword_or_name text bytes (find (spells text) keywords) (IfSome-first (λ k. spells text k ≡ true) (λ _. true ≡ true) (find (spells text) keywords) found) e

number_text : (bytes digits : List ℕ) → digits ≡ take (length digits) bytes → IsText bytes (number_lexeme digits)
number_text bytes digits e =
    let P : Lexeme → Type 0 = IsText bytes in
    let word : Lexeme = Word (length digits) (kind.Number (pos (value_of digits))) in
    cond_both (ltb (value_of digits) (2 ^ 63)) word (Fault WideNumber) P (λ _. ap (λ ds. pos (value_of ds)) e) (λ _. tt)

mark_text : (bytes : List ℕ) (found : Option Mark) → IfSome found (λ m. starts_with nat_eq bytes (mark_spelling m) ≡ true) → IsText bytes (mark_lexeme found)
mark_text bytes None h = tt
mark_text bytes (Some m) h = (bytes_eq-Decides (mark_spelling m) (take (length (mark_spelling m)) bytes)).0 h

comment_text : (bytes : List ℕ) (rest : Option ℕ) → IsText bytes (comment_lexeme rest)
comment_text bytes None = tt
comment_text bytes (Some n) = tt

zero_text : (b : ℕ) (bytes : List ℕ) → eqb b 48 ≡ true → pos 0 ≡ pos (value_of (take 1 (b ∷ bytes)))
zero_text b bytes e =
    let is_zero = (Decides-eqb b 48).0 e in
    rw is_zero refl

pub lexeme_text : (b : ℕ) (bytes : List ℕ) → IsText (b ∷ bytes) (lexeme b bytes)
lexeme_text b bytes =
    let P : Lexeme → Type 0 = IsText (b ∷ bytes) in
    let test : Mark → Bool = λ m. starts_with nat_eq (b ∷ bytes) (mark_spelling m) in
    let found = find_passes test (λ _. true) marks refl in
    cond_both (is_blank b) _ _ P (λ _. tt)
    (λ _. cond_both (starts_with nat_eq (b ∷ bytes) (47 ∷ 47 ∷ [])) _ _ P (λ _. tt)
    (λ _. cond_both (starts_with nat_eq (b ∷ bytes) (47 ∷ 42 ∷ [])) _ _ P (λ _. comment_text (b ∷ bytes) _)
    (λ _. cond_both (is_letter b) _ _ P (λ _. word_kind_spelled (take_while continues_name (b ∷ bytes)) _ (take_while-front continues_name (b ∷ bytes)))
    (λ _. cond_both (eqb b 48) _ _ P (λ e. zero_text b bytes e)
    (λ _. cond_both (is_digit b) _ _ P (λ _. number_text (b ∷ bytes) (take_while is_digit (b ∷ bytes)) (take_while-front is_digit (b ∷ bytes)))
    (λ _. mark_text (b ∷ bytes) (find test marks) (IfSome-first (λ m. test m ≡ true) (λ _. true ≡ true) (find test marks) found)))))))

-- ---- all tokens

abbrev Stand : List ℕ → ℕ → List Token → Type 0
Stand source from ts = SpansRise from ts × All (StandsIn source) ts

SpansRise-earlier : (a b : ℕ) (ts : List Token) → a ≤ b → SpansRise b ts → SpansRise a ts
SpansRise-earlier a b [] h rise = tt
SpansRise-earlier a b (t ∷ ts) h rise = (omega (arith, rise.0), rise.1, rise.2)

with_token_ok : (t : Token) (read : Read) (ts : List Token) → with_token t read ≡ Ok ts → (us : List Token) × (read ≡ Ok us) × (ts ≡ t ∷ us)
with_token_ok t (Err fault) ts e = cc
with_token_ok t (Ok us) ts e = (us, refl, cc)

step : (source : List ℕ) (at line b : ℕ) (bytes : List ℕ) (l : Lexeme) (go : ℕ → Read) (ts : List Token) → b ∷ bytes ≡ drop at source → IsWithin (suc (length bytes)) l → IsText (b ∷ bytes) l → ((n : ℕ) (us : List Token) → go n ≡ Ok us → Stand source (at + 1 + n) us) → after at line l go ≡ Ok ts → Stand source at ts
step source at line b bytes (Gap n) go ts rest within text more e =
    let stand = more (n - 1) ts e in
    (SpansRise-earlier at (at + 1 + (n - 1)) ts (omega arith) stand.0, stand.1)
step source at line b bytes (Word n kind) go ts rest within text more e =
    let t = token_at at line n kind in
    let split = with_token_ok t (go (n - 1)) ts e in
    let stand = more (n - 1) split.0 split.1 in
    let len = ap length rest in
    let here : length (drop at source) ≡ length source - at = length-drop at source in
    let wide : n ≡ (at + n) - at = omega arith in
    let spelled = subst (IsSpelled kind) (ap (take n) rest ∙ ap (λ k. take k (drop at source)) wide) text in
    let stands : StandsIn source t = (omega (arith, within.1), spelled) in
    let rise = SpansRise-earlier (at + n) (at + 1 + (n - 1)) split.0 (omega (arith, within.0)) stand.0 in
    subst (Stand source at) (sym split.2) ((omega arith, omega (arith, within.0), rise), All-cons (StandsIn source) t split.0 stands stand.1)
step source at line b bytes (Fault fault) go ts rest within text more e = cc

stand_none : (source : List ℕ) (from : ℕ) (ts : List Token) → [] ≡ ts → Stand source from ts
stand_none source from ts e =
    let none : All (StandsIn source) [] = λ k d h. absurd (omega (arith, h)) in
    subst (Stand source from) e (tt, none)

next : (source : List ℕ) (at b : ℕ) (bytes : List ℕ) → b ∷ bytes ≡ drop at source → bytes ≡ drop (at + 1) source
next source at b bytes rest = ap (drop 1) rest ∙ drop-drop 1 at source

stand_from : (source : List ℕ) (n at line : ℕ) (bytes : List ℕ) (ts : List Token) → bytes ≡ drop at source → tokens_from n at line bytes ≡ Ok ts → Stand source (at + n) ts
stand_from source zero at line [] ts rest e = stand_none source (at + 0) ts cc
stand_from source (suc n) at line [] ts rest e = stand_none source (at + suc n) ts cc
stand_from source zero at line (b ∷ bytes) ts rest e =
    let stand = step source at line b bytes (lexeme b bytes) (λ covered. tokens_from covered (at + 1) (line_after b line) bytes) ts rest (lexeme_within (b ∷ bytes)) (lexeme_text b bytes)
    (λ n us f. stand_from source n (at + 1) (line_after b line) bytes us (next source at b bytes rest) f) e in
    subst (λ from. Stand source from ts) (omega arith) stand
stand_from source (suc n) at line (b ∷ bytes) ts rest e =
    subst (λ from. Stand source from ts) (omega arith) (stand_from source n (at + 1) (line_after b line) bytes ts (next source at b bytes rest) e)

pub stand_in_source : (source : List ℕ) (ts : List Token) → tokens_of source ≡ Ok ts → AreSpansOf source ts
stand_in_source source ts e = stand_from source 0 0 1 source ts refl e

pub one_list : (source : List ℕ) (ts us : List Token) → tokens_of source ≡ Ok ts → tokens_of source ≡ Ok us → ts ≡ us
one_list source ts us e f = cc
