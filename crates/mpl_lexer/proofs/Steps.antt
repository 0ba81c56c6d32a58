-- What one step does to the tokens from a place on.
use Rattle.std.proofs.Common.{◌≡◌, ℕ, suc, ◌+◌, ◌-◌, ◌<◌, ◌≤◌, List, [], ◌∷◌, ◌++◌, length, take, drop, Result, Ok, Err, Bool, true, false, cond, count_by, refl, sym, ap, ◌∙◌, append_assoc, arith}
use Rattle.std.specs.Prelude.{zero}
use Rattle.std.proofs.lemmas.List.Sums.{sum_by-cons, count_by-le-length}
use Rattle.std.proofs.lemmas.List.{length-take, length-drop, drop-drop}
use Rattle.mpl_ast.specs.declared.token.Token.{Token}
use Rattle.mpl_ast.specs.declared.token.TokenKind.{TokenKind}
use Rattle.mpl_mean.specs.Text.Lexemes.{Lexeme, Gap, Word, Fault, LexicalFault, BadByte, WideNumber, OpenComment, tokens_from, tokens_of, with_token, is_line_feed, line_after}
use Rattle.mpl_lexer.specs.declared.lexer.LexFault.{LexFault}
use Rattle.mpl_lexer.specs.declared.lexer.LexFault.TheVariants as faults
use Rattle.mpl_lexer.specs.Lexing.{lexeme_of, IsFault, IsFaultAt}

abbrev pub Read : Type 0
Read = Result (List Token) (LexicalFault × ℕ)

-- the tokens with more before them
abbrev pub with_tokens : List Token → Read → Read
with_tokens ts (Err fault) = Err fault
with_tokens ts (Ok us) = Ok (ts ++ us)

pub with_tokens_more : (ts : List Token) (t : Token) (read : Read) → with_tokens (ts ++ t ∷ []) read ≡ with_tokens ts (with_token t read)
with_tokens_more ts t (Err fault) = refl
with_tokens_more ts t (Ok us) = ap Ok (append_assoc ts (t ∷ []) us)

-- the tokens from the byte behind the first n on
abbrev pub tokens_behind : (n at line : ℕ) → List ℕ → Read
tokens_behind n at line bytes = tokens_from 0 (at + n) (line + count_by is_line_feed (take n bytes)) (drop n bytes)

same_place : (at at' line line' : ℕ) (bytes : List ℕ) → at ≡ at' → line ≡ line' → tokens_from 0 at line bytes ≡ tokens_from 0 at' line' bytes
same_place at at' line line' bytes e f =
    ap (λ a. tokens_from 0 a line bytes) e ∙ ap (λ l. tokens_from 0 at' l bytes) f

line_cases : (feeds : Bool) (line : ℕ) → cond feeds (line + 1) line ≡ line + cond feeds 1 0
line_cases true line = refl
line_cases false line = omega arith

line_more : (b line : ℕ) (bytes : List ℕ) → line_after b line + count_by is_line_feed bytes ≡ line + count_by is_line_feed (b ∷ bytes)
line_more b line bytes =
    omega (arith, line_cases (is_line_feed b) line, sum_by-cons (λ x. cond (is_line_feed x) 1 0) b bytes)

pub tokens_from_covered : (n at line : ℕ) (bytes : List ℕ) → tokens_from n at line bytes ≡ tokens_behind n at line bytes
tokens_from_covered zero at line [] = refl
tokens_from_covered (suc n) at line [] = refl
tokens_from_covered zero at line (b ∷ bytes) = same_place at (at + 0) line (line + 0) (b ∷ bytes) (omega arith) (omega arith)
tokens_from_covered (suc n) at line (b ∷ bytes) =
    tokens_from_covered n (at + 1) (line_after b line) bytes ∙ same_place _ (at + suc n) _ _ (drop n bytes) (omega arith) (line_more b line (take n bytes))

-- what a lexeme at a place leads to
abbrev pub after : (at line : ℕ) → Lexeme → (ℕ → Read) → Read
after at line (Gap n) go = go (n - 1)
after at line (Word n kind) go = with_token (record { kind = kind; span = record { from = at; to = at + n }; line = line }) (go (n - 1))
after at line (Fault fault) go = Err (fault, at)

pub tokens_from_gap : (n at line : ℕ) (bytes : List ℕ) → 0 < n → lexeme_of bytes ≡ Gap n → tokens_from 0 at line bytes ≡ tokens_behind n at line bytes
tokens_from_gap zero at line bytes h e = absurd (omega arith)
tokens_from_gap (suc n) at line [] h e = cc
tokens_from_gap (suc n) at line (b ∷ bytes) h e =
    let go : ℕ → Read = λ covered. tokens_from covered (at + 1) (line_after b line) bytes in
    let less : suc n - 1 ≡ n = omega arith in
    let there : tokens_from 0 at line (b ∷ bytes) ≡ go (suc n - 1) = ap (λ x. after at line x go) e in
    there ∙ ap go less ∙ tokens_from_covered (suc n) at line (b ∷ bytes)

pub tokens_from_word : (n : ℕ) (kind : TokenKind) (at line : ℕ) (bytes : List ℕ) → 0 < n → lexeme_of bytes ≡ Word n kind → tokens_from 0 at line bytes ≡ with_token (record { kind = kind; span = record { from = at; to = at + n }; line = line }) (tokens_behind n at line bytes)
tokens_from_word zero kind at line bytes h e = absurd (omega arith)
tokens_from_word (suc n) kind at line [] h e = cc
tokens_from_word (suc n) kind at line (b ∷ bytes) h e =
    let go : ℕ → Read = λ covered. tokens_from covered (at + 1) (line_after b line) bytes in
    let t : Token = record { kind = kind; span = record { from = at; to = at + suc n }; line = line } in
    let less : suc n - 1 ≡ n = omega arith in
    let there : tokens_from 0 at line (b ∷ bytes) ≡ with_token t (go (suc n - 1)) = ap (λ x. after at line x go) e in
    there ∙ ap (λ k. with_token t (go k)) less ∙ ap (with_token t) (tokens_from_covered (suc n) at line (b ∷ bytes))

pub tokens_from_fault : (fault : LexicalFault) (at line : ℕ) (bytes : List ℕ) → 0 < length bytes → lexeme_of bytes ≡ Fault fault → tokens_from 0 at line bytes ≡ Err (fault, at)
tokens_from_fault fault at line [] h e = absurd (omega arith)
tokens_from_fault fault at line (b ∷ bytes) h e =
    ap (λ x. after at line x (λ covered. tokens_from covered (at + 1) (line_after b line) bytes)) e

-- what the loop over a source keeps
pub record LoopKeeps (source : List ℕ) (at line : ℕ) (tokens : List Token) : Type 0 where
  pub within : at ≤ length source
  pub lines : line ≤ at + 1
  pub whole : with_tokens tokens (tokens_from 0 at line (drop at source)) ≡ tokens_of source

abbrev pub token_at : (at line n : ℕ) → TokenKind → Token
token_at at line n kind = record { kind = kind; span = record { from = at; to = at + n }; line = line }

feeds_within : (n : ℕ) (bytes : List ℕ) → count_by is_line_feed (take n bytes) ≤ n
feeds_within n bytes = omega (arith, count_by-le-length is_line_feed (take n bytes), length-take n bytes)

-- the place behind n bytes
behind : (source : List ℕ) (at line n : ℕ) → tokens_behind n at line (drop at source) ≡ tokens_from 0 (at + n) (line + count_by is_line_feed (take n (drop at source))) (drop (at + n) source)
behind source at line n = ap (tokens_from 0 (at + n) (line + count_by is_line_feed (take n (drop at source)))) (drop-drop n at source)

-- the loop goes past a blank or a comment
pub LoopKeeps-gap : (source : List ℕ) (at line : ℕ) (ts : List Token) (n : ℕ) → LoopKeeps source at line ts → 0 < n → at + n ≤ length source → lexeme_of (drop at source) ≡ Gap n → LoopKeeps source (at + n) (line + count_by is_line_feed (take n (drop at source))) ts
LoopKeeps-gap source at line ts n keeps some fits e =
    let step = tokens_from_gap n at line (drop at source) some e ∙ behind source at line n in
    record {
      within = fits;
      lines = omega (arith, feeds_within n (drop at source), keeps.lines);
      whole = ap (with_tokens ts) (sym step) ∙ keeps.whole;
    }

-- the loop goes past a token
pub LoopKeeps-word : (source : List ℕ) (at line : ℕ) (ts : List Token) (n : ℕ) (kind : TokenKind) → LoopKeeps source at line ts → 0 < n → at + n ≤ length source → lexeme_of (drop at source) ≡ Word n kind → LoopKeeps source (at + n) (line + count_by is_line_feed (take n (drop at source))) (ts ++ token_at at line n kind ∷ [])
LoopKeeps-word source at line ts n kind keeps some fits e =
    let t = token_at at line n kind in
    let step = tokens_from_word n kind at line (drop at source) some e ∙ ap (with_token t) (behind source at line n) in
    record {
      within = fits;
      lines = omega (arith, feeds_within n (drop at source), keeps.lines);
      whole = with_tokens_more ts t _ ∙ ap (with_tokens ts) (sym step) ∙ keeps.whole;
    }

stopped : (source : List ℕ) (at line : ℕ) (ts : List Token) (fault : LexicalFault) (place : ℕ) → LoopKeeps source at line ts → at < length source → place ≡ at → lexeme_of (drop at source) ≡ Fault fault → tokens_of source ≡ Err (fault, place)
stopped source at line ts fault place keeps some here e =
    let stop = tokens_from_fault fault at line (drop at source) (omega (arith, length-drop at source)) e in
    sym keeps.whole ∙ ap (with_tokens ts) stop ∙ ap (λ p. Err (fault, p)) (sym here)

-- the loop stops at a fault
pub LoopKeeps-fault : (source : List ℕ) (at line : ℕ) (ts : List Token) (fault : LexFault) → LoopKeeps source at line ts → at < length source → IsFaultAt at fault (lexeme_of (drop at source)) → IsFault fault (tokens_of source)
LoopKeeps-fault source at line ts (faults.BadByte place) keeps some h = stopped source at line ts BadByte place keeps some h.0 h.1
LoopKeeps-fault source at line ts (faults.WideNumber place) keeps some h = stopped source at line ts WideNumber place keeps some h.0 h.1
LoopKeeps-fault source at line ts (faults.OpenComment place) keeps some h = stopped source at line ts OpenComment place keeps some h.0 h.1
LoopKeeps-fault source at line ts faults.NoMemory keeps some h = tt
