-- A source has no more tokens than bytes.
use Rattle.std.proofs.Common.{◌≡◌, ℕ, zero, suc, ◌+◌, ◌-◌, ◌≤◌, List, [], ◌∷◌, length, Result, Ok, Err, arith, ap, refl}
use Rattle.mpl_ast.specs.declared.token.Token.{Token}
use Rattle.mpl_mean.specs.Text.Lexemes.{LexicalFault, Lexeme, Gap, Word, Fault, lexeme, tokens_from, with_token, line_after}

abbrev Found : Type 0
Found = Result (List Token) (LexicalFault × ℕ)

none_left : (tokens : List Token) (n : ℕ) → ◌≡◌ {A = Found} (Ok []) (Ok tokens) → length tokens ≤ n
none_left tokens n e = let same : ◌≡◌ {A = List Token} [] tokens = cc in omega (arith, ap length same)

with_one : (t : Token) (found : Found) (bound : ℕ) (tokens : List Token)
    → ((ts : List Token) → found ≡ Ok ts → length ts ≤ bound) → with_token t found ≡ Ok tokens → length tokens ≤ bound + 1
with_one t (Ok ts) bound tokens few e = let same : t ∷ ts ≡ tokens = cc in omega (arith, ap length same, few ts refl)
with_one t (Err fault) bound tokens few e = absurd cc

-- what a lexeme at a place leads to
abbrev after : (at line : ℕ) → Lexeme → (ℕ → Found) → Found
after at line (Gap n) go = go (n - 1)
after at line (Word n kind) go = with_token (record { kind = kind; span = record { from = at; to = at + n }; line = line }) (go (n - 1))
after at line (Fault fault) go = Err (fault, at)

few_after : (at line : ℕ) (l : Lexeme) (go : ℕ → Found) (bound : ℕ) (tokens : List Token)
    → ((n : ℕ) (ts : List Token) → go n ≡ Ok ts → length ts ≤ bound) → after at line l go ≡ Ok tokens → length tokens ≤ bound + 1
few_after at line (Gap n) go bound tokens few e = omega (arith, few (n - 1) tokens e)
few_after at line (Word n kind) go bound tokens few e = with_one _ (go (n - 1)) bound tokens (few (n - 1)) e
few_after at line (Fault fault) go bound tokens few e = absurd cc

pub few_from : (covered at line : ℕ) (bytes : List ℕ) (tokens : List Token) → tokens_from covered at line bytes ≡ Ok tokens → length tokens ≤ length bytes
few_from zero at line [] tokens e = none_left tokens 0 e
few_from (suc covered) at line [] tokens e = none_left tokens 0 e
few_from (suc covered) at line (b ∷ bytes) tokens e = omega (arith, few_from covered (at + 1) (line_after b line) bytes tokens e)
few_from zero at line (b ∷ bytes) tokens e =
    omega (
      arith,
      few_after at line (lexeme b bytes) (λ n. tokens_from n (at + 1) (line_after b line) bytes) (length bytes) tokens
          (λ n ts f. few_from n (at + 1) (line_after b line) bytes ts f) e,
    )
