-- What the machine accepts has a tree.
use Rattle.std.proofs.Common.{◌≡◌, Bool, true, false, List, [], ◌∷◌, ◌++◌, Option, Some, None, if◌then◌else◌, refl, ap, sym, subst}
use Rattle.std.specs.List.{list_all}
use Rattle.mpl_ast.specs.declared.place.At.{At}
use Rattle.mpl_ast.specs.declared.program.Program.{Program}
use Rattle.mpl_ast.specs.declared.token.Token.{Token}
use Rattle.mpl_mean.specs.Text.ProgramText.{declaration_text, nothing_left, spells}
use Rattle.mpl_mean.proofs.Truth.{both_true, some_is}
use Rattle.mpl_grammar.specs.Internal.Grammar.{Row, Stack, declaration_rows, may_end, rows}
use Rattle.mpl_grammar.specs.Internal.Machine.{found, is_accepted, next, onward, or_later, takes, trace}
use Rattle.mpl_grammar.specs.declared.symbol.Symbol.{Symbol}
use Rattle.mpl_grammar.proofs.Makes.{Makes, all_each, makes-each, makes-end, place_of, reads-node, rest_at}
use Rattle.mpl_grammar.proofs.Parts.{AllCombine, Part, Parts, done, part, split}
use Rattle.mpl_grammar.proofs.Rows.{combine-declarations, combines, skips}

-- the row that takes the token, with the parts behind it
taken-choice : (P : List Token → List Token → Type 0) (row : Row) (t : Token) (ts rest : List Token) (p : Stack) (other : Option Stack)
    → (row.test t.kind ≡ true → Parts row.pushed ts rest → P (t ∷ ts) rest) → (other ≡ Some p → P (t ∷ ts) rest)
    → (b : Bool) → row.test t.kind ≡ b → (if b then Some row.pushed else other) ≡ Some p → Parts p ts rest → P (t ∷ ts) rest
taken-choice P row t ts rest p other here there true e h ps = here e (subst (λ s. Parts s ts rest) (sym (some_is h)) ps)
taken-choice P row t ts rest p other here there false e h ps = there h

taken-row : (P : List Token → List Token → Type 0) (all : List Row) → AllCombine P all → (t : Token) (ts rest : List Token) (p : Stack) → found all t.kind ≡ Some p → Parts p ts rest → P (t ∷ ts) rest
taken-row P [] c t ts rest p h ps = absurd cc
taken-row P (row ∷ all) c t ts rest p h ps =
    taken-choice P row t ts rest p (found all t.kind) (λ e qs. c.0 t ts rest e qs) (λ f. taken-row P all c.1 t ts rest p f ps) (row.test t.kind) refl h ps

-- parts for all that is to come, and declarations behind them
record Parses (s : Stack) (ts : List Token) : Type 0 where
  mid : List Token
  parts : Parts s ts mid
  declarations : Makes (all_each declaration_text) mid []

at_end : (s : Stack) → list_all may_end s ≡ true → Parses s []
at_end [] h = record { mid = []; parts = done []; declarations = makes-end declaration_text [] }
at_end (x ∷ s) h =
    let b = both_true (may_end x) (list_all may_end s) h in
    let q = at_end s b.1 in
    record { mid = q.mid; parts = part (skips x b.0 [] tt) q.parts; declarations = q.declarations }

module _ (t : Token) (ts : List Token) (later : (s : Stack) → is_accepted (trace ts s) ≡ true → Parses s ts) where
  declared : (o : Option Stack) → found declaration_rows t.kind ≡ o → is_accepted (onward (trace ts) o) ≡ true → Parses [] (t ∷ ts)
  declared None e h = absurd cc
  declared (Some p) e h =
      let q = later p h in
      record { mid = t ∷ ts; parts = done (t ∷ ts); declarations = makes-each (taken-row (Makes declaration_text) declaration_rows combine-declarations t ts q.mid p e q.parts) q.declarations }

  taken : (x : Symbol) (s : Stack) → (is_accepted (onward (trace ts) (next s t.kind)) ≡ true → Parses s (t ∷ ts)) → (o : Option Stack) → takes x t.kind ≡ o → (b : Bool) → may_end x ≡ b
      → is_accepted (onward (trace ts) (or_later o b s (next s t.kind))) ≡ true → Parses (x ∷ s) (t ∷ ts)
  taken x s below (Some p) e b f h =
      let q = later (p ++ s) h in
      let r = split p s q.parts in
      record { mid = q.mid; parts = part (taken-row (Part x) (rows x) (combines x) t ts r.mid p e r.first) r.second; declarations = q.declarations }
  taken x s below None e true f h =
      let q = below h in
      record { mid = q.mid; parts = part (skips x f (t ∷ ts) e) q.parts; declarations = q.declarations }
  taken x s below None e false f h = absurd cc

  at_token : (s : Stack) → is_accepted (onward (trace ts) (next s t.kind)) ≡ true → Parses s (t ∷ ts)
  at_token [] h = declared (found declaration_rows t.kind) refl h
  at_token (x ∷ s) h = taken x s (at_token s) (takes x t.kind) refl (may_end x) refl h

parses : (ts : List Token) (s : Stack) → is_accepted (trace ts s) ≡ true → Parses s ts
parses [] s h = at_end s h
parses (t ∷ ts) s h = at_token t ts (parses ts) s h

-- ---- programs

nothing_between : {ts mid : List Token} → Parts [] ts mid → Makes (all_each declaration_text) mid [] → Makes (all_each declaration_text) ts []
nothing_between (done ts) p = p

pub record Spelled (tokens : List Token) : Type 0 where
  pub program : Program
  pub spelled : spells program tokens ≡ true

all_read : (tokens : List Token) → Makes (all_each declaration_text) tokens [] → Spelled tokens
all_read [] p =
    let a = p.make 0 0 in
    let place : At = record { span = record { from = 0; to = 0 }; line = 1; id = 0 } in
    record { program = record { at = place; declarations = a.tree }; spelled = ap nothing_left a.reads.is }
all_read (t ∷ ts) p =
    let a = p.make 0 1 in
    let read = reads-node t ts 0 0 (all_each declaration_text a.tree) (rest_at [] a.last a.next) a.reads in
    record { program = record { at = place_of t 0 a.last; declarations = a.tree }; spelled = ap nothing_left read.is }

-- Tokens that the machine takes from nothing to nothing are those of a program.
pub accepted-spelled : (tokens : List Token) → is_accepted (trace tokens []) ≡ true → Spelled tokens
accepted-spelled tokens h = let q = parses tokens [] h in all_read tokens (nothing_between q.parts q.declarations)
