-- What stands within brackets: its operators are not counted outside.
use Rattle.std.proofs.Common.{◌≡◌, ℕ, suc, List, [], ◌∷◌, refl, ap, ◌∙◌}
use Rattle.mpl_ast.specs.declared.place.Name.{Name}
use Rattle.mpl_ast.specs.declared.token.Mark.{Mark}
use Rattle.mpl_ast.specs.declared.token.Mark.TheVariants as m
use Rattle.mpl_ast.specs.declared.token.TokenKind.{TokenKind}
use Rattle.mpl_ast.specs.declared.token.TokenKind.TheVariants as kind
use Rattle.mpl_mean.specs.Text.Reading.{Reads, Rest, after_first, mark, name, separated_if_any}
use Rattle.mpl_mean.proofs.Readers.Parts.{Reading, in_turn, inside as within_node, some_same}
use Rattle.mpl_trees.specs.Ahead.{count, counted}
use Rattle.mpl_trees.proofs.Took.{Took, took_mark, took_name}
use Rattle.mpl_trees.specs.declared.position.Position.{Position}
use Rattle.mpl_trees.specs.declared.position.Position.TheVariants.{Before, Behind, Within}

-- The operators counted from one place on are those counted from another.
pub record Moves (p : Position) (r : Rest) (q : Position) (x : Rest) : Type 0 where
  pub same : (level : ℕ) → count level p r.tokens ≡ count level q x.tokens

pub moved : {p q s : Position} {r m x : Rest} → Moves p r q m → Moves q m s x → Moves p r s x
moved a b = record { same = λ level. a.same level ∙ b.same level }

-- one token
pub counts : {k : TokenKind} {r x : Rest} (p : Position) (level : ℕ) → Took k r x → count level p r.tokens ≡ counted level k p (λ q. count level q x.tokens)
counts {x = x} p level t = ap (count level p) t.first ∙ ap (λ k. counted level k p (λ q. count level q x.tokens)) t.kind

-- No operator of what is read is counted outside of brackets.
pub record Inside (r x : Rest) : Type 0 where
  pub within : (n : ℕ) → Moves (Within n) r (Within n) x

pub inside-nothing : (r : Rest) → Inside r r
inside-nothing r = record { within = λ n. record { same = λ level. refl } }

pub inside-then : {r m x : Rest} → Inside r m → Inside m x → Inside r x
inside-then a b = record { within = λ n. moved (a.within n) (b.within n) }

-- ---- one token

pub inside-token : {k : TokenKind} {r x : Rest} → ((n level : ℕ) (go : Position → ℕ) → counted level k (Within n) go ≡ go (Within n)) → Took k r x → Inside r x
inside-token {x = x} plain t = record { within = λ n. record { same = λ level. counts (Within n) level t ∙ plain n level (λ q. count level q x.tokens) } }

pub inside-name : (n : Name) {r x : Rest} → Reading (name n) r x → Inside r x
inside-name n h = inside-token (λ n level go. refl) (took_name n h).took

-- a mark that is no bracket
pub data Plain : Mark → Type 0 where
  dot : Plain m.Dot
  comma : Plain m.Comma
  star : Plain m.Star
  slash : Plain m.Slash
  percent : Plain m.Percent
  plus : Plain m.Plus
  minus : Plain m.Minus
  less : Plain m.Less
  greater : Plain m.Greater
  less_equal : Plain m.LessEqual
  greater_equal : Plain m.GreaterEqual
  equal_equal : Plain m.EqualEqual
  not_equal : Plain m.NotEqual
  and_and : Plain m.AndAnd
  or_or : Plain m.OrOr
  bang : Plain m.Not

plain-within : {o : Mark} → Plain o → (n level : ℕ) (go : Position → ℕ) → counted level (kind.Mark o) (Within n) go ≡ go (Within n)
plain-within dot n level go = refl
plain-within comma n level go = refl
plain-within star n level go = refl
plain-within slash n level go = refl
plain-within percent n level go = refl
plain-within plus n level go = refl
plain-within minus n level go = refl
plain-within less n level go = refl
plain-within greater n level go = refl
plain-within less_equal n level go = refl
plain-within greater_equal n level go = refl
plain-within equal_equal n level go = refl
plain-within not_equal n level go = refl
plain-within and_and n level go = refl
plain-within or_or n level go = refl
plain-within bang n level go = refl

pub inside-mark : {o : Mark} {r x : Rest} → Plain o → Took (kind.Mark o) r x → Inside r x
inside-mark p t = inside-token (plain-within p) t

-- ---- brackets

-- a bracket and the one that closes it
pub data Pair : Mark → Mark → Type 0 where
  parentheses : Pair m.OpenParenthesis m.CloseParenthesis
  brackets : Pair m.OpenBracket m.CloseBracket

opens : {o c : Mark} → Pair o c → (n level : ℕ) (go : Position → ℕ) → counted level (kind.Mark o) (Within n) go ≡ go (Within (suc n))
opens parentheses n level go = refl
opens brackets n level go = refl

closes : {o c : Mark} → Pair o c → (n level : ℕ) (go : Position → ℕ) → counted level (kind.Mark c) (Within (suc n)) go ≡ go (Within n)
closes parentheses n level go = refl
closes brackets n level go = refl

opens_behind : {o c : Mark} → Pair o c → (level : ℕ) (go : Position → ℕ) → counted level (kind.Mark o) Behind go ≡ go (Within 0)
opens_behind parentheses level go = refl
opens_behind brackets level go = refl

opens_before : {o c : Mark} → Pair o c → (level : ℕ) (go : Position → ℕ) → counted level (kind.Mark o) Before go ≡ go (Within 0)
opens_before parentheses level go = refl
opens_before brackets level go = refl

closes_last : {o c : Mark} → Pair o c → (level : ℕ) (go : Position → ℕ) → counted level (kind.Mark c) (Within 0) go ≡ go Behind
closes_last parentheses level go = refl
closes_last brackets level go = refl

pub inside-pair : {o c : Mark} {r m y x : Rest} → Pair o c → Took (kind.Mark o) r m → Inside m y → Took (kind.Mark c) y x → Inside r x
inside-pair {m = m} {x = x} p a i b = record {
  within = λ n. record {
    same = λ level.
        counts (Within n) level a ∙ opens p n level (λ q. count level q m.tokens) ∙ (i.within (suc n)).same level ∙ counts (Within (suc n)) level b
        ∙ closes p n level (λ q. count level q x.tokens);
  };
}

-- behind an operand, or as one
pub pair-behind : {o c : Mark} {r m y x : Rest} → Pair o c → Took (kind.Mark o) r m → Inside m y → Took (kind.Mark c) y x → Moves Behind r Behind x
pair-behind {m = m} {x = x} p a i b = record {
  same = λ level.
      counts Behind level a ∙ opens_behind p level (λ q. count level q m.tokens) ∙ (i.within 0).same level ∙ counts (Within 0) level b ∙ closes_last p level (λ q. count level q x.tokens);
}

pub pair-before : {o c : Mark} {r m y x : Rest} → Pair o c → Took (kind.Mark o) r m → Inside m y → Took (kind.Mark c) y x → Moves Before r Behind x
pair-before {m = m} {x = x} p a i b = record {
  same = λ level.
      counts Before level a ∙ opens_before p level (λ q. count level q m.tokens) ∙ (i.within 0).same level ∙ counts (Within 0) level b ∙ closes_last p level (λ q. count level q x.tokens);
}

-- a word or a dot, where an operand may stand or behind a part of one
pub word-before : {k : TokenKind} {r x : Rest} → ((level : ℕ) (go : Position → ℕ) → counted level k Before go ≡ go Behind) → Took k r x → Moves Before r Behind x
word-before {x = x} plain t = record { same = λ level. counts Before level t ∙ plain level (λ q. count level q x.tokens) }

pub word-behind : {k : TokenKind} {r x : Rest} → ((level : ℕ) (go : Position → ℕ) → counted level k Behind go ≡ go Behind) → Took k r x → Moves Behind r Behind x
word-behind {x = x} plain t = record { same = λ level. counts Behind level t ∙ plain level (λ q. count level q x.tokens) }

-- ---- nodes and lists

-- the reader reads what may stand in brackets
pub record IsInside (a : Reads) : Type 0 where
  pub holds : {r x : Rest} → Reading a r x → Inside r x

-- the node's number is no matter of tokens
pub inside-node : {r x : Rest} → Inside (within_node r) x → Inside r x
inside-node i = record { within = λ n. record { same = (i.within n).same } }

pub data Each (P : Reads → Type 0) : List Reads → Type 0 where
  none : Each P []
  more : {a : Reads} {rs : List Reads} → P a → Each P rs → Each P (a ∷ rs)

pub inside-after_first : {rs : List Reads} → Each IsInside rs → {r x : Rest} → Reading (after_first rs) r x → Inside r x
inside-after_first none {r = r} h = let e = some_same h.is in record { within = λ n. record { same = λ level. ap (λ (y : Rest). count level (Within n) y.tokens) e } }
inside-after_first (more {a = a} {rs = rs} i is) h =
    let u = in_turn (mark m.Comma ∷ a ∷ after_first rs ∷ []) h in
    inside-then (inside-mark comma (took_mark m.Comma u.1)) (inside-then (i.holds u.2.1) (inside-after_first is u.2.2))

pub inside-list : {rs : List Reads} → Each IsInside rs → {r x : Rest} → Reading (separated_if_any rs) r x → Inside r x
inside-list none {r = r} h = let e = some_same h.is in record { within = λ n. record { same = λ level. ap (λ (y : Rest). count level (Within n) y.tokens) e } }
inside-list (more {a = a} {rs = rs} i is) h =
    let u = in_turn (a ∷ after_first rs ∷ []) (record { is = h.is }) in
    inside-then (i.holds u.1) (inside-after_first is u.2)
