-- What a reader reads has numbers that rise, and few: a token pays for twelve of them.
use Rattle.std.proofs.Common.{◌≡◌, ◌≤◌, ◌+◌, ◌*◌, ℕ, ℤ, suc, List, [], ◌∷◌, map, length, Option, Some, None, ap, arith}
use Rattle.std.specs.List.{AllByRecursion}
use Rattle.std.specs.Option.{option_map}
use Rattle.mpl_ast.specs.declared.place.At.{At}
use Rattle.mpl_ast.specs.declared.place.Name.{Name}
use Rattle.mpl_ast.specs.declared.place.Number.{Number}
use Rattle.mpl_ast.specs.declared.token.Keyword.{Keyword}
use Rattle.mpl_ast.specs.declared.token.Mark.{Mark}
use Rattle.mpl_ast.specs.declared.token.Mark.TheVariants as m
use Rattle.mpl_ast.specs.declared.token.TokenKind.{TokenKind}
use Rattle.mpl_mean.specs.Text.Reading.{Reads, Rest, ◌>>◌, after_first, each, is_number, keyword, mark, mark_on, name, node, number, optional, separated, separated_if_any, token}
use Rattle.mpl_mean.proofs.Readers.Parts.{Reading, in_turn, some_same, told}
use Rattle.mpl_trees.proofs.Took.{Took, fewer-took, noded, took_keyword, took_mark, took_mark_on, took_name, took_number, took_value}

-- so many numbers at least, and so many to spare
pub record Grows (nodes spare : ℕ) (r x : Rest) : Type 0 where
  pub rises : r.next + nodes ≤ x.next
  pub few : x.next + 12 * length x.tokens + spare ≤ r.next + 12 * length r.tokens

pub record Growing (nodes spare : ℕ) (a : Reads) : Type 0 where
  pub holds : {r x : Rest} → Reading a r x → Grows nodes spare r x

-- ---- what follows

pub rising : {k s : ℕ} {a : Reads} {r x : Rest} → Growing k s a → Reading a r x → r.next + k ≤ x.next
rising g h = (g.holds h).rises

-- no token comes back
pub fewer : {k s : ℕ} {a : Reads} {r x : Rest} → Growing k s a → Reading a r x → length x.tokens ≤ length r.tokens
fewer g h = let p = g.holds h in omega (arith, p.rises, p.few)

-- a node has a token
pub shorter : {s : ℕ} {a : Reads} {r x : Rest} → Growing 1 s a → Reading a r x → suc (length x.tokens) ≤ length r.tokens
shorter g h = let p = g.holds h in omega (arith, p.rises, p.few)

-- ---- one after another

pub growing-told : {k s : ℕ} {a b : Reads} → a ≡ b → Growing k s b → Growing k s a
growing-told e g = record { holds = λ h. g.holds (told e h) }

-- nothing is known of the numbers, and less is to spare
pub growing-less : {k s : ℕ} {a : Reads} (t : ℕ) → t ≤ s → Growing k s a → Growing 0 t a
growing-less t l g = record { holds = λ h. let p = g.holds h in record { rises = omega (arith, p.rises); few = omega (arith, p.few, l) } }

-- a node with less to spare
pub growing-less_node : {s : ℕ} {a : Reads} → Growing 1 s a → Growing 1 0 a
growing-less_node g = record { holds = λ h. let p = g.holds h in record { rises = p.rises; few = omega (arith, p.few) } }

pub growing-then : {k s l t : ℕ} {a b : Reads} → Growing k s a → Growing l t b → Growing 0 (s + t) (a >> b)
growing-then {a = a} {b = b} g i = record {
  holds = λ h.
      let u = in_turn (a ∷ b ∷ []) h in
      let p = g.holds u.1 in
      let q = i.holds u.2 in
      record { rises = omega (arith, p.rises, q.rises); few = omega (arith, p.few, q.few) };
}

pub growing-node : {k s : ℕ} (at : At) {parts : Reads} (t : ℕ) → suc t ≤ s → Growing k s parts → Growing 1 t (node at parts)
growing-node at {parts = parts} t l g = record { holds = λ h. let p = g.holds (noded at parts h).read in record { rises = omega (arith, p.rises); few = omega (arith, p.few, l) } }

-- ---- tokens

grows-took : {k : TokenKind} {r x : Rest} → Took k r x → Grows 0 12 r x
grows-took t = record { rises = omega (arith, t.next); few = omega (arith, t.next, fewer-took t) }

pub growing-mark : (o : Mark) → Growing 0 12 (mark o)
growing-mark o = record { holds = λ h. grows-took (took_mark o h) }

pub growing-mark_on : (line : ℕ) (o : Mark) → Growing 0 12 (mark_on line o)
growing-mark_on line o = record { holds = λ h. grows-took (took_mark_on line o h).took }

pub growing-keyword : (w : Keyword) → Growing 0 12 (keyword w)
growing-keyword w = record { holds = λ h. grows-took (took_keyword w h) }

pub growing-name : (n : Name) → Growing 0 12 (name n)
growing-name n = record { holds = λ h. grows-took (took_name n h).took }

pub growing-number : (n : Number) → Growing 0 12 (number n)
growing-number n = record { holds = λ h. grows-took (took_number n h).took }

pub growing-value : (value : ℤ) → Growing 0 12 (token (λ t. is_number value t.kind))
growing-value value = record { holds = λ h. grows-took (took_value value h) }

-- ---- what may be absent, and lists

grows-same : {r x : Rest} → r ≡ x → Grows 0 0 r x
grows-same e = let next = ap (λ (y : Rest). y.next) e in record { rises = omega (arith, next); few = omega (arith, next, ap (λ (y : Rest). length y.tokens) e) }

pub growing-optional : {A : Type 0} {k s : ℕ} (text : A → Reads) → ((a : A) → Growing k s (text a)) → (o : Option A) → Growing 0 0 (optional (option_map text o))
growing-optional text g None = record { holds = λ h. grows-same (some_same h.is) }
growing-optional text g (Some a) = record { holds = λ h. (growing-less 0 (omega arith) (g a)).holds (record { is = h.is }) }

pub all-of : {A : Type 0} {P : A → Type 0} → ((a : A) → P a) → (ts : List A) → AllByRecursion P ts
all-of f [] = tt
all-of f (a ∷ ts) = (f a, all-of f ts)

abbrev Grown : {A : Type 0} → ℕ → ℕ → (A → Reads) → A → Type 0
Grown k s text a = Growing k s (text a)

module _ {A : Type 0} (k s : ℕ) (text : A → Reads) where
  pub growing-each : (ts : List A) → AllByRecursion (Grown k s text) ts → Growing 0 0 (each (map text ts))
  growing-each [] all = record { holds = λ h. grows-same (some_same h.is) }
  growing-each (a ∷ ts) all = growing-less 0 (omega arith) (growing-then all.0 (growing-each ts all.1))

  pub growing-after_first : (ts : List A) → AllByRecursion (Grown k s text) ts → Growing 0 0 (after_first (map text ts))
  growing-after_first [] all = record { holds = λ h. grows-same (some_same h.is) }
  growing-after_first (a ∷ ts) all = growing-less 0 (omega arith) (growing-then (growing-mark m.Comma) (growing-then all.0 (growing-after_first ts all.1)))

  pub growing-separated : (ts : List A) → AllByRecursion (Grown k s text) ts → Growing 0 s (separated (map text ts))
  growing-separated [] all = record { holds = λ h. let nothing_read = h.is in absurd cc }
  growing-separated (a ∷ ts) all = record { holds = λ h. (growing-less s (omega arith) (growing-then all.0 (growing-after_first ts all.1))).holds (record { is = h.is }) }

  pub growing-list : (ts : List A) → AllByRecursion (Grown k s text) ts → Growing 0 0 (separated_if_any (map text ts))
  growing-list [] all = record { holds = λ h. grows-same (some_same h.is) }
  growing-list (a ∷ ts) all = record { holds = λ h. (growing-less 0 (omega arith) (growing-separated (a ∷ ts) all)).holds (record { is = h.is }) }
