-- Operands in a row, and the trees of a level that they are folded into.
use Rattle.std.proofs.Common.{◌≡◌, ℕ, suc, ◌+◌, ◌<◌, ◌≤◌, List, [], ◌∷◌, ◌++◌, length, Option, Some, None, Bool, if◌then◌else◌, refl, ap, sym, ◌∙◌, subst, arith, append_assoc}
use Rattle.std.specs.Option.{option_and_then, option_map}
use Rattle.std.proofs.lemmas.Bool.{le-leb}
use Rattle.mpl_ast.specs.declared.expression.Unary.{Unary}
use Rattle.mpl_ast.specs.declared.place.At.{At}
use Rattle.mpl_ast.specs.declared.token.Mark.{Mark}
use Rattle.mpl_ast.specs.declared.token.TokenKind.TheVariants as kind
use Rattle.mpl_mean.specs.Text.Reading.{Rest}
use Rattle.mpl_trees.specs.Ahead.{count, lead, tally}
use Rattle.mpl_trees.specs.Expressions.{take_unary}
use Rattle.mpl_trees.specs.Folds.{Folds, Grade, Row, chain, chained, count_pieces, next_expression, next_unary, one_of, operators_in}
use Rattle.mpl_trees.specs.Folds as fold
use Rattle.mpl_trees.specs.Rows.{reserved}
use Rattle.mpl_trees.specs.Taking.{inner, inside, line_of, place, start_of}
use Rattle.mpl_trees.proofs.Took.{Took, TookMark}
use Rattle.mpl_trees.proofs.Operators.{IsOperator, facts, operator-counted, tally-higher, tally-lower, tally-same}
use Rattle.mpl_trees.specs.declared.piece.Piece.{Piece}
use Rattle.mpl_trees.specs.declared.position.Position.TheVariants.{Before, Behind}

-- ---- rows

-- an operand behind an operator of the level
pub record Operand (limit level : ℕ) (p : Piece) (n y : Rest) : Type 0 where
  pub taken : (d : ℕ) → length n.tokens ≤ d → take_unary d limit (reserved level n) ≡ Some (p.unary, y)
  pub numbered : n.next + lead level n.tokens ≤ limit
  pub start_is : start_of n ≡ p.start
  pub to_is : y.last ≡ p.to
  pub fewer : length y.tokens ≤ length n.tokens

-- what of a row stands from one place to another, with an operator before each operand
pub data Joined (limit : ℕ) : List Piece → Rest → Rest → Type 0 where
  done : (x : Rest) → Joined limit [] x x
  join : (o : Mark) (level : ℕ) (p : Piece) {ps : List Piece} {m n y x : Rest} (t : Took (kind.Mark o) m n) → IsOperator level o → p.sign ≡ Some (record { line = t.token.line; mark = o }) → Operand limit level p n y → Joined limit ps y x → Joined limit (p ∷ ps) m x

pub joined-append : {limit : ℕ} {ps qs : List Piece} {r m x : Rest} → Joined limit ps r m → Joined limit qs m x → Joined limit (ps ++ qs) r x
joined-append (done y) q = q
joined-append (join o level p t i e f j) q = join o level p t i e f (joined-append j q)

-- ---- what a level sees of what follows

-- no operator of a lower level comes first
pub record ClosedAhead (level : ℕ) (x : Rest) : Type 0 where
  pub none : (i : ℕ) → i < level → count i Behind x.tokens ≡ 0

pub record Closed (level : ℕ) (ps : List Piece) : Type 0 where
  pub none : (i : ℕ) → i < level → count_pieces i ps ≡ 0

-- A part of a level, from one place to another: its first operand, behind the numbers of the nodes that begin with it, the
-- others, and that it is what is folded from them.
pub record Part (limit level : ℕ) {C : Type 0} (take : Folds C) (c : C) (r x : Rest) : Type 0 where
  pub first : Unary
  pub mid : Rest
  pub more : List Piece
  pub opens : (d : ℕ) → length r.tokens ≤ d → take_unary d limit (reserved level r) ≡ Some (first, mid)
  pub numbered : r.next + lead level r.tokens ≤ limit
  pub joined : Joined limit more mid x
  pub fewer : length mid.tokens ≤ length r.tokens
  pub moves : (i : ℕ) → level ≤ i → count i Before r.tokens ≡ count i Behind x.tokens
  pub tallies : (i : ℕ) (after : List Piece) → level ≤ i → count_pieces i (more ++ after) ≡ count_pieces i after
  pub folds : (p : Piece) (after : List Piece) (last : ℕ) → p.unary ≡ first → p.to ≡ mid.last → Closed level after
      → take limit (start_of r) (record { pieces = p ∷ more ++ after; last = last }) ≡ Some (c, record { pieces = after; last = x.last })

-- A tree of a level, with its operators of this level.
pub record Chain (limit level : ℕ) {C T O : Type 0} (g : Grade C T O) (part : Folds C) (t : T) (r x : Rest) : Type 0 where
  pub operators : ℕ
  pub first : Unary
  pub mid : Rest
  pub more : List Piece
  pub opens : (d : ℕ) → length r.tokens ≤ d → take_unary d limit (record r { next = r.next + (lead level r.tokens + suc operators) }) ≡ Some (first, mid)
  pub numbered : r.next + (lead level r.tokens + suc operators) ≤ limit
  pub joined : Joined limit more mid x
  pub fewer : length mid.tokens ≤ length r.tokens
  pub moves : (i : ℕ) → level < i → count i Before r.tokens ≡ count i Behind x.tokens
  pub counted : count level Before r.tokens ≡ operators + count level Behind x.tokens
  pub tallies : (i : ℕ) (after : List Piece) → level < i → count_pieces i (more ++ after) ≡ count_pieces i after
  pub tallied : (after : List Piece) → count_pieces level (more ++ after) ≡ operators + count_pieces level after
  pub folds : (p : Piece) (after : List Piece) (last : ℕ) → p.unary ≡ first → p.to ≡ mid.last → Closed level after
      → chain g part operators limit (start_of r) (record { pieces = p ∷ more ++ after; last = last }) ≡ Some (t, record { pieces = after; last = x.last })

-- ---- a tree is a part of the next level

at_number : (limit d : ℕ) (r : Rest) (a b : ℕ) {u : Unary} {m : Rest} → a ≡ b → take_unary d limit (record r { next = a }) ≡ Some (u, m) → take_unary d limit (record r { next = b }) ≡ Some (u, m)
at_number limit d r a b {u = u} {m = m} e h = subst (λ n. take_unary d limit (record r { next = n }) ≡ Some (u, m)) e h

pub part-of : {limit level : ℕ} {C T O : Type 0} {g : Grade C T O} {part : Folds C} {t : T} {r x : Rest} → Chain limit level g part t r x → count level Behind x.tokens ≡ 0 → Part limit (suc level) (chained level g part) t r x
part-of {limit = limit} {level = level} {g = g} {part = part} {t = t} {r = r} {x = x} c none = record {
  first = c.first;
  mid = c.mid;
  more = c.more;
  opens = λ d h. at_number limit d r (r.next + (lead level r.tokens + suc c.operators)) (r.next + (lead level r.tokens + (count level Before r.tokens + 1))) (omega (arith, c.counted, none)) (c.opens d h);
  numbered = omega (arith, c.counted, none, c.numbered);
  joined = c.joined;
  fewer = c.fewer;
  moves = λ i h. c.moves i (omega (arith, h));
  tallies = λ i after h. c.tallies i after (omega (arith, h));
  folds = λ p after last e f closed.
      let all : count_pieces level (c.more ++ after) ≡ c.operators = omega (arith, c.tallied after, closed.none level (omega arith)) in
      let row : Row = record { pieces = p ∷ c.more ++ after; last = last } in
      ap (λ n. chain g part n limit (start_of r) row) all ∙ c.folds p after last e f (record { none = λ i h. closed.none i (omega (arith, h)) });
}

-- ---- one part alone

-- the number of the node within
inner_is : (limit : ℕ) (r : Rest) → r.next + 1 ≤ limit → inner limit (start_of r) ≡ Some (start_of (inside r))
inner_is limit r h = ap (λ (b : Bool). if b then Some (start_of (inside r)) else None) (le-leb (r.next + 1) limit h)

pub chain-one : {limit level : ℕ} {C T O : Type 0} {part : Folds C} (g : Grade C T O) (at : At) {c : C} {r x : Rest} → place (start_of r) x.last ≡ at → Part limit level part c (inside r) x → Chain limit level g part (g.one at c) r x
chain-one {limit = limit} {level = level} {part = part} g at {c = c} {r = r} {x = x} e p = record {
  operators = 0;
  first = p.first;
  mid = p.mid;
  more = p.more;
  opens = λ d h. at_number limit d r (r.next + 1 + lead level r.tokens) (r.next + (lead level r.tokens + 1)) (omega arith) (p.opens d h);
  numbered = omega (arith, p.numbered);
  joined = p.joined;
  fewer = p.fewer;
  moves = λ i h. p.moves i (omega (arith, h));
  counted = p.moves level (omega arith) ∙ omega arith;
  tallies = λ i after h. p.tallies i after (omega (arith, h));
  tallied = λ after. p.tallies level after (omega arith) ∙ omega arith;
  folds = λ q after last f h closed.
      let row : Row = record { pieces = q ∷ p.more ++ after; last = last } in
      ap (λ s. one_of g (start_of r) (option_and_then (λ i. part limit i row) s)) (inner_is limit r (omega (arith, p.numbered)))
      ∙ ap (one_of g (start_of r)) (p.folds q after last f h closed) ∙ ap (λ at. Some (g.one at c, record { pieces = after; last = x.last })) e;
}

-- ---- two parts with an operator between them

pub chain-more : {limit level : ℕ} {C T O : Type 0} {part : Folds C} (g : Grade C T O) (at : At) (line : ℕ) (o : O) (mark : Mark) {l : T} {c : C} {r m n x : Rest} → IsOperator level mark → g.operator mark ≡ Some o
    → place (start_of r) x.last ≡ at → Chain limit level g part l (inside r) m → TookMark line mark m n → Part limit level part c n x → Chain limit level g part (g.more at line l o c) r x
chain-more {limit = limit} {level = level} {C = C} {T = T} {part = part} g at line o mark {l = l} {c = c} {r = r} {m = m} {n = n} {x = x} is found e a b p = record {
  operators = suc a.operators;
  first = a.first;
  mid = a.mid;
  more = a.more ++ piece ∷ p.more;
  opens = λ d h. at_number limit d r (r.next + 1 + (lead level r.tokens + suc a.operators)) (r.next + (lead level r.tokens + suc (suc a.operators))) (omega arith) (a.opens d h);
  numbered = omega (arith, a.numbered);
  joined = joined-append a.joined (join mark level piece b.took is refl (record { taken = p.opens; numbered = p.numbered; start_is = refl; to_is = refl; fewer = p.fewer }) p.joined);
  fewer = a.fewer;
  moves = λ i h. a.moves i h ∙ operator-counted i is b.took ∙ tally-lower i level (count i Before n.tokens) h ∙ p.moves i (omega (arith, h));
  counted = omega (arith, a.counted, operator-counted level is b.took, tally-same level (count level Before n.tokens), p.moves level (omega arith));
  tallies = λ i after h.
      ap (count_pieces i) (append_assoc a.more (piece ∷ p.more) after) ∙ a.tallies i (piece ∷ p.more ++ after) h ∙ tally_piece i (p.more ++ after)
      ∙ tally-lower i level (count_pieces i (p.more ++ after)) h ∙ p.tallies i after (omega (arith, h));
  tallied = λ after.
      ap (count_pieces level) (append_assoc a.more (piece ∷ p.more) after)
      ∙ omega (arith, a.tallied (piece ∷ p.more ++ after), tally_piece level (p.more ++ after), tally-same level (count_pieces level (p.more ++ after)), p.tallies level after (omega arith));
  folds = λ q after last f h closed.
      let behind : List Piece = piece ∷ p.more ++ after in
      let whole : List Piece → Option (T × Row) = λ ps. chain g part (suc a.operators) limit (start_of r) (record { pieces = q ∷ ps; last = last }) in
      let row : Row = record { pieces = q ∷ a.more ++ behind; last = last } in
      let lower : Closed level behind = record { none = λ i k. tally_piece i (p.more ++ after) ∙ tally-higher i level (count_pieces i (p.more ++ after)) k } in
      let right = p.folds piece after m.last refl refl closed in
      ap whole (append_assoc a.more (piece ∷ p.more) after)
      ∙ ap (λ s. fold.more_of g part limit (start_of r) (option_and_then (λ i. chain g part a.operators limit i row) s)) (inner_is limit r (omega (arith, a.numbered)))
      ∙ ap (fold.more_of g part limit (start_of r)) (a.folds q behind last f h lower)
      ∙ ap (option_and_then (λ o. option_map (λ (k : C × Row). (g.more (place (start_of r) k.1.last) b.took.token.line l o k.0, k.1)) (part limit (start_of n) (record { pieces = behind; last = m.last })))) found
      ∙ ap (option_map (λ (k : C × Row). (g.more (place (start_of r) k.1.last) b.took.token.line l o k.0, k.1))) right
      ∙ ap (λ at. Some (g.more at b.took.token.line l o c, record { pieces = after; last = x.last })) e
      ∙ ap (λ line. Some (g.more at line l o c, record { pieces = after; last = x.last })) (sym (ap line_of b.took.first) ∙ b.line_is);
} where
  piece : Piece
  piece = record { sign = Some (record { line = b.took.token.line; mark = mark }); start = start_of n; unary = p.first; to = p.mid.last }

  tally_piece : (i : ℕ) (ps : List Piece) → count_pieces i (piece ∷ ps) ≡ tally i (Some level) (count_pieces i ps)
  tally_piece i ps = ap (λ l. tally i l (count_pieces i ps)) (facts is).level

-- ---- one operand

pub part-unary : {limit : ℕ} {u : Unary} {r x : Rest} → ((d : ℕ) → length r.tokens ≤ d → take_unary d limit r ≡ Some (u, x)) → r.next ≤ limit → length x.tokens ≤ length r.tokens → ((i : ℕ) → count i Before r.tokens ≡ count i Behind x.tokens)
    → Part limit 0 next_unary u r x
part-unary {limit = limit} {u = u} {r = r} {x = x} taken numbered fewer moves = record {
  first = u;
  mid = x;
  more = [];
  opens = λ d h. at_number limit d r r.next (r.next + 0) (omega arith) (taken d h);
  numbered = omega (arith, numbered);
  joined = done x;
  fewer = fewer;
  moves = λ i h. moves i;
  tallies = λ i after h. refl;
  folds = λ p after last e f closed. ap (λ u. Some (u, record { pieces = after; last = p.to })) e ∙ ap (λ to. Some (u, record { pieces = after; last = to })) f;
}
