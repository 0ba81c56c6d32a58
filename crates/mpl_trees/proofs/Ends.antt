-- What ends an expression, and that the whole of a row is taken before it.
use Rattle.std.proofs.Common.{◌≡◌, ℕ, zero, suc, ◌≤◌, List, [], ◌∷◌, ◌++◌, length, Some, None, false, refl, ap, sym, ◌∙◌, arith, append-nil}
use Rattle.std.specs.Option.{option_and_then, option_map}
use Rattle.mpl_ast.specs.declared.expression.Expression.{Expression}
use Rattle.mpl_ast.specs.declared.expression.Unary.{Unary}
use Rattle.mpl_ast.specs.declared.token.Mark.{Mark}
use Rattle.mpl_ast.specs.declared.token.Mark.TheVariants as m
use Rattle.mpl_ast.specs.declared.token.TokenKind.TheVariants as kind
use Rattle.mpl_mean.specs.Text.Reading.{Rest, is_mark}
use Rattle.mpl_trees.specs.Ahead.{count}
use Rattle.mpl_trees.specs.Expressions.{take_expression, take_unary}
use Rattle.mpl_trees.specs.Folds.{Row, next_expression, whole_row}
use Rattle.mpl_trees.specs.Rows.{more_pieces, piece_behind, reserved, take_joint, take_pieces, take_piece}
use Rattle.mpl_trees.specs.Taking.{Takes, is_ahead, start_of}
use Rattle.mpl_trees.proofs.Took.{Took, fewer-took, fits}
use Rattle.mpl_trees.proofs.Insides.{counts}
use Rattle.mpl_trees.proofs.Operators.{Follows, is_ahead-took, joint-took}
use Rattle.mpl_trees.proofs.Chains.{ClosedAhead, Joined, Part, done, join}
use Rattle.mpl_trees.specs.declared.piece.Piece.{Piece}
use Rattle.mpl_trees.specs.declared.piece.Sign.{Sign}
use Rattle.mpl_trees.specs.declared.position.Position.TheVariants.{Behind}

-- a mark that ends an expression
pub data IsEnd : Mark → Type 0 where
  parenthesis : IsEnd m.CloseParenthesis
  bracket : IsEnd m.CloseBracket
  comma : IsEnd m.Comma
  semicolon : IsEnd m.Semicolon

-- nothing that comes goes on with an expression
pub record Ends (x : Rest) : Type 0 where
  pub follows : Follows x
  pub over : (i : ℕ) → count i Behind x.tokens ≡ 0
  pub no_joint : take_joint x ≡ None
  pub no_assign : is_ahead (is_mark m.Assign) x.tokens ≡ false

pub ends-took : {o : Mark} {x y : Rest} → IsEnd o → Took (kind.Mark o) x y → Ends x
ends-took parenthesis t = record {
  follows = record { parenthesis = is_ahead-took (is_mark m.OpenParenthesis) t; bracket = is_ahead-took (is_mark m.OpenBracket) t; dot = is_ahead-took (is_mark m.Dot) t };
  over = λ i. counts Behind i t;
  no_joint = rw (t.first, t.kind) refl;
  no_assign = is_ahead-took (is_mark m.Assign) t;
}
ends-took bracket t = record {
  follows = record { parenthesis = is_ahead-took (is_mark m.OpenParenthesis) t; bracket = is_ahead-took (is_mark m.OpenBracket) t; dot = is_ahead-took (is_mark m.Dot) t };
  over = λ i. counts Behind i t;
  no_joint = rw (t.first, t.kind) refl;
  no_assign = is_ahead-took (is_mark m.Assign) t;
}
ends-took comma t = record {
  follows = record { parenthesis = is_ahead-took (is_mark m.OpenParenthesis) t; bracket = is_ahead-took (is_mark m.OpenBracket) t; dot = is_ahead-took (is_mark m.Dot) t };
  over = λ i. counts Behind i t;
  no_joint = rw (t.first, t.kind) refl;
  no_assign = is_ahead-took (is_mark m.Assign) t;
}
ends-took semicolon t = record {
  follows = record { parenthesis = is_ahead-took (is_mark m.OpenParenthesis) t; bracket = is_ahead-took (is_mark m.OpenBracket) t; dot = is_ahead-took (is_mark m.Dot) t };
  over = λ i. counts Behind i t;
  no_joint = rw (t.first, t.kind) refl;
  no_assign = is_ahead-took (is_mark m.Assign) t;
}

-- ---- the whole row

pieces-none : (limit : ℕ) (unary : Takes Unary) (n : ℕ) (x : Rest) → take_joint x ≡ None → more_pieces unary n limit x ≡ Some ([], x)
pieces-none limit unary zero x e = refl
pieces-none limit unary (suc n) x e = ap (λ j. piece_behind unary (more_pieces unary n) j limit x) e

piece_same : (p q : Piece) → p.sign ≡ q.sign → p.start ≡ q.start → p.unary ≡ q.unary → p.to ≡ q.to → p ≡ q
piece_same p q e f g h =
    ap (λ s. record p { sign = s }) e ∙ ap (λ s. record p { sign = q.sign; start = s }) f ∙ ap (λ u. record q { unary = u; to = p.to }) g ∙ ap (λ t. record q { to = t }) h

abbrev finish : Sign → Rest → Unary × Rest → Piece × Rest
finish sign q w = (record { sign = Some sign; start = start_of q; unary = w.0; to = w.1.last }, w.1)

pub pieces-taken : {limit : ℕ} (d n : ℕ) {ps : List Piece} {r x : Rest} → Joined limit ps r x → take_joint x ≡ None → length r.tokens ≤ d → length r.tokens ≤ n → more_pieces (take_unary d) n limit r ≡ Some (ps, x)
pieces-taken {limit = limit} d n (done y) e h k = pieces-none limit (take_unary d) n y e
pieces-taken d zero (join o level p t is s f j) e h k = let none : 1 ≤ 0 = omega (arith, k, fewer-took t) in absurd (omega (arith, none))
pieces-taken {limit = limit} d (suc n) {ps = p ∷ ps} {r = r} {x = x} (join o level _ {n = q} {y = y} t is s f j) e h k =
    let sign : Sign = record { line = t.token.line; mark = o } in
    let made : Piece = record { sign = Some sign; start = start_of q; unary = p.unary; to = y.last } in
    let same : made ≡ p = piece_same made p (sym s) f.start_is refl f.to_is in
    let one : take_piece (take_unary d) level (Some sign) limit q ≡ Some (p, y) =
    ap (λ o. option_map (finish sign q) (option_and_then (take_unary d limit) o)) (fits limit (reserved level q) f.numbered)
    ∙ ap (option_map (finish sign q)) (f.taken d (omega (arith, h, fewer-took t))) ∙ ap (λ p. Some (p, y)) same in
    let more = pieces-taken d n j e (omega (arith, h, fewer-took t, f.fewer)) (omega (arith, k, fewer-took t, f.fewer)) in
    ap (λ j. piece_behind (take_unary d) (more_pieces (take_unary d) n) j limit r) (joint-took is t)
    ∙ ap (option_and_then (λ (a : Piece × Rest). option_map (λ (b : List Piece × Rest). (a.0 ∷ b.0, b.1)) (more_pieces (take_unary d) n limit a.1))) one
    ∙ ap (option_map (λ (b : List Piece × Rest). (p ∷ b.0, b.1))) more

-- what ends an expression closes all levels
pub closed_ahead : (level : ℕ) {x : Rest} → Ends x → ClosedAhead level x
closed_ahead level e = record { none = λ i h. e.over i }

pub expression-taken : {limit : ℕ} (d : ℕ) {t : Expression} {r x : Rest} → Part limit 6 next_expression t r x → Ends x → length r.tokens ≤ d → take_expression d limit r ≡ Some (t, x)
expression-taken {limit = limit} d {t = t} {r = r} {x = x} p e h =
    let piece : Piece = record { sign = None; start = start_of r; unary = p.first; to = p.mid.last } in
    let finish : Unary × Rest → Piece × Rest = λ w. (record { sign = None; start = start_of r; unary = w.0; to = w.1.last }, w.1) in
    let one : take_piece (take_unary d) 6 None limit r ≡ Some (piece, p.mid) =
    ap (λ o. option_map finish (option_and_then (take_unary d limit) o)) (fits limit (reserved 6 r) p.numbered) ∙ ap (option_map finish) (p.opens d h) in
    let more = pieces-taken d (length r.tokens) p.joined e.no_joint (omega (arith, h, p.fewer)) p.fewer in
    let pieces : take_pieces (take_unary d) limit r ≡ Some (piece ∷ p.more, x) =
    ap (option_and_then (λ (a : Piece × Rest). option_map (λ (b : List Piece × Rest). (a.0 ∷ b.0, b.1)) (more_pieces (take_unary d) (length r.tokens) limit a.1))) one
    ∙ ap (option_map (λ (b : List Piece × Rest). (piece ∷ b.0, b.1))) more in
    let folded : next_expression limit (start_of r) (record { pieces = piece ∷ p.more ++ []; last = 0 }) ≡ Some (t, record { pieces = []; last = x.last }) =
    p.folds piece [] 0 refl refl (record { none = λ i h. refl }) in
    let row : whole_row limit (start_of r) (piece ∷ p.more) ≡ Some t =
    ap (λ ps. whole_row limit (start_of r) (piece ∷ ps)) (sym (append-nil p.more)) ∙ ap (option_map (λ (q : Expression × Row). q.0)) folded in
    ap (option_and_then (λ (q : List Piece × Rest). option_map (λ (e : Expression). (e, q.1)) (whole_row limit (start_of r) q.0))) pieces
    ∙ ap (option_map (λ (e : Expression). (e, x))) row
