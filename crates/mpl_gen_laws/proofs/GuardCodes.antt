-- The codes of guards compute on words and jump forward.
use Rattle.std.proofs.Common.{◌≡◌, ℕ, suc, ◌+◌, Bool, true, false, ◌&&◌, List, [], ◌∷◌, ◌++◌, length, Option, Some, None, refl, ap, sym, subst, arith, ◌∙◌}
use Rattle.std.proofs.lemmas.Bool.{lt-ltb}
use Rattle.mpl_ast.specs.declared.expression.EqualityOperator.{EqualityOperator}
use Rattle.mpl_ast.specs.declared.expression.EqualityOperator.TheVariants as equality
use Rattle.mpl_ast.specs.declared.expression.RelationOperator.{RelationOperator}
use Rattle.mpl_ast.specs.declared.expression.RelationOperator.TheVariants as relation
use Rattle.mpl_ast.specs.declared.expression.SumOperator.{SumOperator}
use Rattle.mpl_ast.specs.declared.expression.SumOperator.TheVariants as sum
use Rattle.mpl_ast.specs.declared.expression.TermOperator.{TermOperator}
use Rattle.mpl_ast.specs.declared.expression.TermOperator.TheVariants as term
use Rattle.mpl_ast.specs.declared.expression.UnaryOperator.{UnaryOperator}
use Rattle.mpl_ast.specs.declared.expression.UnaryOperator.TheVariants as unary
use Rattle.mpl_ast.specs.declared.program.Declaration.{Declaration}
use Rattle.mpl_value.specs.Words.{bool_word}
use Rattle.mpl_mean.specs.Levels.{BinaryOperator, Or, And, Equate, Compare, Add, Multiply}
use Rattle.mpl_mean.specs.Meaning.CallMeaning.{name_of_target}
use Rattle.mpl_mean.specs.Meaning.Layout.{Class, Member}
use Rattle.mpl_mean.specs.Plain.Expr.{Expr}
use Rattle.mpl_mean.specs.Plain.Expr as e
use Rattle.mdf_code.specs.Images.{is_guard_from, stands_in_guard}
use Rattle.mdf_code.specs.declared.instr.Instr.{Instr}
use Rattle.mdf_code.specs.declared.instr.Instr.TheVariants as instr
use Rattle.mpl_gen_code.specs.ExpressionCode.{binary_code, element_from, element_of, equality_instr, load_from, load_of, need_of, read_code, relation_instr, sum_instr, term_instr, unary_instr, value_code}
use Rattle.mpl_gen_code.specs.Pieces.{Piece, either, followed_by, joined, one}
use Rattle.mpl_gen_code.specs.ProgramImage.{guard_env}
use Rattle.mpl_gen_code.specs.Scopes.{Env, Found, Slot, found_at, whole_slot}
use Rattle.mpl_gen_code.specs.Words.{words_of_expr}
use Rattle.mpl_gen_code.proofs.Expressions.{place_value}
use Rattle.mpl_gen_laws.proofs.GuardForms.{Pure}

-- wherever it stands
abbrev Guards : Piece → Type 0
Guards piece = (p : ℕ) → is_guard_from p (piece p) ≡ true

abbrev Stands : Instr → Type 0
Stands i = (p : ℕ) → stands_in_guard p i ≡ true

both_guard : (p : ℕ) (a b : List Instr) → is_guard_from p a ≡ true → is_guard_from (p + length a) b ≡ true → is_guard_from p (a ++ b) ≡ true
both_guard p [] b h k = subst (λ n. is_guard_from n b ≡ true) (let z : p + 0 ≡ p = omega arith in z) k
both_guard p (i ∷ a) b h k = by_first (stands_in_guard p i) h (both_guard (p + 1) a b) where
  by_first : (t : Bool) → (t && is_guard_from (p + 1) a) ≡ true
      → (is_guard_from (p + 1) a ≡ true → is_guard_from (p + 1 + length a) b ≡ true → is_guard_from (p + 1) (a ++ b) ≡ true) → (t && is_guard_from (p + 1) (a ++ b)) ≡ true
  by_first true h again = again h (subst (λ n. is_guard_from n b ≡ true) (let z : p + suc (length a) ≡ p + 1 + length a = omega arith in z) k)
  by_first false h again = absurd cc

one_guard : (i : Instr) → Stands i → (p : ℕ) → is_guard_from p (i ∷ []) ≡ true
one_guard i h p = ap (λ t. t && true) (h p)

joined_guard : (a b : Piece) → Guards a → Guards b → Guards (joined a b)
joined_guard a b h k p = both_guard p (a p) (b (p + length (a p))) (h p) (k (p + length (a p)))

followed_guard : (a : Piece) (i : Instr) → Guards a → Stands i → Guards (followed_by a i)
followed_guard a i h k p = both_guard p (a p) (i ∷ []) (h p) (one_guard i k (p + length (a p)))

either_guard : (a b : Piece) → Guards a → Guards b → Guards (either a b)
either_guard a b h k p =
    let c = length (a (p + 1)) in
    let o = p + 1 + c + 1 in
    ap (λ t. t && is_guard_from (p + 1) (a (p + 1) ++ (instr.Jump (o + length (b o)) ∷ b o))) (lt-ltb p o (omega arith))
    ∙ both_guard (p + 1) (a (p + 1)) (instr.Jump (o + length (b o)) ∷ b o) (h (p + 1))
    (ap (λ t. t && is_guard_from (p + 1 + c + 1) (b o)) (lt-ltb (p + 1 + c) (o + length (b o)) (omega arith)) ∙ k o)

load_stands : (found : Found) (slot : Option Slot) → Stands (load_from found slot)
load_stands found None p = refl
load_stands found (Some slot) p = refl

element_stands : (line : ℕ) (found : Found) (slot : Option Slot) → Stands (element_from line found slot)
element_stands line found None p = refl
element_stands line found (Some slot) p = refl

unary_stands : (line : ℕ) (o : UnaryOperator) → Stands (unary_instr line o)
unary_stands line unary.Negative p = refl
unary_stands line unary.Not p = refl

equality_stands : (o : EqualityOperator) → Stands (equality_instr o)
equality_stands equality.Equal p = refl
equality_stands equality.Unequal p = refl

relation_stands : (o : RelationOperator) → Stands (relation_instr o)
relation_stands relation.Less p = refl
relation_stands relation.LessEqual p = refl
relation_stands relation.Greater p = refl
relation_stands relation.GreaterEqual p = refl

sum_stands : (line : ℕ) (o : SumOperator) → Stands (sum_instr line o)
sum_stands line sum.Plus p = refl
sum_stands line sum.Minus p = refl

term_stands : (line : ℕ) (o : TermOperator) → Stands (term_instr line o)
term_stands line term.Times p = refl
term_stands line term.Over p = refl
term_stands line term.Modulo p = refl

both_operands : (l r : Piece) (i : Instr) → Guards l → Guards r → Stands i → Guards (joined l (followed_by r i))
both_operands l r i h k s = joined_guard l (followed_by r i) h (followed_guard r i k s)

binary_guard : (line : ℕ) (o : BinaryOperator) (l r : Piece) → Guards l → Guards r → Guards (binary_code line o l r)
binary_guard line Or l r h k = joined_guard l (either (one (instr.Push (bool_word true))) r) h (either_guard (one (instr.Push (bool_word true))) r (λ p. refl) k)
binary_guard line And l r h k = joined_guard l (either r (one (instr.Push (bool_word false)))) h (either_guard r (one (instr.Push (bool_word false))) k (λ p. refl))
binary_guard line (Equate o) l r h k = both_operands l r (equality_instr o) h k (equality_stands o)
binary_guard line (Compare o) l r h k = both_operands l r (relation_instr o) h k (relation_stands o)
binary_guard line (Add o) l r h k = both_operands l r (sum_instr line o) h k (sum_stands line o)
binary_guard line (Multiply o) l r h k = both_operands l r (term_instr line o) h k (term_stands line o)

need_guard : (o : Option Found) → Guards (need_of false o)
need_guard None p = refl
need_guard (Some found) p = refl

load_guard : (o : Option Found) → Guards (load_of o)
load_guard None p = refl
load_guard (Some found) p = one_guard (load_from found found.slot) (load_stands found found.slot) p

element_guard : (line : ℕ) (o : Option Found) → Guards (element_of line o)
element_guard line None p = refl
element_guard line (Some found) p = one_guard (element_from line found found.slot) (element_stands line found found.slot) p

module _ (ds : List Declaration) (class : Class) (m : Member) where
  abbrev env : Env
  env = guard_env ds class m

  pub pure_guard : (t : Expr) → Pure t → Guards (value_code env t)
  pure_guard (e.Number at z) h p = refl
  pure_guard (e.Truth at b) h p = refl
  pure_guard (e.Own at) h p = absurd h
  pure_guard (e.Input at) h p = absurd h
  pure_guard (e.Whole at target) h p =
      subst (λ (piece : Piece). is_guard_from p (piece p) ≡ true) (sym (place_value (whole_slot env (name_of_target target)) (words_of_expr env (e.Whole at target)) (read_code false (found_at env target))))
      (joined_guard (need_of false (found_at env target)) (load_of (found_at env target)) (need_guard (found_at env target)) (load_guard (found_at env target)) p)
  pure_guard (e.Element at line target index) h p =
      joined_guard (need_of false (found_at env target)) (joined (value_code env index) (element_of line (found_at env target))) (need_guard (found_at env target))
      (joined_guard (value_code env index) (element_of line (found_at env target)) (pure_guard index h) (element_guard line (found_at env target))) p
  pure_guard (e.PlainCall at function arguments) h p = absurd h
  pure_guard (e.Parenthesized at inner) h p = pure_guard inner h p
  pure_guard (e.Unary at line operator operand) h p = followed_guard (value_code env operand) (unary_instr line operator) (pure_guard operand h) (unary_stands line operator) p
  pure_guard (e.Binary at line operator left right) h p = binary_guard line operator (value_code env left) (value_code env right) (pure_guard left h.0) (pure_guard right h.1) p
  pure_guard (e.CallOnOwn at member arguments) h p = absurd h
  pure_guard (e.CallOnTarget at target member arguments) h p = absurd h
