-- Expressions, places, flows and calls of worked programs, each with what the type rules see of it. Of where a node stands
-- only its first byte is written: the type rules ask for nothing else.
use Rattle.std.proofs.Common.{ℕ, List, pos, true}
use Rattle.std.specs.Prelude.{codes}
use Prim.Native.String.{String}
use Rattle.mpl_ast.specs.declared.expression.Conjunction.{roll-Conjunction, fold-roll-Conjunction}
use Rattle.mpl_ast.specs.declared.expression.Equality.{roll-Equality, fold-roll-Equality}
use Rattle.mpl_ast.specs.declared.expression.Expression.{roll-Expression, fold-roll-Expression}
use Rattle.mpl_ast.specs.declared.expression.Place.{roll-Place, fold-roll-Place}
use Rattle.mpl_ast.specs.declared.expression.Primary.{roll-Primary, fold-roll-Primary}
use Rattle.mpl_ast.specs.declared.expression.Relation.{roll-Relation, fold-roll-Relation}
use Rattle.mpl_ast.specs.declared.expression.Sum.{roll-Sum, fold-roll-Sum}
use Rattle.mpl_ast.specs.declared.expression.SumOperator.TheVariants.{Plus, Minus}
use Rattle.mpl_ast.specs.declared.expression.Term.{roll-Term, fold-roll-Term}
use Rattle.mpl_ast.specs.declared.expression.TermOperator.TheVariants.{Times}
use Rattle.mpl_ast.specs.declared.expression.Unary.{roll-Unary, fold-roll-Unary}
use Rattle.mpl_ast.specs.declared.expression.UnaryOperator.TheVariants.{Not}
use Rattle.mpl_ast.specs.declared.expression.EqualityOperator.TheVariants.{Equal}
use Rattle.mpl_ast.specs.declared.expression.RelationOperator.TheVariants.{Less}
use Rattle.mpl_ast.specs.declared.expression.Conjunction.TheOpen.{Conjunction-F, Equality-F, Expression-F, Place-F, Primary-F, Relation-F, Sum-F, Term-F, Unary-F}
use Rattle.mpl_ast.specs.declared.expression.Target.{Target}
use Rattle.mpl_ast.specs.declared.expression.Target.TheVariants as target
use Rattle.mpl_ast.specs.declared.flow.Call.{roll-Call, fold-roll-Call}
use Rattle.mpl_ast.specs.declared.flow.Flow.{roll-Flow, fold-roll-Flow}
use Rattle.mpl_ast.specs.declared.flow.Call.TheOpen.{Call-F, Flow-F}
use Rattle.mpl_ast.specs.declared.place.At.{At}
use Rattle.mpl_ast.specs.declared.place.Name.{Name}
use Rattle.mpl_mean.specs.Levels.{Add, Compare, Equate, Multiply}
use Rattle.mpl_mean.specs.Plain.Expr.{Expr, listed, expr_of, expr_of_place, expr_of_flow, expr_of_call}
use Rattle.mpl_mean.specs.Plain.Expr as expr
use Rattle.mpl_mean.specs.FirstForms.ExpressionLevels.{expr_of_equality, expr_of_primary, expr_of_relation, expr_of_sum, expr_of_term, expr_of_unary}
use Rattle.mpl_mean.proofs.SmallPrograms.Shown.{Shown, all_trees, all_seen, seen_each}

abbrev pub at : ℕ → At
at from = record { span = record { from = from; to = from }; line = 1; id = 0 }

abbrev pub name : ℕ → String → Name
name from text = record { from = from; text = codes text }

-- what a fold makes of each layer
ruleset layers = (fold-roll-Expression, fold-roll-Conjunction, fold-roll-Equality, fold-roll-Relation, fold-roll-Sum, fold-roll-Term, fold-roll-Unary, fold-roll-Primary, fold-roll-Place, fold-roll-Flow, fold-roll-Call)

-- ---- the levels

abbrev pub as_unary : ℕ → Shown expr_of_primary → Shown expr_of_unary
as_unary from p = record { tree = roll-Unary (Unary-F.OnePrimary (at from) p.tree); seen = p.seen; is = simp (layers, p.is) }

abbrev pub in_term : ℕ → Shown expr_of_unary → Shown expr_of_term
in_term from u = record { tree = roll-Term (Term-F.OneUnary (at from) u.tree); seen = u.seen; is = simp (layers, u.is) }

abbrev pub as_term : ℕ → Shown expr_of_primary → Shown expr_of_term
as_term from p = in_term from (as_unary from p)

abbrev pub to_sum : ℕ → Shown expr_of_term → Shown expr_of_sum
to_sum from t = record { tree = roll-Sum (Sum-F.OneTerm (at from) t.tree); seen = t.seen; is = simp (layers, t.is) }

abbrev pub as_sum : ℕ → Shown expr_of_primary → Shown expr_of_sum
as_sum from p = to_sum from (as_term from p)

abbrev pub as_relation : ℕ → Shown expr_of_primary → Shown expr_of_relation
as_relation from p =
    let s = as_sum from p in record { tree = roll-Relation (Relation-F.OneSum (at from) s.tree); seen = p.seen; is = simp (layers, p.is) }

abbrev pub as_equality : ℕ → Shown expr_of_primary → Shown expr_of_equality
as_equality from p =
    let r = as_relation from p in record { tree = roll-Equality (Equality-F.OneRelation (at from) r.tree); seen = p.seen; is = simp (layers, p.is) }

abbrev pub in_equality : ℕ → Shown expr_of_equality → Shown expr_of
in_equality from e = record {
  tree = roll-Expression (Expression-F.OneConjunction (at from) (roll-Conjunction (Conjunction-F.OneEquality (at from) e.tree)));
  seen = e.seen;
  is = simp (layers, e.is);
}

abbrev pub in_relation : ℕ → Shown expr_of_relation → Shown expr_of
in_relation from r = in_equality from (record { tree = roll-Equality (Equality-F.OneRelation (at from) r.tree); seen = r.seen; is = simp (layers, r.is) })

abbrev pub in_sum : ℕ → Shown expr_of_sum → Shown expr_of
in_sum from s = in_relation from (record { tree = roll-Relation (Relation-F.OneSum (at from) s.tree); seen = s.seen; is = simp (layers, s.is) })

abbrev pub as_expression : ℕ → Shown expr_of_primary → Shown expr_of
as_expression from p = in_sum from (as_sum from p)

-- ---- primaries, places and operators

abbrev pub variable : ℕ → String → Target
variable from text = target.Variable (at from) (name from text)

abbrev pub field : ℕ → String → ℕ → String → Target
field from text field_from field_text = target.Field (at from) (name from text) (name field_from field_text)

abbrev pub whole : ℕ → Target → Shown expr_of_place
whole from t = record { tree = roll-Place (Place-F.Whole (at from) t); seen = expr.Whole (at from) t; is = simp layers }

abbrev pub element : ℕ → Target → Shown expr_of → Shown expr_of_place
element from t index = record {
  tree = roll-Place (Place-F.Element (at from) 1 t index.tree);
  seen = expr.Element (at from) 1 t index.seen;
  is = simp (layers, index.is);
}

abbrev pub number : ℕ → Shown expr_of_primary
number from = record { tree = roll-Primary (Primary-F.Number (at from) (pos 1)); seen = expr.Number (at from) (pos 1); is = simp layers }

abbrev pub truth : ℕ → Shown expr_of_primary
truth from = record { tree = roll-Primary (Primary-F.True (at from)); seen = expr.Truth (at from) true; is = simp layers }

abbrev pub own : ℕ → Shown expr_of_primary
own from = record { tree = roll-Primary (Primary-F.Own (at from)); seen = expr.Own (at from); is = simp layers }

abbrev pub input : ℕ → Shown expr_of_primary
input from = record { tree = roll-Primary (Primary-F.Input (at from)); seen = expr.Input (at from); is = simp layers }

abbrev pub read : ℕ → Shown expr_of_place → Shown expr_of_primary
read from p = record { tree = roll-Primary (Primary-F.Read (at from) p.tree); seen = p.seen; is = simp (layers, p.is) }

abbrev pub inner : ℕ → Shown expr_of → Shown expr_of_primary
inner from e = record {
  tree = roll-Primary (Primary-F.Parenthesized (at from) e.tree);
  seen = expr.Parenthesized (at from) e.seen;
  is = simp (layers, e.is);
}

abbrev pub plain_call : ℕ → String → List (Shown expr_of) → Shown expr_of_primary
plain_call from function arguments = record {
  tree = roll-Primary (Primary-F.CallPlain (at from) (name from function) (all_trees arguments));
  seen = expr.PlainCall (at from) (name from function) (listed (all_seen arguments));
  is = simp (layers, seen_each expr_of arguments);
}

-- `left + right`
abbrev pub plus : ℕ → Shown expr_of_sum → Shown expr_of_term → Shown expr_of_sum
plus from left right = record {
  tree = roll-Sum (Sum-F.Add (at from) 1 left.tree Plus right.tree);
  seen = expr.Binary (at from) 1 (Add Plus) left.seen right.seen;
  is = simp (layers, left.is, right.is);
}

-- `left - right`
abbrev pub minus : ℕ → Shown expr_of_sum → Shown expr_of_term → Shown expr_of_sum
minus from left right = record {
  tree = roll-Sum (Sum-F.Add (at from) 1 left.tree Minus right.tree);
  seen = expr.Binary (at from) 1 (Add Minus) left.seen right.seen;
  is = simp (layers, left.is, right.is);
}

-- `left * right`
abbrev pub times : ℕ → Shown expr_of_term → Shown expr_of_unary → Shown expr_of_term
times from left right = record {
  tree = roll-Term (Term-F.Multiply (at from) 1 left.tree Times right.tree);
  seen = expr.Binary (at from) 1 (Multiply Times) left.seen right.seen;
  is = simp (layers, left.is, right.is);
}

-- `!operand`
abbrev pub negated : ℕ → Shown expr_of_unary → Shown expr_of_unary
negated from operand = record {
  tree = roll-Unary (Unary-F.Apply (at from) 1 Not operand.tree);
  seen = expr.Unary (at from) 1 Not operand.seen;
  is = simp (layers, operand.is);
}

-- `left < right`
abbrev pub less : ℕ → Shown expr_of_relation → Shown expr_of_sum → Shown expr_of_relation
less from left right = record {
  tree = roll-Relation (Relation-F.Compare (at from) 1 left.tree Less right.tree);
  seen = expr.Binary (at from) 1 (Compare Less) left.seen right.seen;
  is = simp (layers, left.is, right.is);
}

-- `left == right`
abbrev pub equal : ℕ → Shown expr_of_equality → Shown expr_of_relation → Shown expr_of_equality
equal from left right = record {
  tree = roll-Equality (Equality-F.Equate (at from) 1 left.tree Equal right.tree);
  seen = expr.Binary (at from) 1 (Equate Equal) left.seen right.seen;
  is = simp (layers, left.is, right.is);
}

-- ---- flows and calls

abbrev pub call : ℕ → Target → ℕ → String → List (Shown expr_of_flow) → Shown expr_of_call
call from t member_from member arguments = record {
  tree = roll-Call (Call-F.OnTarget (at from) t (name member_from member) (all_trees arguments));
  seen = expr.CallOnTarget (at from) t (name member_from member) (listed (all_seen arguments));
  is = simp (layers, seen_each expr_of_flow arguments);
}

abbrev pub own_call : ℕ → ℕ → String → List (Shown expr_of_flow) → Shown expr_of_call
own_call from member_from member arguments = record {
  tree = roll-Call (Call-F.OnOwn (at from) (name member_from member) (all_trees arguments));
  seen = expr.CallOnOwn (at from) (name member_from member) (listed (all_seen arguments));
  is = simp (layers, seen_each expr_of_flow arguments);
}

abbrev pub of_call : ℕ → Shown expr_of_call → Shown expr_of_flow
of_call from c = record { tree = roll-Flow (Flow-F.OfCall (at from) c.tree); seen = c.seen; is = simp (layers, c.is) }

abbrev pub of_expression : ℕ → Shown expr_of → Shown expr_of_flow
of_expression from e = record { tree = roll-Flow (Flow-F.OfExpression (at from) e.tree); seen = e.seen; is = simp (layers, e.is) }
