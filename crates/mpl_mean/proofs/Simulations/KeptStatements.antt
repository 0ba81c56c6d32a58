-- What statements do, in two runs.
use Rattle.std.proofs.Common.{List, [], ◌∷◌, map, Option, Some, None, if◌then◌else◌, sym, subst}
use Rattle.std.specs.List.{AllZip}
use Rattle.mpl_ast.specs.declared.expression.Expression.{Expression}
use Rattle.mpl_ast.specs.declared.flow.Assignment.{Assignment}
use Rattle.mpl_ast.specs.declared.statement.Block.{Block, Block-F, fold-Block, fold-roll-Block, map-Block, roll-Block}
use Rattle.mpl_ast.specs.declared.statement.ForStart.{ForStart}
use Rattle.mpl_ast.specs.declared.statement.ForStart.TheVariants.{Declare, Assign}
use Rattle.mpl_ast.specs.declared.statement.Statement.{Statement, fold-roll-Statement, map-Statement, roll-Statement, ind-Statement}
use Rattle.mpl_ast.specs.declared.statement.Statement.TheOpen.{Statement-F}
use Rattle.mpl_mean.specs.Meaning.BodyMeaning.{run}
use Rattle.mpl_mean.specs.Meaning.CallMeaning.{passes, call_value}
use Rattle.mpl_mean.specs.Meaning.Context.{Callees, Context}
use Rattle.mpl_mean.specs.Meaning.ExpressionMeaning.{value_of}
use Rattle.mpl_mean.specs.Meaning.StatementMeaning.{Does, Effect, nothing, does, statement_step, block_step, starts, steps, loop, returns, values_of, line_of}
use Rattle.mpl_mean.specs.Meaning.Store.{◌>>=◌, in_turn, in_scope, spend}
use Rattle.mpl_mean.specs.Meaning.Values.{Value, is_true}
use Rattle.mpl_mean.proofs.Simulations.Simulation.{Simulation, BelowBeside, Same, first, second, goes_on_same, gives_same, all_same, runs_in_turn, zip_map}
use Rattle.mpl_mean.proofs.Simulations.KeptExpressions.{Kept, if_kept, expression_kept}
use Rattle.mpl_mean.proofs.Simulations.KeptCalls.{flow_kept, call_kept}
use Rattle.mpl_mean.proofs.Simulations.KeptAssignments.{SameEffect, create_kept, assigns_kept, locals_kept}

module _ (S : Simulation) (b c : Callees) (d : BelowBeside S b c) where
  abbrev Keeps : Does → Type 0
  Keeps = Kept S b c (Unit {0}) Same

  -- ---- the parts of statements

  starts_kept : (x : Context) (start : Option ForStart) → SameEffect S (starts (first S b x) start) (starts (second S c x) start)
  starts_kept x None = gives_same S tt
  starts_kept x (Some (Declare local)) = locals_kept S b c d x local
  starts_kept x (Some (Assign assignment)) = assigns_kept S b c d x assignment

  steps_kept : (x : Context) (step : Option Assignment) → SameEffect S (steps (first S b x) step) (steps (second S c x) step)
  steps_kept x None = gives_same S tt
  steps_kept x (Some assignment) = assigns_kept S b c d x assignment

  loop_kept : (x : Context) (test : Expression) (h k : Effect) → SameEffect S h k → SameEffect S (loop (first S b x) test h) (loop (second S c x) test k)
  loop_kept x test h k r = S.loops (value_of test (first S b x)) (value_of test (second S c x)) h k ((expression_kept S b c d test).at x) r

  returns_kept : (x : Context) (value : Option Expression) → SameEffect S (returns (first S b x) value) (returns (second S c x) value)
  returns_kept x None = S.returns []
  returns_kept x (Some e) = goes_on_same S (value_of e (first S b x)) (value_of e (second S c x)) _ _ ((expression_kept S b c d e).at x) (λ v. S.returns v.words)

  values_kept : (x : Context) (es : List Expression) → S.Steps (List Value) Same (values_of (first S b x) es) (values_of (second S c x) es)
  values_kept x es = all_same S _ _ (zip_map (S.Steps Value Same) (λ e. value_of e (first S b x)) (λ e. value_of e (second S c x)) es (λ e. (expression_kept S b c d e).at x))

  -- ---- the folds, and what is shown of each tree

  abbrev block_does : Block → Does
  block_does = fold-Block Does Does statement_step block_step

  abbrev Keeps-Statement : Statement → Type 0
  Keeps-Statement t = Keeps (does t)

  abbrev Keeps-Block : Block → Type 0
  Keeps-Block t = Keeps (block_does t)

  abbrev With-Statement : Type 0
  With-Statement = (t : Statement) × Keeps-Statement t

  abbrev With-Block : Type 0
  With-Block = (t : Block) × Keeps-Block t

  rolled-Statement : (layer : Statement-F Statement Block) → Keeps (statement_step (map-Statement Statement Block Does Does does block_does layer)) → Keeps-Statement (roll-Statement layer)
  rolled-Statement layer = subst Keeps (sym (fold-roll-Statement Does Does statement_step block_step layer))

  rolled-Block : (layer : Block-F Statement Block) → Keeps (block_step (map-Block Statement Block Does Does does block_does layer)) → Keeps-Block (roll-Block layer)
  rolled-Block layer = subst Keeps (sym (fold-roll-Block Does Does statement_step block_step layer))

  each_kept : (x : Context) (ts : List With-Statement)
      → AllZip (SameEffect S) (map (λ (does : Does). does (first S b x)) (map does (map (λ t. t.0) ts))) (map (λ (does : Does). does (second S c x)) (map does (map (λ t. t.0) ts)))
  each_kept x [] = tt
  each_kept x (t ∷ ts) = ((t.1).at x, each_kept x ts)

  if_layer : (x : Context) (test : Expression) (then_part : With-Statement) (else_part else_other : Effect) → SameEffect S else_part else_other
      → SameEffect S (value_of test (first S b x) >>= (λ v. if is_true v then in_scope (does then_part.0 (first S b x)) else else_part))
      (value_of test (second S c x) >>= (λ v. if is_true v then in_scope (does then_part.0 (second S c x)) else else_other))
  if_layer x test then_part else_part else_other r =
      goes_on_same S (value_of test (first S b x)) (value_of test (second S c x)) _ _ ((expression_kept S b c d test).at x) (λ v.
      if_kept S (is_true v) _ _ _ _ (S.scopes _ _ _ _ ((then_part.1).at x)) r)

  statement_layer : (y : Statement-F With-Statement With-Block) → Keeps-Statement (roll-Statement (map-Statement With-Statement With-Block Statement Block (λ t. t.0) (λ t. t.0) y))
  statement_layer (Statement-F.OfBlock at t) = rolled-Statement (Statement-F.OfBlock at t.0) (t.1)
  statement_layer (Statement-F.Declare at local) = rolled-Statement (Statement-F.Declare at local) (record { at = λ x. locals_kept S b c d x local })
  statement_layer (Statement-F.Assign at assignment) = rolled-Statement (Statement-F.Assign at assignment) (record { at = λ x. assigns_kept S b c d x assignment })
  statement_layer (Statement-F.CallAlone at call) = rolled-Statement (Statement-F.CallAlone at call) (record {
    at = λ x. S.goes_on _ _ _ _ (call_value call (first S b x)) (call_value call (second S c x)) (λ _. nothing) (λ _. nothing) S.held ((call_kept S b c d call).at x) (λ u v h. gives_same S tt);
  })
  statement_layer (Statement-F.Create at target) = rolled-Statement (Statement-F.Create at target) (record { at = λ x. create_kept S b c x target })
  statement_layer (Statement-F.If at test t None) = rolled-Statement (Statement-F.If at test t.0 None) (record { at = λ x. if_layer x test t nothing nothing (gives_same S tt) })
  statement_layer (Statement-F.If at test t (Some u)) = rolled-Statement (Statement-F.If at test t.0 (Some u.0)) (record {
    at = λ x. if_layer x test t (in_scope (does u.0 (first S b x))) (in_scope (does u.0 (second S c x))) (S.scopes _ _ _ _ ((u.1).at x));
  })
  statement_layer (Statement-F.While at test t) = rolled-Statement (Statement-F.While at test t.0) (record { at = λ x. loop_kept x test _ _ (S.scopes _ _ _ _ ((t.1).at x)) })
  statement_layer (Statement-F.For at head t) = rolled-Statement (Statement-F.For at head t.0) (record {
    at = λ x.
        S.scopes _ _ _ _ (goes_on_same S (starts (first S b x) head.start) (starts (second S c x) head.start) _ _ (starts_kept x head.start) (λ _.
        loop_kept x head.test _ _ (goes_on_same S (in_scope (does t.0 (first S b x))) (in_scope (does t.0 (second S c x))) (λ _. steps (first S b x) head.step) (λ _. steps (second S c x) head.step)
        (S.scopes _ _ _ _ ((t.1).at x)) (λ _. steps_kept x head.step))));
  })
  statement_layer (Statement-F.Print at es) = rolled-Statement (Statement-F.Print at es) (record {
    at = λ x. goes_on_same S (values_of (first S b x) es) (values_of (second S c x) es) _ _ (values_kept x es) (λ vs. S.prints (line_of vs));
  })
  statement_layer (Statement-F.Rtf at value) = rolled-Statement (Statement-F.Rtf at value) (record {
    at = λ x. S.goes_on _ _ _ _ (passes value (first S b x)) (passes value (second S c x)) _ _ S.held ((flow_kept S b c d value).at x) (S.results at.line);
  })
  statement_layer (Statement-F.Return at value) = rolled-Statement (Statement-F.Return at value) (record { at = λ x. returns_kept x value })
  statement_layer (Statement-F.Empty at) = rolled-Statement (Statement-F.Empty at) (record { at = λ x. gives_same S tt })

  block_layer : (y : Block-F With-Statement With-Block) → Keeps-Block (roll-Block (map-Block With-Statement With-Block Statement Block (λ t. t.0) (λ t. t.0) y))
  block_layer y = rolled-Block (map-Block With-Statement With-Block Statement Block (λ t. t.0) (λ t. t.0) y) (record { at = λ x. S.scopes _ _ _ _ (runs_in_turn S _ _ (each_kept x y.statements)) })

  pub statement_kept : (t : Statement) → Kept S b c (Unit {0}) Same (does t)
  statement_kept =
      ind-Statement Keeps-Statement Keeps-Block (λ y z is. subst (λ l. Keeps-Statement (roll-Statement l)) is (statement_layer z))
      (λ y z is. subst (λ l. Keeps-Block (roll-Block l)) is (block_layer z))

  pub body_kept : (x : Context) (ts : List Statement) → SameEffect S (in_turn (map (λ s. does s (first S b x)) ts)) (in_turn (map (λ s. does s (second S c x)) ts))
  body_kept x ts = runs_in_turn S _ _ (zip_map (SameEffect S) (λ s. does s (first S b x)) (λ s. does s (second S c x)) ts (λ t. (statement_kept t).at x))

  -- a turn and the statements of a body
  pub run_kept : (x : Context) (ts : List Statement) → SameEffect S (run (first S b x) ts) (run (second S c x) ts)
  run_kept x ts =
      goes_on_same S (spend S.n) (spend S.m) (λ _. in_turn (map (λ s. does s (first S b x)) ts)) (λ _. in_turn (map (λ s. does s (second S c x)) ts)) S.spends (λ _. body_kept x ts)
