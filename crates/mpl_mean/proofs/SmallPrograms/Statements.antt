-- Statements of worked programs, each with what the type rules see of it.
use Rattle.std.proofs.Common.{◌≡◌, ℕ, List, pos, refl, ap, ap₂}
use Rattle.std.specs.Prelude.{Option, Some, None}
use Prim.Native.String.{String}
use Rattle.mpl_ast.specs.declared.expression.Target.{Target}
use Rattle.mpl_ast.specs.declared.statement.Block.{Block, roll-Block, fold-roll-Block}
use Rattle.mpl_ast.specs.declared.statement.Declarator.TheVariants as declarator
use Rattle.mpl_ast.specs.declared.statement.Dimension.{Dimension}
use Rattle.mpl_ast.specs.declared.statement.ForStart.TheVariants as for
use Rattle.mpl_ast.specs.declared.statement.Statement.{roll-Statement, fold-roll-Statement}
use Rattle.mpl_ast.specs.declared.statement.Statement.TheOpen.{Statement-F}
use Rattle.mpl_ast.specs.declared.statement.TypeName.{TypeName}
use Rattle.mpl_ast.specs.declared.statement.TypeName.TheVariants as type
use Rattle.mpl_mean.specs.Plain.Stmt.{Stmt, stmt_of, new_local, in_turn, assigns, starts}
use Rattle.mpl_mean.specs.Plain.Stmt as stmt
use Rattle.mpl_mean.specs.Plain.Expr.{Expr, expr_of, expr_of_place, expr_of_flow, expr_of_call}
use Rattle.mpl_mean.proofs.SmallPrograms.Expressions.{at, name}
use Rattle.mpl_mean.proofs.SmallPrograms.Shown.{Shown, all_trees, all_seen, seen_each, tree_if_any, seen_if_any, is_if_any}

-- ---- types and locals

abbrev pub int : ℕ → TypeName
int from = type.Int (at from)

abbrev pub bool : ℕ → TypeName
bool from = type.Bool (at from)

abbrev pub named : ℕ → String → TypeName
named from text = type.Named (at from) (name from text)

abbrev pub dimension : ℕ → ℕ → Option Dimension
dimension from value = Some (record { at = at from; mark_line = 1; number = record { from = from; value = pos value } })

abbrev pub plain : ℕ → String → Option Dimension → Shown new_local
plain from text d = record {
  tree = declarator.Plain (at from) (name from text) d;
  seen = record { name = name from text; dimension = d; initialiser = None };
  is = refl;
}

abbrev pub initialized : ℕ → String → Shown expr_of_flow → Shown new_local
initialized from text value = record {
  tree = declarator.Initialized (at from) (name from text) value.tree;
  seen = record { name = name from text; dimension = None; initialiser = Some value.seen };
  is = ap (λ v. record { name = name from text; dimension = None; initialiser = Some v }) value.is;
}

abbrev pub local : TypeName → ℕ → List (Shown new_local) → Shown stmt.locals
local type from declarators = record {
  tree = record { at = at from; type_name = type; declarators = all_trees declarators };
  seen = stmt.Locals type (all_seen declarators);
  is = ap (stmt.Locals type) (seen_each new_local declarators);
}

abbrev pub assignment : ℕ → Shown expr_of_place → Shown expr_of_flow → Shown assigns
assignment from place value = record {
  tree = record { at = at from; place = place.tree; value = value.tree };
  seen = stmt.Assigns (at from) place.seen value.seen;
  is = ap₂ (stmt.Assigns (at from)) place.is value.is;
}

-- ---- statements

abbrev pub nothing : ℕ → Shown stmt_of
nothing from = record { tree = roll-Statement (Statement-F.Empty (at from)); seen = stmt.Nothing; is = simp fold-roll-Statement }

abbrev pub block : ℕ → List (Shown stmt_of) → Block
block from statements = record { at = at from; mark_line = 1; statements = all_trees statements }

abbrev pub within : ℕ → List (Shown stmt_of) → Shown stmt_of
within from statements = record {
  tree = roll-Statement (Statement-F.OfBlock (at from) (roll-Block (record { at = at from; mark_line = 1; statements = all_trees statements })));
  seen = stmt.Within (in_turn (all_seen statements));
  is = simp (fold-roll-Statement, fold-roll-Block, seen_each stmt_of statements);
}

abbrev pub declare : ℕ → TypeName → List (Shown new_local) → Shown stmt_of
declare from type declarators =
    let l = local type from declarators in
    record { tree = roll-Statement (Statement-F.Declare (at from) l.tree); seen = l.seen; is = simp fold-roll-Statement l.is }

abbrev pub assign : ℕ → Shown expr_of_place → Shown expr_of_flow → Shown stmt_of
assign from place value =
    let a = assignment from place value in
    record { tree = roll-Statement (Statement-F.Assign (at from) a.tree); seen = a.seen; is = simp fold-roll-Statement a.is }

abbrev pub call_alone : ℕ → Shown expr_of_call → Shown stmt_of
call_alone from c = record { tree = roll-Statement (Statement-F.CallAlone (at from) c.tree); seen = stmt.Calls c.seen; is = simp (fold-roll-Statement, c.is) }

abbrev pub create : ℕ → Target → Shown stmt_of
create from t = record { tree = roll-Statement (Statement-F.Create (at from) t); seen = stmt.Creates (at from) t; is = simp fold-roll-Statement }

abbrev pub when : ℕ → Shown expr_of → Shown stmt_of → Shown stmt_of
when from test then_part = record {
  tree = roll-Statement (Statement-F.If (at from) test.tree then_part.tree None);
  seen = stmt.When test.seen then_part.seen;
  is = simp (fold-roll-Statement, test.is, then_part.is);
}

abbrev pub when_else : ℕ → Shown expr_of → Shown stmt_of → Shown stmt_of → Shown stmt_of
when_else from test then_part else_part = record {
  tree = roll-Statement (Statement-F.If (at from) test.tree then_part.tree (Some else_part.tree));
  seen = stmt.Branches test.seen then_part.seen else_part.seen;
  is = simp (fold-roll-Statement, test.is, then_part.is, else_part.is);
}

pub same_loop : {start start' step step' body body' : Stmt} {test test' : Expr} → start ≡ start' → test ≡ test' → step ≡ step' → body ≡ body'
    → stmt.Loops start test step body ≡ stmt.Loops start' test' step' body'
same_loop a b c d = cc

abbrev pub starting : Shown stmt.locals → Shown starts
starting l = record { tree = for.Declare l.tree; seen = l.seen; is = l.is }

abbrev pub starting_with : Shown assigns → Shown starts
starting_with a = record { tree = for.Assign a.tree; seen = a.seen; is = a.is }

abbrev pub loop : ℕ → Shown starts → Shown expr_of → Shown assigns → Shown stmt_of → Shown stmt_of
loop from start test step body = record {
  tree = roll-Statement (Statement-F.For (at from) (record { start = Some start.tree; test = test.tree; step = Some step.tree }) body.tree);
  seen = stmt.Loops start.seen test.seen step.seen body.seen;
  is = simp fold-roll-Statement (same_loop start.is test.is step.is body.is);
}

abbrev pub repeat : ℕ → Shown expr_of → Shown stmt_of → Shown stmt_of
repeat from test body = record {
  tree = roll-Statement (Statement-F.While (at from) test.tree body.tree);
  seen = stmt.Repeats test.seen body.seen;
  is = simp (fold-roll-Statement, test.is, body.is);
}

abbrev pub print : ℕ → List (Shown expr_of) → Shown stmt_of
print from arguments = record {
  tree = roll-Statement (Statement-F.Print (at from) (all_trees arguments));
  seen = stmt.Prints (at from) (all_seen arguments);
  is = simp (fold-roll-Statement, seen_each expr_of arguments);
}

abbrev pub rtf : ℕ → Shown expr_of_flow → Shown stmt_of
rtf from value = record { tree = roll-Statement (Statement-F.Rtf (at from) value.tree); seen = stmt.Gives (at from) value.seen; is = simp (fold-roll-Statement, value.is) }

abbrev pub return : ℕ → Option (Shown expr_of) → Shown stmt_of
return from value = record {
  tree = roll-Statement (Statement-F.Return (at from) (tree_if_any value));
  seen = stmt.Returns (at from) (seen_if_any value);
  is = simp fold-roll-Statement (ap (stmt.Returns (at from)) (is_if_any expr_of value));
}
