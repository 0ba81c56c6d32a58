-- The nodes of expressions and calls that the type rules speak of, each with the byte at which it begins and what
-- surrounds it.
use Rattle.std.specs.Prelude.{ℕ, Bool, List, [], ◌∷◌, ◌++◌, Option, Some, None, ℤ}
use Rattle.mpl_ast.specs.declared.class.ResultType.{ResultType}
use Rattle.mpl_ast.specs.declared.expression.Target.{Target}
use Rattle.mpl_ast.specs.declared.expression.Target.TheVariants as target
use Rattle.mpl_ast.specs.declared.place.Name.{Name}
use Rattle.mpl_ast.specs.declared.program.Declaration.{Declaration}
use Rattle.mpl_ast.specs.declared.statement.TypeName.{TypeName}
use Rattle.mpl_mean.specs.Plain.Expr.{Expr, Exprs}
use Rattle.mpl_mean.specs.Plain.Expr as expr
use Rattle.mpl_mean.specs.TypeRules.Operations.{Operation, binary_operation, unary_operation}
use Rattle.mpl_mean.specs.TypeRules.Scopes.{Environment}
use Rattle.mpl_mean.specs.TypeRules.Types.{Declared, Role}

pub data Node : Type 0 where
  TheProgram : Node
  -- a declared name, and the names from which it differs
  NewName : (name : List ℕ) → (earlier : List (List ℕ)) → Node
  -- a type, and whether what it declares is without dimension and initialiser
  UsedType : Role → (is_bare : Bool) → TypeName → Node
  UsedVariable : Name → Node
  UsedFunction : Name → Node
  -- a field of a variable
  UsedField : (variable : Name) → (field : Name) → Node
  -- a member of what is called, which is `self` where there is no target
  UsedMember : (receiver : Option Target) → Name → Node
  Accepted : Name → Node
  -- with how many of their kind stand before
  ADeclaration : (before : ℕ) → Declaration → Node
  AFormal : (before : ℕ) → Node
  AMember : (before : ℕ) → ResultType → Node
  ASelect : (before : ℕ) → Node
  AnEntry : (before : ℕ) → Node
  -- a function or member, with its formals and all its locals
  Routine : List Declared → Node
  -- a field or `select` of a class
  AState : Node
  -- the number of a dimension, and the type of its elements
  ADimension : TypeName → ℤ → Node
  APriority : ℤ → Node
  AGuard : Expr → Node
  ATest : Expr → Node
  Printed : Expr → Node
  UnaryOperation : Operation → Expr → Node
  BinaryOperation : Operation → Expr → Expr → Node
  Indexed : Target → (index : Expr) → Node
  -- a place without an index, used as a value or assigned
  WholePlace : Target → Node
  -- a variable before the dot of a field
  BeforeField : Name → Node
  APlainCall : Name → Exprs → Node
  ACall : (receiver : Option Target) → (member : Name) → Exprs → Node
  -- a call that is no whole statement
  PassedOn : (receiver : Option Target) → (member : Name) → Node
  -- a `self`
  AnOwn : Node
  AnInput : Node
  ALocal : Declared → (initialiser : Option Expr) → Node
  Assigned : Expr → (value : Expr) → Node
  ACreate : Target → Node
  APrint : Node
  AnRtf : Expr → Node
  AReturn : Option Expr → Node

pub record Located : Type 0 where
  pub at : ℕ
  pub environment : Environment
  pub node : Node

abbrev pub place : ℕ → Environment → Node → Located
place at environment node = record { at = at; environment = environment; node = node }

-- ---- expressions and calls

abbrev pub target_nodes : Environment → Target → List Located
target_nodes environment (target.Variable at variable) = place variable.from environment (UsedVariable variable) ∷ []
target_nodes environment (target.Field at variable field) =
    place variable.from environment (UsedVariable variable) ∷ place at.span.from environment (BeforeField variable) ∷ place field.from environment (UsedField variable field) ∷ []

abbrev pub receiver_nodes : ℕ → Environment → Option Target → List Located
receiver_nodes at environment None = place at environment AnOwn ∷ []
receiver_nodes at environment (Some target) = target_nodes environment target

-- a call, before the nodes of its arguments
abbrev pub call_nodes : ℕ → Environment → Option Target → Name → Exprs → List Located
call_nodes at environment receiver member arguments =
    place at environment (ACall receiver member arguments) ∷ place member.from environment (UsedMember receiver member) ∷ receiver_nodes at environment receiver

abbrev mutual
  pub expr_nodes : Environment → Expr → List Located
  expr_nodes environment (expr.Number at value) = []
  expr_nodes environment (expr.Truth at value) = []
  expr_nodes environment (expr.Own at) = place at.span.from environment AnOwn ∷ []
  expr_nodes environment (expr.Input at) = place at.span.from environment AnInput ∷ []
  expr_nodes environment (expr.Whole at target) = place at.span.from environment (WholePlace target) ∷ target_nodes environment target
  expr_nodes environment (expr.Element at line target index) =
      place at.span.from environment (Indexed target index) ∷ target_nodes environment target ++ expr_nodes environment index
  expr_nodes environment (expr.PlainCall at function arguments) =
      place function.from environment (UsedFunction function) ∷ place at.span.from environment (APlainCall function arguments) ∷ nodes_of_each environment arguments
  expr_nodes environment (expr.Parenthesized at inner) = expr_nodes environment inner
  expr_nodes environment (expr.Unary at line operator operand) = place at.span.from environment (UnaryOperation (unary_operation operator) operand) ∷ expr_nodes environment operand
  expr_nodes environment (expr.Binary at line operator left right) =
      place at.span.from environment (BinaryOperation (binary_operation operator) left right) ∷ expr_nodes environment left ++ expr_nodes environment right
  expr_nodes environment (expr.CallOnOwn at member arguments) =
      place at.span.from environment (PassedOn None member) ∷ call_nodes at.span.from environment None member arguments ++ nodes_of_each environment arguments
  expr_nodes environment (expr.CallOnTarget at target member arguments) =
      place at.span.from environment (PassedOn (Some target) member) ∷ call_nodes at.span.from environment (Some target) member arguments ++ nodes_of_each environment arguments

  pub nodes_of_each : Environment → Exprs → List Located
  nodes_of_each environment expr.NoExpr = []
  nodes_of_each environment (expr.MoreExprs first others) = expr_nodes environment first ++ nodes_of_each environment others

-- a call that is a whole statement
abbrev pub statement_call_nodes : Environment → Expr → List Located
statement_call_nodes environment (expr.CallOnOwn at member arguments) = call_nodes at.span.from environment None member arguments ++ nodes_of_each environment arguments
statement_call_nodes environment (expr.CallOnTarget at target member arguments) =
    call_nodes at.span.from environment (Some target) member arguments ++ nodes_of_each environment arguments
statement_call_nodes environment other = expr_nodes environment other
