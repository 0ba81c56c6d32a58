-- The least failure along statements is that at their nodes.
use Rattle.std.proofs.Common.{◌≡◌, ℕ, not, List, [], ◌∷◌, ◌++◌, map, drop, Option, Some, None, refl, sym, ap, ap₂, ◌∙◌}
use Rattle.std.proofs.lemmas.List.{append-nil}
use Rattle.std.specs.List.{list_all, list_any}
use Rattle.std.specs.Str.{bytes_eq}
use Rattle.mpl_ast.specs.declared.class.ResultType.TheVariants.{Typed, Void}
use Rattle.mpl_ast.specs.declared.statement.Dimension.{Dimension}
use Rattle.mpl_ast.specs.declared.statement.TypeName.{TypeName}
use Rattle.mpl_mean.specs.TypeRules.CallRules.{create_may_stand, is_object}
use Rattle.mpl_mean.specs.Plain.Expr.{Expr, Exprs, begins}
use Rattle.mpl_mean.specs.Plain.Expr as expr
use Rattle.mpl_mean.specs.TypeRules.ExpressionRules.{can_be_printed, initialiser_agrees, is_no_regular}
use Rattle.mpl_mean.specs.TypeRules.Nodes.{Located, place, expr_nodes, nodes_of_each, statement_call_nodes, target_nodes, receiver_nodes, call_nodes}
use Rattle.mpl_mean.specs.TypeRules.Nodes as node
use Rattle.mpl_ast.specs.declared.expression.Target.{Target}
use Rattle.mpl_ast.specs.declared.expression.Target.TheVariants as target
use Rattle.mpl_mean.specs.TypeRules.Scopes.{Body, Environment, InFunction, InGuard, InMain, InMember, NoBody, behind, in_block, is_in_main, is_in_member, is_persistent, names_beside, with_last}
use Rattle.mpl_mean.specs.TypeRules.StatementNodes.{declared_local, dimension_nodes, exprs_if_any, is_bare, local_of, local_walk, locals_among, locals_walk, print_walk, stmt_walk, stmts_walk, type_nodes}
use Rattle.mpl_mean.specs.TypeRules.StatementRules.{can_give, can_return}
use Rattle.mpl_mean.specs.Plain.Stmt.{NewLocal, Stmt, Stmts}
use Rattle.mpl_mean.specs.Plain.Stmt as stmt
use Rattle.mpl_mean.specs.TypeRules.Types.{AsLocal, Declared, OfBool, agree, shape_of}
use Rattle.mpl_mean.specs.TypeRules.Typing.{target_shape, type_of}
use Rattle.mpl_types.specs.Internal.Least.{noted, least_of}
use Rattle.mpl_types.specs.Internal.Statements.{after, dimension_least, gives, return_least, returns, initialiser_least, local_least, locals_least, print_least, stmt_least, stmts_least, test_least}
use Rattle.mpl_scope.specs.Locals.{outer, stmt_locals, stmts_locals}
use Rattle.mpl_types.proofs.ExpressionLemmas.{expr_is, joined, statement_call_is, target_is}

dimension_is : (environment : Environment) (type : TypeName) (dimension : Option Dimension) → dimension_least type dimension ≡ least_of (dimension_nodes environment type dimension)
dimension_is environment type None = refl
dimension_is environment type (Some dimension) = refl

-- ---- results

gives_is : (environment : Environment) (body : Body) (value : Expr) → gives environment.declarations body (type_of environment value) ≡ can_give environment body value
gives_is environment NoBody value = refl
gives_is environment InGuard value = refl
gives_is environment InMain value = refl
gives_is environment (InFunction type) value = refl
gives_is environment (InMember (Void at)) value = refl
gives_is environment (InMember (Typed at type)) value = refl

returns_is : (environment : Environment) (body : Body) (value : Expr) → returns environment.declarations body (type_of environment value) ≡ can_return environment body (Some value)
returns_is environment NoBody value = refl
returns_is environment InGuard value = refl
returns_is environment InMain value = refl
returns_is environment (InFunction type) value = refl
returns_is environment (InMember result) value = refl

returns_nothing : (environment : Environment) (body : Body) → is_in_member body ≡ can_return environment body None
returns_nothing environment NoBody = refl
returns_nothing environment InGuard = refl
returns_nothing environment InMain = refl
returns_nothing environment (InFunction type) = refl
returns_nothing environment (InMember result) = refl

return_is : (at : ℕ) (environment : Environment) (value : Option Expr)
    → return_least at environment value ≡ least_of (place at environment (node.AReturn value) ∷ (exprs_if_any value environment).nodes)
return_is at environment None = ap (λ b. noted at 26 b None) (returns_nothing environment environment.body)
return_is at environment (Some value) = ap₂ (noted at 26) (returns_is environment environment.body value) (expr_is environment value)

-- ---- locals

initialiser_is : (at : ℕ) (environment : Environment) (d : Declared) (value : Option Expr)
    → initialiser_least at environment d value ≡ least_of (place at environment (node.ALocal d value) ∷ (exprs_if_any value environment).nodes ++ [])
initialiser_is at environment d None = refl
initialiser_is at environment d (Some value) =
    ap (noted at 17 (initialiser_agrees (shape_of environment.declarations (Some d)) (type_of environment value)))
    (expr_is environment value ∙ ap least_of (sym (append-nil (expr_nodes environment value))))

if_any_after : (environment : Environment) (value : Option Expr) → (exprs_if_any value environment).after ≡ environment
if_any_after environment None = refl
if_any_after environment (Some value) = refl

local_is : (type : TypeName) (new : NewLocal) (environment : Environment) → local_least type new environment ≡ least_of (local_walk type new environment).nodes
local_is type new environment =
    ap (noted new.name.from 2 (not (list_any (bytes_eq new.name.text) (names_beside environment))))
    (joined (dimension_nodes environment type new.dimension) _ _ _ (dimension_is environment type new.dimension)
    (initialiser_is new.name.from environment (declared_local type new) new.initialiser))

pub local_after : (type : TypeName) (new : NewLocal) (environment : Environment) → (local_walk type new environment).after ≡ behind (declared_local type new) environment
local_after type new environment = ap (behind (declared_local type new)) (if_any_after environment new.initialiser)

locals_is : (type : TypeName) (news : List NewLocal) (environment : Environment) → locals_least type news environment ≡ least_of (locals_walk type news environment).nodes
locals_is type [] environment = refl
locals_is type (new ∷ others) environment =
    joined (local_walk type new environment).nodes (locals_walk type others (local_walk type new environment).after).nodes _ _ (local_is type new environment)
    (locals_is type others (behind (declared_local type new) environment)
    ∙ ap (λ (e : Environment). least_of (locals_walk type others e).nodes) (sym (local_after type new environment)))

-- ---- tests and prints

test_is : (test : Expr) (environment : Environment) → test_least test environment ≡ least_of (place (begins test) environment (node.ATest test) ∷ expr_nodes environment test)
test_is test environment = ap (noted (begins test) 12 (agree (Some OfBool) (type_of environment test))) (expr_is environment test)

pub print_after : (arguments : List Expr) (environment : Environment) → (print_walk arguments environment).after ≡ environment
print_after [] environment = refl
print_after (argument ∷ others) environment = print_after others environment

print_is : (arguments : List Expr) (environment : Environment) → print_least arguments environment ≡ least_of (print_walk arguments environment).nodes
print_is [] environment = refl
print_is (argument ∷ others) environment =
    ap (noted (begins argument) 13 (can_be_printed (type_of environment argument)))
    (joined (expr_nodes environment argument) (print_walk others environment).nodes _ _ (expr_is environment argument) (print_is others environment))

-- ---- statements

mutual
  pub stmt_is : (s : Stmt) (environment : Environment) → stmt_least s environment ≡ least_of (stmt_walk s environment).nodes
  stmt_is stmt.Nothing environment = refl
  stmt_is (stmt.Within stmts) environment = stmts_is stmts (in_block environment)
  stmt_is (stmt.Locals type locals) environment =
      joined (type_nodes AsLocal (list_all is_bare locals) type environment) (locals_walk type locals environment).nodes _ _ refl (locals_is type locals environment)
  stmt_is (stmt.Assigns at target value) environment =
      ap (noted at.span.from 17 (agree (type_of environment target) (type_of environment value)))
      (joined (expr_nodes environment target) (expr_nodes environment value) _ _ (expr_is environment target) (expr_is environment value))
  stmt_is (stmt.Calls call) environment = statement_call_is environment call
  stmt_is (stmt.Creates at target) environment =
      ap (λ rest. noted at.span.from 15 (is_no_regular (target_shape environment target)) (noted at.span.from 19 (is_object (target_shape environment target))
      (noted at.span.from 21 (create_may_stand environment.body (is_persistent environment.class)) rest)))
      (target_is environment target)
  stmt_is (stmt.When test then_part) environment =
      joined (place (begins test) environment (node.ATest test) ∷ expr_nodes environment test) (stmt_walk then_part (in_block environment)).nodes _ _
      (test_is test environment) (stmt_is then_part (in_block environment))
  stmt_is (stmt.Branches test then_part else_part) environment =
      joined (place (begins test) environment (node.ATest test) ∷ expr_nodes environment test)
      ((stmt_walk then_part (in_block environment)).nodes ++ (stmt_walk else_part (in_block environment)).nodes) _ _ (test_is test environment)
      (joined (stmt_walk then_part (in_block environment)).nodes (stmt_walk else_part (in_block environment)).nodes _ _
      (stmt_is then_part (in_block environment)) (stmt_is else_part (in_block environment)))
  stmt_is (stmt.Repeats test body) environment =
      joined (place (begins test) environment (node.ATest test) ∷ expr_nodes environment test) (stmt_walk body (in_block environment)).nodes _ _
      (test_is test environment) (stmt_is body (in_block environment))
  stmt_is (stmt.Loops start test step body) environment =
      let begun = after start (in_block environment) in
      joined (stmt_walk start (in_block environment)).nodes
      (place (begins test) begun (node.ATest test) ∷ expr_nodes begun test ++ ((stmt_walk step begun).nodes ++ (stmt_walk body (in_block (after step begun))).nodes)) _ _
      (stmt_is start (in_block environment))
      (joined (place (begins test) begun (node.ATest test) ∷ expr_nodes begun test) ((stmt_walk step begun).nodes ++ (stmt_walk body (in_block (after step begun))).nodes) _ _
      (test_is test begun)
      (joined (stmt_walk step begun).nodes (stmt_walk body (in_block (after step begun))).nodes _ _ (stmt_is step begun) (stmt_is body (in_block (after step begun)))))
  stmt_is (stmt.Prints at arguments) environment = ap (noted at.span.from 23 (is_in_main environment.body)) (print_is arguments environment)
  stmt_is (stmt.Gives at value) environment = ap₂ (noted at.span.from 24) (gives_is environment environment.body value) (expr_is environment value)
  stmt_is (stmt.Returns at value) environment = return_is at.span.from environment value

  pub stmts_is : (ss : Stmts) (environment : Environment) → stmts_least ss environment ≡ least_of (stmts_walk ss environment).nodes
  stmts_is stmt.NoStmt environment = refl
  stmts_is (stmt.MoreStmts first others) environment =
      joined (stmt_walk first environment).nodes (stmts_walk others (after first environment)).nodes _ _ (stmt_is first environment) (stmts_is others (after first environment))

-- ---- what surrounds a block stays

outer_behind : (d : Declared) (environment : Environment) → outer (behind d environment) ≡ outer environment
outer_behind d environment = ap (λ (blocks : List (List Declared)). record environment { blocks = blocks }) (rest_stays d environment.blocks) where
  rest_stays : (d : Declared) (blocks : List (List Declared)) → drop 1 (with_last d blocks) ≡ drop 1 blocks
  rest_stays d [] = refl
  rest_stays d (block ∷ blocks) = refl

outer_locals : (type : TypeName) (news : List NewLocal) (environment : Environment) → outer (locals_walk type news environment).after ≡ outer environment
outer_locals type [] environment = refl
outer_locals type (new ∷ others) environment =
    outer_locals type others (local_walk type new environment).after
    ∙ ap outer (local_after type new environment) ∙ outer_behind (declared_local type new) environment

pub stmt_outer : (s : Stmt) (environment : Environment) → outer (after s environment) ≡ outer environment
stmt_outer stmt.Nothing environment = refl
stmt_outer (stmt.Within stmts) environment = refl
stmt_outer (stmt.Locals type locals) environment = outer_locals type locals environment
stmt_outer (stmt.Assigns at target value) environment = refl
stmt_outer (stmt.Calls call) environment = refl
stmt_outer (stmt.Creates at target) environment = refl
stmt_outer (stmt.When test then_part) environment = refl
stmt_outer (stmt.Branches test then_part else_part) environment = refl
stmt_outer (stmt.Repeats test body) environment = refl
stmt_outer (stmt.Loops start test step body) environment = refl
stmt_outer (stmt.Prints at arguments) environment = ap outer (print_after arguments environment)
stmt_outer (stmt.Gives at value) environment = refl
stmt_outer (stmt.Returns at value) environment = ap outer (if_any_after environment value)

pub stmts_outer : (ss : Stmts) (environment : Environment) → outer (stmts_walk ss environment).after ≡ outer environment
stmts_outer stmt.NoStmt environment = refl
stmts_outer (stmt.MoreStmts first others) environment = stmts_outer others (after first environment) ∙ stmt_outer first environment

-- ---- the locals of statements are those at their nodes

locals_append : (xs ys : List Located) → locals_among (xs ++ ys) ≡ locals_among xs ++ locals_among ys
locals_append [] ys = refl
locals_append (x ∷ xs) ys = ap (λ rest. local_of x.node ++ rest) (locals_append xs ys) ∙ append_three (local_of x.node) (locals_among xs) (locals_among ys) where
  append_three : (a b c : List Declared) → a ++ (b ++ c) ≡ (a ++ b) ++ c
  append_three [] b c = refl
  append_three (x ∷ a) b c = ap (λ rest. x ∷ rest) (append_three a b c)

both_locals : (xs ys : List Located) (a b : List Declared) → a ≡ locals_among xs → b ≡ locals_among ys → a ++ b ≡ locals_among (xs ++ ys)
both_locals xs ys a b h k = ap₂ (λ a b. a ++ b) h k ∙ sym (locals_append xs ys)

no_target_local : (environment : Environment) (t : Target) → [] ≡ locals_among (target_nodes environment t)
no_target_local environment (target.Variable at variable) = refl
no_target_local environment (target.Field at variable field) = refl

no_receiver_local : (at : ℕ) (environment : Environment) (receiver : Option Target) → [] ≡ locals_among (receiver_nodes at environment receiver)
no_receiver_local at environment None = refl
no_receiver_local at environment (Some t) = no_target_local environment t

mutual
  no_local : (environment : Environment) (e : Expr) → [] ≡ locals_among (expr_nodes environment e)
  no_local environment (expr.Number at value) = refl
  no_local environment (expr.Truth at value) = refl
  no_local environment (expr.Own at) = refl
  no_local environment (expr.Input at) = refl
  no_local environment (expr.Whole at target) = no_target_local environment target
  no_local environment (expr.Element at line target index) =
      both_locals (target_nodes environment target) (expr_nodes environment index) [] [] (no_target_local environment target) (no_local environment index)
  no_local environment (expr.PlainCall at function arguments) = no_locals environment arguments
  no_local environment (expr.Parenthesized at inner) = no_local environment inner
  no_local environment (expr.Unary at line operator operand) = no_local environment operand
  no_local environment (expr.Binary at line operator left right) =
      both_locals (expr_nodes environment left) (expr_nodes environment right) [] [] (no_local environment left) (no_local environment right)
  no_local environment (expr.CallOnOwn at member arguments) = no_locals environment arguments
  no_local environment (expr.CallOnTarget at target member arguments) =
      both_locals (target_nodes environment target) (nodes_of_each environment arguments) [] [] (no_target_local environment target) (no_locals environment arguments)

  no_locals : (environment : Environment) (es : Exprs) → [] ≡ locals_among (nodes_of_each environment es)
  no_locals environment expr.NoExpr = refl
  no_locals environment (expr.MoreExprs first others) =
      both_locals (expr_nodes environment first) (nodes_of_each environment others) [] [] (no_local environment first) (no_locals environment others)

no_call_local : (environment : Environment) (e : Expr) → [] ≡ locals_among (statement_call_nodes environment e)
no_call_local environment (expr.CallOnOwn at member arguments) = no_locals environment arguments
no_call_local environment (expr.CallOnTarget at target member arguments) =
    both_locals (target_nodes environment target) (nodes_of_each environment arguments) [] [] (no_target_local environment target) (no_locals environment arguments)
no_call_local environment (expr.Number at value) = no_local environment (expr.Number at value)
no_call_local environment (expr.Truth at value) = no_local environment (expr.Truth at value)
no_call_local environment (expr.Own at) = no_local environment (expr.Own at)
no_call_local environment (expr.Input at) = no_local environment (expr.Input at)
no_call_local environment (expr.Whole at target) = no_local environment (expr.Whole at target)
no_call_local environment (expr.Element at line target index) = no_local environment (expr.Element at line target index)
no_call_local environment (expr.PlainCall at function arguments) = no_local environment (expr.PlainCall at function arguments)
no_call_local environment (expr.Parenthesized at inner) = no_local environment (expr.Parenthesized at inner)
no_call_local environment (expr.Unary at line operator operand) = no_local environment (expr.Unary at line operator operand)
no_call_local environment (expr.Binary at line operator left right) = no_local environment (expr.Binary at line operator left right)

no_if_any_local : (environment : Environment) (value : Option Expr) → [] ≡ locals_among (exprs_if_any value environment).nodes
no_if_any_local environment None = refl
no_if_any_local environment (Some value) = no_local environment value

no_dimension_local : (environment : Environment) (type : TypeName) (dimension : Option Dimension) → [] ≡ locals_among (dimension_nodes environment type dimension)
no_dimension_local environment type None = refl
no_dimension_local environment type (Some dimension) = refl

one_local : (type : TypeName) (new : NewLocal) (environment : Environment) → declared_local type new ∷ [] ≡ locals_among (local_walk type new environment).nodes
one_local type new environment =
    both_locals (dimension_nodes environment type new.dimension)
    (place new.name.from environment (node.ALocal (declared_local type new) new.initialiser) ∷ ((exprs_if_any new.initialiser environment).nodes ++ [])) [] (declared_local type new ∷ [])
    (no_dimension_local environment type new.dimension)
    (ap (λ rest. declared_local type new ∷ rest)
    (both_locals (exprs_if_any new.initialiser environment).nodes [] [] [] (no_if_any_local environment new.initialiser) refl))

each_local : (type : TypeName) (news : List NewLocal) (environment : Environment) → map (declared_local type) news ≡ locals_among (locals_walk type news environment).nodes
each_local type [] environment = refl
each_local type (new ∷ others) environment =
    both_locals (local_walk type new environment).nodes (locals_walk type others (local_walk type new environment).after).nodes (declared_local type new ∷ []) (map (declared_local type) others)
    (one_local type new environment) (each_local type others (local_walk type new environment).after)

no_print_local : (arguments : List Expr) (environment : Environment) → [] ≡ locals_among (print_walk arguments environment).nodes
no_print_local [] environment = refl
no_print_local (argument ∷ others) environment =
    both_locals (expr_nodes environment argument) (print_walk others environment).nodes [] [] (no_local environment argument) (no_print_local others environment)

mutual
  pub stmt_locals_is : (s : Stmt) (environment : Environment) → stmt_locals s ≡ locals_among (stmt_walk s environment).nodes
  stmt_locals_is stmt.Nothing environment = refl
  stmt_locals_is (stmt.Within stmts) environment = stmts_locals_is stmts (in_block environment)
  stmt_locals_is (stmt.Locals type locals) environment = each_local type locals environment
  stmt_locals_is (stmt.Assigns at target value) environment =
      both_locals (expr_nodes environment target) (expr_nodes environment value) [] [] (no_local environment target) (no_local environment value)
  stmt_locals_is (stmt.Calls call) environment = no_call_local environment call
  stmt_locals_is (stmt.Creates at target) environment = no_target_local environment target
  stmt_locals_is (stmt.When test then_part) environment =
      both_locals (expr_nodes environment test) (stmt_walk then_part (in_block environment)).nodes [] _ (no_local environment test) (stmt_locals_is then_part (in_block environment))
  stmt_locals_is (stmt.Branches test then_part else_part) environment =
      both_locals (expr_nodes environment test) ((stmt_walk then_part (in_block environment)).nodes ++ (stmt_walk else_part (in_block environment)).nodes) [] _ (no_local environment test)
      (both_locals (stmt_walk then_part (in_block environment)).nodes (stmt_walk else_part (in_block environment)).nodes _ _
      (stmt_locals_is then_part (in_block environment)) (stmt_locals_is else_part (in_block environment)))
  stmt_locals_is (stmt.Repeats test body) environment =
      both_locals (expr_nodes environment test) (stmt_walk body (in_block environment)).nodes [] _ (no_local environment test) (stmt_locals_is body (in_block environment))
  stmt_locals_is (stmt.Loops start test step body) environment =
      let begun = after start (in_block environment) in
      both_locals (stmt_walk start (in_block environment)).nodes
      (place (begins test) begun (node.ATest test) ∷ expr_nodes begun test ++ ((stmt_walk step begun).nodes ++ (stmt_walk body (in_block (after step begun))).nodes)) _ _
      (stmt_locals_is start (in_block environment))
      (both_locals (expr_nodes begun test) ((stmt_walk step begun).nodes ++ (stmt_walk body (in_block (after step begun))).nodes) [] _ (no_local begun test)
      (both_locals (stmt_walk step begun).nodes (stmt_walk body (in_block (after step begun))).nodes _ _ (stmt_locals_is step begun) (stmt_locals_is body (in_block (after step begun)))))
  stmt_locals_is (stmt.Prints at arguments) environment = no_print_local arguments environment
  stmt_locals_is (stmt.Gives at value) environment = no_local environment value
  stmt_locals_is (stmt.Returns at value) environment = no_if_any_local environment value

  pub stmts_locals_is : (ss : Stmts) (environment : Environment) → stmts_locals ss ≡ locals_among (stmts_walk ss environment).nodes
  stmts_locals_is stmt.NoStmt environment = refl
  stmts_locals_is (stmt.MoreStmts first others) environment =
      both_locals (stmt_walk first environment).nodes (stmts_walk others (after first environment)).nodes _ _ (stmt_locals_is first environment) (stmts_locals_is others (after first environment))
