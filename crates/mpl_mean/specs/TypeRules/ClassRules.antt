-- The type rules on classes: rules 9 to 11 and 25.
use Rattle.std.specs.Prelude.{Bool, true, false, ◌&&◌, ◌==◌, nat_le, Some}
use Rattle.std.specs.List.{list_all}
use Rattle.mpl_ast.specs.declared.class.ResultType.{ResultType}
use Rattle.mpl_ast.specs.declared.class.ResultType.TheVariants.{Void, Typed}
use Rattle.mpl_mean.specs.Meaning.Layout.{natural}
use Rattle.mpl_mean.specs.TypeRules.Nodes.{Node, Located, expr_nodes}
use Rattle.mpl_mean.specs.TypeRules.Nodes as node
use Rattle.mpl_mean.specs.Plain.Expr.{Expr}
use Rattle.mpl_mean.specs.TypeRules.Scopes.{Environment, is_persistent}
use Rattle.mpl_mean.specs.TypeRules.Types.{OfBool, agree}
use Rattle.mpl_mean.specs.TypeRules.Typing.{type_of}
use Rattle.mpl_mean.specs.Limits.{greatest_priority}

-- ---- rule 9

-- Only a persistent class has state members and `select`.
abbrev pub state_is_persistent : Environment → Node → Bool
state_is_persistent environment node.AState = is_persistent environment.class
state_is_persistent environment other = true

-- ---- rule 10

-- A class has at most one `select`; a priority is at most 255.
abbrev pub select_is_allowed : Environment → Node → Bool
select_is_allowed environment (node.ASelect before) = before == 0
select_is_allowed environment (node.APriority value) = nat_le (natural value) greatest_priority
select_is_allowed environment other = true

-- ---- rule 11

abbrev pub may_stand_in_guard : Node → Bool
may_stand_in_guard (node.APlainCall function arguments) = false
may_stand_in_guard node.AnInput = false
may_stand_in_guard node.AnOwn = false
may_stand_in_guard other = true

abbrev pub is_guard : Environment → Expr → Bool
is_guard environment test = agree (Some OfBool) (type_of environment test) && list_all (λ (p : Located). may_stand_in_guard p.node) (expr_nodes environment test)

-- A guard is `bool`, and has no plain call, no `input()`, no `self`. What is in its scope are the state members and the
-- formals of its member: any other name is not known.
abbrev pub guard_is_allowed : Environment → Node → Bool
guard_is_allowed environment (node.AGuard test) = is_guard environment test
guard_is_allowed environment other = true

-- ---- rule 25

abbrev pub has_value : ResultType → Bool
has_value (Void at) = false
has_value (Typed at type) = true

abbrev pub member_may_have : Bool → ResultType → Bool
member_may_have true result = true
member_may_have false result = has_value result

-- A member of a regular class is not void.
abbrev pub member_gives_value : Environment → Node → Bool
member_gives_value environment (node.AMember before result) = member_may_have (is_persistent environment.class) result
member_gives_value environment other = true
