-- The type rules on statements: rules 23, 24 and 26.
use Rattle.std.specs.Prelude.{Bool, true, false, Option, Some, None}
use Rattle.mpl_ast.specs.declared.class.ResultType.TheVariants.{Typed}
use Rattle.mpl_mean.specs.TypeRules.Nodes.{Node}
use Rattle.mpl_mean.specs.TypeRules.Nodes as node
use Rattle.mpl_mean.specs.Plain.Expr.{Expr}
use Rattle.mpl_mean.specs.TypeRules.Scopes.{Environment, Body, InMain, InFunction, InMember, is_in_main}
use Rattle.mpl_mean.specs.TypeRules.Types.{OfInt, AsResult, agree, meant, value_type}
use Rattle.mpl_mean.specs.TypeRules.Typing.{type_of}

-- ---- rule 23

-- `print` and `input()` stand only in main.
abbrev pub speaks_in_main : Environment → Node → Bool
speaks_in_main environment node.APrint = is_in_main environment.body
speaks_in_main environment node.AnInput = is_in_main environment.body
speaks_in_main environment other = true

-- ---- rule 24

abbrev pub can_give : Environment → Body → Expr → Bool
can_give environment (InMember (Typed at type)) value = agree (type_of environment value) (value_type AsResult (meant environment.declarations type))
can_give environment body value = false

-- `rtf` stands only in a member with a value, and its operand has the result type.
abbrev pub rtf_agrees : Environment → Node → Bool
rtf_agrees environment (node.AnRtf value) = can_give environment environment.body value
rtf_agrees environment other = true

-- ---- rule 26

abbrev pub can_return : Environment → Body → Option Expr → Bool
can_return environment InMain (Some value) = agree (type_of environment value) (Some OfInt)
can_return environment InMain None = false
can_return environment (InFunction type) (Some value) = agree (type_of environment value) (value_type AsResult (meant environment.declarations type))
can_return environment (InFunction type) None = false
can_return environment (InMember result) None = true
can_return environment body value = false

-- `return` has an expression of the result type in a plain function, an `int` expression in main, and none in a member.
abbrev pub return_agrees : Environment → Node → Bool
return_agrees environment (node.AReturn value) = can_return environment environment.body value
return_agrees environment other = true
