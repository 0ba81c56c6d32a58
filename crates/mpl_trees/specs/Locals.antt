-- Types, dimensions and local variables are taken.
use Rattle.std.specs.Prelude.{Bool, true, List, Option, Some, None, if◌then◌else◌}
use Rattle.mpl_ast.specs.declared.flow.Flow.{Flow}
use Rattle.mpl_ast.specs.declared.place.At.{At}
use Rattle.mpl_ast.specs.declared.place.Name.{Name}
use Rattle.mpl_ast.specs.declared.statement.Declarator.{Declarator}
use Rattle.mpl_ast.specs.declared.statement.Declarator.TheVariants.{Plain, Initialized}
use Rattle.mpl_ast.specs.declared.statement.Dimension.{Dimension}
use Rattle.mpl_ast.specs.declared.statement.Local.{Local}
use Rattle.mpl_ast.specs.declared.statement.TypeName.{TypeName}
use Rattle.mpl_ast.specs.declared.statement.TypeName.TheVariants as type
use Rattle.mpl_ast.specs.declared.token.Keyword.TheVariants as word
use Rattle.mpl_ast.specs.declared.token.Mark.TheVariants as m
use Rattle.mpl_ast.specs.declared.token.TokenKind.{TokenKind}
use Rattle.mpl_ast.specs.declared.token.TokenKind.TheVariants as kind
use Rattle.mpl_mean.specs.Text.Reading.{is_mark, keyword, mark}
use Rattle.mpl_trees.specs.Taking.{Takes, ahead, alone, between, both, continued, is_ahead, line_of, made, node_of, skip_then, some_of, take_name, take_number, where_ahead}

abbrev pub type_at : Option TokenKind → Takes TypeName
type_at (Some (kind.Name text)) limit r = node_of type.Named take_name limit r
type_at (Some (kind.Keyword word.Int)) limit r = node_of (λ at (n : Bool). type.Int at) (alone true (keyword word.Int)) limit r
type_at (Some (kind.Keyword word.Bool)) limit r = node_of (λ at (n : Bool). type.Bool at) (alone true (keyword word.Bool)) limit r
type_at _ limit r = None

abbrev pub take_type : Takes TypeName
take_type limit r = type_at (ahead r.tokens) limit r

abbrev pub take_dimension : Takes Dimension
take_dimension limit r = node_of (λ at n. record { at = at; mark_line = line_of r.tokens; number = n }) (between m.OpenBracket take_number m.CloseBracket) limit r

abbrev pub take_dimension_if_any : Takes (Option Dimension)
take_dimension_if_any = where_ahead (is_mark m.OpenBracket) take_dimension

-- behind a name: its first value, or else its dimension
abbrev pub declared_behind : Takes Flow → Name → Takes (At → Declarator)
declared_behind flow variable limit r =
    if is_ahead (is_mark m.Assign) r.tokens then made (λ value at. Initialized at variable value) (skip_then (mark m.Assign) flow) limit r
    else made (λ dimension at. Plain at variable dimension) take_dimension_if_any limit r

abbrev pub take_declarator : Takes Flow → Takes Declarator
take_declarator flow = node_of (λ at p. p at) (continued take_name (declared_behind flow))

abbrev pub take_local : Takes Flow → Takes Local
take_local flow =
    node_of (λ at (p : TypeName × List Declarator). record { at = at; type_name = p.0; declarators = p.1 }) (both (λ type_name declarators. (type_name, declarators)) take_type (some_of (take_declarator flow)))
