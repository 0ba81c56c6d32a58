-- The tokens of a program.
use Rattle.std.specs.Prelude.{Bool, true, false, ◌&&◌, ◌==◌, List, [], ◌∷◌, map, Option, Some, None, if◌then◌else◌}
use Rattle.std.specs.Option.{option_map}
use Rattle.mpl_ast.specs.declared.class.Entry.{Entry}
use Rattle.mpl_ast.specs.declared.class.Field.{Field}
use Rattle.mpl_ast.specs.declared.class.FieldName.{FieldName}
use Rattle.mpl_ast.specs.declared.class.Formal.{Formal}
use Rattle.mpl_ast.specs.declared.class.Formals.{Formals}
use Rattle.mpl_ast.specs.declared.class.Item.{Item}
use Rattle.mpl_ast.specs.declared.class.Item.TheVariants as item
use Rattle.mpl_ast.specs.declared.class.Kind.{Kind}
use Rattle.mpl_ast.specs.declared.class.Kind.TheVariants.{Regular, Persistent}
use Rattle.mpl_ast.specs.declared.class.ResultType.{ResultType}
use Rattle.mpl_ast.specs.declared.class.ResultType.TheVariants.{Void, Typed}
use Rattle.mpl_ast.specs.declared.expression.Expression.{Expression}
use Rattle.mpl_ast.specs.declared.program.Declaration.{Declaration}
use Rattle.mpl_ast.specs.declared.program.Declaration.TheVariants as declaration
use Rattle.mpl_ast.specs.declared.program.Program.{Program}
use Rattle.mpl_ast.specs.declared.token.Keyword.TheVariants as word
use Rattle.mpl_ast.specs.declared.token.Mark.TheVariants as m
use Rattle.mpl_ast.specs.declared.token.Token.{Token}
use Rattle.mpl_mean.specs.Text.Reading.{Reads, Rest, ◌>>◌, node, mark, mark_on, keyword, name, number, each, separated, optional}
use Rattle.mpl_mean.specs.Text.ExpressionText.{expression_text}
use Rattle.mpl_mean.specs.Text.StatementText.{block_text, dimension_text, type_text}

abbrev pub kind_text : Kind → Reads
kind_text (Regular at) = node at (keyword word.Regular)
kind_text (Persistent at) = node at (keyword word.Persistent)

abbrev pub field_name_text : FieldName → Reads
field_name_text f = name f.name >> optional (option_map dimension_text f.dimension)

abbrev pub field_text : Field → Reads
field_text f = node f.at (type_text f.type_name >> separated (map field_name_text f.names) >> mark m.Semicolon)

abbrev pub formal_text : Formal → Reads
formal_text f = type_text f.type_name >> name f.name

abbrev pub formals_text : Formals → Reads
formals_text f = node f.at (separated (map formal_text f.list))

abbrev pub result_text : ResultType → Reads
result_text (Void at) = node at (keyword word.Void)
result_text (Typed at type) = node at (type_text type)

abbrev pub guard_text : Expression → Reads
guard_text test = keyword word.Guard >> mark m.OpenParenthesis >> expression_text test >> mark m.CloseParenthesis

abbrev pub entry_text : Entry → Reads
entry_text e =
    node e.at (keyword word.Priority >> number e.priority >> mark m.Colon >> optional (option_map guard_text e.guard)
    >> keyword word.Accept >> name e.member >> mark m.Semicolon)

abbrev pub item_text : Item → Reads
item_text (item.OfField at field) = node at (field_text field)
item_text (item.Member at result member formals body) =
    node at (result_text result >> name member >> mark m.OpenParenthesis >> optional (option_map formals_text formals) >> mark m.CloseParenthesis >> block_text body)
item_text (item.Select at line entries) =
    node at (keyword word.Select >> mark m.OpenBrace >> each (map entry_text entries) >> mark_on line m.CloseBrace)
item_text (item.Public at) = node at (keyword word.Public >> mark m.Colon)
item_text (item.Private at) = node at (keyword word.Private >> mark m.Colon)
item_text (item.Empty at) = node at (mark m.Semicolon)

abbrev pub declaration_text : Declaration → Reads
declaration_text (declaration.Struct at line struct fields) =
    node at (keyword word.Struct >> name struct >> mark m.OpenBrace >> each (map field_text fields) >> mark_on line m.CloseBrace >> mark m.Semicolon)
declaration_text (declaration.Class at line kind class items) =
    node at (kind_text kind >> keyword word.Mentat >> keyword word.Class >> name class >> mark m.OpenBrace >> each (map item_text items)
    >> mark_on line m.CloseBrace >> mark m.Semicolon)
declaration_text (declaration.Function at result function formals body) =
    node at (type_text result >> name function >> mark m.OpenParenthesis >> optional (option_map formals_text formals) >> mark m.CloseParenthesis >> block_text body)

-- before anything is read
abbrev pub all_of : List Token → Rest
all_of tokens = record { tokens = tokens; last = 0; next = 0 }

-- a program of no token stands at byte 0 of line 1
abbrev pub program_text : Program → List Token → Option Rest
program_text p [] =
    if (p.at.id == 0) && (p.at.span.from == 0) && (p.at.span.to == 0) && (p.at.line == 1)
    then each (map declaration_text p.declarations) (all_of [])
    else None
program_text p (t ∷ ts) = node p.at (each (map declaration_text p.declarations)) (all_of (t ∷ ts))

abbrev pub nothing_left : Option Rest → Bool
nothing_left None = false
nothing_left (Some rest) = is_empty rest.tokens where
  is_empty : List Token → Bool
  is_empty [] = true
  is_empty (t ∷ ts) = false

-- the program spells the tokens: it reads all of them
abbrev pub spells : Program → List Token → Bool
spells p tokens = nothing_left (program_text p tokens)
