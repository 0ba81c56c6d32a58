-- Declarations are taken, and whole programs.
use Rattle.std.specs.Prelude.{ℕ, zero, suc, Bool, true, List, [], ◌∷◌, length, Option, Some, None, if◌then◌else◌}
use Rattle.std.specs.Option.{option_and_then, option_map}
use Rattle.mpl_ast.specs.declared.class.Entry.{Entry}
use Rattle.mpl_ast.specs.declared.class.Field.{Field}
use Rattle.mpl_ast.specs.declared.class.FieldName.{FieldName}
use Rattle.mpl_ast.specs.declared.class.Formal.{Formal}
use Rattle.mpl_ast.specs.declared.class.Formals.{Formals}
use Rattle.mpl_ast.specs.declared.class.Item.{Item}
use Rattle.mpl_ast.specs.declared.class.Item.TheVariants as item
use Rattle.mpl_ast.specs.declared.class.Kind.{Kind}
use Rattle.mpl_ast.specs.declared.class.Kind.TheVariants.{Regular, Persistent}
use Rattle.mpl_ast.specs.declared.class.ResultType.{ResultType}
use Rattle.mpl_ast.specs.declared.class.ResultType.TheVariants.{Void, Typed}
use Rattle.mpl_ast.specs.declared.expression.Expression.{Expression}
use Rattle.mpl_ast.specs.declared.place.Name.{Name}
use Rattle.mpl_ast.specs.declared.place.Number.{Number}
use Rattle.mpl_ast.specs.declared.program.Declaration.{Declaration}
use Rattle.mpl_ast.specs.declared.program.Declaration.TheVariants as declaration
use Rattle.mpl_ast.specs.declared.program.Program.{Program}
use Rattle.mpl_ast.specs.declared.statement.Block.{Block}
use Rattle.mpl_ast.specs.declared.statement.Dimension.{Dimension}
use Rattle.mpl_ast.specs.declared.statement.TypeName.{TypeName}
use Rattle.mpl_ast.specs.declared.token.Keyword.TheVariants as word
use Rattle.mpl_ast.specs.declared.token.Mark.TheVariants as m
use Rattle.mpl_ast.specs.declared.token.Token.{Token}
use Rattle.mpl_ast.specs.declared.token.TokenKind.{TokenKind}
use Rattle.mpl_ast.specs.declared.token.TokenKind.TheVariants as kind
use Rattle.mpl_mean.specs.Text.ProgramText.{all_of as every_token}
use Rattle.mpl_mean.specs.Text.Reading.{Rest, is_keyword, is_mark, keyword, mark}
use Rattle.mpl_trees.specs.Expressions.{second}
use Rattle.mpl_trees.specs.Locals.{take_dimension_if_any, take_type}
use Rattle.mpl_trees.specs.Statements.{take_block, take_statement, take_test}
use Rattle.mpl_trees.specs.Taking.{Takes, ahead, all_of, alone, both, is_ahead, line_of, node_of, parenthesized, skip_then, some_of, take_name, take_number, then_skip, unless_ahead, where_ahead}

-- ---- fields and formals

abbrev pub take_field_name : Takes FieldName
take_field_name = both (λ (n : Name) (d : Option Dimension). record { name = n; dimension = d }) take_name take_dimension_if_any

abbrev pub take_field : Takes Field
take_field =
    node_of (λ at (p : TypeName × List FieldName). record { at = at; type_name = p.0; names = p.1 }) (both (λ type_name names. (type_name, names)) take_type (then_skip (some_of take_field_name) (mark m.Semicolon)))

abbrev pub take_formal : Takes Formal
take_formal = both (λ (t : TypeName) (n : Name). record { type_name = t; name = n }) take_type take_name

abbrev pub take_formals : Takes Formals
take_formals = node_of (λ at list. record { at = at; list = list }) (some_of take_formal)

abbrev pub take_formals_if_any : Takes (Option Formals)
take_formals_if_any = parenthesized (unless_ahead (is_mark m.CloseParenthesis) take_formals)

abbrev pub take_body : Takes Block
take_body limit r = take_block (take_statement (length r.tokens)) limit r

-- formals and a body
abbrev pub take_function : Takes (Option Formals × Block)
take_function = both (λ formals body. (formals, body)) take_formals_if_any take_body

-- ---- up to a closing brace, with its line

abbrev pub take_braced : {A : Type 0} → Takes A → Takes (List A × ℕ)
take_braced {A = A} take limit r =
    option_and_then (λ (p : List A × Rest). option_map (λ x. ((p.0, line_of p.1.tokens), x)) (mark m.CloseBrace p.1)) (skip_then (mark m.OpenBrace) (all_of take (length r.tokens)) limit r)

-- ---- entries

abbrev pub take_guard : Takes Expression
take_guard limit r = skip_then (keyword word.Guard) (take_test (length r.tokens)) limit r

abbrev pub take_entry : Takes Entry
take_entry =
    node_of (λ at (p : Number × (Option Expression × Name)). record { at = at; priority = p.0; guard = p.1.0; member = p.1.1 })
    (skip_then (keyword word.Priority) (both (λ priority behind. (priority, behind)) (then_skip take_number (mark m.Colon))
    (both (λ guard member. (guard, member)) (where_ahead (is_keyword word.Guard) take_guard) (skip_then (keyword word.Accept) (then_skip take_name (mark m.Semicolon))))))

-- ---- items

abbrev pub take_void : Takes ResultType
take_void = node_of (λ at (n : Bool). Void at) (alone true (keyword word.Void))

abbrev pub take_typed : Takes ResultType
take_typed = node_of Typed take_type

abbrev pub take_member : Takes ResultType → Takes Item
take_member kind =
    node_of (λ at (p : ResultType × (Name × (Option Formals × Block))). item.Member at p.0 p.1.0 p.1.1.0 p.1.1.1) (both (λ r p. (r, p)) kind (both (λ n p. (n, p)) take_name take_function))

abbrev pub take_typed_item : Takes Item
take_typed_item limit r = if is_ahead (is_mark m.OpenParenthesis) (second (second r.tokens)) then take_member take_typed limit r else node_of item.OfField take_field limit r

abbrev pub take_select : Takes Item
take_select = node_of (λ at (p : List Entry × ℕ). item.Select at p.1 p.0) (skip_then (keyword word.Select) (take_braced take_entry))

abbrev pub item_at : Option TokenKind → Takes Item
item_at (Some (kind.Name text)) limit r = take_typed_item limit r
item_at (Some (kind.Keyword word.Int)) limit r = take_typed_item limit r
item_at (Some (kind.Keyword word.Bool)) limit r = take_typed_item limit r
item_at (Some (kind.Keyword word.Void)) limit r = take_member take_void limit r
item_at (Some (kind.Keyword word.Select)) limit r = take_select limit r
item_at (Some (kind.Keyword word.Public)) limit r = node_of (λ at (n : Bool). item.Public at) (then_skip (alone true (keyword word.Public)) (mark m.Colon)) limit r
item_at (Some (kind.Keyword word.Private)) limit r = node_of (λ at (n : Bool). item.Private at) (then_skip (alone true (keyword word.Private)) (mark m.Colon)) limit r
item_at (Some (kind.Mark m.Semicolon)) limit r = node_of (λ at (n : Bool). item.Empty at) (alone true (mark m.Semicolon)) limit r
item_at _ limit r = None

abbrev pub take_item : Takes Item
take_item limit r = item_at (ahead r.tokens) limit r

-- ---- declarations

abbrev pub take_struct : Takes Declaration
take_struct =
    node_of (λ at (p : Name × (List Field × ℕ)). declaration.Struct at p.1.1 p.0 p.1.0) (skip_then (keyword word.Struct) (both (λ n fields. (n, fields)) take_name (then_skip (take_braced take_field) (mark m.Semicolon))))

abbrev pub take_regular : Takes Kind
take_regular = node_of (λ at (n : Bool). Regular at) (alone true (keyword word.Regular))

abbrev pub take_persistent : Takes Kind
take_persistent = node_of (λ at (n : Bool). Persistent at) (alone true (keyword word.Persistent))

abbrev pub take_class : Takes Kind → Takes Declaration
take_class kind =
    node_of (λ at (p : Kind × (Name × (List Item × ℕ))). declaration.Class at p.1.1.1 p.0 p.1.0 p.1.1.0)
    (both (λ k p. (k, p)) kind (skip_then (keyword word.Mentat) (skip_then (keyword word.Class) (both (λ n items. (n, items)) take_name (then_skip (take_braced take_item) (mark m.Semicolon))))))

abbrev pub take_function_declaration : Takes Declaration
take_function_declaration =
    node_of (λ at (p : TypeName × (Name × (Option Formals × Block))). declaration.Function at p.0 p.1.0 p.1.1.0 p.1.1.1) (both (λ r p. (r, p)) take_type (both (λ n p. (n, p)) take_name take_function))

abbrev pub declaration_at : Option TokenKind → Takes Declaration
declaration_at (Some (kind.Keyword word.Struct)) limit r = take_struct limit r
declaration_at (Some (kind.Keyword word.Regular)) limit r = take_class take_regular limit r
declaration_at (Some (kind.Keyword word.Persistent)) limit r = take_class take_persistent limit r
declaration_at _ limit r = take_function_declaration limit r

abbrev pub take_declaration : Takes Declaration
take_declaration limit r = declaration_at (ahead r.tokens) limit r

-- ---- programs

-- all to the last token, at most so many
abbrev pub declarations_at : Takes (List Declaration) → Option TokenKind → Takes (List Declaration)
declarations_at more None limit r = Some ([], r)
declarations_at more (Some k) limit r = both ◌∷◌ take_declaration more limit r

abbrev pub take_declarations : ℕ → Takes (List Declaration)
take_declarations zero limit r = Some ([], r)
take_declarations (suc n) limit r = declarations_at (take_declarations n) (ahead r.tokens) limit r

-- a program of no token stands at byte 0 of line 1
abbrev pub take_program : ℕ → List Token → Option Program
take_program limit [] = Some (record { at = record { span = record { from = 0; to = 0 }; line = 1; id = 0 }; declarations = [] })
take_program limit (t ∷ ts) =
    option_map (λ (p : Program × Rest). p.0) (node_of (λ at list. record { at = at; declarations = list }) (take_declarations (length (t ∷ ts))) limit (every_token (t ∷ ts)))
