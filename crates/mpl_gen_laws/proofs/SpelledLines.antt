-- In a program that has tokens each line that is printed has a value.
use Rattle.std.proofs.Common.{◌≡◌, Bool, true, false, ◌==◌, ◌&&◌, ℕ, List, [], ◌∷◌, ◌+◌, map, Option, Some, None, if◌then◌else◌, refl, sym, subst}
use Rattle.std.specs.Option.{option_and_then, option_map}
use Rattle.mpl_ast.specs.declared.class.Item.{Item}
use Rattle.mpl_ast.specs.declared.class.Item.TheVariants as item
use Rattle.mpl_ast.specs.declared.expression.Expression.{Expression}
use Rattle.mpl_ast.specs.declared.flow.Assignment.{Assignment}
use Rattle.mpl_ast.specs.declared.place.At.{At}
use Rattle.mpl_ast.specs.declared.program.Declaration.{Declaration}
use Rattle.mpl_ast.specs.declared.program.Declaration.TheVariants as declaration
use Rattle.mpl_ast.specs.declared.program.Program.{Program}
use Rattle.mpl_ast.specs.declared.statement.Block.{Block, Block-F, fold-Block, fold-roll-Block, map-Block, roll-Block}
use Rattle.mpl_ast.specs.declared.statement.ForStart.{ForStart}
use Rattle.mpl_ast.specs.declared.statement.ForStart.TheVariants.{Declare, Assign}
use Rattle.mpl_ast.specs.declared.statement.Statement.{Statement, fold-roll-Statement, map-Statement, roll-Statement, ind-Statement}
use Rattle.mpl_ast.specs.declared.statement.Statement.TheOpen.{Statement-F}
use Rattle.mpl_ast.specs.declared.token.Token.{Token}
use Rattle.mpl_ast.specs.declared.token.Keyword.TheVariants as word
use Rattle.mpl_ast.specs.declared.token.Mark.TheVariants as m
use Rattle.mpl_mean.specs.Laws.Sizes.{Every}
use Rattle.mpl_mean.specs.Plain.Expr.{expr_of}
use Rattle.mpl_mean.specs.Plain.Stmt.{Stmt, Stmts, assigns, if_any, in_turn, starts, stmt_of, stmts_of}
use Rattle.mpl_mean.specs.Plain.Stmt as stmt
use Rattle.mpl_mean.specs.Text.ExpressionText.{expression_text}
use Rattle.mpl_mean.specs.Text.ProgramText.{all_of, declaration_text, formals_text, item_text, kind_text, nothing_left, result_text, spells}
use Rattle.mpl_mean.specs.Text.Reading.{Reads, Rest, ◌>>◌, begins, each, ended, keyword, mark, mark_on, name, node, optional, separated}
use Rattle.mpl_mean.specs.Text.StatementText.{StatementText, before_else, block_of, block_step, block_text, for_head_text, statement_of, statement_step, statement_text, texts, type_text}
use Rattle.mpl_gen_laws.specs.PrintedLines.{AllPrint, DeclarationPrints, ItemPrints, LinesHaveValues, Prints, PrintsValues}

-- ---- what was read

-- it reads something, from somewhere on
abbrev Read : Reads → Type 0
Read a = (r : Rest) × (q : Rest) × (a r ≡ Some q)

first_read : (a b : Reads) → Read (a >> b) → Read a
first_read a b h = by_rest (a h.0) refl h.2 where
  by_rest : (o : Option Rest) → a h.0 ≡ o → option_and_then b o ≡ Some h.1 → Read a
  by_rest None e i = absurd cc
  by_rest (Some q) e i = (h.0, q, e)

second_read : (a b : Reads) → Read (a >> b) → Read b
second_read a b h = by_rest (a h.0) h.2 where
  by_rest : (o : Option Rest) → option_and_then b o ≡ Some h.1 → Read b
  by_rest None i = absurd cc
  by_rest (Some q) i = (q, h.1, i)

node_read : (at : At) (a : Reads) → Read (node at a) → Read a
node_read at a h = by_test ((at.id == (h.0).next) && begins at (h.0).tokens) h.2 where
  inside : Rest
  inside = record (h.0) { next = (h.0).next + 1 }

  by_rest : (o : Option Rest) → a (record (h.0) { next = (h.0).next + 1 }) ≡ o → ended at o ≡ Some h.1 → Read a
  by_rest None e i = absurd cc
  by_rest (Some q) e i = (record (h.0) { next = (h.0).next + 1 }, q, e)

  by_test : (b : Bool) → (if b then ended at (a (record (h.0) { next = (h.0).next + 1 })) else None) ≡ Some h.1 → Read a
  by_test true i = by_rest (a (record (h.0) { next = (h.0).next + 1 })) refl i
  by_test false i = absurd cc

each_read : {A : Type 0} (f : A → Reads) (xs : List A) → Read (each (map f xs)) → Every (λ x. Read (f x)) xs
each_read f [] h = tt
each_read f (x ∷ xs) h = (first_read (f x) (each (map f xs)) h, each_read f xs (second_read (f x) (each (map f xs)) h))

-- ---- statements

abbrev block_reads : Block → Reads
block_reads = fold-Block StatementText Reads statement_step block_step

abbrev block_stmts : Block → Stmts
block_stmts = fold-Block Stmt Stmts stmt.statement_step stmt.block_step

-- what reads something has values for its lines
record Good (s : StatementText) (a : Stmt) : Type 0 where
  prints : Read s.text → Prints a

record GoodBlock (s : Reads) (a : Stmts) : Type 0 where
  prints : Read s → AllPrint a

abbrev Good-Statement : Statement → Type 0
Good-Statement t = Good (statement_of t) (stmt_of t)

abbrev Good-Block : Block → Type 0
Good-Block t = GoodBlock (block_reads t) (block_stmts t)

abbrev With-Statement : Type 0
With-Statement = (t : Statement) × Good-Statement t

abbrev With-Block : Type 0
With-Block = (t : Block) × Good-Block t

same : {f g : StatementText} {a b : Stmt} → f ≡ g → a ≡ b → Good f a → Good g b
same {f} {g} {a} {b} i j h = subst (λ g. Good g b) i (subst (λ b. Good f b) j h)

same_block : {f g : Reads} {a b : Stmts} → f ≡ g → a ≡ b → GoodBlock f a → GoodBlock g b
same_block {f} {g} {a} {b} i j h = subst (λ g. GoodBlock g b) i (subst (λ b. GoodBlock f b) j h)

rolled-Statement : (layer : Statement-F Statement Block)
    → Good (statement_step (map-Statement Statement Block StatementText Reads statement_of block_reads layer)) (stmt.statement_step (map-Statement Statement Block Stmt Stmts stmt_of block_stmts layer)) → Good-Statement (roll-Statement layer)
rolled-Statement layer = same (sym (fold-roll-Statement StatementText Reads statement_step block_step layer)) (sym (fold-roll-Statement Stmt Stmts stmt.statement_step stmt.block_step layer))

rolled-Block : (layer : Block-F Statement Block)
    → GoodBlock (block_step (map-Block Statement Block StatementText Reads statement_of block_reads layer)) (stmt.block_step (map-Block Statement Block Stmt Stmts stmt_of block_stmts layer)) → Good-Block (roll-Block layer)
rolled-Block layer = same_block (sym (fold-roll-Block StatementText Reads statement_step block_step layer)) (sym (fold-roll-Block Stmt Stmts stmt.statement_step stmt.block_step layer))

each_prints : (ts : List With-Statement) → Read (each (texts (map statement_of (map (λ t. t.0) ts)))) → AllPrint (in_turn (map stmt_of (map (λ t. t.0) ts)))
each_prints [] h = tt
each_prints (t ∷ ts) h =
    (t.1.prints (first_read (statement_text t.0) (each (texts (map statement_of (map (λ t. t.0) ts)))) h), each_prints ts (second_read (statement_text t.0) (each (texts (map statement_of (map (λ t. t.0) ts)))) h))

-- behind the test of a branch or a loop
behind_test : (word test body : Reads) → Read (word >> mark m.OpenParenthesis >> test >> mark m.CloseParenthesis >> body) → Read body
behind_test word test body h =
    second_read (mark m.CloseParenthesis) body
    (second_read test (mark m.CloseParenthesis >> body)
    (second_read (mark m.OpenParenthesis) (test >> mark m.CloseParenthesis >> body)
    (second_read word (mark m.OpenParenthesis >> test >> mark m.CloseParenthesis >> body) h)))

before_read : (s : StatementText) → Read (before_else s) → Read s.text
before_read s h = by_else s.takes_else h where
  by_else : (b : Bool) → Read (if b then Rattle.mpl_mean.specs.Text.StatementText.refused else s.text) → Read s.text
  by_else true h = absurd (let e = h.2 in cc)
  by_else false h = h

values_there : (es : List Expression) → Read (separated (map expression_text es)) → PrintsValues (map expr_of es)
values_there [] h = absurd (let e = h.2 in cc)
values_there (e ∷ es) h = tt

start_prints : (o : Option ForStart) → Prints (if_any (option_map starts o))
start_prints None = tt
start_prints (Some (Declare local)) = tt
start_prints (Some (Assign assignment)) = tt

step_prints : (o : Option Assignment) → Prints (if_any (option_map assigns o))
step_prints None = tt
step_prints (Some assignment) = tt

statement_layer : (y : Statement-F With-Statement With-Block) → Good-Statement (roll-Statement (map-Statement With-Statement With-Block Statement Block (λ t. t.0) (λ t. t.0) y))
statement_layer (Statement-F.OfBlock at t) = rolled-Statement (Statement-F.OfBlock at t.0) (record { prints = λ h. t.1.prints (node_read at (block_reads t.0) h) })
statement_layer (Statement-F.Declare at local) = rolled-Statement (Statement-F.Declare at local) (record { prints = λ h. tt })
statement_layer (Statement-F.Assign at assignment) = rolled-Statement (Statement-F.Assign at assignment) (record { prints = λ h. tt })
statement_layer (Statement-F.CallAlone at c) = rolled-Statement (Statement-F.CallAlone at c) (record { prints = λ h. tt })
statement_layer (Statement-F.Create at target) = rolled-Statement (Statement-F.Create at target) (record { prints = λ h. tt })
statement_layer (Statement-F.If at test t None) =
    rolled-Statement (Statement-F.If at test t.0 None) (record { prints = λ h. t.1.prints (behind_test (keyword word.If) (expression_text test) (statement_text t.0) (node_read at _ h)) })
statement_layer (Statement-F.If at test t (Some u)) = rolled-Statement (Statement-F.If at test t.0 (Some u.0)) (record {
  prints = λ h.
      let rest = behind_test (keyword word.If) (expression_text test) (before_else (statement_of t.0) >> keyword word.Else >> statement_text u.0) (node_read at _ h) in (
        t.1.prints (before_read (statement_of t.0) (first_read (before_else (statement_of t.0)) (keyword word.Else >> statement_text u.0) rest)),
        u.1.prints (second_read (keyword word.Else) (statement_text u.0) (second_read (before_else (statement_of t.0)) (keyword word.Else >> statement_text u.0) rest)),
      );
})
statement_layer (Statement-F.While at test t) =
    rolled-Statement (Statement-F.While at test t.0) (record { prints = λ h. t.1.prints (behind_test (keyword word.While) (expression_text test) (statement_text t.0) (node_read at _ h)) })
statement_layer (Statement-F.For at head t) =
    rolled-Statement (Statement-F.For at head t.0)
    (record { prints = λ h. (start_prints head.start, step_prints head.step, t.1.prints (behind_test (keyword word.For) (for_head_text head) (statement_text t.0) (node_read at _ h))) })
statement_layer (Statement-F.Print at es) = rolled-Statement (Statement-F.Print at es) (record {
  prints = λ h.
      values_there es
      (first_read (separated (map expression_text es)) (mark m.CloseParenthesis >> mark m.Semicolon)
      (second_read (mark m.OpenParenthesis) (separated (map expression_text es) >> mark m.CloseParenthesis >> mark m.Semicolon)
      (second_read (keyword word.Print) (mark m.OpenParenthesis >> separated (map expression_text es) >> mark m.CloseParenthesis >> mark m.Semicolon) (node_read at _ h))));
})
statement_layer (Statement-F.Rtf at value) = rolled-Statement (Statement-F.Rtf at value) (record { prints = λ h. tt })
statement_layer (Statement-F.Return at value) = rolled-Statement (Statement-F.Return at value) (record { prints = λ h. tt })
statement_layer (Statement-F.Empty at) = rolled-Statement (Statement-F.Empty at) (record { prints = λ h. tt })

inside_block : (at : At) (line : ℕ) (statements : List Reads) → Read (block_of at line statements) → Read (each statements)
inside_block at line statements h =
    first_read (each statements) (mark_on line m.CloseBrace) (second_read (mark m.OpenBrace) (each statements >> mark_on line m.CloseBrace) (node_read at (mark m.OpenBrace >> each statements >> mark_on line m.CloseBrace) h))

block_layer : (y : Block-F With-Statement With-Block) → Good-Block (roll-Block (map-Block With-Statement With-Block Statement Block (λ t. t.0) (λ t. t.0) y))
block_layer y =
    rolled-Block (map-Block With-Statement With-Block Statement Block (λ t. t.0) (λ t. t.0) y)
    (record { prints = λ h. each_prints y.statements (inside_block y.at y.mark_line (texts (map statement_of (map (λ t. t.0) y.statements))) h) })

statement_good : (t : Statement) → Good-Statement t
statement_good =
    ind-Statement Good-Statement Good-Block (λ y z is. subst (λ l. Good-Statement (roll-Statement l)) is (statement_layer z))
    (λ y z is. subst (λ l. Good-Block (roll-Block l)) is (block_layer z))

statements_print : (ts : List Statement) → Read (each (map statement_text ts)) → AllPrint (in_turn (map stmt_of ts))
statements_print [] h = tt
statements_print (t ∷ ts) h =
    ((statement_good t).prints (first_read (statement_text t) (each (map statement_text ts)) h), statements_print ts (second_read (statement_text t) (each (map statement_text ts)) h))

body_prints : (b : Block) → Read (block_text b) → AllPrint (stmts_of b)
body_prints b h = statements_print b.statements (inside_block b.at b.mark_line (map statement_text b.statements) h)

-- ---- programs

behind_formals : (result called : Reads) (formals body : Reads) → Read (result >> called >> mark m.OpenParenthesis >> formals >> mark m.CloseParenthesis >> body) → Read body
behind_formals result called formals body h =
    second_read (mark m.CloseParenthesis) body
    (second_read formals (mark m.CloseParenthesis >> body)
    (second_read (mark m.OpenParenthesis) (formals >> mark m.CloseParenthesis >> body)
    (second_read called (mark m.OpenParenthesis >> formals >> mark m.CloseParenthesis >> body)
    (second_read result (called >> mark m.OpenParenthesis >> formals >> mark m.CloseParenthesis >> body) h))))

item_prints : (i : Item) → Read (item_text i) → ItemPrints i
item_prints (item.OfField at field) h = tt
item_prints (item.Member at result member formals body) h = body_prints body (behind_formals (result_text result) (name member) (optional (option_map formals_text formals)) (block_text body) (node_read at _ h))
item_prints (item.Select at line entries) h = tt
item_prints (item.Public at) h = tt
item_prints (item.Private at) h = tt
item_prints (item.Empty at) h = tt

every_item : (items : List Item) → Every (λ i. Read (item_text i)) items → Every ItemPrints items
every_item [] h = tt
every_item (i ∷ items) h = (item_prints i h.0, every_item items h.1)

declaration_prints : (d : Declaration) → Read (declaration_text d) → DeclarationPrints d
declaration_prints (declaration.Struct at line struct fields) h = tt
declaration_prints (declaration.Class at line kind class items) h =
    let inner = each (map item_text items) in
    let behind = mark_on line m.CloseBrace >> mark m.Semicolon in
    every_item items (each_read item_text items
    (first_read inner behind
    (second_read (mark m.OpenBrace) (inner >> behind)
    (second_read (name class) (mark m.OpenBrace >> inner >> behind)
    (second_read (keyword word.Class) (name class >> mark m.OpenBrace >> inner >> behind)
    (second_read (keyword word.Mentat) (keyword word.Class >> name class >> mark m.OpenBrace >> inner >> behind)
    (second_read (kind_text kind) (keyword word.Mentat >> keyword word.Class >> name class >> mark m.OpenBrace >> inner >> behind) (node_read at _ h))))))))
declaration_prints (declaration.Function at result function formals body) h =
    body_prints body (behind_formals (type_text result) (name function) (optional (option_map formals_text formals)) (block_text body) (node_read at _ h))

declarations_print : (ds : List Declaration) → Every (λ d. Read (declaration_text d)) ds → Every DeclarationPrints ds
declarations_print [] h = tt
declarations_print (d ∷ ds) h = (declaration_prints d h.0, declarations_print ds h.1)

pub spelled_prints : (p : Program) (tokens : List Token) → spells p tokens ≡ true → LinesHaveValues p
spelled_prints p [] h = by_test ((p.at.id == 0) && (p.at.span.from == 0) && (p.at.span.to == 0) && (p.at.line == 1)) h where
  by_rest : (o : Option Rest) → each (map declaration_text p.declarations) (all_of []) ≡ o → nothing_left o ≡ true → LinesHaveValues p
  by_rest None e i = absurd cc
  by_rest (Some q) e i = declarations_print p.declarations (each_read declaration_text p.declarations (all_of [], q, e))

  by_test : (b : Bool) → nothing_left (if b then each (map declaration_text p.declarations) (all_of []) else None) ≡ true → LinesHaveValues p
  by_test true i = by_rest (each (map declaration_text p.declarations) (all_of [])) refl i
  by_test false i = absurd cc
spelled_prints p (t ∷ ts) h = by_rest (node p.at (each (map declaration_text p.declarations)) (all_of (t ∷ ts))) refl h where
  by_rest : (o : Option Rest) → node p.at (each (map declaration_text p.declarations)) (all_of (t ∷ ts)) ≡ o → nothing_left o ≡ true → LinesHaveValues p
  by_rest None e i = absurd cc
  by_rest (Some q) e i = declarations_print p.declarations (each_read declaration_text p.declarations (node_read p.at (each (map declaration_text p.declarations)) (all_of (t ∷ ts), q, e)))
