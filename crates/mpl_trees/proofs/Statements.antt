-- Every statement and every block is taken.
use Rattle.std.proofs.Common.{◌≡◌, List, [], ◌∷◌, map, Some, None, refl, ap, sym, ◌∙◌, subst}
use Rattle.std.specs.List.{AllByRecursion}
use Rattle.mpl_ast.specs.declared.statement.Block.{Block, Block-F, fold-Block, fold-roll-Block, map-Block, roll-Block}
use Rattle.mpl_ast.specs.declared.statement.Statement.{Statement, fold-roll-Statement, ind-Statement, map-Statement, roll-Statement}
use Rattle.mpl_ast.specs.declared.statement.Statement.TheOpen.{Statement-F}
use Rattle.mpl_mean.specs.Text.Reading.{Reads}
use Rattle.mpl_mean.specs.Text.StatementText as text
use Rattle.mpl_mean.specs.Text.StatementText.{StatementText, assignment_text, before_else, block_of, block_text, call_text, closed, ending_with, flow_text, for_head_text, local_text, refused, statement_of, statement_text, texts}
use Rattle.mpl_trees.proofs.PlainStatements.{Formed, Stated, assign-is, call_alone-is, create-is, declare-is, empty-is, print-is, return-is, rtf-is, stated}
use Rattle.mpl_trees.proofs.WordStatements.{Blocked, block-is, for-is, if-is, if_else-is, of_block-is, while-is}

abbrev block_reads : Block → Reads
block_reads = fold-Block StatementText Reads text.statement_step text.block_step

abbrev IsStated : Statement → Type 0
IsStated s = Stated (statement_of s) s

abbrev IsBlocked : Block → Type 0
IsBlocked b = Blocked (block_reads b) b

abbrev With-Statement : Type 0
With-Statement = (s : Statement) × IsStated s

abbrev With-Block : Type 0
With-Block = (b : Block) × IsBlocked b

rolled : (layer : Statement-F Statement Block) → Formed (text.statement_step (map-Statement Statement Block StatementText Reads statement_of block_reads layer)) (roll-Statement layer) → IsStated (roll-Statement layer)
rolled layer f = subst (λ t. Stated t (roll-Statement layer)) (sym (fold-roll-Statement StatementText Reads text.statement_step text.block_step layer)) (stated f)

each_stated : (ts : List With-Statement) → AllByRecursion IsStated (map (λ s. s.0) ts)
each_stated [] = tt
each_stated (s ∷ ts) = (s.1, each_stated ts)

texts_of : (ts : List Statement) → map statement_text ts ≡ texts (map statement_of ts)
texts_of [] = refl
texts_of (s ∷ ts) = ap (λ rs. statement_text s ∷ rs) (texts_of ts)

statement_layer : (y : Statement-F With-Statement With-Block) → IsStated (roll-Statement (map-Statement With-Statement With-Block Statement Block (λ s. s.0) (λ b. b.0) y))
statement_layer (Statement-F.OfBlock at b) = rolled (Statement-F.OfBlock at b.0) (of_block-is at (block_reads b.0) b.0 b.1)
statement_layer (Statement-F.Declare at l) = rolled (Statement-F.Declare at l) (declare-is at l)
statement_layer (Statement-F.Assign at a) = rolled (Statement-F.Assign at a) (assign-is at a)
statement_layer (Statement-F.CallAlone at c) = rolled (Statement-F.CallAlone at c) (call_alone-is at c)
statement_layer (Statement-F.Create at t) = rolled (Statement-F.Create at t) (create-is at t)
statement_layer (Statement-F.If at e s None) = rolled (Statement-F.If at e s.0 None) (if-is at e (statement_of s.0) s.0 s.1)
statement_layer (Statement-F.If at e s (Some o)) = rolled (Statement-F.If at e s.0 (Some o.0)) (if_else-is at e (statement_of s.0) (statement_of o.0) s.0 o.0 s.1 o.1)
statement_layer (Statement-F.While at e s) = rolled (Statement-F.While at e s.0) (while-is at e (statement_of s.0) s.0 s.1)
statement_layer (Statement-F.For at f s) = rolled (Statement-F.For at f s.0) (for-is at f (statement_of s.0) s.0 s.1)
statement_layer (Statement-F.Print at es) = rolled (Statement-F.Print at es) (print-is at es)
statement_layer (Statement-F.Rtf at f) = rolled (Statement-F.Rtf at f) (rtf-is at f)
statement_layer (Statement-F.Return at e) = rolled (Statement-F.Return at e) (return-is at e)
statement_layer (Statement-F.Empty at) = rolled (Statement-F.Empty at) (empty-is at)

block_layer : (y : Block-F With-Statement With-Block) → IsBlocked (roll-Block (map-Block With-Statement With-Block Statement Block (λ s. s.0) (λ b. b.0) y))
block_layer y =
    let layer = map-Block With-Statement With-Block Statement Block (λ s. s.0) (λ b. b.0) y in
    subst (λ a. Blocked a (roll-Block layer)) (ap (block_of y.at y.mark_line) (texts_of layer.statements) ∙ sym (fold-roll-Block StatementText Reads text.statement_step text.block_step layer))
    (block-is y.at y.mark_line layer.statements (each_stated y.statements))

pub statement-is : (s : Statement) → IsStated s
statement-is =
    ind-Statement IsStated IsBlocked (λ y z is. subst (λ l. IsStated (roll-Statement l)) is (statement_layer z)) (λ y z is. subst (λ l. IsBlocked (roll-Block l)) is (block_layer z))

-- ---- blocks of bodies

each_statement : (ts : List Statement) → AllByRecursion IsStated ts
each_statement [] = tt
each_statement (s ∷ ts) = (statement-is s, each_statement ts)

pub body-is : (b : Block) → Blocked (block_text b) b
body-is b = block-is b.at b.mark_line b.statements (each_statement b.statements)
