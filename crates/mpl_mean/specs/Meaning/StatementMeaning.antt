-- What statements do.
use Rattle.std.specs.Prelude.{ℕ, zero, suc, ◌+◌, Bool, true, false, List, [], ◌∷◌, ◌++◌, map, length, Option, Some, None, if◌then◌else◌, ℤ, pos}
use Rattle.mpl_ast.specs.declared.expression.Expression.{Expression}
use Rattle.mpl_ast.specs.declared.expression.Place.{Place, out-Place}
use Rattle.mpl_ast.specs.declared.expression.Conjunction.{Conjunction}
use Rattle.mpl_ast.specs.declared.expression.Equality.{Equality}
use Rattle.mpl_ast.specs.declared.expression.Primary.{Primary}
use Rattle.mpl_ast.specs.declared.expression.Relation.{Relation}
use Rattle.mpl_ast.specs.declared.expression.Sum.{Sum}
use Rattle.mpl_ast.specs.declared.expression.Term.{Term}
use Rattle.mpl_ast.specs.declared.expression.Unary.{Unary}
use Rattle.mpl_ast.specs.declared.expression.Conjunction.TheOpen.{Place-F}
use Rattle.mpl_ast.specs.declared.expression.Target.{Target}
use Rattle.mpl_ast.specs.declared.flow.Assignment.{Assignment}
use Rattle.mpl_ast.specs.declared.statement.Block.{Block-F}
use Rattle.mpl_ast.specs.declared.statement.Declarator.{Declarator}
use Rattle.mpl_ast.specs.declared.statement.Declarator.TheVariants.{Plain, Initialized}
use Rattle.mpl_ast.specs.declared.statement.ForStart.{ForStart}
use Rattle.mpl_ast.specs.declared.statement.ForStart.TheVariants.{Declare, Assign}
use Rattle.mpl_ast.specs.declared.statement.Local.{Local}
use Rattle.mpl_ast.specs.declared.statement.Statement.{Statement, fold-Statement}
use Rattle.mpl_ast.specs.declared.statement.Statement.TheOpen.{Statement-F}
use Rattle.mpl_ast.specs.declared.statement.TypeName.{TypeName}
use Rattle.mpl_value.specs.declared.body.Arg.{Arg}
use Rattle.mpl_value.specs.declared.body.Arg.TheVariants.{Know}
use Rattle.mpl_value.specs.declared.body.BodyEnd.TheVariants as end
use Rattle.mpl_value.specs.declared.body.BodyResult.{BodyResult}
use Rattle.mpl_value.specs.declared.body.BodyResult.TheVariants as result
use Rattle.mpl_value.specs.declared.known.TrapKind.TheVariants.{Twice}
use Rattle.mpl_mean.specs.Meaning.CallMeaning.{passes, call_value, class_of_location}
use Rattle.mpl_mean.specs.Meaning.Context.{Context}
use Rattle.mpl_mean.specs.Meaning.ExpressionMeaning.{value_of}
use Rattle.mpl_mean.specs.Meaning.Layout.{Class, words_of, dimension_of}
use Rattle.mpl_mean.specs.Meaning.PlaceMeaning.{Location, location_of, base_of, index_of, put}
use Rattle.mpl_mean.specs.Meaning.Store.{Goes, Returns, Step, ◌>>=◌, ◌>>◌, pure, stop, trap, waits, spend, all_of, in_turn, printed, force, hold, declare, in_scope, Variable}
use Rattle.mpl_mean.specs.Meaning.Values.{Value, word_of, is_true, value_text}
use Rattle.mpl_value.specs.Results.{result_of}
use Rattle.mpl_value.specs.Words.{zeros, object_word}

abbrev pub Effect : Type 0
Effect = Step (Unit {0})

abbrev pub Does : Type 0
Does = Context → Effect

abbrev pub nothing : Effect
nothing = pure tt

-- ---- locals

abbrev pub declares : Context → TypeName → Declarator → Effect
declares context type (Plain at variable dimension) =
    declare (record { name = variable.text; type = type; dimension = dimension_of dimension; holds = Know (zeros (words_of context.declarations type (dimension_of dimension))) })
declares context type (Initialized at variable value) =
    passes value context >>= (λ holds. declare (record { name = variable.text; type = type; dimension = None; holds = holds }))

abbrev pub declares_all : Context → Local → Effect
declares_all context local = in_turn (map (declares context local.type_name) local.declarators)

-- ---- assignments

-- A whole variable holds what is passed, as it stands. What goes into a part or into the state is forced.
abbrev pub assign_location : Option Location → Arg → Effect
assign_location None value = waits
assign_location (Some location) value = into_variable location.variable location.is_whole where
  into_part : Effect
  into_part = force value >>= (λ words. put location.variable location.offset words)

  into_variable : Option Variable → Bool → Effect
  into_variable (Some v) true = hold v.name value
  into_variable (Some v) false = into_part
  into_variable None is_whole = into_part

-- what a target stands for in the store that there is then
abbrev pub at_location : Context → Target → (Option Location → Effect) → Effect
at_location context target effect store = effect (location_of context target store) store

abbrev pub assign_place : Context → Place-F Conjunction Equality Expression Place Primary Relation Sum Term Unary → Arg → Effect
assign_place context (Place-F.Whole at target) value = at_location context target (λ location. assign_location location value)
assign_place context (Place-F.Element at line target index) value = force value >>= (λ words.
    value_of index context >>= (λ i. at_location context target (λ location. element location i words))) where
      element : Option Location → Value → List ℤ → Effect
      element None i words = waits
      element (Some location) i words = index_of line location.words (word_of i) >>= (λ n. put location.variable (location.offset + n) words)

abbrev pub assigns : Context → Assignment → Effect
assigns context a = passes a.value context >>= assign_place context (out-Place a.place)

-- ---- objects

-- one more object, and its word
abbrev pub created : Context → Class → Step ℤ
created context class store =
    Goes (object_word context.number (length store.creations + 1)) (record store { creations = store.creations ++ pos class.number ∷ [] })

abbrev pub new_object : Context → Option Class → Step ℤ
new_object context None = waits
new_object context (Some class) = spend context.turns >> created context class

-- A whole variable is not forced. A field of one is, before the turn.
abbrev pub create_at : Context → Option Location → Effect
create_at context None = waits
create_at context (Some location) = into location.variable location.is_whole where
  into : Option Variable → Bool → Effect
  into (Some v) true = new_object context (class_of_location context (Some location)) >>= (λ object. hold v.name (Know (object ∷ [])))
  into (Some v) false = base_of (Some v) >> (new_object context (class_of_location context (Some location)) >>= (λ object. put (Some v) location.offset (object ∷ [])))
  into None is_whole = new_object context (class_of_location context (Some location)) >>= (λ object. put None location.offset (object ∷ []))

-- ---- results

-- a result that was not given before
abbrev pub give_result : ℕ → Arg → BodyResult → Effect
give_result line value result.Open = λ store. Goes tt (record store { result = result_of value })
give_result line value (result.Known known) = trap Twice line
give_result line value result.Unknown = trap Twice line

abbrev pub gives_result : ℕ → Arg → Effect
gives_result line value store = give_result line value store.result store

-- ---- loops

-- A turn for each evaluation of the test. The first number bounds the turns that the loop can still make, of which a body
-- has no more.
abbrev pub while_loop : ℕ → ℕ → Step Value → Effect → Effect
while_loop zero turns test body = stop end.Spent
while_loop (suc fuel) turns test body =
    spend turns >> (test >>= (λ value. if is_true value then (body >> while_loop fuel turns test body) else nothing))

abbrev pub loop : Context → Expression → Effect → Effect
loop context test body = while_loop (context.turns + 1) context.turns (value_of test context) body

abbrev pub starts : Context → Option ForStart → Effect
starts context None = nothing
starts context (Some (Declare local)) = declares_all context local
starts context (Some (Assign assignment)) = assigns context assignment

abbrev pub steps : Context → Option Assignment → Effect
steps context None = nothing
steps context (Some assignment) = assigns context assignment

-- ---- printing

abbrev pub texts_after_first : List Value → List ℕ
texts_after_first [] = 10 ∷ []
texts_after_first (value ∷ values) = 32 ∷ (value_text value ++ texts_after_first values)

-- a line: the texts of the values with one space between them, and a line feed
abbrev pub line_of : List Value → List ℕ
line_of [] = 10 ∷ []
line_of (value ∷ values) = value_text value ++ texts_after_first values

abbrev pub values_of : Context → List Expression → Step (List Value)
values_of context arguments = all_of (map (λ e. value_of e context) arguments)

-- ---- statements

abbrev pub returns : Context → Option Expression → Effect
returns context None = λ store. Returns [] store
returns context (Some e) = value_of e context >>= (λ value store. Returns value.words store)

-- the statements of a block, whose locals go with it
abbrev pub block_effect : Context → List Does → Effect
block_effect context statements = in_scope (in_turn (map (λ (does : Does). does context) statements))

abbrev pub block_step : Block-F Does Does → Does
block_step block context = block_effect context block.statements

abbrev pub else_effect : Context → Option Does → Effect
else_effect context None = nothing
else_effect context (Some does) = in_scope (does context)

abbrev pub statement_step : Statement-F Does Does → Does
statement_step (Statement-F.OfBlock at block) = block
statement_step (Statement-F.Declare at local) = λ context. declares_all context local
statement_step (Statement-F.Assign at assignment) = λ context. assigns context assignment
statement_step (Statement-F.CallAlone at call) = λ context. call_value call context >> nothing
statement_step (Statement-F.Create at target) = λ context. at_location context target (create_at context)
statement_step (Statement-F.If at test then_part else_part) = λ context.
    value_of test context >>= (λ value. if is_true value then in_scope (then_part context) else else_effect context else_part)
statement_step (Statement-F.While at test body) = λ context. loop context test (in_scope (body context))
statement_step (Statement-F.For at head body) = λ context.
    in_scope (starts context head.start >> loop context head.test (in_scope (body context) >> steps context head.step))
statement_step (Statement-F.Print at arguments) = λ context. values_of context arguments >>= (λ values. printed (line_of values))
statement_step (Statement-F.Rtf at value) = λ context. passes value context >>= gives_result at.line
statement_step (Statement-F.Return at value) = λ context. returns context value
statement_step (Statement-F.Empty at) = λ context. nothing

-- what a statement does
abbrev pub does : Statement → Does
does = fold-Statement Does Does statement_step block_step
