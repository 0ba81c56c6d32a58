-- What a body does, from its start to its end.
use Rattle.std.specs.Prelude.{ℕ, zero, suc, List, [], ◌∷◌, map, take, drop, codes, Option, Some, None, if◌then◌else◌, ℤ, pos}
use Rattle.std.specs.FinMap.{FinMap, empty}
use Rattle.std.specs.Ordering.{nat_cmp}
use Rattle.mpl_ast.specs.declared.class.Formal.{Formal}
use Rattle.mpl_ast.specs.declared.class.ResultType.{ResultType}
use Rattle.mpl_ast.specs.declared.class.ResultType.TheVariants.{Void, Typed}
use Rattle.mpl_ast.specs.declared.program.Declaration.{Declaration}
use Rattle.mpl_ast.specs.declared.program.Program.{Program}
use Rattle.mpl_ast.specs.declared.statement.Statement.{Statement}
use Rattle.mpl_value.specs.declared.body.Arg.{Arg}
use Rattle.mpl_value.specs.declared.body.Arg.TheVariants.{Know}
use Rattle.mpl_value.specs.declared.body.BodyEnd.{BodyEnd}
use Rattle.mpl_value.specs.declared.body.BodyEnd.TheVariants as end
use Rattle.mpl_value.specs.declared.body.BodyResult.{BodyResult}
use Rattle.mpl_value.specs.declared.body.BodyResult.TheVariants as result
use Rattle.mpl_value.specs.declared.body.BodyStart.{BodyStart}
use Rattle.mpl_value.specs.declared.body.MemberId.{MemberId}
use Rattle.mpl_value.specs.declared.body.Yield.{Yield}
use Rattle.mpl_value.specs.declared.known.Known.{Known}
use Rattle.mpl_value.specs.declared.known.Known.TheVariants as known
use Rattle.mpl_value.specs.declared.known.TrapKind.TheVariants.{NoReply}
use Rattle.mpl_mean.specs.Meaning.Context.{Callees, Context}
use Rattle.mpl_mean.specs.Meaning.Layout.{Class, Function, Member, classes_of, function_named, member_numbered, parts_of, words_of}
use Rattle.mpl_mean.specs.Meaning.StatementMeaning.{Effect, does}
use Rattle.mpl_mean.specs.Meaning.Store.{Store, Variable, Outcome, Goes, Returns, Ends, Step, ◌>>◌, stop, trap, spend, in_turn}
use Rattle.mpl_value.specs.Results.{result_at}
use Rattle.mpl_value.specs.CallAnswers.{arg_of_result}

-- ---- starting

-- the formals hold these words, one list for each
abbrev pub formals_holding : List Formal → List (List ℤ) → List Variable
formals_holding [] arguments = []
formals_holding (formal ∷ formals) [] = []
formals_holding (formal ∷ formals) (words ∷ arguments) =
    record { name = formal.name.text; type = formal.type_name; dimension = None; holds = Know words } ∷ formals_holding formals arguments

-- the words of all arguments, one list for each formal
abbrev pub split_words : List Declaration → List Formal → List ℤ → List (List ℤ)
split_words ds [] words = []
split_words ds (formal ∷ formals) words =
    take (words_of ds formal.type_name None) words ∷ split_words ds formals (drop (words_of ds formal.type_name None) words)

abbrev pub store_with : List Variable → List ℤ → List ℤ → ℕ → Store
store_with variables state input turns = record {
  variables = variables;
  state = state;
  lines = [];
  input = input;
  calls = [];
  creations = [];
  result = result.Open;
  turns = turns;
}

-- a turn for the start, and then the statements
abbrev pub run : Context → List Statement → Effect
run context statements = spend context.turns >> in_turn (map (λ s. does s context) statements)

-- ---- ending

-- a member with a value that ends without having given it traps; one without a value gives no words
abbrev pub result_at_end : ResultType → ℕ → BodyResult → BodyResult
result_at_end (Void at) line result.Open = result.Known (known.Value [])
result_at_end (Typed at type) line result.Open = result.Known (known.Trapped (record { kind = NoReply; line = line }))
result_at_end type line (result.Known known) = result.Known known
result_at_end type line result.Unknown = result.Unknown

-- how a member's body ended, and its result
abbrev pub member_end : Member → Outcome (Unit {0}) → BodyEnd × BodyResult
member_end m (Goes value store) = (end.Done, result_at_end m.result m.body.mark_line store.result)
member_end m (Returns words store) = (end.Done, result_at_end m.result m.body.mark_line store.result)
member_end m (Ends e store) = (e, result_at e store.result)

abbrev pub store_of : Outcome (Unit {0}) → Store
store_of (Goes value store) = store
store_of (Returns words store) = store
store_of (Ends e store) = store

-- ---- calling in place

-- the caller goes on with the turns that the body took, and is spent where the body is
abbrev pub back_with : ℕ → BodyEnd × BodyResult → Step Arg
back_with turns (end.Done, result) = λ store. Goes (arg_of_result result) (record store { turns = turns })
back_with turns (end.Trap t, result) = λ store. Goes (arg_of_result result) (record store { turns = turns })
back_with turns (end.Waits, result) = λ store. Goes (arg_of_result result) (record store { turns = turns })
back_with turns (end.Spent, result) = λ store. Ends end.Spent (record store { turns = turns })

-- a member of a regular class, with variables of its own
abbrev pub regular_body : Context → Member → List (List ℤ) → Step Arg
regular_body context m arguments store = ended (run context m.body.statements (store_with (formals_holding m.formals arguments) [] [] store.turns)) where
  ended : Outcome (Unit {0}) → Outcome Arg
  ended outcome = back_with (store_of outcome).turns (member_end m outcome) store

-- the variables of the caller again
abbrev pub with_variables : List Variable → Store → Store
with_variables variables store = record store { variables = variables }

-- a plain function, with variables of its own
abbrev pub plain_body : Context → Function → List (List ℤ) → Step (List ℤ)
plain_body context f arguments store = ended (run context f.body.statements (with_variables (formals_holding f.formals arguments) store)) where
  ended : Outcome (Unit {0}) → Outcome (List ℤ)
  ended (Goes value after) = trap NoReply f.body.mark_line (with_variables store.variables after)
  ended (Returns words after) = Goes words (with_variables store.variables after)
  ended (Ends e after) = Ends e (with_variables store.variables after)

-- ---- the levels of calls

-- a body of no class in its turn
abbrev pub context_with : List Declaration → ℕ → FinMap nat_cmp Known → Callees → Context
context_with ds turns replies callees = record {
  declarations = ds;
  turns = turns;
  members = [];
  state = [];
  object = pos 0;
  number = 0;
  replies = replies;
  callees = callees;
}

-- What is called so many levels deep. A regular member's body stands for itself and has no replies. Each start spends a
-- turn, so at level 0 none is left.
abbrev pub callees_at : ℕ → List Declaration → ℕ → FinMap nat_cmp Known → Callees
callees_at zero ds turns replies = record {
  plain = λ f arguments. spend turns >> stop end.Spent;
  regular = λ m arguments. spend turns >> stop end.Spent;
}
callees_at (suc level) ds turns replies = record {
  plain = λ f arguments. plain_body (context_with ds turns replies (callees_at level ds turns replies)) f arguments;
  regular = λ m arguments. regular_body (context_with ds turns empty (callees_at level ds turns empty)) m arguments;
}

-- ---- the yield of a body

abbrev pub yield_with : BodyEnd → BodyResult → Store → Yield
yield_with e result store = record {
  lines = store.lines;
  calls = store.calls;
  creations = store.creations;
  result = result;
  state = store.state;
  turns = store.turns;
  end = e;
}

-- the result of `main` stays open
abbrev pub main_yield : Outcome (Unit {0}) → Yield
main_yield (Goes value store) = yield_with end.Done store.result store
main_yield (Returns words store) = yield_with end.Done store.result store
main_yield (Ends e store) = yield_with e store.result store

abbrev pub member_yield : Member → Outcome (Unit {0}) → Yield
member_yield m outcome = yield_with (member_end m outcome).0 (member_end m outcome).1 (store_of outcome)

abbrev pub statements_of : Option Function → List Statement
statements_of None = []
statements_of (Some f) = f.body.statements

abbrev pub main_statements : List Declaration → List Statement
main_statements ds = statements_of (function_named (codes "main") ds)

-- a member of a class, and else what is found among the other classes
abbrev pub member_or : Class → Option Member → Option (Class × Member) → Option (Class × Member)
member_or class None others = others
member_or class (Some m) others = Some (class, m)

-- the class of a member, and the member
abbrev pub member_of_classes : ℕ → List Class → Option (Class × Member)
member_of_classes id [] = None
member_of_classes id (class ∷ classes) = member_or class (member_numbered id class.members) (member_of_classes id classes)

-- what its object has: nothing where the class is regular
abbrev pub of_object : {A : Type 0} → Class → List A → List A
of_object class items = if class.is_regular then [] else items

abbrev pub in_class : Class → BodyStart → Context → Context
in_class class start context =
    record context {
      members = of_object class class.members;
      state = of_object class (parts_of context.declarations class.state);
      object = start.object;
      number = start.number;
    }

abbrev pub member_body : Context → BodyStart → Option (Class × Member) → Yield
member_body context start None = main_yield (Ends end.Waits (store_with [] start.state start.input 0))
member_body context start (Some found) =
    member_yield found.1 (run (in_class found.0 start context) found.1.body.statements
    (store_with (formals_holding found.1.formals (split_words context.declarations found.1.formals start.args)) start.state start.input 0))

abbrev pub main_body : Context → BodyStart → Yield
main_body context start =
    main_yield (run (record context { number = start.number }) (main_statements context.declarations) (store_with [] start.state start.input 0))

-- `main`, or a member
abbrev pub body_of : Context → BodyStart → Option MemberId → Yield
body_of context start None = main_body context start
body_of context start (Some m) = member_body context start (member_of_classes m.0 (classes_of context.declarations))

-- What a body does from a start, under these replies to its calls, with so many turns.
abbrev pub yield_of : Program → BodyStart → FinMap nat_cmp Known → ℕ → Yield
yield_of p start replies turns =
    body_of (context_with p.declarations turns replies (callees_at turns p.declarations turns replies)) start start.member
