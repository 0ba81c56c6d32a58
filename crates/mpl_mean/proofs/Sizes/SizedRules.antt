-- What holds at each node of a program in which no rule fails.
use Rattle.std.proofs.Common.{◌≡◌, ℕ, Bool, true, false, not, List, [], ◌∷◌, ◌++◌, Option, Some, None, if◌then◌else◌, refl}
use Rattle.std.specs.Prelude.{map, is_some}
use Rattle.mpl_ast.specs.declared.class.Formal.{Formal}
use Rattle.mpl_ast.specs.declared.class.Item.{Item}
use Rattle.mpl_ast.specs.declared.class.Item.TheVariants as item
use Rattle.mpl_ast.specs.declared.class.ResultType.{ResultType}
use Rattle.mpl_ast.specs.declared.class.ResultType.TheVariants.{Void, Typed}
use Rattle.mpl_ast.specs.declared.program.Declaration.{Declaration}
use Rattle.mpl_ast.specs.declared.program.Declaration.TheVariants as declaration
use Rattle.mpl_ast.specs.declared.program.Program.{Program}
use Rattle.mpl_ast.specs.declared.statement.Block.{Block}
use Rattle.mpl_ast.specs.declared.statement.Dimension.{Dimension}
use Rattle.mpl_ast.specs.declared.statement.TypeName.{TypeName}
use Rattle.mpl_mean.specs.Plain.Stmt.{stmts_of}
use Rattle.mpl_mean.specs.TypeRules.CallRules.{plain_call_agrees, member_call_agrees, void_call_is_alone, call_is_in_place, self_is_in_place}
use Rattle.mpl_mean.specs.TypeRules.ClassRules.{state_is_persistent}
use Rattle.mpl_mean.specs.TypeRules.ExpressionRules.{test_is_bool, operands_agree, index_agrees, place_may_stand, field_is_of_struct, right_side_agrees}
use Rattle.mpl_mean.specs.Meaning.Layout.{formals_of, state_of}
use Rattle.mpl_mean.specs.TypeRules.NameRules.{name_is_known, name_is_new, main_is_there}
use Rattle.mpl_mean.specs.TypeRules.Nodes.{Located}
use Rattle.mpl_mean.specs.TypeRules.ProgramNodes.{function_body, nodes, surrounding}
use Rattle.mpl_mean.specs.TypeRules.Rules.{Failure, Rule, failing_at, failures_among, failures_at, is_empty, is_typed, rules}
use Rattle.mpl_mean.specs.TypeRules.Scopes.{Environment, Body, InMember, Surrounding, is_main}
use Rattle.mpl_mean.specs.TypeRules.SizeRules.{count_is_allowed, dimension_fits, is_element, size_fits, type_may_stand, variables_fit}
use Rattle.mpl_mean.specs.Laws.Sizes.{Every}
use Rattle.mpl_mean.specs.TypeRules.StatementNodes.{stmts_walk}
use Rattle.mpl_mean.specs.TypeRules.StatementRules.{speaks_in_main, rtf_agrees, return_agrees}
use Rattle.mpl_mean.specs.TypeRules.Types.{AsResult, Declared, InState, InStruct, declared_fields, declared_formals, meant, shape_of, value_type}

-- what the sizes rest on at one node
pub record Right (p : Located) : Type 0 where
  pub known : name_is_known p.environment p.node ≡ true
  pub new : name_is_new p.environment p.node ≡ true
  pub main : main_is_there p.environment p.node ≡ true
  pub stands : type_may_stand p.environment p.node ≡ true
  pub dimension : dimension_fits p.environment p.node ≡ true
  pub size : size_fits p.environment p.node ≡ true
  pub variables : variables_fit p.environment p.node ≡ true
  pub count : count_is_allowed p.environment p.node ≡ true
  pub state : state_is_persistent p.environment p.node ≡ true
  pub test : test_is_bool p.environment p.node ≡ true
  pub operands : operands_agree p.environment p.node ≡ true
  pub index : index_agrees p.environment p.node ≡ true
  pub place : place_may_stand p.environment p.node ≡ true
  pub of_struct : field_is_of_struct p.environment p.node ≡ true
  pub right_side : right_side_agrees p.environment p.node ≡ true
  pub plain : plain_call_agrees p.environment p.node ≡ true
  pub call : member_call_agrees p.environment p.node ≡ true
  pub passed : void_call_is_alone p.environment p.node ≡ true
  pub in_place : call_is_in_place p.environment p.node ≡ true
  pub own : self_is_in_place p.environment p.node ≡ true
  pub speaks : speaks_in_main p.environment p.node ≡ true
  pub rtf : rtf_agrees p.environment p.node ≡ true
  pub return : return_agrees p.environment p.node ≡ true

abbrev pub AllRight : List Located → Type 0
AllRight = Every Right

-- ---- from the whole program

pub every_left : {A : Type 0} (P : A → Type 0) (xs ys : List A) → Every P (xs ++ ys) → Every P xs
every_left P [] ys h = tt
every_left P (x ∷ xs) ys h = (h.0, every_left P xs ys h.1)

pub every_right : {A : Type 0} (P : A → Type 0) (xs ys : List A) → Every P (xs ++ ys) → Every P ys
every_right P [] ys h = h
every_right P (x ∷ xs) ys h = every_right P xs ys h.1

empty_left : (xs ys : List Failure) → is_empty (xs ++ ys) ≡ true → is_empty xs ≡ true
empty_left [] ys e = refl
empty_left (x ∷ xs) ys e = absurd cc

empty_right : (xs ys : List Failure) → is_empty (xs ++ ys) ≡ true → is_empty ys ≡ true
empty_right [] ys e = e
empty_right (x ∷ xs) ys e = absurd cc

abbrev Holds : Located → Rule → Type 0
Holds p r = r.holds p.environment p.node ≡ true

abbrev named : Located → List Rule → List Failure
named p some = map (λ (r : Rule). record { at = p.at; rule = r.number }) some

hold_all : (p : Located) (some : List Rule) → is_empty (failures_at some p) ≡ true → Every (Holds p) some
hold_all p [] e = tt
hold_all p (r ∷ some) e = chosen (r.holds p.environment p.node) refl (hold_all p some) e where
  chosen : (b : Bool) → r.holds p.environment p.node ≡ b → (is_empty (failures_at some p) ≡ true → Every (Holds p) some) → is_empty (named p (if not b then r ∷ failing_at p some else failing_at p some)) ≡ true → Every (Holds p) (r ∷ some)
  chosen true i k e = (i, k e)
  chosen false i k e = absurd cc

all_right : (ps : List Located) → is_empty (failures_among rules ps) ≡ true → AllRight ps
all_right [] e = tt
all_right (p ∷ ps) e =
    let h = hold_all p rules (empty_left (failures_at rules p) (failures_among rules ps) e) in (
      record {
        known = h.0;
        new = h.1.0;
        main = h.1.1.0;
        stands = h.1.1.1.0;
        dimension = h.1.1.1.1.0;
        size = h.1.1.1.1.1.0;
        variables = h.1.1.1.1.1.1.0;
        count = h.1.1.1.1.1.1.1.0;
        state = h.1.1.1.1.1.1.1.1.0;
        test = h.1.1.1.1.1.1.1.1.1.1.1.0;
        operands = h.1.1.1.1.1.1.1.1.1.1.1.1.0;
        index = h.1.1.1.1.1.1.1.1.1.1.1.1.1.0;
        place = h.1.1.1.1.1.1.1.1.1.1.1.1.1.1.0;
        of_struct = h.1.1.1.1.1.1.1.1.1.1.1.1.1.1.1.0;
        right_side = h.1.1.1.1.1.1.1.1.1.1.1.1.1.1.1.1.0;
        plain = h.1.1.1.1.1.1.1.1.1.1.1.1.1.1.1.1.1.0;
        call = h.1.1.1.1.1.1.1.1.1.1.1.1.1.1.1.1.1.1.0;
        passed = h.1.1.1.1.1.1.1.1.1.1.1.1.1.1.1.1.1.1.1.0;
        in_place = h.1.1.1.1.1.1.1.1.1.1.1.1.1.1.1.1.1.1.1.1.0;
        own = h.1.1.1.1.1.1.1.1.1.1.1.1.1.1.1.1.1.1.1.1.1.0;
        speaks = h.1.1.1.1.1.1.1.1.1.1.1.1.1.1.1.1.1.1.1.1.1.1.0;
        rtf = h.1.1.1.1.1.1.1.1.1.1.1.1.1.1.1.1.1.1.1.1.1.1.1.0;
        return = h.1.1.1.1.1.1.1.1.1.1.1.1.1.1.1.1.1.1.1.1.1.1.1.1.1.0;
      },
      all_right ps (empty_right (failures_at rules p) (failures_among rules ps) e),
    )

pub typed_right : (p : Program) → is_typed p ≡ true → AllRight (nodes p)
typed_right p e = all_right (nodes p) e

-- ---- what is asked of declarations

-- its type may stand there, and an array is of `int` or `bool`
abbrev pub IsElement : Option Dimension → TypeName → Type 0
IsElement None type = Unit {0}
IsElement (Some dimension) type = is_element type ≡ true

abbrev pub WellDeclared : List Declaration → Declared → Type 0
WellDeclared ds d = (is_some (shape_of ds (Some d)) ≡ true) × IsElement d.dimension d.type

abbrev pub within : List Declaration → Option Surrounding → Body → List Declared → List (List Declared) → Environment
within ds class body formals blocks = record { declarations = ds; class = class; body = body; formals = formals; blocks = blocks }

-- a function or member: its formals, and the nodes of its body
abbrev pub WellRoutine : List Declaration → Option Surrounding → Body → List Formal → Block → Type 0
WellRoutine ds class body formals block =
    Every (WellDeclared ds) (declared_formals formals) × AllRight (stmts_walk (stmts_of block) (within ds class body (declared_formals formals) ([] ∷ []))).nodes

abbrev pub HasType : List Declaration → TypeName → Type 0
HasType ds type = is_some (value_type AsResult (meant ds type)) ≡ true

abbrev pub WellResult : List Declaration → ResultType → Type 0
WellResult ds (Void at) = Unit {0}
WellResult ds (Typed at type) = HasType ds type

abbrev pub WellMember : List Declaration → Surrounding → ResultType → List Formal → Block → Type 0
WellMember ds class result formals block = WellRoutine ds (Some class) (InMember result) formals block × WellResult ds result

abbrev pub WellItem : List Declaration → Surrounding → Item → Type 0
WellItem ds class (item.Member at result name formals body) = WellMember ds class result (formals_of formals) body
WellItem ds class other = Unit {0}

abbrev pub WellClass : List Declaration → Surrounding → Type 0
WellClass ds class =
    Every (WellItem ds class) class.items × Every (WellDeclared ds) (declared_fields InState (state_of class.items)) × (class.is_regular ≡ true → state_of class.items ≡ [])

-- `main` has no formals
abbrev pub WellMain : List ℕ → List Formal → Type 0
WellMain name [] = Unit {0}
WellMain name (formal ∷ formals) = is_main name ≡ false

abbrev pub WellFunction : List Declaration → List ℕ → TypeName → List Formal → Block → Type 0
WellFunction ds name result formals body = WellRoutine ds None (function_body name result) formals body × HasType ds result × WellMain name formals

abbrev pub WellDeclaration : List Declaration → Declaration → Type 0
WellDeclaration ds (declaration.Struct at line name fields) = Every (WellDeclared ds) (declared_fields InStruct fields)
WellDeclaration ds (declaration.Class at line kind name items) = WellClass ds (surrounding kind name items)
WellDeclaration ds (declaration.Function at result name formals body) = WellFunction ds name.text result (formals_of formals) body
