-- The member that an entry accepts, and the code of its guard.
use Rattle.std.specs.Prelude.{ℕ, false, List, [], ◌∷◌, Option, Some, None, option_map, if◌then◌else◌}
use Rattle.std.specs.Str.{bytes_eq}
use Rattle.mpl_ast.specs.declared.class.Formal.{Formal}
use Rattle.mpl_ast.specs.declared.class.Item.{Item}
use Rattle.mpl_ast.specs.declared.class.Item.TheVariants as item
use Rattle.mpl_ast.specs.declared.expression.Expression.{Expression}
use Rattle.mpl_ast.specs.declared.program.Declaration.{Declaration}
use Rattle.mpl_mean.specs.Meaning.Layout.{Member, Part, formals_of}
use Rattle.mpl_mean.specs.Plain.Expr.{expr_of}
use Rattle.mdf_code.specs.declared.instr.Instr.{Instr}
use Rattle.mpl_gen_code.specs.ExpressionCode.{value_code}
use Rattle.mpl_gen_code.specs.ProgramImage.{body_env}
use Rattle.mpl_gen_code.specs.Scopes.{OfBody}
use Rattle.mpl_gen_body.specs.declared.entries.Accepted.{Accepted}

-- a member by its number and its formals
pub record Takes : Type 0 where
  pub id : ℕ
  pub formals : List Formal

abbrev pub accepted_seen : Accepted → Takes
accepted_seen a = record { id = a.id; formals = a.formals.now }

abbrev pub accepted_as : Member → Takes
accepted_as m = record { id = m.id; formals = m.formals }

abbrev pub guard_with : List Declaration → List Part → List Formal → Option Expression → Option (List Instr)
guard_with ds parts formals = option_map (λ guard. value_code (record (body_env ds (λ id. false) (OfBody 0) formals) { parts = parts }) (expr_of guard) 0)

-- the formals of the first member of a name
abbrev pub formals_among : List ℕ → List Item → Option (List Formal)
formals_among name [] = None
formals_among name (item.OfField at field ∷ items) = formals_among name items
formals_among name (item.Member at result found formals body ∷ items) = if bytes_eq found.text name then Some (formals_of formals) else formals_among name items
formals_among name (item.Select at line entries ∷ items) = formals_among name items
formals_among name (item.Public at ∷ items) = formals_among name items
formals_among name (item.Private at ∷ items) = formals_among name items
formals_among name (item.Empty at ∷ items) = formals_among name items
