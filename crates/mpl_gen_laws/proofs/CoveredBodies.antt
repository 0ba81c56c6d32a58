-- In each body of a program the uses are marked that may find a pending or a trapped result.
use Rattle.std.proofs.Common.{◌≡◌, ◌+◌, ℕ, Bool, true, List, [], ◌∷◌, map, Option, Some, None, refl, ap, subst}
use Rattle.std.specs.Prelude.{codes}
use Rattle.mpl_ast.specs.declared.class.Formal.{Formal}
use Rattle.mpl_ast.specs.declared.program.Declaration.{Declaration}
use Rattle.mpl_ast.specs.declared.program.Program.{Program}
use Rattle.mpl_mean.specs.Meaning.Layout.{Class, Function, Member, function_named}
use Rattle.mpl_mean.specs.Pending.BodyWays.{stmts_ways}
use Rattle.mpl_mean.specs.Pending.Looseness.{none_loose}
use Rattle.mpl_mean.specs.Pending.MayBePending.{MayBePending, function_ways, member_ways}
use Rattle.mpl_mean.specs.Plain.Scopes as plain
use Rattle.mpl_mean.specs.Plain.Stmt.{stmts_of}
use Rattle.mpl_mean.specs.TypeRules.Rules.{is_typed}
use Rattle.mpl_checked.proofs.AgreeBodies.{covers_body_of}
use Rattle.mpl_checked.proofs.AnyBody.{function_marked, numbered_marked}
use Rattle.mpl_checked.proofs.Covering.{Covers}
use Rattle.mpl_checked.proofs.Fitting.{bodies_fit}
use Rattle.mpl_gen_code.specs.Fits.{FunctionIs, MemberIs}
use Rattle.mpl_gen_code.specs.ProgramImage.{function_env, main_env, main_stmts, member_env}
use Rattle.mpl_gen_code.specs.Scopes.{formals_from}
use Rattle.mpl_gen_laws.proofs.LooseWays.{no_use}
use Rattle.mpl_gen_laws.proofs.Loosened.{plain_env, shape_in}

pub record ProgramCovers (ds : List Declaration) (marks : ℕ → Bool) : Type 0 where
  pub main : Covers marks (stmts_ways (plain_env (main_env ds marks)) (main_stmts (function_named (codes "main") ds))) none_loose
  pub function : (name : List ℕ) (f : Function) → FunctionIs ds name f → Covers marks (stmts_ways (plain_env (function_env ds marks f)) (stmts_of f.body)) none_loose
  pub member : (class : Class) (m : Member) → MemberIs ds class m → Covers marks (stmts_ways (plain_env (member_env ds marks class m)) (stmts_of m.body)) none_loose

pub formals_seen : (number : ℕ) (formals : List Formal) → map plain.formal_shape formals ≡ map shape_in (formals_from number formals)
formals_seen number [] = refl
formals_seen number (formal ∷ formals) = ap (λ others. plain.formal_shape formal ∷ others) (formals_seen (number + 1) formals)

module _ (p : Program) (marks : ℕ → Bool) (typed : is_typed p ≡ true) (holds : (node : ℕ) → MayBePending p node → marks node ≡ true) where
  abbrev ds : List Declaration
  ds = p.declarations

  main_covered : (o : Option Function) → function_named (codes "main") ds ≡ o → Covers marks (stmts_ways (plain_env (main_env ds marks)) (main_stmts o)) none_loose
  main_covered None is = record { marked = λ node variable path upto e. absurd (no_use upto) }
  main_covered (Some f) is =
      subst (λ (formals : List Formal). Covers marks (stmts_ways (record { declarations = p.declarations; members = []; parts = []; scope = map plain.formal_shape formals }) (stmts_of f.body)) none_loose) ((bodies_fit p typed).main f is)
      (covers_body_of marks (function_ways ds f) (λ node h. holds node (function_marked ds (codes "main") f node is h)))

  function_covered : (name : List ℕ) (f : Function) → FunctionIs ds name f → Covers marks (stmts_ways (plain_env (function_env ds marks f)) (stmts_of f.body)) none_loose
  function_covered name f is =
      subst (λ scope. Covers marks (stmts_ways (record { declarations = p.declarations; members = []; parts = []; scope = scope }) (stmts_of f.body)) none_loose) (formals_seen 0 f.formals)
      (covers_body_of marks (function_ways ds f) (λ node h. holds node (function_marked ds name f node is.named h)))

  member_covered : (class : Class) (m : Member) → MemberIs ds class m → Covers marks (stmts_ways (plain_env (member_env ds marks class m)) (stmts_of m.body)) none_loose
  member_covered class m is =
      subst (λ scope. Covers marks (stmts_ways (record (plain_env (member_env p.declarations marks class m)) { scope = scope }) (stmts_of m.body)) none_loose) (formals_seen 0 m.formals)
      (covers_body_of marks (member_ways ds class m) (λ node h. holds node (numbered_marked ds m.id (class, m) node is.found h)))

  pub bodies_covered : ProgramCovers p.declarations marks
  bodies_covered = record { main = main_covered (function_named (codes "main") p.declarations) refl; function = function_covered; member = member_covered }
