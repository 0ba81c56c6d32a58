-- What is asked of all bodies of a program: calls in place have as many arguments as formals.
use Rattle.std.proofs.Common.{◌≡◌, ℕ, Bool, List, [], true, Some, if◌then◌else◌, map, sym, subst}
use Rattle.std.specs.Prelude.{codes}
use Rattle.mpl_ast.specs.declared.program.Declaration.{Declaration}
use Rattle.mpl_mean.specs.Meaning.BodyMeaning.{member_of_classes}
use Rattle.mpl_ast.specs.declared.program.Program.{Program}
use Rattle.mpl_mean.specs.TypeRules.Rules.{is_typed}
use Rattle.mpl_mean.proofs.Sizes.SizedPrograms.{well_program}
use Rattle.mpl_mean.proofs.Sizes.SizedStarts.{main_of}
use Rattle.mpl_plain.proofs.FittingBodies.{function_fits, numbered_fits, regular_fits}
use Rattle.mpl_mean.specs.Meaning.Layout.{parts_of, Class, Function, Member, class_named, classes_of, function_named, member_named}
use Rattle.mpl_mean.specs.Plain.Scopes.{formal_shape, function_env, member_env, regular_env}
use Rattle.mpl_mean.specs.Plain.Stmt.{stmts_of}
use Rattle.mpl_plain.specs.Arity.{StatementsFit}

pub record BodiesFit (ds : List Declaration) : Type 0 where
  pub function : (name : List ℕ) (f : Function) → function_named name ds ≡ Some f → StatementsFit (function_env ds f) (stmts_of f.body)
  pub main : (f : Function) → function_named (codes "main") ds ≡ Some f → f.formals ≡ []
  -- as it is called in place
  pub regular : (name member : List ℕ) (class : Class) (m : Member) → class_named name (classes_of ds) ≡ Some class → class.is_regular ≡ true → member_named member class.members ≡ Some m
      → StatementsFit (member_env ds class m) (stmts_of m.body)
  -- as it begins on its object
  pub member : (id : ℕ) (found : Class × Member) → member_of_classes id (classes_of ds) ≡ Some found → StatementsFit (member_env ds found.0 found.1) (stmts_of found.1.body)

-- a regular member sees nothing of an object
in_place_same : (ds : List Declaration) (class : Class) (m : Member) → class.is_regular ≡ true → StatementsFit (regular_env ds m) (stmts_of m.body) → StatementsFit (member_env ds class m) (stmts_of m.body)
in_place_same ds class m regular fits =
    subst (λ b. StatementsFit (record { declarations = ds; members = if b then [] else class.members; parts = if b then [] else parts_of ds class.state; scope = map formal_shape m.formals }) (stmts_of m.body)) (sym regular) fits

pub bodies_fit : (p : Program) → is_typed p ≡ true → BodiesFit p.declarations
bodies_fit p typed =
    let ds = p.declarations in
    let well = well_program p typed in
    record {
      function = λ name f is. function_fits ds well name f is;
      main = λ f is. (main_of ds f ds well.each is).1;
      regular = λ name member class m is regular found. in_place_same ds class m regular (regular_fits ds well name member class m is regular found);
      member = λ id found is. numbered_fits ds well (record { 0 = id }) found is;
    }
