-- In typed programs a plain call has as many arguments as formals.
use Rattle.std.proofs.Common.{◌≡◌, ℕ, suc, ◌==◌, List, length, true, Option, Some, None, if◌then◌else◌, refl, sym, ap, subst, ◌∙◌, arith}
use Rattle.std.proofs.lemmas.Bool.Decides.{nat_tests}
use Rattle.std.proofs.lemmas.List.{length-map}
use Rattle.mpl_ast.specs.declared.class.Formal.{Formal}
use Rattle.mpl_ast.specs.declared.place.At.{At}
use Rattle.mpl_ast.specs.declared.place.Name.{Name}
use Rattle.mpl_ast.specs.declared.program.Declaration.{Declaration}
use Rattle.mpl_mean.specs.Meaning.Layout.{function_named}
use Rattle.mpl_mean.specs.Plain.Expr.{Exprs}
use Rattle.mpl_mean.specs.Plain.Expr as expr
use Rattle.mpl_mean.specs.TypeRules.CallRules.{function_takes}
use Rattle.mpl_mean.specs.TypeRules.Nodes.{expr_nodes}
use Rattle.mpl_mean.specs.TypeRules.Scopes.{Environment, is_main, plain_function}
use Rattle.mpl_mean.specs.TypeRules.Types.{ValueType}
use Rattle.mpl_mean.specs.TypeRules.Typing.{arguments_agree, formal_types, types_of}
use Rattle.mpl_mean.proofs.Sizes.SizedRules.{AllRight}
use Rattle.mpl_mean.proofs.Sizes.SizedTyping.{chosen_function}
use Rattle.mpl_mean.proofs.Truth.{both_true}
use Rattle.mpl_plain.specs.Arity.{FunctionTakes, count_of}

same_number : (m n : ℕ) → (m == n) ≡ true → m ≡ n
same_number m n h = grind (arith, nat_tests)

pub formals_counted : (ds : List Declaration) (ts : List (Option ValueType)) (formals : List Formal) → arguments_agree ts (formal_types ds formals) ≡ true → length formals ≡ length ts
formals_counted ds ts formals h =
    sym (same_number (length ts) (length (formal_types ds formals)) (both_true _ _ h).0 ∙ length-map formals _)

pub types_counted : (h : Environment) (ps : Exprs) → length (types_of h ps) ≡ count_of ps
types_counted h expr.NoExpr = refl
types_counted h (expr.MoreExprs p ps) = ap suc (types_counted h ps)

pub plain_takes : (h : Environment) (at : At) (f : Name) (ps : Exprs) → AllRight (expr_nodes h (expr.PlainCall at f ps)) → FunctionTakes (function_named f.text h.declarations) (count_of ps)
plain_takes h at f ps r =
    let ts = types_of h ps in
    let g = chosen_function (is_main f.text) (function_named f.text h.declarations) r.0.known in
    let is : plain_function h f.text ≡ Some g.0 = ap (λ b. if b then None else function_named f.text h.declarations) g.1 ∙ g.2 in
    let takes : function_takes h.declarations (Some g.0) ts ≡ true = subst (λ o. function_takes h.declarations o ts ≡ true) is r.1.0.plain in
    subst (λ o. FunctionTakes o (count_of ps)) (sym g.2) (formals_counted h.declarations ts (g.0).formals takes ∙ types_counted h ps)
