-- The code of a call is its code by the number of its member.
use Rattle.std.proofs.Common.{◌≡◌, ℕ, suc, List, [], ◌∷◌, length, option_map, Option, Some, None, refl, ap}
use Rattle.mpl_ast.specs.declared.flow.Flow.{Flow}
use Rattle.mpl_mean.specs.Meaning.Layout.{Member}
use Rattle.mpl_gen_code.specs.ExpressionCode.{own_code, post_code, send_code}
use Rattle.mpl_gen_code.specs.Pieces.{Piece}
use Rattle.mpl_gen_code.specs.Scopes.{Env}
use Rattle.mpl_gen_expr.specs.ByNumber.{own_by, post_by, send_by}
use Rattle.mpl_gen_expr.specs.RowCodes.{codes_of_flows}

pub own_is : (m : Option Member) (count : ℕ) (arguments : Piece) → own_code m count arguments ≡ own_by (option_map (λ (m : Member). m.id) m) count arguments
own_is None count arguments = refl
own_is (Some m) count arguments = refl

pub send_is : (m : Option Member) (count : ℕ) (arguments : Piece) → send_code m count arguments ≡ send_by (option_map (λ (m : Member). m.id) m) count arguments
send_is None count arguments = refl
send_is (Some m) count arguments = refl

pub post_is : (m : Option Member) (count : ℕ) (arguments : Piece) → post_code m count arguments ≡ post_by (option_map (λ (m : Member). m.id) m) count arguments
post_is None count arguments = refl
post_is (Some m) count arguments = refl

pub as_many_flows : (env : Env) (flows : List Flow) → length (codes_of_flows env flows) ≡ length flows
as_many_flows env [] = refl
as_many_flows env (x ∷ flows) = ap (λ n. suc n) (as_many_flows env flows)
