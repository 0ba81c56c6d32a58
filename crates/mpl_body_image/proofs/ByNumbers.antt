-- The code of a call is its code by the number of its member.
use Rattle.std.proofs.Common.{◌≡◌, ℕ, suc, List, [], ◌∷◌, length, map, option_map, Option, Some, None, refl, ap}
use Rattle.mpl_plain.specs.Arity.{count_of}
use Rattle.mpl_ast.specs.declared.expression.Expression.{Expression}
use Rattle.mpl_ast.specs.declared.flow.Flow.{Flow}
use Rattle.mpl_mean.specs.Meaning.Layout.{Member}
use Rattle.mpl_body_code.specs.Codes.{Code, object_code, own_code, regular_code}
use Rattle.mpl_mean.specs.Plain.Expr.{expr_of, expr_of_flow, listed}
use Rattle.mpl_body_image.specs.Internal.ByNumber.{object_by, own_by, regular_by}

pub object_is : (m : Option Member) (count : ℕ) (arguments : Code) → object_code m count arguments ≡ object_by (option_map (λ (m : Member). m.id) m) count arguments
object_is None count arguments = refl
object_is (Some m) count arguments = refl

pub regular_is : (m : Option Member) (count : ℕ) (arguments : Code) → regular_code m count arguments ≡ regular_by (option_map (λ (m : Member). m.id) m) count arguments
regular_is None count arguments = refl
regular_is (Some m) count arguments = refl

pub own_is : (m : Option Member) (count : ℕ) (arguments : Code) → own_code m count arguments ≡ own_by (option_map (λ (m : Member). m.id) m) count arguments
own_is None count arguments = refl
own_is (Some m) count arguments = refl

pub as_many : (es : List Expression) → count_of (listed (map expr_of es)) ≡ length es
as_many [] = refl
as_many (x ∷ es) = ap (λ n. suc n) (as_many es)

pub as_many_flows : (flows : List Flow) → count_of (listed (map expr_of_flow flows)) ≡ length flows
as_many_flows [] = refl
as_many_flows (x ∷ flows) = ap (λ n. suc n) (as_many_flows flows)
