-- Tables of names beside the declarations that they are of: one more behind the others.
use Rattle.std.proofs.Common.{◌≡◌, ℕ, Bool, true, false, Option, Some, None, if◌then◌else◌, option_map, refl, ap}
use Rattle.std.specs.Borrow.{Bor}
use Rattle.mpl_ast.specs.declared.statement.TypeName.{TypeName}
use Rattle.mpl_mean.specs.Meaning.Layout.{Function}
use Rattle.mpl_scope.specs.First.{or_else}
use Rattle.mpl_gen_scope.specs.Outlines.{result_of}

pub chosen_number : (o : Option ℕ) (b : Bool) (n : ℕ) (rest : Option ℕ) → or_else (or_else o (if b then Some n else None)) rest ≡ or_else o (if b then Some n else rest)
chosen_number None true n rest = refl
chosen_number None false n rest = refl
chosen_number (Some m) b n rest = refl

pub chosen_result : (o : Option (Bor TypeName)) (b : Bool) (n : Bor TypeName) (f : Function) (rest : Option Function) → n.now ≡ result_of f
    → or_else (option_map (λ (type : Bor TypeName). type.now) (or_else o (if b then Some n else None))) (option_map result_of rest)
    ≡ or_else (option_map (λ (type : Bor TypeName). type.now) o) (option_map result_of (if b then Some f else rest))
chosen_result None true n f rest is = ap (λ t. Some t) is
chosen_result None false n f rest is = refl
chosen_result (Some m) b n f rest is = refl
