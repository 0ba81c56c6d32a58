-- A turn of the loop over declarations.
use Rattle.std.proofs.Common.{◌≡◌, ℕ, zero, suc, ◌==◌, false, List, [], ◌∷◌, ◌++◌, length, Some, refl, ap, ◌∙◌}
use Rattle.mpl_ast.specs.declared.program.Declaration.{Declaration}
use Rattle.mpl_ast.specs.declared.token.Token.{Token}
use Rattle.mpl_mean.specs.Text.Reading.{Rest}
use Rattle.mpl_trees.specs.Programs.{declarations_at, take_declaration, take_declarations}
use Rattle.mpl_trees.specs.Taking.{Takes, ahead, both}
use Rattle.mpl_expressions.proofs.Turns.{behind, both-is, one_more}

at_declaration : (more : Takes (List Declaration)) (limit : ℕ) (ts : List Token) (r : Rest) → (length ts == 0) ≡ false → declarations_at more (ahead ts) limit r ≡ both ◌∷◌ take_declaration more limit r
at_declaration more limit [] r h = absurd cc
at_declaration more limit (t ∷ ts) r h = refl

begun : (limit n k : ℕ) (r : Rest) → n ≡ suc k → (length r.tokens == 0) ≡ false → take_declarations n limit r ≡ both ◌∷◌ take_declaration (take_declarations k) limit r
begun limit n k r h some = rw h (at_declaration (take_declarations k) limit r.tokens r some)

pub next-declaration : (limit n k : ℕ) (xs : List Declaration) (r : Rest) {s : Rest} {x : Declaration}
    → n ≡ suc k → (length r.tokens == 0) ≡ false → take_declaration limit r ≡ Some (x, s)
    → behind xs (take_declarations n limit r) ≡ behind (xs ++ x ∷ []) (take_declarations k limit s)
next-declaration limit n k xs r {s = s} {x = x} h some e =
    ap (behind xs) (begun limit n k r h some ∙ both-is take_declaration (take_declarations k) limit r e) ∙ one_more xs x (take_declarations k limit s)
