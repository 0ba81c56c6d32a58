-- An actor that no added entry names is out exactly where it was before.
use Rattle.std.proofs.Common.{◌≡◌, ℕ, suc, Bool, true, false, cond, eqb, List, [], ◌∷◌, ◌++◌, reverse, sym, refl, ap, ◌∙◌, arith, append_assoc, append-nil, ne_eqb}
use Rattle.std.specs.Prelude.{Contains, find, Some}
use Rattle.std.specs.Option.{option_map_or}
use Rattle.std.proofs.lemmas.List.{reverse-append}
use Rattle.mdf_turn.specs.Actors.{named, OthersStay}
use Rattle.mdf_turn_tests.specs.declared.entry.Entry.{Entry}
use Rattle.mdf_turn_tests.specs.Entries.{worker_of, is_out}

contains_later : (x y : ℕ) (xs : List ℕ) → Contains xs y → Contains (x ∷ xs) y
contains_later x y xs c = (suc c.0, omega (arith, c.1), c.2)

-- the last entry decides for its worker
pub is_out-last : (log : List Entry) (e : Entry) (x : ℕ) → is_out (log ++ e ∷ []) x ≡ cond (eqb e.worker x) e.takes (is_out log x)
is_out-last log e x = ap (λ l. option_map_or (λ e. e.takes) (find (λ e. eqb e.worker x) l) false) (reverse-append log (e ∷ [])) ∙ by_test (eqb e.worker x)
  where
    by_test : (b : Bool) → option_map_or (λ e. e.takes) (cond b (Some e) (find (λ e. eqb e.worker x) (reverse log))) false ≡ cond b e.takes (is_out log x)
    by_test true = refl
    by_test false = refl

pub others_stay : OthersStay worker_of is_out
others_stay log [] x unnamed = ap (λ l. is_out l x) (append-nil log)
others_stay log (e ∷ es) x unnamed =
    let other : ¬ (e.worker ≡ x) = λ same. unnamed (0, omega arith, same) in
    let later : ¬ Contains (named worker_of es) x = λ c. unnamed (contains_later e.worker x (named worker_of es) c) in
    ap (λ l. is_out l x) (sym (append_assoc log (e ∷ []) es))
    ∙ (others_stay (log ++ e ∷ []) es x later ∙ (is_out-last log e x ∙ ap (λ b. cond b e.takes (is_out log x)) (ne_eqb e.worker x other)))
