-- A run from more turns on.
use Rattle.std.proofs.Common.{◌≤◌, ℕ, List, arith}
use Rattle.mpl_value.specs.declared.body.Arg.{Arg}
use Rattle.mpl_mean.specs.Meaning.Store.{Store, Outcome, Goes, Returns, Ends}
use Rattle.mpl_checked.specs.Checked.CheckedSteps.{Checked, Meant, Astray}
use Rattle.mpl_gen_code.specs.Scopes.{Env}
use Rattle.mpl_gen_code.proofs.Reaching.{Comes, Here, Keeping, Whole, run_of}
use Rattle.mpl_gen_code.proofs.Scoped.{Stands}

module _ (W : Whole) (here : Here) where
  pub lowered : (low high : ℕ) → low ≤ high → (keeping : Keeping) (env : Env) (vs : List Arg) (s : Store) → Stands (run_of W high here) keeping env vs s → Stands (run_of W low here) keeping env vs s
  lowered low high le keeping env vs s stands = record {
    agree = stands.agree;
    sized = stands.sized;
    keeps = stands.keeps;
    long = stands.long;
    low = let h = stands.low in omega arith;
    within = stands.within;
    result = stands.result;
  }

  pub raised : {A : Type 0} (low high : ℕ) → low ≤ high → (Q : A → Store → Type 0) (o : Checked (Outcome A)) → Comes (run_of W low here) Q o → Comes (run_of W high here) Q o
  raised low high le Q (Meant (Goes a s)) c = c
  raised low high le Q (Meant (Returns words s)) c = λ kept. c (record { low = let h = kept.low in omega arith; within = kept.within; keeps = kept.keeps; result = kept.result })
  raised low high le Q (Meant (Ends e s)) c = λ halted. c (record { low = let h = halted.low in omega arith; within = halted.within; result = halted.result })
  raised low high le Q Astray c = c
