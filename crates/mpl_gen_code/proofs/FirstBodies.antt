-- The code of a body yields from its start what the body means.
use Rattle.std.proofs.Common.{◌≡◌, ◌≤◌, ℕ, ◌+◌, List, [], Option, None, arith}
use Rattle.std.specs.FinMap.{FinMap}
use Rattle.std.specs.Ordering.{nat_cmp}
use Rattle.mpl_value.specs.declared.body.Arg.{Arg}
use Rattle.mpl_value.specs.declared.body.BodyStart.{BodyStart}
use Rattle.mpl_value.specs.declared.body.Yield.{Yield}
use Rattle.mpl_value.specs.declared.known.Known.{Known}
use Rattle.mpl_mean.specs.Meaning.BodyMeaning.{callees_at}
use Rattle.mpl_mean.specs.Meaning.Context.{Context}
use Rattle.mpl_mean.specs.Meaning.Store.{Store, Goes, spend}
use Rattle.mpl_mean.specs.Plain.Stmt.{Stmts}
use Rattle.mdf_code.specs.Sizes.{ResultFits}
use Rattle.mdf_code.specs.Yields.{exec, replies_of, setting_of, spends}
use Rattle.mdf_code.specs.declared.raw.RawImage.{RawImage}
use Rattle.mpl_checked.specs.Checked.CheckedBodies.{checked_callees_at, checked_run}
use Rattle.mpl_checked.specs.Checked.CheckedStatements.{checked_each}
use Rattle.mpl_checked.specs.Checked.CheckedSteps.{Meant, CheckedStep, Checking, checked_in_turn}
use Rattle.mpl_gen_code.specs.Fits.{May, StmtsFit}
use Rattle.mpl_gen_code.specs.ProgramFits.{ProgramFits}
use Rattle.mpl_gen_code.specs.Scopes.{Env}
use Rattle.mpl_gen_code.proofs.AddingCallees.{plain_adds, regular_adds}
use Rattle.mpl_gen_code.proofs.Assignments.{Writable}
use Rattle.mpl_gen_code.proofs.Flows.{meets_map}
use Rattle.mpl_gen_code.proofs.Forcing.{comes_pure}
use Rattle.mpl_gen_code.proofs.Leaves.{EndsAs}
use Rattle.mpl_gen_code.proofs.Bodies.{Finished, IsBody, body_follows}
use Rattle.mpl_gen_code.proofs.Calling.{Bounded, Comes_by, spends_comes}
use Rattle.mpl_gen_code.proofs.Compiled.{Compiled}
use Rattle.mpl_gen_code.proofs.Instructions.{point}
use Rattle.mpl_gen_code.proofs.Levels.{levels}
use Rattle.mpl_gen_code.proofs.Members.{Meets}
use Rattle.mpl_gen_code.proofs.Reaching.{Here, Whole, body_at, run_of}
use Rattle.mpl_gen_code.proofs.Scoped.{Allowed, Stands, WellScoped, context_of}

-- ---- a body from its start

-- where the code of the first body comes to this yield
abbrev pub first_whole : RawImage → BodyStart → FinMap nat_cmp Known → ℕ → Option ℕ → Yield → Whole
first_whole image start replies turns gives y = record {
  setting = setting_of image start (replies_of replies) turns;
  outer = [];
  final = y;
  given = gives;
  table = replies;
  vowed = replies;
}

-- What a body does from its start comes to what its code comes to: a turn, and then the statements.
module _ (W : Whole) (here : Here) (may : May) (outer : Env) (compiled : Compiled W.setting.image outer.declarations outer.marks) (fits : ProgramFits outer.declarations outer.marks) (in_place : W.setting.answers ≡ None)
    (finishes : here.finish ≡ outer.finish) (allowed : (low : ℕ) → Allowed (run_of W low here) may outer.parts) (writable : (low : ℕ) → Writable (run_of W low here) outer.parts)
    (ends : (low : ℕ) → EndsAs (run_of W low here) outer.finish) (stmts : Stmts) (is : IsBody W here outer stmts) (stmts_fit : StmtsFit may outer stmts) (well : WellScoped outer.declarations outer.sizes outer.scope) where
  abbrev pub chk : Checking
  chk = record { marks = outer.marks; callees = checked_callees_at outer.marks W.setting.turns outer.declarations W.setting.turns W.table }

  abbrev pub context : Context
  context = context_of (run_of W 0 here) (callees_at W.setting.turns outer.declarations W.setting.turns W.table) outer

  abbrev End : Unit {0} → Store → Type 0
  End u t = Finished (run_of W 0 here) outer.finish t

  abbrev rest : CheckedStep (Unit {0})
  rest = checked_in_turn (checked_each chk stmts context)

  pub starts : (vs : List Arg) (s : Store) → s.turns ≤ W.setting.turns → ResultFits W.given s.result → Stands (run_of W 0 here) here.keeping outer vs s
      → Meets (run_of W 0 here) outer.declarations End (checked_run chk context stmts s)
      → Comes_by (run_of W 0 here) (λ fuel. spends W.setting (body_at (point (run_of W 0 here) 0 [] [] vs) 0 s) (exec fuel W.setting))
  starts vs s within result stands m =
      spends_comes (run_of W 0 here) Next (point (run_of W 0 here) 0 [] [] vs) 0 s (λ t. Meant (Goes tt t)) (λ fuel. exec fuel W.setting) (record { low = let e : 0 ≤ s.turns = omega arith in e; within = within; result = result })
      (λ now d. behind now d)
      (comes_pure (run_of W 0 here) Next (Meant (spend W.setting.turns s)) (meets_map (run_of W 0 here) outer.declarations End Next (Meant (spend W.setting.turns s)) (λ _. rest) (λ u t d. d) m)) where
        -- what is asked for behind the turn
        Next : Unit {0} → Store → Type 0
        Next u t = Meets (run_of W 0 here) outer.declarations End (rest t)

        turned : Store
        turned = record s { turns = s.turns + 1 }

        behind : Bounded (run_of W 0 here) turned → Meets (run_of W 0 here) outer.declarations End (rest turned) → Comes_by (run_of W 0 here) (λ fuel. exec fuel W.setting (body_at (point (run_of W 0 here) 0 [] [] vs) 0 turned))
        behind now d =
            let stands_now : Stands (run_of W 0 here) here.keeping outer vs turned = record { agree = stands.agree; sized = stands.sized; keeps = stands.keeps; long = stands.long; low = now.low; within = now.within; result = result } in
            body_follows W here may outer (callees_at W.setting.turns outer.declarations W.setting.turns W.table) (checked_callees_at outer.marks W.setting.turns outer.declarations W.setting.turns W.table) 0
            (levels outer.declarations outer.marks W.setting.turns W compiled fits in_place 0 (omega arith)) allowed
            (λ low. record { members = compiled.members; classes = compiled.classes; in_place = in_place })
            (plain_adds outer.declarations W.vowed outer.marks W.setting.turns W.setting.turns W.table) (regular_adds outer.declarations W.vowed outer.marks W.setting.turns W.setting.turns W.table) writable finishes ends
            stmts is stmts_fit well 0 (omega arith) vs turned stands_now d.0 d.1 0
