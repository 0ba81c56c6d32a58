-- The turns of a yield: one more than its allowance where it is spent, and else no more than that.
use Rattle.std.proofs.Common.{◌≡◌, ◌≢◌, ℕ, ◌+◌, ◌≤◌, List, [], Option, Some, None, subst, arith}
use Rattle.std.specs.FinMap.{FinMap}
use Rattle.std.specs.Ordering.{nat_cmp}
use Rattle.mpl_ast.specs.declared.program.Declaration.{Declaration}
use Rattle.mpl_ast.specs.declared.program.Program.{Program}
use Rattle.mpl_value.specs.declared.body.BodyEnd.TheVariants as end
use Rattle.mpl_value.specs.declared.body.BodyStart.{BodyStart}
use Rattle.mpl_value.specs.declared.body.MemberId.{MemberId}
use Rattle.mpl_value.specs.declared.body.Yield.{Yield}
use Rattle.mpl_value.specs.declared.known.Known.{Known}
use Rattle.mpl_mean.specs.Meaning.BodyMeaning.{callees_at, body_of, context_with, formals_holding, in_class, main_statements, member_body, member_of_classes, split_words, store_with, yield_of}
use Rattle.mpl_mean.specs.Meaning.Context.{Context}
use Rattle.mpl_mean.specs.Meaning.Layout.{Class, Member, classes_of}
use Rattle.mpl_mean.specs.Meaning.Store.{Outcome}
use Rattle.mpl_mean.proofs.Allowance.Counted.{AreExact}
use Rattle.mpl_mean.proofs.Allowance.CountedSteps.{run_counted}
use Rattle.mpl_mean.proofs.Allowance.Tells.{Tells, main_tells, member_tells, spent_is, not_spent_is}
use Rattle.mpl_mean.proofs.MoreReplies.Follows.{store_after}
use Rattle.mpl_mean.proofs.Simulations.UnlessSpent.{is_spent, is_spent_end}

abbrev IsExact : ℕ → Yield → Type 0
IsExact n y = AreExact n (is_spent_end y.end) y.turns

told_exact : (n : ℕ) (o : Outcome (Unit {0})) (y : Yield) → Tells o y → AreExact n (is_spent o) (store_after o).turns → IsExact n y
told_exact n o y t e = subst (λ k. AreExact n (is_spent_end y.end) k) t.turns (subst (λ b. AreExact n b (store_after o).turns) t.spent e)

module _ (ds : List Declaration) (replies : FinMap nat_cmp Known) (n : ℕ) (start : BodyStart) where
  abbrev context : Context
  context = context_with ds n replies (callees_at n ds n replies)

  members_exact : (found : Option (Class × Member)) → IsExact n (member_body context start found)
  members_exact None = omega arith
  members_exact (Some found) =
      let s = store_with (formals_holding found.1.formals (split_words ds found.1.formals start.args)) start.state start.input 0 in
      told_exact n _ _ (member_tells found.1 _) (run_counted ds n replies (in_class found.0 start context) found.1.body.statements s (omega arith) (omega arith)).exact

  bodies_exact : (member : Option MemberId) → IsExact n (body_of context start member)
  bodies_exact None =
      let s = store_with [] start.state start.input 0 in
      told_exact n _ _ (main_tells _) (run_counted ds n replies (record context { number = start.number }) (main_statements ds) s (omega arith) (omega arith)).exact
  bodies_exact (Some m) = members_exact (member_of_classes m.0 (classes_of ds))

yield_exact : (p : Program) (start : BodyStart) (replies : FinMap nat_cmp Known) (n : ℕ) → IsExact n (yield_of p start replies n)
yield_exact p start replies n = bodies_exact p.declarations replies n start start.member

pub turns_within : (p : Program) (start : BodyStart) (replies : FinMap nat_cmp Known) (n : ℕ) → (yield_of p start replies n).end ≢ end.Spent → (yield_of p start replies n).turns ≤ n
turns_within p start replies n h =
    let y = yield_of p start replies n in subst (λ b. AreExact n b y.turns) (not_spent_is y.end h) (yield_exact p start replies n)

pub turns_spent : (p : Program) (start : BodyStart) (replies : FinMap nat_cmp Known) (n : ℕ) → (yield_of p start replies n).end ≡ end.Spent → (yield_of p start replies n).turns ≡ n + 1
turns_spent p start replies n h =
    let y = yield_of p start replies n in subst (λ b. AreExact n b y.turns) (spent_is y.end h) (yield_exact p start replies n)
