-- Two runs side by side, the second of which has taken no fewer turns and has no smaller allowance.
use Rattle.std.proofs.Common.{◌≡◌, ◌≤◌, ◌+◌, ℕ, nat_lt, Bool, true, false, Option, Some, cond, refl, sym, ap, ◌∙◌, subst, arith, ◌⊎◌, inl, inr}
use Rattle.std.proofs.lemmas.Bool.{ltb-true, ltb-false}
use Rattle.mpl_value.specs.declared.body.BodyEnd.{BodyEnd}
use Rattle.mpl_value.specs.declared.body.BodyEnd.TheVariants as end
use Rattle.mdf_code.specs.Yields.{Body, Ended, Setting, comes_back, comes_back_at, ends, exec, spends}
use Rattle.mdf_code.proofs.CountedSteps.{Between, IsCounted, at_most_one_above, comes_back_counted, exec_counted}
use Rattle.mdf_code.proofs.MoreSteps.{at}

-- one of them is spent, and the second took no fewer turns
pub record IsPast (e f : Ended) : Type 0 where
  pub spent : (e.end ≡ end.Spent) ⊎ (f.end ≡ end.Spent)
  pub turns : e.body.turns ≤ f.body.turns

-- what follows counts its turns
abbrev pub Counting : ℕ → (Body → Option Ended) → Type 0
Counting n next = (low : ℕ) (b : Body) (e : Ended) → Between low n b.turns → next b ≡ Some e → IsCounted low n e

pub exec_counting : (n k : ℕ) (s : Setting) → Counting n (exec k (at n s))
exec_counting n k s low b e between h = exec_counted low n k (at n s) b e refl between h

pub ended_is : (x : BodyEnd) (b : Body) (e : Ended) → ends x b ≡ Some e → record { body = b; end = x } ≡ e
ended_is x b e h = some_is _ _ h where
  some_is : (a c : Ended) → Some a ≡ Some c → a ≡ c
  some_is a c h = cc h

-- a turn of each: one of them is spent, or both go on
pub spends_both : {P : Type 0} (n m : ℕ) → n ≤ m → (s r : Setting) (b c : Body) (e f : Ended) (next more : Body → Option Ended) → Counting n next → Counting m more →
    b.turns ≤ n → c.turns ≤ m → b.turns ≤ c.turns →
    (b.turns + 1 ≤ n → c.turns + 1 ≤ m → next (record b { turns = b.turns + 1 }) ≡ Some e → more (record c { turns = c.turns + 1 }) ≡ Some f → P) → (IsPast e f → P) →
    spends (at n s) b next ≡ Some e → spends (at m r) c more ≡ Some f → P
spends_both {P = P} n m less s r b c e f next more counts counts_more within within_more fewer go past h g = by_test (nat_lt b.turns n) refl (nat_lt c.turns m) refl where
  first : Body
  first = record b { turns = b.turns + 1 }

  second : Body
  second = record c { turns = c.turns + 1 }

  on_first : (t : Bool) → nat_lt b.turns n ≡ t → cond t (next first) (ends end.Spent first) ≡ Some e
  on_first t is = sym (ap (λ (t : Bool). cond t (next first) (ends end.Spent first)) is) ∙ h

  on_second : (t : Bool) → nat_lt c.turns m ≡ t → cond t (more second) (ends end.Spent second) ≡ Some f
  on_second t is = sym (ap (λ (t : Bool). cond t (more second) (ends end.Spent second)) is) ∙ g

  spent_second : nat_lt c.turns m ≡ false → record { body = second; end = end.Spent } ≡ f
  spent_second is = ended_is end.Spent second f (on_second false is)

  above : (u : Bool) → nat_lt c.turns m ≡ u → c.turns + 1 ≤ f.body.turns
  above true is = let below = ltb-true c.turns m is in (counts_more (c.turns + 1) second f (omega arith, omega (arith, below)) (on_second true is)).above
  above false is = subst (λ (x : Ended). c.turns + 1 ≤ x.body.turns) (spent_second is) (omega arith)

  by_test : (t : Bool) → nat_lt b.turns n ≡ t → (u : Bool) → nat_lt c.turns m ≡ u → P
  by_test true is true also =
      let below = ltb-true b.turns n is in let below_more = ltb-true c.turns m also in
      go (omega (arith, below)) (omega (arith, below_more)) (on_first true is) (on_second true also)
  by_test true is false also =
      let below = ltb-true b.turns n is in let over = ltb-false c.turns m also in
      let most = at_most_one_above (b.turns + 1) n e (counts (b.turns + 1) first e (omega arith, omega (arith, below)) (on_first true is)) in
      past (subst (λ (x : Ended). IsPast e x) (spent_second also) (record { spent = inr refl; turns = omega (arith, most, over, less) }))
  by_test false is u also =
      let over = ltb-false b.turns n is in let rest = above u also in
      past (subst (λ (x : Ended). IsPast x f) (ended_is end.Spent first e (on_first false is)) (record { spent = inl refl; turns = omega (arith, rest, fewer) }))

pub branch_both : {P : Type 0} (t : Bool) (a b c d : Option Ended) (e f : Ended) → (a ≡ Some e → c ≡ Some f → P) → (b ≡ Some e → d ≡ Some f → P) → cond t a b ≡ Some e → cond t c d ≡ Some f → P
branch_both true a b c d e f one other h g = one h g
branch_both false a b c d e f one other h g = other h g

-- the end that a body in place came to
back_counted : (n k : ℕ) (s : Setting) (member : ℕ) (b : Body) (x e : Ended) → IsCounted 0 n x → comes_back (exec k) (at n s) member b (Some x) ≡ Some e → IsCounted x.body.turns n e
back_counted n k s member b x e counted h =
    comes_back_counted x.body.turns n (exec k) (exec_counted x.body.turns n k) (at n s) member b e (Some x) refl
    (λ y is. subst (IsCounted x.body.turns n) (some_is x y is) (record { above = omega arith; within = counted.within; spent = counted.spent })) h where
      some_is : (a c : Ended) → Some a ≡ Some c → a ≡ c
      some_is a c h = cc h

back_spent : (k : ℕ) (s : Setting) (member : ℕ) (b : Body) (x e : Ended) → x.end ≡ end.Spent → comes_back (exec k) s member b (Some x) ≡ Some e → record { body = record b { turns = x.body.turns }; end = end.Spent } ≡ e
back_spent k s member b x e is h = ended_is end.Spent _ e (sym (ap (comes_back_at (exec k) s member b x) is) ∙ h)

-- a body in place that is past the other leaves its caller past the other's
pub back_past : (n m : ℕ) → n ≤ m → (k l : ℕ) (s r : Setting) (member : ℕ) (b c : Body) (x y e f : Ended) → IsCounted 0 n x → IsCounted 0 m y → IsPast x y →
    comes_back (exec k) (at n s) member b (Some x) ≡ Some e → comes_back (exec l) (at m r) member c (Some y) ≡ Some f → IsPast e f
back_past n m less k l s r member b c x y e f counted counted_more past h g = by_spent past.spent where
  first : IsCounted x.body.turns n e
  first = back_counted n k s member b x e counted h

  second : IsCounted y.body.turns m f
  second = back_counted m l r member c y f counted_more g

  by_spent : (x.end ≡ end.Spent) ⊎ (y.end ≡ end.Spent) → IsPast e f
  by_spent (inl is) = subst (λ (z : Ended). IsPast z f) (back_spent k (at n s) member b x e is h)
      (let above = second.above in let turns = past.turns in record { spent = inl refl; turns = omega (arith, above, turns) })
  by_spent (inr is) = subst (λ (z : Ended). IsPast e z) (back_spent l (at m r) member c y f is g)
      (let most = at_most_one_above x.body.turns n e first in let spent = counted_more.spent is in record { spent = inr refl; turns = omega (arith, most, spent, less) })
