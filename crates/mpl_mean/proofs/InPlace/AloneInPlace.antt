-- A regular member called in place is its body alone.
use Rattle.std.proofs.Common.{◌≡◌, ℕ, zero, suc, ◌+◌, ◌-◌, ◌≤◌, List, [], ◌∷◌, ◌++◌, flat_map, take, drop, length, None, if◌then◌else◌, ℤ, pos, refl, sym, ap, ap₂, subst, ◌∙◌, arith}
use Rattle.std.proofs.Math.Seq.{drop-append_seam, take-append_seam}
use Rattle.std.specs.FinMap.{FinMap, empty}
use Rattle.std.specs.Ordering.{nat_cmp}
use Rattle.mpl_ast.specs.declared.class.Formal.{Formal}
use Rattle.mpl_ast.specs.declared.program.Declaration.{Declaration}
use Rattle.mpl_ast.specs.declared.program.Program.{Program}
use Rattle.mpl_value.specs.declared.body.BodyEnd.{BodyEnd}
use Rattle.mpl_value.specs.declared.body.BodyEnd.TheVariants as end
use Rattle.mpl_value.specs.declared.body.BodyResult.{BodyResult}
use Rattle.mpl_value.specs.declared.body.Yield.{Yield}
use Rattle.mpl_value.specs.declared.known.Known.{Known}
use Rattle.mpl_value.specs.CallAnswers.{arg_of_result}
use Rattle.mpl_mean.specs.Meaning.BodyMeaning.{back_with, callees_at, context_with, formals_holding, in_class, member_body, member_end, member_yield, run, split_words, store_of, store_with, yield_of}
use Rattle.mpl_mean.specs.Meaning.Context.{Context}
use Rattle.mpl_mean.specs.Laws.InPlace.{ArgumentsHaveWords, IsRegular, goes_on_with, start_alone}
use Rattle.mpl_mean.specs.Meaning.Layout.{Member, parts_of, words_of}
use Rattle.mpl_mean.specs.Meaning.Store.{Store, Outcome, Goes, Ends}
use Rattle.mpl_mean.proofs.MoreReplies.ComesBack.{after_regular}
use Rattle.mpl_mean.proofs.InPlace.Shifted.{shift, shifted}
use Rattle.mpl_mean.proofs.InPlace.ShiftedSteps.{regular_shifted}

-- ---- arguments

take_all : (xs ys : List ℤ) (n : ℕ) → length xs ≡ n → take n (xs ++ ys) ≡ xs
take_all xs ys n e = subst (λ n. take n (xs ++ ys) ≡ xs) e (take-append_seam xs ys)

drop_all : (xs ys : List ℤ) (n : ℕ) → length xs ≡ n → drop n (xs ++ ys) ≡ ys
drop_all xs ys n e = subst (λ n. drop n (xs ++ ys) ≡ ys) e (drop-append_seam xs ys)

split_joined : (ds : List Declaration) (formals : List Formal) (arguments : List (List ℤ)) → ArgumentsHaveWords ds formals arguments
    → split_words ds formals (flat_map (λ words. words) arguments) ≡ arguments
split_joined ds [] [] h = refl
split_joined ds [] (words ∷ arguments) h = absurd h
split_joined ds (formal ∷ formals) [] h = absurd h
split_joined ds (formal ∷ formals) (words ∷ arguments) h =
    let others = flat_map (λ words. words) arguments in
    let n = words_of ds formal.type_name None in
    ap₂ (λ (one : List ℤ) (more : List ℤ). one ∷ split_words ds formals more) (take_all words others n h.0) (drop_all words others n h.0)
    ∙ ap (λ more. words ∷ more) (split_joined ds formals arguments h.1)

-- ---- coming back

back_shifted : (k turns : ℕ) (e : BodyEnd × BodyResult) (t : Store) → shifted k (back_with turns e t) ≡ back_with (k + turns) e (shift k t)
back_shifted k turns (end.Done, given) t = ap (λ n. Goes (arg_of_result given) (record t { turns = n })) (let e : turns + k ≡ k + turns = omega arith in e)
back_shifted k turns (end.Trap trap, given) t = ap (λ n. Goes (arg_of_result given) (record t { turns = n })) (let e : turns + k ≡ k + turns = omega arith in e)
back_shifted k turns (end.Waits, given) t = ap (λ n. Goes (arg_of_result given) (record t { turns = n })) (let e : turns + k ≡ k + turns = omega arith in e)
back_shifted k turns (end.Spent, given) t = ap (λ n. Ends end.Spent (record t { turns = n })) (let e : turns + k ≡ k + turns = omega arith in e)

module _ (p : Program) (m : Member) (is : IsRegular p.declarations m) (arguments : List (List ℤ)) (fit : ArgumentsHaveWords p.declarations m.formals arguments) (left : ℕ) where
  abbrev context : Context
  context = context_with p.declarations left empty (callees_at left p.declarations left empty)

  abbrev ran : Outcome (Unit {0})
  ran = run context m.body.statements (store_with (formals_holding m.formals arguments) [] [] 0)

  no_object : in_class is.class (start_alone m arguments) context ≡ context
  no_object = ap (λ b. record context { members = if b then [] else (is.class).members; state = if b then [] else parts_of p.declarations (is.class).state; object = pos 0; number = 0 }) is.regular

  yield_alone : yield_of p (start_alone m arguments) empty left ≡ member_yield m ran
  yield_alone =
      ap (member_body context (start_alone m arguments)) is.found
      ∙ ap₂ (λ x words. member_yield m (run x m.body.statements (store_with (formals_holding m.formals words) [] [] 0))) no_object
      (split_joined p.declarations m.formals arguments fit)

  -- where so many turns were spent before
  alone_behind : (k level : ℕ) → left ≤ level → (t : Store) → t.turns ≡ 0
      → (callees_at level p.declarations (left + k) empty).regular m arguments (shift k t) ≡ let y = yield_of p (start_alone m arguments) empty left in back_with (k + y.turns) (y.end, y.result) (shift k t)
  alone_behind k level few t none =
      regular_shifted p.declarations left k level (suc left) few (omega arith) m arguments t none
      ∙ ap (λ n. shifted k (after_regular m t (run context m.body.statements (store_with (formals_holding m.formals arguments) [] [] n)))) none
      ∙ back_shifted k (store_of ran).turns (member_end m ran) t
      ∙ ap (λ (y : Yield). back_with (k + y.turns) (y.end, y.result) (shift k t)) (sym yield_alone)

-- what was replied to the caller isn't seen
no_replies : (level : ℕ) (ds : List Declaration) (n : ℕ) (replies : FinMap nat_cmp Known) (m : Member) (arguments : List (List ℤ))
    → (callees_at level ds n replies).regular m arguments ≡ (callees_at level ds n empty).regular m arguments
no_replies zero ds n replies m arguments = refl
no_replies (suc level) ds n replies m arguments = refl

pub in_place_is_alone : (p : Program) (replies : FinMap nat_cmp Known) (n level : ℕ) (m : Member) (arguments : List (List ℤ)) (store : Store) → IsRegular p.declarations m
    → ArgumentsHaveWords p.declarations m.formals arguments → store.turns ≤ n → n ≤ store.turns + level
    → (callees_at level p.declarations n replies).regular m arguments store ≡ goes_on_with (yield_of p (start_alone m arguments) empty (n - store.turns)) store
in_place_is_alone p replies n level m arguments store is fit within enough =
    let left = n - store.turns in
    let y = yield_of p (start_alone m arguments) empty left in
    let all : left + store.turns ≡ n = omega arith in
    let none : 0 + store.turns ≡ store.turns = omega arith in
    ap (λ regular. regular store) (no_replies level p.declarations n replies m arguments)
    ∙ subst (λ n. (callees_at level p.declarations n empty).regular m arguments store ≡ goes_on_with y store) all
    (subst (λ k. (callees_at level p.declarations (left + store.turns) empty).regular m arguments (record store { turns = k }) ≡ back_with (store.turns + y.turns) (y.end, y.result) (record store { turns = k }))
    none (alone_behind p m is arguments fit left store.turns level (omega arith) (record store { turns = 0 }) refl))
