-- Of two lists of as many things that are told rightly both are one.
use Rattle.std.proofs.Common.{suc, ◌≤◌, ◌≡◌, ◌+◌, ℕ, Bool, true, false, List, [], ◌∷◌, length, Option, Some, None, ℤ, refl, sym, ap, ap₂, ◌∙◌, subst, arith, ◌<◌, ◌++◌, ◌⊎◌, inl, inr}
use Rattle.std.proofs.lemmas.Bool.{cases_lt}
use Rattle.std.specs.FinMap.{FinMap, empty}
use Rattle.std.specs.Ordering.{nat_cmp}
use Rattle.mpl_value.specs.declared.body.Arg.{Arg}
use Rattle.mpl_value.specs.declared.body.BodyStart.{BodyStart}
use Rattle.mpl_value.specs.declared.body.Yield.{Yield}
use Rattle.mpl_value.specs.declared.known.Known.{Known}
use Rattle.mpl_value.specs.declared.known.Known.TheVariants as known
use Rattle.mpl_value.specs.declared.known.Trap.{Trap}
use Rattle.mpl_value.specs.CallAnswers.{any_unknown, arg_of_reply, arg_of_result, leftmost_trap}
use Rattle.mdf_code.specs.declared.raw.RawImage.{RawImage}
use Rattle.mdf_code.specs.Alone.{Held, Pending, seen_by, values_seen}
use Rattle.mdf_code.specs.Frames.{Frame, Calls, Creates, Needs, Replies}
use Rattle.mdf_code.specs.Right.{Account, EndsAt, IsCalled, IsRightAt, OwnYield, Right, Through, UnlessTrapped, UnlessUnknown, with_answer, with_turns}
use Rattle.mdf_code.specs.Told.{Beaten, Beats, Called, Gave, Halt, HaltsNext, Learnt, Named, Stands, Stood, Told}
use Rattle.mdf_code.specs.Yields.{member_is_regular, replies_of}
use Rattle.mdf_code.proofs.MoreSteps.{more_turns, one_yield}
use Rattle.mdf_code.proofs.OneHalt.{one_halt}

-- ---- answers

one_own : (image : RawImage) (member : ℕ) (arguments : List (List ℤ)) (y z : Yield) → OwnYield image member arguments y → OwnYield image member arguments z → y ≡ z
one_own image member arguments y z first second =
    one_yield image _ empty (first.turns + second.turns) y z
    (more_turns image _ empty first.turns (first.turns + second.turns) y first.yields first.unspent (omega arith))
    (more_turns image _ empty second.turns (first.turns + second.turns) z second.yields second.unspent (omega arith))

one_called : (image : RawImage) (replies : ℕ → Arg) (member : ℕ) (object : ℤ) (arguments : List Arg) (a b c : Account) (regular : Bool) → IsCalled image replies member object arguments a b regular → IsCalled image replies member object arguments a c regular → b ≡ c
one_called image replies member object arguments a b c false first second = sym first ∙ second
one_called image replies member object arguments a b c true first second = by_test (any_unknown arguments) first second where
  by_trap : (t : Option Trap) → UnlessTrapped image member arguments a b t → UnlessTrapped image member arguments a c t → b ≡ c
  by_trap (Some t) first second = sym first ∙ second
  by_trap None first second =
      sym first.is ∙ (ap (λ (y : Yield). with_answer (arg_of_result y.result) (with_turns y.turns a)) (one_own image member _ first.yield second.yield first.own second.own) ∙ second.is)

  by_test : (t : Bool) → UnlessUnknown image member arguments a b t → UnlessUnknown image member arguments a c t → b ≡ c
  by_test true first second = sym first ∙ second
  by_test false first second = by_trap (leftmost_trap arguments) first second

one_known : (x y : Known) → arg_of_reply (Some x) ≡ arg_of_reply (Some y) → x ≡ y
one_known (known.Value x) (known.Value y) h = cc h
one_known (known.Trapped x) (known.Trapped y) h = cc h
one_known (known.Value x) (known.Trapped y) h = absurd (cc h)
one_known (known.Trapped x) (known.Value y) h = absurd (cc h)

-- ---- one thing told

abbrev IsOne : RawImage → BodyStart → (ℕ → Arg) → Account → Halt → Told → Account → Type 0
IsOne image start replies a halt t b = (u : Told) (c : Account) → IsRightAt image start replies a halt u c → (t ≡ u) × (b ≡ c)

one_call_told : (image : RawImage) (start : BodyStart) (replies : ℕ → Arg) (a : Account) (member : ℕ) (object : ℤ) (arguments : List Held) (b : Account) →
    IsRightAt image start replies a (Stands (Calls member object arguments)) Called b → IsOne image start replies a (Stands (Calls member object arguments)) Called b
one_call_told image start replies a member object arguments b first Called c second = (refl, one_called image replies member object (values_seen (seen_by a.answers) arguments) (with_turns 1 a) b c (member_is_regular image member) first second)
one_call_told image start replies a member object arguments b first u c second = absurd second

one_learnt : (image : RawImage) (start : BodyStart) (replies : ℕ → Arg) (a : Account) (result : ℕ) (x : Known) (b : Account) →
    IsRightAt image start replies a (Stands (Needs (Pending result))) (Learnt x) b → IsOne image start replies a (Stands (Needs (Pending result))) (Learnt x) b
one_learnt image start replies a result x b first (Learnt y) c second = (ap Learnt (one_known x y (sym first.0 ∙ second.0)), sym first.1 ∙ second.1)
one_learnt image start replies a result x b first u c second = absurd second

one_named : (image : RawImage) (start : BodyStart) (replies : ℕ → Arg) (a : Account) (class : ℕ) (x : ℤ) (b : Account) →
    IsRightAt image start replies a (Stands (Creates class)) (Named x) b → IsOne image start replies a (Stands (Creates class)) (Named x) b
one_named image start replies a class x b first (Named y) c second = (ap Named (sym first.0 ∙ second.0), sym first.1 ∙ second.1)
one_named image start replies a class x b first u c second = absurd second

one_given : (image : RawImage) (start : BodyStart) (replies : ℕ → Arg) (a : Account) (value : Held) (b : Account) →
    IsRightAt image start replies a (Stands (Replies value)) Gave b → IsOne image start replies a (Stands (Replies value)) Gave b
one_given image start replies a value b first Gave c second = (refl, sym first ∙ second)
one_given image start replies a value b first u c second = absurd second

one_beaten : (image : RawImage) (start : BodyStart) (replies : ℕ → Arg) (a b : Account) → IsRightAt image start replies a Beats Beaten b → IsOne image start replies a Beats Beaten b
one_beaten image start replies a b first Beaten c second = (refl, sym first ∙ second)
one_beaten image start replies a b first u c second = absurd second

one_told : (image : RawImage) (start : BodyStart) (replies : ℕ → Arg) (a : Account) (halt : Halt) (t : Told) (b : Account) → IsRightAt image start replies a halt t b → IsOne image start replies a halt t b
one_told image start replies a (Stands (Calls member object arguments)) Called b first = one_call_told image start replies a member object arguments b first
one_told image start replies a (Stands (Needs (Pending result))) (Learnt x) b first = one_learnt image start replies a result x b first
one_told image start replies a (Stands (Creates class)) (Named x) b first = one_named image start replies a class x b first
one_told image start replies a (Stands (Replies value)) Gave b first = one_given image start replies a value b first
one_told image start replies a Beats Beaten b first = one_beaten image start replies a b first
one_told image start replies a halt t b first = absurd first

-- ---- lists

pub one_list : (image : RawImage) (start : BodyStart) (replies : FinMap nat_cmp Known) (told other : List Told) (a b : Account) → length told ≡ length other → Right image start replies told a → Right image start replies other b → (told ≡ other) × (a ≡ b)
one_list image start replies [] [] a b same first second = (refl, sym first ∙ second)
one_list image start replies [] (u ∷ other) a b same first second = absurd (omega (arith, same))
one_list image start replies (t ∷ told) [] a b same first second = absurd (omega (arith, same))
one_list image start replies (t ∷ told) (u ∷ other) a b same first second =
    let before = one_list image start replies told other first.a second.a (omega (arith, same)) first.was second.was in
    let stood : first.stood ≡ second.stood =
    one_halt image start told first.stood second.stood first.halts (subst (λ (list : List Told). HaltsNext image start list second.stood) (sym before.0) second.halts) in
    let is : IsRightAt image start (replies_of replies) (with_turns first.stood.turns first.a) first.stood.halt u b =
    subst (λ (s : Stood). IsRightAt image start (replies_of replies) (with_turns s.turns first.a) s.halt u b) (sym stood)
    (subst (λ (x : Account). IsRightAt image start (replies_of replies) (with_turns second.stood.turns x) second.stood.halt u b) (sym before.1) second.is) in
    let one = one_told image start (replies_of replies) (with_turns first.stood.turns first.a) first.stood.halt t a first.is u b is in
    (ap₂ (λ (x : Told) (list : List Told). x ∷ list) one.0 before.0, one.1)

-- ---- up to the end

nothing_more : (image : RawImage) (start : BodyStart) (replies : ℕ → Arg) (a : Account) (f : Frame Held) (halt : Halt) (y : Yield) (t : Told) (b : Account) → EndsAt image start a f halt y → IsRightAt image start replies a halt t b → ⊥
nothing_more image start replies a f (Stands (Calls member object arguments)) y Called b at_end right = at_end
nothing_more image start replies a f (Stands (Needs (Pending result))) y (Learnt (known.Value words)) b at_end right = cc (at_end.0, right.0)
nothing_more image start replies a f (Stands (Needs (Pending result))) y (Learnt (known.Trapped trap)) b at_end right = cc (at_end.0, right.0)
nothing_more image start replies a f (Stands (Creates class)) y (Named object) b at_end right = at_end
nothing_more image start replies a f (Stands (Replies value)) y Gave b at_end right = at_end
nothing_more image start replies a f Beats y Beaten b at_end right = at_end
nothing_more image start replies a f halt y t b at_end right = right

no_longer : (image : RawImage) (start : BodyStart) (replies : FinMap nat_cmp Known) (y : Yield) (through : Through image start replies y) (told : List Told) (b : Account) → Right image start replies told b → length told ≤ length through.told
no_longer image start replies y through [] b right = omega arith
no_longer image start replies y through (t ∷ told) b right = by_length (no_longer image start replies y through told right.a right.was) (cases_lt (length told) (length through.told)) where
  by_length : length told ≤ length through.told → (length told < length through.told) ⊎ (length through.told ≤ length told) → suc (length told) ≤ length through.told
  by_length less (inl below) = omega (arith, below)
  by_length less (inr above) =
      let same = one_list image start replies told through.told right.a through.account (omega (arith, less, above)) right.was through.right in
      let stood : right.stood ≡ through.stood =
      one_halt image start told right.stood through.stood right.halts (subst (λ (list : List Told). HaltsNext image start list through.stood) (sym same.0) through.halts) in
      absurd (nothing_more image start (replies_of replies) (with_turns through.stood.turns through.account) through.stood.frame through.stood.halt y t b through.ends
      (subst (λ (a : Account). IsRightAt image start (replies_of replies) (with_turns through.stood.turns a) through.stood.halt t b) same.1
      (subst (λ (s : Stood). IsRightAt image start (replies_of replies) (with_turns s.turns right.a) s.halt t b) stood right.is)))

is_end : (image : RawImage) (start : BodyStart) (replies : FinMap nat_cmp Known) (list told : List Told) (a b : Account) → Right image start replies list a → Right image start replies told b → length told ≤ length list →
    (more : List Told) × (list ≡ more ++ told)
is_end image start replies [] [] a b first second less = ([], refl)
is_end image start replies [] (u ∷ told) a b first second less = absurd (omega (arith, less))
is_end image start replies (t ∷ list) told a b first second less = by_length (λ below. is_end image start replies list told first.a b first.was second below) (cases_lt (length told) (suc (length list))) where
  by_length : (length told ≤ length list → (more : List Told) × (list ≡ more ++ told)) → (length told < suc (length list)) ⊎ (suc (length list) ≤ length told) → (more : List Told) × (t ∷ list ≡ more ++ told)
  by_length before (inl below) = let found = before (omega (arith, below)) in (t ∷ found.0, ap (λ (others : List Told). t ∷ others) found.1)
  by_length before (inr above) = ([], (one_list image start replies (t ∷ list) told a b (omega (arith, less, above)) first second).0)

pub on_the_way : (image : RawImage) (start : BodyStart) (replies : FinMap nat_cmp Known) (y : Yield) (through : Through image start replies y) (told : List Told) (b : Account) → Right image start replies told b →
    (more : List Told) × (through.told ≡ more ++ told)
on_the_way image start replies y through told b right =
    is_end image start replies through.told told through.account b through.right right (no_longer image start replies y through told b right)
