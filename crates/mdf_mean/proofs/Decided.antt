-- The tests decide what is justified, explained and closed.
use Rattle.std.proofs.Common.{◌≡◌, ◌↔◌, ℕ, zero, suc, ◌+◌, ◌-◌, ◌*◌, ◌/◌, ◌%◌, ◌<◌, ◌≤◌, ◌^◌, Bool, true, false, not, ◌&&◌, ◌||◌, List, [], ◌∷◌, length, Option, Some, None, ℤ, pos, negsuc, refl, sym, ap, ◌∙◌, subst, arith, nat_eq, nat_lt}
use Rattle.std.proofs.lemmas.Bool.{eqb-true}
use Rattle.std.proofs.lemmas.Bool.Decides.{nat_tests}
use Rattle.std.specs.Option.{is_some}
use Rattle.std.specs.Ordering.{int_eq}
use Rattle.std.specs.Cmp.{int_cmp_total}
use Rattle.mpl_value.specs.declared.known.Known.{Known}
use Rattle.mpl_value.specs.declared.known.Known.TheVariants.{Value, Trapped}
use Rattle.mpl_value.specs.declared.known.Trap.{Trap}
use Rattle.mpl_value.specs.declared.known.TrapKind.{TrapKind}
use Rattle.mpl_value.specs.declared.known.TrapKind.TheVariants.{Overflow, DivZero, Index, Unbound, NoInput, NoReply, Twice}
use Rattle.mpl_value.specs.declared.body.CallMade.{CallMade}
use Rattle.mpl_mean.proofs.Truth.{both_true, not_true}
use Rattle.mdf_mean.specs.declared.entry.Entry.{Entry}
use Rattle.mdf_mean.specs.declared.entry.Entry.TheVariants.{Arrive, Accept, Reply}
use Rattle.mdf_mean.specs.Decides.{accepts, is_explained, is_free, is_given, is_pick, kind_number, known_eq, may_come, trap_eq, words_eq}
use Rattle.mdf_mean.specs.Explained.{Explained, MayAccept, MayCome}
use Rattle.mdf_mean.specs.Histories.{CallName, accepted_as, has_arrived, has_reply, is_taken}
use Rattle.mdf_mean.specs.Meanings.{Meaning, Setting}
use Rattle.mdf_mean.specs.Picks.{pick}
use Rattle.mdf_mean.specs.Ran.{Ran, bodies, is_idle, known_call, result_of}
use Rattle.mdf_mean.proofs.Basics.{int_same, nat_same}

-- ---- known values

int_itself : (z : ℤ) → int_eq z z ≡ true
int_itself z = search (int_cmp_total, Rattle.std.proofs.Common.rules)

pub words_same : (a b : List ℤ) → words_eq a b ≡ true → a ≡ b
words_same [] [] e = refl
words_same [] (y ∷ ys) e = absurd cc
words_same (x ∷ xs) [] e = absurd cc
words_same (x ∷ xs) (y ∷ ys) e =
    let both = both_true (int_eq x y) (words_eq xs ys) e in ap (λ z. z ∷ xs) (int_same x y both.0) ∙ ap (λ zs. y ∷ zs) (words_same xs ys both.1)

words_itself : (a : List ℤ) → words_eq a a ≡ true
words_itself [] = refl
words_itself (x ∷ xs) = ap (λ t. t && words_eq xs xs) (int_itself x) ∙ words_itself xs

kind_of : ℕ → TrapKind
kind_of zero = Overflow
kind_of (suc zero) = DivZero
kind_of (suc (suc zero)) = Index
kind_of (suc (suc (suc zero))) = Unbound
kind_of (suc (suc (suc (suc zero)))) = NoInput
kind_of (suc (suc (suc (suc (suc zero))))) = NoReply
kind_of (suc (suc (suc (suc (suc (suc n)))))) = Twice

kind_back : (k : TrapKind) → kind_of (kind_number k) ≡ k
unfolding kind_of
kind_back Overflow = refl
kind_back DivZero = refl
kind_back Index = refl
kind_back Unbound = refl
kind_back NoInput = refl
kind_back NoReply = refl
kind_back Twice = refl

trap_same : (t u : Trap) → trap_eq t u ≡ true → t ≡ u
trap_same t u e =
    let both = both_true (nat_eq (kind_number t.kind) (kind_number u.kind)) (nat_eq t.line u.line) e in
    let kinds = sym (kind_back t.kind) ∙ ap kind_of (eqb-true _ _ both.0) ∙ kind_back u.kind in
    ap (λ k. record { kind = k; line = t.line }) kinds ∙ ap (λ n. record { kind = u.kind; line = n }) (eqb-true t.line u.line both.1)

trap_itself : (t : Trap) → trap_eq t t ≡ true
trap_itself t = ap (λ b. b && nat_eq t.line t.line) (nat_same (kind_number t.kind)) ∙ nat_same t.line

known_same : (a b : Known) → known_eq a b ≡ true → a ≡ b
known_same (Value v) (Value w) e = ap Value (words_same v w e)
known_same (Value v) (Trapped t) e = absurd cc
known_same (Trapped t) (Value w) e = absurd cc
known_same (Trapped t) (Trapped u) e = ap Trapped (trap_same t u e)

known_itself : (a : Known) → known_eq a a ≡ true
known_itself (Value v) = words_itself v
known_itself (Trapped t) = trap_itself t

given_is : (v : Known) (o : Option Known) → is_given v o ≡ true → o ≡ Some v
given_is v None e = absurd cc
given_is v (Some w) e = ap Some (known_same w v e)

given_itself : (v : Known) (o : Option Known) → o ≡ Some v → is_given v o ≡ true
given_itself v o e = ap (is_given v) e ∙ known_itself v

-- ---- tests

not_false : (b : Bool) → b ≡ false → not b ≡ true
not_false b e = ap not e

and_true : {a b : Bool} → a ≡ true → b ≡ true → (a && b) ≡ true
and_true {b = b} e f = ap (λ t. t && b) e ∙ f

some_true : {A : Type 0} (o : Option A) → is_some o ≡ true → (a : A) × (o ≡ Some a)
some_true None e = absurd cc
some_true (Some a) e = (a, refl)

true_some : {A : Type 0} {o : Option A} {a : A} → o ≡ Some a → is_some o ≡ true
true_some e = ap is_some e

-- ---- entries

pick_is : (i k : ℕ) (o : Option CallName) → is_pick i k o ≡ true → o ≡ Some (record { body = i; call = k })
pick_is i k None e = absurd cc
pick_is i k (Some name) e =
    let both = both_true (nat_eq name.body i) (nat_eq name.call k) e in
    ap (λ j. Some (record { body = j; call = name.call })) (eqb-true name.body i both.0) ∙ ap (λ j. Some (record { body = i; call = j })) (eqb-true name.call k both.1)

pick_itself : (i k : ℕ) (o : Option CallName) → o ≡ Some (record { body = i; call = k }) → is_pick i k o ≡ true
pick_itself i k o e = ap (is_pick i k) e ∙ and_true (nat_same i) (nat_same k)

pub below : (m n : ℕ) → nat_lt m n ≡ true → m < n
below m n e = grind (arith, nat_tests)

below_test : (m n : ℕ) → m < n → nat_lt m n ≡ true
below_test m n e = grind (arith, nat_tests)

accept_is : (m : Meaning) (bs : List Ran) (h : List Entry) (n i k : ℕ) (o : Option CallMade) → known_call bs i k ≡ o → accepts m bs h i k o ≡ true → is_free n h ≡ true → MayAccept m bs h n i k
accept_is m bs h n i k None is e f = absurd cc
accept_is m bs h n i k (Some call) is e f =
    let both = both_true (is_idle bs call.object) (is_pick i k (pick m bs h call.object)) e in
    let free = both_true (nat_lt 0 n) (nat_lt n (2 ^ 31) && not (is_taken n h)) f in
    let rest = both_true (nat_lt n (2 ^ 31)) (not (is_taken n h)) free.1 in
    record {
      call = call;
      made = is;
      idle = both.0;
      picked = pick_is i k (pick m bs h call.object) both.1;
      least = below 0 n free.0;
      most = below n (2 ^ 31) rest.0;
      free = not_true (is_taken n h) rest.1;
    }

pub may_is : (m : Meaning) (bs : List Ran) (h : List Entry) (e : Entry) → may_come m bs h e ≡ true → MayCome m bs h e
may_is m bs h (Arrive i k) t =
    let both = both_true (is_some (known_call bs i k)) (not (has_arrived i k h)) t in
    let call = some_true (known_call bs i k) both.0 in
    record { call = call.0; made = call.1; first = not_true (has_arrived i k h) both.1 }
may_is m bs h (Accept n i k) t =
    let both = both_true (accepts m bs h i k (known_call bs i k)) (is_free n h) t in accept_is m bs h n i k (known_call bs i k) refl both.0 both.1
may_is m bs h (Reply i k v) t =
    let both = both_true (is_given v (result_of bs (accepted_as i k h))) (not (has_reply i k h)) t in
    record { given = given_is v (result_of bs (accepted_as i k h)) both.0; first = not_true (has_reply i k h) both.1 }

pub is_may : (m : Meaning) (bs : List Ran) (h : List Entry) (e : Entry) → MayCome m bs h e → may_come m bs h e ≡ true
is_may m bs h (Arrive i k) a = and_true (true_some a.made) (not_false (has_arrived i k h) a.first)
is_may m bs h (Accept n i k) a =
    and_true (ap (accepts m bs h i k) a.made ∙ and_true a.idle (pick_itself i k (pick m bs h a.call.object) a.picked))
    (and_true (below_test 0 n a.least) (and_true (below_test n (2 ^ 31) a.most) (not_false (is_taken n h) a.free)))
is_may m bs h (Reply i k v) a = and_true (given_itself v (result_of bs (accepted_as i k h)) a.given) (not_false (has_reply i k h) a.first)

-- ---- journals

pub explained_is : (s : Setting) (h : List Entry) → is_explained s h ≡ true → Explained s h
explained_is s [] e = tt
explained_is s (x ∷ h) e =
    let both = both_true (may_come s.meaning (bodies s h) h x) (is_explained s h) e in (may_is s.meaning (bodies s h) h x both.0, explained_is s h both.1)

pub is_explained_so : (s : Setting) (h : List Entry) → Explained s h → is_explained s h ≡ true
is_explained_so s [] e = refl
is_explained_so s (x ∷ h) e = and_true (is_may s.meaning (bodies s h) h x e.0) (is_explained_so s h e.1)
