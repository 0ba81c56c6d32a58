-- Of one input there is one answer.
use Rattle.std.proofs.Common.{◌≡◌, ◌≤◌, ℕ, ℤ, List, Result, Ok, Err, length, inl, inr, refl, ap, arith}
use Rattle.mentat_input.specs.Limits.{most_input_numbers}
use Rattle.mentat_input.specs.Reads.{HasManyNumbers, IsDecided, IsInput}
use Rattle.mentat_input.specs.Words.{numbers_of}
use Rattle.mentat_input.specs.declared.fault.InputFault.{InputFault}
use Rattle.mentat_input.specs.declared.fault.InputFault.TheVariants as fault

ok_same : {A E : Type 0} (r : Result A E) (x y : A) → r ≡ Ok x → r ≡ Ok y → x ≡ y
ok_same r x y e f = cc

err_same : {A E : Type 0} (r : Result A E) (x y : E) → r ≡ Err x → r ≡ Err y → x ≡ y
err_same r x y e f = cc

not_both : {A E : Type 0} (r : Result A E) (x : E) (y : A) → r ≡ Err x → r ≡ Ok y → ⊥
not_both r x y e f = cc

not_many : (bytes : List ℕ) (numbers : List ℤ) → numbers_of bytes ≡ Ok numbers → length numbers ≤ most_input_numbers → HasManyNumbers bytes → ⊥
not_many bytes numbers are few h =
    let same : h.numbers ≡ numbers = ok_same (numbers_of bytes) h.numbers numbers h.are are in
    omega (arith, few, h.many, ap length same)

abbrev Answer : Type 0
Answer = Result (List ℤ) InputFault

pub one_answer : (bytes : List ℕ) (r q : Answer) → IsDecided r → IsDecided q → IsInput bytes r → IsInput bytes q → r ≡ q
one_answer bytes (Ok ns) (Ok ms) x y a b = ap Ok (ok_same (numbers_of bytes) ns ms a.1 b.1)
one_answer bytes (Ok ns) (Err fault.TooLong) x y a (inl long) = absurd (omega (arith, a.0, long))
one_answer bytes (Ok ns) (Err fault.TooLong) x y a (inr many) = absurd (not_many bytes ns a.1 a.2 many)
one_answer bytes (Ok ns) (Err (fault.BadInput at)) x y a b = absurd (not_both (numbers_of bytes) at ns b.1 a.1)
one_answer bytes (Ok ns) (Err fault.ReadFault) x y a b = absurd y
one_answer bytes (Ok ns) (Err fault.NoMemory) x y a b = absurd y
one_answer bytes (Err fault.TooLong) (Ok ms) x y (inl long) b = absurd (omega (arith, b.0, long))
one_answer bytes (Err fault.TooLong) (Ok ms) x y (inr many) b = absurd (not_many bytes ms b.1 b.2 many)
one_answer bytes (Err fault.TooLong) (Err fault.TooLong) x y a b = refl
one_answer bytes (Err fault.TooLong) (Err (fault.BadInput at)) x y (inl long) b = absurd (omega (arith, b.0, long))
one_answer bytes (Err fault.TooLong) (Err (fault.BadInput at)) x y (inr many) b = absurd (not_both (numbers_of bytes) at many.numbers b.1 many.are)
one_answer bytes (Err fault.TooLong) (Err fault.ReadFault) x y a b = absurd y
one_answer bytes (Err fault.TooLong) (Err fault.NoMemory) x y a b = absurd y
one_answer bytes (Err (fault.BadInput at)) (Ok ms) x y a b = absurd (not_both (numbers_of bytes) at ms a.1 b.1)
one_answer bytes (Err (fault.BadInput at)) (Err fault.TooLong) x y a (inl long) = absurd (omega (arith, a.0, long))
one_answer bytes (Err (fault.BadInput at)) (Err fault.TooLong) x y a (inr many) = absurd (not_both (numbers_of bytes) at many.numbers a.1 many.are)
one_answer bytes (Err (fault.BadInput at)) (Err (fault.BadInput place)) x y a b =
    ap (λ (k : ℕ). Err (fault.BadInput k)) (err_same (numbers_of bytes) at place a.1 b.1)
one_answer bytes (Err (fault.BadInput at)) (Err fault.ReadFault) x y a b = absurd y
one_answer bytes (Err (fault.BadInput at)) (Err fault.NoMemory) x y a b = absurd y
one_answer bytes (Err fault.ReadFault) q x y a b = absurd x
one_answer bytes (Err fault.NoMemory) q x y a b = absurd x
