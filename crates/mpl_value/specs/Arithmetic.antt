-- Arithmetic on words of 64 bits: the exact result, or why there is none.
use Rattle.std.specs.Prelude.{◌-◌, ◌^◌, ◌&&◌, Bool, ℤ, pos, negsuc, neg_ℤ, ◌+ℤ◌, ◌-ℤ◌, ◌*ℤ◌, int_lt, int_le, int_div, int_rem, if◌then◌else◌}
use Rattle.std.specs.Ordering.{int_eq}
use Rattle.std.specs.declared.result.Result.{Result}
use Rattle.std.specs.declared.result.Result.TheVariants.{Ok, Err}
use Rattle.mpl_value.specs.declared.known.TrapKind.{TrapKind}
use Rattle.mpl_value.specs.declared.known.TrapKind.TheVariants.{Overflow, DivZero}

-- a number has a word of 64 bits, in two's complement
abbrev pub has_word : ℤ → Bool
has_word z = int_le (negsuc (2 ^ 63 - 1)) z && int_lt z (pos (2 ^ 63))

-- the exact result, where it has a word
abbrev pub exact : ℤ → Result ℤ TrapKind
exact z = if has_word z then Ok z else Err Overflow

abbrev pub sum : ℤ → ℤ → Result ℤ TrapKind
sum a b = exact (a +ℤ b)

abbrev pub difference : ℤ → ℤ → Result ℤ TrapKind
difference a b = exact (a -ℤ b)

abbrev pub product : ℤ → ℤ → Result ℤ TrapKind
product a b = exact (a *ℤ b)

-- truncated toward 0
abbrev pub quotient : ℤ → ℤ → Result ℤ TrapKind
quotient a b = if int_eq b (pos 0) then Err DivZero else exact (int_div a b)

-- with the sign of the dividend. The remainder by -1 of the least number is refused as its quotient is
abbrev pub remainder : ℤ → ℤ → Result ℤ TrapKind
remainder a b =
    if int_eq b (pos 0) then Err DivZero else (if has_word (int_div a b) then Ok (int_rem a b) else Err Overflow)

abbrev pub negation : ℤ → Result ℤ TrapKind
negation a = exact (neg_ℤ a)
