use Rattle.std.proofs.Common.{◌≡◌, ◌+◌, List, length, Some}
use Rattle.std.specs.Prelude.{ℤ, slice_get}
use Rattle.mpl_value.specs.Words.{words_at}
use Rattle.mdf_code.specs.Stacks.{pushed}
use Rattle.mdf_vm.proofs.short_stack.ShortStack.take_words.Given as goal

abbrev pub invariant-loop-place : goal.invariant-loop-place
invariant-loop-place g l =
    ((words : List ℤ) → slice_get (g.F.Formals.words l.formals) l.formal ≡ Some words → l.self ≡ pushed (words_at l.offset l.place words) l.fn.self)
    × (length l.self ≡ l.place + length l.fn.self)
