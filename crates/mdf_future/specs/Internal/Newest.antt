-- A result without the consumer that was added last.
use Rattle.std.specs.Prelude.{ℕ, ◌-◌, List, length, take, Option, Some, None, if◌then◌else◌}
use Rattle.std.specs.FinMap.{get, insert}
use Rattle.mdf_future.specs.declared.future.Future.{Future}
use Rattle.mdf_future.specs.Results.{ResultTable, is_known}

abbrev pub all_but_last : {A : Type 0} → List A → List A
all_but_last xs = take (length xs - 1) xs

-- it waited behind the others, or was due behind all others
abbrev pub without_newest_at : ResultTable → ℕ → Option Future → ResultTable
without_newest_at t on None = t
without_newest_at t on (Some f) =
    if is_known f.fate then record t { due = all_but_last t.due }
    else record t { results = insert t.results on (record f { consumers = all_but_last f.consumers }) }

abbrev pub without_newest : ResultTable → ℕ → ResultTable
without_newest t on = without_newest_at t on (get t.results on)
