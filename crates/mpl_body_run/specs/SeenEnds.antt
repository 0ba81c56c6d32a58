-- What goes on in the code where a body or a plain function is over.
use Rattle.std.specs.Prelude.{◌≡◌, ℕ, List}
use Rattle.mpl_body_code.specs.Machine as code
use Rattle.mpl_body_code.specs.Machine.{Next, Goes, Stops, ended, finished, returned}
use Rattle.mpl_body_run.specs.Seen.{body_seen, callers_seen, frame_seen}
use Rattle.mpl_body_run.specs.SeenItems.{words_seen}
use Rattle.mpl_body_run.specs.declared.leaves.Leaves.{Leaves}
use Rattle.mpl_body_run.specs.declared.leaves.Leaves.TheVariants as leaves
use Rattle.mpl_body_run.specs.declared.machine.Caller.{Caller}
use Rattle.mpl_body_run.specs.declared.unwind.Next as raw_next
use Rattle.mpl_body_run.specs.declared.unwind.Next.TheVariants as raw

abbrev pub next_seen : raw_next.Next → List Caller → ℕ → Next
next_seen (raw.Goes frame body) callers turns = Goes (record { frame = frame_seen frame; body = body_seen body; callers = callers_seen callers; turns = turns })
next_seen (raw.Stops yield) callers turns = Stops yield

-- what goes on where a frame doesn't, with memory
abbrev pub left : Leaves → List code.Caller → code.Body → ℕ → Next → Type 0
left (leaves.Ends e) callers body turns next = ended callers e body turns ≡ next
left leaves.Finishes callers body turns next = finished callers body turns ≡ next
left (leaves.Returns words) callers body turns next = returned (words_seen words) callers body turns ≡ next
left leaves.NoMemory callers body turns next = ⊥
