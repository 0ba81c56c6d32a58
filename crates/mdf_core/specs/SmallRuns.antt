-- Small programs, as code written by hand below the source that they do the work of, and what their runs are.
use Prim.Native.String.{String}
use Rattle.std.specs.Prelude.{ℕ, ◌≡◌, List, [], ◌∷◌, reverse, codes, Some, None, pos}
use Rattle.mpl_value.specs.declared.body.BodyEnd.{BodyEnd}
use Rattle.mpl_value.specs.declared.known.Known.TheVariants as known
use Rattle.mdf_code.specs.declared.instr.Instr.{Instr}
use Rattle.mdf_code.specs.declared.instr.Instr.TheVariants as instr
use Rattle.mdf_code.specs.declared.raw.RawImage.{RawImage}
use Rattle.mdf_code.specs.Alone.{Held, Words}
use Rattle.mdf_code.specs.SmallBodies.{forwards, text}
use Rattle.mdf_code.specs.SmallCode.{code, member, persistent_class, regular_class}
use Rattle.mdf_mean.specs.declared.entry.Entry.{Entry}
use Rattle.mdf_mean.specs.declared.entry.Entry.TheVariants as entry
use Rattle.mdf_core.specs.declared.status.MachineStatus.{MachineStatus}
use Rattle.mdf_core.specs.declared.status.MachineStatus.TheVariants.{Rest}
use Rattle.mdf_core.specs.ByFirst.{ByFirst}
use Rattle.mdf_core.specs.Enabled.{Applies, IsLog}
use Rattle.mdf_core.specs.Events.{Event}
use Rattle.mdf_core.specs.Rest.{MainDid}
use Rattle.mdf_core.specs.Steps.{after}
use Rattle.mdf_core.specs.Worlds.{Job}

-- ---- runs

-- These events, the oldest first, are by the first items of the drive list, and leave the machine so.
pub record IsRun (job : Job) (events : List Event) (why : MachineStatus) (turns : ℕ) (journal : List Entry) : Type 0 where
  pub is_log : IsLog job (reverse events)
  pub by_first : ByFirst job (reverse events)
  pub ends : (after job (reverse events)).why ≡ why
  pub turns_are : (after job (reverse events)).turns ≡ turns
  pub journal_is : reverse (after job (reverse events)).journal ≡ journal

-- A run at rest, in which `main` came to this end with these lines.
pub record Rests (job : Job) (events : List Event) (turns : ℕ) (journal : List Entry) (end : BodyEnd) (lines : List String) : Type 0 where
  pub run : IsRun job events Rest turns journal
  pub main : MainDid job (after job (reverse events)) end (text lines)

-- These events are a machine's, the oldest first, and the other one doesn't apply after them.
pub record NotAfter (job : Job) (events : List Event) (event : Event) : Type 0 where
  pub is_log : IsLog job (reverse events)
  pub refused : Applies job (reverse events) event → ⊥

-- ---- words for events

abbrev pub with_budget : RawImage → ℕ → Job
with_budget image budget = record { image = image; input = []; budget = budget }

abbrev pub word : ℕ → Held
word n = Words (pos n ∷ [])

abbrev pub reply : ℕ → ℕ → ℕ → Entry
reply body call n = entry.Reply body call (known.Value (pos n ∷ []))

abbrev pub reply_nothing : ℕ → ℕ → Entry
reply_nothing body call = entry.Reply body call (known.Value [])

-- ---- programs

-- int sq(int x) { rtf(x * x); }
-- int main() { calc w; int a = w.sq(3); int b = w.sq(4); print(a + b); }
abbrev pub two_squares : RawImage
two_squares = record {
  functions = [];
  classes = regular_class ∷ [];
  members = member 0 1 (Some 1) (code (1 ∷ []) (instr.Load 0 0 1 ∷ instr.Load 0 0 1 ∷ instr.Mul 2 ∷ instr.ArgWords 1 ∷ instr.Reply 2 ∷ instr.End 2 ∷ [])) ∷ [];
  entries = [];
  main = code (1 ∷ 1 ∷ []) (
      instr.Push (pos 3) ∷ instr.ArgWords 1 ∷ instr.Send 0 1 ∷ instr.SetVariable 0
      ∷ instr.Push (pos 4) ∷ instr.ArgWords 1 ∷ instr.Send 0 1 ∷ instr.SetVariable 1
      ∷ instr.Need 0 ∷ instr.Load 0 0 1 ∷ instr.Need 1 ∷ instr.Load 1 0 1 ∷ instr.Add 8 ∷ instr.Print (codes "i") ∷ instr.End 9 ∷ []);
}

-- A buffer with `void put(int x) { v = x; full = true; }`, accepted while it is empty, and
-- `int get() { full = false; rtf(v); }`, accepted while it is full.
abbrev pub buffer_with : List Instr → RawImage
buffer_with main = record {
  functions = [];
  classes = persistent_class 2 ∷ [];
  members =
      member 0 1 None (code (1 ∷ []) (instr.Load 0 0 1 ∷ instr.Keep 0 1 ∷ instr.Push (pos 1) ∷ instr.Keep 1 1 ∷ instr.End 3 ∷ []))
      ∷ member 0 0 (Some 1) (code [] (instr.Push (pos 0) ∷ instr.Keep 1 1 ∷ instr.Fetch 0 1 ∷ instr.ArgWords 1 ∷ instr.Reply 4 ∷ instr.End 4 ∷ [])) ∷ [];
  entries =
      record { class = 0; priority = 1; member = record { 0 = 0 }; guard = Some (instr.Fetch 1 1 ∷ instr.Not ∷ []) }
      ∷ record { class = 0; priority = 1; member = record { 0 = 1 }; guard = Some (instr.Fetch 1 1 ∷ []) } ∷ [];
  main = code (1 ∷ 1 ∷ []) main;
}

-- int main() { buffer b; b.create(); int x = b.get(); b.put(7); print(x); }
abbrev pub buffer : RawImage
buffer = buffer_with (
    instr.Create 0 ∷ instr.Store 0 0 1
    ∷ instr.Load 0 0 1 ∷ instr.Bound 13 ∷ instr.Post 1 0 ∷ instr.SetVariable 1
    ∷ instr.Load 0 0 1 ∷ instr.Bound 14 ∷ instr.Push (pos 7) ∷ instr.ArgWords 1 ∷ instr.Post 0 1 ∷ instr.DropFlow
    ∷ instr.Need 1 ∷ instr.Load 1 0 1 ∷ instr.Print (codes "i") ∷ instr.End 16 ∷ [])

-- int main() { buffer b; b.create(); int x = b.get(); print(x); }
abbrev pub lonely_get : RawImage
lonely_get = buffer_with (
    instr.Create 0 ∷ instr.Store 0 0 1
    ∷ instr.Load 0 0 1 ∷ instr.Bound 13 ∷ instr.Post 1 0 ∷ instr.SetVariable 1
    ∷ instr.Need 1 ∷ instr.Load 1 0 1 ∷ instr.Print (codes "i") ∷ instr.End 16 ∷ [])

-- int main() { calc w; int a = w.halve(0); int b = w.halve(a); }, where a division by 0 traps
abbrev pub poisons : RawImage
poisons = forwards (
    instr.Push (pos 0) ∷ instr.ArgWords 1 ∷ instr.Send 0 1 ∷ instr.SetVariable 0
    ∷ instr.ArgVariable 0 ∷ instr.Send 0 1 ∷ instr.DropFlow ∷ instr.End 5 ∷ [])
