-- Which call an object accepts next.
use Rattle.std.specs.Prelude.{ℕ, ◌+◌, ◌==◌, true, List, [], ◌∷◌, slice_get, Option, Some, None, if◌then◌else◌, nat_lt, ℤ}
use Rattle.std.specs.Ordering.{int_eq}
use Rattle.std.specs.Option.{option_map}
use Rattle.mpl_value.specs.declared.body.CallMade.{CallMade}
use Rattle.mdf_code.specs.declared.raw.RawClass.{RawClass}
use Rattle.mdf_code.specs.declared.raw.RawEntry.{RawEntry}
use Rattle.mdf_code.specs.declared.raw.RawImage.{RawImage}
use Rattle.mdf_code.specs.declared.raw.RawMember.{RawMember}
use Rattle.mdf_code.specs.Guards.{holds}
use Rattle.mdf_code.specs.Parts.{split_words}
use Rattle.mdf_code.specs.Sizes.{sizes_of_start}
use Rattle.mdf_mean.specs.Meanings.{Choice}
use Rattle.mdf_mean.specs.Picks.{greatest, open_at}
use Rattle.mdf_core.specs.Actors.{Actor, arguments_of, member_of}
use Rattle.mdf_core.specs.Worlds.{Job, Object, World, is_in}

-- ---- the entries of a class

-- an entry of the image, by its number
abbrev pub choice_of : RawImage → ℕ → RawEntry → Choice
choice_of image n entry = record {
  priority = entry.priority;
  member = entry.member;
  holds = λ state words. holds image n (split_words (sizes_of_start image (Some entry.member)) words) state;
}

abbrev pub entries_from : RawImage → ℕ → ℕ → List RawEntry → List Choice
entries_from image class n [] = []
entries_from image class n (entry ∷ entries) =
    if entry.class == class then choice_of image n entry ∷ entries_from image class (n + 1) entries else entries_from image class (n + 1) entries

abbrev pub always : ℕ → Choice
always member = record { priority = 0; member = record { 0 = member }; holds = λ state words. true }

abbrev pub members_from : ℕ → ℕ → List RawMember → List Choice
members_from class n [] = []
members_from class n (member ∷ members) =
    if member.class == class then always n ∷ members_from class (n + 1) members else members_from class (n + 1) members

-- a class without `select` accepts each of its members, at priority 0
abbrev pub choices_of : RawImage → ℕ → Option RawClass → List Choice
choices_of image class None = []
choices_of image class (Some c) = if c.selects then entries_from image class 0 image.entries else members_from class 0 image.members

abbrev pub choices : RawImage → ℕ → List Choice
choices image class = choices_of image class (slice_get image.classes class)

-- ---- the pick

-- the call of an actor, as journals have it
abbrev pub made_by : Actor → CallMade
made_by x = record {
  call = x.call.post;
  object = x.call.object;
  member = member_of x.call;
  args = arguments_of x.ports;
}

-- a call that is open, at the greatest priority that it is open at
pub record Candidate : Type 0 where
  pub priority : ℕ
  pub actor : ℕ

-- the greatest priority at which an object accepts a call on it that wasn't accepted yet
abbrev pub priority_at : Job → World → ℤ → Object → ℕ → Option ℕ
priority_at job w o object c =
    if is_in c w.accepted then None
    else if int_eq (w.actors c).call.object o then greatest (open_at (choices job.image object.class) object.state (made_by (w.actors c)))
    else None

abbrev pub candidate : Job → World → ℤ → Object → ℕ → Option Candidate
candidate job w o object c = option_map (λ priority. record { priority = priority; actor = c }) (priority_at job w o object c)

-- the one of the greater priority, and of two that are equal the one that arrived first
abbrev pub better : (later earlier : Option Candidate) → Option Candidate
better None earlier = earlier
better (Some later) None = Some later
better (Some later) (Some earlier) = if nat_lt earlier.priority later.priority then Some later else Some earlier

abbrev pub best_of : Job → World → ℤ → Object → List ℕ → Option Candidate
best_of job w o object [] = None
best_of job w o object (c ∷ before) = better (candidate job w o object c) (best_of job w o object before)

-- The pick of an object: of the open calls that have arrived one of the greatest priority, and of these the first.
abbrev pub pick : Job → World → ℤ → Object → Option ℕ
pick job w o object = option_map (λ (c : Candidate). c.actor) (best_of job w o object w.arrived)

abbrev pub unless_busy : Option ℕ → Option ℕ → Option ℕ
unless_busy None picked = picked
unless_busy (Some actor) picked = None

-- an object that no body runs on picks
abbrev pub idle_pick : Job → World → ℤ → Option Object → Option ℕ
idle_pick job w o None = None
idle_pick job w o (Some object) = unless_busy object.busy (pick job w o object)

abbrev pub pick_of : Job → World → ℤ → Option ℕ
pick_of job w o = idle_pick job w o (w.objects o)
