-- A reader of tokens as what it has left, and what its functions say of their answers.
use Rattle.std.specs.Prelude.{◌≡◌, ℕ, List, Option, Some, None, Result, Ok, Err}
use Rattle.mpl_mean.specs.Text.Reading.{Reads, Rest}
use Rattle.mpl_trees.specs.Taking.{Takes, fitting, inside, start_of}
use Rattle.mpl_trees.specs.declared.piece.Start.{Start}
use Rattle.mpl_trees.specs.Rows.{take_joint}
use Rattle.mpl_reader.specs.declared.reader.Joint.{Joint}
use Rattle.mpl_reader.specs.declared.reader.Reader.{Reader}
use Rattle.mpl_reader.specs.declared.stop.Stop.{Stop}
use Rattle.mpl_reader.specs.declared.stop.Stop.TheVariants.{Stuck}

abbrev pub rest_of : Reader → Rest
rest_of r = record { tokens = r.left.now; last = r.last; next = r.next }

-- the greatest number that a node may have
unfoldable pub most_number : ℕ
most_number = 4294967295

-- What was taken is the answer. Where it is that nothing begins here, nothing can be taken; memory may be wanting anywhere.
abbrev pub Took : {A : Type 0} → Takes A → Rest → Result A Stop → Rest → Type 0
Took take before (Ok tree) after = take most_number before ≡ Some (tree, after)
Took take before (Err e) after = e ≡ Stuck → take most_number before ≡ None

-- the same of tokens of which nothing is kept
abbrev pub Skipped : Reads → Rest → Result (Unit {0}) Stop → Rest → Type 0
Skipped read before (Ok u) after = read before ≡ Some after
Skipped read before (Err e) after = e ≡ Stuck → read before ≡ None

-- a node was begun
abbrev pub Began : Rest → Result Start Stop → Rest → Type 0
Began before (Ok start) after = (start ≡ start_of before) × (fitting most_number (inside before) ≡ Some after)
Began before (Err e) after = e ≡ Stuck → fitting most_number (inside before) ≡ None

-- an operator was taken
abbrev pub TookJoint : Rest → Option Joint → Rest → Type 0
TookJoint before (Some j) after = take_joint before ≡ Some (record { sign = j.sign; level = j.level; rest = after })
TookJoint before None after = (take_joint before ≡ None) × (after ≡ before)
