use Rattle.std.proofs.Common.{◌≡◌, ◌++◌, drop, length, map}
use Rattle.mpl_depend.specs.Internal.Saves.{AreWithin, saved_of}
use Rattle.mpl_depend.proofs.saved.saved_again.Given as goal

abbrev pub invariant-loop-one : goal.invariant-loop-one
invariant-loop-one l = record {
  within : AreWithin (length l.current) (drop l.one-index l.saved);
  all : l.again.items ++ map (saved_of l.current) (drop l.one-index l.saved) ≡ map (saved_of l.current) l.saved;
}
