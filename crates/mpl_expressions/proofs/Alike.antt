-- What takes the same from some tokens has the same answers there.
use Rattle.std.proofs.Common.{◌≡◌, Result, Ok, Err, ◌∙◌}
use Rattle.mpl_mean.specs.Text.Reading.{Rest}
use Rattle.mpl_trees.specs.Taking.{Takes}
use Rattle.mpl_reader.specs.Reader.{Took, most_number}
use Rattle.mpl_reader.specs.declared.stop.Stop.{Stop}

pub took_alike : {A : Type 0} (take other : Takes A) (r : Rest) (answer : Result A Stop) (x : Rest) → take most_number r ≡ other most_number r → Took other r answer x → Took take r answer x
took_alike take other r (Ok tree) x e h = e ∙ h
took_alike take other r (Err why) x e h = λ stuck. e ∙ h stuck
