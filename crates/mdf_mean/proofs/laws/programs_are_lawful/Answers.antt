use Rattle.mdf_mean.proofs.laws.programs_are_lawful.Goals as goal

pub returns : goal.returns
returns g c = g.B.Bodies.laws
