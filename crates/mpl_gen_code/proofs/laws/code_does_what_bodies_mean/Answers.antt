use Rattle.mpl_gen_code.proofs.Programs.{program_yields}
use Rattle.mpl_gen_code.proofs.laws.code_does_what_bodies_mean.Goals as goal

pub returns : goal.returns
returns c p marks start replies turns y fits fit meant promised = program_yields p marks fits start replies turns y promised fit meant
