use Rattle.mdf_code.proofs.ToldFrames.{main_gives_nothing, nothing_is_given_twice, regular_bodies_call_regular_members, regular_bodies_create_nothing}
use Rattle.mdf_code.proofs.laws.frames_do_what_their_bodies_may.Goals as goal

pub returns-clause-main : goal.returns-clause-main
returns-clause-main c = main_gives_nothing

pub returns-clause-once : goal.returns-clause-once
returns-clause-once c = nothing_is_given_twice

pub returns-clause-creates : goal.returns-clause-creates
returns-clause-creates c = regular_bodies_create_nothing

pub returns-clause-calls : goal.returns-clause-calls
returns-clause-calls c = regular_bodies_call_regular_members
