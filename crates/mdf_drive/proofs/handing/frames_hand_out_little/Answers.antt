use Rattle.mdf_drive.proofs.HandedOut.{hands_out_little, keeps_its_state}
use Rattle.mdf_drive.proofs.handing.frames_hand_out_little.Goals as goal

pub returns-clause-out : goal.returns-clause-out
returns-clause-out c = hands_out_little

pub returns-clause-state : goal.returns-clause-state
returns-clause-state c = keeps_its_state
