-- The parts of a machine in which nothing happened.
use Rattle.std.specs.Prelude.{true, [], ◌∷◌, None}
use Rattle.std.specs.FinMap.{empty, insert}
use Rattle.mpl_value.specs.declared.body.BodyEnd.TheVariants.{Waits}
use Rattle.mdf_actor.specs.declared.status.ActorStatus.TheVariants.{Ready}
use Rattle.mdf_core.specs.declared.status.MachineStatus.TheVariants.{Going}
use Rattle.mdf_future.specs.Results.{opened}
use Rattle.mdf_machine.specs.declared.parts.Parts.{Parts}

abbrev pub first_parts : Parts
first_parts = record {
  statuses = Ready ∷ [];
  rows = record { caller = 0; member = None; ports = 0; children = []; frame = None } ∷ [];
  ports = insert empty 0 [];
  results = opened (record { results = empty; due = [] }) 0;
  going = true ∷ [];
  turns = 0;
  fired = 0;
  why = Going;
  lines = [];
  main_end = Waits;
}
