-- A frame that has the room of a body, and nothing else.
use Rattle.std.specs.Prelude.{◌≡◌, [], false, map, Option}
use Rattle.mpl_value.specs.declared.body.MemberId.{MemberId}
use Rattle.mpl_value.specs.Words.{zeros}
use Rattle.mdf_code.specs.declared.raw.RawImage.{RawImage}
use Rattle.mdf_code.specs.Alone.{Held, Words}
use Rattle.mdf_code.specs.Frames.{Frame}
use Rattle.mdf_code.specs.Parts.{sizes_at}
use Rattle.mdf_code.specs.Yields.{code_of_member}
use Rattle.mdf_vm.specs.Runnings.{frame_of}
use Rattle.mdf_vm.specs.declared.frame.Frame as frames
use Rattle.mdf_vm.specs.declared.last.Last.TheVariants as last

abbrev pub hollow_frame : RawImage → Option MemberId → Frame Held
hollow_frame image member = record {
  code = code_of_member member;
  place = 0;
  words = [];
  flows = [];
  variables = map Words (map zeros (sizes_at image (code_of_member member)));
  callers = [];
  state = [];
  input = [];
  lines = [];
  replied = false;
}

pub record IsHollow (image : RawImage) (member : Option MemberId) (f : frames.Frame) : Type 0 where
  pub frame : frame_of f.running ≡ hollow_frame image member
  pub results : f.setting.results ≡ []
  pub turns : f.turns ≡ 0
  pub going : f.last ≡ last.Going
