-- What an image in the code stands for.
use Rattle.mpl_body_code.specs.Machine.{Image}
use Rattle.mpl_body_code.specs.declared.image.Image as raw

abbrev pub image_seen : raw.Image → Image
image_seen i = record { code = i.code; functions = i.functions.items; members = i.members.items }
