-- What a setting in the code stands for.
use Rattle.mpl_body_code.specs.Machine.{Setting}
use Rattle.mpl_body_code.specs.SeenImage.{image_seen}
use Rattle.mpl_body_run.specs.declared.setting.Setting as raw

abbrev pub setting_seen : raw.Setting → Setting
setting_seen s = record { image = image_seen s.image.now; turns = s.budget; replies = s.replies.now }
