use Rattle.pixel_values.proofs.Values.{kept_empty, kept_nowhere}
use Rattle.pixel_values.proofs.fill_pixel.Goals as goal

pub returns-in_default : goal.returns-in_default
returns-in_default c = kept_empty _ _ _ _ _ c.requires.whole (cc)

pub returns-in_default-ray_at : goal.returns-in_default-ray_at
returns-in_default-ray_at c = kept_nowhere _ _ _ _ _ c.requires.whole c.in_default-ray_at.ensures
