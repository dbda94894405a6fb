-- What the code's values stand for.
use Rattle.pairs.specs.Gradient as Gradient
use Rattle.pairs.specs.Gradient.{pixel_values}
use Rattle.pairs.specs.declared.PixelValues.{PixelValues}

abbrev pub values_of : PixelValues → Gradient.PixelValues
values_of v = pixel_values v.pix2val.now v.dldw_pix2val.now v.num_vdim
