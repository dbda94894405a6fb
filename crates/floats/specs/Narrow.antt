-- From binary64 to binary32, to nearest even, and the length of a pair as 01 has it. Definitions only.
use Rattle.std.specs.Prelude.{◌*◌, Float}
use Rattle.std.specs.Float.{nan, inf, fin, binary32, binary64}
use Rattle.std.specs.Float.Ieee.{up, down, round, add, mul}
use Rattle.roots.specs.Root.{root}

-- IEEE 754-2019 convertFormat: a NaN gives a NaN, an infinity itself, and a number the nearest value, which may be a subnormal, a zero or an infinity
unfoldable pub narrow : Float → Float
unfolding round
narrow nan = nan
narrow (inf s) = inf s
narrow (fin s m e) = round binary32 s (m * up e) (down e)

-- hypot(a, b): both widened, which changes no value; a·a + b·b in f64; root; narrowed. Five roundings, so it need not be the f32 nearest to the real length.
unfoldable pub hypot_of : Float → Float → Float
unfolding narrow root add mul
hypot_of a b = narrow (root binary64 (add binary64 (mul binary64 a a) (mul binary64 b b)))
