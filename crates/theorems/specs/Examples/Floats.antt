-- The float tools' definitions at single values beside 01's, bits to bits. The numbers were compared with a processor's own roots and casts. Every line computes.
use Rattle.std.specs.Prelude.{ℕ, ◌≡◌, refl, true, [], ◌∷◌, map, pos}
use Rattle.std.specs.Float.{Format, binary32, binary64, nan, inf, fin}
use Rattle.std.specs.Float.Ieee.{of_bits, to_bits}
use Rattle.roots.specs.Root.{root}
use Rattle.floats.specs.Narrow.{narrow, hypot_of}

unfoldable pub root_bits : Format → ℕ → ℕ
unfolding root of_bits to_bits
root_bits f b = to_bits f (root f (of_bits f b))

unfoldable pub narrow_bits : ℕ → ℕ
unfolding narrow of_bits to_bits
narrow_bits b = to_bits binary32 (narrow (of_bits binary64 b))

unfoldable pub hypot_bits : ℕ → ℕ → ℕ
unfolding hypot_of of_bits to_bits
hypot_bits a b = to_bits binary32 (hypot_of (of_bits binary32 a) (of_bits binary32 b))

-- 0, −0, infinity, 4, a quarter; the largest value, the largest subnormal, the smallest normal; the values beside 1
pub roots_of_f32 : map (root_bits binary32)
    (0 ∷ 0x8000_0000 ∷ 0x7f80_0000 ∷ 0x4080_0000 ∷ 0x3e80_0000 ∷ 0x7f7f_ffff ∷ 0x007f_ffff ∷ 0x0080_0000 ∷ 0x3f7f_ffff ∷ 0x3f80_0001 ∷ [])
    ≡ 0 ∷ 0x8000_0000 ∷ 0x7f80_0000 ∷ 0x4000_0000 ∷ 0x3f00_0000 ∷ 0x5f7f_ffff ∷ 0x1fff_ffff ∷ 0x2000_0000 ∷ 0x3f7f_ffff ∷ 0x3f80_0000 ∷ []
unfolding root_bits
roots_of_f32 = refl

-- 2, the smallest value and three of it, the largest, and the value above 1
pub roots_of_f64 : map (root_bits binary64) (0x4000_0000_0000_0000 ∷ 1 ∷ 3 ∷ 0x7fef_ffff_ffff_ffff ∷ 0x3ff0_0000_0000_0001 ∷ [])
    ≡ 0x3ff6_a09e_667f_3bcd ∷ 0x1e60_0000_0000_0000 ∷ 0x1e6b_b67a_e858_4caa ∷ 0x5fef_ffff_ffff_ffff ∷ 0x3ff0_0000_0000_0000 ∷ []
unfolding root_bits
roots_of_f64 = refl

-- −1, −infinity and NaN
pub no_roots : (f : Format) → map (root f) (fin true 1 (pos 0) ∷ inf true ∷ nan ∷ []) ≡ nan ∷ nan ∷ nan ∷ []
unfolding root
no_roots f = refl

-- halfway between two values, to the even one, and beside the half, to the nearer
pub halves_narrowed : map narrow_bits (0x3ff0_0000_1000_0000 ∷ 0x3ff0_0000_3000_0000 ∷ 0x3ff0_0000_1000_0001 ∷ 0x3ff0_0000_0fff_ffff ∷ [])
    ≡ 0x3f80_0000 ∷ 0x3f80_0002 ∷ 0x3f80_0001 ∷ 0x3f80_0000 ∷ []
unfolding narrow_bits
halves_narrowed = refl

-- the smallest f32, its half, more than that, one and a half of it, minus its half; a carry into the normal numbers; the smallest f64
pub subnormals_narrowed : map narrow_bits
    (0x36a0_0000_0000_0000 ∷ 0x3690_0000_0000_0000 ∷ 0x3690_0000_0000_0001 ∷ 0x36a8_0000_0000_0000 ∷ 0xb690_0000_0000_0000 ∷ 0x380f_ffff_e000_0000 ∷ 1 ∷ [])
    ≡ 1 ∷ 0 ∷ 1 ∷ 2 ∷ 0x8000_0000 ∷ 0x0080_0000 ∷ 0 ∷ []
unfolding narrow_bits
subnormals_narrowed = refl

-- the largest, and from where it is an infinity
pub largest_narrowed : map narrow_bits (0x47ef_ffff_efff_ffff ∷ 0x47ef_ffff_f000_0000 ∷ 0xc7ef_ffff_f000_0000 ∷ []) ≡ 0x7f7f_ffff ∷ 0x7f80_0000 ∷ 0xff80_0000 ∷ []
unfolding narrow_bits
largest_narrowed = refl

-- 3 and 4; squares that an f32 cannot hold, above and below; a length that it cannot hold; a sum that rounds elsewhere in f32
pub lengths : hypot_bits 0x4040_0000 0x4080_0000 ∷ hypot_bits 0x7200_0000 0x7200_0000 ∷ hypot_bits 1 1 ∷ hypot_bits 0x7f7f_ffff 0x7f7f_ffff ∷ hypot_bits 0x3f99_4887 0x3f90_6803 ∷ []
    ≡ 0x40a0_0000 ∷ 0x7235_04f3 ∷ 1 ∷ 0x7f80_0000 ∷ 0x3fd2_9787 ∷ []
unfolding hypot_bits
lengths = refl

-- the sum's NaN goes through, beside an infinity too
pub nan_beside_infinity : hypot_of (inf true) nan ≡ nan
unfolding hypot_of
nan_beside_infinity = refl
