-- `floats::pack_f32` meets its contract. Assumes nothing.
use Rattle.std.proofs.Common.{◌+◌, Bool, not, T, sym, subst, inl, inr}
use lib.Ieee.{binary32}
use Rattle.roots.specs.Laws.Pattern.{Packed, packed}
use Rattle.floats.proofs.pack_f32.Goals.{then-k-lt254, else-k-lt254, then-minus, else-minus}
use Rattle.floats.proofs.pack_f32.Goals as goal

pub float_from_bits-result : goal.float_from_bits-result
float_from_bits-result c =
    let bits : Packed binary32 c.args.minus c.args.q c.args.k (c.if-minus.sign + c.if-k-lt254.code) =
    packed binary32 _ _ c.requires _ _ _
    (elim c.if-minus.branch [ then-minus w ↦ inl (w.if-minus.true, w.sign-is) | else-minus w ↦ inr (w.if-minus.false, w.sign-is) ])
    (elim c.if-k-lt254.branch [ then-k-lt254 w ↦ inl (w.if-k-lt254.true, w.code-is) | else-k-lt254 w ↦ inr (w.if-k-lt254.false, w.code-is) ]) in
    subst (λ (b : Bool). T (not b)) (sym bits.number) tt

pub returns : goal.returns
returns c =
    (packed binary32 c.args.q c.args.k c.requires c.args.minus _ _
    (elim c.if-minus.branch [ then-minus w ↦ inl (w.if-minus.true, w.sign-is) | else-minus w ↦ inr (w.if-minus.false, w.sign-is) ])
    (elim c.if-k-lt254.branch [ then-k-lt254 w ↦ inl (w.if-k-lt254.true, w.code-is) | else-k-lt254 w ↦ inr (w.if-k-lt254.false, w.code-is) ])).is
