-- The visits of a scan: each pixel that it holds, once, and as many as the load counts.
use Prim.Native.Nat.{ℕ, zero, suc, ◌+◌, ◌*◌, ◌/◌, ◌%◌}
use Rattle.std.specs.Prelude.{◌≡◌, refl, Bool, true, false, ◌&&◌, ltb, eqb, length, Float}
use Rattle.std.proofs.Math.Path.{sym, ap, ap₂, fun_ext}
use Rattle.std.proofs.Common.{◌∙◌, zero-add, zero-mul, mul_comm, arith}
use Rattle.std.proofs.Math.Bool.{cond}
use Rattle.lists.specs.Lists.{tabulate, span, sum_of, count}
use Rattle.lists.specs.Laws.Sums.{sum_most, count_none, count-more, count_add, count_same}
use Rattle.lists.specs.Laws.Filters.{sum-plus, count-flat_map, count_number, length-filter, count-filter}
use Rattle.geometry.specs.Vector.{Vec3, Triangle}
use Rattle.rules.specs.Piece.{Piece}
use Rattle.rules.specs.Scan.{screened, scans}
use Rattle.rules.specs.Load.{piece_pixels}
use Rattle.rules.specs.Visits.{down, columnwise, visits}

-- ---- the pixels of the image, column by column

module _ (test : ℕ → Bool) (w : ℕ) where
  -- in h rows from iy on, as many pixels pass column by column as row by row
  by-columns : (iy h : ℕ) → sum_of (λ ix. count test (down w ix iy h)) (span 0 w) ≡ count test (span (iy * w) (h * w))
  unfolding count down tabulate
  by-columns iy zero = rw (zero-mul w, count_none test) (omega (arith, sum_most (λ ix. 0) 0 (λ ix. omega arith) (span 0 w)))
  by-columns iy (suc h) =
      ap (λ (f : ℕ → ℕ). sum_of f (span 0 w)) (fun_ext (λ ix. count-more test (iy * w + ix) (down w ix (suc iy) h)))
      ∙ sum-plus (λ ix. cond (test (iy * w + ix)) 1 0) (λ ix. count test (down w ix (suc iy) h)) (span 0 w)
      ∙ ap₂ ◌+◌ row (by-columns (suc iy) h)
      ∙ sym (ap (λ (n : ℕ). count test (span (iy * w) n)) all ∙ count_add test (iy * w) w (h * w) ∙ ap (λ (a : ℕ). count test (span (iy * w) w) + count test (span a (h * w))) next)
    where
      row : count (λ ix. test (iy * w + ix)) (span 0 w) ≡ count test (span (iy * w) w)
      row = count_same (λ ix. test (iy * w + ix)) test 0 (iy * w) w (λ i l. ap (λ (k : ℕ). test (iy * w + k)) (zero-add i))

      all : suc h * w ≡ w + h * w
      all = omega arith

      next : iy * w + w ≡ suc iy * w
      next = omega arith

  -- so in the whole image
  columnwise-count : (h : ℕ) → count test (columnwise w h) ≡ count test (span 0 (w * h))
  unfolding columnwise
  columnwise-count h =
      count-flat_map test (λ ix. down w ix 0 h) (span 0 w)
      ∙ by-columns 0 h
      ∙ ap₂ (λ (a n : ℕ). count test (span a n)) (zero-mul w) (mul_comm h w)

-- the columns of the image hold each of its pixels once
pub columnwise_once : (w h p : ℕ) → count (eqb p) (columnwise w h) ≡ cond (ltb p (w * h)) 1 0
columnwise_once w h p = columnwise-count (eqb p) w h ∙ count_number p (w * h)

-- ---- the visits

pub cond_both : (a b : Bool) → ◌≡◌ {A = ℕ} (cond b (cond a 1 0) 0) (cond (a && b) 1 0)
cond_both true b = refl
cond_both false true = refl
cond_both false false = refl

-- the pixels of the image that the scan holds, each once
pub visits_once : (w h : ℕ) (s : Triangle (Vec3 Float)) (p : ℕ) → count (eqb p) (visits w h s) ≡ cond (ltb p (w * h) && scans s (p % w) (p / w)) 1 0
unfolding visits
visits_once w h s p =
    count-filter (λ q. scans s (q % w) (q / w)) p (columnwise w h)
    ∙ ap (λ (n : ℕ). cond (scans s (p % w) (p / w)) n 0) (columnwise_once w h p)
    ∙ cond_both (ltb p (w * h)) (scans s (p % w) (p / w))

-- as many as the load counts pixels of the piece
pub visits_many : (w h : ℕ) (t : Piece) → length (visits w h (screened w h t.corners)) ≡ piece_pixels w h t
unfolding visits piece_pixels
visits_many w h t = length-filter (λ p. scans (screened w h t.corners) (p % w) (p / w)) (columnwise w h) ∙ columnwise-count (λ p. scans (screened w h t.corners) (p % w) (p / w)) w h
