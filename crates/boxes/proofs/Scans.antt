-- The box between the ends of a piece's columns and rows is its scan; and scans that hold no pixel of the image.
use Prim.Native.Nat.{ℕ, ◌+◌, ◌-◌, ◌≤◌, ◌<◌}
use mathlib.Core.Path.{◌≡◌, refl, sym, ◌∙◌}
use mathlib.Core.Bool.{Bool, true, false, ◌&&◌, and-false, false≢true}
use mathlib.Core.Logic.{◌⊎◌, inl, inr}
use native.Mathlib.Omega.{arith}
use borrow.Author.Tests.{lt-ltb, le-ltb, le-leb, lt-leb}
use lib.Ieee.{Float}
use lib.Ieee.Scale.{finite}
use Rattle.lists.specs.Lists.{span, count}
use Rattle.lists.specs.Laws.Sums.{count_same, count_alike, count-from}
use Rattle.lists.specs.Laws.Tests.{after_yes, after_no, below_or}
use Rattle.geometry.specs.Vector.{Vec3, Triangle}
use Rattle.pixels.specs.Pixel.{centre}
use Rattle.rules.specs.Scan.{all_finite, finite_in_pixels, in_closed_box, scans, spans, between, least, greatest}
use Rattle.boxes.specs.declared.lines.Span.{Span}
use Rattle.boxes.specs.declared.reach.End.TheVariants.{Lower, Upper}
use Rattle.boxes.specs.declared.Box.{Box}
use Rattle.boxes.specs.Reach.{FirstReached, holds_centre, Misses, Tells}
use Rattle.boxes.specs.Box.{in_range, in_box, Unspanned, Spanned, Unscanned, Meets, Scanned}
use Rattle.boxes.proofs.Reaching.{range_is, range_none}

-- ---- three coordinates along an axis

module _ (a b c : Float) (n : ℕ) where
  -- what is told of them, by a flag that is known
  missed : Misses a b c n → Tells a b c n false
  missed m = record { misses = λ e. m; all_are_finite = λ e. absurd (false≢true e) }

  pub first_lost : finite a ≡ false → Tells a b c n false
  unfolding Misses holds_centre
  first_lost e = missed (λ i h. rw e)

  pub second_lost : finite b ≡ false → Tells a b c n false
  unfolding Misses holds_centre
  second_lost e = missed (λ i h. rw (e, and-false))

  pub third_lost : finite c ≡ false → Tells a b c n false
  unfolding Misses holds_centre
  third_lost e = missed (λ i h. rw (e, and-false, and-false))

  pub all_there : {p q s low high : Float} {r : Bool} → p ≡ a → q ≡ b → s ≡ c → finite p ≡ true → finite q ≡ true → finite s ≡ true → low ≡ least p q s → high ≡ greatest p q s
      → (r ≡ false → (i : ℕ) → i < n → between low high (centre i) ≡ false) → Tells a b c n r
  unfolding Misses holds_centre spans
  all_there ea eb ec fa fb fc e g h =
      record {
        misses = λ k i l. rw (← ea, ← eb, ← ec, ← e, ← g, h k i l, and-false);
        all_are_finite = λ k. rw (← ea, ← eb, ← ec, fa, fb, fc);
      }

-- ---- the centres between two ends

module _ (a b c : Float) {low high : Float} (n : ℕ) {i0 i1 : ℕ} (low_is : low ≡ least a b c) (high_is : high ≡ greatest a b c)
    (first : FirstReached (Lower low) n i0) (past : FirstReached (Upper high) n i1) where
  between_ends : (i : ℕ) → i < n → in_range i0 i1 i ≡ spans a b c (centre i)
  unfolding spans
  between_ends i h = rw (← low_is, ← high_is) (sym (range_is low high n i0 i1 first past i h))

  pub none_between : i1 ≤ i0 → Unspanned a b c n
  none_between m i h = sym (between_ends i h) ∙ range_none i0 i1 i m

  pub some_between : i0 ≤ i1 → Spanned a b c n (record { start = i0; end = i1 })
  some_between m = record { within = record { order = m; most = past.within }; centres = between_ends }

-- ---- how many

-- so many columns, or rows, are in a range
range_count : (a b n : ℕ) → b ≤ n → count (in_range a b) (span 0 n) ≡ b - a
unfolding in_range
range_count a b n h = go (below_or a b)
  where
    go : (a < b) ⊎ (b ≤ a) → count (in_range a b) (span 0 n) ≡ b - a
    go (inl k) =
        count-from (in_range a b) a b n (omega arith) h
        (λ i j. rw (lt-leb a i j))
        (λ i j m. rw (le-leb a i j, lt-ltb i b m))
        (λ i j m. rw (le-leb a i (omega arith), le-ltb i b j))
    go (inr k) = let none : 0 ≡ b - a = omega arith in count_alike (in_range a b) false 0 n (λ i j. range_none a b (0 + i) k) ∙ none

-- of three finite coordinates, those that they span
pub some_counted : (a b c : Float) (n : ℕ) (r : Span) → all_finite a b c ≡ true → Spanned a b c n r → r.end - r.start ≡ count (holds_centre a b c) (span 0 n)
unfolding holds_centre
some_counted a b c n r f e =
    sym
    (count_same (holds_centre a b c) (in_range r.start r.end) 0 0 n (λ i h. after_yes f (sym (e.centres (0 + i) (omega arith))))
    ∙ range_count r.start r.end n e.within.most)

pub unspanned : (a b c : Float) (n : ℕ) → Unspanned a b c n → Misses a b c n
unfolding Misses holds_centre
unspanned a b c n e = λ i h. rw (e i h, and-false)

-- none
pub none_counted : (a b c : Float) (n : ℕ) → Misses a b c n → 0 ≡ count (holds_centre a b c) (span 0 n)
unfolding Misses
none_counted a b c n m = sym (count_alike (holds_centre a b c) false 0 n (λ i h. m (0 + i) (omega arith)))

-- ---- the scan of a piece

-- a box of no column and no row
abbrev pub no_box : Box
no_box = record { columns = record { start = 0; end = 0 }; rows = record { start = 0; end = 0 } }

module _ (s : Triangle (Vec3 Float)) (w h : ℕ) where
  -- the columns and the rows that it spans
  pub spans_scanned : (b : Box) → finite_in_pixels s ≡ true → Spanned s.p0.x s.p1.x s.p2.x w b.columns → Spanned s.p0.y s.p1.y s.p2.y h b.rows → Scanned s w h b
  unfolding in_box scans in_closed_box
  spans_scanned b f x y =
      record {
        columns = x.within;
        rows = y.within;
        visits = λ ix iy k l. rw (f, x.centres ix k, y.centres iy l);
      }

  pub none_scanned : Unscanned s w h → Scanned s w h no_box
  unfolding in_box
  none_scanned e =
      record {
        columns = record { order = omega arith; most = omega arith };
        rows = record { order = omega arith; most = omega arith };
        visits = λ ix iy k l. rw (range_none 0 0 ix (omega arith)) (sym (e ix iy k l));
      }

  -- it spans no column, or no row
  pub no_columns : Unspanned s.p0.x s.p1.x s.p2.x w → Unscanned s w h
  unfolding scans in_closed_box
  no_columns e ix iy k l = rw (e ix k, and-false)

  pub no_rows : Unspanned s.p0.y s.p1.y s.p2.y h → Unscanned s w h
  unfolding scans in_closed_box
  no_rows e ix iy k l = rw (e iy l, and-false, and-false)

  -- ---- the columns tested, and then the rows

  abbrev XTells : Bool → Type 0
  XTells r = Tells s.p0.x s.p1.x s.p2.x w r

  abbrev YTells : Bool → Type 0
  YTells r = Tells s.p0.y s.p1.y s.p2.y h r

  -- the scan, axis by axis
  pub by_axes : (ix iy : ℕ) → scans s ix iy ≡ holds_centre s.p0.x s.p1.x s.p2.x ix && holds_centre s.p0.y s.p1.y s.p2.y iy
  unfolding holds_centre scans finite_in_pixels in_closed_box
  by_axes ix iy = exchange (all_finite s.p0.x s.p1.x s.p2.x) _ (spans s.p0.x s.p1.x s.p2.x (centre ix)) _
    where
      exchange : (f g a b : Bool) → (f && g) && (a && b) ≡ (f && a) && (g && b)
      exchange true g true b = refl
      exchange true g false b = and-false g
      exchange false g a b = refl

  pub columns_miss : {r : Bool} → XTells r → r ≡ false → Meets s w h false
  unfolding Misses
  columns_miss x e =
      record {
        misses = λ k ix iy i j. by_axes ix iy ∙ after_no _ (x.misses e ix i);
        all_are_finite = λ k. absurd (false≢true k);
      }

  pub rows_told : {r q : Bool} → XTells r → r ≡ true → YTells q → Meets s w h q
  unfolding Misses finite_in_pixels
  rows_told x e y =
      record {
        misses = λ k ix iy i j. by_axes ix iy ∙ rw (y.misses k iy j, and-false);
        all_are_finite = λ k. after_yes (x.all_are_finite e) (y.all_are_finite k);
      }
