-- Sums leave every place alone that no addition names: a vertex that is a corner of no face in the map keeps its gradients, and one that is an end of no outline edge keeps that of
-- outline smoothing.
use Rattle.std.specs.Prelude.{ℕ, zero, suc, ◌+◌, ◌*◌, ◌/◌, ◌<◌, ◌≡◌, refl, ◌⊎◌, Bool, true, false, cond, eqb, ltb, Float, length, get_or}
use Rattle.std.proofs.Common.{sym, ◌∙◌, subst, inl, inr, arith, eqb-true, lit<, get_or-set_other}
use Rattle.std.proofs.Math.Path.{ap}
use Rattle.std.proofs.Math.Bool.{or-true}
use Rattle.std.proofs.Math.Option.{Option, none, some}
use mathlib.Core.List.Memᴰ
use mathlib.Core.List.{List, [], ◌∷◌, ◌++◌, flat_map, Memᴰ}
use Rattle.std.proofs.Math.Nat.{div-eq_of_lt-le}
use Rattle.std.proofs.lemmas.Bool.{eqb-false}
use Rattle.std.specs.Float.Ieee.{nan}
use Rattle.lists.specs.Lists.{tabulate, span}
use Rattle.lists.specs.Laws.Every.{every_any}
use Rattle.questions.specs.Questions.{answer, empty, names_face, names_faces}
use Rattle.questions.specs.Laws.{face_below}
use Rattle.geometry.specs.Vector.{Vec2, Vec3, Weights, Projected, Triangle}
use Rattle.meshes.specs.Mesh.{Face, face_at}
use Rattle.meshes.specs.View.{View, view_of, named, entry_at}
use Rattle.meshes.specs.Sums.{Addition, at_vertex, added, summed}
use Rattle.meshes.specs.Laws.{named_none, named_some}
use Rattle.rays.specs.Space.{Ray}
use Rattle.pixel_rays.specs.Rays.{Image, ray_of}
use Rattle.vertex_values.specs.Pass.{Vertices}
use Rattle.pixel_bwd.specs.Additions.{to_corners, to_xyz, to_val, pixel_xyz, pixel_val, Sums}
use Rattle.values_bwd.specs.Bwd as values
use Rattle.values_bwd.specs.Bwd.{interpolating_bwd}
use Rattle.image_bwd.specs.Summed.{xyz_at, val_at, summed_over}
use Rattle.values_bwd.specs.Laws as values-laws
use Rattle.pixels.specs.Pixel.{centre_of}
use Rattle.pixels.specs.Edge.{Axis, hedge, vedge, Edge}
use Rattle.inside.specs.Inside.{all_inside, contains}
use Rattle.meshes.specs.Mesh.{project_face}
use Rattle.pairs.specs.Pairs.{edge_view, first_of, second_of}
use Rattle.pairs.specs.Gradient.{PixelValues, dldr}
use Rattle.tris.specs.Tri.{point_on, unormal}
use Rattle.crossings.specs.Crossing.{skipped, coefficient0, coefficient1, g_pix}
use Rattle.scattering.specs.Scattering.{to_face, to_point, spread}
use Rattle.share_rules.specs.Shares.{Share, share, alone, crossing, crossing_of, intersection, received, between, shares_at}
use Rattle.share_rules.specs.Additions.{additions_of, pair_additions}
use Rattle.axis_bwd.specs.Additions.{edge_down, axis_additions}
use Rattle.edge_bwd.specs.Calls as edges
use Rattle.edge_bwd.specs.Calls.{pass_additions, edge_bwd}
use Rattle.edge_bwd.specs.Laws as edges_laws
use Rattle.outlines.specs.Formula.{Ends}
use Rattle.outline_views.specs.Outline.{OutlineView, OutlineEdge, outline_edge_at, edge_total, Met, edge_met, edge_items, outline_items}
use Rattle.antialias_bwd.specs.Additions.{to_ends, met_additions, crossing_additions}
use Rattle.antialias_bwd.specs.Calls.{bwd_antialias_code, outline_additions, antialiasing_bwd}
use Rattle.theorems.specs.Gradients.{Free, Unnamed, NoEnd, OffOutline}

-- ---- as an accepted pass sees the map

-- of what a pixel shows, or of nothing
abbrev FreeIn : Option Face → ℕ → Type 0
FreeIn o v = (f : Face) → o ≡ some f → Free f v

abbrev Unseen : View → ℕ → Type 0
Unseen w v = (p : ℕ) → FreeIn (w.at p) v

empty_names : (n : ℕ) → names_face n empty ≡ true
unfolding names_face
empty_names n = or-true (ltb empty n)

-- what an entry names, where it is below the face count or empty
shown_free : (tri : List ℕ) (v entry : ℕ) → (entry < length tri / 3 → Free (face_at tri entry) v) → names_face (length tri / 3) entry ≡ true → FreeIn (named tri entry) v
shown_free tri v entry free ok f e = go (eqb entry empty) refl
  where
    never : none ≡ some f → ⊥
    never h = let z : ◌≡◌ {A = ℕ} 0 1 = cc in omega arith

    same : some (face_at tri entry) ≡ some f → face_at tri entry ≡ f
    same h = cc

    go : (b : Bool) → eqb entry empty ≡ b → Free f v
    go true k = absurd (never (sym (named_none tri entry (eqb-true _ _ k)) ∙ e))
    go false k =
        let other = eqb-false _ _ k in
        subst (λ (g : Face). Free g v) (same (sym (named_some tri entry other) ∙ e)) (free (face_below (length tri / 3) entry ok other))

unseen : (tri names : List ℕ) (v : ℕ) → Unnamed tri names v → names_faces (length tri / 3) names ≡ true → Unseen (view_of tri names) v
unseen tri names v free ok p =
    shown_free tri v (entry_at names p) (free p) (every_any (names_face (length tri / 3)) empty (empty_names (length tri / 3)) names ok p)

-- ---- additions that name no place of v

untouched : (sums : List Float) (as' : List Addition) (i : ℕ) (d : Float) → ((a : Addition) → Memᴰ a as' → i ≡ a.place → ⊥) → get_or (summed sums as') i d ≡ get_or sums i d
unfolding summed added
untouched sums [] i d h = refl
untouched sums (a ∷ as') i d h =
    untouched (added sums a) as' i d (λ b m. h b (Memᴰ.tail m)) ∙ get_or-set_other sums a.place i _ d (h a (Memᴰ.head refl))

abbrev Avoids : ℕ → List Addition → Type 0
Avoids i as' = (a : Addition) → Memᴰ a as' → i ≡ a.place → ⊥

avoids_append : (i : ℕ) (xs ys : List Addition) → Avoids i xs → Avoids i ys → Avoids i (xs ++ ys)
avoids_append i xs ys hx hy a m e = go (Memᴰ.append_cases xs m)
  where
    go : Memᴰ a xs ⊎ Memᴰ a ys → ⊥
    go (inl m) = hx a m e
    go (inr m) = hy a m e

avoids_all : {X : Type 0} (i : ℕ) (f : X → List Addition) (xs : List X) → ((x : X) → Memᴰ x xs → Avoids i (f x)) → Avoids i (flat_map f xs)
unfolding flat_map
avoids_all i f [] h = λ a m e. Memᴰ.not-nil m
avoids_all i f (x ∷ xs) h = avoids_append i (f x) (flat_map f xs) (h x (Memᴰ.head refl)) (avoids_all i f xs (λ y m. h y (Memᴰ.tail m)))

-- ---- values' backward pass

span_below : (a n j : ℕ) → Memᴰ j (span a n) → j < a + n
unfolding tabulate
span_below a zero j m = absurd (Memᴰ.not-nil m)
span_below a (suc n) j (Memᴰ.head e) = omega arith
span_below a (suc n) j (Memᴰ.tail m) = let h = span_below (suc a) n j m in omega arith

-- two places in rows of n are one only in one row
same_row : (n a b k j : ℕ) → k < n → j < n → a * n + k ≡ b * n + j → a ≡ b
same_row n a b k j hk hj e = sym (div-eq_of_lt-le n (omega arith) (omega arith)) ∙ ap (λ (x : ℕ). x / n) e ∙ div-eq_of_lt-le n (omega arith) (omega arith)

module _ (f : Face) (v : ℕ) (not-corner : Free f v) where
  corners_avoid : (n k j : ℕ) (x0 x1 x2 : Float) → k < n → j < n → Avoids (v * n + k) (to_corners n f j x0 x1 x2)
  corners_avoid n k j x0 x1 x2 hk hj a (Memᴰ.head p) e = not-corner.0 (same_row n v f.v0 k j hk hj (e ∙ ap (λ (b : Addition). b.place) p))
  corners_avoid n k j x0 x1 x2 hk hj a (Memᴰ.tail (Memᴰ.head p)) e = not-corner.1 (same_row n v f.v1 k j hk hj (e ∙ ap (λ (b : Addition). b.place) p))
  corners_avoid n k j x0 x1 x2 hk hj a (Memᴰ.tail (Memᴰ.tail (Memᴰ.head p))) e = not-corner.2 (same_row n v f.v2 k j hk hj (e ∙ ap (λ (b : Addition). b.place) p))
  corners_avoid n k j x0 x1 x2 hk hj a (Memᴰ.tail (Memᴰ.tail (Memᴰ.tail m))) e = Memᴰ.not-nil m

  xyz_avoid : (k : ℕ) (g : Triangle (Vec3 Float)) → k < 3 → Avoids (v * 3 + k) (to_xyz f g)
  unfolding to_xyz
  xyz_avoid k g h =
      avoids_append _ _ _ (corners_avoid 3 k 0 _ _ _ h (lit< tt)) (avoids_append _ _ _ (corners_avoid 3 k 1 _ _ _ h (lit< tt)) (corners_avoid 3 k 2 _ _ _ h (lit< tt)))

  val_avoid : (c k : ℕ) (d : ℕ → Float) (b : Weights Float) → k < c → Avoids (v * c + k) (to_val c f d b)
  unfolding to_val
  val_avoid c k d b h = avoids_all (v * c + k) _ (span 0 c) (λ j m. corners_avoid c k j _ _ _ h (omega (arith, span_below 0 c j m)))

-- an empty pixel adds nothing, and any other only to its own face's corners
module _ (v : ℕ) (s : Vertices) (d : ℕ → Float) where
  pixel_xyz_avoids : (k : ℕ) → k < 3 → (o : Option Face) (r : Option (Ray Float)) → FreeIn o v → Avoids (v * 3 + k) (pixel_xyz s o r d)
  unfolding pixel_xyz
  pixel_xyz_avoids k h none r u = λ a m e. Memᴰ.not-nil m
  pixel_xyz_avoids k h (some f) none u = λ a m e. Memᴰ.not-nil m
  pixel_xyz_avoids k h (some f) (some r) u = xyz_avoid f v (u f refl) k _ h

  pixel_val_avoids : (k : ℕ) → k < s.channels → (o : Option Face) (r : Option (Ray Float)) → FreeIn o v → Avoids (v * s.channels + k) (pixel_val s o r d)
  unfolding pixel_val
  pixel_val_avoids k h none r u = λ a m e. Memᴰ.not-nil m
  pixel_val_avoids k h (some f) none u = λ a m e. Memᴰ.not-nil m
  pixel_val_avoids k h (some f) (some r) u = val_avoid f v (u f refl) s.channels k _ _ h

-- a part of what a call leaves that an accepted call keeps at i: a refused one keeps it too
kept_at : {A : Type 0} (part : A → List Float) (code : ℕ) (before after : A) (i : ℕ) → (code ≡ 0 → get_or (part after) i nan ≡ get_or (part before) i nan)
    → get_or (part (answer code before after).left) i nan ≡ get_or (part before) i nan
kept_at part code before after i h = go (eqb code 0) refl
  where
    go : (b : Bool) → eqb code 0 ≡ b → get_or (part (cond b after before)) i nan ≡ get_or (part before) i nan
    go true e = h (eqb-true code 0 e)
    go false e = refl

module _ (tri names : List ℕ) (v : ℕ) (free : Unnamed tri names v) (g : Image) (s : Vertices) (dldw : List Float) (old : Sums) (k : ℕ) where
  accepted_unseen : values.bwd_code g s tri names dldw old ≡ 0 → Unseen (view_of tri names) v
  accepted_unseen e = unseen tri names v free (values-laws.bwd_accepted g s tri names dldw old e).0.shown.named

  pub values_bwd_keeps_xyz : k < 3 → get_or (interpolating_bwd g s tri names dldw old).left.xyz (v * 3 + k) nan ≡ get_or old.xyz (v * 3 + k) nan
  unfolding interpolating_bwd summed_over xyz_at
  values_bwd_keeps_xyz h =
      kept_at (λ (t : Sums). t.xyz) (values.bwd_code g s tri names dldw old) old _ (v * 3 + k)
      (λ e. untouched old.xyz _ (v * 3 + k) nan
      (avoids_all (v * 3 + k) _ (span 0 (g.w * g.h)) (λ p m. pixel_xyz_avoids v s _ k h ((view_of tri names).at p) (ray_of g p) (accepted_unseen e p))))

  pub values_bwd_keeps_val : k < s.channels → get_or (interpolating_bwd g s tri names dldw old).left.val (v * s.channels + k) nan ≡ get_or old.val (v * s.channels + k) nan
  unfolding interpolating_bwd summed_over val_at
  values_bwd_keeps_val h =
      kept_at (λ (t : Sums). t.val) (values.bwd_code g s tri names dldw old) old _ (v * s.channels + k)
      (λ e. untouched old.val _ (v * s.channels + k) nan
      (avoids_all (v * s.channels + k) _ (span 0 (g.w * g.h)) (λ p m. pixel_val_avoids v s _ k h ((view_of tri names).at p) (ray_of g p) (accepted_unseen e p))))

-- additions to the three coordinates of another vertex
vertex_avoid : (v k : ℕ) → k < 3 → (u : ℕ) → (v ≡ u → ⊥) → (g : Vec3 Float) → Avoids (v * 3 + k) (at_vertex u g)
unfolding at_vertex
vertex_avoid v k h u n g a (Memᴰ.head p) e = let q = e ∙ ap (λ (x : Addition). x.place) p in n (omega arith)
vertex_avoid v k h u n g a (Memᴰ.tail (Memᴰ.head p)) e = let q = e ∙ ap (λ (x : Addition). x.place) p in n (omega arith)
vertex_avoid v k h u n g a (Memᴰ.tail (Memᴰ.tail (Memᴰ.head p))) e = let q = e ∙ ap (λ (x : Addition). x.place) p in n (omega arith)
vertex_avoid v k h u n g a (Memᴰ.tail (Memᴰ.tail (Memᴰ.tail m))) e = Memᴰ.not-nil m

-- ---- the edge gradient's backward pass

module _ (f : Face) (v : ℕ) (not-corner : Free f v) (k : ℕ) (h : k < 3) where
  face_avoid : (b : Weights Float) (g : Vec3 Float) → Avoids (v * 3 + k) (to_face f b g)
  unfolding to_face
  face_avoid b g =
      avoids_append _ _ _ (vertex_avoid v k h f.v0 not-corner.0 _) (avoids_append _ _ _ (vertex_avoid v k h f.v1 not-corner.1 _) (vertex_avoid v k h f.v2 not-corner.2 _))

  spread_avoid : (m : List Float) (x : Triangle (Vec3 Float)) (g : Vec3 Float) (b : Option (Weights Float)) → Avoids (v * 3 + k) (spread m x f g b)
  unfolding spread
  spread_avoid m x g none = λ a n e. Memᴰ.not-nil n
  spread_avoid m x g (some b) = face_avoid b (to_point m g (point_on x b))

-- Every share goes to a face that one of the pair's two pixels shows.
abbrev OfPair : Option Face → Option Face → Share → Type 0
OfPair g0 g1 s = (g0 ≡ some s.face) ⊎ (g1 ≡ some s.face)

alone-first : (axis : ℕ) (g0 g1 : Option Face) (q : Vec2 Float) (s : Share) → Memᴰ s (alone axis g0 q) → OfPair g0 g1 s
unfolding alone
alone-first axis none g1 q s m = absurd (Memᴰ.not-nil m)
alone-first axis (some f) g1 q s (Memᴰ.head e) = inl (ap (λ (x : Share). some x.face) (sym e))
alone-first axis (some f) g1 q s (Memᴰ.tail m) = absurd (Memᴰ.not-nil m)

alone-second : (axis : ℕ) (g0 g1 : Option Face) (q : Vec2 Float) (s : Share) → Memᴰ s (alone axis g1 q) → OfPair g0 g1 s
unfolding alone
alone-second axis g0 none q s m = absurd (Memᴰ.not-nil m)
alone-second axis g0 (some f) q s (Memᴰ.head e) = inr (ap (λ (x : Share). some x.face) (sym e))
alone-second axis g0 (some f) q s (Memᴰ.tail m) = absurd (Memᴰ.not-nil m)

crossing-of : (axis : ℕ) (f0 f1 : Face) (q0 q1 : Vec2 Float) (n0 n1 : Vec3 Float) (s : Share) → Memᴰ s (crossing axis f0 f1 q0 q1 n0 n1) → OfPair (some f0) (some f1) s
unfolding crossing
crossing-of axis f0 f1 q0 q1 n0 n1 s m = go (skipped axis n0 n1) m
  where
    go : (b : Bool) → Memᴰ s (cond b [] (share f0 q0 (g_pix (coefficient0 axis n0 n1) n0) ∷ share f1 q1 (g_pix (coefficient1 axis n0 n1) n1) ∷ [])) → OfPair (some f0) (some f1) s
    go true m = absurd (Memᴰ.not-nil m)
    go false (Memᴰ.head e) = inl (ap (λ (x : Share). some x.face) (sym e))
    go false (Memᴰ.tail (Memᴰ.head e)) = inr (ap (λ (x : Share). some x.face) (sym e))
    go false (Memᴰ.tail (Memᴰ.tail m)) = absurd (Memᴰ.not-nil m)

intersection-of : (axis : ℕ) (m xyz : List Float) (g0 g1 : Option Face) (q0 q1 : Vec2 Float) (s : Share) → Memᴰ s (intersection axis m xyz g0 g1 q0 q1) → OfPair g0 g1 s
unfolding intersection crossing_of
intersection-of axis m xyz none g1 q0 q1 s n = absurd (Memᴰ.not-nil n)
intersection-of axis m xyz (some f0) none q0 q1 s n = absurd (Memᴰ.not-nil n)
intersection-of axis m xyz (some f0) (some f1) q0 q1 s n = go (project_face m xyz f0) (project_face m xyz f1) n
  where
    go : (t0 t1 : Option (Triangle (Projected Float))) → Memᴰ s (crossing_of axis f0 f1 q0 q1 t0 t1) → OfPair (some f0) (some f1) s
    go none t1 n = absurd (Memᴰ.not-nil n)
    go (some t0) none n = absurd (Memᴰ.not-nil n)
    go (some t0) (some t1) n = crossing-of axis f0 f1 q0 q1 (unormal t0) (unormal t1) s n

between-of : (axis : ℕ) (m xyz : List Float) (g0 g1 : Option Face) (q0 q1 : Vec2 Float) (s : Share) → Memᴰ s (between axis m xyz g0 g1 q0 q1) → OfPair g0 g1 s
unfolding between received
between-of axis m xyz g0 g1 q0 q1 s n = go (contains all_inside m xyz g1 q0) (contains all_inside m xyz g0 q1) n
  where
    go : (a b : Bool) → Memᴰ s (received a b (intersection axis m xyz g0 g1 q0 q1) (alone axis g0 q0) (alone axis g1 q1)) → OfPair g0 g1 s
    go true true n = intersection-of axis m xyz g0 g1 q0 q1 s n
    go true false n = alone-first axis g0 g1 q0 s n
    go false true n = alone-second axis g0 g1 q1 s n
    go false false n = absurd (Memᴰ.not-nil n)

module _ (tri names : List ℕ) (v k : ℕ) (h : k < 3) (mat xyz : List Float) (w : ℕ) (vals : PixelValues) where
  pair_avoid : Unseen (view_of tri names) v → (a : Axis) (e : Edge) → Avoids (v * 3 + k) (pair_additions a (edge_view (view_of tri names) mat xyz w) vals e)
  unfolding pair_additions shares_at additions_of
  pair_avoid free a e = avoids_all (v * 3 + k) _ (shares_at a (edge_view (view_of tri names) mat xyz w) e) (λ s m. to_share s (go ((view_of tri names).alike (first_of w e) (second_of w e)) s m))
    where
      g0 : Option Face
      g0 = (view_of tri names).at (first_of w e)

      g1 : Option Face
      g1 = (view_of tri names).at (second_of w e)

      go : (b : Bool) (s : Share) → Memᴰ s (cond b [] (between a.down mat xyz g0 g1 (centre_of e.first) (centre_of e.second))) → OfPair g0 g1 s
      go true s m = absurd (Memᴰ.not-nil m)
      go false s m = between-of a.down mat xyz g0 g1 (centre_of e.first) (centre_of e.second) s m

      to_share : (s : Share) → OfPair g0 g1 s → Avoids (v * 3 + k) (additions_of mat xyz (dldr vals (first_of w e) (second_of w e)) s)
      to_share s (inl p) = spread_avoid s.face v (free (first_of w e) s.face p) k h mat _ _ _
      to_share s (inr p) = spread_avoid s.face v (free (second_of w e) s.face p) k h mat _ _ _

  pub edge_bwd_keeps : Unnamed tri names v → (height : ℕ) (dxyz : List Float)
      → get_or (edge_bwd tri names height (edge_view (view_of tri names) mat xyz w) vals dxyz).left (v * 3 + k) nan ≡ get_or dxyz (v * 3 + k) nan
  unfolding edge_bwd pass_additions axis_additions
  edge_bwd_keeps free height dxyz =
      let s = edge_view (view_of tri names) mat xyz w in
      kept_at (λ (l : List Float). l) (edges.bwd_code tri names height s vals dxyz) dxyz _ (v * 3 + k)
      (λ e. untouched dxyz _ (v * 3 + k) nan (avoids_append (v * 3 + k) _ _ (axis_avoid e hedge) (axis_avoid e vedge)))
    where
      axis_avoid : edges.bwd_code tri names height (edge_view (view_of tri names) mat xyz w) vals dxyz ≡ 0 → (a : Axis) → Avoids (v * 3 + k) (axis_additions a height (edge_view (view_of tri names) mat xyz w) vals)
      axis_avoid e a =
          avoids_all (v * 3 + k) _ _ (λ j m. pair_avoid (unseen tri names v free (edges_laws.bwd_accepted tri names height _ vals dxyz (sym e)).image.named) a (edge_down a height j))

-- ---- outline smoothing's backward pass

module _ (s : OutlineView) (v : ℕ) (off : OffOutline s.edges v) (map : List ℕ) (val dldw dxyz : List Float) (k : ℕ) (h : k < 3) where
  abbrev adds : OutlineEdge → Ends Float → Met → List Addition
  adds = crossing_additions s.matrix s.vertices val dldw

  edge_avoid : (d : OutlineEdge) → NoEnd d v → (o : Option (Ends Float)) → Avoids (v * 3 + k) (edge_items adds s d o)
  unfolding edge_items crossing_additions met_additions to_ends
  edge_avoid d n none = λ a m e. Memᴰ.not-nil m
  edge_avoid d n (some e) =
      avoids_all (v * 3 + k) _ (edge_met s e) (λ t m. avoids_append _ _ _ (vertex_avoid v k h d.v0 n.0 _) (vertex_avoid v k h d.v1 n.1 _))

  pub outline_keeps : get_or (antialiasing_bwd s map val dldw dxyz).left (v * 3 + k) nan ≡ get_or dxyz (v * 3 + k) nan
  unfolding antialiasing_bwd outline_additions outline_items
  outline_keeps =
      kept_at (λ (l : List Float). l) (bwd_antialias_code s map val dldw dxyz) dxyz _ (v * 3 + k)
      (λ e. untouched dxyz _ (v * 3 + k) nan
      (avoids_all (v * 3 + k) _ (span 0 (edge_total s)) (λ j m. edge_avoid (outline_edge_at s.edges j) (off j (omega (arith, span_below 0 (edge_total s) j m))) _)))
