-- The map of a face list's drawing, and a layer whose map is renumbered.
use Rattle.std.specs.Prelude.{ℕ, List, map}
use Rattle.cells.specs.Layer.{Layer, layer}
use Rattle.meshes.specs.Mesh.{Face}
use Rattle.rules.specs.Offers.{Scene}
use Rattle.sequences.specs.Whole.{fresh}

module _ (sc : Scene) (fs : List Face) where
  -- the map of its drawing
  abbrev pub drawn_map : List ℕ
  drawn_map = (fresh sc fs 0).pix2tri

-- a layer with its map renumbered; depths and weights are as they were
abbrev pub renumbered : (ℕ → ℕ) → Layer → Layer
renumbered r l = layer (map r l.pix2tri) l.pix2depth l.pix2weights
