-- The gradients are true: the backward formulas are the exact derivative of the forward ones, in every commutative ring where the divisors can be divided by.
-- The forward definition is run at dual numbers, a + a'ε with ε² = 0, and what stands at ε is the derivative. The definitions are the product's own, which are
-- written once over any arithmetic; where the product has one at f32 only, it stands here over any arithmetic, and Ties proves that at f32 it is the product's.
-- The theorems are in proofs/:
--
--   Meeting     `meets`, `weights_agree`      forward and backward speak of the same point and the same weights
--   Shares      `shares_true`                 the shares of a plane are the derivative of t, u and v
--   Secant      `secant`                      the same for a movement of any size, without dual numbers
--   Loss        `loss_true`                   what a pixel adds to vertices and values is the derivative of its part of the loss
--   Pass        `pass_true`                   so of every pixel, into lent buffers
--   Projection  `pull_true`, `edge_true`      `jacobian_transform`, and what an edge gives the corners of a face
--   Crossing    `crossing_meets`              an outline edge and the way between two centres meet in the crossing
--   Crossing    `crossing_true`               its backward formula is the derivative of its place on that way, rc
--   Crossing    `outline_true`, `smoothed_true`  so of the edge's vertices, and of the pixel that is smoothed
--   Weights     `weights-sum`, `weights_place`, `weights_depth_lem`  the corner weights of drawing: they sum to 1, place the pixel and give the depth
--   Ties        at f32 these formulas are what `interpolate` writes, what `interpolate_bwd`, `bwd` and `bwd_antialias` add, what `antialias` writes, and the weights of drawing
--   Rationals   the laws hold of the rational numbers (in specs/); Examples computes one
--
-- What is not said:
--   nothing on rounding: f32 and an exact ring share the text of the definitions, and no error is bounded;
--   the map is held fixed, and rays do not move with the vertices: where the face that a pixel shows changes there is no derivative;
--   the `dldr` of an edge, and which faces an edge moves, are a model of such changes and not the derivative of `interpolate`: of the edges' pass only
--   the way from a gradient in the image to the corners is a derivative (`edge_true`), the weights being held fixed;
--   a smoothed pixel's theorem is of one crossing, its two values held: where two crossings write one pixel, the later one stands, and nothing is said of
--   which crossings there are while the vertices move;
--   intersections of faces in `bwd` are not covered: nothing is said of the coefficients and normals that they use.

-- what is asked of an arithmetic, and movement
pub mod Laws
pub mod Dual
pub mod Moving
-- the passes over any arithmetic
pub mod Pixel
pub mod Image
-- what the theorems are about; the theorems are in proofs/
pub mod Meeting
pub mod Shares
pub mod Pass
pub mod Projection
pub mod Crossing
pub mod Weights
pub mod Ties
-- an exact arithmetic with division
pub mod Integers
pub mod Rationals
-- the proofs' tools
pub mod Buffers
pub mod Ring
pub mod Solve
