use Rattle.std.proofs.Common.{sym, refl, ◌/◌, length, []}
use Rattle.questions.proofs.Laws.Opening.{opened, named_well}
use Rattle.meshes.specs.Laws.{sound_mesh, sound}
use Rattle.vertex_values.proofs.Asked.{lengths_asked}
use Rattle.vertex_values.proofs.Pass.ask.Goals as goal

pub invariant_of-size : goal.invariant_of-size
invariant_of-size c = record { sized = (opened _ _ _ _ _ [] (sym c.in_ok-ask_opening.ensures)).0.size }

pub exact_ok-exact-requires : goal.exact_ok-exact-requires
exact_ok-exact-requires c = let o = (opened _ _ _ _ _ [] (sym c.in_ok-ask_opening.ensures)).0 in record { channels = o.few; vertices_few = o.vertices.most }

pub invariant_of-mesh : goal.invariant_of-mesh
invariant_of-mesh c =
    let o = (opened _ _ _ _ _ [] (sym c.in_ok-ask_opening.ensures)).0 in
    let q = named_well (length c.args.vtx2xyz.now / 3) c.args.tri2vtx.now c.args.pix2tri.now [] (sym c.in_ok-ask_naming.ensures) in
    record { sound = sound_mesh o.faces o.vertices q.0 }

pub rays_ok-requires : goal.rays_ok-requires
rays_ok-requires c = (lengths_asked _ c.in_ok-ask.ensures c.exact_ok-exact.ensures).map

pub invariant_of-view : goal.invariant_of-view
invariant_of-view c =
    let o = (opened _ _ _ _ _ [] (sym c.in_ok-ask_opening.ensures)).0 in
    let q = named_well (length c.args.vtx2xyz.now / 3) c.args.tri2vtx.now c.args.pix2tri.now [] (sym c.in_ok-ask_naming.ensures) in
    record { sound = sound o.size o.faces o.vertices (lengths_asked _ c.in_ok-ask.ensures c.exact_ok-exact.ensures).map q.0 q.1 }

pub invariant_of-vertices : goal.invariant_of-vertices
invariant_of-vertices c = record { valued = (lengths_asked _ c.in_ok-ask.ensures c.exact_ok-exact.ensures).values }

pub returns-clause-lent : goal.returns-clause-lent
returns-clause-lent c = record { of_image = refl; of_vertices = refl; of_view = refl; channels = (lengths_asked _ c.in_ok-ask.ensures c.exact_ok-exact.ensures).pixels }

pub returns-clause-exact : goal.returns-clause-exact
returns-clause-exact c = (lengths_asked _ c.in_ok-ask.ensures c.exact_ok-exact.ensures).others
