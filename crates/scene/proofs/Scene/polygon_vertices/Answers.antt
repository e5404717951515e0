-- `polygon_vertices`: refused and empty, or the part of the polygon. Assumes nothing.
use Rattle.std.proofs.Common.{[]}
use Rattle.scene.specs.Answers.{polygon_vertices_of}
use Rattle.scene.proofs.Asking.{refused, admitted}
use Rattle.scene.proofs.Scene.polygon_vertices.Goals as goal

pub returns-in-Ok : goal.returns-in-Ok
unfolding polygon_vertices_of
returns-in-Ok c = admitted _ _ _ (λ r. []) _ c.admit.ensures c.in-Ok.is (c.verts_of.ensures)

pub returns-in-Err : goal.returns-in-Err
unfolding polygon_vertices_of
returns-in-Err c = refused _ _ _ (λ r. []) _ c.admit.ensures c.in-Err.is
