-- Demand 1, as the kit proves it of each function: whatever it is lent, it is safe, it ends, and then it meets its contract. Here for the calls that loop
-- or write. Statements and proofs are the kit's, made of the contracts and of the answers in the crates. Assumes nothing.
use Rattle.build.proofs.new.Statement as new_site
use Rattle.build.proofs.new.Met as new_met
use Rattle.random.proofs.random.Statement as random_site
use Rattle.random.proofs.random.Met as random_met
use Rattle.scene.proofs.Scene.new_stamps.Statement as stamps
use Rattle.scene.proofs.Scene.new_stamps.Met as stamps_met
use Rattle.scene.proofs.Scene.polygons_near.Statement as near
use Rattle.scene.proofs.Scene.polygons_near.Met as near_met
use Rattle.scene.proofs.Scene.cast_ray.Statement as ray
use Rattle.scene.proofs.Scene.cast_ray.Met as ray_met
use Rattle.visibility.proofs.compute_visibility.Statement as view
use Rattle.visibility.proofs.compute_visibility.Met as view_met
use Rattle.cone.proofs.ViewCone.outline.Statement as outline
use Rattle.cone.proofs.ViewCone.outline.Met as outline_met

pub new_spec : {M : Type 1} → new_site.statement M
new_spec = new_met.met

pub random_spec : {M : Type 1} → random_site.statement M
random_spec = random_met.met

pub new_stamps_spec : {M : Type 1} → stamps.statement M
new_stamps_spec = stamps_met.met

pub polygons_near_spec : {M : Type 1} → near.statement M
polygons_near_spec = near_met.met

pub cast_ray_spec : {M : Type 1} → ray.statement M
cast_ray_spec = ray_met.met

pub compute_visibility_spec : {M : Type 1} → view.statement M
compute_visibility_spec = view_met.met

pub outline_spec : {M : Type 1} → outline.statement M
outline_spec = outline_met.met
