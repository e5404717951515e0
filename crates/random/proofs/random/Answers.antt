-- `random`: two refusals, or what the building does with the polygons drawn. Assumes nothing.
use Rattle.random.proofs.Ways.{drawn_points, drawn_lens, too_many, too_large, made}
use Rattle.random.specs.Outcome.{in_random_size}
use Rattle.random.specs.declared.SceneConfig.{SceneConfig}
use Rattle.std.proofs.Common.{◌≡◌, Bool, ◌&&◌, ◌∙◌, arith}
use Rattle.random.proofs.random.Goals as goal

sizes : (config : SceneConfig) (a b : Bool) → a ≡ in_random_size config.width → b ≡ in_random_size config.height → (in_random_size config.width && in_random_size config.height) ≡ (a && b)
sizes config a b e f = rw (e, f)

pub returns-then-n-gt-POLYGONS : goal.returns-then-n-gt-POLYGONS
returns-then-n-gt-POLYGONS c = too_many c.args.config _ c.if-n-gt-POLYGONS.true

pub returns-then-not-sizes : goal.returns-then-not-sizes
returns-then-not-sizes c = too_large c.args.config _ c.if-n-gt-POLYGONS.false (sizes c.args.config _ _ c.in_random_size.ensures c.in_random_size-2.ensures ∙ c.if-not-sizes.true)

pub returns : goal.returns
returns c =
    let d = c.draw_polygons-count in
    made c.args.config _ c.if-n-gt-POLYGONS.false (sizes c.args.config _ _ c.in_random_size.ensures c.in_random_size-2.ensures ∙ c.if-not-sizes.false)
    (drawn_points c.args.config d.ensures (omega (arith, d.ensures.few, d.auto.given)))
    (drawn_lens c.args.config d.ensures (omega (arith, d.auto.lens)))
    c.new.ensures
