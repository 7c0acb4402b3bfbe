use Rattle.std.proofs.Common.{ap, ◌∙◌, ◌∷◌}
use Rattle.std.specs.List.{fold}
use Rattle.world_calm.specs.Seeing.{CalmState, follows, notes}
use Rattle.world_calm.proofs.calm.Calm.see.Goals as goal

pub returns : goal.returns
returns g c =
    c.in_ok-end_step.ensures
    ∙ ap (λ (s : CalmState). fold (follows (g.S.KeptFiles.kept_of c.args.server.now)) s (c.args.head.now ∷ c.args.rest.now))
    (c.in_ok-note_all.ensures
    ∙ ap (λ (s : CalmState). fold (notes c.args.mended.now) s c.args.rest.now) c.in_ok-begin_step.ensures)
