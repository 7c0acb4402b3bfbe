use Rattle.std.specs.Prelude.{[], ◌++◌}
use Rattle.std.proofs.Common.{ap, ◌∙◌, ◌∷◌}
use Rattle.std.proofs.lemmas.Result.{IfOk-weaker}
use Rattle.file_jobs.proofs.Mends.{sound_from}
use Rattle.file_jobs.proofs.Placements.{made_on}
use Rattle.file_jobs.proofs.places.create_on.Goals as goal

pub returns-clause-turn : goal.returns-clause-turn
returns-clause-turn c = IfOk-weaker c.rest.result _ _ (λ turn h.
    made_on c.args.component c.args.drive c.args.kept.now c.args.effects.now c.rest.new.effects turn _
    (c.in_ok-push.ensures.ok ∙ ap (λ xs. xs ++ (c.in_ok-sent_to.field-0 ∷ [])) c.new-creates.ensures
    ∙ ap (λ x. x ∷ []) c.in_ok-sent_to.ensures) h)
    c.rest.ensures.turn

pub returns-clause-sound : goal.returns-clause-sound
returns-clause-sound c =
    IfOk-weaker c.rest.result _ _ (λ turn h. sound_from turn _ _ _ _ c.requires.component h) c.rest.ensures.job
