use Rattle.std.specs.Prelude.{[], ◌∷◌, ◌++◌}
use Rattle.std.proofs.Common.{ap, ◌∙◌}
use Rattle.std.proofs.lemmas.Result.{IfOk-weaker}
use Rattle.file_jobs.proofs.Mends.{sound_from}
use Rattle.file_jobs.proofs.Rebuilds.{fits_reading, fits_writing, stores_is}
use Rattle.file_jobs.proofs.rebuild.after_fill_step.Goals as goal

pub returns-in-Fetch-clause-sound : goal.returns-in-Fetch-clause-sound
returns-in-Fetch-clause-sound c = IfOk-weaker c.rest.result _ _ (λ turn h. sound_from turn _ _ _ _
    (fits_reading c.args.kept.now _ c.args.rebuild (rw c.in-Fetch.is at c.requires.stage) c.requires.fill
    (rw c.in-Fetch.is at c.requires.readable tt)) h) c.rest.ensures.job

pub returns-in_ok-push-in-Store-clause-sound : goal.returns-in_ok-push-in-Store-clause-sound
returns-in_ok-push-in-Store-clause-sound c = IfOk-weaker c.rest-in-Store.result _ _ (λ turn h. sound_from turn _ _ _ _
    (fits_writing c.args.kept.now _ c.args.rebuild (rw c.in-Store.is at c.requires.stage) c.requires.fill) h)
    c.rest-in-Store.ensures.job

pub returns-in_ok-push-in-Store-clause-turn : goal.returns-in_ok-push-in-Store-clause-turn
returns-in_ok-push-in-Store-clause-turn c = IfOk-weaker c.rest-in-Store.result _ _ (λ turn h a.
    stores_is c.args.step c.args.kept.now c.args.effects.now c.rest-in-Store.new.effects turn c.args.rebuild c.in-Store.write _
    c.in-Store.is
    (c.in_ok-push-in-Store.ensures.ok ∙ ap (λ xs. xs ++ (c.in-Store.write ∷ [])) c.new-writes.ensures) h a)
    c.rest-in-Store.ensures.turn
