use Rattle.std.proofs.Common.{sym, ◌∙◌}
use Rattle.std.proofs.lemmas.Result.{IfOk-weaker}
use Rattle.file_jobs.specs.Steps.{going}
use Rattle.file_jobs.proofs.Rebuilds.{can_fill, goes_filled, goes_gathered, is_readable}
use Rattle.file_jobs.proofs.rebuild.feed_rebuild.Goals as goal

pub feed_sources-requires-clause-fill : goal.feed_sources-requires-clause-fill
feed_sources-requires-clause-fill c = can_fill c.args.kept.now _ c.args.rebuild c.requires.fits

pub feed_sources-requires-clause-readable : goal.feed_sources-requires-clause-readable
feed_sources-requires-clause-readable c =
    is_readable c.args.kept.now _ c.args.rebuild (sym c.stage.ensures ∙ c.in-Gathering.is) c.requires.fits

pub go_on_after_write-requires-clause-fill : goal.go_on_after_write-requires-clause-fill
go_on_after_write-requires-clause-fill c = can_fill c.args.kept.now _ c.args.rebuild c.requires.fits

pub returns-in-Gathering-clause-turn : goal.returns-in-Gathering-clause-turn
returns-in-Gathering-clause-turn c = IfOk-weaker c.feed_sources.result _ _ (λ turn h kind a.
    h a ∙ goes_gathered kind (going c.args.kept.now c.args.effects.now a) c.args.rebuild c.args.heard.now
    (sym c.stage.ensures ∙ c.in-Gathering.is))
    c.feed_sources.ensures.turn

pub returns-in-Filling-clause-turn : goal.returns-in-Filling-clause-turn
returns-in-Filling-clause-turn c = IfOk-weaker c.go_on_after_write.result _ _ (λ turn h kind a.
    h a ∙ goes_filled kind (going c.args.kept.now c.args.effects.now a) c.args.rebuild c.args.heard.now
    (sym c.stage.ensures ∙ c.in-Filling.is))
    c.go_on_after_write.ensures.turn
