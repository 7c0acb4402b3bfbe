use Rattle.std.proofs.Common.{sym, ◌∙◌}
use Rattle.layout_server.proofs.OpeningLaws.{no_grants}
use Rattle.layout_server.proofs.openings.open.Goals as goal

pub make_unready-requires-clause-alone : goal.make_unready-requires-clause-alone
make_unready-requires-clause-alone c = no_grants c.args.file.now.kept (sym c.is_unsettled.ensures ∙ c.if-is_unsettled.false)
