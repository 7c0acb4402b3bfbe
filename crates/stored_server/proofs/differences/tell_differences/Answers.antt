use Rattle.server_command.proofs.CutLaws.{on_err, tells_none}
use Rattle.server_journal.specs.Journals.{core_of}
use Rattle.stored_server.specs.Differences.{difference_lines}
use Rattle.stored_server.proofs.differences.tell_differences.Goals as goal

pub returns-in_err-differences-clause-err : goal.returns-in_err-differences-clause-err
returns-in_err-differences-clause-err g c =
    on_err _ _ (tells_none (difference_lines c.args.cluster.now (core_of c.args.journal.now)) (g.L.Links.told c.args.links.now))
