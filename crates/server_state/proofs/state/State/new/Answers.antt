use Rattle.std.specs.Prelude.{List}
use Rattle.std.proofs.Common.{arith, sym, subst}
use Rattle.server_rules.specs.declared.server.Drive.{Drive}
use Rattle.server_state.specs.Drives.{AreDrives}
use Rattle.server_state.specs.Tables.{Table, AreEntries}
use Rattle.server_state.proofs.ReplyLaws.{empty_listed}
use Rattle.server_state.proofs.CountLaws.{empty_counted}
use Rattle.server_state.proofs.state.State.new.Goals as goal

pub returns-clause-good : goal.returns-clause-good
returns-clause-good c = record {
  files = subst (λ (t : Table). AreEntries t) (sym c.new.ensures.empty) tt;
  grants = omega arith;
  drives = subst (λ (ds : List Drive). AreDrives ds) (sym c.new-5.ensures) tt;
  replies = empty_listed c.new-2.result c.new.result.entries c.new-2.ensures c.new.ensures.empty;
  counts = empty_counted c.new-3.result c.new.result.entries c.new-3.ensures c.new.ensures.empty;
}
