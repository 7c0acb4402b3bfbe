use Rattle.std.proofs.Common.{sym}
use Rattle.server_state.proofs.TableLaws.{entry_found}
use Rattle.layout_server.proofs.orders.begin_in.Goals as goal

pub begin_at-requires-clause-sound : goal.begin_at-requires-clause-sound
begin_at-requires-clause-sound g c =
    (entry_found c.args.files.now.entries c.args.number c.in-Some.file.now c.requires.files (sym c.in-Some.ensures.value)).sound
