use Rattle.std.proofs.Common.{sym}
use Rattle.server_state.proofs.TableLaws.{entry_found}
use Rattle.server_state.proofs.at_file.serve_in.Goals as goal

pub serve_at-requires-clause-sound : goal.serve_at-requires-clause-sound
serve_at-requires-clause-sound c =
    (entry_found c.args.files.now.entries c.args.request.now.file c.in-Some.file.now c.requires.files
    (sym c.in-Some.ensures.value)).sound
