use Rattle.server_journal.proofs.ContentLaws.{one_server, refused_is_none}
use Rattle.server_journal.proofs.CounterLaws.{counters_never_fall}
use Rattle.server_journal.proofs.laws.contents_stand_for_one_server.Goals as goal

pub returns-clause-one : goal.returns-clause-one
returns-clause-one c = one_server

pub returns-clause-refused : goal.returns-clause-refused
returns-clause-refused c = refused_is_none

pub returns-clause-counters : goal.returns-clause-counters
returns-clause-counters c = counters_never_fall
