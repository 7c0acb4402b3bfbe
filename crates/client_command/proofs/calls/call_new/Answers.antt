use Rattle.client_command.proofs.calls.call_new.Goals as goal

pub returns-clause-stops : goal.returns-clause-stops
returns-clause-stops g c = (c.call_and_leave.new.core, rw c.new-core.ensures at c.in-Err.ensures.stops)
