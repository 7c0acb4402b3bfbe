use Rattle.layout_world.proofs.following.quieten.Goals as goal

pub returns-in-Pends-clause-moves : goal.returns-in-Pends-clause-moves
returns-in-Pends-clause-moves c = rw c.in-Pends.is c.pend_move.ensures.moves

pub returns-in-TimesOut-clause-moves : goal.returns-in-TimesOut-clause-moves
returns-in-TimesOut-clause-moves c = rw c.in-TimesOut.is c.time_out_move.ensures.moves
