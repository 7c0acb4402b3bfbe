use Rattle.layout_server.proofs.RoundLaws.{SoFar}
use Rattle.layout_server.proofs.rounds.at_each_file.Given as goal

abbrev pub invariant-loop-number : goal.invariant-loop-number
invariant-loop-number g l =
    SoFar (g.S.FileStep.fits l.fn.step)
    (g.S.FileStep.rule l.fn.step) l.fn.files.entries l.fn.effects l.files.entries l.number-iterator l.effects
