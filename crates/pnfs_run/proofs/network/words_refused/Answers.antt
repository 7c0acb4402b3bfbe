use Rattle.std.proofs.Common.{refl, sym, subst}
use Rattle.command_words.specs.declared.words.WordsErr.{WordsErr}
use Rattle.pnfs_run.specs.declared.status.Status.TheVariants.{BadWords}
use Rattle.pnfs_run.specs.Network.{TellsWords}
use Rattle.pnfs_run.proofs.network.words_refused.Goals as goal

pub returns-in-Bad : goal.returns-in-Bad
returns-in-Bad g c =
    subst
    (λ (e : WordsErr). TellsWords e (g.K.Sink.taken c.args.sink.now) (g.K.Sink.taken c.put_words_error.new.sink)
    (g.K.Sink.faults c.args.sink.now) (g.K.Sink.faults c.put_words_error.new.sink) BadWords)
    (sym c.in-Bad.is) (refl, c.put_words_error.ensures)
