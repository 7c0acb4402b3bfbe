use Rattle.std.proofs.Common.{◌∙◌, ℕ, List, subst}
use Rattle.cluster_text.specs.Lines.{PutsLine}
use Rattle.drive_command.proofs.stored_lines.put_store_line.Goals as goal

pub returns-clause-ok : goal.returns-clause-ok
returns-clause-ok g c =
    subst (λ (line : List ℕ). PutsLine (g.K.Sink.taken c.args.sink.now) (g.K.Sink.taken c.put_line.new.sink)
    (g.K.Sink.faults c.args.sink.now) (g.K.Sink.faults c.put_line.new.sink) line)
    (c.as_bytes.ensures.value ∙ c.in_ok-line.ensures) c.put_line.ensures
