use Rattle.std.proofs.Common.{rules, ◌≡◌, [], ◌∷◌}
use Rattle.osd_bytes.specs.Put.{written_of}
use Rattle.scenario_text.specs.LineSpelling.{lines_text}
use Rattle.scenario_text.specs.declared.line.Line.TheVariants.{Last}
use Rattle.osd_replay.proofs.replay.finish.Goals as goal

pub returns-clause-ends : goal.returns-clause-ends
returns-clause-ends g c =
    let bytes : c.as_slice.result.now ≡ lines_text
    (Last c.args.world.now.watch.moments.calm c.args.world.now.watch.guesses.unguessed ∷ []) = search rules in (
      written_of c.in-Err-put_all.field-0,
      rw bytes at c.in-Err-put_all.ensures.part,
      rw bytes at c.in-Err-put_all.ensures.err,
      c.in-Err-put_all.ensures.cause.failed,
    )
