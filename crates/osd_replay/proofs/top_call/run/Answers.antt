use Rattle.std.proofs.Common.{rules, ◌≡◌, Some, None, map, refl, [], subst}
use Rattle.std.specs.Prelude.{string_bytes}
use Rattle.osd_bytes.specs.declared.lines.TheConstants.{MAX_READ}
use Rattle.osd_bytes.proofs.ReadLaws.{takes-none}
use Rattle.osd_replay.specs.Commands.{command_of}
use Rattle.osd_replay.specs.Ends.{ends}
use Rattle.osd_replay.specs.Errors.{words_error}
use Rattle.osd_replay.specs.Generate.{Promises as GeneratePromises}
use Rattle.osd_replay.specs.declared.command.Command.TheVariants.{Replay, Generate}
use Rattle.osd_replay.specs.declared.status.Status.{Status}
use Rattle.osd_replay.proofs.Asked.{asks_few}
use Rattle.osd_replay.proofs.SoFar.{appends_none}
use Rattle.osd_replay.proofs.Promised.{tells}
use Rattle.osd_replay.proofs.top_call.run.Goals as goal

pub returns-in-None-clause-promise : goal.returns-in-None-clause-promise
returns-in-None-clause-promise g c = rw (← c.in-None.ensures) (
  refl,
  tells _ _ (g.K.Sink.taken c.args.sink.now) [] words_error (g.K.Sink.faults c.args.sink.now) c.put_pieces-told.result
      (appends_none (g.K.Sink.taken c.args.sink.now)) c.put_pieces-told.ensures.puts refl,
)

pub returns-in-Some-Replay-clause-promise : goal.returns-in-Some-Replay-clause-promise
returns-in-Some-Replay-clause-promise g c =
    let is : command_of (map string_bytes c.args.words.now) ≡ Some Replay = search rules in
    rw is (c.replay.ensures.promise, c.replay.ensures.complete)

pub returns-in-Some-Generate-clause-promise : goal.returns-in-Some-Generate-clause-promise
returns-in-Some-Generate-clause-promise g c =
    let is : command_of (map string_bytes c.args.words.now) ≡ Some (Generate c.in-Some-Generate.seed c.in-Some-Generate.calls) =
    search rules in
    rw is (
      record { left = refl; reads = refl },
      c.generate.ensures (g.S.Source.left c.args.source.now) (g.S.Source.faults c.args.source.now),
    )

pub generate-requires-clause-few : goal.generate-requires-clause-few
generate-requires-clause-few g c =
    let is : command_of (map string_bytes c.args.words.now) ≡ Some (Generate c.in-Some-Generate.seed c.in-Some-Generate.calls) =
    search rules in
    asks_few c.in-Some-Generate.seed c.in-Some-Generate.calls (map string_bytes c.args.words.now) is

pub returns-in-Some-Generate-clause-words : goal.returns-in-Some-Generate-clause-words
returns-in-Some-Generate-clause-words g c =
    let is : command_of (map string_bytes c.args.words.now) ≡ Some (Generate c.in-Some-Generate.seed c.in-Some-Generate.calls) =
    search rules in
    rw is (
      λ bad. absurd (subst (λ (s : Status). GeneratePromises c.in-Some-Generate.seed c.in-Some-Generate.calls
          (ends None 0 (g.K.Sink.taken c.args.sink.now) (g.K.Sink.faults c.args.sink.now))
          (ends None 0 (g.K.Sink.taken c.generate.new.sink) (g.K.Sink.faults c.generate.new.sink)) s) bad
          (c.generate.ensures None 0)),
      λ none. absurd (cc none),
    )

pub returns-in-None-clause-input : goal.returns-in-None-clause-input
returns-in-None-clause-input g c = takes-none MAX_READ (g.S.Source.left c.args.source.now)

pub returns-in-Some-Generate-clause-input : goal.returns-in-Some-Generate-clause-input
returns-in-Some-Generate-clause-input g c = takes-none MAX_READ (g.S.Source.left c.args.source.now)
