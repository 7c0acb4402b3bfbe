use Rattle.std.proofs.Common.{◌∙◌, inr}
use Rattle.command_words.specs.Options.{drive_options}
use Rattle.command_words.specs.Asked.{drive_gives}
use Rattle.command_words.proofs.Asking.{drive_asked}
use Rattle.command_words.proofs.Parsed.{blames, taken, drive_free}
use Rattle.command_words.proofs.words.drive_words.Goals as goal

pub returns-in-Some-clause-asks : goal.returns-in-Some-clause-asks
returns-in-Some-clause-asks c = (
  taken _ drive_options _ c.in_ok-command.ensures drive_free c.in-Ok.ensures.kinds,
  drive_asked _ _ c.in-Ok.matches _ _ _ c.in_ok-command.ensures c.in-Ok.ensures.matches c.get_str.ensures c.get_str-in-Ok.ensures
      c.drive_from.ensures ∙ c.in-Some.is,
)

pub returns-in-Ok-clause-refuses : goal.returns-in-Ok-clause-refuses
returns-in-Ok-clause-refuses c =
    inr (drive_asked _ _ c.in-Ok.matches _ _ _ c.in_ok-command.ensures c.in-Ok.ensures.matches c.get_str.ensures
    c.get_str-in-Ok.ensures c.drive_from.ensures ∙ c.in-None.is)

pub returns-clause-refuses : goal.returns-clause-refuses
returns-clause-refuses c =
    blames _ drive_options drive_gives _ c.in-Err.e c.stop_of.result c.in_ok-command.ensures drive_free c.in-Err.ensures.kinds
    (λ bad memory. c.stop_of.ensures bad (c.kind.ensures ∙ memory))
