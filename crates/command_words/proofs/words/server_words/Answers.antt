use Rattle.std.proofs.Common.{◌∙◌, inr}
use Rattle.command_words.specs.Options.{server_options}
use Rattle.command_words.specs.Asked.{server_gives}
use Rattle.command_words.proofs.Asking.{server_asked}
use Rattle.command_words.proofs.Parsed.{blames, taken, server_free}
use Rattle.command_words.proofs.words.server_words.Goals as goal

pub returns-in-Some-clause-asks : goal.returns-in-Some-clause-asks
returns-in-Some-clause-asks c = (
  taken _ server_options _ c.in_ok-command.ensures server_free c.in-Ok.ensures.kinds,
  server_asked _ _ c.in-Ok.matches _ _ c.in_ok-command.ensures c.in-Ok.ensures.matches c.get_str.ensures c.server_from.ensures
      ∙ c.in-Some.is,
)

pub returns-in-Ok-clause-refuses : goal.returns-in-Ok-clause-refuses
returns-in-Ok-clause-refuses c =
    inr (server_asked _ _ c.in-Ok.matches _ _ c.in_ok-command.ensures c.in-Ok.ensures.matches c.get_str.ensures
    c.server_from.ensures ∙ c.in-None.is)

pub returns-clause-refuses : goal.returns-clause-refuses
returns-clause-refuses c =
    blames _ server_options server_gives _ c.in-Err.e c.stop_of.result c.in_ok-command.ensures server_free c.in-Err.ensures.kinds
    (λ bad memory. c.stop_of.ensures bad (c.kind.ensures ∙ memory))
