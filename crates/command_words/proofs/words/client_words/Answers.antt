use Rattle.std.proofs.Common.{◌∙◌, Option, inr, map, string_bytes, subst}
use Rattle.command_words.specs.Options.{client_options}
use Rattle.command_words.specs.Asked.{client_gives}
use Rattle.command_words.specs.declared.words.ClientWords.{ClientWords}
use Rattle.command_words.proofs.Asking.{client_asked}
use Rattle.command_words.proofs.Parsed.{blames, taken, client_free}
use Rattle.command_words.proofs.words.client_words.Goals as goal

pub returns-in-Some-clause-asks : goal.returns-in-Some-clause-asks
returns-in-Some-clause-asks c = (
  taken _ client_options _ c.in_ok-command.ensures client_free c.in-Ok.ensures.kinds,
  subst (λ (o : Option ClientWords). client_gives (map string_bytes c.args.words.now) o) c.in-Some.is
      (client_asked _ _ c.in-Ok.matches _ _ _ _ c.in_ok-command.ensures c.in-Ok.ensures.matches
      c.get_str-client.ensures c.get_str-sequence.ensures c.get_str.ensures c.in_ok-asked-in-Ok.ensures),
)

pub returns-in-Ok-clause-refuses : goal.returns-in-Ok-clause-refuses
returns-in-Ok-clause-refuses c =
    inr (subst (λ (o : Option ClientWords). client_gives (map string_bytes c.args.words.now) o) c.in-None.is
    (client_asked _ _ c.in-Ok.matches _ _ _ _ c.in_ok-command.ensures c.in-Ok.ensures.matches
    c.get_str-client.ensures c.get_str-sequence.ensures c.get_str.ensures c.in_ok-asked-in-Ok.ensures))

pub returns-clause-refuses : goal.returns-clause-refuses
returns-clause-refuses c =
    blames _ client_options client_gives _ c.in-Err.e c.stop_of.result c.in_ok-command.ensures client_free c.in-Err.ensures.kinds
    (λ bad memory. c.stop_of.ensures bad (c.kind.ensures ∙ memory))
