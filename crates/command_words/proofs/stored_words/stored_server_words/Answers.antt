use Rattle.std.proofs.Common.{◌∙◌, Option, inr, map, string_bytes, subst}
use Rattle.command_words.specs.StoredAsked.{stored_server_gives, stored_server_options}
use Rattle.command_words.specs.declared.stored_words.StoredServerWords.{StoredServerWords}
use Rattle.command_words.proofs.Asking.{stored_server_asked}
use Rattle.command_words.proofs.Parsed.{blames, taken, stored_server_free}
use Rattle.command_words.proofs.stored_words.stored_server_words.Goals as goal

pub returns-in-Some-clause-asks : goal.returns-in-Some-clause-asks
returns-in-Some-clause-asks c = (
  taken _ stored_server_options _ c.in_ok-command.ensures stored_server_free c.in-Ok.ensures.kinds,
  subst (λ (o : Option StoredServerWords). stored_server_gives (map string_bytes c.args.words.now) o) c.in-Some.is
      (stored_server_asked _ _ c.in-Ok.matches _ _ _ c.in_ok-command.ensures c.in-Ok.ensures.matches
      c.get_str-connections.ensures c.get_str.ensures c.in_ok-asked-in-Ok.ensures),
)

pub returns-in-Ok-clause-refuses : goal.returns-in-Ok-clause-refuses
returns-in-Ok-clause-refuses c =
    inr (subst (λ (o : Option StoredServerWords). stored_server_gives (map string_bytes c.args.words.now) o) c.in-None.is
    (stored_server_asked _ _ c.in-Ok.matches _ _ _ c.in_ok-command.ensures c.in-Ok.ensures.matches
    c.get_str-connections.ensures c.get_str.ensures c.in_ok-asked-in-Ok.ensures))

pub returns-clause-refuses : goal.returns-clause-refuses
returns-clause-refuses c =
    blames _ stored_server_options stored_server_gives _ c.in-Err.e c.stop_of.result c.in_ok-command.ensures stored_server_free
    c.in-Err.ensures.kinds
    (λ bad memory. c.stop_of.ensures bad (c.kind.ensures ∙ memory))
