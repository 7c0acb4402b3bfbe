-- What the words of `stored-drive` and `stored-server` ask for.
use Rattle.std.specs.Prelude.{◌≡◌, List, Option, Some, codes, string_bytes}
use Rattle.clap.specs.Walk.{Text}
use Rattle.clap.specs.Simple.{App, new_app, with_rule}
use Rattle.command_words.specs.Asked.{drive_words_from, server_words_from}
use Rattle.command_words.specs.Options.{option_rule, text_of}
use Rattle.command_words.specs.Work.{Gives}
use Rattle.command_words.specs.declared.stored_words.StoredDriveWords.{StoredDriveWords}
use Rattle.command_words.specs.declared.stored_words.StoredServerWords.{StoredServerWords}

abbrev pub stored_drive_options : App
stored_drive_options =
    with_rule (with_rule (with_rule (new_app (codes "stored-drive"))
    (option_rule (codes "number"))) (option_rule (codes "connections"))) (option_rule (codes "store"))

-- three words ask for a drive with its store
pub record AsksStored (number count name : Option Text) (asked : StoredDriveWords) : Type 0 where
  pub drive : drive_words_from number count ≡ Some asked.drive
  pub store : name ≡ Some (string_bytes asked.store)

abbrev pub stored_drive_gives : List Text → Option StoredDriveWords → Type 0
stored_drive_gives words asked = Gives
    (AsksStored (text_of stored_drive_options (codes "number") words) (text_of stored_drive_options (codes "connections") words)
    (text_of stored_drive_options (codes "store") words)) asked

abbrev pub stored_server_options : App
stored_server_options =
    with_rule (with_rule (new_app (codes "stored-server")) (option_rule (codes "connections"))) (option_rule (codes "store"))

-- two words ask for a server with its store
pub record AsksStoredServer (count name : Option Text) (asked : StoredServerWords) : Type 0 where
  pub server : server_words_from count ≡ Some asked.server
  pub store : name ≡ Some (string_bytes asked.store)

abbrev pub stored_server_gives : List Text → Option StoredServerWords → Type 0
stored_server_gives words asked = Gives
    (AsksStoredServer (text_of stored_server_options (codes "connections") words)
    (text_of stored_server_options (codes "store") words))
    asked
