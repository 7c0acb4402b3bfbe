-- The options of the commands over a network, each read as by one simple command.
use Rattle.std.specs.Prelude.{true, List, Option, Some, codes}
use Rattle.clap.specs.Walk.{Rule, Text}
use Rattle.clap.specs.Simple.{App, new_app, new_rule, with_rule, matches_of}
use Rattle.clap.specs.Words.{first_of}
use Rattle.clap.specs.Faults.{fault_of}
use Rattle.clap.specs.Kinds.{Kinds}
use Rattle.clap.specs.declared.builder.action.ArgAction.TheVariants.{Set}

-- a required option that takes a text
abbrev pub option_rule : Text → Rule
option_rule id = record (new_rule id) { long = Some id; action = Some Set; required = true }

-- one that may be missing
abbrev pub optional_rule : Text → Rule
optional_rule id = record (new_rule id) { long = Some id; action = Some Set }

abbrev pub drive_options : App
drive_options =
    with_rule (with_rule (new_app (codes "drive")) (option_rule (codes "number"))) (option_rule (codes "connections"))

abbrev pub server_options : App
server_options = with_rule (new_app (codes "server")) (option_rule (codes "connections"))

abbrev pub client_options : App
client_options =
    with_rule (with_rule (with_rule (new_app (codes "client"))
    (option_rule (codes "number"))) (optional_rule (codes "sequence"))) (option_rule (codes "call"))

-- what is wrong with the words
unfoldable pub faults_of : App → List Text → Kinds
faults_of options words = fault_of options words

-- the text of an option
unfoldable pub text_of : App → (id : Text) → List Text → Option Text
text_of options id words = first_of id (matches_of options words)
