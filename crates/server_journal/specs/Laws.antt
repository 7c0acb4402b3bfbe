-- Laws of contents: which server they stand for, if they stand for one.
use Rattle.std.specs.Prelude.{◌≡◌, ◌++◌, ℕ, List}
use Rattle.server_rules.specs.declared.server.Server.{Server}
use Rattle.server_journal.specs.Counters.{CountsOn}
use Rattle.server_journal.specs.Journals.{IsJournalOf}
use Rattle.server_journal.specs.Opening.{IsNoJournalAt}
use Rattle.server_journal.specs.Records.{LeadTo}

-- contents stand for one server at most
abbrev pub StandForOneServer : Type 0
StandForOneServer = (s t : Server) (c : List ℕ) → IsJournalOf s c → IsJournalOf t c → s ≡ t

-- what is refused stands for no server
abbrev pub RefusedIsNoJournal : Type 0
RefusedIsNoJournal = (c : List ℕ) (at : ℕ) → IsNoJournalAt c at → (s : Server) → IsJournalOf s c → ⊥

-- no counter falls where records are added
abbrev pub CountersNeverFall : Type 0
CountersNeverFall = (records more : List (List ℕ)) (s t : Server) → LeadTo records s → LeadTo (records ++ more) t → CountsOn s t
