-- What the records of a journal say: the server that they lead to.
use Rattle.std.specs.Prelude.{◌≡◌, ℕ, List, [], ◌∷◌, Option, Some, None, Result, Ok, Err}
use Rattle.layout_types.specs.declared.err.LayoutErr.{LayoutErr}
use Rattle.layout_types.specs.Grammar.{whole}
use Rattle.server_rules.specs.declared.server.Server.{Server}
use Rattle.server_rules.specs.Making.{new_server}
use Rattle.server_entries.specs.Applying.{applied_all}
use Rattle.server_entries.specs.declared.record.Record.{Record}
use Rattle.server_entries.specs.Reading.{record_in}
use Rattle.server_journal.specs.declared.made.MadeObject.{MadeObject}
use Rattle.server_journal.specs.Made.{made_in}
use Rattle.server_notes.specs.Reading.{remark_in}
use Rattle.server_notes.specs.declared.remark.Remark.{Remark}

-- a server after the entries that bytes spelled, if they spelled some
abbrev pub after_reading : Server → Result Record LayoutErr → Option Server
after_reading s (Ok r) = applied_all s r.entries
after_reading s (Err e) = None

-- the server stays as it is where a record tells of notes
abbrev pub unless_remarked : Server → Option Remark → Result Record LayoutErr → Option Server
unless_remarked s (Some n) r = Some s
unless_remarked s None r = after_reading s r

-- and where one tells of an object that a drive has made
abbrev pub unless_made : Server → (made : Option MadeObject) → Option Remark → Result Record LayoutErr → Option Server
unless_made s (Some m) n r = Some s
unless_made s None n r = unless_remarked s n r

-- a server after a record; none if the bytes tell of no made object and of no note and spell no entries, or nothing can be made
-- of one of them
abbrev pub after_record : Server → List ℕ → Option Server
after_record s bytes = unless_made s (made_in bytes) (remark_in bytes) (whole record_in bytes)

abbrev pub after_record_of : Option Server → List ℕ → Option Server
after_record_of None bytes = None
after_record_of (Some s) bytes = after_record s bytes

-- a server after these records, the first of them first; none from one on that is no record
abbrev pub replayed : Option Server → List (List ℕ) → Option Server
replayed s [] = s
replayed s (bytes ∷ records) = replayed (after_record_of s bytes) records

-- these records lead to the server, from one without drives and files
abbrev pub LeadTo : List (List ℕ) → Server → Type 0
LeadTo records s = replayed (Some (new_server [])) records ≡ Some s
