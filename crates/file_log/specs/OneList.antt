-- A log in which every write was acknowledged is that of one plain list of bytes.
use Rattle.std.specs.Prelude.{◌≡◌, ℕ, true, List, [], ◌∷◌}
use Rattle.osd_lists.specs.Overwrite.{overwritten}
use Rattle.file_log.specs.declared.entry.Entry.{Entry}
use Rattle.file_log.specs.declared.entry.Entry.TheVariants.{Write, Read}
use Rattle.file_log.specs.Judge.{Candidates, Finds, IsSettled, IsRange, AcceptsFrom, candidates_from}

-- the bytes that writes in order leave of a list of bytes
abbrev pub written : List ℕ → List Entry → List ℕ
written old [] = old
written old (Write offset bytes acknowledged ∷ es) = written (overwritten old offset bytes) es
written old (Read offset len answer ∷ es) = written old es

abbrev pub AllAcknowledged : List Entry → Type 0
AllAcknowledged [] = Unit {0}
AllAcknowledged (Write offset bytes acknowledged ∷ es) = (acknowledged ≡ true) × AllAcknowledged es
AllAcknowledged (Read offset len answer ∷ es) = AllAcknowledged es

-- an accepted log of acknowledged writes leaves what the writes leave of the list that stood before
abbrev pub IsPlain : Type 0
IsPlain = (c : Candidates) (old : List ℕ) (log : List Entry) → IsSettled c old → AllAcknowledged log →
    AcceptsFrom c log → IsSettled (candidates_from c log) (written old log)

-- an answer that finds what it needs where one list of bytes is settled is a range of that list
abbrev pub IsRangeFound : Type 0
IsRangeFound = (c : Candidates) (bytes : List ℕ) (offset len : ℕ) (answer : List ℕ) → IsSettled c bytes →
    Finds c offset len answer → IsRange bytes offset len answer
