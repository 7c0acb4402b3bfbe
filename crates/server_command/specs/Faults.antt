-- Why the making of files stops at a command to a drive, and the note that tells it.
use Rattle.std.specs.Prelude.{◌≡◌, ℕ, Bool, true, false, List, [], ◌∷◌, ◌++◌, codes, Option, Some, None}
use Rattle.std.specs.Fmt.{decimal}
use Rattle.osd_bytes.specs.Connections.{Traffic, after_notes}
use Rattle.reply_matching.specs.Creations.{creation_told}
use Rattle.reply_matching.specs.declared.making.Creation.{Creation}
use Rattle.reply_matching.specs.declared.making.Creation.TheVariants.{Held, Refused}

-- ---- the notes

abbrev pub silent_line : (drive : ℕ) → List ℕ
silent_line drive = codes "d" ++ (decimal drive ++ codes " gave no answer while the files were made")

abbrev pub held_line : (drive object : ℕ) → List ℕ
held_line drive object =
    codes "d" ++ (decimal drive ++ (codes " holds object " ++ (decimal object
    ++ codes " already: is this the right journal, and are these the right drives? (docs/use/OPERATIONS.md)")))

abbrev pub refused_line : (drive object : ℕ) → List ℕ
refused_line drive object =
    codes "d" ++ (decimal drive ++ (codes " doesn't make object " ++ (decimal object ++ codes ": its own notes say why")))

-- by which note the making stops at what a drive says of an object
abbrev pub creation_fault : (drive : ℕ) → Option Creation → Option (List ℕ)
creation_fault drive (Some (Held object)) = Some (held_line drive object)
creation_fault drive (Some (Refused object)) = Some (refused_line drive object)
creation_fault drive said = None

-- that note is told where there is one, and nothing where there is none
abbrev pub IsTold : (drive : ℕ) → Option Creation → (stops : Bool) → (told now : Option Traffic) → Type 0
IsTold drive said true told now =
    (line : List ℕ) × (creation_fault drive said ≡ Some line) × (now ≡ after_notes (line ∷ []) told)
IsTold drive said false told now = (creation_fault drive said ≡ None) × (now ≡ told)

-- by which note the making stops at this command, `None` where it goes on
abbrev pub fault_line : (drive : ℕ) → (message : List ℕ) → (came : Option (List ℕ)) → Option (List ℕ)
fault_line drive message None = Some (silent_line drive)
fault_line drive message (Some reply) = creation_fault drive (creation_told message reply)
