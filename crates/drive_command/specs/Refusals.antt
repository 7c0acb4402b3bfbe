-- What a drive tells whoever watches it of the commands that it refuses: at most one line a second.
use Rattle.std.specs.Prelude.{ℕ, Bool, true, not, List, [], ◌∷◌, ◌++◌, codes, Option, Some, None, ◌==◌, ◌&&◌, nat_lt, if◌then◌else◌}
use Rattle.std.specs.Fmt.{decimal}
use Rattle.osd_commands.specs.declared.replies.Reply.{Reply}

-- the word of a verdict, by its number in a reply
unfoldable pub verdict_word : (number : ℕ) → List ℕ
verdict_word number =
    if number == 1 then codes "nokey"
    else if number == 2 then codes "checkvalue"
    else if number == 3 then codes "expired"
    else if number == 4 then codes "rights"
    else if number == 5 then codes "wrongobject"
    else if number == 6 then codes "range"
    else if number == 7 then codes "noobject"
    else if number == 8 then codes "exists"
    else if number == 9 then codes "tag"
    else if number == 10 then codes "limit"
    else if number == 11 then codes "nospace"
    else if number == 12 then codes "lanefull"
    else if number == 13 then codes "stale"
    else if number == 14 then codes "attrfull"
    else if number == 15 then codes "again"
    else if number == 16 then codes "format"
    else if number == 17 then codes "oldformat"
    else codes "perform"

-- the line of a refusal
abbrev pub refusal_line : (drive : ℕ) → Reply → List ℕ
refusal_line drive r =
    codes "drive " ++ (decimal drive ++ (codes " refused: " ++ (verdict_word r.verdict
    ++ (codes " (detail " ++ (decimal r.detail ++ (codes ", object " ++ (decimal r.object
    ++ (codes ", nonce " ++ (decimal r.nonce ++ (41 ∷ []))))))))))

-- a time is in a later second than the newest line, where there is one
abbrev pub is_later : (last : Option ℕ) → (time : ℕ) → Bool
is_later None time = true
is_later (Some last) time = nat_lt last time

-- a command was refused, neither performed nor performed before, and may be told
abbrev pub is_told : (last : Option ℕ) → (time : ℕ) → Reply → Bool
is_told last time r = not (r.verdict == 0) && is_later last time

-- the lines that are told of a reply, one at most
abbrev pub lines_told : (drive : ℕ) → (last : Option ℕ) → (time : ℕ) → Reply → List (List ℕ)
lines_told drive last time r = if is_told last time r then refusal_line drive r ∷ [] else []

-- the second of the newest line then
abbrev pub last_told : (last : Option ℕ) → (time : ℕ) → Reply → Option ℕ
last_told last time r = if is_told last time r then Some time else last
