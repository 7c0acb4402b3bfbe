-- What the words of a line say, and how they are spelled.
use Rattle.std.specs.Prelude.{◌≡◌, ℕ, ◌+◌, ◌-◌, ◌^◌, ◌<◌, ◌≤◌, ⊤, List, [], ◌∷◌, length, map, codes}
use Rattle.std.specs.Fmt.{decimal}
use Rattle.std.specs.List.{join_with_byte}
use Rattle.scenario_text.specs.Words.{behind}
use Rattle.hex.specs.Hex.{IsBytes, encode_lower}

-- What a word says: a fixed word, a number from `least` to `most`, the name of one of `count` things, a key of twenty
-- bytes, bytes, or positions of a stripe.
pub data Part : Type 0 where
  Fixed : (word : List ℕ) → Part
  Number : (least most n : ℕ) → Part
  Name : (letter count n : ℕ) → Part
  Key : (key : List ℕ) → Part
  Hex : (bytes : List ℕ) → Part
  Positions : (positions : List ℕ) → Part

abbrev pub u32 : ℕ → Part
u32 n = Number 0 4294967295 n

abbrev pub u64 : ℕ → Part
u64 n = Number 0 (2 ^ 64 - 1) n

abbrev pub drive : ℕ → Part
drive d = Name 100 64 d

abbrev pub client : ℕ → Part
client c = Name 99 16 c

abbrev pub file : ℕ → Part
file f = Name 102 64 f

-- a fixed word, and the one that names the server
abbrev pub server : Part
server = Fixed (codes "s")

-- the bytes in lower-case digits, or `-` for none
abbrev pub hex_word : List ℕ → List ℕ
hex_word [] = codes "-"
hex_word (b ∷ bytes) = encode_lower (b ∷ bytes)

-- positions, separated by commas
abbrev pub positions_word : List ℕ → List ℕ
positions_word ps = join_with_byte 44 (map decimal ps)

-- the word of a part, with lower-case digits
abbrev pub word_of : Part → List ℕ
word_of (Fixed word) = word
word_of (Number least most n) = decimal n
word_of (Name letter count n) = letter ∷ decimal n
word_of (Key key) = encode_lower key
word_of (Hex bytes) = hex_word bytes
word_of (Positions ps) = positions_word ps

-- the words of parts, each behind a space
abbrev pub spelled : List Part → List ℕ
spelled parts = behind 32 (map word_of parts)

-- numbers of 32 bits that rise, from one on
abbrev pub Rising : ℕ → List ℕ → Type 0
Rising least [] = ⊤
Rising least (p ∷ ps) = (least ≤ p) × (p < 2 ^ 32) × Rising (p + 1) ps

abbrev pub PositionsFit : List ℕ → Type 0
PositionsFit [] = ⊥
PositionsFit (p ∷ ps) = Rising 0 (p ∷ ps)

-- a word can say it
abbrev pub PartFits : Part → Type 0
PartFits (Fixed word) = ⊤
PartFits (Number least most n) = (least ≤ n) × (n ≤ most)
PartFits (Name letter count n) = n < count
PartFits (Key key) = (length key ≡ 20) × IsBytes key
PartFits (Hex bytes) = IsBytes bytes
PartFits (Positions ps) = PositionsFit ps

abbrev pub AllFit : List Part → Type 0
AllFit [] = ⊤
AllFit (part ∷ parts) = PartFits part × AllFit parts
