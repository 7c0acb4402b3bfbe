-- What the words of a line spell.
use Rattle.std.specs.Prelude.{◌≡◌, ℕ, ⊤, List, [], ◌∷◌, codes, Ok}
use Rattle.hex.specs.Hex.{decode_of, decode_sized, encode_lower}
use Rattle.scenario_text.specs.declared.hexadecimal.Digits.{Digits}
use Rattle.scenario_text.specs.declared.hexadecimal.Digits.TheVariants.{Either, Lower}
use Rattle.scenario_text.specs.Parts.{Part, Key, Hex, word_of, hex_word}

-- twenty pairs of digits
abbrev pub SpellsKey : Digits → List ℕ → List ℕ → Type 0
SpellsKey Either key word = decode_sized word 20 ≡ Ok key
SpellsKey Lower key word = word ≡ encode_lower key

-- pairs of digits, or `-` for no bytes
abbrev pub SpellsBytes : Digits → List ℕ → List ℕ → Type 0
SpellsBytes Either [] word = word ≡ codes "-"
SpellsBytes Either (b ∷ bytes) word = decode_of word ≡ Ok (b ∷ bytes)
SpellsBytes Lower bytes word = word ≡ hex_word bytes

-- a word says this, in digits of either case or of the lower one
abbrev pub SpellsPart : Part → Digits → List ℕ → Type 0
SpellsPart (Key key) digits word = SpellsKey digits key word
SpellsPart (Hex bytes) digits word = SpellsBytes digits bytes word
SpellsPart part digits word = word ≡ word_of part

-- the words say these parts, one each
abbrev pub SpellAll : Digits → List Part → List (List ℕ) → Type 0
SpellAll digits [] [] = ⊤
SpellAll digits [] (word ∷ words) = ⊥
SpellAll digits (part ∷ parts) [] = ⊥
SpellAll digits (part ∷ parts) (word ∷ words) = SpellsPart part digits word × SpellAll digits parts words
