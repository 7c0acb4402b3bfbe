-- The words that are written.
use Rattle.std.specs.Prelude.{ℕ, List, ◌∷◌}
use Rattle.std.specs.Fmt.{decimal}
use Rattle.hex.specs.Hex.{encode_lower}
use Rattle.scenario_text.specs.Parts.{hex_word, positions_word}
use Rattle.scenario_text.specs.declared.write.Word.{Word}
use Rattle.scenario_text.specs.declared.write.Word.TheVariants.{Fixed, Number, Named, Key, Hex, Positions}

abbrev pub written : Word → List ℕ
written (Fixed text) = text.now
written (Number n) = decimal n
written (Named letter n) = letter ∷ decimal n
written (Key key) = encode_lower key.now
written (Hex bytes) = hex_word bytes.now
written (Positions ps) = positions_word ps.now
