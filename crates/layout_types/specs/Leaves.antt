-- What `leaves` gives.
use Rattle.std.specs.Prelude.{◌≡◌, ℕ, List, [], ◌++◌, codes, Result, Ok}
use Rattle.xdr_codec.specs.Reading.{Rest, ◌>>=◌}
use Rattle.layout_types.specs.declared.err.LayoutErr.{LayoutErr}
use Rattle.layout_types.specs.declared.kind.Kind.{Kind}
use Rattle.layout_types.specs.declared.kind.Kind.TheVariants as kind
use Rattle.layout_types.specs.Grammar.{whole}
use Rattle.layout_types.specs.Spelling.{cred_item, CredFits, map_item, MapFits, layout_item, LayoutFits, deviceaddr_item, DeviceAddrFits, update_item, UpdateFits, ioerrs_item, IoErrsFits, hint_item, HintFits}
use Rattle.layout_types.specs.Reading.{cred_in, map_in, layout_in, deviceaddr_in, update_in, ioerrs_in, hint_in}
use Rattle.layout_types.specs.Lines.{cred_lines, map_lines, layout_lines, deviceaddr_lines, update_lines, ioerrs_lines, hint_lines}

-- the lines of a value, and a dot
abbrev pub text_of : {V : Type 0} → (List ℕ → V → List ℕ) → V → List ℕ
text_of lines v = lines [] v ++ codes ".\n"

-- the text of the value that bytes spell, or the refusal of reading it
abbrev pub text_read : {V : Type 0} → (Rest → Result (V × Rest) LayoutErr) → (List ℕ → V → List ℕ) → List ℕ →
    Result (List ℕ) LayoutErr
text_read part lines bytes = whole part bytes >>= λ v. Ok (text_of lines v)

abbrev pub leaves_of : Kind → List ℕ → Result (List ℕ) LayoutErr
leaves_of kind.Map bytes = text_read map_in map_lines bytes
leaves_of kind.Cred bytes = text_read cred_in cred_lines bytes
leaves_of kind.Layout bytes = text_read layout_in layout_lines bytes
leaves_of kind.DeviceAddr bytes = text_read deviceaddr_in deviceaddr_lines bytes
leaves_of kind.Update bytes = text_read update_in update_lines bytes
leaves_of kind.IoErrs bytes = text_read ioerrs_in ioerrs_lines bytes
leaves_of kind.Hint bytes = text_read hint_in hint_lines bytes

-- the text is that of a value that the bytes spell
abbrev pub ShowsAs : {V : Type 0} → (V → Type 0) → (V → List ℕ) → (List ℕ → V → List ℕ) → List ℕ → List ℕ → Type 0
ShowsAs Fits spelling lines bytes text = (v : _) × Fits v × (bytes ≡ spelling v) × (text ≡ text_of lines v)

abbrev pub Shows : Kind → List ℕ → List ℕ → Type 0
Shows kind.Map bytes text = ShowsAs MapFits map_item map_lines bytes text
Shows kind.Cred bytes text = ShowsAs CredFits cred_item cred_lines bytes text
Shows kind.Layout bytes text = ShowsAs LayoutFits layout_item layout_lines bytes text
Shows kind.DeviceAddr bytes text = ShowsAs DeviceAddrFits deviceaddr_item deviceaddr_lines bytes text
Shows kind.Update bytes text = ShowsAs UpdateFits update_item update_lines bytes text
Shows kind.IoErrs bytes text = ShowsAs IoErrsFits ioerrs_item ioerrs_lines bytes text
Shows kind.Hint bytes text = ShowsAs HintFits hint_item hint_lines bytes text
