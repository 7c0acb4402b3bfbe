-- What `written_again` gives.
use Rattle.std.specs.Prelude.{ℕ, List, Result, Ok}
use Rattle.xdr_codec.specs.Reading.{Rest, ◌>>=◌}
use Rattle.layout_types.specs.declared.err.LayoutErr.{LayoutErr}
use Rattle.layout_types.specs.declared.kind.Kind.{Kind}
use Rattle.layout_types.specs.declared.kind.Kind.TheVariants as kind
use Rattle.layout_types.specs.Grammar.{whole}
use Rattle.layout_types.specs.Spelling.{cred_item, map_item, layout_item, deviceaddr_item, update_item, ioerrs_item, hint_item}
use Rattle.layout_types.specs.Reading.{cred_in, map_in, layout_in, deviceaddr_in, update_in, ioerrs_in, hint_in}

-- the spelling of the value that bytes spell, or the refusal of reading it
abbrev pub spelled_again : {V : Type 0} → (Rest → Result (V × Rest) LayoutErr) → (V → List ℕ) → List ℕ →
    Result (List ℕ) LayoutErr
spelled_again part spelling bytes = whole part bytes >>= λ v. Ok (spelling v)

abbrev pub written_of : Kind → List ℕ → Result (List ℕ) LayoutErr
written_of kind.Map bytes = spelled_again map_in map_item bytes
written_of kind.Cred bytes = spelled_again cred_in cred_item bytes
written_of kind.Layout bytes = spelled_again layout_in layout_item bytes
written_of kind.DeviceAddr bytes = spelled_again deviceaddr_in deviceaddr_item bytes
written_of kind.Update bytes = spelled_again update_in update_item bytes
written_of kind.IoErrs bytes = spelled_again ioerrs_in ioerrs_item bytes
written_of kind.Hint bytes = spelled_again hint_in hint_item bytes
