-- The refusals of a structure.
use Rattle.xdr_codec.specs.declared.err.XdrErr.{XdrErr}
use Rattle.xdr_codec.specs.declared.err.XdrErr.TheVariants as item
use Rattle.layout_types.specs.declared.err.LayoutErr.{LayoutErr}
use Rattle.layout_types.specs.declared.err.LayoutErr.TheVariants.{Xdr, Memory}

-- an item's refusal, as that of the structure that it stands in
abbrev pub of_item : XdrErr → LayoutErr
of_item item.Memory = Memory
of_item e = Xdr e
