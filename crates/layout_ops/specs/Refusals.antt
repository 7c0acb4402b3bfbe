-- The refusals of a message.
use Rattle.layout_types.specs.declared.err.LayoutErr.{LayoutErr}
use Rattle.layout_types.specs.declared.err.LayoutErr.TheVariants as layout
use Rattle.layout_ops.specs.declared.err.OpErr.{OpErr}
use Rattle.layout_ops.specs.declared.err.OpErr.TheVariants.{Layout, Memory}

-- a structure's refusal, as that of the message that it stands in
abbrev pub of_layout : LayoutErr → OpErr
of_layout layout.Memory = Memory
of_layout e = Layout e
