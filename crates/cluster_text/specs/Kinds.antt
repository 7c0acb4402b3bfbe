-- The words of the kinds of fault.
use Rattle.std.specs.Prelude.{ℕ, List, codes}
use Rattle.cluster_text.specs.declared.errors.ClusterKind.{ClusterKind}
use Rattle.cluster_text.specs.declared.errors.ClusterKind.TheVariants.{Toml, Unknown, Missing, WrongType, Range, Repeated}

abbrev pub word_of : ClusterKind → List ℕ
word_of Toml = codes "toml"
word_of Unknown = codes "unknown"
word_of Missing = codes "missing"
word_of WrongType = codes "type"
word_of Range = codes "range"
word_of Repeated = codes "repeated"
