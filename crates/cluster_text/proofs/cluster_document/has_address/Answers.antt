use Rattle.std.proofs.Common.{◌∙◌, nat_eq, rules, tests}
use Rattle.std.specs.Cmp.Lexicographic.{pointwise}
use Rattle.std.proofs.lemmas.Iterator.{YieldsList-from_slice}
use Rattle.std.proofs.lemmas.Iterator.Search.{any_from_yields_List}
use Rattle.cluster_text.specs.declared.cluster.ClusterDrive.{ClusterDrive}
use Rattle.cluster_text.proofs.Lists.{any_map}
use Rattle.cluster_text.proofs.cluster_document.has_address.Goals as goal

pub returns : goal.returns
returns c =
    any_from_yields_List (λ (x : ClusterDrive). pointwise nat_eq x.address c.args.address.now) _ _ _ c.any.ensures.ran
    (YieldsList-from_slice c.args.drives.now cc) (λ x b q k. search (rules, tests))
    ∙ any_map (λ b. pointwise nat_eq b c.args.address.now) (λ (x : ClusterDrive). x.address) c.args.drives.now
