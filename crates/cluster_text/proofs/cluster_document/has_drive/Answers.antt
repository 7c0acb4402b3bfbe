use Rattle.std.proofs.Common.{◌∙◌, nat_eq, rules, tests}
use Rattle.std.proofs.lemmas.Iterator.{YieldsList-from_slice}
use Rattle.std.proofs.lemmas.Iterator.Search.{any_from_yields_List}
use Rattle.cluster_text.specs.declared.cluster.ClusterDrive.{ClusterDrive}
use Rattle.cluster_text.proofs.Lists.{any_map}
use Rattle.cluster_text.proofs.cluster_document.has_drive.Goals as goal

pub returns : goal.returns
returns c =
    any_from_yields_List (λ (x : ClusterDrive). nat_eq x.number c.args.number) _ _ _ c.any.ensures.ran
    (YieldsList-from_slice c.args.drives.now cc) (λ x b q k. search (rules, tests))
    ∙ any_map (λ n. nat_eq n c.args.number) (λ (x : ClusterDrive). x.number) c.args.drives.now
