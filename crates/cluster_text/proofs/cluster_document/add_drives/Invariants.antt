use Rattle.std.proofs.Common.{◌≡◌, ◌++◌, drop, option_map}
use Rattle.toml.specs.View.{table_view}
use Rattle.cluster_text.specs.Fields.{drive_in}
use Rattle.cluster_text.specs.Document.{all_in}
use Rattle.cluster_text.proofs.cluster_document.add_drives.Given as goal

abbrev pub invariant-loop-table : goal.invariant-loop-table
invariant-loop-table l =
    option_map (λ more. l.initial.drives ++ more) (all_in (λ t. drive_in (table_view t.now)) l.fn.tables)
    ≡ option_map (λ more. l.drives ++ more) (all_in (λ t. drive_in (table_view t.now)) (drop l.table-index l.fn.tables))
