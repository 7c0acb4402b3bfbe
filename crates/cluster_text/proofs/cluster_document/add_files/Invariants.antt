use Rattle.std.proofs.Common.{◌≡◌, ◌++◌, drop, option_map}
use Rattle.toml.specs.View.{table_view}
use Rattle.cluster_text.specs.Fields.{file_in}
use Rattle.cluster_text.specs.Document.{all_in}
use Rattle.cluster_text.proofs.cluster_document.add_files.Given as goal

abbrev pub invariant-loop-table : goal.invariant-loop-table
invariant-loop-table l =
    option_map (λ more. l.initial.files ++ more) (all_in (λ t. file_in l.fn.drives (table_view t.now)) l.fn.tables)
    ≡ option_map (λ more. l.files ++ more) (all_in (λ t. file_in l.fn.drives (table_view t.now)) (drop l.table-index l.fn.tables))
