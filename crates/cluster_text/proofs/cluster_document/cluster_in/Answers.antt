use Rattle.std.proofs.Common.{◌∙◌, arith, sym}
use Rattle.toml.specs.View.{table_view}
use Rattle.cluster_text.proofs.Judging.{bad_drives, bad_files, whole}
use Rattle.cluster_text.proofs.cluster_document.cluster_in.Goals as goal

pub returns-in_default-2 : goal.returns-in_default-2
returns-in_default-2 c =
    bad_drives (λ t. table_view t.now) (table_view c.args.top.now) c.args.drives.now c.args.files.now _ _
    (omega (arith, c.if-count-eq0.false)) (omega (arith, c.if-count-gt-MAX_DRIVES.false))
    (omega (arith, c.if-files-gt-MAX_FILES.false))
    c.in-Some.ensures c.in-Some-format_in.ensures (sym c.in_default-2.is ∙ c.in_ok-drives.ensures)

pub returns-in_default-3 : goal.returns-in_default-3
returns-in_default-3 c =
    bad_files (λ t. table_view t.now) (table_view c.args.top.now) c.args.drives.now c.args.files.now _ _ _
    (omega (arith, c.if-count-eq0.false)) (omega (arith, c.if-count-gt-MAX_DRIVES.false))
    (omega (arith, c.if-files-gt-MAX_FILES.false))
    c.in-Some.ensures c.in-Some-format_in.ensures (sym c.in-Some-2.is ∙ c.in_ok-drives.ensures)
    (sym c.in_default-3.is ∙ c.in_ok-files.ensures)

pub returns : goal.returns
returns c =
    whole (λ t. table_view t.now) (table_view c.args.top.now) c.args.drives.now c.args.files.now _ _ _ _ _
    (omega (arith, c.if-count-eq0.false)) (omega (arith, c.if-count-gt-MAX_DRIVES.false))
    (omega (arith, c.if-files-gt-MAX_FILES.false))
    c.in-Some.ensures c.in-Some-format_in.ensures (sym c.in-Some-2.is ∙ c.in_ok-drives.ensures)
    (sym c.in-Some-3.is ∙ c.in_ok-files.ensures) c.in_ok-server.ensures
