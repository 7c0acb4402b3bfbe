use Rattle.std.proofs.Common.{sym, ◌∙◌}
use Rattle.std.proofs.lemmas.List.Sums.{length-filter}
use Rattle.server_rules.specs.declared.server.Drive.{Drive}
use Rattle.layout_server.proofs.DriveLaws.{few_drives}
use Rattle.layout_server.proofs.ZoneLaws.{counted_in_zones}
use Rattle.layout_server.proofs.new_files.count_usable.Goals as goal

pub count_by_zone-requires : goal.count_by_zone-requires
count_by_zone-requires c = few_drives c.args.drives.now c.requires

pub returns-then-zoned : goal.returns-then-zoned
returns-then-zoned c = rw c.if-zoned.true (c.count_by_zone.ensures ∙ counted_in_zones c.args.drives.now)

pub count_by_online-requires : goal.count_by_online-requires
count_by_online-requires c = few_drives c.args.drives.now c.requires

pub returns : goal.returns
returns c = rw c.if-zoned.false (c.count_by_online.ensures ∙ sym (length-filter (λ (d : Drive). d.online) c.args.drives.now))
