use Rattle.osd_disk.specs.Medium.{fresh}
use Rattle.osd_disk.proofs.past.Past.of_these.Given as goal

abbrev pub ghost-from_bytes : goal.ghost-from_bytes
ghost-from_bytes a = fresh a._bytes.now
