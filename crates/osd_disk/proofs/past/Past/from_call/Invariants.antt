use Rattle.osd_disk.proofs.past.Past.from_call.Given as goal

abbrev pub ghost-from_nothing : goal.ghost-from_nothing
ghost-from_nothing g a = g.told
