use Rattle.osd_replay.proofs.Making.{made_none}
use Rattle.osd_replay.proofs.generate.carried_out.Goals as goal

pub come_to-carried-requires-clause-begins : goal.come_to-carried-requires-clause-begins
come_to-carried-requires-clause-begins g c =
    made_none (record { world = c.in_ok-new.field-0; digest = c.new-2.result }) c.in_ok-new.ensures.shows
    c.in_ok-new.ensures.watches c.new-2.ensures
