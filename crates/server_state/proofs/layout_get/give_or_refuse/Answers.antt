use Rattle.server_state.proofs.SoundLaws.{sound_given}
use Rattle.server_state.proofs.layout_get.give_or_refuse.Goals as goal

pub returns-in_ok-give-in-Gives-clause-sound : goal.returns-in_ok-give-in-Gives-clause-sound
returns-in_ok-give-in-Gives-clause-sound c =
    sound_given c.args.file.now c.args.grant c.give.new.kept c.requires.low.rises c.requires.low.end c.requires.idle
    c.requires.sound c.in_ok-give-in-Gives.ensures
