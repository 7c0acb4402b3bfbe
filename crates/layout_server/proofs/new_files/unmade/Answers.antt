use Rattle.std.specs.Prelude.{refl}
use Rattle.layout_server.proofs.CreateLaws.{sound_new}
use Rattle.layout_server.proofs.new_files.unmade.Goals as goal

pub returns-clause-sound : goal.returns-clause-sound
returns-clause-sound c =
    sound_new _ c.args.drives.now c.args.state.now.next_object c.in_ok-components.ensures c.requires.many c.requires.few refl
    c.new.ensures c.new-2.ensures
