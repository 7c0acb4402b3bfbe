use Rattle.calm_law.proofs.Sighting.{guards_messages, sights_the_world}
use Rattle.calm_law.proofs.laws.sightings_are_the_worlds.Goals as goal

pub returns-clause-guards : goal.returns-clause-guards
returns-clause-guards c = guards_messages

pub returns-clause-sights : goal.returns-clause-sights
returns-clause-sights c = sights_the_world c.messages_are_read.ensures
