-- At each moment of a calm history each object that a client or the server named, or that a drive has, has a number that the
-- server used.
use Rattle.component_law.specs.Sent.{IsSentByRun}
use Rattle.component_law.proofs.NamedLines.{are_named}
use Rattle.exchange_law.proofs.Knowing.{lawful_at}
use Rattle.relation_law.proofs.ComponentsMoved.{MovedLaws}
use Rattle.headline_law.specs.Used.{EachObjectIsUsed}
use Rattle.headline_law.proofs.SentUntouched.{are_unaimed, is_backed}
use Rattle.headline_law.proofs.UsedDrives.{commanded_used, stored_used}

pub each_object_is_used : MovedLaws → EachObjectIsUsed
each_object_is_used laws w h k calm =
    let run : IsSentByRun w = laws.made.run w h k (are_named h calm.scenario.written) in
    record {
      sent = λ c d x has.
          (are_unaimed laws w h k calm.scenario c d x has (is_backed laws w h k calm.scenario c d x has)).given;
      commanded = commanded_used laws.made.ahead w run;
      stored = stored_used laws.made.ahead laws.made.given laws.made.counted w h k calm.scenario
          (laws.unforged h (lawful_at w h k) calm.is_unguessed) run;
    }
