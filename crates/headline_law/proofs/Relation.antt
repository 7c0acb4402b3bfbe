-- The relation between the machine of a file and the world goes on in each whole move, part by part, by the laws of histories.
use Rattle.relation_law.specs.Steps.{ComponentsGoOn, SentGoesOn}
use Rattle.relation_law.specs.TargetWrites.{ZerosAreSpent}
use Rattle.relation_law.specs.ComponentsFollow.{EachRebuiltStands, EachWriteHasItsPlace}
use Rattle.relation_law.proofs.ComponentsMoved.{of_move}
use Rattle.headline_law.specs.ClientTold.{ToldFollows}
use Rattle.headline_law.specs.Histories.{HistoriesAreLawful, MachineIsLawful}
use Rattle.headline_law.specs.Parts.{OweFollows, DoneFollows, ReadsFollow, RowsFollow, TargetsFollow}
use Rattle.headline_law.specs.Returned.{ReturnsAreLow}
use Rattle.headline_law.specs.TargetLaws.{EachTargetIsWellAsked, EachTargetIsWellMade}
use Rattle.headline_law.proofs.Asked.{asks_are_placed}
use Rattle.headline_law.proofs.ClientTold.{told_follows}
use Rattle.headline_law.proofs.DriveLawful.{DriveLaws}
use Rattle.headline_law.proofs.FoundJoined.{JoinedLaws, awaits_are_there, writes_are_found}
use Rattle.headline_law.proofs.Histories as known
use Rattle.headline_law.proofs.Joining.{RelationParts}
use Rattle.headline_law.proofs.OweFollows.{done_follows, owe_follows}
use Rattle.headline_law.proofs.OweLaws.{OweLaws}
use Rattle.headline_law.proofs.PlacesWrites.{each_write_has_its_place}
use Rattle.headline_law.proofs.ReadsFollow.{reads_follow}
use Rattle.headline_law.proofs.Returned.{returns_are_low}
use Rattle.headline_law.proofs.RowsGo.{rows_follow_by_laws}
use Rattle.headline_law.proofs.SentGoOn.{sent_goes_on}
use Rattle.headline_law.proofs.TargetAsked.{each_target_is_well_asked}
use Rattle.headline_law.proofs.TargetBefore.{TargetLaws}
use Rattle.headline_law.proofs.TargetFollows.{targets_follow}
use Rattle.headline_law.proofs.TargetInsideMoments.{each_target_is_inside}
use Rattle.headline_law.proofs.TargetKept.{each_fill_stands}
use Rattle.headline_law.proofs.TargetLanes.{no_lanes}
use Rattle.headline_law.proofs.TargetMade.{each_target_is_well_made}
use Rattle.headline_law.proofs.TargetNotedSteps.{rebuilt_were_targets}
use Rattle.headline_law.proofs.TargetRebuilt.{each_rebuilt_stands}
use Rattle.headline_law.proofs.TargetStands.{RebuiltLaws}
use Rattle.headline_law.proofs.TargetSteps.{targets_go}
use Rattle.headline_law.proofs.TargetStore.{target_objects_stay}
use Rattle.headline_law.proofs.TargetZeros.{zeros_are_spent}

-- ---- targets of rebuilds

module _ (l : HistoriesAreLawful) where
  pub places : EachWriteHasItsPlace
  places = each_write_has_its_place (known.places l)

  pub asked : EachTargetIsWellAsked
  asked = each_target_is_well_asked (known.owned l) l.grants_are_safe

  pub well : EachTargetIsWellMade
  well =
      each_target_is_well_made (known.moved l) (each_target_is_inside l.one_event_more)
      (each_fill_stands (record { moved = known.moved l; places = places; asked = asked }))
      (no_lanes (known.moved l) l.lanes_are_own)

  target : TargetLaws
  target = record { join = known.joined l; safe = l.grants_are_safe; asked = asked }

  pub zeros : ZerosAreSpent
  zeros = zeros_are_spent target

  pub rebuilt_laws : RebuiltLaws
  rebuilt_laws = record { target = target; well = well; moved = known.moved l; were = rebuilt_were_targets }

  pub rebuilt : EachRebuiltStands
  rebuilt = each_rebuilt_stands rebuilt_laws

  pub targets : TargetsFollow
  targets = targets_follow (record {
    target = target;
    well = well;
    moved = known.moved l;
    goes = targets_go;
    objects = target_objects_stay (record { target = target; moved = known.moved l; well = well; places = places });
  })

  -- ---- what a repair owes and has done

  owe_laws : OweLaws
  owe_laws = record {
    join = known.joined l;
    tells = l.each_step_tells_tags;
    moves = λ w h m f g s k. of_move (known.moved l) w h m f g s k places rebuilt;
  }

  pub owe : OweFollows
  owe = owe_follows owe_laws

  pub done : DoneFollows
  done = done_follows owe_laws

  pub rows : RowsFollow
  rows = rows_follow_by_laws (known.rows l) (known.places l)

  -- ---- what clients await

  joined : JoinedLaws
  joined = record {
    moved = known.moved l;
    settled = record {
      run = l.server_sent_its_run;
      given = l.each_tag_was_sent;
      ahead = l.no_command_is_ahead;
      files = l.all_files_fit;
      counted = l.server_is_counted;
      holder = l.holder_is_server;
      stands_on = l.each_step_stands;
      first = l.creates_are_first;
      more = l.one_event_more;
      room = l.counters_stay_low;
    };
    offline = l.offline_have_failed;
  }

  pub reads : ReadsFollow
  reads = reads_follow (known.sent l) (awaits_are_there joined) asks_are_placed

  pub drives : DriveLaws
  drives = record {
    made = known.made l;
    known = known.known l;
    readable = l.files_and_answers_are_readable;
    room = l.counters_stay_low;
    fresh = l.grants_are_fresh;
    senders = known.senders l;
    places = places;
  }

  pub told : ToldFollows
  told = told_follows drives (writes_are_found joined)

  pub low : ReturnsAreLow
  low = returns_are_low (record {
    known = known.known l;
    own = l.answers_are_own;
    readable = l.files_and_answers_are_readable;
  })

  -- ---- all parts

  module _ (machine : MachineIsLawful) where
    components : ComponentsGoOn
    components = machine.components_go_on places rebuilt

    sent : SentGoesOn
    sent = sent_goes_on (known.sent l) places rebuilt components machine.kept_goes_on.kept

    pub relation : RelationParts
    relation = record {
      components = components;
      kept = machine.kept_goes_on;
      requests = machine.requests_go_on components;
      calls = machine.calls_go_on;
      sent = sent;
      owned = machine.owned_follows components zeros;
      quiet = machine.quiet_follows components sent machine.kept_goes_on.kept;
      owe = owe;
      rows = rows;
      done = done;
      targets = targets;
      reads = reads;
      told = told;
    }
