use Rattle.std.proofs.Common.{arith, ◌≡◌, ◌<◌, ◌∷◌, [], List, ap, sym, refl, length}
use Rattle.zone_place.specs.declared.loads.ZoneLoad.{ZoneLoad}
use Rattle.zone_place.specs.Zones.{zone_most, within, room}
use Rattle.zone_place.specs.Choosing.{online_placed}
use Rattle.zone_place.proofs.Steps.{room_taken, room_full, room_offline, no_load, no_room}
use Rattle.zone_place.proofs.room.zone_room.Goals.{else-load-via-then-load+else-online_in-zone_most, else-load-via-else-load}
use Rattle.zone_place.proofs.room.zone_room.Goals as goal

pub loop-load-preserved-then-online_in-zone_most : goal.loop-load-preserved-then-online_in-zone_most
loop-load-preserved-then-online_in-zone_most c =
    let first : c.loop-load.rest.now ≡ c.in-Some.load.now ∷ c.in-Some.following.now = c.in-Some.ensures.cases.0 in
    let some : length (within c.in-Some.load.now.zone (online_placed c.in-Some.following.now)) < zone_most c.args.ask.now =
    rw (sym c.online_in.ensures, sym c.from.ensures, sym c.from-2.ensures) c.if-online_in-zone_most.true in
    let more = room_taken c.args.ask.now c.in-Some.load.now c.in-Some.following.now c.if-load.true some in (
      omega (arith, rw first at c.loop-load.invariant.0, more),
      omega (arith, ap (λ (l : List ZoneLoad). length l) first, c.loop-load.invariant.1),
    )

pub loop-load-preserved : goal.loop-load-preserved
loop-load-preserved c =
    let first : c.loop-load.rest.now ≡ c.in-Some.load.now ∷ c.in-Some.following.now = c.in-Some.ensures.cases.0 in
    let same : room c.args.ask.now (online_placed (c.in-Some.load.now ∷ c.in-Some.following.now)) ≡ room c.args.ask.now
    (online_placed c.in-Some.following.now) =
    elim c.else-load.branch [
      | else-load-via-then-load+else-online_in-zone_most w ↦
          room_full c.args.ask.now c.in-Some.load.now c.in-Some.following.now w.if-load.true
          (rw (sym w.online_in.ensures, sym c.from.ensures, sym c.from-2.ensures) w.if-online_in-zone_most.false)
      | else-load-via-else-load w ↦ room_offline c.args.ask.now c.in-Some.load.now c.in-Some.following.now w.if-load.false
    ] in (
      omega (arith, rw first at c.loop-load.invariant.0, same),
      omega (arith, ap (λ (l : List ZoneLoad). length l) first, c.loop-load.invariant.1),
    )

pub returns : goal.returns
returns c =
    let none : c.loop-load.rest.now ≡ [] = no_load c.loop-load.rest.now c.in_default.ensures.cases in
    let all : c.loop-load.room ≡ room c.args.ask.now (online_placed c.args.loads.now) =
    omega (arith, rw none at c.loop-load.invariant.0, no_room c.args.ask.now) in
    rw (c.from-3.ensures, c.from-4.ensures, all) refl
