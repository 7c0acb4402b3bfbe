use Rattle.std.proofs.Common.{◌≡◌, ◌∙◌, ◌+◌, ap, sym, drop}
use Rattle.zone_place.specs.Dealing.{zone_from}
use Rattle.zone_place.specs.Choosing.{online_placed}
use Rattle.zone_place.proofs.Lines.{lowest_of, lowest_more, lowest_none}
use Rattle.zone_place.proofs.Steps.{load_at, zone_counts, zone_low, zone_offline, past_end}
use Rattle.zone_place.proofs.dealing.next_zone.Goals.{then-load+then-lowest-from, else-load, else-load-via-then-load+else-lowest-from, else-load-via-else-load}
use Rattle.zone_place.proofs.dealing.next_zone.Goals as goal

pub loop-load-preserved : goal.loop-load-preserved
loop-load-preserved c =
    let ls = c.args.loads.now in
    let i = c.loop-load.load-index in
    let rest = zone_from c.args.lowest (online_placed (drop (i + 1) ls)) in
    elim c.if-load.branch [
      | then-load+then-lowest-from w ↦
          let counts =
          zone_counts c.args.lowest ls i c.loop-load-test.true w.if-load.true (rw w.from.ensures at w.if-lowest-from.true) in
          ap (λ f. lowest_of f rest) (w.found-is ∙ w.lower_of-found.ensures)
          ∙ lowest_more c.loop-load.found (load_at ls i).zone rest
          ∙ ap (λ o. lowest_of c.loop-load.found o) (sym counts) ∙ c.loop-load.invariant
      | else-load w ↦
          let same : zone_from c.args.lowest (online_placed (drop i ls)) ≡ rest = elim w.else-load.branch [
            | else-load-via-then-load+else-lowest-from v ↦ zone_low c.args.lowest ls i c.loop-load-test.true v.if-load.true
                (rw v.from.ensures at v.if-lowest-from.false)
            | else-load-via-else-load v ↦ zone_offline c.args.lowest ls i c.loop-load-test.true v.if-load.false
          ] in
          ap (λ f. lowest_of f rest) w.found-is ∙ ap (λ o. lowest_of c.loop-load.found o) (sym same) ∙ c.loop-load.invariant
    ]

pub returns : goal.returns
unfolding zone_from
returns c =
    sym (lowest_none c.loop-load.found)
    ∙ (rw (past_end c.args.loads.now c.loop-load.load-index c.loop-load-test.false) at c.loop-load.invariant)
