use Rattle.std.proofs.Common.{◌∙◌, ◌+◌, Option, ap, sym, drop}
use Rattle.std.specs.Prelude.{option_map}
use Rattle.std.specs.List.{filter}
use Rattle.zone_place.specs.declared.loads.ZoneLoad.{ZoneLoad}
use Rattle.zone_place.specs.Choosing.{takes, first_of}
use Rattle.zone_place.proofs.Firsts.{first_from, first_more, first_none}
use Rattle.zone_place.proofs.Steps.{load_at, first_takes, first_leaves, past_end}
use Rattle.zone_place.proofs.picking.pick.Goals.{then-may_take, else-may_take}
use Rattle.zone_place.proofs.picking.pick.Goals as goal

pub loop-load-preserved : goal.loop-load-preserved
loop-load-preserved c =
    let ls = c.args.loads.now in
    let i = c.loop-load.load-index in
    let p = takes c.args.ask.now ls c.args.component c.args.holders.now in
    let rest = first_of (filter p (drop (i + 1) ls)) in
    elim c.if-may_take.branch [
      | then-may_take w ↦
          let taken = first_takes p ls i c.loop-load-test.true (sym c.may_take.ensures ∙ w.if-may_take.true) in
          ap (λ f. first_from f rest) (w.found-is ∙ w.earlier_of-found.ensures) ∙ first_more c.loop-load.found (load_at ls i) rest
          ∙ ap (λ o. first_from c.loop-load.found o) (sym taken) ∙ c.loop-load.invariant
      | else-may_take w ↦
          let left = first_leaves p ls i c.loop-load-test.true (sym c.may_take.ensures ∙ w.if-may_take.false) in
          ap (λ f. first_from f rest) w.found-is ∙ ap (λ o. first_from c.loop-load.found o) (sym left) ∙ c.loop-load.invariant
    ]

pub returns-in-Some : goal.returns-in-Some
unfolding first_of
returns-in-Some c =
    ap (λ (o : Option ZoneLoad). option_map (λ (l : ZoneLoad). l.drive) o)
    (sym c.in-Some.is ∙ sym (first_none c.loop-load.found)
    ∙ (rw (past_end c.args.loads.now c.loop-load.load-index c.loop-load-test.false) at c.loop-load.invariant))

pub returns-in-None : goal.returns-in-None
unfolding first_of
returns-in-None c =
    ap (λ (o : Option ZoneLoad). option_map (λ (l : ZoneLoad). l.drive) o)
    (sym c.in-None.is ∙ sym (first_none c.loop-load.found)
    ∙ (rw (past_end c.args.loads.now c.loop-load.load-index c.loop-load-test.false) at c.loop-load.invariant))
