-- What the loop over groups leaves.
use Rattle.std.proofs.Common.{◌≡◌, ℕ, ◌≤◌, List, ◌∙◌, ap, arith}
use Rattle.std.specs.List.{flat_map}
use Rattle.zone_place.specs.declared.asks.ZoneAsk.{ZoneAsk}
use Rattle.zone_place.specs.declared.loads.ZoneLoad.{ZoneLoad}
use Rattle.zone_place.specs.Zones.{every, counted, in_line, dealt, spreads}
use Rattle.zone_place.specs.Choosing.{online_placed, CanSpread, Spreads}
use Rattle.zone_place.proofs.Placing.{online_different}
use Rattle.zone_place.proofs.Spreading.{dealt_spreads}

pub dealt_is : (ask : ZoneAsk) (loads : List ZoneLoad) (k : ℕ) (chosen : List ℕ) → k ≤ ask.groups → ask.groups ≤ k
    → chosen ≡ flat_map (λ j. every ask.groups j (in_line ask (online_placed loads))) (counted 0 k) →
    chosen ≡ dealt ask (online_placed loads)
unfolding dealt
dealt_is ask loads k chosen low high e =
    let all : k ≡ ask.groups = omega (arith, low, high) in
    e ∙ ap (λ (n : ℕ). flat_map (λ j. every ask.groups j (in_line ask (online_placed loads))) (counted 0 n)) all

pub deal_spreads : (ask : ZoneAsk) (loads : List ZoneLoad) (chosen : List ℕ) → CanSpread ask loads →
    chosen ≡ dealt ask (online_placed loads) → Spreads ask loads chosen
deal_spreads ask loads chosen can e =
    ap (spreads ask (online_placed loads)) e
    ∙ dealt_spreads ask (online_placed loads) (online_different loads can.different) can.room
