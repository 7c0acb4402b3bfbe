use Rattle.std.proofs.Common.{arith, ◌≡◌, ◌∙◌, ◌+◌, ◌*◌, ◌++◌, List, ℕ, Some, None, ap, sym, refl, take, append_assoc, append-nil}
use Rattle.zone_place.specs.Zones.{all_asked, within, zone_most}
use Rattle.zone_place.specs.Dealing.{zone_from}
use Rattle.zone_place.specs.Choosing.{online_placed}
use Rattle.zone_place.proofs.Counting.{drives_of}
use Rattle.zone_place.proofs.Lines.{line_from, line_more, line_over, whole_line, next_zone_is}
use Rattle.zone_place.proofs.dealing.drives_in_line.Goals as goal

pub loop-zone-smaller : goal.loop-zone-smaller
loop-zone-smaller c =
    let ds = online_placed c.args.loads.now in
    let found : zone_from c.loop-zone.lowest ds ≡ Some c.in-Some.zone = sym c.in-Some.ensures in
    omega (arith, (next_zone_is c.loop-zone.lowest c.in-Some.zone ds found).0, c.from-lowest.ensures)

pub loop-zone-preserved : goal.loop-zone-preserved
loop-zone-preserved c =
    let ds = online_placed c.args.loads.now in
    let ask = c.args.ask.now in
    let z = c.in-Some.zone in
    let found : zone_from c.loop-zone.lowest ds ≡ Some z = sym c.in-Some.ensures in
    let most : c.from.result * c.from-2.result ≡ zone_most ask = rw (c.from.ensures, c.from-2.ensures) refl in
    let rest = line_from ask (z + 1) ds in
    let next : c.from-lowest.result + 1 ≡ z + 1 = omega (arith, c.from-lowest.ensures) in (
      ap (λ (k : ℕ). c.add_zone.new.line ++ line_from ask k ds) next
          ∙ ap (λ (l : List ℕ). l ++ rest)
          (c.in_ok-add_zone.ensures ∙ ap (λ (k : ℕ). c.loop-zone.line ++ take k (drives_of (within z ds))) most)
          ∙ append_assoc c.loop-zone.line (take (zone_most ask) (drives_of (within z ds))) rest
          ∙ ap (λ (l : List ℕ). c.loop-zone.line ++ l) (sym (line_more ask c.loop-zone.lowest z ds found))
          ∙ c.loop-zone.invariant.0,
      omega (arith, next),
    )

pub returns : goal.returns
returns c =
    let ds = online_placed c.args.loads.now in
    let ask = c.args.ask.now in
    let over : zone_from c.loop-zone.lowest ds ≡ None = sym c.in_default.ensures in
    let line : c.loop-zone.line ≡ line_from ask 0 ds = sym (append-nil c.loop-zone.line)
    ∙ rw (line_over ask c.loop-zone.lowest ds over) at c.loop-zone.invariant.0 in
    let all : c.from-3.result * c.from-4.result ≡ all_asked ask = rw (c.from-3.ensures, c.from-4.ensures) refl in
    c.truncate.ensures ∙ ap (λ (k : ℕ). take k c.loop-zone.line) all ∙ ap (λ (l : List ℕ). take (all_asked ask) l) line
    ∙ whole_line ask ds
