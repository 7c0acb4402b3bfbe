use Rattle.std.proofs.Common.{arith, ◌≡◌, ◌+◌, ◌++◌, ◌/◌, length, take, drop, sym, ap, subst, ◌∙◌}
use Rattle.std.proofs.Math.Seq.{take-add}
use Rattle.std.proofs.lemmas.List.{length-take}
use Rattle.osd_objects.specs.declared.pages.TheConstants.{PAGE_BYTES}
use Rattle.osd_objects.specs.Pages.{IsOverlaid, with_part}
use Rattle.osd_objects.proofs.Entries.{some_there}
use Rattle.osd_objects.proofs.Overlaying.{part_put, overlaid_nothing, overlaid_then}
use Rattle.osd_objects.proofs.pages.put_over.Goals as goal

pub loop-at-init : goal.loop-at-init
loop-at-init c =
    record { inside = omega arith; overlaid = overlaid_nothing c.args.pages.now.entries c.args.offset c.requires.full }

pub put_part-requires-clause-there : goal.put_part-requires-clause-there
put_part-requires-clause-there c =
    let over = c.loop-at.invariant.overlaid in
    let found = some_there _
    (over.there ((c.args.offset + c.loop-at.at) / PAGE_BYTES)
    ∙ c.requires.there (c.args.offset + c.loop-at.at) (omega arith) (omega (arith, c.loop-at-test.true))) in
    (found.0, found.1, over.full _ _ found.1)

pub loop-at-preserved : goal.loop-at-preserved
loop-at-preserved c =
    let bytes = c.args.bytes.now in
    let at = c.loop-at.at in
    let over = c.loop-at.invariant.overlaid in
    let part = c.split_at-in-loop-at.result.0.now in
    let size = c.min-size.result in
    let short : length part ≡ size = c.split_at-in-loop-at.ensures.front_len in
    let cut : take size (drop at bytes) ≡ part =
    sym (c.split_at-in-loop-at.ensures.front ∙ ap (take size) c.split_at.ensures.back) in
    let whole : take (at + length part) bytes ≡ take at bytes ++ part =
    take-add at (length part) bytes ∙ ap (λ x. take at bytes ++ x) (ap (λ n. take n (drop at bytes)) short ∙ cut) in
    let here : c.args.offset + at ≡ c.args.offset + length (take at bytes) =
    omega (arith, length-take at bytes, c.loop-at.invariant.inside) in
    let found = some_there _
    (over.there ((c.args.offset + at) / PAGE_BYTES)
    ∙ c.requires.there (c.args.offset + at) (omega arith) (omega (arith, c.loop-at-test.true))) in
    let put = part_put c.loop-at.pages.entries (c.args.offset + at) found.0 part found.1 over.full
    (omega (arith, short, c.min-size.ensures, c.left_in_page.ensures)) in
    record {
      inside = omega (arith, short, c.min-size.ensures, c.split_at.ensures.back_len, c.loop-at-test.true);
      overlaid =
          rw (whole, c.put_part.ensures)
          (overlaid_then c.args.pages.now.entries c.loop-at.pages.entries
          (with_part c.loop-at.pages.entries (c.args.offset + at) part) c.args.offset (take at bytes) part over
          (subst (λ x. IsOverlaid c.loop-at.pages.entries x part (with_part c.loop-at.pages.entries (c.args.offset + at) part))
          here put));
    }
