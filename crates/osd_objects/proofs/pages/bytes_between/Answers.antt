use Rattle.std.proofs.Common.{arith, ◌≡◌, ◌+◌, ◌-◌, ◌++◌, List, ℕ, length, sym, ap, ◌∙◌}
use Rattle.osd_objects.specs.Pages.{span}
use Rattle.osd_objects.proofs.PageLaws.{span_append, length-span}
use Rattle.osd_objects.proofs.pages.bytes_between.Goals as goal

pub loop-at-init : goal.loop-at-init
unfolding span
loop-at-init c =
    record {
      from = omega arith;
      upto = omega arith;
      so_far =
          c.new-bytes.ensures
          ∙ (let none : 0 ≡ c.args.offset - c.args.offset = omega arith in ap (span c.args.pages.now.entries c.args.offset) none);
    }

pub add_part-requires-clause-room : goal.add_part-requires-clause-room
add_part-requires-clause-room c =
    let long : length c.loop-at.bytes ≡ c.loop-at.at - c.args.offset =
    ap length c.loop-at.invariant.so_far
    ∙ length-span c.args.pages.now.entries c.args.offset (c.loop-at.at - c.args.offset) in
    omega (arith, long, c.min-size.ensures, c.loop-at-test.true, c.requires.end)

pub loop-at-preserved : goal.loop-at-preserved
loop-at-preserved c =
    let pages = c.args.pages.now.entries in
    let so_far = c.loop-at.at - c.args.offset in
    let size = c.min-size.result in
    let place : c.args.offset + so_far ≡ c.loop-at.at = omega (arith, c.loop-at.invariant.from) in
    let all : so_far + size ≡ c.loop-at.at + size - c.args.offset = omega (arith, c.loop-at.invariant.from) in
    record {
      from = omega (arith, c.loop-at.invariant.from);
      upto = omega (arith, c.min-size.ensures, c.loop-at-test.true, c.loop-at.invariant.from);
      so_far =
          c.in_ok-add_part.ensures ∙ ap (λ (x : List ℕ). x ++ span pages c.loop-at.at size) c.loop-at.invariant.so_far
          ∙ ap (λ x. span pages c.args.offset so_far ++ span pages x size) (sym place)
          ∙ sym (span_append pages c.args.offset so_far size) ∙ ap (span pages c.args.offset) all;
    }

pub returns : goal.returns
returns c =
    let all : c.loop-at.at - c.args.offset ≡ c.args.end - c.args.offset =
    omega (arith, c.loop-at.invariant.from, c.loop-at.invariant.upto, c.loop-at-test.false) in
    c.loop-at.invariant.so_far ∙ ap (span c.args.pages.now.entries c.args.offset) all
