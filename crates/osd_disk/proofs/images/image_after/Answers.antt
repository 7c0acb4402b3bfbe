use Rattle.std.proofs.Common.{◌≡◌, ℕ, ◌+◌, ◌<◌, List, [], ◌∷◌, ◌++◌, length, take, slice_get, Some, sym, ◌∙◌, ap, subst, arith}
use Rattle.std.proofs.lemmas.Option.{slice_get-get_or}
use Rattle.osd_lists.proofs.Slices.{take_more}
use Rattle.osd_disk.specs.Calls.{done, all_done, left_after}
use Rattle.osd_disk.specs.Images.{Leaves}
use Rattle.osd_disk.specs.declared.calls.Call.{Call}
use Rattle.osd_disk.proofs.ImageLaws.{image_more}
use Rattle.osd_disk.proofs.Media.{done_last}
use Rattle.osd_disk.proofs.images.image_after.Goals as goal

pub loop-at-preserved : goal.loop-at-preserved
loop-at-preserved c =
    let call = c.index-calls-at.result in
    let calls = c.args.calls.now in
    let first = c.args.first.now in
    let at = c.loop-at.at in
    let inside : c.loop-at.at < length c.args.calls.now = omega (arith, c.loop-at-test.true) in
    let there : slice_get calls at ≡ Some call =
    slice_get-get_or calls at call inside ∙ ap (λ (x : Call). Some x) (sym c.index-calls-at.is) in
    let next : take (at + 1) calls ≡ take at calls ++ call ∷ [] = take_more calls at call there in
    record {
      bound = omega (arith, inside);
      seen = c.in_ok-do_again.ensures.seen ∙ ap (λ (l : List ℕ). done call l) c.loop-at.invariant.seen
          ∙ sym (done_last (take at calls) call first) ∙ ap (λ (cs : List Call). all_done cs first) (sym next);
      left = subst (λ (cs : List Call). left_after cs first (λ d. d ≡ first) c.do_again.new.left) (sym next)
          (image_more first (take at calls) call c.loop-at.left c.do_again.new.left c.loop-at.invariant.left
          (subst (λ (s : List ℕ). Leaves call s c.loop-at.left c.do_again.new.left) c.loop-at.invariant.seen
          c.in_ok-do_again.ensures.left));
    }
