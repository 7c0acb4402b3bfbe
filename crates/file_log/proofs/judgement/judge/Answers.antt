use Rattle.std.proofs.Common.{true≢false, sym, subst, ◌∙◌, take}
use Rattle.file_log.specs.declared.entry.Entry.{Entry}
use Rattle.file_log.specs.Judge.{Fits, candidates}
use Rattle.file_log.proofs.Growing.{candidates_next, accepts_next, accepted_fits}
use Rattle.file_log.proofs.Same.{same_after, same_then, same_back, same_fits}
use Rattle.file_log.proofs.judgement.judge.Goals as goal

pub returns-then-not-fits : goal.returns-then-not-fits
returns-then-not-fits c = (
  λ h. absurd (cc h),
  λ all.
      let here = accepted_fits c.args.log.now c.loop-entry.entry-index c.entry-item.result c.loop-entry-test.true all in
      let fits = subst (λ (x : Entry). Fits (candidates (take c.loop-entry.entry-index c.args.log.now)) x)
      (sym c.entry-item.is) here in
      absurd (true≢false
      (sym (c.fits.ensures.1 (same_fits _ _ c.entry-item.result (same_back _ _ c.loop-entry.invariant.0) fits))
      ∙ c.if-not-fits.true)),
)

pub loop-entry-preserved : goal.loop-entry-preserved
loop-entry-preserved c =
    let at = c.loop-entry.entry-index in
    let log = c.args.log.now in
    let entry = c.entry-item.result in
    let fits = same_fits _ _ entry c.loop-entry.invariant.0 (c.fits.ensures.0 c.if-not-fits.false) in
    let next = same_then _ _ _ c.in_ok-take.ensures (same_after _ _ entry c.loop-entry.invariant.0) in (
      rw (candidates_next log at entry c.loop-entry-test.true, sym c.entry-item.is) next,
      accepts_next log at entry c.loop-entry-test.true c.loop-entry.invariant.1
          (subst (λ (x : Entry). Fits (candidates (take at log)) x) c.entry-item.is fits),
    )
