use Rattle.std.proofs.Common.{ℕ, List, ◌++◌, ap, ◌∙◌}
use Rattle.osd_replay.specs.Generate.{counts_text}
use Rattle.osd_replay.proofs.Making.{five_more}
use Rattle.osd_replay.proofs.generate.counts.Goals as goal

pub returns : goal.returns
unfolding counts_text
returns c =
    five_more _ _ _ _ _ _ c.in_ok-text.text c.extend_from_slice.new.self c.extend_from_slice-2.new.self
    c.extend_from_slice-3.new.self c.extend_from_slice-4.new.self c.extend_from_slice-5.new.self
    c.in_ok-text.ensures
    (c.in_ok-extend_from_slice.ensures.ok
    ∙ ap (λ (x : List ℕ). c.in_ok-text.text ++ x) (c.as_slice.ensures ∙ c.in_ok-ended.ensures))
    (c.in_ok-extend_from_slice-2.ensures.ok
    ∙ ap (λ (x : List ℕ). c.extend_from_slice.new.self ++ x) (c.as_slice-2.ensures ∙ c.in_ok-writes.ensures))
    (c.in_ok-extend_from_slice-3.ensures.ok
    ∙ ap (λ (x : List ℕ). c.extend_from_slice-2.new.self ++ x) (c.as_slice-3.ensures ∙ c.in_ok-reads.ensures))
    (c.in_ok-extend_from_slice-4.ensures.ok
    ∙ ap (λ (x : List ℕ). c.extend_from_slice-3.new.self ++ x) (c.as_slice-4.ensures ∙ c.in_ok-read_bytes.ensures))
    (c.in_ok-extend_from_slice-5.ensures.ok
    ∙ ap (λ (x : List ℕ). c.extend_from_slice-4.new.self ++ x) (c.as_slice-5.ensures ∙ c.in_ok-read_sum.ensures))
