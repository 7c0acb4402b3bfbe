use Rattle.std.proofs.Common.{rules, ◌≡◌, ℕ, List, [], ◌∷◌, ◌++◌, sym, ap, ◌∙◌}
use Rattle.scenario_text.specs.LineSpelling.{lines_text}
use Rattle.scenario_text.specs.declared.line.Line.{Line}
use Rattle.scenario_text.specs.declared.line.Line.TheVariants.{Last}
use Rattle.scenario_text.proofs.Histories.{lines_text_more}
use Rattle.osd_replay.specs.Generate.{digest_line, counts_text}
use Rattle.osd_replay.proofs.Making.{two_more}
use Rattle.osd_replay.proofs.generate.Digested.outcome.Goals as goal

pub returns : goal.returns
returns c = λ h holds.
    let last : Line = Last c.args.self.now.world.watch.moments.calm c.args.self.now.world.watch.guesses.unguessed in
    let bytes : c.as_slice.result.now ≡ lines_text (last ∷ []) = search rules in
    let again : c.as_slice-2.result.now ≡ lines_text (last ∷ []) = search rules in
    let all : lines_text h ++ c.as_slice.result.now ≡ lines_text (h ++ last ∷ []) =
    ap (λ (x : List ℕ). lines_text h ++ x) bytes ∙ sym (lines_text_more h (last ∷ [])) in
    let line : c.as_bytes.result.now ≡ digest_line (lines_text (h ++ last ∷ [])) =
    c.as_bytes.ensures.value
    ∙ (rw c.replace.ensures.value at c.in_ok-line.ensures) (lines_text h ++ c.as_slice.result.now)
    (c.update.ensures (lines_text h) holds) ∙ ap (λ (x : List ℕ). digest_line x) all in
    let counts : c.in_ok-text.text ≡ counts_text c.args.self.now.world.watch.summary =
    c.in_ok-text.ensures ∙ ap counts_text c.summary.ensures in
    two_more _ _ _ c.in_ok-text.text c.extend_from_slice.new.self c.extend_from_slice-2.new.self counts
    (c.in_ok-extend_from_slice.ensures.ok ∙ ap (λ (x : List ℕ). c.in_ok-text.text ++ x) line)
    (c.in_ok-extend_from_slice-2.ensures.ok ∙ ap (λ (x : List ℕ). c.extend_from_slice.new.self ++ x) again)
