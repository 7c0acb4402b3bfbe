-- A rebuild's last piece that is of zeros isn't written: then nothing that was sent to the target may still come.
-- Towards `ZerosAreSpent` (`relation_law/specs/TargetWrites.antt`).
use Rattle.std.proofs.Common.{◌≡◌, ℕ, suc, zero, ◌+◌, ◌-◌, ◌<◌, ◌≤◌, false, nat_lt, List, [], ◌∷◌, replicate, slice_index, Some, refl, sym, ap, subst, ◌∙◌, arith, inl, inr, eq-eqb, ne_eqb}
use Rattle.std.proofs.lemmas.Bool.{cases_eq, ltb-false}
use Rattle.data_map.specs.Striping.{offset_of}
use Rattle.osd_commands.specs.declared.commands.Command.{Command}
use Rattle.scenario_text.specs.declared.line.Line.{Line}
use Rattle.server_rules.specs.Columns.{end_unlike, end_of}
use Rattle.server_rules.specs.Laws.{In}
use Rattle.server_rules.specs.Rebuild.{made}
use Rattle.server_rules.specs.Replies.{heard_with}
use Rattle.component_law.specs.Objects.{target_in, target_of}
use Rattle.headline_law.proofs.SmallLemmas.{behind_from}
use Rattle.world_history.specs.ServerNames.{File, Piece, Target, Work}
use Rattle.world_history.specs.Sending.{Move}
use Rattle.world_history.specs.State.{World, at_number}
use Rattle.fence_law.specs.State as machine
use Rattle.fence_law.specs.State.{State}
use Rattle.fence_law.specs.Law.{byte_before}
use Rattle.plan_law.specs.FileLayout.{word_in}
use Rattle.plan_law.specs.Pieces.{AreWords as AreWordsOf}
use Rattle.file_simulation.specs.Jobs.{IsInPiece, IsFill, IsTarget, TargetIn}
use Rattle.relation_law.specs.Steps.{FollowsWhole}
use Rattle.relation_law.specs.TargetWrites.{ZerosAreSpent}
use Rattle.relation_law.proofs.TargetSpent.{spent_either}
use Rattle.headline_law.specs.TargetLaws.{todo_in, EndsInSome}
use Rattle.headline_law.proofs.TargetBefore.{TargetLaws, well_asked, job_is, piece_is, made_right}

-- a row that doesn't differ from zeros is of zeros
zeros_from : (bytes : List ℕ) (count i end : ℕ) → end_unlike bytes (replicate count 0) i end ≡ 0 → (j : ℕ) →
    j < count → slice_index bytes j ≡ 0
unfolding end_unlike
zeros_from [] count i end none j low = refl
zeros_from (x ∷ xs) zero i end none j low = absurd (omega (arith, low))
zeros_from (x ∷ xs) (suc n) i end none j low = elim (cases_eq x 0) [
  | inl same ↦ at j low (zeros_from xs n (i + 1) end (rw (eq-eqb x 0 same) at none)) same
  | inr other ↦ absurd (elim (behind_from xs (replicate n 0) (i + 1) (i + 1)) [
    | inl e ↦ omega (arith, e, rw (ne_eqb x 0 other) at none)
    | inr more ↦ omega (arith, more, rw (ne_eqb x 0 other) at none)
  ])
]
  where
    at : (q : ℕ) → q < suc n → ((y : ℕ) → y < n → slice_index xs y ≡ 0) → x ≡ 0 → slice_index (x ∷ xs) q ≡ 0
    at zero l rest same = same
    at (suc q) l rest same = rest q (omega (arith, l))

pub zeros_are : (bytes : List ℕ) (count : ℕ) → nat_lt 0 (end_of bytes (replicate count 0)) ≡ false → (j : ℕ) →
    j < count → slice_index bytes j ≡ 0
zeros_are bytes count none j low =
    let past : end_of bytes (replicate count 0) ≤ 0 = ltb-false 0 (end_of bytes (replicate count 0)) none in
    zeros_from bytes count 0 0 (omega (arith, past)) j low

module _ (laws : TargetLaws) (w : World) (h : List Line) (m : Move) (f g : File) (s : State)
    (k : FollowsWhole w h m f g s) where
  -- nothing that isn't spent carries the words of a piece that is of zeros
  pub none_of_zeros : (t : Target) (p : Piece) (x : Command) → target_of f.job ≡ Some t → (bytes : List ℕ) →
      AreWordsOf f.kept.map p.stripe p.column p.count t.component (byte_before s s.count) bytes →
      nat_lt 0 (end_of bytes (replicate p.count 0)) ≡ false → p.column + p.count ≤ f.kept.map.unit → (todo : List Piece) →
      IsTarget s w f t todo → IsFill w t x → IsInPiece f.kept.map p t.component x → ⊥
  none_of_zeros t p x aim bytes words zeros fits todo target fill inside =
      let e : EndsInSome x.payload = (well_asked laws w h m f g s k.follows).ends t x aim fill in
      let n : ℕ = e.0 in
      let base : ℕ = offset_of f.kept.map p.stripe p.column in
      let j : ℕ = x.offset + n - base in
      let low : j < p.count = omega (arith, inside.low, inside.high, e.1) in
      let place : x.offset + n ≡ offset_of f.kept.map p.stripe (p.column + j) = omega (arith, inside.low) in
      let l = k.follows.related.layout in
      e.2 (target.words x fill n (omega (arith, e.1))
      ∙ ap (λ (y : machine.Layout). y.word t.component (x.offset + n) (byte_before s s.count)) l
      ∙ ap (λ (z : ℕ). word_in f.kept.map t.component z (byte_before s s.count)) place
      ∙ sym (words j (omega (arith, low, fits)) low) ∙ zeros_are bytes p.count zeros j low)

pub zeros_are_spent : TargetLaws → ZerosAreSpent
zeros_are_spent laws w h m f g s k t z x fill =
    let aim : target_in z.job.work ≡ Some t = ap target_in z.work in
    let target : IsTarget s w f t (z.piece ∷ []) =
    subst (TargetIn s w f) z.work (job_is laws w h m f g s k.follows z.job z.runs).target in
    elim (spent_either (at_number w.drives t.drive) x fill.write) [
      | inl spent ↦ spent
      | inr unspent ↦
          absurd (none_of_zeros laws w h m f g s k t z.piece x (ap target_of z.runs ∙ aim)
          (made f.kept t z.piece (heard_with z.job z.awaited z.reply))
          (made_right laws w h m f g s k.follows z.job z.runs t z.piece [] z.work z.drive z.reply z.delivered z.from z.read
          z.awaited z.awaits z.answer z.is_done z.last)
          z.zeros (piece_is laws w h m f g s k.follows z.job z.runs t aim z.piece
          (subst (λ (y : Work). In z.piece (todo_in y)) (sym z.work) (inl refl))).within (z.piece ∷ []) target fill
          (target.head x fill unspent))
    ]
