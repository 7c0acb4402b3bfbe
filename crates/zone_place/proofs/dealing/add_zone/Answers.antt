use Rattle.std.proofs.Common.{◌≡◌, ◌∙◌, ◌+◌, ◌-◌, ◌++◌, ◌∷◌, [], List, ℕ, ap, sym, drop, append_assoc}
use Rattle.zone_place.proofs.Lines.{front}
use Rattle.zone_place.proofs.Steps.{load_at, front_counts, front_done, front_leaves_offline, front_leaves_other}
use Rattle.zone_place.proofs.dealing.add_zone.Goals.{then-left-gt0+then-load+then-load-zone+in_ok-push, else-left-gt0, else-left-gt0-via-then-left-gt0+then-load+else-load-zone, else-left-gt0-via-then-left-gt0+else-load, else-left-gt0-via-else-left-gt0}
use Rattle.zone_place.proofs.dealing.add_zone.Goals as goal

pub loop-load-preserved : goal.loop-load-preserved
loop-load-preserved c =
    let ls = c.args.loads.now in
    let i = c.loop-load.load-index in
    let left = c.loop-load.left in
    let zone = c.args.zone in
    elim c.if-left-gt0.branch [
      | then-left-gt0+then-load+then-load-zone+in_ok-push w ↦
          let rest = front zone (left - 1) (drop (i + 1) ls) in
          let counts = front_counts zone left ls i c.loop-load-test.true w.if-left-gt0.true w.if-load.true w.if-load-zone.true in
          ap (λ (k : ℕ). c.if-left-gt0.line ++ front zone k (drop (i + 1) ls)) w.left-is
          ∙ ap (λ (l : List ℕ). l ++ rest) (w.line-is ∙ w.in_ok-push.ensures.ok)
          ∙ append_assoc c.loop-load.line ((load_at ls i).drive ∷ []) rest
          ∙ ap (λ (l : List ℕ). c.loop-load.line ++ l) (sym counts)
          ∙ c.loop-load.invariant
      | else-left-gt0 w ↦
          let same : front zone left (drop i ls) ≡ front zone left (drop (i + 1) ls) = elim w.else-left-gt0.branch [
            | else-left-gt0-via-then-left-gt0+then-load+else-load-zone v ↦ front_leaves_other zone left ls i c.loop-load-test.true
                v.if-load-zone.false
            | else-left-gt0-via-then-left-gt0+else-load v ↦ front_leaves_offline zone left ls i c.loop-load-test.true
                v.if-load.false
            | else-left-gt0-via-else-left-gt0 v ↦ front_done zone left ls i c.loop-load-test.true v.if-left-gt0.false
          ] in
          ap (λ (k : ℕ). c.if-left-gt0.line ++ front zone k (drop (i + 1) ls)) w.left-is
          ∙ ap (λ (l : List ℕ). l ++ front zone left (drop (i + 1) ls)) w.line-is
          ∙ ap (λ (l : List ℕ). c.loop-load.line ++ l) (sym same)
          ∙ c.loop-load.invariant
    ]
