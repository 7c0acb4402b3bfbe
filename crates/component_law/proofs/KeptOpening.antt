-- What is kept of a file that is opened, in the form in which jobs are walked.
use Rattle.std.proofs.Common.{◌≡◌, ◌==◌, ◌&&◌, ◌||◌, ℕ, Bool, true, false, not, nat_lt, length, List, None, refl, inl, inr}
use Rattle.std.proofs.lemmas.Bool.{true≢false, cases_Bool}
use Rattle.server_rules.specs.declared.limits.TheConstants.{GREATEST_TAG}
use Rattle.server_rules.specs.Going.{Going}
use Rattle.server_rules.specs.Jobs.{ending}
use Rattle.server_rules.specs.Openings.{is_unsettled, opens_fenced, opens}
use Rattle.world_history.specs.ServerNames.{File, Kept, Phase, Still, Fencing, Repairing, FencingAgain, Note, Spent, Revoking}
use Rattle.component_law.specs.KeptWalk.{IsWalked}
use Rattle.component_law.proofs.KeptJobs.{Own, End, ends_fence, ends_opened}

-- ---- a file is opened

-- no job of it runs, as behind a crash
abbrev pub IsIdle : File → Type 0
IsIdle x = x.job ≡ None

-- what has nothing to fence is still
pub settled : (k : Kept) (p : Phase) → k.phase ≡ p → is_unsettled k ≡ false → k.phase ≡ Still
settled k Still is u = is
settled k Fencing is u = absurd (flag (nat_lt 0 (length k.grants)) (rw is at u))
  where
    flag : (b : Bool) → (b || true) ≡ false → ⊥
    flag true e = true≢false e
    flag false e = true≢false e
settled k Repairing is u = absurd (flag (nat_lt 0 (length k.grants)) (rw is at u))
  where
    flag : (b : Bool) → (b || true) ≡ false → ⊥
    flag true e = true≢false e
    flag false e = true≢false e
settled k FencingAgain is u = absurd (flag (nat_lt 0 (length k.grants)) (rw is at u))
  where
    flag : (b : Bool) → (b || true) ≡ false → ⊥
    flag true e = true≢false e
    flag false e = true≢false e

-- it has something to fence, and its tag isn't spent
abbrev pub has_to_fence : Kept → Bool
has_to_fence k = is_unsettled k && not (k.tag == GREATEST_TAG)

module _ (Q : Kept → List Note → Type 0) (w : IsWalked Q) where
  -- Q has to last where no fence begins, and where grants are ended.
  pub ends_opens : (format : ℕ) (g : Going) → g.file.job ≡ None → (has_to_fence g.file.kept ≡ false → Own Q w g)
      → (has_to_fence g.file.kept ≡ true → Q (ending g.file.kept format) g.effects.notes) → End Q w (opens format g)
  unfolding opens opens_fenced
  ends_opens format g idle h fences = elim (cases_Bool (is_unsettled g.file.kept)) [
    | inl u ↦ elim (cases_Bool (g.file.kept.tag == GREATEST_TAG)) [
      | inl e ↦
          rw (u, e) (w.plain g.file.kept g.effects.notes Spent refl (h (rw (u, e) refl)), rw idle (λ s. absurd (true≢false s)))
      | inr e ↦ rw (u, e) (ends_fence Q w Revoking format g (fences (rw (u, e) refl)))
    ]
    | inr u ↦
        rw u (ends_opened Q w g g.file.kept.ready
        (settled g.file.kept g.file.kept.phase refl u, h (rw u refl)))
  ]
