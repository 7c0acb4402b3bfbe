-- A note that a component was made anew is the first on its file that a step of the server tells.
-- `RebuiltIsFirst` (`specs/Parts.antt`).
use Rattle.std.proofs.Common.{◌≡◌, ℕ, List, [], ◌∷◌, refl, sym, ◌∙◌, inl, inr}
use Rattle.server_rules.specs.Files.{Step, begins, at_file}
use Rattle.server_rules.specs.Going.{Going}
use Rattle.server_rules.specs.History.{Input}
use Rattle.server_rules.specs.Jobs.{declares}
use Rattle.server_rules.specs.Laws.{In}
use Rattle.server_rules.specs.Making.{with_file}
use Rattle.server_rules.specs.Orders.{declare, declares_each, offline}
use Rattle.server_rules.specs.Replies.{hearing}
use Rattle.world_history.specs.ServerNames.{Server, File, Drive, Effects, Note, ClientRequest}
use Rattle.history_law.specs.Steps.{new_file, StepCases, RequestCases}
use Rattle.history_law.proofs.Steps.{each_step, each_request}
use Rattle.component_law.specs.Distinct.{AreDistinct}
use Rattle.cause_law.proofs.Barring.{of_each}
use Rattle.headline_law.specs.Parts.{RebuiltIsFirst}
use Rattle.headline_law.proofs.First.{AreFirst, none_first, no_notes, alone, Told, told_fence, told_making, told_declares, told_hears}
use Rattle.headline_law.proofs.TargetNotedSteps.{none_serves, opened_none}

-- nothing is noted yet
begun : (n : ℕ) → Told [] n []
begun n = record { first = no_notes; own = λ y i. absurd i }

-- a drive is declared: the part of each file in turn
declared_first : (drive : ℕ) (ds : List Drive) (fs : List File) (m : Effects) (c : List ℕ) → AreDistinct fs →
    AreFirst m.notes → ((y : Note) (x : File) → In y m.notes → In x fs → y.file ≡ x.kept.number → ⊥) →
    AreFirst (declares_each drive ds fs m c).effects.notes
unfolding declares_each
declared_first drive ds [] m c apart first ahead = first
declared_first drive ds (x ∷ fs) m c apart first ahead =
    let at : Going = record { file = x; effects = m; drives = ds; chosen = c } in
    let g : Going = declares at drive in
    let told : Told m.notes x.kept.number g.effects.notes =
    told_declares m.notes x.kept.number drive at (record { first = first; own = λ y i. inl i }, refl)
    (λ y i same. ahead y x i (inl refl) same) in
    declared_first drive ds fs g.effects g.chosen apart.1 told.first
    (λ y z i there same. elim (told.own y i) [
      | inl old ↦ ahead y z old (inr there) same
      | inr mine ↦ of_each (λ (f : File). f.kept.number ≡ x.kept.number → ⊥) fs z apart.0 there (sym same ∙ mine)
    ])

-- ---- any step

abbrev AllFirst : Step → Type 0
AllFirst did = AreFirst did.notes

module _ (s : Server) (chosen : List ℕ) (i : Input) (apart : AreDistinct s.files) where
  requests : (now : ℕ) (q : ClientRequest) → RequestCases s now chosen q AllFirst
  requests now q = record {
    again = λ kept is. no_notes;
    misordered = λ expected is. no_notes;
    without = λ is none. no_notes;
    served = λ is f found.
        none_first _ (none_serves (at_file s chosen f) (λ x k d j e. j) s.next_grant s.format now q.client q.args);
  }

  cases : StepCases s chosen i AllFirst
  unfolding declare
  cases = record {
    rests = no_notes;
    asked = λ now q is. each_request s now chosen q AllFirst (requests now q);
    answered = λ x is.
        (told_hears [] x.file.kept.number (at_file s chosen x.file) x.job x.awaited x.reply (begun x.file.kept.number, refl)
        (λ y none same. none) (hearing x.file.kept x.awaited x.reply)).first;
    recalled = λ x is. no_notes;
    refused = λ x is kind why. alone (record { file = x.kept.number; kind = kind });
    fenced = λ x is kind none low.
        (told_fence [] x.kept.number kind s.format (at_file s chosen x) (begun x.kept.number, refl)).first;
    declared = λ d known.
        declared_first d (offline s.drives d) s.files (begins s) chosen apart no_notes (λ y x none there same. none);
    told = λ u now o is result found. found;
    made = λ n m tag zoned is ok.
        let x : File = new_file s chosen n m tag zoned in
        (told_making [] x.kept.number (at_file (with_file s x) [] x) (begun x.kept.number, refl)).first;
    added = λ d is. no_notes;
    zoned = λ d zone is. no_notes;
    formats = λ n is. no_notes;
    resends = λ is. no_notes;
    crashes = λ is. no_notes;
    opened = λ is low. none_first _ (opened_none s.format s.drives s.files (begins s) (λ x k d j e. j));
  }

-- Each that a step tells is.
pub rebuilt_is_first : RebuiltIsFirst
rebuilt_is_first s chosen i apart = each_step s chosen i AllFirst (cases s chosen i apart)
