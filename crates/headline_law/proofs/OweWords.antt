-- Words and their sources last where each cell stays or becomes its word.
-- Towards `OweFollows` (`specs/Parts.antt`).
use Rattle.std.proofs.Common.{◌≡◌, ◌⊎◌, ℕ, ◌+◌, false, List, sym, ap, ◌∙◌, inl, inr}
use Rattle.history_law.specs.Names.{Awaited}
use Rattle.fence_law.specs.Law.{IsCode}
use Rattle.fence_law.specs.State.{State, Layout}
use Rattle.file_simulation.specs.Jobs.{AreWords, IsSourced, AreSourced, AreWritten}
use Rattle.headline_law.proofs.OweMachine.{KeepsCells, WritesWords}

-- each cell stays, or becomes its word of e; what is gone stays, and no component is found again
pub record KeepsWords (e : ℕ → ℕ) (s t : State) : Type 0 where
  pub layout : t.layout ≡ s.layout
  pub cell : (k z : ℕ) → (t.cell k z ≡ s.cell k z) ⊎ (t.cell k z ≡ s.layout.word k z e)
  pub gone : t.gone ≡ s.gone
  pub lost : (k : ℕ) → t.lost k ≡ false → s.lost k ≡ false

pub by_drives : (e : ℕ → ℕ) (s t : State) → WritesWords e s t → KeepsWords e s t
by_drives e s t x = record { layout = x.layout; cell = x.cell; gone = x.gone; lost = x.lost }

pub by_steps : (e : ℕ → ℕ) (s t : State) → KeepsCells s t → KeepsWords e s t
by_steps e s t x = record {
  layout = x.layout;
  cell = λ k z. inl (ap (λ (c : ℕ → ℕ → ℕ). c k z) x.cell);
  gone = x.gone;
  lost = x.lost;
}

pub words_last : (e : ℕ → ℕ) (s t : State) (k offset : ℕ) (bytes : List ℕ) → t.layout ≡ s.layout →
    AreWords s e k offset bytes → AreWords t e k offset bytes
words_last e s t k offset bytes same words i below =
    words i below ∙ ap (λ (l : Layout). l.word k (offset + i) e) (sym same)

module _ (e : ℕ → ℕ) (s t : State) (code : IsCode s.layout) (keeps : KeepsWords e s t) where
  -- a cell that has its word has it still
  pub word_lasts : (k z : ℕ) → s.cell k z ≡ s.layout.word k z e → t.cell k z ≡ t.layout.word k z e
  word_lasts k z has = elim (keeps.cell k z) [
    | inl same ↦ same ∙ has ∙ ap (λ (l : Layout). l.word k z e) (sym keeps.layout)
    | inr word ↦ word ∙ ap (λ (l : Layout). l.word k z e) (sym keeps.layout)
  ]

  source_lasts : (x : ℕ) → IsSourced s e x → IsSourced t e x
  source_lasts x has q col =
      let r = has q (ap (λ (l : Layout). l.col q) (sym keeps.layout) ∙ col) in (
        r.0,
        r.1,
        ap (λ (l : Layout). l.copy r.0 r.1 q) keeps.layout ∙ r.2,
        ap (λ (f : ℕ → _). f r.0) keeps.gone ∙ r.3,
        elim (keeps.cell r.0 r.1) [
          | inl same ↦ r.4 ∙ sym same
          | inr word ↦ sym (word ∙ (code.copies r.0 r.1 q r.2).2 e)
        ],
      )

  pub sources_last : (k offset : ℕ) (bytes : List ℕ) → AreSourced s e k offset bytes → AreSourced t e k offset bytes
  sources_last k offset bytes has i below q col =
      source_lasts (s.layout.cell_col k (offset + i)) (has i below) q
      (col ∙ ap (λ (l : Layout). l.cell_col k (offset + i)) keeps.layout)

  pub written_lasts : (ws : List Awaited) → AreWritten s e ws → AreWritten t e ws
  written_lasts ws has a i =
      let r = has a i in (
        words_last e s t a.component a.command.offset a.command.payload keeps.layout r.0,
        sources_last a.component a.command.offset a.command.payload r.1,
      )
