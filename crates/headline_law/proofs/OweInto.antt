-- What a repair owes and has done goes on in a step of the server through which the repair lasts.
-- Towards `OweFollows` and `DoneFollows` (`specs/Parts.antt`).
use Rattle.std.proofs.Common.{◌≡◌, ℕ, ◌-◌, ◌<◌, ◌≤◌, true, false, List, length, slice_get, Some, sym, ap, subst, ◌∙◌, inl, inr, arith}
use Rattle.std.specs.Prelude.{slice_index}
use Rattle.std.proofs.lemmas.Bool.{cases_Bool}
use Rattle.data_map.specs.declared.check.RawMap.{RawMap}
use Rattle.osd_objects.specs.Store.{lane_or_none}
use Rattle.server_rules.specs.declared.limits.TheConstants.{SERVER_HOLDER}
use Rattle.server_rules.specs.Laws.{In}
use Rattle.history_law.specs.Names.{File, Kept, Component, Awaited, Piece}
use Rattle.history_law.specs.Spent.{HasPassed}
use Rattle.world_history.specs.State.{World, at_number}
use Rattle.fence_law.specs.Columns.{Short, Stands}
use Rattle.fence_law.specs.Law.{IsCode}
use Rattle.fence_law.specs.State.{State, Layout}
use Rattle.plan_law.specs.FileLayout.{column_of_cell}
use Rattle.file_simulation.specs.Components.{AreComponents, is_lost_in, object_of, object_on}
use Rattle.file_simulation.specs.Jobs.{HasColumn, AreDone, AreDue, IsDue, AreWords, AreSourced, AreWritten}
use Rattle.relation_law.proofs.Places.{KeepPlaces, IsPlaced}
use Rattle.headline_law.proofs.OweMachine.{KeepsCells}
use Rattle.headline_law.proofs.OweWords.{by_steps, written_lasts}
use Rattle.headline_law.proofs.OweWalk.{Settles}

-- ---- what is done

module _ (s t : State) (layout : t.layout ≡ s.layout) (back : (k : ℕ) → t.lost k ≡ false → s.lost k ≡ false) where
  lost_on : (n : ℕ) → s.lost n ≡ true → t.lost n ≡ true
  lost_on n was = elim (cases_Bool (t.lost n)) [
    | inl lost ↦ lost
    | inr found ↦ absurd (cc (sym was ∙ back n found))
  ]

  -- where no component is found again, what was short is short
  pub short_on : (x : ℕ) → Short s x → Short t x
  short_on x (k, z, is, col, all) = (
    k,
    z,
    ap (λ (l : Layout). l.is_cell k z) layout ∙ is,
    ap (λ (l : Layout). l.cell_col k z) layout ∙ col,
    λ f y is_ col_ same. lost_on f
        (all f y (ap (λ (l : Layout). l.is_cell f y) (sym layout) ∙ is_)
        (ap (λ (l : Layout). l.cell_col f y) (sym layout) ∙ col_)
        (ap (λ (l : Layout). l.position f) (sym layout) ∙ same ∙ ap (λ (l : Layout). l.position k) layout)),
  )

module _ (s t : State) (keeps : KeepsCells s t) where
  pub short_over : (x : ℕ) → Short s x → Short t x
  short_over = short_on s t keeps.layout keeps.lost

  pub stands_over : (x : ℕ) (d : ℕ → ℕ) → Stands s x d → Stands t x d
  stands_over x d stands k z is col lost =
      ap (λ (c : ℕ → ℕ → ℕ). c k z) keeps.cell
      ∙ stands k z (ap (λ (l : Layout). l.is_cell k z) (sym keeps.layout) ∙ is)
      (ap (λ (l : Layout). l.cell_col k z) (sym keeps.layout) ∙ col) (keeps.lost k lost)
      ∙ ap (λ (l : Layout). l.word k z d) (sym keeps.layout)

  pub done_over : (f : File) (todo : List Piece) → AreDone s f todo → AreDone t f todo
  done_over f todo done x ended past short =
      let r = done x ended past (λ was. short (short_over x was)) in (r.0, stands_over x r.0 r.1)

-- ---- what is due

-- what became of a command that was awaited
pub data Became (w : World) (f g : Kept) (low : ℕ) (ws : List Awaited) (a : Awaited) : Type 0 where
  -- it is awaited still
  Waits : In a ws → Became w f g low ws a
  -- it was sent again
  Again : (b : Awaited) → In b ws → b.component ≡ a.component → b.command.offset ≡ a.command.offset →
      b.command.payload ≡ a.command.payload → low ≤ b.command.nonce → Became w f g low ws a
  -- its component is missing
  Lost : ((at : Component) → slice_get g.components a.component ≡ Some at → at.missing ≡ true) → Became w f g low ws a
  -- it was performed
  Passed : ((at : Component) → slice_get f.components a.component ≡ Some at → is_lost_in w at ≡ false →
      HasPassed (lane_or_none (object_of w at) SERVER_HOLDER) a.command.nonce) → Became w f g low ws a

module _ (s t : State) (w v : World) (f g : File) (low : ℕ) (keeps : KeepsCells s t) (components : AreComponents s w f)
    (objects : (at : Component) → object_of v at ≡ object_of w at)
    (passed : (at : Component) (n : ℕ) → HasPassed (lane_or_none (object_of v at) SERVER_HOLDER) n → n < low)
    (settles : Settles t g.kept) (map : g.kept.map ≡ f.kept.map) (places : KeepPlaces f.kept.components g.kept.components)
  where
    object_same : (a b : Component) → b.drive ≡ a.drive → b.object ≡ a.object → object_of w b ≡ object_of w a
    object_same a b drive object =
        ap (λ (d : ℕ). object_on (at_number w.drives d) b.object) drive
        ∙ ap (object_on (at_number w.drives a.drive)) object

    not_missing : (n : ℕ) (at : Component) → slice_get g.kept.components n ≡ Some at → t.lost n ≡ false → at.missing ≡ true → ⊥
    not_missing n at there lost gone = cc (sym lost ∙ settles.lost n at there gone)

    due_one : (e : ℕ → ℕ) (us ws : List Awaited) (n z : ℕ) (at was : Component) → slice_get g.kept.components n ≡ Some at →
        t.lost n ≡ false → slice_get f.kept.components n ≡ Some was → IsPlaced was at → (d : IsDue s w was e us n z) →
        Became w f.kept g.kept low ws d.command → IsDue t v at e ws n z
    due_one e us ws n z at was there lost place placed d (Waits i) = record {
      command = d.command;
      awaits = i;
      component = d.component;
      first = d.first;
      past = d.past;
      word = d.word ∙ ap (λ (l : Layout). l.word n z e) (sym keeps.layout);
      ahead = λ q. d.ahead (subst (λ o. HasPassed (lane_or_none o SERVER_HOLDER) d.command.command.nonce)
          (objects at ∙ object_same was at placed.drive placed.object) q);
    }
    due_one e us ws n z at was there lost place placed d (Again b i component offset payload later) = record {
      command = b;
      awaits = i;
      component = component ∙ d.component;
      first = omega (arith, d.first, offset);
      past = omega (arith, d.past, offset, ap (λ (xs : List ℕ). length xs) payload);
      word = ap (λ (xs : List ℕ). slice_index xs (z - b.command.offset)) payload
          ∙ ap (λ (o : ℕ). slice_index d.command.command.payload (z - o)) offset
          ∙ d.word ∙ ap (λ (l : Layout). l.word n z e) (sym keeps.layout);
      ahead = λ q. let below = passed at b.command.nonce q in omega (arith, below, later);
    }
    due_one e us ws n z at was there lost place placed d (Lost gone) =
        absurd (not_missing n at there lost (gone at (ap (slice_get g.kept.components) d.component ∙ there)))
    due_one e us ws n z at was there lost place placed d (Passed has) =
        absurd (d.ahead (has was (ap (slice_get f.kept.components) d.component ∙ place)
        (sym (components n was place).lost ∙ keeps.lost n lost)))

    -- what isn't there yet is due still
    pub due_into : (e : ℕ → ℕ) (us ws : List Awaited) (p : Piece) →
        ((a : Awaited) → In a us → Became w f.kept g.kept low ws a) → AreDue s w f e us p → AreDue t v g e ws p
    due_into e us ws p became due n z at there lost has =
        let was = places.back n at there in
        elim (due n z was.0 was.1 (keeps.lost n lost)
        (subst (λ (m : RawMap). HasColumn m p (column_of_cell m n z)) map has)) [
          | inl word ↦ inl (ap (λ (c : ℕ → ℕ → ℕ). c n z) keeps.cell ∙ word
              ∙ ap (λ (l : Layout). l.word n z e) (sym keeps.layout))
          | inr d ↦ inr (due_one e us ws n z at was.0 there lost was.1 was.2 d (became d.command d.awaits))
        ]

-- ---- what is written

-- each of these was awaited, or is one that was, sent again
pub written_into : (e : ℕ → ℕ) (s t : State) (us ws : List Awaited) → IsCode s.layout → KeepsCells s t →
    ((b : Awaited) → In b ws → (a : Awaited) × In a us × (b.component ≡ a.component) ×
    (b.command.offset ≡ a.command.offset) × (b.command.payload ≡ a.command.payload)) →
    AreWritten s e us → AreWritten t e ws
written_into e s t us ws code keeps from written b i =
    let r = from b i in
    let has = written_lasts e s t code (by_steps e s t keeps) us written r.0 r.1 in
    subst (λ (n : ℕ). AreWords t e n b.command.offset b.command.payload × AreSourced t e n b.command.offset b.command.payload)
    (sym r.2)
    (subst (λ (o : ℕ). AreWords t e r.0.component o b.command.payload × AreSourced t e r.0.component o b.command.payload)
    (sym r.3)
    (subst (λ (xs : List ℕ). AreWords t e r.0.component r.0.command.offset xs ×
    AreSourced t e r.0.component r.0.command.offset xs) (sym r.4) has))
