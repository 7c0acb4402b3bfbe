-- Each note of a step of the server, by its kind: the machine behind its events is as the moment behind it shows.
use Rattle.std.proofs.Common.{◌≡◌, ◌+◌, ◌||◌, ℕ, Bool, true, false, List, [], ◌∷◌, slice_get, Option, Some, None, refl, sym, ap, subst, ◌∙◌, inl, inr, arith, if◌then◌else◌}
use Rattle.std.proofs.lemmas.Bool.{true≢false, cases_eq, eq-eqb, ne_eqb}
use Rattle.server_rules.specs.History.{Input}
use Rattle.server_rules.specs.Numbers.{among}
use Rattle.server_rules.specs.Standing.{lose_from}
use Rattle.scenario_text.specs.declared.line.Note.{Note as ToldNote}
use Rattle.scenario_text.specs.declared.line.Note.TheVariants as note
use Rattle.world_history.specs.ServerNames as kinds
use Rattle.world_history.specs.ServerNames.{File, Component, Mended, Grant, Note, NoteKind}
use Rattle.world_history.specs.State.{World, at_number}
use Rattle.world_history.specs.Stripes.{Moment, is_lost}
use Rattle.world_history.specs.Told.{told_note}
use Rattle.world_history.specs.Calm.{moment_behind, noted, stands_on}
use Rattle.fence_law.specs.Columns.{IsCalm}
use Rattle.fence_law.specs.Machine.{Lawful, after, after_all}
use Rattle.fence_law.specs.State.{State}
use Rattle.fence_law.specs.State.Event.{Fenced, Refenced, Repaired, Fails, Drops, Declares, Loses, Rebuilds}
use Rattle.fence_law.proofs.Accepted.{Sure, keep_sure}
use Rattle.fence_law.specs.Words.{updated}
use Rattle.fence_law.proofs.Words.{updated_at, updated_other}
use Rattle.file_simulation.specs.Components.{has_failed}
use Rattle.file_simulation.specs.EventLists.{where_so}
use Rattle.file_simulation.specs.ServerEvents as table
use Rattle.file_simulation.specs.Showing.{Pairs}
use Rattle.relation_law.proofs.ComponentsNotes.{LostAt, lost_at, set_other}
use Rattle.osd_lists.proofs.Slices.{get_set}
use Rattle.std.proofs.lemmas.Option.{slice_get_within}
use Rattle.headline_law.specs.Watching.{IsSeen, is_no_repair}
use Rattle.headline_law.proofs.CalmNotes.{IsOn, on_same, seen_with, seen_on, seen_repaired}
use Rattle.headline_law.proofs.CalmMoments.{with_parts, on_other, on_own, own_there, long_lost, long_stood, one_of, is_one}

or_right : (a b : Bool) → b ≡ true → (a || b) ≡ true
or_right true b e = refl
or_right false b e = e

module _ (s : State) (m : Moment) (f : File) (grants : List Grant) (pairs : Pairs) (w : World)
    (known : (d : ℕ) → has_failed (at_number w.drives d) ≡ true → among d m.failed ≡ true) (rs : List Mended) where
  abbrev At : State → Moment → Type 0
  At t n = IsSeen s m f grants pairs t n

  abbrev number : ℕ
  number = f.kept.number

  abbrev next : Moment → ToldNote → Moment
  next n what = moment_behind rs n number what

  -- ---- components stay

  module _ (t : State) (n : Moment) (h : At t n) where
    abbrev parts : List Component
    parts = h.file.kept.components

    stays_next : (what : ToldNote) → is_no_repair what ≡ true → noted parts what ≡ parts →
        IsOn number n (next n what) h.file h.file
    stays_next what plain same = on_own number rs n h.file h.there what parts plain same refl

    -- no event
    plain_told : (what : ToldNote) → is_no_repair what ≡ true → noted parts what ≡ parts → At t (next n what)
    plain_told what plain same =
        seen_on s m f grants pairs t n (next n what) h.file h (stays_next what plain same) h.lost

    -- an event that loses nothing
    fence_told : (tag : ℕ) (again : Bool) → Sure t → Lawful t ((if again then Refenced else Fenced) ∷ []) →
        At (after_all t ((if again then Refenced else Fenced) ∷ [])) (next n (note.Fenced tag))
    fence_told tag true sure l =
        seen_with s m f grants pairs t Refenced n (next n (note.Fenced tag)) h.file l.0 sure tt tt h
        (stays_next (note.Fenced tag) refl refl) h.lost
    fence_told tag false sure l =
        seen_with s m f grants pairs t Fenced n (next n (note.Fenced tag)) h.file l.0 sure tt tt h
        (stays_next (note.Fenced tag) refl refl) h.lost

    repair_told : (stripes short : ℕ) (done : ℕ → Bool) (e : ℕ → ℕ) → Sure t → IsCalm t →
        Lawful t (Repaired done e ∷ []) → At (after t (Repaired done e)) (next n (note.Repaired stripes short))
    repair_told stripes short done e sure calm l =
        seen_repaired s m f grants pairs t done e n (next n (note.Repaired stripes short)) h.file l.0 sure
        (keep_sure t (Repaired done e) l.0 calm sure) h (own_there number rs n h.file h.there stripes short) refl
        (record { log = refl; failed = refl; stopped = refl })

    -- ---- a component is lost

    abbrev lost_parts : (k : ℕ) → List Component
    lost_parts k = lose_from (k ∷ []) parts 0

    lost_next : (k : ℕ) (what : ToldNote) → is_no_repair what ≡ true → noted parts what ≡ lost_parts k →
        IsOn number n (next n what) h.file (with_parts h.file (lost_parts k))
    lost_next k what plain is =
        on_own number rs n h.file h.there what (lost_parts k) plain is (long_lost (k ∷ []) parts 0)

    -- it is lost at the moment, and the others as before
    lost_there : (k : ℕ) (what : ToldNote) (u : State) → ((j : ℕ) → (j ≡ k → ⊥) → u.lost j ≡ true → t.lost j ≡ true) →
        (j : ℕ) (at : Component) → slice_get (lost_parts k) j ≡ Some at → u.lost j ≡ true → is_lost (next n what) at ≡ true
    lost_there k what u before j at found gone =
        let l : LostAt (k ∷ []) parts 0 j at = lost_at (k ∷ []) parts 0 j at found in
        elim (cases_eq j k) [
          | inl same ↦
              ap (λ (x : Component). is_lost (next n what) x)
              (l.hit (is_one (0 + j) k (let z : 0 + j ≡ j = omega arith in z ∙ same)))
          | inr other ↦
              let same : at ≡ l.before =
              l.spared (one_of (0 + j) k (λ e. other (let z : j ≡ 0 + j = omega arith in z ∙ e))) in
              ap (λ (x : Component). is_lost n x) same ∙ h.lost j l.before l.there (before j other gone)
        ]

    space_told : (k : ℕ) (missing lost : Bool) → Sure t → Lawful t (table.lacks_space missing lost k) →
        At (after_all t (table.lacks_space missing lost k)) (next n (note.NoSpace k))
    space_told k true lost sure l =
        seen_on s m f grants pairs t n (next n (note.NoSpace k)) (with_parts h.file (lost_parts k)) h
        (lost_next k (note.NoSpace k) refl refl) (lost_there k (note.NoSpace k) t (λ j other gone. gone))
    space_told k false true sure l =
        seen_with s m f grants pairs t (Declares k) n (next n (note.NoSpace k)) (with_parts h.file (lost_parts k)) l.0 sure tt
        tt h (lost_next k (note.NoSpace k) refl refl)
        (lost_there k (note.NoSpace k) (after t (Declares k)) (λ j other gone. gone))
    space_told k false false sure l =
        seen_with s m f grants pairs t (Drops k) n (next n (note.NoSpace k)) (with_parts h.file (lost_parts k)) l.0 sure tt tt
        h (lost_next k (note.NoSpace k) refl refl)
        (lost_there k (note.NoSpace k) (after t (Drops k)) (λ j other gone. sym (updated_other t.lost k true j other) ∙ gone))

    report_told : (k : ℕ) (o : Option ℕ) → Sure t → Lawful t (table.reported k o) →
        At (after_all t (table.reported k o)) (next n (note.Reported k))
    report_told k None sure l =
        seen_on s m f grants pairs t n (next n (note.Reported k)) (with_parts h.file (lost_parts k)) h
        (lost_next k (note.Reported k) refl refl) (lost_there k (note.Reported k) t (λ j other gone. gone))
    report_told k (Some c) sure l =
        seen_with s m f grants pairs t (Loses c k) n (next n (note.Reported k)) (with_parts h.file (lost_parts k)) l.0 sure tt
        tt h (lost_next k (note.Reported k) refl refl)
        (lost_there k (note.Reported k) (after t (Loses c k))
        (λ j other gone. sym (updated_other t.lost k true j other) ∙ gone))

    -- ---- a component is made anew

    abbrev stood_parts : (k d : ℕ) → List Component
    stood_parts k d = stands_on parts k d (slice_get parts k)

    abbrev stood_file : (k d : ℕ) → File
    stood_file k d = with_parts h.file (stood_parts k d)

    stood_next : (k d : ℕ) → IsOn number n (next n (note.Rebuilt k d)) h.file (stood_file k d)
    stood_next k d =
        on_own number rs n h.file h.there (note.Rebuilt k d) (stood_parts k d) refl refl
        (long_stood parts k d (slice_get parts k))

    -- any other component is as it was
    stood_other : (k d j : ℕ) (o : Option Component) (at : Component) → (j ≡ k → ⊥) →
        slice_get (stands_on parts k d o) j ≡ Some at → slice_get parts j ≡ Some at
    stood_other k d j None at other found = found
    stood_other k d j (Some x) at other found = sym (set_other parts k j _ other) ∙ found

    -- and it stands on the drive
    stood_own : (k d : ℕ) (o : Option Component) (at : Component) → slice_get parts k ≡ o →
        slice_get (stands_on parts k d o) k ≡ Some at → at.drive ≡ d
    stood_own k d None at is found = absurd (cc (sym is ∙ found))
    stood_own k d (Some x) at is found =
        let stands : Component = record x { drive = d; missing = false } in
        let same : stands ≡ at = cc (sym (get_set parts k stands (slice_get_within parts k x is)) ∙ found) in
        ap (λ (y : Component). y.drive) (sym same)

    stood_lost : (k d : ℕ) (cells : ℕ → ℕ) (j : ℕ) (at : Component) → slice_get (stood_parts k d) j ≡ Some at →
        (after t (Rebuilds k cells)).lost j ≡ true → is_lost (next n (note.Rebuilt k d)) at ≡ true
    stood_lost k d cells j at found gone = elim (cases_eq j k) [
      | inl same ↦ absurd (true≢false (sym gone ∙ updated_at t.lost k false j same))
      | inr other ↦
          h.lost j at (stood_other k d j (slice_get parts k) at other found)
          (sym (updated_other t.lost k false j other) ∙ gone)
    ]

    rebuild_told : (k d : ℕ) (cells : ℕ → ℕ) (failed : Bool) → has_failed (at_number w.drives d) ≡ failed → Sure t →
        IsCalm t → Lawful t (Rebuilds k cells ∷ where_so failed (Fails k ∷ [])) →
        At (after_all t (Rebuilds k cells ∷ where_so failed (Fails k ∷ []))) (next n (note.Rebuilt k d))
    rebuild_told k d cells failed is sure calm l = by failed is
      where
        built : At (after t (Rebuilds k cells)) (next n (note.Rebuilt k d))
        built =
            seen_with s m f grants pairs t (Rebuilds k cells) n (next n (note.Rebuilt k d)) (stood_file k d) l.0 sure tt tt h
            (stood_next k d) (stood_lost k d cells)

        failing : has_failed (at_number w.drives d) ≡ true → (j : ℕ) (at : Component) →
            slice_get (stood_parts k d) j ≡ Some at → (after (after t (Rebuilds k cells)) (Fails k)).lost j ≡ true →
            is_lost (next n (note.Rebuilt k d)) at ≡ true
        failing dead j at found gone = elim (cases_eq j k) [
          | inl same ↦
              let here : slice_get (stood_parts k d) k ≡ Some at =
              ap (slice_get (stood_parts k d)) (sym same) ∙ found in
              let drive : at.drive ≡ d = stood_own k d (slice_get parts k) at refl here in
              or_right at.missing (among at.drive n.failed)
              (ap (λ (y : ℕ). among y n.failed) drive ∙ ap (among d) h.beside.failed ∙ known d dead)
          | inr other ↦
              stood_lost k d cells j at found
              (sym (updated_other (updated t.lost k false) k true j other) ∙ gone)
        ]

        by : (b : Bool) → has_failed (at_number w.drives d) ≡ b →
            At (after_all t (Rebuilds k cells ∷ where_so b (Fails k ∷ []))) (next n (note.Rebuilt k d))
        by false dead = built
        by true dead =
            let same : stood_file k d ≡ built.file = cc (sym (stood_next k d).there ∙ built.there) in
            seen_with s m f grants pairs (after t (Rebuilds k cells)) (Fails k) (next n (note.Rebuilt k d))
            (next n (note.Rebuilt k d)) built.file tt (keep_sure t (Rebuilds k cells) l.0 calm sure) tt tt built
            (on_same number (next n (note.Rebuilt k d)) built.file built.there)
            (subst (λ (y : File). (j : ℕ) (at : Component) → slice_get y.kept.components j ≡ Some at →
            (after (after t (Rebuilds k cells)) (Fails k)).lost j ≡ true → is_lost (next n (note.Rebuilt k d)) at ≡ true)
            same (failing dead))

  -- ---- any note

  module _ (i : Input) where
    pub own_told : (t : State) (n : Moment) (kind : NoteKind) → Sure t → IsCalm t → Lawful t (table.noted_here t w f i kind) →
        At t n → At (after_all t (table.noted_here t w f i kind)) (next n (told_note kind))
    own_told t n (kinds.Fenced tag) sure calm l h = fence_told t n h tag t.repairing sure l
    own_told t n (kinds.Repaired stripes short) sure calm l h = repair_told t n h stripes short _ _ sure calm l
    own_told t n (kinds.NoSpace k) sure calm l h = space_told t n h k (t.missing k) (t.lost k) sure l
    own_told t n (kinds.Reported k) sure calm l h = report_told t n h k (table.asker i) sure l
    own_told t n (kinds.Rebuilt k d) sure calm l h =
        rebuild_told t n h k d _ (has_failed (at_number w.drives d)) refl sure calm l
    own_told t n kinds.Ready sure calm l h = plain_told t n h note.Ready refl refl
    own_told t n (kinds.NoDrive k) sure calm l h = plain_told t n h (note.NoDrive k) refl refl
    own_told t n (kinds.Lost k p) sure calm l h = plain_told t n h (note.Lost k p) refl refl
    own_told t n (kinds.Audit a b c d) sure calm l h = plain_told t n h (note.Audited a b c d) refl refl
    own_told t n (kinds.Busy k) sure calm l h = plain_told t n h (note.Busy k) refl refl
    own_told t n kinds.Spent sure calm l h = plain_told t n h note.Spent refl refl

    pub note_told : (t : State) (n : Moment) (x : Note) → Sure t → IsCalm t → Lawful t (table.noted t w f i x) → At t n →
        At (after_all t (table.noted t w f i x)) (moment_behind rs n x.file (told_note x.kind))
    note_told t n x sure calm l h = elim (cases_eq x.file number) [
      | inl same ↦
          rw same
          (rw (eq-eqb number number refl)
          (own_told t n x.kind sure calm
          (subst (λ (b : Bool). Lawful t (where_so b (table.noted_here t w f i x.kind))) (eq-eqb x.file number same) l) h))
      | inr other ↦
          rw (ne_eqb x.file number other)
          (seen_on s m f grants pairs t n (moment_behind rs n x.file (told_note x.kind)) h.file h
          (on_other number rs n h.file h.there x.file (told_note x.kind) other) h.lost)
    ]
