-- What disturbs a column of the machine behind the events of a drive has its mark, if their lines add those of the WRITE that
-- is performed.
use Rattle.std.proofs.Common.{◌≡◌, ◌⊎◌, ◌==◌, ◌||◌, ℕ, Bool, true, false, List, [], ◌∷◌, find, slice_get, Some, refl, sym, ap, subst, ◌∙◌, inl, inr}
use Rattle.std.proofs.lemmas.Bool.{cases_Bool, cases_eq, eqb-true, and_parts}
use Rattle.data_map.specs.Striping.{parities}
use Rattle.scenario_text.specs.declared.line.Line.{Line}
use Rattle.server_rules.specs.Laws.{In}
use Rattle.server_rules.proofs.FileLaws.{file_in}
use Rattle.server_rules.proofs.Members.{in_front, in_behind}
use Rattle.world_history.specs.declared.messages.Posted.{Posted}
use Rattle.world_history.specs.ServerNames.{File}
use Rattle.world_history.specs.State.{World, at_number}
use Rattle.world_history.specs.Stripes.{Mark, Moment, marks_of}
use Rattle.world_history.specs.Calm.{moment_of}
use Rattle.world_history.specs.ReadLog.{log_in}
use Rattle.history_law.specs.Read.{BookIsRead}
use Rattle.fence_law.specs.Columns.{Disturbed, Gone}
use Rattle.fence_law.specs.Law.{IsCode}
use Rattle.fence_law.specs.Machine.{Lawful, after, after_all}
use Rattle.fence_law.specs.State as machine
use Rattle.fence_law.specs.State.{State, Event, Layout}
use Rattle.fence_law.specs.State.Event.{Performs}
use Rattle.fence_law.specs.Words.{In as InRun, updated}
use Rattle.fence_law.proofs.Words.{updated_at, updated_other}
use Rattle.plan_law.specs.FileLayout.{stripe_of_column, column_of_cell}
use Rattle.world_history.specs.Sending.{Move}
use Rattle.file_simulation.specs.DriveEvents as drive
use Rattle.file_simulation.specs.Showing.{Pairs, HasMark, ShowsFile}
use Rattle.relation_law.specs.Frames.{AreAll}
use Rattle.relation_law.specs.Steps.{Follows}
use Rattle.relation_law.proofs.DriveFinding.{found}
use Rattle.file_simulation.specs.Tied.{HasItsEntry, WritesAreTied}
use Rattle.headline_law.specs.Parts.{CutShown}
use Rattle.headline_law.proofs.CalmAhead.{sure_run}
use Rattle.headline_law.proofs.CalmCodes.{code_of, file_there, map_checked}
use Rattle.headline_law.proofs.CalmEvents.{PerformsNone}
use Rattle.headline_law.proofs.CalmGone.{gone_stays, uncoded}
use Rattle.headline_law.proofs.CalmStay.{came_all}
use Rattle.headline_law.proofs.MarksDrivesHear.{IsPerforming}
use Rattle.headline_law.proofs.MarksDrivesLines.{HasMore}
use Rattle.headline_law.proofs.MarksDrivesMarks.{stripe_there, in_marks}
use Rattle.headline_law.proofs.MarksGo.{AllMarked}

-- ---- a WRITE that is performed

-- What disturbs a column behind it disturbed it before, or is of its entry, in its part.
abbrev IsOfWrite : (s : State) (m : machine.Write) (x : ℕ) → Disturbed (after s (Performs m)) x → Type 0
IsOfWrite s m x d = (d.0 ≡ m.entry) × (d.1 ≡ m.at) × ((s.start m.entry).part m.at d.2 ≡ m.part)

performed_came : (s : State) (m : machine.Write) (x : ℕ) (d : Disturbed (after s (Performs m)) x) →
    ((b : Disturbed s x) × (b.0 ≡ d.0)) ⊎ IsOfWrite s m x d
performed_came s m x d = elim (cases_eq d.0 m.entry) [
  | inr other ↦ inl (was (sym (ap (λ (r : ℕ → ℕ → Bool). r d.1 d.2) (updated_other s.applied m.entry _ d.0 other)) ∙ d.11))
  | inl same ↦
      let row : updated (s.applied m.entry) m.at (λ z. s.applied m.entry m.at z || ((s.start m.entry).part m.at z == m.part))
      d.1 d.2 ≡ true =
      sym (ap (λ (r : ℕ → ℕ → Bool). r d.1 d.2) (updated_at s.applied m.entry _ d.0 same)) ∙ d.11 in
      elim (cases_eq d.1 m.at) [
        | inr other ↦
            inl (was (ap (λ (j : ℕ). s.applied j d.1 d.2) same
            ∙ sym (ap (λ (r : ℕ → Bool). r d.2) (updated_other (s.applied m.entry) m.at _ d.1 other)) ∙ row))
        | inl there ↦
            by same there
            (sym (ap (λ (r : ℕ → Bool). r d.2) (updated_at (s.applied m.entry) m.at _ d.1 there)) ∙ row)
      ]
]
  where
    was : s.applied d.0 d.1 d.2 ≡ true → (b : Disturbed s x) × (b.0 ≡ d.0)
    was e = ((d.0, d.1, d.2, d.3, d.4, d.5, d.6, d.7, d.8, d.9, d.10, e), refl)

    by : d.0 ≡ m.entry → d.1 ≡ m.at →
        (s.applied m.entry m.at d.2 || ((s.start m.entry).part m.at d.2 == m.part)) ≡ true →
        ((b : Disturbed s x) × (b.0 ≡ d.0)) ⊎ IsOfWrite s m x d
    by same there e = elim (cases_Bool (s.applied m.entry m.at d.2)) [
      | inl t ↦
          inl (was (ap (λ (j : ℕ). s.applied j d.1 d.2) same ∙ ap (λ (k : ℕ). s.applied m.entry k d.2) there ∙ t))
      | inr z ↦ inr (same, there, eqb-true ((s.start m.entry).part m.at d.2) m.part (rw z at e))
    ]

-- the WRITE that is found was sent, by this client to this component under this nonce
found_write : (c k nonce : ℕ) (ms : List machine.Write) (m : machine.Write) → find (drive.is_write c k nonce) ms ≡ Some m →
    InRun m ms × (m.holder ≡ c) × (m.nonce ≡ nonce) × (m.at ≡ k)
found_write c k nonce [] m is = absurd (cc is)
found_write c k nonce (y ∷ ms) m is = elim (cases_Bool (drive.is_write c k nonce y)) [
  | inl t ↦
      let same : y ≡ m = cc (rw t at is) in
      let one = and_parts (y.holder == c) _ t in
      let two = and_parts (y.nonce == nonce) _ one.1 in (
        inl (sym same),
        ap (λ (z : machine.Write). z.holder) (sym same) ∙ eqb-true y.holder c one.0,
        ap (λ (z : machine.Write). z.nonce) (sym same) ∙ eqb-true y.nonce nonce two.0,
        ap (λ (z : machine.Write). z.at) (sym same) ∙ eqb-true y.at k two.1,
      )
  | inr z ↦ let r = found_write c k nonce ms m (rw z at is) in (inr r.0, r.1, r.2, r.3)
]

-- ---- what a moment has

module _ (book : BookIsRead) (w : World) (h : List Line) (m : Move) (count : ℕ) (f g : File) (s : State) (pairs : Pairs)
    (k : CutShown w h m count f g s pairs) (writes : WritesAreTied w h s f pairs) (new : Pairs)
    (more : (i j : ℕ) → In (i, j) pairs → In (i, j) new) where
  abbrev follows : Follows w h m count f g s
  follows = k.shown.follows

  -- the moment has the server of the world, and the marks of what disturbs a column
  abbrev pub Shows : State → Moment → Type 0
  Shows z n = (n.server ≡ w.server) × AllMarked z n f new

  -- so it has behind these events, if the lines add these marks
  abbrev pub Effects : List Event → List Mark → Type 0
  Effects es extra = (n : Moment) → HasMore w h extra n → Lawful s es → Shows (after_all s es) n

  code : IsCode s.layout
  code = code_of book w h m count f g s follows

  shown : ShowsFile h s pairs f
  shown = k.shown.shown.shown f (file_there book w h m count f g s follows)

  -- nothing is left of a column that isn't coded
  plain : (q : ℕ) → parities f.kept.map ≡ 0 → s.layout.coded q ≡ false
  plain q none = uncoded f.kept.map f.kept.first_tag s q follows.related.layout none

  old_mark : (z : State) (n : Moment) (extra : List Mark) → HasMore w h extra n → (q j : ℕ) →
      (parities f.kept.map ≡ 0 → Gone s q → Gone z q) → HasMark s (moment_of h) f pairs j q → HasMark z n f new j q
  old_mark z n extra has q j gone (inl x) =
      inl (x.0, more x.0 j x.1, subst (In _) (sym has.0) (in_front _ (moment_of h).marks extra x.2))
  old_mark z n extra has q j gone (inr x) = inr (x.0, gone x.0 x.1)

  -- where none is performed
  pub none_performed : (es : List Event) (extra : List Mark) → AreAll PerformsNone es →
      (Lawful s es → (q : ℕ) → s.layout.coded q ≡ false → Disturbed (after_all s es) q → Gone s q → Gone (after_all s es) q) →
      Effects es extra
  none_performed es extra none gone n has l = (
    has.1,
    λ q d.
        let c = came_all s es none q d in
        subst (λ (j : ℕ). HasMark (after_all s es) n f new j q) c.1
        (old_mark (after_all s es) n extra has q c.0.0 (λ zero_ x. gone l q (plain q zero_) d x) (shown.marks q c.0)),
  )

  -- where a client's WRITE is
  module _ (p : Posted) (es : List Event) (x : IsPerforming s w f p.message es) (number : ℕ)
      (posted : slice_get w.network.messages number ≡ Some p) where
    abbrev of_write : InRun x.write s.writes × (x.write.holder ≡ x.client) × (x.write.nonce ≡ x.command.nonce)
        × (x.write.at ≡ x.component)
    of_write = found_write x.client x.component x.command.nonce s.writes x.write x.written

    tied : HasItsEntry (log_in h) s f pairs number x.component x.command x.write
    tied =
        let at = found x.drive x.command.object f.kept.components x.component x.found in
        writes number x.client x.drive x.component x.command at.component (record {
          posted = p;
          there = posted;
          sender = x.sender;
          receiver = x.receiver;
          reads = x.reads;
        }) x.action at.there (sym at.object_is) x.stands x.write of_write.0 of_write.1 of_write.2 of_write.3

    abbrev marks : ℕ → List Mark
    marks i = marks_of w.server.files x.drive x.command.object x.command.offset i

    new_mark : (n : Moment) → HasMore w h (marks tied.entry) n → (q : ℕ) (d : Disturbed (after s (Performs x.write)) q) →
        IsOfWrite s x.write q d → HasMark (after s (Performs x.write)) n f new d.0 q
    new_mark n has q d is =
        let at : d.1 ≡ x.component = is.1 ∙ of_write.3 in
        let start : s.start d.0 ≡ s.start x.write.entry = ap s.start is.0 in
        let content : (s.start x.write.entry).content x.component d.2 ≡ Some d.3 =
        sym (ap (λ (y : machine.Start). y.content x.component d.2) start)
        ∙ sym (ap (λ (j : ℕ). (s.start d.0).content j d.2) at) ∙ d.8 in
        let part : (s.start x.write.entry).part x.component d.2 ≡ x.write.part =
        ap (λ (j : ℕ). (s.start x.write.entry).part j d.2) (sym of_write.3) ∙ is.2 in
        let column : column_of_cell f.kept.map x.component d.2 ≡ q =
        ap (λ (j : ℕ). column_of_cell f.kept.map j d.2) (sym at)
        ∙ sym (ap (λ (y : Layout). y.cell_col d.1 d.2) follows.related.layout) ∙ d.9 in
        let stripe = sym (ap (stripe_of_column f.kept.map) column)
        ∙ stripe_there f.kept.map x.component d.2 x.command.offset (map_checked book w h m count f g s follows)
        (tied.unit d.2 d.3 content part) in
        inl (
          tied.entry,
          more tied.entry d.0 (subst (λ (j : ℕ). In (tied.entry, j) pairs) (sym is.0) tied.pair),
          subst (In _) (sym has.0)
              (in_behind _ (moment_of h).marks (marks tied.entry)
              (subst (λ (st : ℕ). In (record { file = f.kept.number; stripe = st; entry = tied.entry }) (marks tied.entry))
              (sym stripe)
              (in_marks w.server.files f x.drive x.command.object x.command.offset tied.entry x.component
              (file_in w.server.files f.kept.number f follows.there) x.found))),
        )

    by_write : (n : Moment) → HasMore w h (marks tied.entry) n → Lawful s (Performs x.write ∷ []) →
        Shows (after s (Performs x.write)) n
    by_write n has l = (
      has.1,
      λ q d. elim (performed_came s x.write q d) [
        | inr is ↦ new_mark n has q d is
        | inl b ↦
            subst (λ (j : ℕ). HasMark (after s (Performs x.write)) n f new j q) b.1
            (old_mark (after s (Performs x.write)) n (marks tied.entry) has q b.0.0
            (λ zero_ gone.
            gone_stays s (Performs x.write) l.0 (sure_run s code follows.run) q (plain q zero_) b.0 gone)
            (shown.marks q b.0))
      ],
    )

    -- if its line has the marks of the entry
    pub one_performed : (extra : List Mark) →
        ((i : ℕ) → at_number (log_in h).writes number ≡ Some i → extra ≡ marks i) → Effects es extra
    one_performed extra is n has l =
        subst (λ (ys : List Event). Shows (after_all s ys) n) (sym x.are)
        (by_write n
        (subst (λ (ks : List Mark). HasMore w h ks n) (is tied.entry tied.logged) has)
        (subst (Lawful s) x.are l))
