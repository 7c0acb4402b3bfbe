-- The notes of a step of the server keep a run of the machine calm, and its moments beside it.
use Rattle.std.proofs.Common.{◌≡◌, ◌≤◌, ◌++◌, ℕ, zero, suc, Bool, true, false, List, [], ◌∷◌, take, map, Option, Some, None, refl, sym, ap, subst, inl, inr, arith, if◌then◌else◌}
use Rattle.std.specs.List.{fold}
use Rattle.std.proofs.lemmas.Bool.{cases_eq, eq-eqb, ne_eqb}
use Rattle.osd_lists.proofs.Tests.{first_true, second_true}
use Rattle.server_rules.specs.History.{Input}
use Rattle.server_rules.specs.Laws.{In}
use Rattle.server_rules.specs.Numbers.{among}
use Rattle.scenario_text.specs.declared.line.Note.{Note as ToldNote}
use Rattle.scenario_text.specs.declared.line.Line.{Line}
use Rattle.scenario_text.specs.declared.line.Line.TheVariants as line
use Rattle.world_history.specs.ServerNames as kinds
use Rattle.world_history.specs.ServerNames.{File, Mended, Grant, Note, NoteKind, Outgoing}
use Rattle.world_history.specs.State.{World, at_number}
use Rattle.world_history.specs.Names.{note_line}
use Rattle.world_history.specs.Told.{told_note}
use Rattle.world_history.specs.Stripes.{Moment, is_calm}
use Rattle.world_history.specs.Calm.{Watched, watches, moment_behind}
use Rattle.fence_law.specs.Columns.{IsCalm}
use Rattle.fence_law.specs.Law.{IsCode}
use Rattle.fence_law.specs.Machine.{Allowed, Lawful, after, after_all}
use Rattle.fence_law.specs.State.{State, Event}
use Rattle.fence_law.specs.State.Event.{Fenced, Refenced, Drops}
use Rattle.fence_law.proofs.Accepted.{Sure, keep_sure}
use Rattle.file_simulation.specs.Components.{has_failed}
use Rattle.file_simulation.specs.EventLists.{Lines, where_so}
use Rattle.file_simulation.specs.Events.{joined}
use Rattle.file_simulation.specs.ServerEvents as table
use Rattle.file_simulation.specs.ServerEvents.{notes_all, sends_all}
use Rattle.file_simulation.specs.Showing.{Pairs, IsRun}
use Rattle.relation_law.specs.Frames.{AreAll, LinesAre}
use Rattle.relation_law.proofs.CalmRuns.{calm_now}
use Rattle.relation_law.proofs.KeptNotes.{lawful_front, lawful_back, after_both}
use Rattle.relation_law.proofs.FramesStay.{all_joined, lines_taken}
use Rattle.headline_law.specs.Ending.{is_dangerous}
use Rattle.headline_law.specs.Watching.{IsSeen, Leaves, AllLeave}
use Rattle.headline_law.proofs.CalmAhead.{run_on, run_peaceful, run_rebuilt, sure_run, code_all}
use Rattle.headline_law.proofs.CalmEvents.{IsPeaceful, PerformsNone, LosesNone}
use Rattle.headline_law.proofs.CalmNotes.{FencesNone, seen_event, seen_on}
use Rattle.headline_law.proofs.CalmMoments.{on_own, on_other}
use Rattle.headline_law.proofs.CalmTold.{note_told}

-- ---- what is watched

line_calm : (rs : List Mended) (wd : Watched) (l : Line) → (watches rs wd l).calm ≡ true → wd.calm ≡ true
line_calm rs wd (line.Note n what) e = first_true wd.calm (is_calm (moment_behind rs wd.moment n what)) e
line_calm rs wd l e = e

lines_calm : (rs : List Mended) (wd : Watched) (ls : List Line) → (fold (watches rs) wd ls).calm ≡ true → wd.calm ≡ true
lines_calm rs wd [] e = e
lines_calm rs wd (l ∷ ls) e = line_calm rs wd l (lines_calm rs (watches rs wd l) ls e)

-- an event that leaves what is lost, and begins no fence and performs nothing
abbrev pub IsQuietly : Event → Type 0
IsQuietly e = IsPeaceful e × PerformsNone e × FencesNone e × LosesNone e

leave_taken : (n : ℕ) (ls : List Line) → AllLeave ls → AllLeave (take n ls)
leave_taken zero ls a = tt
leave_taken (suc n) [] a = tt
leave_taken (suc n) (l ∷ ls) a = (a.0, leave_taken n ls a.1)

-- Where a note may end calm, the machine behind it is calm if the moment is.
abbrev pub Handles : State → Moment → File → List Grant → Pairs → List Note → Type 0
Handles s m f grants pairs all =
    (x : Note) → In x all → x.file ≡ f.kept.number → is_dangerous x.kind ≡ true → (u : State) (o : Moment) → Sure u →
    IsSeen s m f grants pairs u o → is_calm o ≡ true → IsCalm u

module _ (s : State) (m : Moment) (f g : File) (grants : List Grant) (pairs : Pairs) (w : World) (i : Input)
    (known : (d : ℕ) → has_failed (at_number w.drives d) ≡ true → among d m.failed ≡ true) (rs : List Mended)
    (all : List Note) where
  abbrev At : State → Moment → Type 0
  At t n = IsSeen s m f grants pairs t n

  -- ---- events at one moment

  quiet_run : (t : State) (es : List Event) (n : Moment) → IsCode t.layout → IsRun t → AreAll IsQuietly es → Lawful t es →
      At t n → IsRun (after_all t es) × At (after_all t es) n
  quiet_run t [] n code run quiet l h = (run, h)
  quiet_run t (e ∷ es) n code run quiet l h =
      let sure : Sure t = sure_run t code run in
      let on : IsRun (after t e) = run_peaceful t (e ∷ []) code run (quiet.0.0, tt) (l.0, tt) in
      quiet_run (after t e) es n (code_all t (e ∷ []) code) on quiet.1 l.1
      (seen_event s m f grants pairs t e n l.0 sure quiet.0.1 quiet.0.2 quiet.0.3 h)

  -- ---- one note

  module _ (handles : Handles s m f grants pairs all) (x : Note) (there : In x all) (t : State) (n : Moment)
      (code : IsCode t.layout)
      (run : IsRun t) (h : At t n) where
    abbrev next : Moment
    next = moment_behind rs n x.file (told_note x.kind)

    -- one event
    dangerous : (e : Event) → Allowed t e → x.file ≡ f.kept.number → is_dangerous x.kind ≡ true → At (after t e) next →
        is_calm next ≡ true → IsRun (after t e)
    dangerous e a same danger behind calm =
        run_on t e run a
        (handles x there same danger (after t e) next (keep_sure t e a (calm_now t run) (sure_run t code run)) behind calm)

    fence_run : (again : Bool) → x.file ≡ f.kept.number → is_dangerous x.kind ≡ true →
        Lawful t ((if again then Refenced else Fenced) ∷ []) →
        At (after_all t ((if again then Refenced else Fenced) ∷ [])) next → is_calm next ≡ true →
        IsRun (after_all t ((if again then Refenced else Fenced) ∷ []))
    fence_run true same danger l behind calm = run_peaceful t (Refenced ∷ []) code run (tt, tt) l
    fence_run false same danger l behind calm = dangerous Fenced l.0 same danger behind calm

    space_run : (k : ℕ) (missing lost : Bool) → x.file ≡ f.kept.number → is_dangerous x.kind ≡ true →
        Lawful t (table.lacks_space missing lost k) → At (after_all t (table.lacks_space missing lost k)) next →
        is_calm next ≡ true → IsRun (after_all t (table.lacks_space missing lost k))
    space_run k true lost same danger l behind calm = run
    space_run k false true same danger l behind calm = run_peaceful t (table.lacks_space false true k) code run (tt, tt) l
    space_run k false false same danger l behind calm = dangerous (Drops k) l.0 same danger behind calm

    report_run : (k : ℕ) (o : Option ℕ) → Lawful t (table.reported k o) → IsRun (after_all t (table.reported k o))
    report_run k None l = run
    report_run k (Some c) l = run_peaceful t (table.reported k (Some c)) code run (tt, tt) l

    by_kind : (kind : NoteKind) → x.kind ≡ kind → x.file ≡ f.kept.number → Lawful t (table.noted_here t w f i kind) →
        At (after_all t (table.noted_here t w f i kind)) next → is_calm next ≡ true →
        IsRun (after_all t (table.noted_here t w f i kind))
    by_kind (kinds.Fenced tag) is same l behind calm = fence_run t.repairing same (ap is_dangerous is) l behind calm
    by_kind (kinds.NoSpace k) is same l behind calm =
        space_run k (t.missing k) (t.lost k) same (ap is_dangerous is) l behind calm
    by_kind (kinds.Repaired stripes short) is same l behind calm =
        run_peaceful t (table.noted_here t w f i (kinds.Repaired stripes short)) code run (tt, tt) l
    by_kind (kinds.Reported k) is same l behind calm = report_run k (table.asker i) l
    by_kind (kinds.Rebuilt k d) is same l behind calm = run_rebuilt t w f k d code run l
    by_kind kinds.Ready is same l behind calm = run
    by_kind (kinds.NoDrive k) is same l behind calm = run
    by_kind (kinds.Lost k p) is same l behind calm = run
    by_kind (kinds.Audit a b c d) is same l behind calm = run
    by_kind (kinds.Busy k) is same l behind calm = run
    by_kind kinds.Spent is same l behind calm = run

    note_run : Lawful t (table.noted t w f i x) → is_calm next ≡ true →
        IsRun (after_all t (table.noted t w f i x)) × At (after_all t (table.noted t w f i x)) next
    note_run l calm = (
      elim (cases_eq x.file f.kept.number) [
        | inl same ↦
            subst (λ (b : Bool). Lawful t (where_so b (table.noted_here t w f i x.kind)) →
            At (after_all t (where_so b (table.noted_here t w f i x.kind))) next →
            IsRun (after_all t (where_so b (table.noted_here t w f i x.kind)))) (sym (eq-eqb x.file f.kept.number same))
            (λ la b. by_kind x.kind refl same la b calm) l behind
        | inr other ↦
            subst (λ (b : Bool). IsRun (after_all t (where_so b (table.noted_here t w f i x.kind))))
            (sym (ne_eqb x.file f.kept.number other)) run
      ],
      behind,
    )
      where
        behind : At (after_all t (table.noted t w f i x)) next
        behind = note_told s m f grants pairs w known rs i t n x (sure_run t code run) (calm_now t run) l h

  -- ---- all notes, and the messages behind them

  -- the machine behind the first lines, and the moment
  abbrev Behind : State → Moment → Type 0
  Behind t n = IsRun t × At t n

  -- lines that leave the moment's files and marks
  lines_leave : (t : State) (ls : List Line) (wd : Watched) → AllLeave ls → At t wd.moment →
      At t (fold (watches rs) wd ls).moment
  lines_leave t [] wd leave h = h
  lines_leave t (l ∷ ls) wd leave h = lines_leave t ls (watches rs wd l) leave.1 (one l leave.0)
    where
      at_note : (n : ℕ) (what : ToldNote) → Leaves (line.Note n what) → At t (moment_behind rs wd.moment n what)
      at_note n what left = elim (cases_eq n f.kept.number) [
        | inl same ↦
            subst (λ (c : ℕ). At t (moment_behind rs wd.moment c what)) (sym same)
            (seen_on s m f grants pairs t wd.moment (moment_behind rs wd.moment f.kept.number what) h.file h
            (on_own f.kept.number rs wd.moment h.file h.there what h.file.kept.components left.0
            (left.1 h.file.kept.components) refl) h.lost)
        | inr other ↦
            seen_on s m f grants pairs t wd.moment (moment_behind rs wd.moment n what) h.file h
            (on_other f.kept.number rs wd.moment h.file h.there n what other) h.lost
      ]

      one : (x : Line) → Leaves x → At t (watches rs wd x).moment
      one (line.Note n what) left = at_note n what left
      one x left = h

  module _ (handles : Handles s m f grants pairs all) (os : List Outgoing)
      (quiet : (t : State) → LinesAre IsQuietly (sends_all t w.server g i os)) (more : List Line) (leave : AllLeave more) where
    sends_run : (j : ℕ) (t : State) (wd : Watched) → IsCode t.layout →
        Lawful t (joined (take j (sends_all t w.server g i os))) → Behind t wd.moment →
        Behind (after_all t (joined (take j (sends_all t w.server g i os)))) (fold (watches rs) wd (take j more)).moment
    sends_run j t wd code l h =
        let lines : Lines = take j (sends_all t w.server g i os) in
        let r = quiet_run t (joined lines) wd.moment code h.0
        (all_joined IsQuietly lines (lines_taken IsQuietly j (sends_all t w.server g i os) (quiet t))) l h.1 in
        (r.0, lines_leave (after_all t (joined lines)) (take j more) wd (leave_taken j more leave) r.1)

    pub notes_run : (ns : List Note) (j q : ℕ) (t : State) (wd : Watched) → j ≤ q → ((x : Note) → In x ns → In x all) →
        IsCode t.layout → Lawful t (joined (take j (notes_all t w f g i os ns))) →
        (fold (watches rs) wd (take q (map note_line ns ++ more))).calm ≡ true → Behind t wd.moment →
        Behind (after_all t (joined (take j (notes_all t w f g i os ns))))
        (fold (watches rs) wd (take j (map note_line ns ++ more))).moment
    unfolding notes_all
    notes_run [] j q t wd low in_all code l calm h = sends_run j t wd code l h
    notes_run (x ∷ ns) zero q t wd low in_all code l calm h = h
    notes_run (x ∷ ns) (suc j) zero t wd low in_all code l calm h = absurd (omega (arith, low))
    notes_run (x ∷ ns) (suc j) (suc q) t wd low in_all code l calm h =
        let es : List Event = table.noted t w f i x in
        let u : State = after_all t es in
        let wd_behind : Watched = watches rs wd (note_line x) in
        let watched_calm : wd_behind.calm ≡ true = lines_calm rs wd_behind (take q (map note_line ns ++ more)) calm in
        let now : is_calm (moment_behind rs wd.moment x.file (told_note x.kind)) ≡ true =
        second_true wd.calm (is_calm (moment_behind rs wd.moment x.file (told_note x.kind))) watched_calm in
        let rest : Lines = notes_all u w f g i os ns in
        let on = note_run handles x (in_all x (inl refl)) t wd.moment code h.0 h.1
        (lawful_front t es (joined (take j rest)) l) now in
        subst (λ (z : State). Behind z (fold (watches rs) wd_behind (take j (map note_line ns ++ more))).moment)
        (sym (after_both t es (joined (take j rest))))
        (notes_run ns j q u wd_behind (omega (arith, low)) (λ y k. in_all y (inr k)) (code_all t es code)
        (lawful_back t es (joined (take j rest)) l) calm on)
