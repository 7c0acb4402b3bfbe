-- What is kept follows the moments of a history step by step.
use Rattle.std.proofs.Common.{◌≡◌, ◌||◌, ◌<◌, ℕ, ◌&&◌, ◌∷◌, List, Bool, true, false, not, Option, Some, None, is_some, length, map, refl, sym, ap, subst, ◌∙◌, inl, inr, if◌then◌else◌}
use Rattle.std.specs.Prelude.{nat_lt}
use Rattle.std.specs.List.{fold, list_any}
use Rattle.std.proofs.lemmas.Bool.{cases_Bool}
use Rattle.osd_lists.proofs.Tests.{without_second}
use Rattle.osd_objects.proofs.Entries.{some_there}
use Rattle.data_map.specs.declared.check.RawMap.{RawMap}
use Rattle.data_map.specs.Striping.{parities}
use Rattle.scenario_text.specs.declared.line.Line.{Line}
use Rattle.server_rules.specs.Files.{Step as ServerStep, file_at}
use Rattle.server_rules.specs.Numbers.{among}
use Rattle.world_history.specs.declared.messages.Sent.{Sent}
use Rattle.world_history.specs.ServerNames.{Server, File, Kept, Mended}
use Rattle.world_history.specs.State.{at_number}
use Rattle.world_history.specs.Reading.{Step}
use Rattle.world_history.specs.ReadLog.{Log, log_after}
use Rattle.world_history.specs.Stripes.{Moment, is_short_stripe, is_calm}
use Rattle.world_history.specs.Book.{server_step, server_behind}
use Rattle.world_history.specs.Calm.{Seen, Watched, watched, returned_at, is_told_taken, takes_loss, mended_in, begun_file, server_begins, begins as begins_there, through, taken_by as taken_there, performed_at, failed_after}
use Rattle.world_calm.specs.declared.calls.LogEntry.{LogEntry}
use Rattle.world_calm.specs.declared.calm.Performed.{Performed}
use Rattle.world_calm.specs.declared.files.SeenFile.{SeenFile}
use Rattle.world_calm.specs.Log.{LogState}
use Rattle.world_calm.specs.Files.{FilesState, seen_as, is_short_at}
use Rattle.world_calm.specs.declared.marks.Marked.{Marked}
use Rattle.world_calm.specs.Marking.{is_left, is_live_in, any_harmed}
use Rattle.world_calm.specs.Seeing.{CalmState, KeptOf, taken_if, taken_by, takes, opened, performs, begun, looked_at, is_fail, notes, follows, begins}
use Rattle.component_law.specs.Words.{is_there}
use Rattle.calm_law.specs.Words.{seen_in, kept_in, IsKeptOf}
use Rattle.calm_law.specs.Files.{KeepsFiles, IsTold}
use Rattle.component_law.specs.ShownFiles.{shows_file}
use Rattle.calm_law.specs.Logs.{view, KeepsLog}
use Rattle.calm_law.specs.Marks.{IsReal, KeepsMarks, HaveMaps}
use Rattle.calm_law.specs.Harms.{AreLeft, HaveGrants, KeepsMoment}
use Rattle.calm_law.specs.Flagging.{AreReal}
use Rattle.calm_law.specs.Following.{Follows, StepFacts, seen_then, FollowsOn}
use Rattle.component_law.proofs.Lists.{each_more, each_found, map_length}
use Rattle.calm_law.proofs.Noting.{short_alike}
use Rattle.calm_law.proofs.CalmShowing.{steps_alike}
use Rattle.calm_law.proofs.Taking.{taken_alike}
use Rattle.calm_law.proofs.Marking.{taken_marks}
use Rattle.calm_law.proofs.Harming.{calm_alike}
use Rattle.calm_law.proofs.Flagging.{begin_is_seen}
use Rattle.calm_law.proofs.Beginning.{opened_files, opened_stopped, opened_rest, taken_writes, performs_leaves, performed_come, left_marks, are_left, begun_keeps}
use Rattle.calm_law.proofs.CalmTelling.{Told, all_told}
use Rattle.calm_law.proofs.Ending.{Ends, all_end, rebased, quiet_still}

-- ---- a report leaves files and clients

told_rest : (c : CalmState) (told : Bool) (g : ℕ)
    → ((taken_if c told g).files ≡ c.files) × ((taken_if c told g).stopped ≡ c.stopped)
told_rest c true g = (refl, refl)
told_rest c false g = (refl, refl)

taken_rest : (c : CalmState) (rest : List Line) (o : Option ℕ)
    → ((taken_by c rest o).files ≡ c.files) × ((taken_by c rest o).stopped ≡ c.stopped)
taken_rest c rest None = (refl, refl)
taken_rest c rest (Some g) = told_rest c (is_told_taken rest) g

-- ---- the files at the first moment

-- each that was there is as it was but for its grants, which are those that the server keeps
abbrev Begun : (before now : List File) → KeptOf → Type 0
Begun before now kept =
    (n : ℕ) (old : File) → file_at before n ≡ Some old
    → (g : File) × (file_at now n ≡ Some g) × (seen_as g.kept ≡ seen_as old.kept)
    × (k : Kept) × (kept n ≡ Some k) × (k.grants ≡ g.kept.grants)

begin_server : (sv : Server) (told : Bool) (did : Option ServerStep) (kept : KeptOf)
    → HaveMaps sv.files (server_behind sv did).files → IsKeptOf (server_behind sv did).files kept
    → (takes_loss did ≡ true → told ≡ true) → Begun sv.files (server_begins sv told did).files kept
begin_server sv told None kept maps k t n old e = (old, e, refl, old.kept, k n ∙ ap kept_in e, refl)
begin_server sv told (Some d) kept maps k t n old e =
    let none : (takes_loss (Some d) && not told) ≡ false = untold (takes_loss (Some d)) told t in
    let a : (g : File) × (file_at d.state.files n ≡ Some g)
    × (file_at (map (begun_file false sv.files) d.state.files) n
    ≡ Some (record g { kept = record g.kept { components = old.kept.components } })) × (g.kept.map ≡ old.kept.map) =
    begun_keeps sv.files d.state.files n old maps e in
    rw none (
      record a.0 { kept = record a.0.kept { components = old.kept.components } },
      a.2,
      ap (λ (m : RawMap). record (seen_as old.kept) { map = m }) a.3,
      a.0.kept,
      k n ∙ ap kept_in a.1,
      refl,
    )
  where
    untold : (a b : Bool) → (a ≡ true → b ≡ true) → (a && not b) ≡ false
    untold true b f = rw (f refl) refl
    untold false b f = refl

begun_files : (before now : List File) (kept : KeptOf) (fallen : List ℕ) (t : FilesState) → Begun before now kept
    → KeepsFiles before before fallen t → KeepsFiles before now fallen t
begun_files before now kept fallen t b h = record {
  files = λ n i.
      let a : (x : File) × (file_at before n ≡ Some x) = some_there (file_at before n) i in
      let g : _ = b n a.0 a.1 in
      h.files n i ∙ ap seen_in a.1 ∙ ap (λ (x : SeenFile). Some x) (sym g.2) ∙ sym (ap seen_in g.1);
  others = h.others;
  failed = h.failed;
  sorted = h.sorted;
}

begun_maps : (before now : List File) (kept : KeptOf) → Begun before now kept → HaveMaps before now
begun_maps before now kept b n f e =
    let g : _ = b n f e in
    (g.0, g.1, ap (λ (x : SeenFile). x.map) g.2)

begun_grants : (before now : List File) (kept : KeptOf) → Begun before now kept → HaveGrants before now kept
begun_grants before now kept b n f i e =
    let a : (x : File) × (file_at before n ≡ Some x) = some_there (file_at before n) i in
    let g : _ = b n a.0 a.1 in
    let same : g.0 ≡ f = cc (sym g.1 ∙ e) in
    (g.3, g.4, g.5 ∙ ap (λ (x : File). x.kept.grants) same)

-- ---- the first moment

looked_keeps : (there : List File) (kept : KeptOf) (m : Moment) (c : CalmState) (head : Line)
    → KeepsMoment there kept m c → KeepsMoment there kept m (looked_at c head)
looked_keeps there kept m c head h = elim (cases_Bool (is_fail head)) [
  | inl t ↦ rw t (record {
    files = h.files;
    maps = h.maps;
    grants = h.grants;
    stopped = h.stopped;
    log = h.log;
    marks = h.marks;
    left = h.left;
  })
  | inr z ↦ rw z h
]

begin_keeps : (s : Seen) (t : Step) (did : Option ServerStep) (kept : KeptOf) (rs : List Mended) (ms : List Sent)
    (p : Option Performed) (c : CalmState) → Follows s c → StepFacts s t did kept rs ms p
    → KeepsMoment s.moment.server.files kept (begins_there s t did) (begins kept c ms t.head t.rest p)
begin_keeps s t did kept rs ms p c h f =
    let c1 : CalmState = takes c ms t.head t.rest in
    let c2 : CalmState = opened c1 t.head in
    let c3 : CalmState = performs kept c2 ms p in
    let fs : List File = s.moment.server.files in
    let tr : (c1.files ≡ c.files) × (c1.stopped ≡ c.stopped) = taken_rest c t.rest (returned_at ms t.head) in
    let o2 : (c2.log ≡ c1.log) × (c2.marks ≡ c1.marks) = opened_rest c1 t.head in
    let lv : _ = performs_leaves kept c2 ms p in
    let l1 : Log = taken_there s.moment.log (is_told_taken t.rest) (returned_at s.server.sent t.head) in
    let log1 : KeepsLog l1 c1.log =
    subst (λ (x : Option ℕ). KeepsLog (taken_there s.moment.log (is_told_taken t.rest) x) c1.log) f.returned
    (taken_alike s.moment.log c t.rest (returned_at ms t.head) h.log) in
    let marks1 : KeepsMarks fs c1.log.entries s.moment.marks c1.marks =
    taken_marks fs s.moment.marks c t.rest (returned_at ms t.head) h.marks in
    let log2 : KeepsLog l1 c2.log = subst (KeepsLog l1) (sym o2.0) log1 in
    let marks2 : KeepsMarks fs c2.log.entries s.moment.marks c2.marks =
    subst (λ (g : LogState). KeepsMarks fs g.entries s.moment.marks c2.marks) (sym o2.0)
    (subst (KeepsMarks fs c1.log.entries s.moment.marks) (sym o2.1) marks1) in
    let files2 : KeepsFiles fs fs (failed_after s.moment.failed t.head) c2.files =
    opened_files fs fs s.moment.failed c1 t.head (subst (KeepsFiles fs fs s.moment.failed) (sym tr.0) h.files) in
    let sent : c2.log.sent_for ≡ s.moment.log.writes =
    log2.sent_for ∙ taken_writes s.moment.log (is_told_taken t.rest) (returned_at s.server.sent t.head) in
    let long : length c2.log.entries ≡ length l1.entries =
    ap (λ (x : List LogEntry). length x) log2.entries ∙ map_length view l1.entries in
    let below : (k n : ℕ) → at_number s.moment.log.writes k ≡ Some n → n < length c2.log.entries =
    λ k n e.
    let b : (j : ℕ) × (k ≡ j) × (n < length l1.entries) =
    each_found (λ (x : ℕ × ℕ). x.1 < length l1.entries) l1.writes k n log2.below
    (ap (λ (x : List (ℕ × ℕ)). at_number x k)
    (taken_writes s.moment.log (is_told_taken t.rest) (returned_at s.server.sent t.head)) ∙ e) in
    rw long b.2 in
    let marks3 : KeepsMarks fs c2.log.entries (begins_there s t did).marks c3.marks =
    performed_come kept fs (failed_after s.moment.failed t.head) s.moment.marks c2 f.distinct f.components files2 marks2
    s.moment s.server.sent ms (performed_at s.server.sent s.injected t.head) p refl f.performed sent below in
    let b : Begun fs (begins_there s t did).server.files kept =
    subst (λ (v : Server). Begun v.files (begins_there s t did).server.files kept) (sym h.server)
    (begin_server s.server.server (is_told_taken t.rest) did kept
    (subst (λ (v : Server). HaveMaps v.files (server_behind s.server.server did).files) h.server f.maps) f.keeps f.told) in
    looked_keeps fs kept (begins_there s t did) (begun kept c3) t.head (record {
      files = begun_files fs (begins_there s t did).server.files kept (failed_after s.moment.failed t.head) c3.files b
          (subst (KeepsFiles fs fs (failed_after s.moment.failed t.head)) (sym lv.files) files2);
      maps = begun_maps fs (begins_there s t did).server.files kept b;
      grants = begun_grants fs (begins_there s t did).server.files kept b;
      stopped = λ d. ap (among d) lv.stopped
          ∙ opened_stopped c1 s.moment.stopped t.head (λ e. ap (among e) tr.1 ∙ h.stopped e) d;
      log = subst (KeepsLog l1) (sym lv.log) log2;
      marks = left_marks fs c3.log.entries (begins_there s t did).marks kept c3.stopped c3.marks
          (subst (λ (g : LogState). KeepsMarks fs g.entries (begins_there s t did).marks c3.marks) (sym lv.log) marks3);
      left = are_left kept c3.stopped c3.marks;
    })

begin_told : (s : Seen) (t : Step) (did : Option ServerStep) (kept : KeptOf) (rs : List Mended) (ms : List Sent)
    (p : Option Performed) (c : CalmState) → Follows s c → StepFacts s t did kept rs ms p
    → Told s.moment.server.files kept (watched (record { moment = s.moment; calm = s.calm }) (begins_there s t did))
    (begins kept c ms t.head t.rest p)
begin_told s t did kept rs ms p c h f =
    let k : KeepsMoment s.moment.server.files kept (begins_there s t did) (begins kept c ms t.head t.rest p) =
    begin_keeps s t did kept rs ms p c h f in
    let real : AreReal c =
    each_more (λ m. IsReal c.log.entries m × (is_there s.moment.server.files m.file ≡ true)) (IsReal c.log.entries)
    (λ m r. r.0) c.marks h.marks.real in
    let flag : (begins kept c ms t.head t.rest p).calm ≡ (c.calm && not (any_harmed (begins kept c ms t.head t.rest p).files
    (begins kept c ms t.head t.rest p).marks)) = begin_is_seen kept c ms t.head t.rest p h.quiet real in
    record {
      moment = k;
      calm = flag ∙ ap (λ (b : Bool). c.calm && b)
          (sym (calm_alike s.moment.server.files kept (begins_there s t did) (begins kept c ms t.head t.rest p) k))
          ∙ ap (λ (b : Bool). b && is_calm (begins_there s t did)) h.calm;
      quiet = λ e. without_second c.calm (any_harmed (begins kept c ms t.head t.rest p).files
          (begins kept c ms t.head t.rest p).marks) (sym flag ∙ e);
    }

-- ---- behind the step

-- by what is kept the step shows what its lines show
shown_told : (there noted behind : List File) (fallen : List ℕ) (t : FilesState) (lines : List Line)
    → HaveMaps there noted → KeepsFiles there noted fallen t
    → ((n : ℕ) → list_any (shows_file (is_there there n) behind n) lines ≡ false
    → seen_in (file_at behind n) ≡ seen_then there noted n)
    → IsTold t behind lines
shown_told there noted behind fallen t lines maps h f n e = elim (cases_Bool (is_there there n)) [
  | inl i ↦
      let a : (x : File) × (file_at there n ≡ Some x) = some_there (file_at there n) i in
      let g : (y : File) × (file_at noted n ≡ Some y) × (y.kept.map ≡ a.0.kept.map) = maps n a.0 a.1 in
      let some : is_some (at_number t.files n) ≡ true =
      ap (λ (o : Option SeenFile). is_some o) (h.files n i ∙ ap seen_in g.1) in
      f n (ap (λ (b : Bool). list_any (shows_file b behind n) lines) (i ∙ sym some) ∙ e)
      ∙ ap (λ (b : Bool). if b then seen_in (file_at noted n) else None) i ∙ sym (h.files n i)
  | inr z ↦
      let none : is_some (at_number t.files n) ≡ false =
      ap (λ (o : Option SeenFile). is_some o) (h.others n z) in
      f n (ap (λ (b : Bool). list_any (shows_file b behind n) lines) (z ∙ sym none) ∙ e)
      ∙ ap (λ (b : Bool). if b then seen_in (file_at noted n) else None) z ∙ sym (h.others n z)
]

-- a stripe is short there and behind the step
same_short : (there noted behind : List File) (m : Moment) (after : Server) (t u : FilesState) (n s : ℕ)
    → m.server.files ≡ noted → after.files ≡ behind → HaveMaps there noted → HaveMaps there behind
    → KeepsFiles there noted m.failed t → KeepsFiles behind behind m.failed u
    → ((f g : File) → file_at noted n ≡ Some f → file_at behind n ≡ Some g
    → is_short_stripe m g s ≡ is_short_stripe m f s)
    → is_there there n ≡ true → is_short_at u n s ≡ is_short_at t n s
unfolding is_short_stripe
same_short there noted behind m after t u n s e d maps more h k steady i =
    let a : (x : File) × (file_at there n ≡ Some x) = some_there (file_at there n) i in
    let f : (y : File) × (file_at noted n ≡ Some y) × (y.kept.map ≡ a.0.kept.map) = maps n a.0 a.1 in
    let g : (y : File) × (file_at behind n ≡ Some y) × (y.kept.map ≡ a.0.kept.map) = more n a.0 a.1 in
    short_alike behind (record m { server = after }) u n s g.0
    (subst (λ (x : List File). KeepsFiles behind x m.failed u) (sym d) k)
    (ap (λ (o : Option File). is_some o) g.1) (ap (λ (x : List File). file_at x n) d ∙ g.1)
    ∙ ap (λ (b : Bool). nat_lt 0 (parities g.0.kept.map) && b) (steady f.0 g.0 f.1 g.1)
    ∙ ap (λ (x : RawMap). nat_lt 0 (parities x) && is_short_stripe m f.0 s) (g.2 ∙ sym f.2)
    ∙ sym (short_alike there m t n s f.0 (subst (λ (x : List File). KeepsFiles there x m.failed t) (sym e) h) i
    (ap (λ (x : List File). file_at x n) e ∙ f.1))

-- which writes are left hangs on what is kept of each file alone
left_as : (kept k : KeptOf) (stopped : List ℕ) (ms : List Marked) → ((n : ℕ) → kept n ≡ k n) → AreLeft kept stopped ms
    → AreLeft k stopped ms
left_as kept k stopped ms e h =
    each_more (λ (m : Marked). m.left ≡ is_left stopped kept m) (λ (m : Marked). m.left ≡ is_left stopped k m)
    (λ m q. q ∙ ap (λ (o : Option Kept). among m.client stopped || not (is_live_in m.grant o)) (e m.file)) ms h

pub follows_on : FollowsOn
follows_on s t kept rs ms p c h f =
    let did : Option ServerStep = server_step s.server t in
    let after : Server = server_behind s.server.server did in
    let fs : List File = s.moment.server.files in
    let w : Watched = through s t did in
    let cn : CalmState = fold (notes rs) (begins kept c ms t.head t.rest p) t.rest in
    let d : CalmState = fold (follows kept) cn (t.head ∷ t.rest) in
    let told : Told fs kept w cn =
    subst (λ (x : List Mended). Told fs kept w (fold (notes x) (begins kept c ms t.head t.rest p) t.rest)) (sym f.mended)
    (all_told (mended_in did) fs kept (watched (record { moment = s.moment; calm = s.calm }) (begins_there s t did))
    (begins kept c ms t.head t.rest p) t.rest (begin_told s t did kept rs ms p c h f)) in
    let e : Ends fs (fold log_after w.moment.log (t.head ∷ t.rest)) w.moment.marks cn d =
    all_end fs kept w.moment.log w.moment.marks cn (t.head ∷ t.rest) told.moment.log told.moment.marks in
    let files : KeepsFiles after.files after.files w.moment.failed d.files =
    steps_alike kept fs w.moment.server.files after.files w.moment.failed cn (t.head ∷ t.rest) told.moment.files f.keeps
    (shown_told fs w.moment.server.files after.files w.moment.failed cn.files (t.head ∷ t.rest) told.moment.maps
    told.moment.files f.shown) in
    record {
      server = refl;
      files = files;
      stopped = λ k. ap (among k) e.stopped ∙ told.moment.stopped k;
      log = e.log;
      marks = rebased fs after.files d.log.entries w.moment.marks d.marks f.maps e.marks;
      left = λ k q. left_as kept k d.stopped d.marks (λ n. f.keeps n ∙ sym (q n)) (e.left kept told.moment.left);
      calm = e.calm ∙ told.calm;
      quiet = λ q. quiet_still fs d.log.entries cn.files d.files d.marks
          (λ n k i. same_short fs w.moment.server.files after.files w.moment after cn.files d.files n k refl refl
          told.moment.maps f.maps told.moment.files files (λ x y a b. f.steady n k x y i a b) i)
          e.marks.real (e.quiet cn.files (told.quiet (sym e.calm ∙ q)));
    }
