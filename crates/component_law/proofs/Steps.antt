-- What becomes of the files in each step.
use Rattle.std.proofs.Common.{◌≡◌, ℕ, ◌<◌, ◌==◌, ◌&&◌, ◌∷◌, [], List, Bool, true, false, Option, Some, None, find, is_some, if◌then◌else◌, map, nat_le, nat_lt, refl, sym, ap, ◌∙◌, inl, inr, eq-eqb, ne_eqb}
use Rattle.std.proofs.lemmas.Bool.{cases_Bool}
use Rattle.osd_lists.specs.declared.node.Node.{Node}
use Rattle.osd_lists.specs.declared.node.Node.TheVariants.{Server as FromServer, Drive as FromDrive, Client as FromClient}
use Rattle.scenario_text.specs.declared.names.TheConstants.{DRIVES}
use Rattle.server_rules.specs.declared.limits.TheConstants.{MAX_CLIENT, GREATEST_TAG}
use Rattle.server_rules.specs.Slots.{Admit, New, Again, Misordered, admit, slot_of}
use Rattle.server_rules.specs.Going.{Going, noting}
use Rattle.server_rules.specs.Jobs.{declares, fence_begins}
use Rattle.server_rules.specs.Replies.{on_reply}
use Rattle.server_rules.specs.Get.{lowest}
use Rattle.server_rules.specs.Files.{Step, file_at, put_file, at_file, begins}
use Rattle.server_rules.specs.Requests.{serves, carries_out, by_admit, on_request}
use Rattle.server_rules.specs.Making.{add_drive}
use Rattle.server_rules.specs.Zoning.{put_in_zone}
use Rattle.server_rules.specs.Messages.{heard_at, or_else, by_heard, on_drive_reply, Message, Asks, Replies, Orders, handled, on_message, counters_have_room}
use Rattle.server_rules.specs.Orders.{begins_job, starts, recalls_on, offline, declares_each, declare, declares_known, ordered}
use Rattle.server_rules.specs.History.{Input, Hears, Makes, Obeys, Adds, Zones, Formats, Resends, Crashes, Opens, step}
use Rattle.server_rules.specs.Openings.{crashed_file, opens, opens_each, reopen}
use Rattle.server_rules.proofs.FileLaws.{number_at}
use Rattle.world_history.specs.ServerNames.{Server, File, Drive, Note, Effects, Job, JobKind, ClientRequest, Reply, OrderKind, ToRecall, ToRevoke, ToDeclare, ToRebuild, ToAudit, Revoking, Rebuilding, Auditing, Busy, Spent}
use Rattle.component_law.specs.Words.{Each}
use Rattle.component_law.specs.Distinct.{AreDistinct}
use Rattle.component_law.specs.Sound.{IsAimed, IsSound}
use Rattle.component_law.specs.Naming.{IsNamedInput}
use Rattle.component_law.specs.Going.{declared_by, declared_in, if_known, taken_out}
use Rattle.component_law.proofs.Components.{alike_same}
use Rattle.component_law.proofs.FileNotes.{tells_plain, tells_first}
use Rattle.component_law.proofs.Targets.{AreKnown}
use Rattle.component_law.proofs.Jobs.{ends_fence}
use Rattle.component_law.proofs.Serving.{EndsOut, ends_reply, ends_declares, ends_opened, ends_served}
use Rattle.component_law.proofs.Rounds.{WentAs, WentEach, went_plain, went_out, went_put, stays_each, each_at}

-- ---- a step

-- Its files went on, the one drive or none was taken out, and lines can name the drives.
abbrev pub Went : (out : Option ℕ) → Server → Step → Type 0
Went out s did = record {
  each : WentEach out s.files [] did.state.files did.notes;
  known : AreKnown did.state.drives;
}

-- nothing happens to files
went_still : (s : Server) → IsSound s → Went None s (record { state = s; sends = []; notes = []; mended = [] })
went_still s h = record { each = stays_each s.files [] h.aimed; known = h.drives }

-- one file goes on
went_one : (s : Server) (m : ℕ) (f g : File) (after : List Note) → IsSound s → file_at s.files m ≡ Some f
    → WentAs None f [] g after → WentEach None s.files [] (put_file s.files m g) after
went_one s m f g after h e w = went_put s.files m f g [] after h.aimed e w

aimed_at : (s : Server) (n : ℕ) (f : File) → IsSound s → file_at s.files n ≡ Some f → IsAimed f
aimed_at s n f h e = each_at IsAimed s.files n f h.aimed e

-- ---- a request

went_carried : (s : Server) (now : ℕ) (chosen : List ℕ) (q : ClientRequest) (p : Option File)
    → file_at s.files q.file ≡ p → IsSound s → Went None s (carries_out s now chosen q p)
went_carried s now chosen q None e h = record { each = stays_each s.files [] h.aimed; known = h.drives }
went_carried s now chosen q (Some f) e h = record {
  each = went_one s q.file f _ _ h e
      (went_plain f [] (serves (at_file s chosen f) s.next_grant s.format now q.client q.args).going
      (ends_served (at_file s chosen f) s.next_grant s.format now q.client q.args h.drives (aimed_at s q.file f h e)));
  known = h.drives;
}

went_admitted : (s : Server) (now : ℕ) (chosen : List ℕ) (q : ClientRequest) (a : Admit) → IsSound s
    → Went None s (by_admit s now chosen q a)
went_admitted s now chosen q New h = went_carried s now chosen q (file_at s.files q.file) refl h
went_admitted s now chosen q (Again kept) h =
    record { each = stays_each s.files [] h.aimed; known = h.drives }
went_admitted s now chosen q (Misordered expected) h =
    record { each = stays_each s.files [] h.aimed; known = h.drives }

went_request : (s : Server) (now : ℕ) (chosen : List ℕ) (q : ClientRequest) → IsSound s
    → Went None s (on_request s now chosen q)
unfolding on_request
went_request s now chosen q h = went_admitted s now chosen q (admit (slot_of s.slots q.client) q.sequence) h

-- ---- a reply

-- the first of these files, with the number of the file that heard it
abbrev HeardAs : List File → Option Going → Type 0
HeardAs fs None = Unit {0}
HeardAs fs (Some g) = (f : File) × (file_at fs f.kept.number ≡ Some f) × WentAs None f [] g.file g.effects.notes

heard_first : (s : Server) (chosen : List ℕ) (f : File) (fs : List File) (o p : Option Going)
    → EndsOut f.kept [] o → AreDistinct (f ∷ fs) → HeardAs fs p → HeardAs (f ∷ fs) (or_else o p)
unfolding file_at
heard_first s chosen f fs (Some g) p e d h =
    (f, rw (eq-eqb f.kept.number f.kept.number refl) refl, went_plain f [] g e)
heard_first s chosen f fs None None e d h = tt
heard_first s chosen f fs None (Some g) e d h = (
  h.0,
  rw (ne_eqb f.kept.number h.0.kept.number (λ q. each_at (λ (x : File). x.kept.number ≡ f.kept.number → ⊥) fs
      h.0.kept.number h.0 d.0 h.1 (sym q))) h.1,
  h.2,
)

heard_as : (s : Server) (chosen : List ℕ) (drive : ℕ) (r : Reply) (fs : List File) → AreKnown s.drives → AreDistinct fs
    → Each IsAimed fs → HeardAs fs (heard_at s chosen drive r fs)
unfolding heard_at
heard_as s chosen drive r [] known d a = tt
heard_as s chosen drive r (f ∷ fs) known d a =
    heard_first s chosen f fs (on_reply (at_file s chosen f) drive r) (heard_at s chosen drive r fs)
    (ends_reply (at_file s chosen f) drive r known a.0) d (heard_as s chosen drive r fs known d.1 a.1)

went_heard : (s : Server) (p : Option Going) → IsSound s → HeardAs s.files p → Went None s (by_heard s p)
went_heard s None h w = went_still s h
went_heard s (Some g) h w = record {
  each = went_one s g.file.kept.number w.0 g.file g.effects.notes h
      (ap (λ (n : ℕ). file_at s.files n) w.2.number ∙ w.1) w.2;
  known = h.drives;
}

went_reply : (s : Server) (chosen : List ℕ) (drive : ℕ) (r : Reply) → IsSound s
    → Went None s (on_drive_reply s chosen drive r)
unfolding on_drive_reply
went_reply s chosen drive r h =
    went_heard s (heard_at s chosen drive r s.files) h (heard_as s chosen drive r s.files h.drives h.distinct h.aimed)

-- ---- an order

went_job : (s : Server) (chosen : List ℕ) (kind : JobKind) (n : ℕ) (f : File) (j : Option Job) → IsSound s
    → file_at s.files n ≡ Some f → Went None s (begins_job s chosen kind f j).step
went_job s chosen kind n f (Some j) h e = record {
  each = went_one s f.kept.number f _ _ h (ap (λ (x : ℕ). file_at s.files x) (number_at s.files n f e) ∙ e)
      (went_plain f [] (noting (at_file s chosen f) (Busy (lowest j.awaited))) (
        tells_plain f.kept [] (at_file s chosen f) (Busy (lowest j.awaited)) (λ cs. refl) refl refl refl
            (tells_first (at_file s chosen f)),
        aimed_at s n f h e,
      ));
  known = h.drives;
}
went_job s chosen kind n f None h e = elim (cases_Bool (f.kept.tag == GREATEST_TAG)) [
  | inl t ↦ rw t (record {
    each = went_one s f.kept.number f _ _ h (ap (λ (x : ℕ). file_at s.files x) (number_at s.files n f e) ∙ e)
        (went_plain f [] (noting (at_file s chosen f) Spent) (
          tells_plain f.kept [] (at_file s chosen f) Spent (λ cs. refl) refl refl refl (tells_first (at_file s chosen f)),
          aimed_at s n f h e,
        ));
    known = h.drives;
  })
  | inr z ↦ rw z (record {
    each = went_one s f.kept.number f _ _ h (ap (λ (x : ℕ). file_at s.files x) (number_at s.files n f e) ∙ e)
        (went_plain f [] (fence_begins kind s.format (at_file s chosen f))
        (ends_fence f.kept [] kind s.format (at_file s chosen f) (tells_first (at_file s chosen f)) h.drives));
    known = h.drives;
  })
]

went_starts : (s : Server) (chosen : List ℕ) (kind : JobKind) (n : ℕ) (p : Option File) → IsSound s
    → file_at s.files n ≡ p → Went None s (starts s chosen kind p).step
went_starts s chosen kind n None h e = went_still s h
went_starts s chosen kind n (Some f) h e = went_job s chosen kind n f f.job h e

went_recalls : (s : Server) (p : Option File) → IsSound s → Went None s (recalls_on s p).step
went_recalls s None h = went_still s h
went_recalls s (Some f) h = record { each = stays_each s.files [] h.aimed; known = h.drives }

known_offline : (ds : List Drive) (drive : ℕ) → AreKnown ds → AreKnown (offline ds drive)
unfolding offline
known_offline [] drive h = tt
known_offline (d ∷ ds) drive h = elim (cases_Bool (d.number == drive)) [
  | inl t ↦ rw t (h.0, known_offline ds drive h.1)
  | inr z ↦ rw z (h.0, known_offline ds drive h.1)
]

went_declares : (drive : ℕ) (ds : List Drive) (fs : List File) (m : Effects) (chosen : List ℕ) → AreKnown ds
    → Each IsAimed fs
    → WentEach (Some drive) fs m.notes (declares_each drive ds fs m chosen).files
    (declares_each drive ds fs m chosen).effects.notes
unfolding declares_each
went_declares drive ds [] m chosen known a = refl
went_declares drive ds (f ∷ fs) m chosen known a =
    let g : Going = declares (record { file = f; effects = m; drives = ds; chosen = chosen }) drive in (
      g.effects.notes,
      went_out drive f m.notes g
          (ends_declares (record { file = f; effects = m; drives = ds; chosen = chosen }) drive known a.0),
      went_declares drive ds fs g.effects g.chosen known a.1,
    )

went_declared : (s : Server) (chosen : List ℕ) (drive : ℕ) (b : Bool) → IsSound s
    → Went (if b then Some drive else None) s (declares_known s chosen drive b).step
unfolding declare
went_declared s chosen drive true h = record {
  each = went_declares drive (offline s.drives drive) s.files (begins s) chosen (known_offline s.drives drive h.drives) h.aimed;
  known = known_offline s.drives drive h.drives;
}
went_declared s chosen drive false h = went_still s h

went_ordered : (s : Server) (chosen : List ℕ) (kind : OrderKind) (n : ℕ) → IsSound s
    → Went (if_known s (declared_by kind n)) s (ordered s chosen kind n).step
unfolding ordered
went_ordered s chosen ToRecall n h = went_recalls s (file_at s.files n) h
went_ordered s chosen ToRevoke n h = went_starts s chosen Revoking n (file_at s.files n) h refl
went_ordered s chosen ToDeclare n h = went_declared s chosen n (is_some (find (λ d. d.number == n) s.drives)) h
went_ordered s chosen ToRebuild n h = went_starts s chosen Rebuilding n (file_at s.files n) h refl
went_ordered s chosen ToAudit n h = went_starts s chosen Auditing n (file_at s.files n) h refl

-- ---- messages

went_handled : (s : Server) (now : ℕ) (chosen : List ℕ) (from : Node) (m : Message) → IsSound s
    → Went (if_known s (declared_in (Hears now from m))) s (handled s now chosen from m)
went_handled s now chosen (FromClient c) (Asks q) h = elim (cases_Bool ((q.client == c) && nat_le c MAX_CLIENT)) [
  | inl t ↦ rw t (went_request s now chosen q h)
  | inr z ↦ rw z (went_still s h)
]
went_handled s now chosen (FromDrive d) (Replies r) h = went_reply s chosen d r h
went_handled s now chosen FromServer (Orders o) h = went_ordered s chosen o.order o.target h
went_handled s now chosen from m h = went_still s h

went_message : (s : Server) (now : ℕ) (chosen : List ℕ) (from : Node) (m : Message) → IsSound s
    → Went (taken_out s (Hears now from m)) s (on_message s now chosen from m)
unfolding on_message
went_message s now chosen from m h = elim (cases_Bool (counters_have_room s)) [
  | inl t ↦ rw t (went_handled s now chosen from m h)
  | inr z ↦ rw z (went_still s h)
]

-- ---- drives, and the opening

known_added : (ds : List Drive) (d : Drive) → AreKnown ds → d.number < DRIVES → AreKnown (add_drive ds d)
unfolding add_drive
known_added [] d h n = (n, tt)
known_added (e ∷ ds) d h n = elim (cases_Bool (nat_lt e.number d.number)) [
  | inl t ↦ rw t (h.0, known_added ds d h.1 n)
  | inr z ↦ rw z (n, h)
]

known_zoned : (ds : List Drive) (n z : ℕ) → AreKnown ds → AreKnown (put_in_zone ds n z)
unfolding put_in_zone
known_zoned [] n z h = tt
known_zoned (d ∷ ds) n z h = elim (cases_Bool (d.number == n)) [
  | inl t ↦ rw t (h.0, known_zoned ds n z h.1)
  | inr o ↦ rw o (h.0, known_zoned ds n z h.1)
]

went_crashes : (fs : List File) → WentEach None fs [] (map crashed_file fs) []
went_crashes [] = refl
went_crashes (f ∷ fs) = (
  [],
  record {
    number = refl;
    map = refl;
    kinds = [];
    notes = refl;
    tellable = tt;
    tags = (refl, tt);
    alike = alike_same f.kept.components;
    exact = λ e. refl;
    aimed = tt;
    apart = λ x. x;
  },
  went_crashes fs,
)

went_opens : (format : ℕ) (ds : List Drive) (fs : List File) (m : Effects) → AreKnown ds → Each IsAimed fs
    → WentEach None fs m.notes (opens_each format ds fs m).files (opens_each format ds fs m).effects.notes
unfolding opens_each
went_opens format ds [] m known a = refl
went_opens format ds (f ∷ fs) m known a =
    let g : Going = opens format (record { file = f; effects = m; drives = ds; chosen = [] }) in (
      g.effects.notes,
      went_plain f m.notes g (ends_opened format (record { file = f; effects = m; drives = ds; chosen = [] }) known a.0),
      went_opens format ds fs g.effects known a.1,
    )

went_reopened : (s : Server) → IsSound s → Went None s (reopen s)
unfolding reopen
went_reopened s h = elim (cases_Bool (counters_have_room s)) [
  | inl t ↦ rw t (record {
    each = went_opens s.format s.drives s.files (begins s) h.drives h.aimed;
    known = h.drives;
  })
  | inr z ↦ rw z (went_still s h)
]

-- ---- any step that makes no file

-- a file is made
abbrev pub makes : Input → Bool
makes (Makes n m tag zoned) = true
makes i = false

pub went : (s : Server) (chosen : List ℕ) (i : Input) → IsSound s → IsNamedInput i → makes i ≡ false
    → Went (taken_out s i) s (step s chosen i)
went s chosen (Hears now from m) h n e = went_message s now chosen from m h
went s chosen (Makes k m tag zoned) h n e = absurd (cc e)
went s chosen (Obeys kind k) h n e = went_ordered s chosen kind k h
went s chosen (Adds d) h n e = record {
  each = stays_each s.files [] h.aimed;
  known = known_added s.drives d h.drives n;
}
went s chosen (Zones d zone) h n e = record {
  each = stays_each s.files [] h.aimed;
  known = known_zoned s.drives d zone h.drives;
}
went s chosen (Formats k) h n e = record { each = stays_each s.files [] h.aimed; known = h.drives }
went s chosen Resends h n e = record { each = stays_each s.files [] h.aimed; known = h.drives }
went s chosen Crashes h n e = record { each = went_crashes s.files; known = h.drives }
went s chosen Opens h n e = went_reopened s h
