-- Each step of the server keeps that components have their objects, or get them.
use Rattle.std.proofs.Common.{◌≡◌, ◌⊎◌, ◌==◌, ◌&&◌, ℕ, nat_le, nat_lt, Bool, true, false, List, [], ◌∷◌, find, map, Option, Some, None, refl, sym, subst, inl, inr, if◌then◌else◌}
use Rattle.std.proofs.lemmas.Bool.{cases_Bool, eq-eqb}
use Rattle.data_map.specs.declared.check.RawMap.{RawMap}
use Rattle.osd_lists.specs.declared.node.Node.{Node}
use Rattle.osd_lists.specs.declared.node.Node.TheVariants.{Server as FromServer, Client as FromClient, Drive as FromDrive}
use Rattle.server_rules.specs.declared.limits.TheConstants.{GREATEST_TAG, MAX_CLIENT}
use Rattle.server_rules.specs.Files.{Step, still, begins, file_at, put_file, add_file, at_file}
use Rattle.server_rules.specs.Going.{Going}
use Rattle.server_rules.specs.History.{Input, Hears, Makes, Obeys, Adds, Zones, Formats, Resends, Crashes, Opens, step, unless_made}
use Rattle.server_rules.specs.Jobs.{making, declares}
use Rattle.server_rules.specs.Laws.{In}
use Rattle.server_rules.specs.Making.{refusal, drives_for, unmade, with_file, makes_file, unless_refused, create_file}
use Rattle.server_rules.specs.Messages.{Message, Asks, Replies, Orders, awaited_by, counters_have_room, or_else, heard_at, by_heard, on_drive_reply, handled, on_message}
use Rattle.server_rules.specs.Orders.{Ordered, begins_job, starts, recalls_on, declares_each, offline, declare, declares_known, ordered}
use Rattle.server_rules.specs.Replies.{answers, hearing, heard_by, heard_in, on_reply}
use Rattle.server_rules.specs.Requests.{carries_out, by_admit, on_request}
use Rattle.server_rules.specs.Openings.{crashed_file, opens, opens_each, reopen}
use Rattle.server_rules.specs.Slots.{Admit, New, Again, Misordered, admit, slot_of}
use Rattle.server_rules.proofs.FileLaws.{not_there}
use Rattle.server_rules.proofs.Members.{in_mapped}
use Rattle.history_law.specs.Names.{Server, File, Drive, Awaited, Job, JobKind, Revoking, Rebuilding, Auditing, Effects, Reply, ClientRequest, OrderKind, ToRecall, ToRevoke, ToDeclare, ToRebuild, ToAudit, Refusal}
use Rattle.history_law.specs.Fencing.{Reached, AreFencing, TellsRaised, IsHeardTruly}
use Rattle.history_law.proofs.JobFiles.{found_file, in_put}
use Rattle.history_law.proofs.Hearing.{found_in}
use Rattle.history_law.specs.Moves.{down_behind}
use Rattle.component_law.specs.Turns.{in_turn}
use Rattle.component_law.specs.Standing.{IsUnmade, IsLeft, TellsMade, AreMadeTruly, AreStanding, EachStepStands}
use Rattle.component_law.proofs.StandHeld.{Ends, FileEnds, into, out}
use Rattle.component_law.proofs.StandJobs.{ends_making, ends_fence, ends_hears, ends_declares}
use Rattle.component_law.proofs.StandOpens.{ends_opens}
use Rattle.component_law.proofs.StandServing.{ends_served}

-- ---- the list of files

-- a file that is made stands in its own place
in_made : (fs : List File) (f g x : File) → file_at fs f.kept.number ≡ None
    → In x (put_file (add_file fs f) f.kept.number g) → (x ≡ g) ⊎ In x fs
unfolding file_at add_file put_file
in_made [] f g x e i = rw (eq-eqb f.kept.number f.kept.number refl) at i
in_made (y ∷ fs) f g x e i = elim (cases_Bool (y.kept.number == f.kept.number)) [
  | inl t ↦ absurd (cc (rw t at e))
  | inr z ↦ elim (cases_Bool (nat_lt y.kept.number f.kept.number)) [
    | inl t ↦ behind (rw (t, z) at i) (in_made fs f g x (rw z at e))
    | inr w ↦ rw (w, eq-eqb f.kept.number f.kept.number refl) at i
  ]
]
  where
    behind : In x (y ∷ put_file (add_file fs f) f.kept.number g)
        → (In x (put_file (add_file fs f) f.kept.number g) → (x ≡ g) ⊎ In x fs) → (x ≡ g) ⊎ In x (y ∷ fs)
    behind (inl same) rest = inr (inl same)
    behind (inr j) rest = elim (rest j) [ inl same ↦ inl same | inr k ↦ inr (inr k) ]

-- ---- a reply

-- at most one command of the file's job has its nonce, and it tells truly what was raised and made
record IsTold (R : Reached) (f : File) (drive : ℕ) (r : Reply) : Type 0 where
  alone : (x y : Awaited) → In x (awaited_by f.job) → In y (awaited_by f.job) → x.command.nonce ≡ y.command.nonce
      → x ≡ y
  raised : TellsRaised R f drive r
  made : TellsMade R f drive r

module _ (R : Reached) where
  -- so it is of each of these files
  abbrev AllEnd : List File → Type 0
  AllEnd fs = (f : File) → In f fs → FileEnds R f

  either_step : (b : Bool) (x y : Step) → AllEnd x.state.files → AllEnd y.state.files
      → AllEnd (if b then x else y).state.files
  either_step true x y p q = p
  either_step false x y p q = q

  put_ends : (fs : List File) (n : ℕ) (g : File) → AllEnd fs → FileEnds R g → AllEnd (put_file fs n g)
  put_ends fs n g h e x i = elim (in_put fs n g x i) [
    | inl same ↦ subst (FileEnds R) (sym same) e
    | inr j ↦ h x j
  ]

  -- ---- a request

  carries : (s : Server) (now : ℕ) (chosen : List ℕ) (q : ClientRequest) (o : Option File) → file_at s.files q.file ≡ o
      → AllEnd s.files → AllEnd (carries_out s now chosen q o).state.files
  carries s now chosen q None e h = h
  carries s now chosen q (Some f) e h =
      put_ends s.files q.file _ h
      (ends_served R (at_file s chosen f) s.next_grant s.format now q.client q.args (h f (found_file s.files q.file f
      e).0))

  admitted : (s : Server) (now : ℕ) (chosen : List ℕ) (q : ClientRequest) (a : Admit) → AllEnd s.files
      → AllEnd (by_admit s now chosen q a).state.files
  admitted s now chosen q New h = carries s now chosen q (file_at s.files q.file) refl h
  admitted s now chosen q (Again kept) h = h
  admitted s now chosen q (Misordered expected) h = h

  asked : (s : Server) (now : ℕ) (chosen : List ℕ) (q : ClientRequest) → AllEnd s.files
      → AllEnd (on_request s now chosen q).state.files
  unfolding on_request
  asked s now chosen q h = admitted s now chosen q (admit (slot_of s.slots q.client) q.sequence) h

  -- ---- a reply, at the file that awaits it

  abbrev AnyEnds : Option Going → Type 0
  AnyEnds None = Unit {0}
  AnyEnds (Some g) = FileEnds R g.file

  heard_one : (s : Server) (chosen : List ℕ) (drive : ℕ) (r : Reply) (f : File) (j : Job) (o : Option Awaited)
      → IsTold R f drive r → FileEnds R f → f.job ≡ Some j → find (answers drive r) j.awaited ≡ o
      → AnyEnds (heard_by (at_file s chosen f) r j o)
  heard_one s chosen drive r f j None told h is found = tt
  heard_one s chosen drive r f j (Some a) told h is found =
      let got = found_in (answers drive r) j.awaited a found in
      ends_hears R (at_file s chosen f) j a r (hearing f.kept a r) refl is got.0
      (λ x i same. told.alone x a (in_job x i) (in_job a got.0) same)
      (λ raises done. told.raised a (in_job a got.0) raises got.1 done)
      (λ create done. told.made a (in_job a got.0) create got.1 done) h
    where
      in_job : (x : Awaited) → In x j.awaited → In x (awaited_by f.job)
      in_job x i = subst (λ (p : Option Job). In x (awaited_by p)) (sym is) i

  heard_file : (s : Server) (chosen : List ℕ) (drive : ℕ) (r : Reply) (f : File) (o : Option Job)
      → IsTold R f drive r → FileEnds R f → f.job ≡ o → AnyEnds (heard_in (at_file s chosen f) drive r o)
  heard_file s chosen drive r f None told h is = tt
  heard_file s chosen drive r f (Some j) told h is =
      heard_one s chosen drive r f j (find (answers drive r) j.awaited) told h is refl

  heard_reply : (s : Server) (chosen : List ℕ) (drive : ℕ) (r : Reply) (f : File) → IsTold R f drive r
      → FileEnds R f → AnyEnds (on_reply (at_file s chosen f) drive r)
  unfolding on_reply
  heard_reply s chosen drive r f told h = heard_file s chosen drive r f f.job told h refl

  first_heard : (a b : Option Going) → AnyEnds a → AnyEnds b → AnyEnds (or_else a b)
  first_heard None b h k = k
  first_heard (Some g) b h k = h

  all_heard : (s : Server) (chosen : List ℕ) (drive : ℕ) (r : Reply) (fs : List File)
      → ((f : File) → In f fs → IsTold R f drive r) → AllEnd fs → AnyEnds (heard_at s chosen drive r fs)
  unfolding heard_at
  all_heard s chosen drive r [] told h = tt
  all_heard s chosen drive r (f ∷ fs) told h =
      first_heard (on_reply (at_file s chosen f) drive r) _
      (heard_reply s chosen drive r f (told f (inl refl)) (h f (inl refl)))
      (all_heard s chosen drive r fs (λ x i. told x (inr i)) (λ x i. h x (inr i)))

  by_reply : (s : Server) (o : Option Going) → AllEnd s.files → AnyEnds o → AllEnd (by_heard s o).state.files
  by_reply s None h e = h
  by_reply s (Some g) h e = put_ends s.files g.file.kept.number g.file h e

  replied : (s : Server) (chosen : List ℕ) (drive : ℕ) (r : Reply)
      → ((f : File) → In f s.files → IsTold R f drive r) → AllEnd s.files
      → AllEnd (on_drive_reply s chosen drive r).state.files
  unfolding on_drive_reply
  replied s chosen drive r told h = by_reply s _ h (all_heard s chosen drive r s.files told h)

  -- ---- orders

  either_order : (b : Bool) (x y : Ordered) → AllEnd x.step.state.files → AllEnd y.step.state.files
      → AllEnd (if b then x else y).step.state.files
  either_order true x y p q = p
  either_order false x y p q = q

  begun : (s : Server) (chosen : List ℕ) (kind : JobKind) (f : File) (j : Option Job) → f.job ≡ j → FileEnds R f
      → AllEnd s.files → AllEnd (begins_job s chosen kind f j).step.state.files
  begun s chosen kind f (Some j) is e h = put_ends s.files f.kept.number f h e
  begun s chosen kind f None is e h =
      either_order (f.kept.tag == GREATEST_TAG) _ _ (put_ends s.files f.kept.number f h e)
      (put_ends s.files f.kept.number _ h
      (ends_fence R kind s.format (at_file s chosen f)
      (subst (λ (o : Option Job). Ends R f.kept.tag f.kept.components f.kept.ready (IsUnmade f.kept) o) is e)))

  started : (s : Server) (chosen : List ℕ) (kind : JobKind) (n : ℕ) (o : Option File) → file_at s.files n ≡ o
      → AllEnd s.files → AllEnd (starts s chosen kind o).step.state.files
  started s chosen kind n None e h = h
  started s chosen kind n (Some f) e h =
      begun s chosen kind f f.job refl (h f (found_file s.files n f e).0) h

  recalled : (s : Server) (o : Option File) → AllEnd s.files → AllEnd (recalls_on s o).step.state.files
  recalled s None h = h
  recalled s (Some f) h = h

  declared_each : (drive : ℕ) (ds : List Drive) (fs : List File) (m : Effects) (chosen : List ℕ) → AllEnd fs
      → AllEnd (declares_each drive ds fs m chosen).files
  unfolding declares_each
  declared_each drive ds [] m chosen h x i = h x i
  declared_each drive ds (f ∷ fs) m chosen h x i =
      let g : Going = record { file = f; effects = m; drives = ds; chosen = chosen } in
      let d : Going = declares g drive in
      elim i [
        | inl same ↦ subst (FileEnds R) (sym same) (ends_declares R g drive (h f (inl refl)))
        | inr j ↦ declared_each drive ds fs d.effects d.chosen (λ y k. h y (inr k)) x j
      ]

  declared : (s : Server) (chosen : List ℕ) (n : ℕ) (b : Bool) → AllEnd s.files
      → AllEnd (declares_known s chosen n b).step.state.files
  unfolding declare
  declared s chosen n false h = h
  declared s chosen n true h = declared_each n (offline s.drives n) s.files (begins s) chosen h

  obeyed : (s : Server) (chosen : List ℕ) (kind : OrderKind) (n : ℕ) → AllEnd s.files
      → AllEnd (ordered s chosen kind n).step.state.files
  unfolding ordered
  obeyed s chosen ToRecall n h = recalled s (file_at s.files n) h
  obeyed s chosen ToRevoke n h = started s chosen Revoking n (file_at s.files n) refl h
  obeyed s chosen ToDeclare n h = declared s chosen n _ h
  obeyed s chosen ToRebuild n h = started s chosen Rebuilding n (file_at s.files n) refl h
  obeyed s chosen ToAudit n h = started s chosen Auditing n (file_at s.files n) refl h

  -- ---- a message

  heard_message : (s : Server) (now : ℕ) (chosen : List ℕ) (from : Node) (m : Message) → counters_have_room s ≡ true
      → IsHeardTruly R s (Hears now from m) → AreMadeTruly R s (Hears now from m) → AllEnd s.files
      → AllEnd (handled s now chosen from m).state.files
  heard_message s now chosen (FromClient c) (Asks q) low heard made h =
      either_step ((q.client == c) && nat_le c MAX_CLIENT) _ _ (asked s now chosen q h) h
  heard_message s now chosen (FromDrive d) (Replies r) low heard made h =
      replied s chosen d r (λ f i. record {
        alone = λ x y j k e. heard.alone x y (f, i, j) (f, i, k) e;
        raised = heard.tells now d r refl low f i;
        made = made now d r refl low f i;
      }) h
  heard_message s now chosen FromServer (Orders o) low heard made h = obeyed s chosen o.order o.target h
  heard_message s now chosen from m low heard made h = h

  message_ends : (s : Server) (now : ℕ) (chosen : List ℕ) (from : Node) (m : Message)
      → IsHeardTruly R s (Hears now from m) → AreMadeTruly R s (Hears now from m) → AllEnd s.files
      → AllEnd (on_message s now chosen from m).state.files
  unfolding on_message
  message_ends s now chosen from m heard made h = by_room (counters_have_room s) refl
    where
      by_room : (b : Bool) → counters_have_room s ≡ b
          → AllEnd (if b then handled s now chosen from m else still s).state.files
      by_room true low = heard_message s now chosen from m low heard made h
      by_room false high = h

  -- ---- a file is made

  unless : (s : Server) (number : ℕ) (m : RawMap) (tag : ℕ) (zoned : Bool) (ds : List ℕ) (r : Option Refusal)
      → refusal s number m zoned ≡ r → AllEnd s.files
      → AllEnd (unless_made s (unless_refused r (makes_file s (unmade s number m tag zoned ds)))).state.files
  unless s number m tag zoned ds (Some why) e h x i = h x i
  unless s number m tag zoned ds None e h x i =
      let f : File = unmade s number m tag zoned ds in
      let g : Going = making (at_file (with_file s f) [] f) in
      elim (in_made s.files f g.file x (not_there s number m zoned e) i) [
        | inl same ↦ subst (FileEnds R) (sym same) (ends_making R (at_file (with_file s f) [] f) ((refl, refl, refl), refl))
        | inr j ↦ h x j
      ]

  -- ---- any step while the server is up

  step_ends : (s : Server) (chosen : List ℕ) (i : Input) → in_turn false i ≡ true → down_behind false i ≡ false
      → IsHeardTruly R s i → AreMadeTruly R s i → AllEnd s.files → AllEnd (step s chosen i).state.files
  unfolding create_file
  step_ends s chosen (Hears now from m) turn up heard made h = message_ends s now chosen from m heard made h
  step_ends s chosen (Makes n m tag zoned) turn up heard made h =
      unless s n m tag zoned (drives_for zoned s.drives m chosen) (refusal s n m zoned) refl h
  step_ends s chosen (Obeys kind n) turn up heard made h = obeyed s chosen kind n h
  step_ends s chosen (Adds d) turn up heard made h = h
  step_ends s chosen (Zones d zone) turn up heard made h = h
  step_ends s chosen (Formats n) turn up heard made h = h
  step_ends s chosen Resends turn up heard made h = h
  step_ends s chosen Crashes turn up heard made h = absurd (cc up)
  step_ends s chosen Opens turn up heard made h = absurd (cc turn)

  -- ---- an opening

  opened_each : (format : ℕ) (ds : List Drive) (fs : List File) (m : Effects) → AreStanding true R fs
      → AllEnd (opens_each format ds fs m).files
  unfolding opens_each
  opened_each format ds [] m left x i = absurd i
  opened_each format ds (f ∷ fs) m left x i =
      let g : Going = record { file = f; effects = m; drives = ds; chosen = [] } in
      let h : IsLeft R f = left f (inl refl) in
      elim i [
        | inl same ↦
            subst (FileEnds R) (sym same) (ends_opens R format g (h.settled.made, h.settled.unmade) h.quiet)
        | inr j ↦ opened_each format ds fs (opens format g).effects (λ y k. left y (inr k)) x j
      ]

  opened : (s : Server) → counters_have_room s ≡ true → AreStanding true R s.files → AllEnd (reopen s).state.files
  unfolding reopen
  opened s low left = rw low (opened_each s.format s.drives s.files (begins s) left)

  -- ---- any step

  -- while the server is up
  stands_up : (s : Server) (chosen : List ℕ) (i : Input) → in_turn false i ≡ true → down_behind false i ≡ false
      → AreFencing R s.files → AreStanding false R s.files → IsHeardTruly R s i → AreMadeTruly R s i
      → AreStanding false R (step s chosen i).state.files
  stands_up s chosen i turn up fencing standing heard made f j =
      out R f (step_ends s chosen i turn up heard made (λ x k. into R x (standing x k) (fencing x k)) f j)

  -- where it crashes
  crashed : (s : Server) (down : Bool) → in_turn down Crashes ≡ true → AreStanding down R s.files
      → AreStanding true R (map crashed_file s.files)
  crashed s true turn standing f i = absurd (cc turn)
  crashed s false turn standing f i =
      let r = in_mapped crashed_file f s.files i in
      let h = (standing r.0 r.1).settled in
      subst (IsLeft R) (sym r.2)
      (record { settled = record { made = h.made; unmade = h.unmade }; quiet = refl })

  -- where it is opened
  reopened : (s : Server) (down : Bool) → in_turn down Opens ≡ true → counters_have_room s ≡ true
      → AreStanding down R s.files → AreStanding false R (reopen s).state.files
  reopened s true turn low left f i = out R f (opened s low left f i)
  reopened s false turn low left f i = absurd (cc turn)

  pub step_stands : (s : Server) (down : Bool) (chosen : List ℕ) (i : Input) → in_turn down i ≡ true
      → (i ≡ Opens → counters_have_room s ≡ true) → AreFencing R s.files → AreStanding down R s.files
      → IsHeardTruly R s i → AreMadeTruly R s i → AreStanding (down_behind down i) R (step s chosen i).state.files
  step_stands s down chosen Crashes turn low fencing standing heard made = crashed s down turn standing
  step_stands s down chosen Opens turn low fencing standing heard made = reopened s down turn (low refl) standing
  step_stands s true chosen i turn low fencing standing heard made = absurd (cc turn)
  step_stands s false chosen i turn low fencing standing heard made =
      stands_up s chosen i turn refl fencing standing heard made

pub each_step_stands : EachStepStands
each_step_stands R s down chosen i turn low fencing standing heard made =
    step_stands R s down chosen i turn low fencing standing heard made
