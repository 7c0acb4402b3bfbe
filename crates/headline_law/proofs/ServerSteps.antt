-- A step of the server on anything but a client's request: the event of each note can happen.
use Rattle.std.proofs.Common.{◌≡◌, ◌==◌, ◌&&◌, ℕ, Bool, true, false, not, find, is_some, List, [], ◌∷◌, Option, Some, None, refl, sym, ap, subst, ◌∙◌, inl, inr, if◌then◌else◌}
use Rattle.std.proofs.lemmas.Bool.{cases_Bool, cases_eq, eq-eqb}
use Rattle.std.proofs.lemmas.Option.{same_Some}
use Rattle.osd_lists.specs.declared.node.Node.{Node}
use Rattle.osd_lists.specs.declared.node.Node.TheVariants.{Server as FromServer, Client as FromClient, Drive as FromDrive}
use Rattle.server_rules.specs.declared.limits.TheConstants.{GREATEST_TAG}
use Rattle.server_rules.specs.Files.{Step, still, begins, file_at, at_file, step_at}
use Rattle.server_rules.specs.Get.{lowest}
use Rattle.server_rules.specs.Going.{Going, noting}
use Rattle.server_rules.specs.History.{Input, Hears, Makes, Obeys, Adds, Zones, Formats, Resends, Crashes, Opens, step, unless_made}
use Rattle.server_rules.specs.Jobs.{fence_begins, declares}
use Rattle.server_rules.specs.Laws.{In}
use Rattle.server_rules.specs.Making.{refusal, unless_refused, with_file, makes_file, create_file}
use Rattle.server_rules.specs.Messages.{Message, Asks, Replies, Orders, counters_have_room, by_heard, or_else, heard_at, on_drive_reply, on_message}
use Rattle.server_rules.specs.Openings.{opens_each, reopen}
use Rattle.server_rules.specs.Orders.{offline, declare, starts, begins_job, recalls_on, declares_known, ordered}
use Rattle.server_rules.specs.Replies.{answers, hearing, hears, heard_by, heard_in, on_reply}
use Rattle.server_rules.specs.Rounds.{step_round}
use Rattle.server_rules.proofs.FileLaws.{number_at, not_there}
use Rattle.history_law.specs.Steps.{new_file}
use Rattle.history_law.proofs.Files.{put_gives}
use Rattle.component_law.specs.KeptWalk.{FileFits}
use Rattle.component_law.specs.Tagged.{fence_open}
use Rattle.component_law.specs.Words.{Each}
use Rattle.component_law.proofs.KeptJobs.{ends_hears, ends_fence, ends_making, ends_declares}
use Rattle.component_law.proofs.KeptOpening.{IsIdle, has_to_fence, ends_opens}
use Rattle.component_law.proofs.Rounds.{each_at}
use Rattle.world_history.specs.ServerNames.{Server, File, Note, NoteKind, Busy, Spent, Effects, Drive, Job, JobKind, Revoking, Rebuilding, Auditing, Awaited, Reply, OrderKind, ToRecall, ToRevoke, ToDeclare, ToRebuild, ToAudit, RawMap, Refusal}
use Rattle.world_history.specs.State.{World, at_number}
use Rattle.fence_law.specs.State.{State, Event}
use Rattle.fence_law.specs.State.Event.{Fences}
use Rattle.fence_law.specs.Machine.{Lawful, after_all}
use Rattle.fence_law.proofs.Safe.{safe_all}
use Rattle.file_simulation.specs.Components.{has_failed}
use Rattle.file_simulation.specs.EventLists.{where_so}
use Rattle.file_simulation.specs.ServerEvents.{begins_fence, fences, noted_here, declared_from}
use Rattle.relation_law.specs.Awaiting.{IsAskedIn}
use Rattle.relation_law.specs.KeptSteps.{notes_events, behind_notes, first_of, HearsNoOrder}
use Rattle.relation_law.proofs.ComponentsServer.{declared_told}
use Rattle.relation_law.proofs.KeptEnds.{so_far_from}
use Rattle.relation_law.proofs.KeptInputs.{IsNoRequest, IsIdleAt, FitsAt}
use Rattle.relation_law.proofs.KeptLight.{so_far_light}
use Rattle.relation_law.proofs.KeptOpens.{opening_fences, opening_shows, opened_round}
use Rattle.relation_law.proofs.KeptRounds.{declared_round}
use Rattle.relation_law.proofs.KeptServer.{IsReady, HasNumber, number_walked, at_place, light_first}
use Rattle.headline_law.specs.ServerLines.{NotesMay}
use Rattle.headline_law.proofs.ServerDeclares.{LosesKnows, declared_left, declares_may}
use Rattle.headline_law.proofs.ServerHears.{hears_may}
use Rattle.headline_law.proofs.ServerNotes.{more_may, none_may, quiet_may}
use Rattle.headline_law.proofs.ServerOwn.{OtherMay, other_walked, StandsSo, fence_events, fence_seen, laid_on, own_fence, opens_may}
use Rattle.headline_law.proofs.ServerPlaces.{JobStands, LastKnows}

-- what is so of each reply that the file's job awaits
abbrev pub HearsSo : State → File → (drive : ℕ) → Reply → Type 0
HearsSo s f drive r =
    (j : Job) (a : Awaited) → f.job ≡ Some j → find (answers drive r) j.awaited ≡ Some a →
    IsAskedIn f.kept j.work a × LastKnows s f j a r

-- a step that marks a file as busy or spent
where_none : (b : Bool) (u : State) → Lawful u (where_so b [])
where_none true u = tt
where_none false u = tt

module _ (next : ℕ) (s : State) (w : World) (f : File) (chosen : List ℕ) (k : StandsSo next s w f) (ready : IsReady w f)
    (stands : (j : Job) → f.job ≡ Some j → JobStands s f j) where
  abbrev server : Server
  server = w.server

  -- ---- a reply

  module _ (i : Input) (fit : Each FileFits w.server.files) (drive : ℕ) (r : Reply) (so : HearsSo s f drive r) where
    abbrev Heard : Option Going → Type 0
    Heard o = NotesMay s w f i (by_heard w.server o).notes

    fits_at : (x : File) → file_at w.server.files x.kept.number ≡ Some x → FileFits x
    fits_at x found = each_at FileFits w.server.files x.kept.number x fit found

    own_hears : (j : Job) (a : Awaited) → f.job ≡ Some j → find (answers drive r) j.awaited ≡ Some a
        → NotesMay s w f i (hears (at_file w.server chosen f) j a r (hearing f.kept a r)).effects.notes
    own_hears j a runs found =
        let x = so j a runs found in
        hears_may next s w f i chosen k.safe k.laid k.many k.kept k.parts j (stands j runs) a r x.0 x.1

    hears_one : (x : File) → In x w.server.files → (j : Job) → x.job ≡ Some j → (a : Awaited)
        → find (answers drive r) j.awaited ≡ Some a
        → NotesMay s w f i (hears (at_file w.server chosen x) j a r (hearing x.kept a r)).effects.notes
    hears_one x among j runs a found = elim (cases_eq x.kept.number f.kept.number) [
      | inl here ↦
          let same : f ≡ x =
          same_Some f x (sym ready.there ∙ ap (file_at w.server.files) (sym here)
          ∙ at_place w.server.files x ready.apart among) in
          subst (λ (y : File). NotesMay s w f i (hears (at_file w.server chosen y) j a r (hearing y.kept a r)).effects.notes)
          same (own_hears j a (ap (λ (y : File). y.job) same ∙ runs) found)
      | inr ne ↦
          (ends_hears (OtherMay s w f i) (other_walked s w f i) (at_file w.server chosen x) j a r (hearing x.kept a r) runs
          ((ne, none_may s w f i), fits_at x (at_place w.server.files x ready.apart among))).0.1
    ]

    awaiting : (x : File) → In x w.server.files → (j : Job) → x.job ≡ Some j → (o : Option Awaited)
        → find (answers drive r) j.awaited ≡ o → (later : Option Going) → Heard later
        → Heard (or_else (heard_by (at_file w.server chosen x) r j o) later)
    awaiting x among j runs None found later rest = rest
    awaiting x among j runs (Some a) found later rest = hears_one x among j runs a found

    working : (x : File) → In x w.server.files → (o : Option Job) → x.job ≡ o → (later : Option Going) → Heard later
        → Heard (or_else (heard_in (at_file w.server chosen x) drive r o) later)
    working x among None runs later rest = rest
    working x among (Some j) runs later rest =
        awaiting x among j runs (find (answers drive r) j.awaited) refl later rest

    first_heard : (fs : List File) → ((x : File) → In x fs → In x w.server.files)
        → Heard (heard_at w.server chosen drive r fs)
    unfolding heard_at on_reply
    first_heard [] among = none_may s w f i
    first_heard (x ∷ fs) among =
        working x (among x (inl refl)) x.job refl (heard_at w.server chosen drive r fs)
        (first_heard fs (λ y j. among y (inr j)))

    pub replied : NotesMay s w f i (on_drive_reply w.server chosen drive r).notes
    unfolding on_drive_reply
    replied = first_heard w.server.files (λ x j. j)

  -- ---- any other step

  module _ (i : Input) where
    -- the machine behind the first line
    abbrev At : File → State
    At g = after_all s (first_of f g i)

    abbrev pub Goes : Step → Type 0
    Goes did =
        (g : File) → file_at did.state.files f.kept.number ≡ Some g → Lawful s (first_of f g i) →
        NotesMay (after_all s (first_of f g i)) w f i did.notes

    none_goes : (did : Step) → did.notes ≡ [] → Goes did
    none_goes did none g found law =
        subst (NotesMay (At g) w f i) (sym none) (none_may (At g) w f i)

    -- ---- an order on files

    refused_goes : (x : File) (n : NoteKind) → ((t : State) → noted_here t w f i n ≡ [])
        → Goes (step_at w.server x.kept.number (noting (at_file w.server chosen x) n))
    refused_goes x n none g found law =
        more_may (At g) w f i [] (record { file = x.kept.number; kind = n }) (none_may (At g) w f i)
        (λ l r.
        subst (λ (es : List Event). Lawful (behind_notes (At g) w f i []) (where_so (x.kept.number == f.kept.number) es))
        (sym (none (behind_notes (At g) w f i []))) (where_none (x.kept.number == f.kept.number) (behind_notes (At g) w f i [])))

    module _ (n : ℕ) (first : (g : File) → first_of f g i ≡ where_so (n == f.kept.number) (fences f g)) where
      -- of the file
      own_goes : (kind : JobKind) → n ≡ f.kept.number
          → Goes (step_at w.server f.kept.number (fence_begins kind w.server.format (at_file w.server chosen f)))
      unfolding notes_events
      own_goes kind here g found law =
          let G : Going = fence_begins kind w.server.format (at_file w.server chosen f) in
          let number : G.file.kept.number ≡ f.kept.number =
          (ends_fence (HasNumber f.kept.number) (number_walked f.kept.number) kind w.server.format
          (at_file w.server chosen f) refl).0 in
          let same : g ≡ G.file = put_gives w.server.files f.kept.number G.file g number found in
          let seen : first_of f g i ≡ fence_events f =
          first g ∙ ap (λ (b : Bool). where_so b (fences f g)) (eq-eqb n f.kept.number here) ∙ ap (fences f) same
          ∙ fence_seen f kind w.server.format (begins w.server) w.server.drives chosen in
          subst (λ (es : List Event). NotesMay (after_all s es) w f i G.effects.notes) (sym seen)
          (own_fence next s w f k i (subst (Lawful s) seen law) kind w.server.format (begins w.server) w.server.drives chosen
          refl)

      fenced_goes : (kind : JobKind) (x : File) → file_at w.server.files n ≡ Some x
          → Goes (step_at w.server x.kept.number (fence_begins kind w.server.format (at_file w.server chosen x)))
      fenced_goes kind x found =
          let is : x.kept.number ≡ n = number_at w.server.files n x found in
          elim (cases_eq x.kept.number f.kept.number) [
            | inl here ↦
                let same : f ≡ x =
                same_Some f x (sym ready.there ∙ ap (file_at w.server.files) (sym here ∙ is) ∙ found) in
                subst (λ (y : File).
                Goes (step_at w.server y.kept.number (fence_begins kind w.server.format (at_file w.server chosen y)))) same
                (own_goes kind (sym is ∙ here))
            | inr ne ↦
                λ g there law.
                (ends_fence (OtherMay (At g) w f i) (other_walked (At g) w f i) kind w.server.format
                (at_file w.server chosen x) (ne, none_may (At g) w f i)).0.1
          ]

      begun_goes : (kind : JobKind) (x : File) (o : Option Job) → file_at w.server.files n ≡ Some x
          → Goes (begins_job w.server chosen kind x o).step
      begun_goes kind x (Some j) found = refused_goes x (Busy (lowest j.awaited)) (λ t. refl)
      begun_goes kind x None found = elim (cases_Bool (x.kept.tag == GREATEST_TAG)) [
        | inl e ↦ rw e (refused_goes x Spent (λ t. refl))
        | inr e ↦ rw e (fenced_goes kind x found)
      ]

      starts_goes : (kind : JobKind) (o : Option File) → file_at w.server.files n ≡ o
          → Goes (starts w.server chosen kind o).step
      starts_goes kind None found = none_goes (still w.server) refl
      starts_goes kind (Some x) found = begun_goes kind x x.job found

    recalls_goes : (o : Option File) → Goes (recalls_on w.server o).step
    recalls_goes None = none_goes (still w.server) refl
    recalls_goes (Some x) = none_goes (recalls_on w.server (Some x)).step refl

    -- ---- a drive is declared

    declare_goes : Each FileFits w.server.files → (drive : ℕ) → ((g : File) → first_of f g i ≡ first_of f f i)
        → (Lawful s (first_of f f i) → (m : Effects) (placed : List ℕ) → notes_events (At f) w f i m.notes ≡ []
        → NotesMay (At f) w f i
        (declares (record { file = f; effects = m; drives = offline w.server.drives drive; chosen = placed })
        drive).effects.notes)
        → Goes (declare w.server chosen drive)
    unfolding declare notes_events
    declare_goes fit drive same own g found law =
        let t : State = At f in
        let z = declared_round w f i t drive (offline w.server.drives drive)
        (λ (x : Going). (x.file.kept.number ≡ f.kept.number) × NotesMay t w f i x.effects.notes) (λ x d. d.0)
        (λ m placed none. (
          (ends_declares (HasNumber f.kept.number) (number_walked f.kept.number)
              (record { file = f; effects = m; drives = offline w.server.drives drive; chosen = placed }) drive
              (refl, each_at FileFits w.server.files f.kept.number f fit ready.there)).0,
          own (subst (Lawful s) (same g) law) m placed none,
        ))
        w.server.files (begins w.server) chosen ready.there ready.apart fit refl in
        let ns : List Note = (declare w.server chosen drive).notes in
        let all : NotesMay t w f i ns =
        subst (NotesMay t w f i) (sym z.behind.0.1)
        (quiet_may t w f i z.going.effects.notes z.behind.0.0
        (ap (notes_events t w f i) (sym z.behind.0.1) ∙ z.behind.1) z.is.1) in
        subst (λ (es : List Event). NotesMay (after_all s es) w f i ns) (sym (same g)) all

    -- ---- it is opened

    -- what the file's part in an opening leaves
    record IsOpened (es : List Event) (x : Going) : Type 0 where
      number : x.file.kept.number ≡ f.kept.number
      shows : begins_fence f x.file ≡ opening_fences f.kept
      notes : Lawful s es → NotesMay (after_all s es) w f i x.effects.notes

    opened_fence : Lawful s (where_so (opening_fences f.kept) (Fences ∷ [])) → (m : Effects)
        → notes_events (after_all s (where_so (opening_fences f.kept) (Fences ∷ []))) w f i m.notes ≡ []
        → has_to_fence f.kept ≡ true
        → NotesMay (after_all s (where_so (opening_fences f.kept) (Fences ∷ []))) w f i
        (fence_begins Revoking w.server.format
        (record { file = f; effects = m; drives = w.server.drives; chosen = [] })).effects.notes
    opened_fence law m quiet b =
        let same : where_so (opening_fences f.kept) (Fences ∷ []) ≡ fence_events f =
        ap (λ (x : Bool). where_so (x && not (fence_open f.kept)) (Fences ∷ [])) b in
        subst (λ (es : List Event). NotesMay (after_all s es) w f i
        (fence_begins Revoking w.server.format
        (record { file = f; effects = m; drives = w.server.drives; chosen = [] })).effects.notes)
        (sym same)
        (own_fence next s w f k i (subst (Lawful s) same law) Revoking w.server.format m w.server.drives []
        (subst (λ (es : List Event). notes_events (after_all s es) w f i m.notes ≡ []) same quiet))

    opened_goes : Each IsIdle w.server.files → ((g : File) → first_of f g i ≡ fences f g)
        → Goes (step_round w.server (opens_each w.server.format w.server.drives w.server.files (begins w.server)))
    unfolding notes_events
    opened_goes idle first g found law =
        let es : List Event = where_so (opening_fences f.kept) (Fences ∷ []) in
        let t : State = after_all s es in
        let none : f.job ≡ None = each_at IsIdle w.server.files f.kept.number f idle ready.there in
        let z = opened_round w f i t w.server.format w.server.drives (IsOpened es) (λ x d. d.number)
        (λ m quiet.
        let g0 : Going = record { file = f; effects = m; drives = w.server.drives; chosen = [] } in
        record {
          number =
              (ends_opens (HasNumber f.kept.number) (number_walked f.kept.number) w.server.format g0 none
              (λ n. refl) (λ n. refl)).0;
          shows = opening_shows w.server.format g0;
          notes = λ l.
              opens_may t w f i w.server.format m w.server.drives quiet (λ b. opened_fence l m quiet b);
        })
        w.server.files (begins w.server) ready.there ready.apart idle refl in
        let is : z.going.file ≡ g = same_Some z.going.file g (sym z.found ∙ found) in
        let ns : List Note =
        (opens_each w.server.format w.server.drives w.server.files (begins w.server)).effects.notes in
        let seen : first_of f g i ≡ es =
        first g ∙ ap (fences f) (sym is) ∙ ap (λ (c : Bool). where_so c (Fences ∷ [])) z.is.shows in
        let all : NotesMay t w f i ns =
        subst (NotesMay t w f i) (sym z.behind.0.1)
        (quiet_may t w f i z.going.effects.notes z.behind.0.0
        (ap (notes_events t w f i) (sym z.behind.0.1) ∙ z.behind.1) (z.is.notes (subst (Lawful s) seen law))) in
        subst (λ (x : List Event). NotesMay (after_all s x) w f i ns) (sym seen) all

    reopened : Each IsIdle w.server.files → ((g : File) → first_of f g i ≡ fences f g) → Goes (reopen w.server)
    unfolding reopen
    reopened idle first = elim (cases_Bool (counters_have_room w.server)) [
      | inl e ↦ rw e (opened_goes idle first)
      | inr e ↦ rw e (none_goes (still w.server) refl)
    ]

    -- ---- a file is made

    made_goes : (n : ℕ) (m : RawMap) (tag : ℕ) (zoned : Bool) (o : Option Refusal) → refusal w.server n m zoned ≡ o
        → Goes (unless_made w.server (unless_refused o (makes_file w.server (new_file w.server chosen n m tag zoned))))
    made_goes n m tag zoned (Some why) refused g found law = none_goes (still w.server) refl g found law
    made_goes n m tag zoned None refused g found law =
        let x : File = new_file w.server chosen n m tag zoned in
        let ne : n ≡ f.kept.number → ⊥ = λ e.
        absurd (cc (sym (ap (file_at w.server.files) (sym e) ∙ not_there w.server n m zoned refused) ∙ ready.there)) in
        (ends_making (OtherMay (At g) w f i) (other_walked (At g) w f i) (at_file (with_file w.server x) [] x)
        (refl, (ne, none_may (At g) w f i))).0.1

  -- ---- by what comes

  -- what is so of a drive that is declared
  pub record DeclaresSo (drive : ℕ) : Type 0 where
    pub failed : has_failed (at_number w.drives drive) ≡ true
    pub knows : (j : Job) → f.job ≡ Some j → LosesKnows (after_all s (declared_from drive f.kept.components 0)) drive j

  own_declares : (drive : ℕ) → DeclaresSo drive → Each FileFits w.server.files
      → Goes (Obeys ToDeclare drive) (declare w.server chosen drive)
  own_declares drive d fit =
      declare_goes (Obeys ToDeclare drive) fit drive (λ g. refl)
      (λ law m placed none.
      let es : List Event = declared_from drive f.kept.components 0 in
      declares_may next s (after_all s es) w f (Obeys ToDeclare drive) (safe_all s es law k.safe)
      (laid_on next s w f k es) drive (declared_left s drive f.kept.components 0) m (offline w.server.drives drive) placed none
      (declared_told s w f (Obeys ToDeclare drive) drive d.failed k.parts)
      (λ j runs. (stands j runs, d.knows j runs))
      (λ busy.
      so_far_light next true s es f.kept (light_first f (Obeys ToDeclare drive)) law k.safe
      (so_far_from next true s f (λ b. busy) k.kept)))

  -- what is so of what comes
  abbrev pub ComesSo : Input → Type 0
  ComesSo (Hears now (FromDrive drive) (Replies r)) = HearsSo s f drive r
  ComesSo (Obeys ToDeclare drive) = DeclaresSo drive
  ComesSo i = Unit {0}

  ordered_goes : (kind : OrderKind) (n : ℕ) → ComesSo (Obeys kind n) → Each FileFits w.server.files
      → Goes (Obeys kind n) (ordered w.server chosen kind n).step
  unfolding ordered
  ordered_goes ToRecall n so fit = recalls_goes (Obeys ToRecall n) (file_at w.server.files n)
  ordered_goes ToRevoke n so fit =
      starts_goes (Obeys ToRevoke n) n (λ g. refl) Revoking (file_at w.server.files n) refl
  ordered_goes ToRebuild n so fit =
      starts_goes (Obeys ToRebuild n) n (λ g. refl) Rebuilding (file_at w.server.files n) refl
  ordered_goes ToAudit n so fit =
      starts_goes (Obeys ToAudit n) n (λ g. refl) Auditing (file_at w.server.files n) refl
  ordered_goes ToDeclare n so fit =
      known (is_some (find (λ (d : Drive). d.number == n) w.server.drives))
    where
      known : (b : Bool) → Goes (Obeys ToDeclare n) (declares_known w.server chosen n b).step
      known true = own_declares n so fit
      known false = none_goes (Obeys ToDeclare n) (still w.server) refl

  either_still : (i : Input) (b : Bool) → Goes i (if b then still w.server else still w.server)
  either_still i true = none_goes i (still w.server) refl
  either_still i false = none_goes i (still w.server) refl

  message_goes : (now : ℕ) (from : Node) (m : Message) → ComesSo (Hears now from m) → Each FileFits w.server.files
      → IsNoRequest (Hears now from m) → HearsNoOrder (Hears now from m)
      → Goes (Hears now from m) (step w.server chosen (Hears now from m))
  unfolding on_message
  message_goes now (FromClient c) (Asks q) so fit plain orders = absurd plain
  message_goes now FromServer (Orders o) so fit plain orders = absurd (orders now o refl)
  message_goes now (FromDrive d) (Replies r) so fit plain orders = elim (cases_Bool (counters_have_room w.server)) [
    | inl e ↦ rw e (λ g found law. replied (Hears now (FromDrive d) (Replies r)) fit d r so)
    | inr e ↦ rw e (none_goes (Hears now (FromDrive d) (Replies r)) (still w.server) refl)
  ]
  message_goes now from m so fit plain orders = either_still (Hears now from m) (counters_have_room w.server)

  -- each note of the step can happen
  pub plain_may : (i : Input) → ComesSo i → IsNoRequest i → HearsNoOrder i → IsIdleAt i w.server.files
      → FitsAt i w.server.files → Goes i (step w.server chosen i)
  unfolding create_file
  plain_may (Hears now from m) so plain orders idle fit = message_goes now from m so fit plain orders
  plain_may (Makes n m tag zoned) so plain orders idle fit =
      made_goes (Makes n m tag zoned) n m tag zoned (refusal w.server n m zoned) refl
  plain_may (Obeys kind n) so plain orders idle fit = ordered_goes kind n so fit
  plain_may (Adds d) so plain orders idle fit = none_goes (Adds d) (step w.server chosen (Adds d)) refl
  plain_may (Zones d zone) so plain orders idle fit = none_goes (Zones d zone) (step w.server chosen (Zones d zone)) refl
  plain_may (Formats n) so plain orders idle fit = none_goes (Formats n) (step w.server chosen (Formats n)) refl
  plain_may Resends so plain orders idle fit = none_goes Resends (step w.server chosen Resends) refl
  plain_may Crashes so plain orders idle fit = none_goes Crashes (step w.server chosen Crashes) refl
  plain_may Opens so plain orders idle fit = reopened Opens idle (λ g. refl)
