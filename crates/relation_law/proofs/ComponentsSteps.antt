-- A step of the server: its notes make of each component of a file what their events make of the machine's.
-- Towards `ComponentsGoOn` (`specs/Steps.antt`).
use Rattle.std.proofs.Common.{◌≡◌, ◌==◌, ◌&&◌, ℕ, Bool, true, false, nat_le, List, [], ◌∷◌, map, Option, Some, None, refl, sym, ap, subst, ◌∙◌, inl, inr, eq-eqb, if◌then◌else◌}
use Rattle.std.specs.Prelude.{find}
use Rattle.std.proofs.lemmas.Bool.{cases_eq, ne_eqb}
use Rattle.std.proofs.lemmas.Option.{same_Some}
use Rattle.osd_lists.specs.declared.node.Node.{Node}
use Rattle.osd_lists.specs.declared.node.Node.TheVariants as node
use Rattle.data_map.specs.declared.check.RawMap.{RawMap}
use Rattle.server_rules.specs.declared.limits.TheConstants.{MAX_CLIENT, GREATEST_TAG}
use Rattle.server_rules.specs.declared.server.Refusal.{Refusal}
use Rattle.server_rules.specs.Files.{Step, still, begins, file_at, put_file, at_file, step_at}
use Rattle.server_rules.specs.Get.{lowest}
use Rattle.server_rules.specs.Going.{Going, noting}
use Rattle.server_rules.specs.History.{Input, Hears, Makes, Obeys, Adds, Zones, Formats, Resends, Crashes, Opens, step, unless_made}
use Rattle.server_rules.specs.Jobs.{fence_begins, declares, making}
use Rattle.server_rules.specs.Laws.{In}
use Rattle.server_rules.specs.Making.{refusal, makes_file, with_file, create_file, unless_refused}
use Rattle.server_rules.specs.Messages.{Message, Asks, Replies, Orders, counters_have_room, handled, by_heard, heard_at, on_drive_reply, or_else, on_message}
use Rattle.server_rules.specs.Openings.{crashed_file, opens, opens_each, reopen}
use Rattle.server_rules.specs.Orders.{Ordered, starts, begins_job, recalls_on, declares_known, declare, declares_each, offline, ordered}
use Rattle.server_rules.specs.Replies.{answers, hearing, hears, on_reply, heard_in, heard_by}
use Rattle.server_rules.specs.Requests.{serves, on_request}
use Rattle.server_rules.specs.Standing.{lose_on, any_on}
use Rattle.server_rules.proofs.FileLaws.{number_at, put_same, put_other, add_other, not_there}
use Rattle.component_law.specs.Components.{is_lacking}
use Rattle.component_law.specs.Distinct.{AreDistinct}
use Rattle.component_law.specs.Words.{Each}
use Rattle.component_law.proofs.Components.{none_lost_on}
use Rattle.component_law.specs.Objects.{target_in}
use Rattle.history_law.proofs.Steps.{each_request}
use Rattle.history_law.specs.Steps.{new_file}
use Rattle.world_history.specs.ServerNames.{Server, File, Kept, Note, NoteKind, Busy, Spent, Drive, Job, JobKind, Revoking, Rebuilding, Auditing, Awaited, Target, Effects, ClientRequest, Reply, OrderKind, IsSpent, HasStarted, ToRecall, ToRevoke, ToDeclare, ToRebuild, ToAudit}
use Rattle.world_history.specs.State.{World}
use Rattle.fence_law.specs.State.{State}
use Rattle.file_simulation.specs.ServerEvents as table
use Rattle.relation_law.specs.ComponentsWalk.{is_silent, IsPlain, IsWalked, TakesReports}
use Rattle.relation_law.proofs.KeptServer.{at_place}
use Rattle.relation_law.proofs.ComponentsJobs.{own_hears, own_fence, own_declares, own_opens, own_making}
use Rattle.relation_law.proofs.ComponentsServes.{own_serves}
use Rattle.relation_law.proofs.ComponentsNotes.{AreTold, told_walked}
use Rattle.relation_law.proofs.ComponentsReports.{Alone, alone_walked, alone_reports, alone_first, quiet_told, takes_reports}

-- ---- places

-- what a rebuild makes anew is missing, of each file
abbrev pub AreAimed : List File → Type 0
AreAimed fs =
    (x : File) → In x fs → (j : Job) (t : Target) → x.job ≡ Some j → target_in j.work ≡ Some t →
    is_lacking x.kept.components t.component ≡ true

module _ (s t : State) (w : World) (f : File) (i : Input) (there : file_at w.server.files f.kept.number ≡ Some f)
    (apart : AreDistinct w.server.files) (aimed : AreAimed w.server.files) where
  abbrev server : Server
  server = w.server

  -- behind these notes the file's components are told
  abbrev pub TellsOf : List File → List Note → Type 0
  TellsOf files notes = (g : File) → file_at files f.kept.number ≡ Some g → AreTold s t w f i g.kept notes

  -- so it is behind a step
  abbrev pub Tells : Step → Type 0
  Tells did = TellsOf did.state.files did.notes

  module _ (start : AreTold s t w f i f.kept []) where
    pub stays : (files : List File) → file_at files f.kept.number ≡ Some f → TellsOf files []
    stays files same g found =
        subst (λ (x : File). AreTold s t w f i x.kept []) (same_Some f g (sym same ∙ found)) start

    -- this file goes on
    own : (x : File) (notes : List Note) → AreTold s t w f i x.kept notes → (n : ℕ) → n ≡ f.kept.number →
        TellsOf (put_file server.files n x) notes
    own x notes told n number g found =
        let here : file_at (put_file server.files f.kept.number x) f.kept.number ≡ Some x =
        put_same server.files f.kept.number x f told.number there in
        let same : x ≡ g =
        same_Some x g (sym here ∙ sym (ap (λ (m : ℕ). file_at (put_file server.files m x) f.kept.number) number) ∙ found) in
        subst (λ (y : File). AreTold s t w f i y.kept notes) same told

    -- another one goes on
    other : (n : ℕ) (k : Kept) (notes : List Note) → (n ≡ f.kept.number → ⊥) → Alone n [] k notes → (files : List File) →
        file_at files f.kept.number ≡ Some f → TellsOf files notes
    other n k notes ne alone files here g found =
        subst (λ (y : File). AreTold s t w f i y.kept notes) (same_Some f g (sym here ∙ found))
        (quiet_told s t w f i f.kept n [] notes k ne start alone)

    other_put : (x y : File) (n : ℕ) → n ≡ x.kept.number → (x.kept.number ≡ f.kept.number → ⊥) →
        y.kept.number ≡ x.kept.number → file_at (put_file server.files n y) f.kept.number ≡ Some f
    other_put x y n number ne same =
        put_other server.files n y (same ∙ sym number) f.kept.number
        (ne_eqb n f.kept.number (λ e. ne (sym number ∙ e))) ∙ there

    -- whichever it is
    goes : (x : File) (G : Going) → file_at server.files x.kept.number ≡ Some x →
        ((Q : Kept → List Note → Type 0) → (q : IsWalked Q) → Q x.kept [] → Q G.file.kept G.effects.notes) → (n : ℕ) →
        n ≡ x.kept.number → TellsOf (put_file server.files n G.file) G.effects.notes
    goes x G found walk n number =
        let alone : Alone x.kept.number [] G.file.kept G.effects.notes =
        walk (λ k ns. Alone x.kept.number [] k ns) (alone_walked x.kept.number []) (alone_first x.kept []) in
        elim (cases_eq x.kept.number f.kept.number) [
          | inl here ↦
              let same : x ≡ f = same_Some x f (sym found ∙ ap (file_at server.files) here ∙ there) in
              own G.file G.effects.notes
              (walk (λ k ns. AreTold s t w f i k ns) (told_walked s t w f i)
              (subst (λ (y : File). AreTold s t w f i y.kept []) (sym same) start)) n (number ∙ here)
          | inr ne ↦
              other x.kept.number G.file.kept G.effects.notes ne alone (put_file server.files n G.file)
              (other_put x G.file n number ne alone.number)
        ]

    -- ---- a reply

    module _ (chosen : List ℕ) (drive : ℕ) (r : Reply) where
      awaiting : (x : File) → In x server.files → (j : Job) → x.job ≡ Some j → (o : Option Awaited) → (later : Option Going) →
          Tells (by_heard server later) → Tells (by_heard server (or_else (heard_by (at_file server chosen x) r j o) later))
      awaiting x among j runs None later rest = rest
      awaiting x among j runs (Some a) later rest =
          let number : (hears (at_file server chosen x) j a r (hearing x.kept a r)).file.kept.number ≡ x.kept.number =
          (own_hears (λ k ns. Alone x.kept.number [] k ns) (alone_walked x.kept.number []) (at_file server chosen x) j a r
          (hearing x.kept a r) (λ t e. aimed x among j t runs e) (alone_first x.kept [])).number in
          goes x (hears (at_file server chosen x) j a r (hearing x.kept a r)) (at_place server.files x apart among)
          (λ Q q h. own_hears Q q (at_file server chosen x) j a r (hearing x.kept a r) (λ t e. aimed x among j t runs e) h)
          (hears (at_file server chosen x) j a r (hearing x.kept a r)).file.kept.number number

      working : (x : File) → In x server.files → (o : Option Job) → x.job ≡ o → (later : Option Going) →
          Tells (by_heard server later) → Tells (by_heard server (or_else (heard_in (at_file server chosen x) drive r o) later))
      working x among None runs later rest = rest
      working x among (Some j) runs later rest =
          awaiting x among j runs (find (answers drive r) j.awaited) later rest

      first_heard : (fs : List File) → ((x : File) → In x fs → In x server.files) →
          Tells (by_heard server (heard_at server chosen drive r fs))
      unfolding heard_at on_reply
      first_heard [] among = stays server.files there
      first_heard (x ∷ fs) among =
          working x (among x (inl refl)) x.job refl (heard_at server chosen drive r fs)
          (first_heard fs (λ y j. among y (inr j)))

      replied : Tells (on_drive_reply server chosen drive r)
      unfolding on_drive_reply
      replied = first_heard server.files (λ x j. j)

    -- ---- an order on a file

    module _ (chosen : List ℕ) where
      noted_one : (x : File) → file_at server.files x.kept.number ≡ Some x → (kind : NoteKind) → is_silent kind ≡ true →
          Tells (step_at server x.kept.number (noting (at_file server chosen x) kind))
      noted_one x found kind silent =
          goes x (noting (at_file server chosen x) kind) found (λ Q q h. q.silent x.kept [] kind silent h) x.kept.number refl

      fenced : (job : JobKind) (x : File) → file_at server.files x.kept.number ≡ Some x → (b : Bool) →
          Tells ((λ (o : Ordered). o.step) (if b then record {
            step = step_at server x.kept.number (noting (at_file server chosen x) Spent);
            result = IsSpent;
          }
          else record {
            step = step_at server x.kept.number (fence_begins job server.format (at_file server chosen x));
            result = HasStarted;
          }))
      fenced job x found true = noted_one x found Spent refl
      fenced job x found false =
          goes x (fence_begins job server.format (at_file server chosen x)) found
          (λ Q q h. own_fence Q q job server.format (at_file server chosen x) h) x.kept.number refl

      begun : (job : JobKind) (x : File) → file_at server.files x.kept.number ≡ Some x → (o : Option Job) →
          Tells (begins_job server chosen job x o).step
      begun job x found (Some j) = noted_one x found (Busy (lowest j.awaited)) refl
      begun job x found None = fenced job x found (x.kept.tag == GREATEST_TAG)

      started : (job : JobKind) (n : ℕ) (o : Option File) → file_at server.files n ≡ o → Tells (starts server chosen job o).step
      started job n None found = stays server.files there
      started job n (Some x) found =
          begun job x (subst (λ (k : ℕ). file_at server.files k ≡ Some x) (sym (number_at server.files n x found)) found) x.job

      recalled : (o : Option File) → Tells (recalls_on server o).step
      recalled None = stays server.files there
      recalled (Some x) = stays server.files there

      -- any order but a declaration
      pub obeyed : (kind : OrderKind) (n : ℕ) → (kind ≡ ToDeclare → ⊥) → Tells (ordered server chosen kind n).step
      unfolding ordered
      obeyed ToRecall n other = recalled (file_at server.files n)
      obeyed ToRevoke n other = started Revoking n (file_at server.files n) refl
      obeyed ToDeclare n other = absurd (other refl)
      obeyed ToRebuild n other = started Rebuilding n (file_at server.files n) refl
      obeyed ToAudit n other = started Auditing n (file_at server.files n) refl

    -- ---- a request

    module _ (now : ℕ) (chosen : List ℕ) (q : ClientRequest) (asks : table.asker i ≡ Some q.client) where
      served : (x : File) → file_at server.files x.kept.number ≡ Some x → x.kept.number ≡ q.file → (G : Going) →
          G ≡ (serves (at_file server chosen x) server.next_grant server.format now q.client q.args).going →
          TellsOf (put_file server.files q.file G.file) G.effects.notes
      served x at_ number G is =
          let walk : (Q : Kept → List Note → Type 0) → (y : IsWalked Q) → TakesReports Q → Q x.kept [] →
          Q G.file.kept G.effects.notes =
          λ Q y takes h. subst (λ (H : Going). Q H.file.kept H.effects.notes) (sym is)
          (own_serves Q y takes (at_file server chosen x) server.next_grant server.format now q.client q.args h) in
          let alone : Alone x.kept.number [] G.file.kept G.effects.notes =
          walk (λ k ns. Alone x.kept.number [] k ns) (alone_walked x.kept.number []) (alone_reports x.kept.number [])
          (alone_first x.kept []) in
          elim (cases_eq x.kept.number f.kept.number) [
            | inl here ↦
                let same : x ≡ f = same_Some x f (sym at_ ∙ ap (file_at server.files) here ∙ there) in
                own G.file G.effects.notes
                (walk (λ k ns. AreTold s t w f i k ns) (told_walked s t w f i) (takes_reports s t w f i q.client asks)
                (subst (λ (y : File). AreTold s t w f i y.kept []) (sym same) start)) q.file (sym number ∙ here)
            | inr ne ↦
                other x.kept.number G.file.kept G.effects.notes ne alone (put_file server.files q.file G.file)
                (other_put x G.file q.file (sym number) ne alone.number)
          ]

      pub asked : Tells (on_request server now chosen q)
      asked = each_request server now chosen q Tells (record {
        again = λ kept is. stays server.files there;
        misordered = λ expected is. stays server.files there;
        without = λ new none. stays server.files there;
        served = λ new x found.
            served x
            (subst (λ (k : ℕ). file_at server.files k ≡ Some x) (sym (number_at server.files q.file x found)) found)
            (number_at server.files q.file x found)
            (serves (at_file server chosen x) server.next_grant server.format now q.client q.args).going refl;
      })

    -- ---- a new file

    pub made : (chosen : List ℕ) (n : ℕ) (m : RawMap) (tag : ℕ) (zoned : Bool) → refusal server n m zoned ≡ None →
        Tells (makes_file server (new_file server chosen n m tag zoned))
    made chosen n m tag zoned ok =
        let x : File = new_file server chosen n m tag zoned in
        let G : Going =
        making (at_file (with_file server (new_file server chosen n m tag zoned)) [] (new_file server chosen n m tag zoned)) in
        let ne : n ≡ f.kept.number → ⊥ =
        λ e. cc (sym (ap (file_at server.files) e ∙ there) ∙ not_there server n m zoned ok) in
        let alone : Alone n [] G.file.kept G.effects.notes =
        own_making (λ k ns. Alone n [] k ns) (alone_walked n [])
        (at_file (with_file server (new_file server chosen n m tag zoned)) [] (new_file server chosen n m tag zoned))
        (alone_first (new_file server chosen n m tag zoned).kept []) in
        other n G.file.kept G.effects.notes ne alone _
        (put_other (with_file server (new_file server chosen n m tag zoned)).files n G.file alone.number f.kept.number
        (ne_eqb n f.kept.number ne)
        ∙ add_other server.files (new_file server chosen n m tag zoned) f.kept.number (ne_eqb n f.kept.number ne) ∙ there)

  -- ---- rounds

  -- what each file becomes in its turn; `k` is what is kept of this one to begin with
  module _ (go : File → Effects → List ℕ → Going)
      (alone : (x : File) (m : Effects) (c : List ℕ) →
      Alone x.kept.number m.notes (go x m c).file.kept (go x m c).effects.notes) (k : Kept)
      (mine : (m : Effects) (c : List ℕ) → AreTold s t w f i k m.notes →
      AreTold s t w f i (go f m c).file.kept (go f m c).effects.notes) where
    -- a round through these files
    pub round_files : List File → Effects → List ℕ → List File
    round_files [] m c = []
    round_files (x ∷ fs) m c = (go x m c).file ∷ round_files fs (go x m c).effects (go x m c).chosen

    pub round_notes : List File → Effects → List ℕ → List Note
    round_notes [] m c = m.notes
    round_notes (x ∷ fs) m c = round_notes fs (go x m c).effects (go x m c).chosen

    -- files that aren't this one tell nothing of it
    others : (l : Kept) (fs : List File) (m : Effects) (c : List ℕ) →
        Each (λ (x : File). x.kept.number ≡ f.kept.number → ⊥) fs → AreTold s t w f i l m.notes →
        AreTold s t w f i l (round_notes fs m c)
    unfolding round_notes
    others l [] m c none h = h
    others l (x ∷ fs) m c none h =
        others l fs (go x m c).effects (go x m c).chosen none.1
        (quiet_told s t w f i l x.kept.number m.notes (go x m c).effects.notes (go x m c).file.kept none.0 h (alone x m c))

    pub rounds : (fs : List File) (m : Effects) (c : List ℕ) → AreDistinct fs → file_at fs f.kept.number ≡ Some f →
        AreTold s t w f i k m.notes → TellsOf (round_files fs m c) (round_notes fs m c)
    unfolding round_files round_notes file_at
    rounds [] m c d found h g e = absurd (cc found)
    rounds (x ∷ fs) m c d found h g e = elim (cases_eq x.kept.number f.kept.number) [
      | inl here ↦
          let same : x ≡ f = same_Some x f (rw (eq-eqb x.kept.number f.kept.number here) at found) in
          let told : AreTold s t w f i (go x m c).file.kept (go x m c).effects.notes =
          subst (λ (y : File). AreTold s t w f i (go y m c).file.kept (go y m c).effects.notes) (sym same) (mine m c h) in
          let its : (go x m c).file ≡ g =
          same_Some (go x m c).file g (rw (eq-eqb (go x m c).file.kept.number f.kept.number told.number) at e) in
          subst (λ (y : File). AreTold s t w f i y.kept (round_notes fs (go x m c).effects (go x m c).chosen)) its
          (others (go x m c).file.kept fs (go x m c).effects (go x m c).chosen
          (subst (λ (n : ℕ). Each (λ (y : File). y.kept.number ≡ n → ⊥) fs) here d.0) told)
      | inr ne ↦
          let past : ((go x m c).file.kept.number ≡ f.kept.number → ⊥) = λ q. ne (sym (alone x m c).number ∙ q) in
          rounds fs (go x m c).effects (go x m c).chosen d.1 (rw (ne_eqb x.kept.number f.kept.number ne) at found)
          (quiet_told s t w f i k x.kept.number m.notes (go x m c).effects.notes (go x m c).file.kept ne h (alone x m c)) g
          (rw (ne_eqb (go x m c).file.kept.number f.kept.number past) at e)
    ]

  -- ---- a declaration

  module _ (drive : ℕ) (ds : List Drive)
      (lost : AreTold s t w f i (record f.kept { components = lose_on drive f.kept.components }) []) where
    declares_it : File → Effects → List ℕ → Going
    declares_it x m c = declares (record { file = x; effects = m; drives = ds; chosen = c }) drive

    declared_alone : (x : File) (m : Effects) (c : List ℕ) →
        Alone x.kept.number m.notes (declares_it x m c).file.kept (declares_it x m c).effects.notes
    unfolding declares_it
    declared_alone x m c =
        own_declares (λ k ns. Alone x.kept.number m.notes k ns) (alone_walked x.kept.number m.notes)
        (record { file = x; effects = m; drives = ds; chosen = c }) drive
        (alone_first (record x.kept { components = lose_on drive x.kept.components }) m.notes)
        (λ none. alone_first x.kept m.notes)

    declared_mine : (m : Effects) (c : List ℕ) →
        AreTold s t w f i (record f.kept { components = lose_on drive f.kept.components }) m.notes →
        AreTold s t w f i (declares_it f m c).file.kept (declares_it f m c).effects.notes
    unfolding declares_it
    declared_mine m c h =
        own_declares (λ k ns. AreTold s t w f i k ns) (told_walked s t w f i)
        (record { file = f; effects = m; drives = ds; chosen = c }) drive h
        (λ none. (told_walked s t w f i).same (record f.kept { components = lose_on drive f.kept.components }) f.kept m.notes
        refl (sym (none_lost_on drive f.kept.components none)) h)

    declared_round : (fs : List File) (m : Effects) (c : List ℕ) →
        (((declares_each drive ds fs m c).files ≡ round_files declares_it declared_alone _ declared_mine fs m c)
        × ((declares_each drive ds fs m c).effects.notes ≡ round_notes declares_it declared_alone _ declared_mine fs m c))
    unfolding declares_each round_files round_notes declares_it
    declared_round [] m c = (refl, refl)
    declared_round (x ∷ fs) m c =
        let g : Going = declares (record { file = x; effects = m; drives = ds; chosen = c }) drive in
        let r = declared_round fs (declares (record { file = x; effects = m; drives = ds; chosen = c }) drive).effects
        (declares (record { file = x; effects = m; drives = ds; chosen = c }) drive).chosen in
        (ap (λ (xs : List File). (declares (record { file = x; effects = m; drives = ds; chosen = c }) drive).file ∷ xs) r.0, r.1)

    pub declared_each : (m : Effects) (c : List ℕ) → m.notes ≡ [] →
        TellsOf (declares_each drive ds server.files m c).files (declares_each drive ds server.files m c).effects.notes
    declared_each m c none g found =
        let r = declared_round server.files m c in
        subst (λ (ns : List Note). AreTold s t w f i g.kept ns) (sym r.1)
        (rounds declares_it declared_alone (record f.kept { components = lose_on drive f.kept.components }) declared_mine
        server.files m c apart there
        (subst (λ (ns : List Note). AreTold s t w f i (record f.kept { components = lose_on drive f.kept.components }) ns)
        (sym none) lost) g (sym (ap (λ (xs : List File). file_at xs f.kept.number) r.0) ∙ found))

    -- one that the server doesn't know is none
    pub declared : (chosen : List ℕ) (b : Bool) → (b ≡ false → any_on drive f.kept.components ≡ false) →
        (ds ≡ offline server.drives drive) → Tells (declares_known server chosen drive b).step
    unfolding declare
    declared chosen true known is g found =
        declared_as is (begins server) chosen refl g found
      where
        declared_as : (ds ≡ offline server.drives drive) → (m : Effects) (c : List ℕ) → m.notes ≡ [] →
            TellsOf (declares_each drive (offline server.drives drive) server.files m c).files
            (declares_each drive (offline server.drives drive) server.files m c).effects.notes
        declared_as e m c none =
            subst (λ (xs : List Drive). TellsOf (declares_each drive xs server.files m c).files
            (declares_each drive xs server.files m c).effects.notes) e (declared_each m c none)
    declared chosen false known is g found =
        let same : f ≡ g = same_Some f g (sym there ∙ found) in
        subst (λ (y : File). AreTold s t w f i y.kept []) same
        ((told_walked s t w f i).same (record f.kept { components = lose_on drive f.kept.components }) f.kept [] refl
        (sym (none_lost_on drive f.kept.components (known refl))) lost)

  -- ---- an opening

  module _ (start : AreTold s t w f i f.kept []) (format : ℕ) (ds : List Drive) where
    opens_it : File → Effects → List ℕ → Going
    opens_it x m c = opens format (record { file = x; effects = m; drives = ds; chosen = [] })

    opened_alone : (x : File) (m : Effects) (c : List ℕ) →
        Alone x.kept.number m.notes (opens_it x m c).file.kept (opens_it x m c).effects.notes
    unfolding opens_it
    opened_alone x m c =
        own_opens (λ k ns. Alone x.kept.number m.notes k ns) (alone_walked x.kept.number m.notes) format
        (record { file = x; effects = m; drives = ds; chosen = [] }) (alone_first x.kept m.notes)

    opened_mine : (m : Effects) (c : List ℕ) → AreTold s t w f i f.kept m.notes →
        AreTold s t w f i (opens_it f m c).file.kept (opens_it f m c).effects.notes
    unfolding opens_it
    opened_mine m c h =
        own_opens (λ k ns. AreTold s t w f i k ns) (told_walked s t w f i) format
        (record { file = f; effects = m; drives = ds; chosen = [] }) h

    opened_round : (fs : List File) (m : Effects) (c : List ℕ) →
        (((opens_each format ds fs m).files ≡ round_files opens_it opened_alone f.kept opened_mine fs m c)
        × ((opens_each format ds fs m).effects.notes ≡ round_notes opens_it opened_alone f.kept opened_mine fs m c))
    unfolding opens_each round_files round_notes opens_it
    opened_round [] m c = (refl, refl)
    opened_round (x ∷ fs) m c =
        let r = opened_round fs (opens format (record { file = x; effects = m; drives = ds; chosen = [] })).effects
        (opens format (record { file = x; effects = m; drives = ds; chosen = [] })).chosen in
        (ap (λ (xs : List File). (opens format (record { file = x; effects = m; drives = ds; chosen = [] })).file ∷ xs) r.0, r.1)

    pub opened_each : (m : Effects) → m.notes ≡ [] →
        TellsOf (opens_each format ds server.files m).files (opens_each format ds server.files m).effects.notes
    opened_each m none g found =
        let r = opened_round server.files m [] in
        subst (λ (ns : List Note). AreTold s t w f i g.kept ns) (sym r.1)
        (rounds opens_it opened_alone f.kept opened_mine server.files m [] apart there
        (subst (λ (ns : List Note). AreTold s t w f i f.kept ns) (sym none) start) g
        (sym (ap (λ (xs : List File). file_at xs f.kept.number) r.0) ∙ found))

  -- ---- any step but a declaration

  crashed_at : (fs : List File) (n : ℕ) (x : File) → file_at fs n ≡ Some x →
      file_at (map crashed_file fs) n ≡ Some (crashed_file x)
  unfolding file_at
  crashed_at [] n x e = absurd (cc e)
  crashed_at (y ∷ fs) n x e = elim (cases_eq y.kept.number n) [
    | inl here ↦
        let same : y ≡ x = same_Some y x (rw (eq-eqb y.kept.number n here) at e) in
        rw (eq-eqb y.kept.number n here) (ap (λ (z : File). Some (crashed_file z)) same)
    | inr other ↦ rw (ne_eqb y.kept.number n other) (crashed_at fs n x (rw (ne_eqb y.kept.number n other) at e))
  ]

  module _ (start : AreTold s t w f i f.kept []) (chosen : List ℕ) where
    none_done : Tells (still server)
    none_done = stays start server.files there

    either : (b : Bool) (x y : Step) → Tells x → Tells y → Tells (if b then x else y)
    either true x y p q = p
    either false x y p q = q

    handles : (now : ℕ) (from : Node) (m : Message) → i ≡ Hears now from m → IsPlain (Hears now from m) →
        Tells (handled server now chosen from m)
    handles now (node.Client c) (Asks q) is plain =
        either ((q.client == c) && nat_le c MAX_CLIENT) _ _ (asked start now chosen q (ap table.asker is)) none_done
    handles now (node.Client c) (Replies r) is plain = none_done
    handles now (node.Client c) (Orders o) is plain = none_done
    handles now (node.Drive d) (Replies r) is plain = replied start chosen d r
    handles now (node.Drive d) (Asks q) is plain = none_done
    handles now (node.Drive d) (Orders o) is plain = none_done
    handles now node.Server (Orders o) is plain = absurd plain
    handles now node.Server (Asks q) is plain = none_done
    handles now node.Server (Replies r) is plain = none_done

    made_or : (n : ℕ) (m : RawMap) (tag : ℕ) (zoned : Bool) (o : Option Refusal) → refusal server n m zoned ≡ o →
        Tells (unless_made server (unless_refused o (makes_file server (new_file server chosen n m tag zoned))))
    made_or n m tag zoned (Some why) refused = none_done
    made_or n m tag zoned None refused = made start chosen n m tag zoned refused

    pub tells_step : (j : Input) → i ≡ j → IsPlain j → Tells (step server chosen j)
    unfolding on_message create_file reopen
    tells_step (Hears now from m) is plain =
        either (counters_have_room server) _ _ (handles now from m is plain) none_done
    tells_step (Makes n m tag zoned) is plain = made_or n m tag zoned (refusal server n m zoned) refl
    tells_step (Obeys ToDeclare n) is plain = absurd plain
    tells_step (Obeys ToRecall n) is plain = obeyed start chosen ToRecall n (λ e. cc e)
    tells_step (Obeys ToRevoke n) is plain = obeyed start chosen ToRevoke n (λ e. cc e)
    tells_step (Obeys ToRebuild n) is plain = obeyed start chosen ToRebuild n (λ e. cc e)
    tells_step (Obeys ToAudit n) is plain = obeyed start chosen ToAudit n (λ e. cc e)
    tells_step (Adds d) is plain = stays start server.files there
    tells_step (Zones d zone) is plain = stays start server.files there
    tells_step (Formats n) is plain = stays start server.files there
    tells_step Resends is plain = stays start server.files there
    tells_step Crashes is plain =
        λ g found.
        subst (λ (y : File). AreTold s t w f i y.kept [])
        (same_Some (crashed_file f) g (sym (crashed_at server.files f.kept.number f there) ∙ found))
        ((told_walked s t w f i).same f.kept (crashed_file f).kept [] refl refl start)
    tells_step Opens is plain =
        either (counters_have_room server) _ _
        (opened_each start server.format server.drives (begins server) refl) none_done
