-- Behind the last reply to the WRITEs of a piece each cell of it that isn't lost has its word, so each of its columns stands.
-- Towards `DoneFollows` and `ServersAreLawful` (`specs/Parts.antt`).
use Rattle.std.proofs.Common.{◌≡◌, ◌||◌, ℕ, ◌<◌, Bool, true, false, not, List, [], ◌∷◌, length, slice_get, Option, Some, None, refl, sym, ap, subst, ◌∙◌, inl, inr, arith}
use Rattle.std.proofs.lemmas.Bool.{cases_eq, ne_eqb}
use Rattle.std.proofs.lemmas.Option.{same_Some}
use Rattle.std.specs.Prelude.{nat_lt}
use Rattle.std.proofs.lemmas.Bool.Decides.{nat_tests}
use Rattle.osd_lists.proofs.Slices.{some_at}
use Rattle.osd_lists.specs.declared.node.Node.TheVariants as node
use Rattle.osd_commands.specs.declared.replies.Reply.{Reply}
use Rattle.osd_objects.specs.Store.{object_at, lane_or_none}
use Rattle.scenario_text.specs.declared.line.Line.{Line}
use Rattle.server_rules.specs.declared.limits.TheConstants.{SERVER_HOLDER, PERFORMED}
use Rattle.server_rules.specs.Files.{file_at}
use Rattle.server_rules.specs.History.{Hears, Act, step, state_after}
use Rattle.server_rules.specs.Laws.{In}
use Rattle.server_rules.specs.Making.{new_server}
use Rattle.server_rules.specs.Messages.{Replies, awaited_by}
use Rattle.server_rules.specs.Replies.{Done, answers, hearing, others}
use Rattle.server_rules.proofs.Members.{in_filter}
use Rattle.history_law.specs.Names.{Server, File, Component, Awaited, Piece, Job, Work, Stores}
use Rattle.history_law.specs.Owned.{AreOwned}
use Rattle.history_law.specs.Spent.{HasPassed, IsSpent}
use Rattle.history_law.proofs.FencingMoves.{IsSent}
use Rattle.history_law.proofs.Files.{in_at}
use Rattle.history_law.proofs.Hearing.{done_is_done}
use Rattle.history_law.proofs.JobSteps.{step_owns}
use Rattle.history_law.specs.Moments.{IsMoment}
use Rattle.world_history.specs.State.{World, DriveAt, at_number}
use Rattle.fence_law.specs.Columns.{Stands}
use Rattle.fence_law.specs.State.{State, Layout}
use Rattle.file_simulation.specs.Claim.{IsOfScenario}
use Rattle.file_simulation.specs.Components.{has_failed, is_lost_in, object_of, object_on}
use Rattle.file_simulation.specs.Jobs.{HasColumn, AreDue, DueIn, DueOf}
use Rattle.file_simulation.specs.Relation.{IsRelated}
use Rattle.relation_law.specs.Awaiting.{IsStore, IsAskedIn, FitsIn}
use Rattle.relation_law.specs.DriveHearing.{IsLaidOut}
use Rattle.relation_law.specs.Hearing.{TellsOfWrite}
use Rattle.relation_law.proofs.OwnedBefore.{OwnedLaws, run, held, fits_in, done_verdict}
use Rattle.relation_law.proofs.Hearing.{tells_at}

-- ---- small facts

-- each command that is awaited behind a run of the server is under its own holder
owned_after : (s : Server) (acts : List Act) → AreOwned s.files → AreOwned (state_after s acts).files
owned_after s [] own = own
owned_after s (a ∷ acts) own =
    owned_after (step s a.chosen a.input).state acts ((step_owns s a.chosen a.input).waits own)

-- what is lost has failed or is missing
pub lives : (missing failed : Bool) → (missing || failed) ≡ false → (missing ≡ false) × (failed ≡ false)
lives true b e = absurd (cc e)
lives false b e = (refl, e)

-- the last reply to a WRITE of the piece comes, and tells that it was performed
pub record IsLastReply (w : World) (f : File) (p : Piece) : Type 0 where
  pub job : Job
  pub runs : f.job ≡ Some job
  pub todo : List Piece
  pub short : List ℕ
  pub is_broken : Bool
  pub work : job.work ≡ Stores (p ∷ todo) short is_broken
  pub now : ℕ
  pub drive : ℕ
  pub reply : Reply
  pub sent : IsSent w (Hears now (node.Drive drive) (Replies reply))
  pub awaited : Awaited
  pub awaits : In awaited job.awaited
  pub answers_it : answers drive reply awaited ≡ true
  pub done : hearing f.kept awaited reply ≡ Done
  pub last : others job.awaited awaited.command.nonce ≡ []

module _ (laws : OwnedLaws) (w : World) (h : List Line) (moment : IsMoment w h) (scenario : IsOfScenario h) (s : State)
    (f : File) (there : file_at w.server.files f.kept.number ≡ Some f) (related : IsRelated s w f) (laid : IsLaidOut f) where
  pub in_files : In f w.server.files
  in_files = in_at w.server.files f.kept.number f there

  -- a command that a job of the file awaits is under the server's holder
  pub holder_of : (j : Job) → f.job ≡ Some j → (a : Awaited) → In a j.awaited → a.command.capability.holder ≡ SERVER_HOLDER
  holder_of j runs a i =
      let r = run laws w h moment scenario in
      let all : AreOwned w.server.files =
      subst (λ (y : Server). AreOwned y.files) (sym r.server) (owned_after (new_server []) r.acts (λ b x. absurd x.1)) in
      all a (f, in_files, subst (λ (o : Option Job). In a (awaited_by o)) (sym runs) i)

  -- a WRITE of a repair goes to a component's object
  pub store_of : (j : Job) → f.job ≡ Some j → (p : Piece) (ps : List Piece) (short : List ℕ) (q : Bool) →
      j.work ≡ Stores (p ∷ ps) short q → (a : Awaited) → In a j.awaited → IsStore f.kept.map f.kept.components p a
  store_of j runs p ps short q work a i =
      subst (λ (y : Work). IsAskedIn f.kept y a) work
      ((subst (FitsIn f.kept) runs (fits_in laws w h moment scenario f in_files)).asked a i)

  -- and no two have one nonce
  pub alone_in : (j : Job) → f.job ≡ Some j → (a c : Awaited) → In a j.awaited → In c j.awaited →
      a.command.nonce ≡ c.command.nonce → a ≡ c
  alone_in j runs a c x y nonce =
      (held laws w h moment scenario).numbers.alone a c
      (f, in_files, subst (λ (o : Option Job). In a (awaited_by o)) (sym runs) x)
      (f, in_files, subst (λ (o : Option Job). In c (awaited_by o)) (sym runs) y) nonce

  -- where the reply to such a WRITE tells that it was performed, the lane has passed it at a component that isn't lost
  pub has_passed : (j : Job) → f.job ≡ Some j → (p : Piece) (ps : List Piece) (short : List ℕ) (q : Bool) →
      j.work ≡ Stores (p ∷ ps) short q → (now drive : ℕ) (r : Reply) →
      IsSent w (Hears now (node.Drive drive) (Replies r)) → (a : Awaited) → In a j.awaited → answers drive r a ≡ true →
      hearing f.kept a r ≡ Done → (at : Component) → slice_get f.kept.components a.component ≡ Some at →
      is_lost_in w at ≡ false → HasPassed (lane_or_none (object_of w at) SERVER_HOLDER) a.command.nonce
  has_passed j runs p ps short q work now d r m a i answer done at found lost =
      let store = store_of j runs p ps short q work a i in
      let tells : TellsOfWrite (at_number w.drives a.drive) a.command r =
      tells_at laws.more laws.counters laws.ahead w h moment scenario d m.0 m.1 m.2 m.3 m.4 r m.5 f in_files a
      (subst (λ (o : Option Job). In a (awaited_by o)) (sym runs) i) answer store.action_is in
      let verdict = done_verdict f.kept a r store.action_is (done_is_done f.kept a r done) in
      let same : store.of.component ≡ at = same_Some store.of.component at (sym store.of.there ∙ found) in
      let drive : a.drive ≡ at.drive = store.of.drive ∙ ap (λ (y : Component). y.drive) same in
      let object : a.command.object ≡ at.object = store.of.object ∙ ap (λ (y : Component). y.object) same in
      let stands = lives at.missing (has_failed (at_number w.drives at.drive)) lost in
      by_drive at (at_number w.drives at.drive) refl stands.1
      (subst (λ (n : ℕ). TellsOfWrite (at_number w.drives n) a.command r) drive tells) verdict object
    where
      by_drive : (at : Component) (o : Option DriveAt) → at_number w.drives at.drive ≡ o →
          has_failed (at_number w.drives at.drive) ≡ false → TellsOfWrite (at_number w.drives at.drive) a.command r →
          r.verdict ≡ PERFORMED → a.command.object ≡ at.object →
          HasPassed (lane_or_none (object_of w at) SERVER_HOLDER) a.command.nonce
      by_drive at None e stands tells verdict object =
          absurd (subst (λ (o : Option DriveAt). IsSpent o a.command) e (tells.done verdict))
      by_drive at (Some b) e stands tells verdict object =
          subst (λ (o : Option DriveAt). HasPassed (lane_or_none (object_on o at.object) SERVER_HOLDER) a.command.nonce)
          (sym e)
          (subst (λ (n : ℕ). HasPassed (lane_or_none (object_at b.state.store n) SERVER_HOLDER) a.command.nonce) object
          (subst (λ (n : ℕ). HasPassed (lane_or_none (object_at b.state.store a.command.object) n) a.command.nonce)
          (holder_of j runs a i) (tells.passed verdict b e (sym (ap has_failed e) ∙ stands))))

  -- behind the last reply each column of the piece stands
  module _ (p : Piece) (l : IsLastReply w f p) where
    -- each command that is awaited is the one that is answered
    one : (c : Awaited) → In c l.job.awaited → c ≡ l.awaited
    one c i = elim (cases_eq c.command.nonce l.awaited.command.nonce) [
      | inl same ↦ alone_in l.job l.runs c l.awaited i l.awaits same
      | inr other ↦ absurd (subst (In c) l.last
          (in_filter _ c l.job.awaited i (ap not (ne_eqb c.command.nonce l.awaited.command.nonce other))))
    ]

    due : AreDue s w f related.jobs.owe.bytes l.job.awaited p
    due =
        (subst (λ (y : Work). DueIn s w f related.jobs.owe.bytes l.job.awaited y) l.work
        (subst (λ (o : Option Job). DueOf s w f related.jobs.owe.bytes o) l.runs related.jobs.owe.due)).0

    -- each cell of the piece that isn't lost has its word
    pub last_cell : (k z : ℕ) (at : Component) → slice_get f.kept.components k ≡ Some at → s.lost k ≡ false →
        HasColumn f.kept.map p (s.layout.cell_col k z) → s.cell k z ≡ s.layout.word k z related.jobs.owe.bytes
    last_cell k z at found lost has =
        elim (due k z at found lost (subst (λ (y : Layout). HasColumn f.kept.map p (y.cell_col k z)) related.layout has)) [
          | inl word ↦ word
          | inr d ↦
              let it = one d.command d.awaits in
              let place : l.awaited.component ≡ k = ap (λ (y : Awaited). y.component) (sym it) ∙ d.component in
              absurd (d.ahead (subst (λ (y : Awaited). HasPassed (lane_or_none (object_of w at) SERVER_HOLDER) y.command.nonce)
              (sym it)
              (has_passed l.job l.runs p l.todo l.short l.is_broken l.work l.now l.drive l.reply l.sent l.awaited l.awaits
              l.answers_it l.done at (ap (slice_get f.kept.components) place ∙ found)
              (sym (related.components k at found).lost ∙ lost))))
        ]

    -- so each of its columns stands
    pub last_stands : (x : ℕ) → HasColumn f.kept.map p x → Stands s x related.jobs.owe.bytes
    last_stands x has k z is_cell col lost =
        let below : k < length f.kept.components =
        less k (length f.kept.components)
        (sym (ap (λ (y : Layout). y.is_cell k z) related.layout) ∙ is_cell) laid.components in
        let at = some_at f.kept.components k below in
        last_cell k z at.0 at.1 lost (subst (HasColumn f.kept.map p) (sym col) has)
      where
        less : (n c : ℕ) → nat_lt n f.kept.map.comps ≡ true → c ≡ f.kept.map.comps → n < c
        less n c e same = grind (arith, nat_tests, e, same)
