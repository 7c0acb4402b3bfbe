-- What is known of a file before a move that is followed while a component of it is made anew: no grant is outstanding, what
-- isn't gone has the words of the log's bytes, and so has what is made of the rows that were heard.
use Rattle.std.proofs.Common.{◌≡◌, ◌==◌, ◌&&◌, ℕ, ◌+◌, ◌/◌, ◌<◌, true, not, List, [], ◌∷◌, length, take, Option, Some, None, refl, sym, ap, subst, ◌∙◌, arith, inl, inr, eq-eqb, ne_eqb}
use Rattle.std.proofs.lemmas.Bool.{cases_Bool, cases_eq, and_parts, eqb-true, lt-ltb}
use Rattle.std.proofs.lemmas.Option.{same_Some}
use Rattle.data_map.specs.declared.check.RawMap.{RawMap}
use Rattle.data_map.specs.Striping.{replicas, offset_of}
use Rattle.osd_lists.specs.declared.node.Node.TheVariants as node
use Rattle.osd_commands.specs.declared.replies.Reply.{Reply}
use Rattle.scenario_text.specs.declared.line.Line.{Line}
use Rattle.server_rules.specs.declared.limits.TheConstants.{SERVER_HOLDER}
use Rattle.server_rules.specs.Laws.{In, NoneBeside}
use Rattle.server_rules.specs.Making.{new_server}
use Rattle.server_rules.specs.Maps.{group_with}
use Rattle.server_rules.specs.Messages.{Replies, awaited_by}
use Rattle.server_rules.specs.Rebuild.{made}
use Rattle.server_rules.specs.Replies.{Done, answers, hearing, others, heard_with}
use Rattle.server_rules.specs.Standing.{replica_from, replica}
use Rattle.server_rules.proofs.Members.{in_front, in_behind, in_either, in_filter}
use Rattle.history_law.specs.Grants.{GrantsAreSafe}
use Rattle.history_law.specs.Owned.{AreOwned as AreServers}
use Rattle.history_law.specs.Said.{IsDelivered}
use Rattle.history_law.specs.BookMoments.{IsMoment, lines_in}
use Rattle.history_law.proofs.Coming.{clean_front}
use Rattle.history_law.proofs.Files.{in_at, safe_in}
use Rattle.history_law.proofs.Staying.{written_front}
use Rattle.exchange_law.proofs.CountGrowing.{fewer, text_front}
use Rattle.history_law.proofs.Hearing.{done_is_done}
use Rattle.cause_law.proofs.Answering.{safe_at}
use Rattle.component_law.specs.KeptWalk.{WorkFits}
use Rattle.component_law.specs.Objects.{target_in, target_of}
use Rattle.component_law.specs.Sent.{IsSentByRun}
use Rattle.world_history.specs.ServerNames.{Server, File, Kept, Component, Awaited, Heard, Piece, Target, Job, Phase, Work, Creates, Fences, Fetches, Stores, Targets, Gathers, Fills, Lengths, Checks, Still}
use Rattle.world_history.specs.Handed.{for_server}
use Rattle.world_history.specs.Sending.{Move}
use Rattle.world_history.specs.State.{World}
use Rattle.fence_law.specs.State as machine
use Rattle.fence_law.specs.State.{State}
use Rattle.fence_law.specs.Law.{IsCode, IsWholeAt, byte_before}
use Rattle.fence_law.proofs.Judge.{Right}
use Rattle.fence_law.proofs.Later.{unsettled_none}
use Rattle.plan_law.specs.Pieces.{AreWords}
use Rattle.plan_law.proofs.Codes.{layouts_are_codes}
use Rattle.file_simulation.specs.Claim.{IsOfScenario}
use Rattle.file_simulation.specs.Jobs.{IsRow, AreRows, RowsIn, IsJob, JobIs, HasToldServer}
use Rattle.file_simulation.specs.Phases.{IsStill, PhaseIs}
use Rattle.relation_law.specs.Awaiting.{IsAskedIn, ToDoFits, FitsIn, IsFit}
use Rattle.relation_law.specs.DriveHearing.{IsLaidOut}
use Rattle.relation_law.specs.Steps.{Follows}
use Rattle.relation_law.proofs.CalmRuns.{whole_now}
use Rattle.relation_law.proofs.ComponentsMachine.{right_run}
use Rattle.relation_law.proofs.ComponentsWorld.{laid_out}
use Rattle.relation_law.proofs.KeptRebuilt.{none_outstanding}
use Rattle.relation_law.proofs.OwnedBefore.{held, run, work_fits, fits_in}
use Rattle.relation_law.proofs.OwnedJoined.{JoinLaws}
use Rattle.relation_law.proofs.TargetSpent.{servers_over}
use Rattle.headline_law.proofs.RowsHeard.{WasTold, was_told, done_read}
use Rattle.headline_law.specs.TargetLaws.{todo_in, IsAskedOrHeard, OfSources, OfEachSource, IsWellAsked, IsWellMade, EachTargetIsWellAsked, EachTargetIsWellMade}
use Rattle.headline_law.proofs.TargetPieces.{IsPlanned, planned}
use Rattle.headline_law.proofs.TargetRows.{IsHeard, AreHeardRows, HasWordsOf, made_are_words}

-- what is known of the world
pub record TargetLaws : Type 0 where
  pub join : JoinLaws
  pub safe : GrantsAreSafe
  pub asked : EachTargetIsWellAsked

-- a component is made anew while its file is still
pub still_in : (p : Phase) (work : Work) (t : Target) → WorkFits p work → target_in work ≡ Some t → p ≡ Still
still_in p Creates t fits to = absurd (cc to)
still_in p Fences t fits to = absurd (cc to)
still_in p (Fetches todo short) t fits to = absurd (cc to)
still_in p (Stores todo short b) t fits to = absurd (cc to)
still_in p (Targets u) t fits to = fits
still_in p (Gathers u todo) t fits to = fits
still_in p (Fills u todo) t fits to = fits
still_in p Lengths t fits to = absurd (cc to)
still_in p (Checks todo tally) t fits to = absurd (cc to)

-- the job that has a target
pub job_with : (o : Option Job) (t : Target) → target_of o ≡ Some t → (j : Job) × (o ≡ Some j) × (target_in j.work ≡ Some t)
job_with None t none = absurd (cc none)
job_with (Some j) t aim = (j, refl, aim)

-- a first present replica is one of the components
pub replica_below : (m : RawMap) (position : ℕ) (cs : List Component) (n k : ℕ) → replica_from m position cs n ≡ Some k →
    k < n + length cs
unfolding replica_from
replica_below m position [] n k is = absurd (cc is)
replica_below m position (at ∷ cs) n k is =
    elim (cases_Bool (not at.missing && (n / replicas m == position))) [
      | inl here ↦ let same : n ≡ k = same_Some n k (rw here at is) in omega (arith, same)
      | inr later ↦ let low = replica_below m position cs (n + 1) k (rw later at is) in omega (arith, low)
    ]

-- ---- sources

pub of_sources : (P Q : ℕ → Type 0) (f : Kept) (t : Target) → ((n : ℕ) → P n → Q n) → (o : Option ℕ) →
    OfSources P f t o → OfSources Q f t o
of_sources P Q f t all (Some r) x = all r x
of_sources P Q f t all None x = (x.0, λ n own first. all n (x.1 n own first))

-- where nothing else is awaited, what is awaited has this nonce
pub none_other : (ws : List Awaited) (nonce : ℕ) → others ws nonce ≡ [] → (b : Awaited) → In b ws →
    b.command.nonce ≡ nonce
none_other ws nonce none b i = elim (cases_eq b.command.nonce nonce) [
  | inl same ↦ same
  | inr other ↦
      absurd (subst (In b) none (in_filter (λ (a : Awaited). not (a.command.nonce == nonce)) b ws i
      (ap not (ne_eqb b.command.nonce nonce other))))
]

-- ---- before the move

module _ (laws : TargetLaws) (w : World) (h : List Line) (m : Move) {count : ℕ} (f g : File) (s : State)
    (k : Follows w h m count f g s) where
  abbrev pub before : IsMoment w h
  before = k.moment

  pub scenario : IsOfScenario h
  scenario = record {
    written = written_front h (take count (lines_in w m)) k.calm.scenario.written;
    text = text_front h (take count (lines_in w m)) k.calm.scenario.text;
    few = fewer h (take count (lines_in w m)) k.calm.scenario.few;
  }

  pub in_before : In f w.server.files
  in_before = in_at w.server.files f.kept.number f k.there

  pub laid : IsLaidOut f
  laid =
      laid_out w h before (laws.join.fits w h before scenario.text) (run laws.join.world w h before scenario) f
      k.there

  pub code : IsCode s.layout
  code =
      subst IsCode (sym k.related.layout) (layouts_are_codes f.kept.map f.kept.first_tag laid.checked)

  pub right : Right s
  right = right_run s code k.run

  pub whole : IsWholeAt s
  whole = whole_now s k.run code

  pub well : EachTargetIsWellMade → IsWellMade w f
  well made_ =
      made_ w h before scenario
      (clean_front h (take count (lines_in w m)) k.calm.is_unguessed) f in_before

  pub well_asked : IsWellAsked w f
  well_asked = laws.asked w h before scenario f in_before

  pub fit : FitsIn f.kept f.job
  fit = fits_in laws.join.world w h before scenario f in_before

  -- what jobs await is under the server's holder
  pub awaited_holder : (b : Awaited) → In b (awaited_by f.job) → b.command.capability.holder ≡ SERVER_HOLDER
  awaited_holder b i =
      let ran : IsSentByRun w = run laws.join.world w h before scenario in
      subst (λ (x : Server). AreServers x.files) (sym ran.server)
      (servers_over (new_server []) ran.acts (λ c q. absurd q.1)) b (f, in_before, i)

  pub below : (n position : ℕ) → replica f.kept.map f.kept.components position ≡ Some n → n < f.kept.map.comps
  below n position is =
      let low = replica_below f.kept.map position f.kept.components 0 n is in omega (arith, low, laid.components)

  module _ (j : Job) (runs : f.job ≡ Some j) where
    pub job_is : IsJob s w f j
    job_is = subst (JobIs s w f) runs k.related.jobs.job

    pub fit_job : IsFit f.kept j
    fit_job = subst (FitsIn f.kept) runs fit

    pub alone : f.kept.grants ≡ []
    alone =
        subst (λ (o : Option Job). NoneBeside o f.kept.grants) runs
        (safe_in w.server.files (safe_at laws.safe w h before) f in_before).alone

    module _ (t : Target) (aim : target_in j.work ≡ Some t) where
      pub still : f.kept.phase ≡ Still
      still = still_in f.kept.phase j.work t (work_fits laws.join.world w h before scenario f in_before j runs) aim

      pub is_still : IsStill s f
      is_still = subst (PhaseIs s f) still k.related.kept.phase

      pub none : (c : ℕ) → s.outstanding c ≡ None
      none = none_outstanding s f is_still alone

      -- what isn't gone has the words of the log's bytes
      pub words : HasWordsOf s f.kept.map (byte_before s s.count)
      words n z low stands =
          let l = k.related.layout in
          whole.settled (s.layout.cell_col n z)
          (λ i u touch. unsettled_none s i is_still.repairing right.sure.safe.open_granted none u) n z
          (ap (λ (y : machine.Layout). y.is_cell n z) l ∙ lt-ltb n f.kept.map.comps low) refl stands
          ∙ ap (λ (y : machine.Layout). y.word n z (byte_before s s.count)) l

      -- a piece that is to be done
      pub piece_is : (p : Piece) → In p (todo_in j.work) → IsPlanned f.kept.map (group_with f.kept.map t.component) f.kept.high p
      piece_is p i =
          planned f.kept.map (group_with f.kept.map t.component) f.kept.high p (well_asked.planned j t p runs aim i)

    -- ---- rows

    module _ (t : Target) (p : Piece) (ps : List Piece) (works : j.work ≡ Gathers t (p ∷ ps)) (drive : ℕ) (r : Reply)
        (d : IsDelivered w node.Server) (from : d.posted.message.from ≡ node.Drive drive)
        (read : for_server d.posted.message ≡ Some (Replies r)) (a : Awaited) (awaits : In a j.awaited)
        (answer : answers drive r a ≡ true) (done : hearing f.kept a r ≡ Done)
        (last : others j.awaited a.command.nonce ≡ []) where
      asked : IsAskedIn f.kept (Gathers t (p ∷ ps)) a
      asked = subst (λ (y : Work). IsAskedIn f.kept y a) works (fit_job.asked a awaits)

      rows_before : AreRows s w f j p
      rows_before = subst (RowsIn s w f j) works job_is.rows

      row_now : IsRow s a.component (offset_of f.kept.map p.stripe p.column) p.count r.payload
      row_now =
          let t0 : WasTold w drive r =
          was_told laws.join.world w h before scenario a (
            f,
            in_before,
            subst (λ (o : Option Job). In a (awaited_by o)) (sym runs) awaits,
          ) w.clock drive r (d, refl, sym from, read) in
          let tests = and_parts (a.command.nonce == r.nonce) (a.drive == drive) answer in
          let same_drive : a.drive ≡ drive = eqb-true a.drive drive tests.1 in
          let same_nonce : a.command.nonce ≡ t0.reply.nonce = eqb-true a.command.nonce r.nonce tests.0 ∙ t0.nonce in
          let row = rows_before.replied a t0.reply awaits
          (subst (λ (n : ℕ). HasToldServer w n t0.reply) (sym same_drive) t0.told)
          (rw (eq-eqb a.command.nonce t0.reply.nonce same_nonce, eq-eqb a.drive a.drive refl) refl)
          (sym t0.verdict ∙ done_read f.kept a r asked.action_is (done_is_done f.kept a r done)) in
          subst (λ (n : ℕ). IsRow s a.component n p.count r.payload) asked.offset
          (subst (λ (n : ℕ). IsRow s a.component a.command.offset n r.payload) asked.count
          (subst (IsRow s a.component a.command.offset a.command.length) (sym t0.payload) row))

      pub rows_now : AreHeardRows s f.kept.map p (heard_with j a r)
      rows_now x i = elim (in_either x j.heard _ i) [
        | inl old ↦ rows_before.heard x old
        | inr (inl new) ↦
            subst (λ (y : Heard). IsRow s y.component (offset_of f.kept.map p.stripe p.column) p.count y.payload)
            (sym new) row_now
        | inr (inr no_more) ↦ absurd no_more
      ]

      all_heard : (n : ℕ) → IsAskedOrHeard j n → IsHeard (heard_with j a r) n
      all_heard n (inl (b, i, is)) =
          let waits : In b (awaited_by f.job) = subst (λ (o : Option Job). In b (awaited_by o)) (sym runs) i in
          let own : In a (awaited_by f.job) = subst (λ (o : Option Job). In a (awaited_by o)) (sym runs) awaits in
          let same : b ≡ a =
          (held laws.join.world w h before scenario).numbers.alone b a (f, in_before, waits) (f, in_before, own)
          (none_other j.awaited a.command.nonce last b i) in (
            record { component = a.component; payload = r.payload },
            in_behind _ j.heard _ (inl refl),
            ap (λ (y : Awaited). y.component) (sym same) ∙ is,
          )
      all_heard n (inr (x, i, is)) = (x, in_front x j.heard _ i, is)

      pub all_sources : OfEachSource (IsHeard (heard_with j a r)) f.kept t
      all_sources =
          of_sources (IsAskedOrHeard j) (IsHeard (heard_with j a r)) f.kept t all_heard _ (well_asked.asked j t p ps runs works)

      -- what is made of them are the words of the log's bytes
      pub made_right : AreWords f.kept.map p.stripe p.column p.count t.component (byte_before s s.count)
          (made f.kept t p (heard_with j a r))
      made_right =
          made_are_words s f.kept t p (heard_with j a r) (byte_before s s.count) laid.checked whole.bytes
          (words t (ap target_in works)) rows_now below
          (piece_is t (ap target_in works) p (subst (λ (y : Work). In p (todo_in y)) (sym works) (inl refl))).within
          (subst (ToDoFits f.kept.map) works fit_job.todo p (inl refl))
          all_sources
