-- A piece of a rebuild is done: its cells stand in the target's object, and the pieces behind it are still to be done.
use Rattle.std.proofs.Common.{◌≡◌, ◌⊎◌, ℕ, ◌+◌, ◌-◌, ◌<◌, ◌≤◌, true, false, List, [], ◌∷◌, length, get_or, Option, Some, None, sym, ap, subst, ◌∙◌, arith, inl, inr}
use Rattle.std.proofs.lemmas.Bool.{cases_eq, cases_lt}
use Rattle.data_map.specs.declared.check.RawMap.{RawMap}
use Rattle.osd_lists.specs.declared.node.Node.TheVariants as node
use Rattle.osd_commands.specs.declared.commands.Command.{Command}
use Rattle.osd_commands.specs.declared.replies.Reply.{Reply}
use Rattle.osd_objects.specs.declared.object.StoredObject.{StoredObject}
use Rattle.osd_objects.specs.Store.{object_at, lane_or_none}
use Rattle.scenario_text.specs.declared.line.Line.{Line}
use Rattle.server_rules.specs.declared.limits.TheConstants.{SERVER_HOLDER}
use Rattle.server_rules.specs.Laws.{In}
use Rattle.server_rules.specs.Messages.{Replies, awaited_by}
use Rattle.server_rules.specs.Replies.{Done, answers, hearing}
use Rattle.history_law.specs.Said.{IsDelivered}
use Rattle.history_law.specs.Spent.{HasPassed, IsSpent}
use Rattle.component_law.proofs.NamedLines.{are_named}
use Rattle.component_law.specs.Sent.{IsSentByRun}
use Rattle.server_rules.specs.Making.{new_server}
use Rattle.history_law.proofs.Hearing.{done_is_done}
use Rattle.world_history.specs.ServerNames.{File, Awaited, Piece, Target, Job, Work, Fills}
use Rattle.world_history.specs.Handed.{for_server}
use Rattle.world_history.specs.Sending.{Move}
use Rattle.world_history.specs.State.{World, DriveAt, at_number}
use Rattle.fence_law.specs.State as machine
use Rattle.fence_law.specs.State.{State}
use Rattle.fence_law.specs.Law.{byte_before}
use Rattle.plan_law.specs.FileLayout.{column_of_cell, stripe_of_column, word_in}
use Rattle.plan_law.specs.Pieces.{AreWords as AreWordsOf}
use Rattle.file_simulation.specs.Components.{object_on, has_failed}
use Rattle.file_simulation.specs.Jobs.{HasColumn, IsFill, IsFilled, TargetIn, offset_of_column, word_now}
use Rattle.relation_law.specs.Awaiting.{IsAskedIn}
use Rattle.relation_law.specs.Hearing.{TellsOfWrite}
use Rattle.relation_law.specs.Steps.{Follows}
use Rattle.relation_law.proofs.Hearing.{owned_over, tells_at}
use Rattle.relation_law.proofs.OwnedBefore.{done_verdict, run}
use Rattle.relation_law.proofs.TargetMoments.{in_one, each_fill_is_latest}
use Rattle.relation_law.proofs.TargetSpent.{earlier_spent}
use Rattle.relation_law.specs.TargetWrites.{IsLatest}
use Rattle.relation_law.proofs.TargetWalk.{IsOfZeros}
use Rattle.headline_law.specs.TargetLaws.{HasBytesOf, EachTargetIsWellMade}
use Rattle.headline_law.proofs.TargetBefore.{TargetLaws, awaited_holder, before, scenario, in_before, laid, well, fit_job, job_is}
use Rattle.headline_law.proofs.TargetPieces.{cell_in}
use Rattle.headline_law.proofs.TargetZeros.{zeros_are}

-- a piece has a column, or it hasn't
has_either : (m : RawMap) (p : Piece) (x : ℕ) → HasColumn m p x ⊎ (HasColumn m p x → ⊥)
has_either m p x = elim (cases_eq (stripe_of_column m x) p.stripe) [
  | inr other ↦ inr (λ has. other has.stripe)
  | inl same ↦ elim (cases_lt (offset_of_column m x) p.column) [
    | inl ahead ↦ inr (λ has. let low = has.first in omega (arith, low, ahead))
    | inr from ↦ elim (cases_lt (offset_of_column m x) (p.column + p.count)) [
      | inl inside ↦ inl (record { stripe = same; first = from; past = inside })
      | inr past ↦ inr (λ has. let high = has.past in omega (arith, high, past))
    ]
  ]
]

-- where an object is on a drive that hasn't failed
pub on_drive : {A : Type 0} (n object : ℕ) (w : World) (d : Option DriveAt) → at_number w.drives n ≡ d →
    has_failed (at_number w.drives n) ≡ false → (o : StoredObject) → object_on (at_number w.drives n) object ≡ Some o →
    ((x : DriveAt) → at_number w.drives n ≡ Some x → x.failed ≡ false → object_at x.state.store object ≡ Some o → A) → A
on_drive n object w None is lives o there so =
    absurd (cc (sym (ap (λ (y : Option DriveAt). object_on y object) is) ∙ there))
on_drive n object w (Some x) is lives o there so =
    so x is (sym (ap has_failed is) ∙ lives) (sym (ap (λ (y : Option DriveAt). object_on y object) is) ∙ there)

-- where the cells of the first piece stand, it is done
pub filled_next : (s : State) (f : File) (t : Target) (p : Piece) (ps : List Piece) (o : StoredObject) →
    IsFilled s f t (p ∷ ps) o →
    ((z : ℕ) → HasColumn f.kept.map p (column_of_cell f.kept.map t.component z) →
    get_or o.content.bytes z 0 ≡ word_now s t.component z) → IsFilled s f t ps o
filled_next s f t p ps o filled stands = record {
  tag = filled.tag;
  done = λ z low done. elim (has_either f.kept.map p (column_of_cell f.kept.map t.component z)) [
    | inl has ↦ stands z has
    | inr none ↦ filled.done z low (λ q i has. elim i [
      | inl same ↦ none (subst (λ (y : Piece). HasColumn f.kept.map y (column_of_cell f.kept.map t.component z)) same has)
      | inr later ↦ done q later has
    ])
  ];
  others = filled.others;
  above = filled.above;
}

module _ (laws : TargetLaws) (w : World) (h : List Line) (m : Move) {count : ℕ} (f g : File) (s : State)
    (k : Follows w h m count f g s) where
  -- a piece of zeros
  pub filled_zeros : (t : Target) (p : Piece) (ps : List Piece) (bytes : List ℕ) → t.component < f.kept.map.comps →
      AreWordsOf f.kept.map p.stripe p.column p.count t.component (byte_before s s.count) bytes → IsOfZeros p bytes →
      (o : StoredObject) → IsFilled s f t (p ∷ ps) o → IsFilled s f t ps o
  filled_zeros t p ps bytes low words zeros o filled =
      filled_next s f t p ps o filled (λ z has.
      let r = cell_in f.kept.map p t.component z (laid laws w h m f g s k).checked low has in
      let none : word_now s t.component z ≡ 0 =
      ap (λ (y : machine.Layout). y.word t.component z (byte_before s s.count)) k.related.layout
      ∙ ap (λ (n : ℕ). word_in f.kept.map t.component n (byte_before s s.count)) r.3
      ∙ sym (words r.0 r.2 r.1) ∙ zeros_are bytes p.count zeros r.0 r.1 in
      elim (filled.others z) [ inl word ↦ word | inr zero ↦ zero ∙ sym none ])

  -- a WRITE that was performed
  module _ (j : Job) (runs : f.job ≡ Some j) (t : Target) (p : Piece) (ps : List Piece) (works : j.work ≡ Fills t (p ∷ ps))
      (drive : ℕ) (r : Reply) (d : IsDelivered w node.Server) (from : d.posted.message.from ≡ node.Drive drive)
      (read : for_server d.posted.message ≡ Some (Replies r)) (a : Awaited) (awaits : In a j.awaited)
      (answer : answers drive r a ≡ true) (done : hearing f.kept a r ≡ Done) where
    target : TargetIn s w f (Fills t (p ∷ ps))
    target = subst (TargetIn s w f) works (job_is laws w h m f g s k j runs).target

    asked : IsAskedIn f.kept (Fills t (p ∷ ps)) a
    asked = subst (λ (y : Work). IsAskedIn f.kept y a) works ((fit_job laws w h m f g s k j runs).asked a awaits)

    waits : In a (awaited_by f.job)
    waits = subst (λ (o : Option Job). In a (awaited_by o)) (sym runs) awaits

    tells : TellsOfWrite (at_number w.drives a.drive) a.command r
    tells =
        tells_at laws.join.world.more laws.join.world.counters laws.join.world.ahead w h (before laws w h m f g s k)
        (scenario laws w h m f g s k) drive d.number d.posted d.there d.receiver from r read f
        (in_before laws w h m f g s k) a waits answer asked.action_is

    -- its bytes stand
    pub bytes_stand : EachTargetIsWellMade → (x : DriveAt) (o : StoredObject) → at_number w.drives t.drive ≡ Some x →
        x.failed ≡ false →
        object_at x.state.store t.object ≡ Some o → a.command.capability.holder ≡ SERVER_HOLDER → HasBytesOf o a.command
    bytes_stand well_made x o there lives object holder =
        let lane : HasPassed (lane_or_none (object_at x.state.store a.command.object) a.command.capability.holder)
        a.command.nonce =
        tells.passed (done_verdict f.kept a r asked.action_is (done_is_done f.kept a r done)) x
        (ap (at_number w.drives) asked.of.drive ∙ there) lives in
        (well laws w h m f g s k well_made).stand j t (p ∷ ps) a o runs works awaits
        (ap (λ (y : Option DriveAt). object_on y t.object) there ∙ object)
        (subst (λ (y : Option StoredObject). HasPassed (lane_or_none y SERVER_HOLDER) a.command.nonce) object
        (subst (λ (n : ℕ). HasPassed (lane_or_none (object_at x.state.store n) SERVER_HOLDER) a.command.nonce)
        asked.of.object
        (subst (λ (n : ℕ). HasPassed (lane_or_none (object_at x.state.store a.command.object) n) a.command.nonce) holder
        lane)))

    -- no WRITE to the target may still come
    pub none_unspent : (x : Command) → IsFill w t x → (IsSpent (at_number w.drives t.drive) x → ⊥) → ⊥
    none_unspent x fill unspent =
        let ran : IsSentByRun w = run laws.join.world w h (before laws w h m f g s k) (scenario laws w h m f g s k) in
        let l : IsLatest w t j.awaited =
        each_fill_is_latest laws.join.world.more w h (before laws w h m f g s k)
        (are_named h (scenario laws w h m f g s k).written) f (in_before laws w h m f g s k) j t (p ∷ ps) runs works in
        let own : a ≡ l.command = in_one a l.command j.awaited l.only awaits in
        let le : x.nonce ≤ a.command.nonce =
        subst (λ (y : Awaited). x.nonce ≤ y.command.nonce) (sym own) (l.latest x fill) in
        let holder : x.capability.holder ≡ a.command.capability.holder =
        owned_over (new_server []) ran.acts (λ c q. absurd q.1) t.drive x (ran.sends t.drive x fill.sent)
        ∙ sym (awaited_holder laws w h m f g s k a waits) in
        unspent (subst (λ (n : ℕ). IsSpent (at_number w.drives n) x) asked.of.drive
        (earlier_spent (at_number w.drives a.drive) x a.command r tells
        (done_verdict f.kept a r asked.action_is (done_is_done f.kept a r done)) fill.write
        (fill.object ∙ sym asked.of.object) holder le))

    pub filled_written : (o : StoredObject) → HasBytesOf o a.command → IsFilled s f t (p ∷ ps) o → IsFilled s f t ps o
    filled_written o stand filled =
        filled_next s f t p ps o filled (λ z has. elim (filled.others z) [
          | inl word ↦ word
          | inr zero ↦ elim ((target.awaited a waits).1 z has) [
            | inr none ↦ zero ∙ sym none
            | inl inside ↦ own z inside.0 inside.1
          ]
        ])
      where
        own : (z : ℕ) → a.command.offset ≤ z → z < a.command.offset + length a.command.payload →
            get_or o.content.bytes z 0 ≡ word_now s t.component z
        own z low high =
            let i : ℕ = z - a.command.offset in
            let there : a.command.offset + i ≡ z = omega (arith, low) in
            let inside : i < length a.command.payload = omega (arith, there, high) in
            ap (λ (n : ℕ). get_or o.content.bytes n 0) (sym there) ∙ stand i inside ∙ (target.awaited a waits).0 i inside
            ∙ ap (λ (n : ℕ). word_now s t.component n) there
