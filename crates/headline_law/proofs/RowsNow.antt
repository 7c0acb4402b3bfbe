-- What a job hears just now of a component is its row: the drive told it before, so that it is one of the replies that have rows.
-- Towards `RowsFollow` (`specs/Parts.antt`) and `AuditsFindNone` (`file_simulation/specs/Claim.antt`).
use Rattle.std.proofs.Common.{◌≡◌, ◌==◌, ℕ, true, List, Option, Some, refl, sym, subst, ◌∙◌, eq-eqb}
use Rattle.std.proofs.lemmas.Bool.{and_parts, eqb-true}
use Rattle.data_map.specs.Striping.{offset_of}
use Rattle.osd_commands.specs.declared.replies.Reply.{Reply}
use Rattle.osd_lists.specs.declared.node.Node.TheVariants as node
use Rattle.scenario_text.specs.declared.line.Line.{Line}
use Rattle.server_rules.specs.declared.limits.TheConstants.{PERFORMED}
use Rattle.server_rules.specs.History.{Hears}
use Rattle.server_rules.specs.Laws.{In}
use Rattle.server_rules.specs.Messages.{Replies, awaited_by}
use Rattle.server_rules.specs.Replies.{answers, is_done}
use Rattle.world_history.specs.ServerNames.{File, Piece, Awaited, Job}
use Rattle.world_history.specs.State.{World}
use Rattle.history_law.specs.Moments.{IsMoment}
use Rattle.history_law.specs.Numbered.{Awaits}
use Rattle.history_law.specs.Said.{IsHeardByServer}
use Rattle.fence_law.specs.State.{State}
use Rattle.file_simulation.specs.Claim.{IsOfScenario}
use Rattle.file_simulation.specs.Jobs.{IsRow, AreRows, HasToldServer}
use Rattle.relation_law.specs.Awaiting as awaiting
use Rattle.relation_law.proofs.OwnedBefore.{OwnedLaws}
use Rattle.headline_law.proofs.RowsHeard.{WasTold, was_told, done_read}

module _ (laws : OwnedLaws) (w : World) (h : List Line) (before : IsMoment w h) (scenario : IsOfScenario h) (f : File)
    (there : In f w.server.files) (s : State) (j : Job) (runs : f.job ≡ Some j) (p : Piece) (rows : AreRows s w f j p)
    (asked : (a : Awaited) → In a j.awaited → awaiting.IsRow f.kept.map f.kept.components p a) where
  pub heard_now : (a : Awaited) (now drive : ℕ) (q : Reply) → In a j.awaited →
      IsHeardByServer w (Hears now (node.Drive drive) (Replies q)) → answers drive q a ≡ true → is_done f.kept a q ≡ true →
      IsRow s a.component (offset_of f.kept.map p.stripe p.column) p.count q.payload
  heard_now a now d q i heard answer is =
      let waits : Awaits w.server.files a =
      (f, there, subst (λ (o : Option Job). In a (awaited_by o)) (sym runs) i) in
      let told : WasTold w d q = was_told laws w h before scenario a waits now d q heard in
      let both = and_parts (a.command.nonce == q.nonce) _ answer in
      let drive : a.drive ≡ d = eqb-true a.drive d both.1 in
      let nonce : a.command.nonce ≡ told.reply.nonce = eqb-true a.command.nonce q.nonce both.0 ∙ told.nonce in
      let row = asked a i in
      let done : told.reply.verdict ≡ PERFORMED = sym told.verdict ∙ done_read f.kept a q row.action_is is in
      let its : IsRow s a.component a.command.offset a.command.length told.reply.payload =
      rows.replied a told.reply i (subst (λ (n : ℕ). HasToldServer w n told.reply) (sym drive) told.told)
      (rw (eq-eqb a.command.nonce told.reply.nonce nonce, eq-eqb a.drive a.drive refl) refl) done in
      subst (λ (bs : List ℕ). IsRow s a.component (offset_of f.kept.map p.stripe p.column) p.count bs) (sym told.payload)
      (subst (λ (n : ℕ). IsRow s a.component (offset_of f.kept.map p.stripe p.column) n told.reply.payload) row.count
      (subst (λ (n : ℕ). IsRow s a.component n a.command.length told.reply.payload) row.offset its))
