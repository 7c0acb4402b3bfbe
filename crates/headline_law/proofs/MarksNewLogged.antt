-- A new WRITE has its entry in the log: that of its client's pending call, which is the machine's write.
-- Towards `WritesStayTied` (`specs/MarksTied.antt`).
use Rattle.std.proofs.Common.{◌≡◌, ◌==◌, ◌<◌, ◌++◌, ℕ, true, List, length, Some, refl, sym, ap, subst, ◌∙◌, arith}
use Rattle.std.proofs.lemmas.List.{take_all}
use Rattle.osd_commands.specs.declared.actions.Action.TheVariants.{Write}
use Rattle.osd_commands.specs.declared.commands.Command.{Command}
use Rattle.scenario_text.specs.declared.line.Line.{Line}
use Rattle.scenario_text.specs.declared.names.TheConstants.{CLIENTS}
use Rattle.client_rules.specs.Calls.{file_of}
use Rattle.world_history.specs.ClientNames.{Call, Io, Store, Scatters}
use Rattle.world_history.specs.Plans.{due}
use Rattle.world_history.specs.ReadLog.{entry_in, log_in}
use Rattle.world_history.specs.State.{World, at_number}
use Rattle.world_history.specs.Sending.{Move, move}
use Rattle.history_law.specs.Moments.{IsMoment, plan_at, lines_in}
use Rattle.fence_law.specs.State as machine
use Rattle.fence_law.specs.State.{State}
use Rattle.file_simulation.specs.Claim.{IsOfScenario}
use Rattle.file_simulation.specs.EventLists.{write_of}
use Rattle.file_simulation.specs.Relation.{client_of}
use Rattle.file_simulation.specs.Showing.{IsPair}
use Rattle.file_simulation.specs.Tied.{WasPosted, HasEntry, PhaseTied, CallTied}
use Rattle.relation_law.proofs.ComponentsMoved.{later}
use Rattle.relation_law.specs.Steps.{ComponentsGoOn}
use Rattle.headline_law.specs.Parts.{EventsHaveLines, NotesAreTold, lines_to, cut_at}
use Rattle.headline_law.proofs.MarksNew.{NewWrites, NewLogged}
use Rattle.headline_law.proofs.MarksWrites.{IsNew}
use Rattle.headline_law.proofs.MarksWritesStood.{whole}
use Rattle.headline_law.proofs.SentMove.{SentLaws}

-- The log has, for each WRITE that a move sends, the entry that its client's pending call has behind the move.
abbrev pub SentAreLogged : Type 0
SentAreLogged =
    (w : World) (h : List Line) (m : Move) → (k : IsMoment w h) → due (plan_at k) w ≡ Some m.action →
    IsOfScenario (h ++ lines_in w m) → (n c d : ℕ) (x : Command) →
    IsNew w n → WasPosted (move w m).world n c d x → x.action ≡ Write → (entry : ℕ) →
    entry_in (at_number (log_in (h ++ lines_in w m)).pending c) ≡ Some entry →
    at_number (log_in (h ++ lines_in w m)).writes n ≡ Some entry

-- Behind a move the client scatters, in a call on the file; and the machine's WRITE is of the write that it scatters.
pub record IsOfScatter (w : World) (t : State) (file : ℕ) (y : machine.Write) : Type 0 where
  pub low : y.holder < CLIENTS
  pub call : Call
  pub is : (client_of w y.holder).call ≡ Some call
  pub here : (file_of call.op == file) ≡ true
  pub io : Io
  pub queue : List Store
  pub phase : call.phase ≡ Scatters io queue
  pub entry : y.entry ≡ write_of t y.holder

-- So it is of each new WRITE.
abbrev pub NewScattered : (World → Move → Type 0) → Type 0
NewScattered P = NewWrites P (λ w h m f g s pairs k e n i x y.
    IsOfScatter (move w m).world (cut_at k.shown.follows) f.kept.number y)

pub record LoggedLaws : Type 0 where
  pub logged : SentAreLogged
  pub sent : SentLaws
  pub components : ComponentsGoOn
  pub lines : EventsHaveLines
  pub notes : NotesAreTold

pub new_logged : LoggedLaws → (P : World → Move → Type 0) → NewScattered P → NewLogged P
new_logged laws P scattered w h m f g s pairs p k tied writes e n c d i x y is =
    let all : lines_to w h m (length (lines_in w m)) ≡ h ++ lines_in w m =
    ap (λ (ls : List Line). h ++ ls) (take_all (length (lines_in w m)) (lines_in w m) (omega arith)) in
    let z = scattered w h m f g s pairs p k tied writes e n c d i x y is in
    let call_tied : CallTied (cut_at k.shown.follows) f.kept.number y.holder e.shown.pairs
    (entry_in (at_number (log_in (lines_to w h m (length (lines_in w m)))).pending y.holder)) (Some z.call) =
    subst (CallTied (cut_at k.shown.follows) f.kept.number y.holder e.shown.pairs
    (entry_in (at_number (log_in (lines_to w h m (length (lines_in w m)))).pending y.holder))) z.is
    ((e.tied refl).calls y.holder z.low) in
    let has : HasEntry e.shown.pairs (write_of (cut_at k.shown.follows) y.holder)
    (entry_in (at_number (log_in (lines_to w h m (length (lines_in w m)))).pending y.holder)) =
    subst (PhaseTied (cut_at k.shown.follows) y.holder e.shown.pairs
    (entry_in (at_number (log_in (lines_to w h m (length (lines_in w m)))).pending y.holder))) z.phase
    (call_tied z.here) in
    let pending : entry_in (at_number (log_in (h ++ lines_in w m)).pending c) ≡ Some has.0 =
    ap (λ (q : ℕ). entry_in (at_number (log_in (h ++ lines_in w m)).pending q)) (sym is.holder)
    ∙ ap (λ (ls : List Line). entry_in (at_number (log_in ls).pending y.holder)) (sym all) ∙ has.1 in (
      has.0,
      ap (λ (ls : List Line). at_number (log_in ls).writes n) all
          ∙ laws.logged w h m k.shown.follows.moment k.shown.follows.is_due
          (later laws.sent.moved w h m f g s (whole laws.sent laws.components laws.lines laws.notes w h m f g s pairs k))
          n c d x is.new is.posted is.write has.0 pending,
      subst (λ (q : ℕ). IsPair e.shown.pairs has.0 q) (sym z.entry) has.2,
    )
