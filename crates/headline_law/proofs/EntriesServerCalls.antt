-- A step of the server leaves the pending calls tied to their entries.
-- Towards `CutsShowEntries` (`specs/Parts.antt`).
use Rattle.std.proofs.Common.{◌≡◌, ◌==◌, ℕ, Bool, List, [], ◌∷◌, take, Option, Some, None, refl, sym, ap, subst, ◌∙◌, inl, inr}
use Rattle.std.proofs.lemmas.Bool.{cases_eq}
use Rattle.data_map.specs.declared.check.RawMap.{RawMap}
use Rattle.layout_ops.specs.declared.messages.Answer.{Answer}
use Rattle.scenario_text.specs.declared.line.Line.{Line}
use Rattle.server_rules.specs.History.{Input}
use Rattle.world_history.specs.ClientNames.{Client, Call as ClientCall, CallOp, Phase, Starts, Needs, Waits, Reads, Probes, Gathers, Scatters}
use Rattle.world_history.specs.ReadLog.{Log, log_in, entry_in}
use Rattle.world_history.specs.Sending.{Move, move}
use Rattle.world_history.specs.ServerNames as server_rules
use Rattle.world_history.specs.ServerNames.{File, Note, NoteKind}
use Rattle.world_history.specs.State.{World, at_number}
use Rattle.history_law.specs.Doing.{input_in, did_in}
use Rattle.history_law.specs.Moments.{lines_in}
use Rattle.fence_law.specs.Machine.{Allowed, Lawful, after, after_all}
use Rattle.fence_law.specs.Starts.{rebuilt_start}
use Rattle.fence_law.specs.State.{State, Event}
use Rattle.fence_law.specs.State.Call.{Reads as AtRead}
use Rattle.fence_law.specs.State.Event.{Acknowledges, Rebuilds}
use Rattle.fence_law.proofs.Words.{updated_other}
use Rattle.file_simulation.specs.Calls.{CallIs, CallAt, CallOn}
use Rattle.file_simulation.specs.Components.{has_failed}
use Rattle.file_simulation.specs.Cuts.{rebuilt_ahead, rebuilt_by, notes_behind}
use Rattle.file_simulation.specs.EventLists.{write_of}
use Rattle.file_simulation.specs.EventLists as events
use Rattle.file_simulation.specs.Events.{joined, events_of}
use Rattle.file_simulation.specs.Relation.{client_of}
use Rattle.file_simulation.specs.ServerEvents.{asker}
use Rattle.file_simulation.specs.Showing.{Pairs, IsPair}
use Rattle.file_simulation.specs.Tied.{AreTied, CallTied, CallsTied, PhaseTied}
use Rattle.relation_law.specs.Frames.{AreAll, IsOfServer}
use Rattle.relation_law.specs.Steps.{behind, owed}
use Rattle.relation_law.proofs.CallsFrames.{last_more}
use Rattle.relation_law.proofs.FramesClient.{either_all, where_all}
use Rattle.relation_law.proofs.FramesParties.{by_server_lines, clients_rest, server_alone}
use Rattle.relation_law.proofs.FramesStay.{all_joined, lines_taken, related_by_all, kept_by_all}
use Rattle.headline_law.specs.Parts.{CutShown, cut_at, lines_to}
use Rattle.headline_law.proofs.EntriesRest.{need_stays}
use Rattle.headline_law.proofs.EntriesServerLines.{keep_all, front_keeps, server_lines_keep}
use Rattle.headline_law.proofs.EntriesShown.{ReadingLaws}

-- ---- what events of the server leave

-- the client's last write
abbrev WriteStays : (c : ℕ) → State → State → Type 0
WriteStays c s t = write_of t c ≡ write_of s c

write_one : (c : ℕ) (o : Option ℕ) (s : State) (e : Event) → IsOfServer o e → WriteStays c s (after s e)
write_one c o s (Rebuilds k cells) is = last_more s (rebuilt_start s k cells) c refl
write_one c o s (Event.Grants d number rw range extending) is = refl
write_one c o s (Event.Refuses d kind) is = refl
write_one c o s (Event.ServesOther d) is = refl
write_one c o s (Event.Frees d) is = refl
write_one c o s Event.Fences is = refl
write_one c o s Event.Fenced is = refl
write_one c o s Event.Refenced is = refl
write_one c o s (Event.Fails k) is = refl
write_one c o s (Event.Drops k) is = refl
write_one c o s (Event.Declares k) is = refl
write_one c o s (Event.Loses d k) is = refl
write_one c o s (Event.Leaves d g) is = refl
write_one c o s (Acknowledges d j) is = refl
write_one c o s (Event.Commits d j g) is = refl
write_one c o s (Event.RefusesCommit d j) is = refl
write_one c o s (Event.Repaired done e) is = refl
write_one c o s e is = absurd is

write_all : (c : ℕ) (o : Option ℕ) (s : State) (es : List Event) → AreAll (IsOfServer o) es → WriteStays c s (after_all s es)
write_all c o =
    related_by_all (IsOfServer o) (WriteStays c) (λ s. refl) (λ s t u a b. b ∙ a) (write_one c o)

-- and the read that it is at
read_one : (c j : ℕ) (o : Option ℕ) (s : State) (e : Event) → IsOfServer o e → Allowed s e → s.call c ≡ AtRead j →
    (after s e).call c ≡ AtRead j
read_one c j o s (Acknowledges d i) is a at_ = elim (cases_eq c d) [
  | inl same ↦ absurd (cc (sym at_ ∙ ap s.call same ∙ a.runs))
  | inr other ↦ updated_other s.call d _ c other ∙ at_
]
read_one c j o s (Rebuilds k cells) is a at_ = at_
read_one c j o s (Event.Grants d number rw range extending) is a at_ = at_
read_one c j o s (Event.Refuses d kind) is a at_ = at_
read_one c j o s (Event.ServesOther d) is a at_ = at_
read_one c j o s (Event.Frees d) is a at_ = at_
read_one c j o s Event.Fences is a at_ = at_
read_one c j o s Event.Fenced is a at_ = at_
read_one c j o s Event.Refenced is a at_ = at_
read_one c j o s (Event.Fails k) is a at_ = at_
read_one c j o s (Event.Drops k) is a at_ = at_
read_one c j o s (Event.Declares k) is a at_ = at_
read_one c j o s (Event.Loses d k) is a at_ = at_
read_one c j o s (Event.Leaves d g) is a at_ = at_
read_one c j o s (Event.Commits d i g) is a at_ = at_
read_one c j o s (Event.RefusesCommit d i) is a at_ = at_
read_one c j o s (Event.Repaired done e) is a at_ = at_
read_one c j o s e is a at_ = absurd is

read_all : (c j : ℕ) (o : Option ℕ) (s : State) (es : List Event) → AreAll (IsOfServer o) es → Lawful s es →
    s.call c ≡ AtRead j → (after_all s es).call c ≡ AtRead j
read_all c j o = kept_by_all (IsOfServer o) (λ (s : State). s.call c ≡ AtRead j) (read_one c j o)

-- a rebuild that is still to be told is of the server
pub ahead_own : (o : Option ℕ) (s : State) (w : World) (f : File) (ns : List Note) →
    AreAll (IsOfServer o) (rebuilt_ahead s w f ns)
unfolding rebuilt_ahead
ahead_own o s w f [] = tt
ahead_own o s w f (n ∷ ns) =
    either_all (IsOfServer o) (n.file == f.kept.number) _ _ (by n.kind) (ahead_own o s w f ns)
  where
    by : (kind : NoteKind) → AreAll (IsOfServer o) (rebuilt_by s w f kind)
    by (server_rules.Rebuilt k d) = (tt, where_all (IsOfServer o) (has_failed (at_number w.drives d)) _ (tt, tt))
    by kind = tt

-- ---- the tie of a call

phase_ties : (s t : State) (c : ℕ) (pairs : Pairs) (n : Option ℕ) (m : RawMap) (op : CallOp) (a : Option Answer) (p : Phase) →
    write_of t c ≡ write_of s c → ((j : ℕ) → s.call c ≡ AtRead j → t.call c ≡ AtRead j) → CallIs m s c op a p →
    PhaseTied s c pairs n p → PhaseTied t c pairs n p
phase_ties s t c pairs n m op a Starts same reads z k = k
phase_ties s t c pairs n m op a (Needs need) same reads z k = need_stays s t c pairs n need same k
phase_ties s t c pairs n m op a (Waits need) same reads z k = need_stays s t c pairs n need same k
phase_ties s t c pairs n m op a (Reads io) same reads z k =
    (k.0, k.1, subst (IsPair pairs k.0) (ap events.entry_in (z.1.at_ ∙ sym (reads z.0 z.1.at_))) k.2)
phase_ties s t c pairs n m op a (Probes io) same reads z k =
    (k.0, k.1, subst (IsPair pairs k.0) (ap events.entry_in (z.1.at_ ∙ sym (reads z.0 z.1.at_))) k.2)
phase_ties s t c pairs n m op a (Gathers io) same reads z k = k
phase_ties s t c pairs n m op a (Scatters io queue) same reads z k = (k.0, k.1, subst (IsPair pairs k.0) (sym same) k.2)

call_ties : (s t : State) (file c : ℕ) (pairs : Pairs) (n : Option ℕ) (m : RawMap) (a : Option Answer)
    (o : Option ClientCall) → write_of t c ≡ write_of s c → ((j : ℕ) → s.call c ≡ AtRead j → t.call c ≡ AtRead j) →
    CallAt file m s c a o → CallTied s file c pairs n o → CallTied t file c pairs n o
call_ties s t file c pairs n m a None same reads z k = tt
call_ties s t file c pairs n m a (Some call) same reads z k = λ on.
    phase_ties s t c pairs n m call.op a call.phase same reads
    (subst (λ (b : Bool). CallOn b m s c call a) on z) (k on)

-- ---- a step of the server

pub servers_keep_calls : ReadingLaws → (w : World) (h : List Line) (m : Move) (count : ℕ) (f g : File) (s : State)
    (pairs : Pairs) → (k : CutShown w h m count f g s pairs) → AreTied w h s f.kept.number pairs → (i : Input) →
    input_in w m.action ≡ Some i →
    CallsTied (move w m).world (lines_to w h m count) (cut_at k.shown.follows) f.kept.number pairs
servers_keep_calls laws w h m count f g s pairs k tied i is c low =
    let u : State = behind k.shown.follows.related m count in
    let es : List Event = joined (take count (events_of s w (owed k.shown.follows.related) f m)) in
    let fs : List Event = rebuilt_ahead u w f (notes_behind count m.action (did_in w m)) in
    let own : AreAll (IsOfServer (asker i)) es =
    all_joined (IsOfServer (asker i)) _
    (lines_taken (IsOfServer (asker i)) count (events_of s w (owed k.shown.follows.related) f m)
    (by_server_lines s w (owed k.shown.follows.related) f m i is)) in
    let more : AreAll (IsOfServer (asker i)) fs =
    ahead_own (asker i) u w f (notes_behind count m.action (did_in w m)) in
    let log : log_in (lines_to w h m count) ≡ log_in h =
    (laws.lines h (take count (lines_in w m))).log
    ∙ keep_all (take count (lines_in w m)) (front_keeps count (lines_in w m) (server_lines_keep w m i is)) (log_in h) in
    let client : client_of (move w m).world c ≡ client_of w c =
    clients_rest w h k.shown.follows.moment m k.shown.follows.is_due (server_alone w m.action i is) c in
    let t : State = after_all u fs in
    let ties : CallTied t f.kept.number c pairs (entry_in (at_number (log_in h).pending c)) (client_of w c).call =
    call_ties s t f.kept.number c pairs (entry_in (at_number (log_in h).pending c)) f.kept.map _ (client_of w c).call
    (write_all c (asker i) u fs more ∙ write_all c (asker i) s es own)
    (λ j at_. read_all c j (asker i) u fs more k.ahead_lawful (read_all c j (asker i) s es own k.lawful at_))
    (k.shown.follows.related.clients c low).client.call (tied.calls c low) in
    subst (λ (l : Log). CallTied t f.kept.number c pairs (entry_in (at_number l.pending c)) (client_of (move w m).world c).call)
    (sym log)
    (subst (λ (x : Client). CallTied t f.kept.number c pairs (entry_in (at_number (log_in h).pending c)) x.call) (sym client)
    ties)
