-- A WRITE that was sent before a move stays tied to its entry.
use Rattle.std.proofs.Common.{◌≡◌, ◌<◌, ◌/◌, ◌++◌, ℕ, zero, suc, false, List, [], ◌∷◌, length, map, take, slice_get, Some, Ok, refl, sym, ap, subst, ◌∙◌, arith}
use Rattle.std.specs.List.{fold}
use Rattle.std.proofs.lemmas.List.Sums.{fold-append}
use Rattle.std.proofs.lemmas.List.{take_all}
use Rattle.std.proofs.lemmas.Option.{slice_get_within}
use Rattle.osd_commands.specs.declared.actions.Action.TheVariants.{Write}
use Rattle.osd_commands.specs.declared.commands.Command.{Command}
use Rattle.data_map.specs.declared.check.RawMap.{RawMap}
use Rattle.scenario_text.specs.declared.line.Line.{Line}
use Rattle.world_history.specs.declared.messages.Message.{Message}
use Rattle.world_history.specs.declared.messages.Posted.{Posted}
use Rattle.world_history.specs.Drives.{command_in}
use Rattle.world_history.specs.Moves.{Act, acts}
use Rattle.world_history.specs.ServerNames.{File, Component}
use Rattle.world_history.specs.State.{World, at_number}
use Rattle.world_history.specs.ReadLog.{Log, log_after, log_in, empty_log}
use Rattle.world_history.specs.Sending.{Move, move, fresh, sent_lines}
use Rattle.history_law.specs.BookMoments.{IsMoment, with_event, lines_in}
use Rattle.history_law.specs.Doing.{did_in}
use Rattle.history_law.specs.Read.{BookIsRead}
use Rattle.exchange_law.specs.Sent.{HasSent}
use Rattle.exchange_law.proofs.ClientMoves.{clients_always}
use Rattle.exchange_law.proofs.CountMoments.{reached}
use Rattle.component_law.proofs.Standing.{Stands, stay_more}
use Rattle.component_law.proofs.Heads.{acts_so}
use Rattle.fence_law.specs.Law.{IsCode}
use Rattle.fence_law.specs.Machine.{after_all}
use Rattle.fence_law.specs.State as machine
use Rattle.fence_law.specs.State.{State, Event}
use Rattle.fence_law.specs.Words.{In as InRun}
use Rattle.file_simulation.specs.Claim.{IsOfScenario}
use Rattle.file_simulation.specs.Cuts.{rebuilt_ahead, notes_behind}
use Rattle.file_simulation.specs.Events.{joined, events_of}
use Rattle.file_simulation.specs.Messages.{WasSent}
use Rattle.file_simulation.specs.Showing.{Pairs, IsPair}
use Rattle.relation_law.specs.Frames.{LogGrows}
use Rattle.relation_law.specs.Steps.{Follows, behind, owed}
use Rattle.relation_law.specs.Working.{ClientWorks}
use Rattle.relation_law.proofs.ComponentsMachine.{AreSingle, single_run}
use Rattle.relation_law.proofs.FramesFiles.{file_stays}
use Rattle.relation_law.proofs.FramesGrow.{log_grows, log_more}
use Rattle.relation_law.proofs.KeptGoing.{safe_of}
use Rattle.relation_law.proofs.OwnFacts.{works_kept}
use Rattle.headline_law.specs.EntriesTied.{EntriesKept}
use Rattle.file_simulation.specs.Tied.{WasPosted, HasItsEntry, WritesAreTied}
use Rattle.file_simulation.proofs.Fronts.{scenario_before}
use Rattle.headline_law.specs.Parts.{CutShown, CutsAreRuns, cut_at, lines_to}
use Rattle.headline_law.proofs.CalmAhead.{code_all}
use Rattle.headline_law.proofs.CalmCodes.{code_of}
use Rattle.headline_law.proofs.MarksWrites.{IsOld, MessagesTied}
use Rattle.headline_law.proofs.MarksWritesLog.{told_writes, sent_before}
use Rattle.headline_law.proofs.NotLogged.{event_front}
use Rattle.headline_law.proofs.NotLoggedLines.{NoMessages}
use Rattle.headline_law.proofs.NotLoggedMoves.{event_told, tells_sends}

-- ---- what is known of a move

-- the command of a message that a client sent
pub record IsCommandOf (w : World) (c d : ℕ) (x : Command) : Type 0 where
  pub command : Command
  pub sent : HasSent w c d command
  pub action : command.action ≡ x.action
  pub object : command.object ≡ x.object
  pub nonce : command.nonce ≡ x.nonce
  pub offset : x.action ≡ Write → x.offset ≡ command.offset

-- What a drive reads in the bytes of a client's message is the command that the client sent.
abbrev pub PostedAreSent : Type 0
PostedAreSent =
    (w : World) (h : List Line) → IsMoment w h → IsOfScenario h → (n c d : ℕ) (x : Command) → WasPosted w n c d x →
    IsCommandOf w c d x

-- component i had this object before, and stood
pub record StoodBefore (s : State) (f : File) (i : ℕ) (at : Component) : Type 0 where
  pub component : Component
  pub there : slice_get f.kept.components i ≡ Some component
  pub object : component.object ≡ at.object
  pub stands : s.lost i ≡ false

-- A component that stands behind a move stood before it, if a client had sent a WRITE to its object.
abbrev pub WrittenStood : Type 0
WrittenStood =
    (w : World) (h : List Line) (m : Move) (f g : File) (s : State) (pairs : Pairs) →
    (k : CutShown w h m (length (lines_in w m)) f g s pairs) → (c d i : ℕ) (y : Command) (at : Component) →
    HasSent w c d y → y.action ≡ Write → slice_get g.kept.components i ≡ Some at → y.object ≡ at.object →
    (cut_at k.shown.follows).lost i ≡ false → StoodBefore s f i at

-- Behind a whole move no two WRITEs of a client have one nonce, and the log of the machine has grown.
pub record GrewTo (s t : State) : Type 0 where
  pub grows : LogGrows s t
  pub single : AreSingle t
  pub low : (y : machine.Write) → InRun y s.writes → y.entry < s.count

abbrev pub CutsGrow : Type 0
CutsGrow =
    (w : World) (h : List Line) (m : Move) (f g : File) (s : State) (pairs : Pairs) →
    (k : CutShown w h m (length (lines_in w m)) f g s pairs) → GrewTo s (cut_at k.shown.follows)

pub record OldLaws : Type 0 where
  pub sent : PostedAreSent
  pub stood : WrittenStood
  pub grew : CutsGrow

-- ---- a message that was sent before

posted_at : (ps : List Posted) (n : ℕ) → n < length ps → (p : Posted) × (slice_get ps n ≡ Some p)
posted_at [] n low = absurd (omega (arith, low))
posted_at (p ∷ ps) zero low = (p, refl)
posted_at (p ∷ ps) (suc n) low = posted_at ps n (let l : suc n < suc (length ps) = low in omega (arith, l))

module _ (laws : OldLaws) (w : World) (h : List Line) (m : Move) (f g : File) (s : State) (pairs : Pairs)
    (k : CutShown w h m (length (lines_in w m)) f g s pairs) (writes : WritesAreTied w h s f pairs)
    (e : EntriesKept w h m (length (lines_in w m)) (cut_at k.shown.follows) f.kept.number pairs) (n : ℕ)
    (low : n < length w.network.messages) where
  abbrev follows : Follows w h m (length (lines_in w m)) f g s
  follows = k.shown.follows

  abbrev a : Act
  a = acts w m.chosen m.action

  abbrev number : ℕ
  number = length (acts w m.chosen m.action).world.network.messages

  scenario : IsOfScenario h
  scenario = scenario_before h (take (length (lines_in w m)) (lines_in w m)) follows.calm.scenario

  first : (p : Posted) × (slice_get w.network.messages n ≡ Some p)
  first = posted_at w.network.messages n low

  -- the message stands under its number
  was_posted : (c d : ℕ) (x : Command) → WasPosted (move w m).world n c d x → WasPosted w n c d x
  was_posted c d x p =
      let z : Stands (move w m).world.network.messages n first.0 =
      stay_more w.network.messages a.world.network.messages (map fresh a.posts) (acts_so w m.chosen m.action).stay n first.0
      first.1 in
      let one : p.posted ≡ z.now = cc (sym p.there ∙ z.found) in
      let same : p.posted.message ≡ first.0.message = ap (λ (q : Posted). q.message) one ∙ z.same in
      record {
        posted = first.0;
        there = first.1;
        sender = ap (λ (q : Message). q.from) (sym same) ∙ p.sender;
        receiver = ap (λ (q : Message). q.to) (sym same) ∙ p.receiver;
        reads = subst (λ (q : Message). command_in q.body ≡ Ok x) same p.reads;
      }

  -- and so does its entry in the log
  below : n < number
  below =
      let z : Stands a.world.network.messages n first.0 = (acts_so w m.chosen m.action).stay n first.0 first.1 in
      slice_get_within a.world.network.messages n z.now z.found

  log_is : log_in (h ++ lines_in w m) ≡
      fold log_after (fold log_after (log_in h) (with_event m.action a.told)) (sent_lines number a.posts)
  log_is =
      fold-append log_after empty_log h (lines_in w m)
      ∙ ap (fold log_after (log_in h)) (event_front m.action a.told (sent_lines number a.posts))
      ∙ fold-append log_after (log_in h) (with_event m.action a.told) (sent_lines number a.posts)

  told_none : NoMessages a.told
  told_none =
      (tells_sends w m.chosen m.action
      (λ c x found. clients_always (λ n y. ClientWorks y) works_kept w (reached w h follows.moment) c x found)).told

  logged_before : at_number (log_in (lines_to w h m (length (lines_in w m)))).writes n ≡ at_number (log_in h).writes n
  logged_before =
      ap (λ (ls : List Line). at_number (log_in (h ++ ls)).writes n)
      (take_all (length (lines_in w m)) (lines_in w m) (omega arith))
      ∙ ap (λ (l : Log). at_number l.writes n) log_is
      ∙ sent_before (fold log_after (log_in h) (with_event m.action a.told)) number n a.posts below
      ∙ ap (λ (ws : List (ℕ × ℕ)). at_number ws n)
      (told_writes (log_in h) (with_event m.action a.told) (event_told m.action a.told told_none))

  grew : GrewTo s (cut_at follows)
  grew = laws.grew w h m f g s pairs k

  unit_stays : g.kept.map ≡ f.kept.map
  unit_stays =
      (file_stays w h follows.moment m follows.is_due f.kept.number f g follows.there follows.goes).same.map

  tied_then : (i : ℕ) (x : Command) (y z : machine.Write) → y ≡ z → InRun z s.writes →
      HasItsEntry (log_in h) s f pairs n i x z →
      HasItsEntry (log_in (lines_to w h m (length (lines_in w m)))) (cut_at follows) g e.shown.pairs n i x y
  tied_then i x y z same there it =
      let start : (cut_at follows).start y.entry ≡ s.start z.entry =
      ap (λ (q : machine.Write). (cut_at follows).start q.entry) same ∙ grew.grows.start z.entry (grew.low z there) in
      record {
        entry = it.entry;
        logged = logged_before ∙ it.logged;
        pair = e.shown.more it.entry y.entry
            (subst (λ (q : machine.Write). InPairs it.entry q.entry) (sym same) it.pair);
        unit = λ p v content part.
            ap (λ (r : RawMap). p / r.unit) unit_stays
            ∙ it.unit p v (sym (ap (λ (q : machine.Start). q.content i p) start) ∙ content)
            (sym (ap (λ (q : machine.Start). q.part i p) start) ∙ part ∙ ap (λ (q : machine.Write). q.part) same)
            ∙ ap (λ (r : RawMap). x.offset / r.unit) (sym unit_stays);
      }
    where
      InPairs : ℕ → ℕ → Type 0
      InPairs i j = IsPair pairs i j

  old_message : (c d i : ℕ) (x : Command) (at : Component) → WasPosted (move w m).world n c d x → x.action ≡ Write →
      slice_get g.kept.components i ≡ Some at → x.object ≡ at.object → (cut_at follows).lost i ≡ false →
      (y : machine.Write) → InRun y (cut_at follows).writes → y.holder ≡ c → y.nonce ≡ x.nonce → y.at ≡ i →
      HasItsEntry (log_in (lines_to w h m (length (lines_in w m)))) (cut_at follows) g e.shown.pairs n i x y
  old_message c d i x at posted write found object lost y sent holder nonce there =
      let p = was_posted c d x posted in
      let its = laws.sent w h follows.moment scenario n c d x p in
      let b = laws.stood w h m f g s pairs k c d i its.command at its.sent (its.action ∙ write) found
      (its.object ∙ object) lost in
      let was : WasSent s c i its.command =
      follows.related.sent.writes c d i its.command b.component its.sent (its.action ∙ write) b.there
      (its.object ∙ object ∙ sym b.object) b.stands in
      let same : y ≡ was.write =
      grew.single y was.write sent (grew.grows.writes was.write was.sent) (holder ∙ sym was.holder)
      (nonce ∙ sym its.nonce ∙ sym was.nonce) in
      tied_then i x y was.write same was.sent
      (writes n c d i x b.component p write b.there (object ∙ sym b.object) b.stands was.write was.sent was.holder
      (was.nonce ∙ its.nonce) was.at_)

pub old_stay_tied : OldLaws → MessagesTied IsOld
old_stay_tied laws w h m f g s pairs k tied writes e n c d i x at low posted write found object lost y sent holder nonce there =
    old_message laws w h m f g s pairs k writes e n low c d i x at posted write found object lost y sent holder nonce there

-- ---- the machine

pub cuts_grow : CutsAreRuns → BookIsRead → CutsGrow
cuts_grow runs book w h m f g s pairs k =
    let follows : Follows w h m (length (lines_in w m)) f g s = k.shown.follows in
    let es : List Event = joined (take (length (lines_in w m)) (events_of s w (owed follows.related) f m)) in
    let b : State = behind follows.related m (length (lines_in w m)) in
    let ahead_ : List Event = rebuilt_ahead b w f (notes_behind (length (lines_in w m)) m.action (did_in w m)) in
    let code : IsCode s.layout = code_of book w h m (length (lines_in w m)) f g s follows in
    record {
      grows = log_more s b (after_all b ahead_) (log_grows s es) (log_grows b ahead_);
      single = single_run (cut_at follows) (code_all b ahead_ (code_all s es code))
          (runs w h m (length (lines_in w m)) f g s pairs k);
      low = λ y sent. ((safe_of s follows.run code).known y sent).entry;
    }
