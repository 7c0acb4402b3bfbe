-- What a calm history gives where the server goes on: all that the parts on what it keeps need, but for clients' returns.
-- Towards `KeptGoesOn` (`specs/Steps.antt`).
use Rattle.std.proofs.Common.{◌≡◌, ℕ, ◌<◌, Bool, true, false, not, List, [], ◌∷◌, Option, Some, None, take, length, refl, sym, ap, subst, ◌∙◌, if◌then◌else◌}
use Rattle.std.specs.Prelude.{slice_get, is_some}
use Rattle.std.proofs.lemmas.List.{append-nil}
use Rattle.osd_lists.specs.declared.node.Node.{Node}
use Rattle.osd_lists.specs.declared.node.Node.TheVariants as node
use Rattle.scenario_text.specs.declared.event.Event.{Event}
use Rattle.scenario_text.specs.declared.event.Event.TheVariants as event
use Rattle.scenario_text.specs.declared.event.Machine.TheVariants as machine
use Rattle.scenario_text.specs.declared.event.Sender.TheVariants as sender
use Rattle.scenario_text.specs.declared.line.Line.{Line}
use Rattle.scenario_text.specs.declared.line.Line.TheVariants as line
use Rattle.server_rules.specs.History.{Input, Hears}
use Rattle.server_rules.specs.Messages.{Message, Asks}
use Rattle.scenario_text.specs.declared.names.TheConstants.{CLIENTS}
use Rattle.server_rules.specs.Slots.{slot_of}
use Rattle.world_history.specs.ClientNames.{Client}
use Rattle.world_history.specs.ServerNames.{File, ClientRequest, Commit as Commits}
use Rattle.world_history.specs.declared.messages.Posted.{Posted}
use Rattle.world_history.specs.History.{OneEventMore}
use Rattle.world_history.specs.State.{World, at_number}
use Rattle.world_history.specs.Handed.{for_server}
use Rattle.world_history.specs.Moves.{Action, Opens, Delivers, TimesOut, Pends, knows_drive, raw_of, has_algorithm}
use Rattle.world_history.specs.Refusals.{unless_down, unless_there, unless_zoned, is_zoned, of_file, if_failed, refusal}
use Rattle.world_history.specs.Sending.{Move}
use Rattle.world_history.proofs.Causes.{no_cause, is_up}
use Rattle.history_law.specs.BookMoments.{lines_in}
use Rattle.history_law.specs.Doing.{heard_of, brought_to, brought, input_in}
use Rattle.component_law.specs.Naming.{IsNamed, AreNamed}
use Rattle.exchange_law.specs.Counters.{CountersStayLow}
use Rattle.exchange_law.specs.InStep.{ClientsAreInStep}
use Rattle.exchange_law.specs.Meeting.{IsReadable, IsReadableThrough, ClientsAgree, KeptGood}
use Rattle.exchange_law.specs.Text.{IsOfText, AreOfText, AreFew}
use Rattle.exchange_law.proofs.CountGrowing.{fewer, text_front}
use Rattle.exchange_law.proofs.CountMoments.{reached}
use Rattle.exchange_law.proofs.Knowing.{lawful_at}
use Rattle.cause_law.specs.Readable.{FilesAndAnswersAreReadable}
use Rattle.component_law.specs.Turns.{in_turn}
use Rattle.component_law.proofs.Doing.{IsAllowed, is_opened}
use Rattle.component_law.proofs.Moments.{allowed_at}
use Rattle.fence_law.specs.State.{State}
use Rattle.file_simulation.specs.Relation.{client_of}
use Rattle.file_simulation.specs.Requests.{kept_for}
use Rattle.file_simulation.specs.ServerEvents.{is_served}
use Rattle.relation_law.specs.KeptAsked.{CommitIs, AsksRightly}
use Rattle.relation_law.specs.KeptFollows.{ReturnsAreRight, KeptFollows}
use Rattle.relation_law.specs.RequestsGoing.{IsItsRequest}
use Rattle.relation_law.specs.Steps.{FollowsWhole}
use Rattle.relation_law.proofs.FramesFiles.{files_distinct}
use Rattle.relation_law.proofs.KeptGoing.{KeptNeeds, kept_goes_on, high_goes_on}
use Rattle.relation_law.proofs.KeptReady.{IsFit, fit_at, ComesRightly, served_at}
use Rattle.relation_law.proofs.KeptCommits.{asker_low, commit_asked, commit_ends}
use Rattle.relation_law.proofs.RequestsClients.{clients_ask_for}
use Rattle.relation_law.proofs.RequestsHeard.{heard_in, its_request}
use Rattle.relation_law.proofs.RequestsOn.{served_is}

-- ---- lines of a text name drives and files that there are

line_named : (l : Line) → IsOfText l → IsNamed l
line_named (line.Event (event.Drive d key capacity)) t = t.1.0
line_named (line.Event (event.Disk d key capacity)) t = t.1.0
line_named (line.Event (event.File f m tag)) t = t.1.0
line_named (line.Event (event.ZonedFile f m tag)) t = t.1.0
line_named l t = tt

lines_named : (h : List Line) → AreOfText h → AreNamed h
lines_named [] t = tt
lines_named (l ∷ ls) t = (line_named l t.0, lines_named ls t.1)

-- ---- what comes to the server is in its turn

-- what comes while it is up
up : (w : World) → unless_down w ≡ None → not w.down ≡ true
up w e = ap not (is_up w e)

-- what an event gives
given : (w : World) (j i : Input) → Some j ≡ Some i → in_turn w.down j ≡ true → in_turn w.down i ≡ true
given w j i e turn = let same : j ≡ i = cc e in subst (λ (z : Input). in_turn w.down z ≡ true) same turn

unless_given : (w : World) (b : Bool) (j i : Input) → (if b then None else Some j) ≡ Some i → in_turn w.down j ≡ true
    → in_turn w.down i ≡ true
unless_given w true j i e turn = absurd (cc e)
unless_given w false j i e turn = given w j i e turn

if_given : (w : World) (b : Bool) (j i : Input) → (if b then Some j else None) ≡ Some i → in_turn w.down j ≡ true
    → in_turn w.down i ≡ true
if_given w true j i e turn = given w j i e turn
if_given w false j i e turn = absurd (cc e)

heard_turn : (w : World) (down : Bool) → w.down ≡ down → (from : Node) (m : Option Message) (i : Input)
    → (if down then None else heard_of w.clock from m) ≡ Some i → in_turn w.down i ≡ true
heard_turn w true is from m i e = absurd (cc e)
heard_turn w false is from None i e = absurd (cc e)
heard_turn w false is from (Some m) i e = given w (Hears w.clock from m) i e (ap not is)

brought_turn : (w : World) (p : Posted) (to : Node) (i : Input) → brought_to w p.message to ≡ Some i
    → in_turn w.down i ≡ true
brought_turn w p node.Server i e = heard_turn w w.down refl p.message.from (for_server p.message) i e
brought_turn w p (node.Drive d) i e = absurd (cc e)
brought_turn w p (node.Client c) i e = absurd (cc e)

delivered_turn : (w : World) (o : Option Posted) (i : Input) → brought w o ≡ Some i → in_turn w.down i ≡ true
delivered_turn w None i e = absurd (cc e)
delivered_turn w (Some p) i e = brought_turn w p p.message.to i e

opened_turn : (w : World) (x : Event) (i : Input) → refusal w x ≡ None → input_in w (Opens x) ≡ Some i
    → in_turn w.down i ≡ true
unfolding refusal
opened_turn w (event.Deliver n) i ok e = delivered_turn w (slice_get w.network.messages n) i e
opened_turn w (event.Drive d key capacity) i ok e =
    unless_given w (knows_drive w.server d) _ i e
    (up w (no_cause (unless_there (is_some (at_number w.drives d))) (unless_down w) ok).1)
opened_turn w (event.Disk d key capacity) i ok e =
    unless_given w (knows_drive w.server d) _ i e
    (up w (no_cause (unless_there (is_some (at_number w.drives d))) (unless_down w) ok).1)
opened_turn w (event.File f m tag) i ok e = if_given w (has_algorithm (raw_of m)) _ i e (up w ok)
opened_turn w (event.ZonedFile f m tag) i ok e = if_given w (has_algorithm (raw_of m)) _ i e (up w ok)
opened_turn w (event.Format format) i ok e = given w _ i e (up w ok)
opened_turn w (event.Zone d zone) i ok e =
    given w _ i e
    (up w (no_cause (unless_zoned (is_zoned w.server d) (at_number w.drives d)) (unless_down w) ok).1)
opened_turn w (event.Recall f) i ok e = given w _ i e (up w (no_cause (of_file w f) (unless_down w) ok).1)
opened_turn w (event.Revoke f) i ok e = given w _ i e (up w (no_cause (of_file w f) (unless_down w) ok).1)
opened_turn w (event.Rebuild f) i ok e = given w _ i e (up w (no_cause (of_file w f) (unless_down w) ok).1)
opened_turn w (event.Audit f) i ok e = given w _ i e (up w (no_cause (of_file w f) (unless_down w) ok).1)
opened_turn w (event.Declare d) i ok e =
    given w _ i e (up w (no_cause (if_failed (at_number w.drives d)) (unless_down w) ok).1)
opened_turn w (event.Resend sender.Server) i ok e = absurd (cc e)
opened_turn w (event.Resend (sender.Client c)) i ok e = absurd (cc e)
opened_turn w (event.Crash machine.Server) i ok e = given w _ i e (up w ok)
opened_turn w (event.Crash (machine.Drive d)) i ok e = absurd (cc e)
opened_turn w (event.Reopen machine.Server) i ok e = given w _ i e (is_opened w.down ok)
opened_turn w (event.Reopen (machine.Drive d)) i ok e = absurd (cc e)
opened_turn w x i ok e = absurd (cc e)

pub turn_in : (w : World) (a : Action) (i : Input) → IsAllowed w a → input_in w a ≡ Some i → in_turn w.down i ≡ true
turn_in w (Opens x) i ok e = opened_turn w x i ok e
turn_in w (Delivers n) i ok e = delivered_turn w (slice_get w.network.messages n) i e
turn_in w (TimesOut c k) i ok e = absurd (cc e)
turn_in w (Pends c) i ok e = absurd (cc e)

-- a request is heard while the server is up
pub asked_up : (w : World) (i : Input) → in_turn w.down i ≡ true → (now : ℕ) (q : ClientRequest)
    → i ≡ Hears now (node.Client q.client) (Asks q) → w.down ≡ false
asked_up w i turn now q is =
    is_false w.down (subst (λ (z : Input). in_turn w.down z ≡ true) is turn)
  where
    is_false : (b : Bool) → not b ≡ true → b ≡ false
    is_false true e = absurd (cc e)
    is_false false e = refl

-- ---- at a move

-- what is known of the world
pub record KeptLaws : Type 0 where
  pub more : OneEventMore
  pub counters : CountersStayLow
  pub readable : FilesAndAnswersAreReadable
  pub in_step : ClientsAreInStep
  pub agree : ClientsAgree

module _ (laws : KeptLaws) (right : ReturnsAreRight) (w : World) (h : List Line) (m : Move) (f g : File) (s : State)
    (k : FollowsWhole w h m f g s) where
  abbrev count : ℕ
  count = length (lines_in w m)

  text : AreOfText h
  text = text_front h (take count (lines_in w m)) k.follows.calm.scenario.text

  few : AreFew h
  few = fewer h (take count (lines_in w m)) k.follows.calm.scenario.few

  through : IsReadableThrough h
  through = laws.readable h (lawful_at w h k.follows.moment) text few

  readable : IsReadable w
  readable = through w h [] k.follows.moment (sym (append-nil h))

  fit : IsFit w
  fit = fit_at laws.more laws.counters w h k.follows.moment (lines_named h text) text few

  commit_is : (now : ℕ) (q : ClientRequest) → input_in w m.action ≡ Some (Hears now (node.Client q.client) (Asks q))
      → is_served w.server q.client q ≡ true → q.file ≡ f.kept.number → (last : Option ℕ) → q.args ≡ Commits last
      → CommitIs s q.client last
  commit_is now q is served here None args_are = tt
  commit_is now q is served here (Some last) args_are =
      let c : ℕ = q.client in
      let x : Client = client_of w c in
      let takes = served_is w.server c q served in
      let its : IsItsRequest w c q =
      its_request w h c k.follows.moment (laws.in_step w h k.follows.moment c) readable now q takes.named
      (heard_in w m.action (Hears now (node.Client c) (Asks q)) is) takes.new in
      let asked = commit_asked its.request.args q.args (Some last) its.reads.args args_are in
      let low : c < CLIENTS = asker_low w h k.follows.moment text c its.request its.outstanding in
      commit_ends f.kept.number f.kept.map s c x (kept_for (slot_of w.server.slots c) x.outstanding)
      (KeptGood w.server c) its.request its.outstanding (clients_ask_for w (reached w h k.follows.moment) c)
      (sym its.reads.file ∙ here) asked.0 asked.1 (laws.agree w h k.follows.moment through c).call
      (k.follows.related.clients c low).client.call last asked.2

  asks_rightly : (now : ℕ) (q : ClientRequest) → input_in w m.action ≡ Some (Hears now (node.Client q.client) (Asks q))
      → is_served w.server q.client q ≡ true → q.file ≡ f.kept.number → AsksRightly s f q
  asks_rightly now q is served here = record {
    commits = commit_is now q is served here;
    returns = right w h m f g s k now q is served here;
  }

  comes : (i : Input) → input_in w m.action ≡ Some i → ComesRightly s w f i
  comes i is =
      let turn = turn_in w m.action i (allowed_at w h k.follows.moment m.action k.follows.is_due) is in
      record {
        turn = turn;
        heard = heard_in w m.action i is;
        asks = λ now q asks served on. asks_rightly now q (is ∙ ap Some asks) served on;
        up = asked_up w i turn;
      }

  pub needs_are_given : KeptNeeds s w m f
  needs_are_given = record {
    checked = (readable.files f.kept.number f k.follows.there).map;
    served = λ i is.
        let at = reached w h k.follows.moment in
        served_at s w f i at fit (files_distinct w at) k.follows.there (comes i is);
  }

-- Both parts on what the server keeps go on, where the returns that it carries out are as the machine has them.
pub kept_follows : KeptLaws → KeptFollows
kept_follows laws right = record {
  kept = kept_goes_on (needs_are_given laws right);
  high = high_goes_on (needs_are_given laws right);
}
