-- A new request of a client on a file or on another: the machine has it as the server answered it.
use Rattle.std.proofs.Common.{◌≡◌, ◌==◌, ◌<◌, ℕ, Bool, true, List, [], ◌∷◌, ◌++◌, Option, Some, take, length, refl, sym, ap, subst, ◌∙◌, append_assoc}
use Rattle.std.specs.Prelude.{◌&&◌}
use Rattle.std.proofs.lemmas.List.{append-nil}
use Rattle.osd_lists.specs.declared.node.Node.TheVariants as node
use Rattle.scenario_text.specs.declared.line.Line.{Line}
use Rattle.scenario_text.specs.declared.names.TheConstants.{CLIENTS}
use Rattle.server_rules.specs.Files.{Step}
use Rattle.server_rules.specs.History.{Input, Hears, step as server_step}
use Rattle.server_rules.specs.Messages.{Asks}
use Rattle.server_rules.specs.Slots.{slot_of, keep}
use Rattle.server_rules.proofs.FileLaws.{keep_same}
use Rattle.world_history.specs.ServerNames.{Server, File, Slot, ClientRequest}
use Rattle.world_history.specs.ClientNames.{Client, Request}
use Rattle.world_history.specs.State.{World}
use Rattle.world_history.specs.Handed.{pending_op}
use Rattle.world_history.specs.Sending.{Move, move}
use Rattle.history_law.specs.BookMoments.{IsMoment, lines_in}
use Rattle.history_law.specs.Doing.{input_in}
use Rattle.exchange_law.specs.Meeting.{IsReadable, IsReadableThrough, IsMet}
use Rattle.exchange_law.specs.Text.{AreOfText, AreFew}
use Rattle.exchange_law.proofs.HeldWorlds.{next_moment}
use Rattle.exchange_law.proofs.Knowing.{lawful_at}
use Rattle.fence_law.specs.State.{State, Event, RequestKind, Grant as MachineGrant}
use Rattle.fence_law.specs.State.{Event as event}
use Rattle.fence_law.specs.Machine.{after, after_all}
use Rattle.file_simulation.specs.EventLists.{where_so}
use Rattle.file_simulation.specs.Relation.{client_of}
use Rattle.file_simulation.specs.Requests.{Own, Other, class_of, Gives, IsOutstanding, RequestIs, RequestsAgree}
use Rattle.file_simulation.specs.ServerEvents as table
use Rattle.relation_law.specs.Frames.{AreAll}
use Rattle.relation_law.specs.Requests.{IsPlain, IsSteady, AskingStays, SteadyStays, TellsAnswer}
use Rattle.relation_law.specs.RequestsGoing.{IsItsRequest, IsAnsweredBy, OwnLaws}
use Rattle.relation_law.specs.Steps.{FollowsWhole, whole_behind}
use Rattle.relation_law.proofs.RequestsHeard.{heard_in, its_request}
use Rattle.relation_law.proofs.RequestsLines.{answered_behind, steady_same, steady_more, steady_stays}
use Rattle.relation_law.proofs.RequestsOn.{IsServed, served_answered}
use Rattle.relation_law.proofs.RequestsOwn.{lines_are, server_is}
use Rattle.relation_law.proofs.RequestsPlain.{asking_more, asking_stays_all}
use Rattle.relation_law.proofs.RequestsServed.{counted, own_answered}
use Rattle.relation_law.proofs.KeptNotes.{after_both}

pub taken_all : (ls : List Line) → take (length ls) ls ≡ ls
taken_all [] = refl
taken_all (l ∷ ls) = ap (λ (z : List Line). l ∷ z) (taken_all ls)

module _ (laws : OwnLaws) (w : World) (h : List Line) (m : Move) (f g : File) (s : State) (k : FollowsWhole w h m f g s)
    (now c : ℕ) (q : ClientRequest) (comes : input_in w m.action ≡ Some (Hears now (node.Client c) (Asks q)))
    (low : c < CLIENTS) (is : IsServed w.server c q) (served : table.is_served w.server c q ≡ true) where
  abbrev pub i : Input
  i = Hears now (node.Client c) (Asks q)

  abbrev pub did : Step
  did = server_step w.server m.chosen i

  abbrev pub v : World
  v = (move w m).world

  abbrev pub file : ℕ
  file = f.kept.number

  abbrev pub t : State
  t = whole_behind k

  abbrev pub x : Client
  x = client_of w c

  abbrev pub p : Option Slot
  p = slot_of w.server.slots c

  -- ---- the world

  abbrev lines : List Line
  lines = lines_in w m

  next_is : IsMoment v (h ++ lines)
  next_is = next_moment w h k.follows.moment m k.follows.is_due

  through : IsReadableThrough (h ++ lines)
  through =
      laws.readable (h ++ lines) (lawful_at v (h ++ lines) next_is)
      (subst (λ (z : List Line). AreOfText (h ++ z)) (taken_all lines) k.follows.calm.scenario.text)
      (subst (λ (z : List Line). AreFew (h ++ z)) (taken_all lines) k.follows.calm.scenario.few)

  readable : IsReadable w
  readable = through w h lines k.follows.moment refl

  pub readable_behind : IsReadable v
  readable_behind = through v (h ++ lines) [] next_is (sym (append-nil (h ++ lines)))

  pub met : IsMet w.server c x
  met = laws.agree w h k.follows.moment (λ u e rest n e_is. through u e (rest ++ lines) n (by_rest e rest e_is)) c
    where
      by_rest : (e rest : List Line) → h ≡ e ++ rest → h ++ lines ≡ e ++ (rest ++ lines)
      by_rest e rest same = ap (λ (z : List Line). z ++ lines) same ∙ append_assoc e rest lines

  pub its : IsItsRequest w c q
  its =
      its_request w h c k.follows.moment (laws.in_step w h k.follows.moment c) readable now q is.named
      (heard_in w m.action i comes) is.new

  abbrev pub r : Request
  r = its.request

  before : RequestsAgree file f.kept.map s w.server c x
  before = (k.follows.related.clients c low).slot

  pub its_waits : IsOutstanding file f.kept.map s p c x r
  its_waits = subst (RequestIs file f.kept.map s p c x) its.outstanding before.request

  -- ---- the answer

  pub answered : IsAnsweredBy w.server now m.chosen q did
  answered = served_answered w.server m.chosen now c q is

  abbrev pub new : Slot
  new = record { client = q.client; last = q.sequence; kept = answered.answer }

  kept : slot_of v.server.slots c ≡ Some new
  kept =
      ap (λ (z : Server). slot_of z.slots c) (server_is w h m f g s k i comes)
      ∙ ap (λ (l : List Slot). slot_of l c) answered.slots
      ∙ ap (λ (n : ℕ). slot_of (keep w.server.slots new) n) (sym is.client)
      ∙ keep_same w.server.slots new

  abbrev pub Agrees : Type 0
  Agrees = RequestsAgree file f.kept.map t v.server c x

  -- ---- the events

  abbrev pub firsts : List Event
  firsts = table.served s q (table.is_ok (table.answer_of did.sends)) f g

  abbrev pub lasts : State → List Event
  lasts u = where_so (q.file == g.kept.number) (table.answered_here u c q.args answered.answer g)

  pub goes : (u : State) × SteadyStays (after_all s firsts) u × (t ≡ after_all u (lasts u))
  goes =
      let b = answered_behind w f g i s did answered.others answered.answer answered.none answered.sends in
      let first_is : table.at_first s w.server did f g i ≡ firsts = ap (λ (z : Bool). where_so z firsts) served in (
        b.0,
        subst (λ (es : List Event). SteadyStays (after_all s es) b.0) first_is b.1,
        ap (λ (es : List Event). after_all s es) (lines_are w h m f g s k i comes) ∙ b.2
            ∙ ap (λ (z : Bool). after_all b.0 (where_so (z && (q.file == g.kept.number))
            (table.answered_here b.0 c q.args answered.answer g))) served,
      )

  -- a request that the machine only counts: its event stands first, and all others are of no request
  pub counts : class_of file x r ≡ Other → (es : List Event) → firsts ≡ event.ServesOther c ∷ es → AreAll IsPlain es
      → ((u : State) → AreAll IsPlain (lasts u)) → Agrees
  counts class es first plain last =
      let u : State = goes.0 in
      let s1 : State = after s (event.ServesOther c) in
      let to_u : SteadyStays (after_all s1 es) u = subst (λ (l : List Event). SteadyStays (after_all s l) u) first goes.1 in
      counted file f.kept.map s c x p r v.server its.outstanding before.sequence before.slot
      (sym its.next ∙ its.reads.sequence) its_waits new kept its.reads.sequence t class
      (asking_more s1 (after_all s1 es) t (asking_stays_all s1 es plain)
      (asking_more (after_all s1 es) u t to_u.asking
      (subst (AskingStays u) (sym goes.2) (asking_stays_all u (lasts u) (last u)))))

  module _ (kind : RequestKind) (class : class_of file x r ≡ Own kind) (size : t.size ≡ answered.answer.size)
      (grant : Option MachineGrant) (gives : Gives f.kept.map answered.answer (pending_op x) grant) where
    -- one that is answered at the first line
    pub answers_first : (es : List Event) (e : Event) → firsts ≡ es ++ e ∷ [] → AreAll IsSteady es
        → TellsAnswer (after_all s es) c e grant → ((u : State) → AreAll IsSteady (lasts u)) → Agrees
    answers_first es e first steady tells last =
        let s1 : State = after_all s es in
        let u : State = goes.0 in
        let to_u : SteadyStays (after s1 e) u =
        subst (λ (z : State). SteadyStays z u) (ap (λ (l : List Event). after_all s l) first ∙ after_both s es (e ∷ [])) goes.1 in
        own_answered file f.kept.map s c x p r v.server its.outstanding before.sequence before.slot
        (sym its.next ∙ its.reads.sequence) its_waits new kept its.reads.sequence s1 t e kind grant class
        (steady_stays s es steady)
        (steady_more (after s1 e) u t to_u (subst (SteadyStays u) (sym goes.2) (steady_stays u (lasts u) (last u)))) tells size
        gives

    -- one that is answered at the line of its answer
    pub answers_last : (e : Event) → AreAll IsSteady firsts → lasts goes.0 ≡ e ∷ [] → TellsAnswer goes.0 c e grant → Agrees
    answers_last e steady last tells =
        let u : State = goes.0 in
        own_answered file f.kept.map s c x p r v.server its.outstanding before.sequence before.slot
        (sym its.next ∙ its.reads.sequence) its_waits new kept its.reads.sequence u t e kind grant class
        (steady_more s (after_all s firsts) u (steady_stays s firsts steady) goes.1)
        (subst (SteadyStays (after u e)) (sym (goes.2 ∙ ap (λ (l : List Event). after_all u l) last)) (steady_same (after u e)))
        tells size gives
