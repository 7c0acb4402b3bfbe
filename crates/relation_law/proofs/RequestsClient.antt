-- A client's own move keeps what the machine has of its requests.
use Rattle.std.proofs.Common.{◌≡◌, ℕ, Bool, List, [], ◌∷◌, ◌++◌, Option, Some, None, map, refl, sym, ap, subst, ◌∙◌, inl, inr, if◌then◌else◌}
use Rattle.std.specs.Prelude.{is_some, option_map}
use Rattle.data_map.specs.declared.check.RawMap.{RawMap}
use Rattle.osd_lists.specs.declared.node.Node.{Node}
use Rattle.layout_ops.specs.declared.messages.Answer.{Answer}
use Rattle.layout_ops.specs.declared.results.LayoutGetOk.{LayoutGetOk}
use Rattle.server_rules.specs.Slots.{slot_of}
use Rattle.server_rules.specs.Laws.{last_of}
use Rattle.client_rules.specs.History.{Input, Hears, Resends, step}
use Rattle.client_rules.specs.Going.{after_number}
use Rattle.client_rules.specs.Messages.{Message, Taken, TakesAnswer, takes, to_drive, sends_of}
use Rattle.client_rules.specs.Results.{layouts_in}
use Rattle.world_history.specs.ServerNames.{Server}
use Rattle.world_history.specs.ClientNames.{Client, Call, CallOp, Outcome, Outgoing, AnswersRecall, Asks, RecallAnswer, Request, Awaited, Done}
use Rattle.world_history.specs.Handed.{op_in, pending_op}
use Rattle.exchange_law.specs.Calls.{IsNoGet}
use Rattle.exchange_law.specs.Messages.{last_before}
use Rattle.fence_law.specs.Words.{In}
use Rattle.fence_law.specs.State.{State, RequestKind, Request as MachineRequest, Answer as MachineAnswer}
use Rattle.fence_law.specs.Machine.{after_all}
use Rattle.file_simulation.specs.Events.{joined}
use Rattle.file_simulation.specs.Requests.{Own, class_of, kept_by, AwaitsNothing, IsOutstanding, RequestIs, RequestsAgree}
use Rattle.file_simulation.specs.Showing.{IsRun}
use Rattle.file_simulation.specs.ClientEvents as table
use Rattle.relation_law.specs.Requests.{WorksCall, IsAsBefore, Turned, NothingAsked, OneAsked, HasTurned, AskingStays, HasStayed, HasRested, AsksWell}
use Rattle.relation_law.proofs.RequestsPlain.{asking_same, asking_more, asking_stays_all, first_plain, ended_plain, commanded_in}
use Rattle.relation_law.proofs.RequestsSteps.{freed, step_turned, answer_turned}
use Rattle.relation_law.proofs.RequestsAgree.{none_given, agree_stays, agree_same}
use Rattle.relation_law.proofs.RequestsAsked.{request_sent, last_after}
use Rattle.relation_law.proofs.RequestsTaken.{answered_one, answer_taken_rests}
use Rattle.relation_law.proofs.KeptNotes.{after_both}

-- ---- what stays of one client

pub as_stayed : (c : ℕ) (s t : State) → AskingStays s t → HasStayed c s t
as_stayed c s t k = record {
  slot = ap (λ (f : ℕ → ℕ). f c) k.slot;
  sequence = ap (λ (f : ℕ → ℕ). f c) k.sequence;
  waiting = ap (λ (f : ℕ → Bool). f c) k.waiting;
  away = ap (λ (f : ℕ → Bool). f c) k.away;
  asked = ap (λ (f : ℕ → RequestKind). f c) k.asked;
  requests = λ r i. subst (λ (l : List MachineRequest). In r l) (sym k.requests) i;
  answers = λ a i. subst (λ (l : List MachineAnswer). In a l) (sym k.answers) i;
}

module _ (file : ℕ) (m : RawMap) (server : Server) (c : ℕ) where
  -- what the machine has of client y
  abbrev Agrees : Client → State → Type 0
  Agrees y s = RequestsAgree file m s server c y

  agrees_on : (y : Client) (s t : State) → AskingStays s t → Agrees y s → Agrees y t
  agrees_on y s t k w = agree_same file m s t c y y (as_stayed c s t k) server server refl refl w

  -- ---- what the client sends

  -- the machine behind the lines of some messages
  abbrev behind : State → Client → List Outgoing → State
  behind s y os = after_all s (joined (table.sends_all s file c y os))

  one_more : (s : State) (y : Client) (o : Outgoing) (os : List Outgoing)
      → behind s y (o ∷ os) ≡ behind (after_all s (table.sends s file c y o)) y os
  unfolding table.sends_all
  one_more s y o os = after_both s (table.sends s file c y o)
      (joined (table.sends_all (after_all s (table.sends s file c y o)) file c y os))

  commands_stay : (s : State) (y : Client) (xs : List Awaited) → AskingStays s (behind s y (map to_drive xs))
  unfolding table.sends_all
  commands_stay s y [] = asking_same s
  commands_stay s y (a ∷ xs) =
      let t : State = after_all s (table.sends s file c y (to_drive a)) in
      subst (AskingStays s) (sym (one_more s y (to_drive a) (map to_drive xs)))
      (asking_more s t (behind t y (map to_drive xs))
      (asking_stays_all s (table.sends s file c y (to_drive a)) (commanded_in file c s y a.command y.call))
      (commands_stay t y xs))

  -- behind the one request that is sent, or at once
  abbrev asked : State → Client → List Request → State
  asked s y [] = s
  asked s y (r ∷ rs) = asked (after_all s (table.asks s file c y r)) y rs

  requests_stay : (s : State) (y : Client) (rs : List Request) (xs : List Awaited)
      → AskingStays (asked s y rs) (behind s y (map Asks rs ++ map to_drive xs))
  requests_stay s y [] xs = commands_stay s y xs
  requests_stay s y (r ∷ rs) xs =
      subst (AskingStays (asked s y (r ∷ rs))) (sym (one_more s y (Asks r) (map Asks rs ++ map to_drive xs)))
      (requests_stay (after_all s (table.asks s file c y r)) y rs xs)

  sends_stay : (s : State) (y : Client) (as_ : List RecallAnswer) (rs : List Request) (xs : List Awaited)
      → AskingStays (asked s y rs) (behind s y (map AnswersRecall as_ ++ (map Asks rs ++ map to_drive xs)))
  sends_stay s y [] rs xs = requests_stay s y rs xs
  sends_stay s y (a ∷ as_) rs xs =
      subst (AskingStays (asked s y rs)) (sym (one_more s y (AnswersRecall a) _)) (sends_stay s y as_ rs xs)

  -- ---- from where an answer was taken, or nothing

  -- nothing is outstanding: a request may go out
  module _ (s t : State) (x y : Client) (number : ℕ) (d : Done) (rests : AwaitsNothing t c)
      (sequence : t.sequence c ≡ last_before x.next) (slot : t.slot c ≡ last_of (slot_of server.slots c)) where
    one : (r : Request) → y.outstanding ≡ Some r → r.sequence ≡ x.next → y.next ≡ after_number x.next
        → AsksWell file t c y r → Agrees y (after_all t (table.asks t file c y r))
    one r out numbers next well =
        let p = slot_of server.slots c in
        let some : x.next ≡ 0 → ⊥ = λ e. well.some (numbers ∙ e) in
        let sent = request_sent file m t c y p r x.next rests sequence slot numbers some well.holds in
        record {
          slot = sent.0;
          sequence = sym sent.1.sequence ∙ numbers ∙ sym (last_after x.next some) ∙ ap last_before (sym next);
          request = subst (RequestIs file m (after_all t (table.asks t file c y r)) p c y) (sym out) sent.1;
        }

    none : y.outstanding ≡ None → y.next ≡ x.next → Agrees y t
    none out next = record {
      slot = slot;
      sequence = sequence ∙ ap last_before (sym next);
      request = subst (RequestIs file m t (slot_of server.slots c) c y) (sym out) rests;
    }

  -- ---- a whole step

  -- the machine behind the first line, and behind the line of the end
  abbrev first : State → Client → Input → State
  first s x i = after_all s (table.at_first s file c x i)

  abbrev ended : State → Client → Input → State
  ended s x i = after_all (first s x i) (table.ended (first s x i) file c (op_in x i) (step x i).outcome)

  -- behind all lines, one that tells no end has no event
  whole : (s : State) (x : Client) (i : Input)
      → after_all s (joined (table.at_first s file c x i ∷ table.at_end (first s x i) file c (op_in x i) (step x i)))
      ≡ behind (ended s x i) (step x i).client (step x i).sends
  whole s x i =
      after_both s (table.at_first s file c x i) (joined (table.at_end (first s x i) file c (op_in x i) (step x i)))
      ∙ by_end (op_in x i) (step x i).outcome
    where
      by_end : (op : Option CallOp) (o : Option Outcome)
          → after_all (first s x i) (joined (if is_some o
          then table.ended (first s x i) file c op o
          ∷ table.sends_all (after_all (first s x i) (table.ended (first s x i) file c op o)) file c (step x i).client
          (step x i).sends
          else table.sends_all (first s x i) file c (step x i).client (step x i).sends))
          ≡ behind (after_all (first s x i) (table.ended (first s x i) file c op o)) (step x i).client (step x i).sends
      by_end op (Some o) =
          after_both (first s x i) (table.ended (first s x i) file c op (Some o))
          (joined (table.sends_all (after_all (first s x i) (table.ended (first s x i) file c op (Some o))) file c
          (step x i).client (step x i).sends))
      by_end (Some op) None = refl
      by_end None None = refl

  ended_stays : (s : State) (x : Client) (i : Input) → AskingStays (first s x i) (ended s x i)
  ended_stays s x i =
      asking_stays_all (first s x i) (table.ended (first s x i) file c (op_in x i) (step x i).outcome)
      (ended_plain file c (first s x i) (op_in x i) (step x i).outcome)

  -- ---- no answer is taken

  module _ (s : State) (x : Client) (i : Input)
      (none : (a : Answer) (from : Node) (b : Message) → i ≡ Hears from b → takes x from b ≡ Some (TakesAnswer a) → ⊥)
      (fresh : i ≡ Resends → ⊥) (w : Agrees x s)
      (run : IsRun s) (no_get : (r : Request) → x.outstanding ≡ Some r → WorksCall x.call → IsNoGet r.args)
      (well : (r : Request) → (step x i).client.outstanding ≡ Some r → r.sequence ≡ x.next
      → AsksWell file (ended s x i) c (step x i).client r) where
    abbrev t : State
    t = ended s x i

    abbrev y : Client
    y = (step x i).client

    stays : AskingStays s t
    stays =
        asking_more s (first s x i) t (asking_stays_all s (table.at_first s file c x i) (first_plain file c s x i none))
        (ended_stays s x i)

    pending : (r : Request) → x.outstanding ≡ Some r → IsAsBefore x.call y.call → (kind : RequestKind)
        → class_of file x r ≡ Own kind → (a : Answer) → kept_by (slot_of server.slots c) r ≡ Some a → (ok : LayoutGetOk)
        → layouts_in a.results ≡ Some ok → pending_op y ≡ pending_op x
    pending r out (inl same) kind own a kept ok is = ap (λ (o : Option Call). option_map (λ (k : Call). k.op) o) same
    pending r out (inr both) kind own a kept ok is =
        absurd (none_given file m s c x (slot_of server.slots c) r run
        (subst (RequestIs file m s (slot_of server.slots c) c x) out w.request) both.0
        (no_get r out both.0) kind own a kept ok is)

    by_turn : (d : Done) → Turned x d → y ≡ d.client → Agrees y (asked t y d.requests)
    by_turn d (NothingAsked nothing out next before) same =
        let as_before : (r : Request) → x.outstanding ≡ Some r → IsAsBefore x.call y.call =
        λ r is. subst (λ (z : Client). IsAsBefore x.call z.call) (sym same) (before r is) in
        subst (λ (rs : List Request). Agrees y (asked t y rs)) (sym nothing)
        (agree_stays file m s t c x y (as_stayed c s t stays) server server refl
        (ap (λ (z : Client). z.outstanding) same ∙ out) (ap (λ (z : Client). z.next) same ∙ next) as_before
        (λ r is. pending r is (as_before r is)) w)
    by_turn d (OneAsked r one_ out none_ numbers next) same =
        let rests : RequestIs file m t (slot_of server.slots c) c x None =
        subst (RequestIs file m t (slot_of server.slots c) c x) none_
        (agrees_on x s t stays w).request in
        let out_y : y.outstanding ≡ Some r = ap (λ (z : Client). z.outstanding) same ∙ out in
        subst (λ (rs : List Request). Agrees y (asked t y rs)) (sym one_)
        (one s t x y x.next d rests (agrees_on x s t stays w).sequence (agrees_on x s t stays w).slot r out_y numbers
        (ap (λ (z : Client). z.next) same ∙ next) (well r out_y numbers))

    pub asks_kept : Agrees y (after_all s (joined (table.at_first s file c x i
        ∷ table.at_end (first s x i) file c (op_in x i) (step x i))))
    asks_kept =
        let h : HasTurned x (step x i) = step_turned x i none fresh in
        subst (Agrees y) (sym (whole s x i))
        (subst (λ (os : List Outgoing). Agrees y (behind t y os)) (sym h.sends)
        (agrees_on y (asked t y h.done.requests) (behind t y (sends_of h.done))
        (sends_stay t y h.done.recalls h.done.requests h.done.commands) (by_turn h.done h.turned h.client)))

  -- ---- an answer is taken

  module _ (s : State) (x : Client) (from : Node) (b : Message) (a : Answer) (is : takes x from b ≡ Some (TakesAnswer a))
      (w : Agrees x s)
      (served : (r : Request) → x.outstanding ≡ Some r → last_of (slot_of server.slots c) ≡ r.sequence)
      (well : (r : Request) → (step x (Hears from b)).client.outstanding ≡ Some r → r.sequence ≡ x.next
      → AsksWell file (ended s x (Hears from b)) c (step x (Hears from b)).client r) where
    abbrev j : Input
    j = Hears from b

    abbrev u : State
    u = ended s x j

    abbrev z : Client
    z = (step x j).client

    taken : HasRested c s (first s x j)
    taken =
        let r : (q : Request) × (x.outstanding ≡ Some q) = answered_one x from b a is in
        let w_r : IsOutstanding file m s (slot_of server.slots c) c x r.0 =
        subst (RequestIs file m s (slot_of server.slots c) c x) r.1 w.request in
        subst (λ (o : Option Taken). HasRested c s (after_all s (table.taken s file c x o))) (sym is)
        (subst (λ (o : Option Request). HasRested c s (after_all s (table.answered s file c x a o))) (sym r.1)
        (answer_taken_rests file m s c x (slot_of server.slots c) r.0 w.slot (served r.0 r.1) w_r a))

    k : AskingStays (first s x j) u
    k = ended_stays s x j

    rests : AwaitsNothing u c
    rests = record {
      waiting = ap (λ (f : ℕ → Bool). f c) k.waiting ∙ taken.rests.waiting;
      away = ap (λ (f : ℕ → Bool). f c) k.away ∙ taken.rests.away;
      served = ap (λ (f : ℕ → ℕ). f c) k.slot ∙ taken.rests.served ∙ sym (ap (λ (f : ℕ → ℕ). f c) k.sequence);
    }

    sequence : u.sequence c ≡ last_before x.next
    sequence = ap (λ (f : ℕ → ℕ). f c) k.sequence ∙ taken.sequence ∙ w.sequence

    slot : u.slot c ≡ last_of (slot_of server.slots c)
    slot = ap (λ (f : ℕ → ℕ). f c) k.slot ∙ taken.slot ∙ w.slot

    by_done : (d : Done) → Turned (freed x a) d → z ≡ d.client → Agrees z (asked u z d.requests)
    by_done d (NothingAsked nothing out next before) same =
        subst (λ (rs : List Request). Agrees z (asked u z rs)) (sym nothing)
        (none s u x z x.next d rests sequence slot (ap (λ (v : Client). v.outstanding) same ∙ out)
        (ap (λ (v : Client). v.next) same ∙ next))
    by_done d (OneAsked r one_ out none_ numbers next) same =
        let out_z : z.outstanding ≡ Some r = ap (λ (v : Client). v.outstanding) same ∙ out in
        subst (λ (rs : List Request). Agrees z (asked u z rs)) (sym one_)
        (one s u x z x.next d rests sequence slot r out_z numbers (ap (λ (v : Client). v.next) same ∙ next)
        (well r out_z numbers))

    pub answer_kept : Agrees z (after_all s (joined (table.at_first s file c x j
        ∷ table.at_end (first s x j) file c (op_in x j) (step x j))))
    answer_kept =
        let h : HasTurned (freed x a) (step x j) = answer_turned x a from b is in
        subst (Agrees z) (sym (whole s x j))
        (subst (λ (os : List Outgoing). Agrees z (behind u z os)) (sym h.sends)
        (agrees_on z (asked u z h.done.requests) (behind u z (sends_of h.done))
        (sends_stay u z h.done.recalls h.done.requests h.done.commands) (by_done h.done h.turned h.client)))
