-- The server's part in the steps of a call up to its grant: what it does with a LAYOUTGET and with a return.
use Rattle.std.proofs.Common.{◌≡◌, ◌≢◌, ◌≤◌, ◌<◌, ◌+◌, ◌-◌, ◌*◌, ◌/◌, ◌||◌, ℕ, zero, suc, Bool, true, false, true≢false, nat_lt, List, [], ◌∷◌, ◌++◌, Option, Some, None, inl, inr, refl, sym, ap, subst, ◌∙◌, ne_eqb, arith, if◌then◌else◌}
use Rattle.std.specs.List.{list_any, range_with_len}
use Rattle.std.proofs.lemmas.Bool.{cases_eq, eq-eqb}
use Rattle.std.proofs.lemmas.Nat.{le-div}
use Rattle.std.proofs.Math.Nat.{div-mul-le_self, mul-le-mul_right}
use Rattle.data_map.specs.declared.check.RawMap.{RawMap}
use Rattle.data_map.specs.Check.{IsChecked}
use Rattle.data_map.specs.Striping.{stripe_length}
use Rattle.data_map.proofs.Shape.{some_stripe}
use Rattle.scenario_text.specs.declared.names.TheConstants.{CLIENTS}
use Rattle.scenario_text.specs.declared.line.Line.{Line}
use Rattle.stripe_plan.specs.Lost.{is_short}
use Rattle.stripe_plan.specs.declared.plan.Span.{Span}
use Rattle.stripe_plan.specs.Touched.{stripes}
use Rattle.server_rules.specs.Files.{file_at}
use Rattle.server_rules.specs.Get.{lacked}
use Rattle.server_rules.specs.Grants.{asked, grant_of, against}
use Rattle.server_rules.specs.Laws.{In}
use Rattle.server_rules.specs.Slots.{New, admit, slot_of}
use Rattle.server_rules.specs.Standing.{lacked_from}
use Rattle.client_rules.specs.Calls.{span_of, is_write}
use Rattle.client_rules.specs.Grants.{clipped}
use Rattle.client_rules.specs.Requests.{get_args, return_args, asked_span}
use Rattle.client_rules.specs.Steps.{writes_nothing}
use Rattle.world_history.specs.ClientNames.{Phase, Request}
use Rattle.world_history.specs.ServerNames.{File, Grant}
use Rattle.world_history.specs.declared.messages.Message.{Message}
use Rattle.world_history.specs.State.{World, ClientAt, at_number}
use Rattle.world_history.specs.Moves.{Action, Delivers, acts}
use Rattle.world_history.specs.Sending.{Move, move}
use Rattle.history_law.specs.BookMoments.{lines_in}
use Rattle.exchange_law.specs.InStep.{state_of}
use Rattle.exchange_law.proofs.Admitting.{is_next}
use Rattle.exchange_law.proofs.Covered.{inside_limit}
use Rattle.exchange_law.proofs.HeldWorlds.{reached, readable_there}
use Rattle.cause_law.proofs.Sends.{answer_message as pending_answer, outstanding_of}
use Rattle.ready_law.specs.Answered.{ends_call}
use Rattle.ready_law.specs.Enough.{AreMissingAmong}
use Rattle.ready_law.specs.Ready.{has_failed}
use Rattle.ready_law.proofs.Calls.{ReadyCall, scene_at, op_at, file_at_call, kept_at, wanted_at, lost_at, queue_at, IsIn, DeliversHead, request_message}
use Rattle.ready_law.proofs.Lacking.{lost_are_listed, none_is_lacked}
use Rattle.ready_law.proofs.Stages.{Caller, Serves, IsAsked, IsAnsweredBy}
use Rattle.ready_law.proofs.ServingForms.{RequestLaws, Comes, Carried, recall_messages, Serves as IsServed}
use Rattle.ready_law.proofs.ServingGets.{asked_now, CanAsk, given, held_off, get_gives, get_recalls}
use Rattle.ready_law.proofs.ServingGrants.{against_again}
use Rattle.ready_law.proofs.ServingReturns.{given_back, return_clean}
use Rattle.ready_law.proofs.AskingForms.{AskingLaws}
use Rattle.ready_law.proofs.AskingFrames.{IsKept, delivery_silent}

pub request_laws : AskingLaws → RequestLaws
request_laws laws = record {
  low = laws.low;
  counted = laws.counted;
  in_step = laws.in_step;
  safe = laws.safe;
  more = laws.more;
}

-- ---- stripes

in_run : (a n x : ℕ) → a ≤ x → x < a + n → In x (range_with_len a n)
in_run a zero x low less = absurd (omega (arith, low, less))
in_run a (suc n) x low less = elim (cases_eq x a) [
  | inl e ↦ inl e
  | inr other ↦ inr (in_run (a + 1) n x (omega (arith, low, other)) (omega (arith, less)))
]

-- a stripe that begins before the range's end, and doesn't end before its begin, is touched
in_stripes : (m : RawMap) (r : Span) (n : ℕ) → 0 < stripe_length m → r.length ≢ 0 → r.offset / stripe_length m ≤ n
    → n < (r.offset + r.length + (stripe_length m - 1)) / stripe_length m → In n (stripes m r)
unfolding stripes
in_stripes m r n some long low less =
    let l : ℕ = stripe_length m in
    let x : ℕ = r.offset + r.length in
    let q : ℕ = (x + (l - 1)) / l in
    let below : (n + 1) * l ≤ q * l = mul-le-mul_right l (omega (arith, less)) in
    let last : n ≤ (x - 1) / l =
    le-div n (x - 1) l some (omega (arith, below, div-mul-le_self (x + (l - 1)) l, some, long)) in
    rw (ne_eqb r.length 0 long) (in_run _ _ n low (omega (arith, last, low)))

-- In the move a message of the event comes to the server, which has these grants on the call's file.
pub record Arrives (s : ReadyCall) (w : World) (m : Move) (x : Message) (rest : List Message) (grants : List Grant) : Type 0
  where
    pub history : List Line
    pub within : IsIn s w history
    pub head : DeliversHead s w m x rest
    pub server : Serves s w grants (kept_at s).size

module _ (laws : AskingLaws) {s : ReadyCall} {w : World} {m : Move} {x : Message} {rest : List Message} {grants : List Grant}
    (t : Arrives s w m x rest grants) where
  abbrev h : List Line
  h = t.history

  abbrev k : IsIn s w t.history
  k = t.within

  abbrev d : DeliversHead s w m x rest
  d = t.head

  abbrev server : Serves s w grants (kept_at s).size
  server = t.server

  -- the call's file as the server has it
  abbrev pub file_now : File
  file_now = record s.ready.file { kept = record (kept_at s) { grants = grants; high = server.high } }

  abbrev v : World
  v = (move w m).world

  -- ---- a request that comes

  -- request q is new to the server, and its client awaits the answer
  pub record IsSent (q : Request) : Type 0 where
    pub message : x ≡ request_message q
    pub file_is : q.file ≡ file_at_call s
    pub outstanding : outstanding_of w q.client ≡ Some q
    pub new : admit (slot_of w.server.slots q.client) q.sequence ≡ New

  -- so it is of the call's own
  pub own_sent : (p : Phase) (q : Request) → Caller s w p (Some q) → IsAsked s w q → x ≡ request_message q → IsSent q
  own_sent p q caller is message = record {
    message = message;
    file_is = is.file_is;
    outstanding =
        ap (λ (c : ℕ). outstanding_of w c) is.client_is
        ∙ ap (λ (o : Option ClientAt). (state_of s.client o).outstanding) caller.there ∙ caller.outstanding;
    new = ap (λ (c : ℕ). admit (slot_of w.server.slots c) q.sequence) is.client_is ∙ is.new;
  }

  pub comes : (q : Request) → IsSent q → Comes w q.client q file_now d.number
  comes q is = record {
    posted = d.posted_as;
    found = d.found;
    message = d.message_is ∙ is.message;
    outstanding = is.outstanding;
    next = sym (is_next (slot_of w.server.slots q.client) q.sequence is.new).next;
    up = server.up;
    file = ap (file_at w.server.files) is.file_is ∙ server.found;
  }

  -- it is carried out so in the move
  abbrev pub IsDone : Request → Carried → Type 0
  IsDone q c = IsServed w q.client q d.number c (acts w m.chosen m.action)

  done_here : (q : Request) (c : Carried) → IsServed w q.client q d.number c (acts w m.chosen (Delivers d.number))
      → IsDone q c
  done_here q c is = subst (λ (a : Action). IsServed w q.client q d.number c (acts w m.chosen a)) (sym d.action_is) is

  -- ---- what it leaves

  module _ (q : Request) (c : Carried) (is : IsSent q) (done : IsDone q c) where
    pub served_silent : (e : ℕ) → list_any (ends_call e) (lines_in w m) ≡ false
    served_silent e = delivery_silent w m e d.number _ done.notes d.action_is done.told

    pub served_queue : queue_at s v
        ≡ rest ++ (recall_messages w.server.next_recall c.recalled ++ pending_answer q.client c.answer ∷ [])
    served_queue = d.queue_is ∙ ap (λ (ms : List Message). rest ++ ms) done.posts

    pub served_others : (e : ℕ) → e ≢ q.client → IsKept w v e
    served_others e other = record {
      client = ap (λ (xs : List (ℕ × ClientAt)). at_number xs e) done.clients;
      slot = done.slots e other;
    }

    pub served_client : (e : ℕ) → at_number v.clients e ≡ at_number w.clients e
    served_client e = ap (λ (xs : List (ℕ × ClientAt)). at_number xs e) done.clients

    pub served_answer : q.client ≡ s.client → c.answer.client ≡ q.client → c.answer.sequence ≡ q.sequence
        → IsAnsweredBy s v q c.answer
    served_answer own client sequence = record {
      client_is = client ∙ own;
      sequence = sequence;
      slot = record { client = q.client; last = q.sequence; kept = c.answer };
      slot_is = ap (slot_of v.server.slots) (sym own) ∙ done.slot;
      kept = refl;
      last = refl;
    }

    abbrev pub served_file : (gs : List Grant) (high : ℕ)
        → c.left ≡ record s.ready.file { kept = record (kept_at s) { grants = gs; high = high } }
        → Serves s v gs (kept_at s).size
    served_file gs high left = record {
      clock = done.clock ∙ server.clock;
      up = done.down ∙ server.up;
      high = high;
      found = ap (file_at v.server.files) (sym is.file_is) ∙ done.file ∙ ap (λ (f : File). Some f) left;
    }

  -- ---- a return

  pub return_done : (q : Request) → IsSent q → (number : ℕ) → q.args ≡ return_args number [] → (g : Grant)
      → grant_of grants q.client ≡ Some g → IsDone q (given_back q.client q file_now)
  return_done q is number args g has =
      done_here q (given_back q.client q file_now)
      (return_clean (request_laws laws) w h k.fair m.chosen d.number q.client q file_now (comes q is) number args g has)

  -- ---- a LAYOUTGET

  -- the client has no grant, and the call isn't covered
  pub record IsGet (q : Request) : Type 0 where
    pub sent : IsSent q
    pub client_is : q.client ≡ s.client
    pub args_are : q.args ≡ get_args (op_at s)
    pub named : s.client < CLIENTS
    pub own : grant_of grants s.client ≡ None
    pub unspent : s.ready.file.spent ≡ false
    pub some : writes_nothing (op_at s) ≡ false

  module _ (q : Request) (get : IsGet q) where
    checked : IsChecked (kept_at s).map
    checked = ((readable_there w h k.fair.moment k.fair.readable).files (file_at_call s) file_now server.found).map

    missing : AreMissingAmong (kept_at s).components (lost_at s)
    missing j at found gone =
        lost_are_listed (scene_at s) (kept_at s) j at found
        (ap (λ (b : Bool). b || has_failed (at_number s.world.drives at.drive)) gone)

    -- the stripes of the grant are those that a write touches
    enough_there : is_write (op_at s) ≡ true → (n : ℕ)
        → (asked_span (op_at s)).offset / stripe_length (kept_at s).map ≤ n
        → n < ((asked_span (op_at s)).offset + (asked_span (op_at s)).length + (stripe_length (kept_at s).map - 1))
        / stripe_length (kept_at s).map
        → is_short (kept_at s).map (lost_at s) n ≡ false
    enough_there writes n low less =
        let r : Span = span_of (op_at s) in
        let inside = inside_limit (op_at s) s.ready.range in
        let long : r.length ≢ 0 =
        λ none. absurd (true≢false (sym (rw (writes, eq-eqb r.length 0 none) refl) ∙ get.some)) in
        let same : (asked_span (op_at s)).offset ≡ r.offset = omega (arith, inside, long) in
        let as_long : (asked_span (op_at s)).length ≡ r.length = omega (arith, long) in
        s.ready.enough n (subst (λ (b : Bool). In n (stripes (kept_at s).map (if b then r else
        clipped (kept_at s).size r))) (sym writes)
        (in_stripes (kept_at s).map r n (some_stripe (kept_at s).map checked) long
        (subst (λ (o : ℕ). o / stripe_length (kept_at s).map ≤ n) same low)
        (subst (λ (o : ℕ). n < (o + r.length + (stripe_length (kept_at s).map - 1)) / stripe_length (kept_at s).map) same
        (subst (λ (l : ℕ). n < ((asked_span (op_at s)).offset + l + (stripe_length (kept_at s).map - 1))
        / stripe_length (kept_at s).map) as_long less))))

    none_lacks : lacked file_now.kept (asked_now w file_now.kept s.client (op_at s)) ≡ None
    unfolding asked
    none_lacks = by (is_write (op_at s)) refl
      where
        by : (b : Bool) → is_write (op_at s) ≡ b
            → (if b then lacked_from (kept_at s).map (kept_at s).components
            ((asked_span (op_at s)).offset / stripe_length (kept_at s).map)
            (((asked_span (op_at s)).offset + (asked_span (op_at s)).length + (stripe_length (kept_at s).map - 1))
            / stripe_length (kept_at s).map) (kept_at s).components 0 else None) ≡ None
        by true writes =
            none_is_lacked (kept_at s).map (kept_at s).components (lost_at s) _ _ checked
            (laws.shapes w (reached w h k.fair.moment) (file_at_call s) file_now server.found).components missing
            (enough_there writes)
        by false reads = refl

    can_ask : CanAsk w file_now q.client (op_at s)
    can_ask = record {
      range = s.ready.range;
      quiet = s.ready.quiet;
      unspent = get.unspent;
      own = ap (grant_of grants) get.client_is ∙ get.own;
      enough =
          ap (λ (n : ℕ). lacked file_now.kept (asked_now w file_now.kept n (op_at s))) get.client_is ∙ none_lacks;
    }

    -- the grant that it asks for now
    abbrev pub wanted_now : Grant
    wanted_now = asked_now w file_now.kept q.client (op_at s)

    pub lacks_now : lacked file_now.kept wanted_now ≡ None
    lacks_now = can_ask.enough

    pub against_now : against grants wanted_now ≡ against grants (wanted_at s)
    against_now =
        ap (λ (n : ℕ). against grants (asked_now w file_now.kept n (op_at s))) get.client_is
        ∙ against_again grants (kept_at s) file_now.kept s.world.server.next_grant w.server.next_grant s.client
        s.world.clock w.clock (op_at s) refl refl

    pub get_given : against grants (wanted_at s) ≡ [] → IsDone q (given w q.client q file_now wanted_now)
    get_given none =
        done_here q (given w q.client q file_now wanted_now)
        (get_gives (request_laws laws) w h k.fair m.chosen d.number q.client q file_now (comes q get.sent)
        (subst (λ (n : ℕ). n < CLIENTS) (sym get.client_is) get.named) (op_at s) get.args_are can_ask
        (against_now ∙ none))

    pub get_refused : (first : Grant) (others : List Grant) → against grants (wanted_at s) ≡ first ∷ others
        → ((g : Grant) → In g (first ∷ others) → nat_lt g.expiry w.clock ≡ false)
        → IsDone q (held_off q.client q file_now first.client (first ∷ others))
    get_refused first others are unexpired =
        done_here q (held_off q.client q file_now first.client (first ∷ others))
        (get_recalls (request_laws laws) w h k.fair m.chosen d.number q.client q file_now (comes q get.sent)
        (subst (λ (n : ℕ). n < CLIENTS) (sym get.client_is) get.named) (op_at s) get.args_are can_ask first others
        (against_now ∙ are) unexpired)
