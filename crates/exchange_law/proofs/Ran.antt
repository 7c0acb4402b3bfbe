-- What a client took and sent so far: no grant twice, and no nonce twice.
use Rattle.std.proofs.Common.{◌≡◌, ◌≢◌, ◌⊎◌, ℕ, suc, ◌+◌, ◌≤◌, ◌<◌, ◌^◌, Bool, List, [], ◌∷◌, ◌++◌, Option, Some, None, filter, length, refl, sym, ap, subst, ◌∙◌, arith, inl, inr}
use Rattle.std.proofs.lemmas.List.{append-nil, length-append}
use Rattle.osd_lists.specs.declared.node.Node.TheVariants as node
use Rattle.server_rules.specs.Laws.{In, last_of}
use Rattle.world_history.specs.ServerNames.{Server}
use Rattle.server_rules.specs.Slots.{slot_of}
use Rattle.server_rules.proofs.Members.{in_front, in_behind, in_either}
use Rattle.client_rules.specs.declared.limits.TheConstants.{NONCES}
use Rattle.client_rules.specs.Messages.{Taken, TakesAnswer, takes, awaited_of}
use Rattle.client_rules.specs.Steps.{new_client}
use Rattle.client_rules.specs.History.{Input, Calls, Hears, TimesOut, Leaves, Resends, step}
use Rattle.history_law.specs.Said.{posted}
use Rattle.exchange_law.specs.ClientNonces.{nonces_in, nonces_at, granted, grants_at, AllDiffer}
use Rattle.exchange_law.specs.Requests.{outstanding_at, left_by, OneRequest}
use Rattle.exchange_law.proofs.Rising.{Each, each_more, each_map, IsAmong, among_more, rising_differ}
use Rattle.exchange_law.proofs.ClientKeeping.{IsKeeping}
use Rattle.exchange_law.proofs.Numbers.{step_counts, new_keeping}
use Rattle.history_law.specs.State.{Client, Awaited, Outgoing, ToDrive, Request, Command}
use Rattle.history_law.proofs.KnownGoing.{ClientKnown, SendsKnown}
use Rattle.history_law.proofs.KnownSteps.{step_known}
use Rattle.scenario_text.specs.declared.line.Line.{Line}
use Rattle.world_history.specs.declared.messages.Body.TheVariants.{Command as OfCommand}
use Rattle.world_history.specs.declared.messages.Message.{Message}
use Rattle.world_history.specs.State.{World}
use Rattle.world_history.specs.Handed.{Post, is_addressed, client_posts}
use Rattle.exchange_law.specs.Messages.{last_before}
use Rattle.exchange_law.specs.InStep.{IsAwaiting, StandsAt, IsInStep}
use Rattle.exchange_law.proofs.Turning.{sent_by, ComesTo}
use Rattle.exchange_law.proofs.AwaitsSteps.{step_awaits}
use Rattle.exchange_law.proofs.Gives.{last_in}
use Rattle.exchange_law.proofs.RefusalGiven.{WasSent, AreOrdered}
use Rattle.exchange_law.proofs.Owning.{AreOwn}
use Rattle.exchange_law.proofs.RefusalSending.{command_of, among_sent, none_among, one_sent, fewer_nonces, command_posted, posts_command, all_addressed, length_posts, IsOf, resent_awaited}
use Rattle.exchange_law.proofs.Taking.{TakesGrant, new_grants, answered_low, answered_near, later_request}
use Rattle.exchange_law.proofs.CountNear.{IsNear, input_near}
use Rattle.exchange_law.proofs.Had.{none_more}

-- a grant that the client took was given in the answer to an earlier request than the outstanding one
pub record WasTaken (w : World) (c : ℕ) (x : Client) (n : ℕ) : Type 0 where
  pub sequence : ℕ
  pub sent : WasSent w c sequence n
  pub over : (r : Request) → x.outstanding ≡ Some r → sequence < r.sequence

-- The grants that the client took, and the nonces of its commands, which are among its messages. No two commands have
-- one nonce, and what it awaits was sent.
pub record HasRun (w : World) (c : ℕ) (x : Client) : Type 0 where
  pub before : List ℕ
  pub xs : List ℕ
  pub keeping : length xs < NONCES → IsKeeping x.held before xs
  pub differ : AllDiffer before
  pub taken : Each (WasTaken w c x) before
  pub known : ClientKnown IsNear x
  pub sent : (m : Message) → In m (sent_by w) → m.from ≡ node.Client c → (y : Command) → m.body ≡ OfCommand y →
      IsAmong y.nonce xs
  pub unique : (m n : Message) → In m (sent_by w) → In n (sent_by w) → m.from ≡ node.Client c → n.from ≡ node.Client c →
      (y z : Command) → m.body ≡ OfCommand y → n.body ≡ OfCommand z → y.nonce ≡ z.nonce → m ≡ n
  pub awaited : (a : Awaited) → In a (awaited_of x.call) → In (command_of c a.drive a.command) (sent_by w)
  pub few : length xs ≤ length (sent_by w)

-- ---- lists

differ_last : (xs : List ℕ) (n : ℕ) → AllDiffer xs → Each (λ x. x ≢ n) xs → AllDiffer (xs ++ n ∷ [])
differ_last [] n a e = (tt, tt)
differ_last (x ∷ xs) n a e = (none_more x xs (n ∷ []) a.0 (e.0, tt), differ_last xs n a.1 e.1)

differ_front : (xs ys : List ℕ) → AllDiffer (xs ++ ys) → AllDiffer ys
differ_front [] ys a = a
differ_front (x ∷ xs) ys a = differ_front xs ys a.1

-- none of the first is among the others
apart : (xs ys : List ℕ) (x : ℕ) → AllDiffer (xs ++ ys) → IsAmong x xs → IsAmong x ys → ⊥
apart [] ys x a i j = i
apart (z ∷ xs) ys x a (inl e) j = none_among z (xs ++ ys) a.0 (behind xs (subst (λ (n : ℕ). IsAmong n ys) e j))
  where
    behind : (zs : List ℕ) → IsAmong z ys → IsAmong z (zs ++ ys)
    behind [] k = k
    behind (y ∷ zs) k = inr (behind zs k)
apart (z ∷ xs) ys x a (inr i) j = apart xs ys x a.1 i j

among_behind : (x : ℕ) (xs ys : List ℕ) → IsAmong x ys → IsAmong x (xs ++ ys)
among_behind x [] ys i = i
among_behind x (y ∷ xs) ys i = inr (among_behind x xs ys i)

-- ---- messages stay

pub still_sent : (w v : World) (ps : List Message) → sent_by v ≡ sent_by w ++ ps → (m : Message) → In m (sent_by w)
    → In m (sent_by v)
still_sent w v ps is m i = subst (In m) (sym is) (in_front m (sent_by w) ps i)

sent_on : (w v : World) (ps : List Message) → sent_by v ≡ sent_by w ++ ps → (c q n : ℕ) → WasSent w c q n
    → WasSent v c q n
sent_on w v ps is c q n s = record {
  message = s.message;
  there = still_sent w v ps is s.message s.there;
  sender = s.sender;
  receiver = s.receiver;
  answer = s.answer;
  body = s.body;
  sequence = s.sequence;
  gives = s.gives;
}

-- a client that does nothing, where no message of it is sent
pub run_on : (w v : World) (ps : List Message) → sent_by v ≡ sent_by w ++ ps → (c : ℕ) (x : Client)
    → ((m : Message) → In m ps → m.from ≡ node.Client c → ⊥) → HasRun w c x → HasRun v c x
run_on w v ps is c x none k = record {
  before = k.before;
  xs = k.xs;
  keeping = k.keeping;
  differ = k.differ;
  taken = each_map (WasTaken w c x) (WasTaken v c x)
      (λ n t. record { sequence = t.sequence; sent = sent_on w v ps is c t.sequence n t.sent; over = t.over }) k.before
      k.taken;
  known = k.known;
  sent = λ m i from y body. k.sent m (old m i from) from y body;
  unique = λ m n i j from too y z body other same. k.unique m n (old m i from)
      (old n j too) from too y z body other same;
  awaited = λ a i. still_sent w v ps is (command_of c a.drive a.command) (k.awaited a i);
  few =
      let longer : length (sent_by v) ≡ length (sent_by w) + length ps =
      ap (λ (l : List Message). length l) is ∙ length-append (sent_by w) ps in
      omega (arith, k.few, longer);
}
  where
    old : (m : Message) → In m (sent_by v) → m.from ≡ node.Client c → In m (sent_by w)
    old m i from = elim (in_either m (sent_by w) ps (subst (In m) is i)) [ inl o ↦ o | inr n ↦ absurd (none m n from) ]

-- one that is new, of which there is no message
pub new_run : (w : World) (c : ℕ) → ((m : Message) → In m (sent_by w) → m.from ≡ node.Client c → ⊥)
    → HasRun w c (new_client c 1)
new_run w c none = record {
  before = [];
  xs = [];
  keeping = λ l. new_keeping;
  differ = tt;
  taken = tt;
  known = record { helds = tt; call = tt };
  sent = λ m i from y body. absurd (none m i from);
  unique = λ m n i j from too y z body other same. absurd (none m i from);
  awaited = λ a i. absurd i;
  few = omega arith;
}

-- ---- a step

-- what a client's step does with its messages
pub record StepSends (w v : World) (c : ℕ) (os : List Outgoing) : Type 0 where
  pub wrote : Bool
  pub logged : ℕ
  pub is : sent_by v ≡ sent_by w ++ posted (filter is_addressed (client_posts c wrote logged os))

module _ (one : OneRequest) (w v : World) (h after : List Line) (o : AreOrdered w) (own : AreOwn w h) (c : ℕ)
    (x : Client) (i : Input) (s : IsInStep w h c x) (t : IsInStep v after c (step x i).client)
    (same : v.server ≡ w.server) (comes : ComesTo w c i) (k : HasRun w c x) (few : length (sent_by v) < 2 ^ 31)
    (sends : StepSends w v c (step x i).sends) where
  abbrev y : Client
  y = (step x i).client

  abbrev last : ℕ
  last = last_in w.server.slots c

  -- ---- requests

  served : (l : ℕ) (r : Request) → IsAwaiting after c (slot_of v.server.slots c) l r
      → (last + 1 ≡ r.sequence) ⊎ (last ≡ r.sequence)
  served l r a =
      let here : last_in v.server.slots c ≡ last = ap (λ (z : Server). last_in z.slots c) same in
      elim a.served [
        | inl next ↦ inl (ap (λ (n : ℕ). n + 1) (sym here) ∙ next)
        | inr done ↦ inr (sym here ∙ ap last_of done.kept ∙ done.last)
      ]

  -- whatever was answered so far is over once a request goes out
  new_over : (r : Request) → y.outstanding ≡ Some r → r.sequence ≡ x.next → (q : ℕ) → q ≤ last → q < r.sequence
  new_over r out is q low =
      let a : IsAwaiting after c (slot_of v.server.slots c) (last_before y.next) r =
      subst (StandsAt after c (slot_of v.server.slots c) (last_before y.next)) out t.stands in
      let less : last < r.sequence =
      later_request last x.next r.sequence (answered_low w h o own c x s) (answered_near w h o own c x s) is
      (served (last_before y.next) r a) in
      omega (arith, low, less)

  -- so is what was answered before, unless it is over already
  over_on : (q : ℕ) → q ≤ last → ((r : Request) → outstanding_at x i ≡ Some r → q < r.sequence) → (r : Request)
      → y.outstanding ≡ Some r → q < r.sequence
  over_on q low over r out = elim (one x i) [
    | inl (none, stays) ↦ over r (sym stays ∙ out)
    | inr (free, new, list, is, number) ↦
        let it : new ≡ r = cc (sym is ∙ out) in
        new_over r out (ap (λ (z : Request). z.sequence) (sym it) ∙ number) q low
  ]

  left_over : (q : ℕ) (z : Option Taken) → ((r : Request) → x.outstanding ≡ Some r → q < r.sequence) → (r : Request)
      → left_by z x.outstanding ≡ Some r → q < r.sequence
  left_over q (Some (TakesAnswer a)) over r out = absurd (cc out)
  left_over q z over r out = over r out

  still_over : (j : Input) → (q : ℕ) → ((r : Request) → x.outstanding ≡ Some r → q < r.sequence) → (r : Request)
      → outstanding_at x j ≡ Some r → q < r.sequence
  still_over (Hears from m) q over r out = left_over q (takes x from m) over r out
  still_over (Calls op) q over r out = over r out
  still_over (TimesOut n) q over r out = over r out
  still_over Leaves q over r out = over r out
  still_over Resends q over r out = over r out

  taken_on : (n : ℕ) → WasTaken w c x n → WasTaken v c y n
  taken_on n a =
      let low : a.sequence ≤ last = o.lasts c a.sequence n (inr a.sent) in
      record {
        sequence = a.sequence;
        sent = sent_on w v _ sends.is c a.sequence n a.sent;
        over = over_on a.sequence low (still_over i a.sequence a.over);
      }

  -- ---- grants

  grants_new : (j : Input) → ComesTo w c j
      → (grants_at x j ≡ []) ⊎ ((n : ℕ) × (grants_at x j ≡ n ∷ []) × TakesGrant w c x n)
  grants_new (Hears from m) z = new_grants w h o own c x s from m z.0 z.1 z.2 (takes x from m) refl
  grants_new (Calls op) z = inl refl
  grants_new (TimesOut n) z = inl refl
  grants_new Leaves z = inl refl
  grants_new Resends z = inl refl

  granted_left : (n : ℕ) (z : Option Taken) (r : Option Request) → granted z ≡ n ∷ [] → left_by z r ≡ None
  granted_left n (Some (TakesAnswer a)) r e = refl
  granted_left n z r e = absurd (cc e)

  granted_out : (n : ℕ) (j : Input) → grants_at x j ≡ n ∷ [] → outstanding_at x j ≡ None
  granted_out n (Hears from m) e = granted_left n (takes x from m) x.outstanding e
  granted_out n j e = absurd (cc e)

  differs : AllDiffer (k.before ++ grants_at x i)
  differs = elim (grants_new i comes) [
    | inl none ↦
        subst (λ (ns : List ℕ). AllDiffer (k.before ++ ns)) (sym none) (subst AllDiffer (sym
        (append-nil k.before)) k.differ)
    | inr (n, is, g) ↦
        subst (λ (ns : List ℕ). AllDiffer (k.before ++ ns)) (sym is)
        (differ_last k.before n k.differ (each_map (WasTaken w c x) (λ p. p ≢ n) (λ p a.
        let less : a.sequence < g.sequence = omega (arith, a.over g.request g.outstanding, g.same) in
        let lower : p < n = o.order c a.sequence p g.sequence n (inr a.sent) (inr g.sent) less in
        λ e. omega (arith, lower, e)) k.before k.taken))
  ]

  takes_on : Each (WasTaken v c y) (k.before ++ grants_at x i)
  takes_on =
      each_more (WasTaken v c y) k.before (grants_at x i)
      (each_map (WasTaken w c x) (WasTaken v c y) taken_on k.before k.taken) (elim (grants_new i comes) [
        | inl none ↦ subst (Each (WasTaken v c y)) (sym none) tt
        | inr (n, is, g) ↦
            let low : g.sequence ≤ last = o.lasts c g.sequence n (inr g.sent) in
            let all : WasTaken v c y n = record {
              sequence = g.sequence;
              sent = sent_on w v _ sends.is c g.sequence n g.sent;
              over =
                  over_on g.sequence low
                  (λ r out. absurd (cc (sym (granted_out n i is) ∙ out)));
            } in
            subst (Each (WasTaken v c y)) (sym is) (all, tt)
      ])

  -- ---- commands

  abbrev os : List Outgoing
  os = (step x i).sends

  near : SendsKnown IsNear os
  near = (step_known IsNear x i k.known (input_near i)).sends

  abbrev new : List Message
  new = posted (client_posts c sends.wrote sends.logged os)

  messages_are : sent_by v ≡ sent_by w ++ new
  messages_are =
      sends.is
      ∙ ap (λ (ps : List Post). sent_by w ++ posted ps) (all_addressed c sends.wrote sends.logged os near)

  length_posted : (ps : List Post) → length (posted ps) ≡ length ps
  length_posted [] = refl
  length_posted (p ∷ ps) = ap suc (length_posted ps)

  longer : length (sent_by v) ≡ length (sent_by w) + length os
  longer =
      ap (λ (l : List Message). length l) messages_are ∙ length-append (sent_by w) new
      ∙ ap (λ (n : ℕ). length (sent_by w) + n)
      (length_posted (client_posts c sends.wrote sends.logged os) ∙ length_posts c sends.wrote sends.logged os)

  nonces_few : (j : Input) → length (nonces_at x j) ≤ length (step x j).sends
  nonces_few Resends = omega arith
  nonces_few (Hears from m) = fewer_nonces (step x (Hears from m)).sends
  nonces_few (Calls op) = fewer_nonces (step x (Calls op)).sends
  nonces_few (TimesOut n) = fewer_nonces (step x (TimesOut n)).sends
  nonces_few Leaves = fewer_nonces (step x Leaves).sends

  abbrev all : List ℕ
  all = k.xs ++ nonces_at x i

  all_few : length all ≤ length (sent_by v)
  all_few = omega (arith, length-append k.xs (nonces_at x i), nonces_few i, longer, k.few)

  keeps : length all < NONCES → IsKeeping y.held (k.before ++ grants_at x i) all
  keeps = step_counts k.before k.xs x i differs k.keeping

  all_differ : AllDiffer all
  all_differ = rising_differ all (keeps (omega (arith, all_few, few))).rises

  -- what is sent is new, or was awaited
  among_new : (j : Input) (d : ℕ) (z : Command) → In (ToDrive d z) (step x j).sends
      → ((nonces_at x j ≡ nonces_in (step x j).sends) × IsAmong z.nonce (nonces_at x j)) ⊎ IsOf (awaited_of x.call) d z
  among_new Resends d z a = inr (resent_awaited x d z a)
  among_new (Hears from m) d z a = inl (refl, among_sent d z (step x (Hears from m)).sends a)
  among_new (Calls op) d z a = inl (refl, among_sent d z (step x (Calls op)).sends a)
  among_new (TimesOut n) d z a = inl (refl, among_sent d z (step x (TimesOut n)).sends a)
  among_new Leaves d z a = inl (refl, among_sent d z (step x Leaves).sends a)

  -- a command of the client was sent before, or is new
  record IsFresh (m : Message) (z : Command) : Type 0 where
    drive : ℕ
    there : In (ToDrive drive z) os
    is : m ≡ command_of c drive z
    nonces : nonces_at x i ≡ nonces_in os
    among : IsAmong z.nonce (nonces_at x i)

  where_from : (m : Message) (z : Command) → In m (sent_by v) → m.body ≡ OfCommand z → In m (sent_by w) ⊎ IsFresh m z
  where_from m z a body = elim (in_either m (sent_by w) new (subst (In m) messages_are a)) [
    | inl old ↦ inl old
    | inr b ↦
        let p = command_posted m c sends.wrote sends.logged os b z body in
        elim (among_new i p.0 z p.1) [
          | inl (nonces, among) ↦ inr (record {
            drive = p.0;
            there = p.1;
            is = p.2;
            nonces = nonces;
            among = among;
          })
          | inr of ↦
              inl (subst (λ (n : Message). In n (sent_by w))
              (ap (λ (d : ℕ). command_of c d of.awaited.command) of.drive ∙ ap (command_of c p.0) of.command ∙ sym p.2)
              (k.awaited of.awaited of.there))
        ]
  ]

  sent_all : (m : Message) → In m (sent_by v) → m.from ≡ node.Client c → (z : Command) → m.body ≡ OfCommand z
      → IsAmong z.nonce all
  sent_all m a from z body = elim (where_from m z a body) [
    | inl old ↦ among_more z.nonce k.xs (nonces_at x i) (k.sent m old from z body)
    | inr fresh ↦ among_behind z.nonce k.xs (nonces_at x i) fresh.among
  ]

  fresh_apart : (m n : Message) (z u : Command) → In m (sent_by w) → m.from ≡ node.Client c → m.body ≡ OfCommand z
      → IsFresh n u → z.nonce ≡ u.nonce → ⊥
  fresh_apart m n z u old from body fresh same =
      apart k.xs (nonces_at x i) z.nonce all_differ (k.sent m old from z body)
      (subst (λ (p : ℕ). IsAmong p (nonces_at x i)) (sym same) fresh.among)

  fresh_same : (m n : Message) (z u : Command) → IsFresh m z → IsFresh n u → z.nonce ≡ u.nonce → m ≡ n
  fresh_same m n z u a b same =
      let one_ : ToDrive a.drive z ≡ ToDrive b.drive u =
      one_sent os (subst AllDiffer a.nonces (differ_front k.xs (nonces_at x i) all_differ)) a.drive b.drive z u a.there
      b.there same in
      let drive : a.drive ≡ b.drive = cc one_ in
      let command : z ≡ u = cc one_ in
      a.is ∙ ap (λ (d : ℕ). command_of c d z) drive ∙ ap (command_of c b.drive) command ∙ sym b.is

  unique_all : (m n : Message) → In m (sent_by v) → In n (sent_by v) → m.from ≡ node.Client c → n.from ≡ node.Client c
      → (z u : Command) → m.body ≡ OfCommand z → n.body ≡ OfCommand u → z.nonce ≡ u.nonce → m ≡ n
  unique_all m n a b from too z u body other same = elim (where_from m z a body) [
    | inl old ↦ elim (where_from n u b other) [
      | inl before ↦ k.unique m n old before from too z u body other same
      | inr fresh ↦ absurd (fresh_apart m n z u old from body fresh same)
    ]
    | inr fresh ↦ elim (where_from n u b other) [
      | inl before ↦ absurd (fresh_apart n m u z before too other fresh (sym same))
      | inr second ↦ fresh_same m n z u fresh second same
    ]
  ]

  awaited_all : (a : Awaited) → In a (awaited_of y.call) → In (command_of c a.drive a.command) (sent_by v)
  awaited_all a j = elim ((step_awaits x i).each a j) [
    | inl old ↦ still_sent w v _ sends.is (command_of c a.drive a.command) (k.awaited a old)
    | inr sent ↦
        subst (In (command_of c a.drive a.command)) (sym messages_are)
        (in_behind (command_of c a.drive a.command) (sent_by w) new
        (posts_command c sends.wrote sends.logged os a.drive a.command sent))
  ]

  pub step_run : HasRun v c y
  step_run = record {
    before = k.before ++ grants_at x i;
    xs = all;
    keeping = keeps;
    differ = differs;
    taken = takes_on;
    known = (step_known IsNear x i k.known (input_near i)).client;
    sent = sent_all;
    unique = unique_all;
    awaited = awaited_all;
    few = all_few;
  }

  -- a command that is newly awaited has a nonce that none had before
  new_nonce : (j : Input) (a : Awaited) → In a (awaited_of (step x j).client.call)
      → In a (awaited_of x.call) ⊎ IsAmong a.command.nonce (nonces_at x j)
  new_nonce Resends a i = inl i
  new_nonce (Hears from m) a i = elim ((step_awaits x (Hears from m)).each a i) [
    | inl old ↦ inl old
    | inr sent ↦ inr (among_sent a.drive a.command (step x (Hears from m)).sends sent)
  ]
  new_nonce (Calls op) a i = elim ((step_awaits x (Calls op)).each a i) [
    | inl old ↦ inl old
    | inr sent ↦ inr (among_sent a.drive a.command (step x (Calls op)).sends sent)
  ]
  new_nonce (TimesOut n) a i = elim ((step_awaits x (TimesOut n)).each a i) [
    | inl old ↦ inl old
    | inr sent ↦ inr (among_sent a.drive a.command (step x (TimesOut n)).sends sent)
  ]
  new_nonce Leaves a i = elim ((step_awaits x Leaves).each a i) [
    | inl old ↦ inl old
    | inr sent ↦ inr (among_sent a.drive a.command (step x Leaves).sends sent)
  ]

  pub new_awaited : (a : Awaited) → In a (awaited_of y.call) → In a (awaited_of x.call)
      ⊎ ((z : Command) (m : Message) → In m (sent_by w) → m.from ≡ node.Client c → m.body ≡ OfCommand z
      → z.nonce ≡ a.command.nonce → ⊥)
  new_awaited a j = elim (new_nonce i a j) [
    | inl old ↦ inl old
    | inr among ↦
        inr (λ z m there from body same. apart k.xs (nonces_at x i) z.nonce all_differ (k.sent m there from z body)
        (subst (λ (p : ℕ). IsAmong p (nonces_at x i)) (sym same) among))
  ]
