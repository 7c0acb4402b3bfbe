-- What a move of one party leaves of the others, and what holds of the grants of a call's file.
use Rattle.std.proofs.Common.{◌≡◌, ◌≢◌, ◌≤◌, ◌+◌, ◌||◌, ◌&&◌, ℕ, nat_lt, Bool, true, false, true≢false, List, [], ◌∷◌, ◌++◌, length, filter, Option, Some, None, inl, inr, refl, sym, ap, ◌∙◌, arith, if◌then◌else◌, ◌⊎◌, ◌==◌, ne_eqb}
use Rattle.std.specs.List.{list_any, filter_map, cons_option}
use Rattle.std.proofs.lemmas.Bool.{cases_Bool, eq-eqb}
use Rattle.std.proofs.lemmas.List.{length-map}
use Rattle.scenario_text.specs.declared.names.TheConstants.{FILES}
use Rattle.scenario_text.specs.declared.line.Delivery.{Delivery}
use Rattle.scenario_text.specs.declared.line.Line.{Line}
use Rattle.scenario_text.specs.declared.line.Line.TheVariants as line
use Rattle.server_rules.specs.Files.{file_at}
use Rattle.server_rules.specs.Grants.{conflicts, against, asked, without, grant_of}
use Rattle.server_rules.specs.Laws.{In, Apart, IsSafe}
use Rattle.server_rules.specs.Slots.{admit, slot_of}
use Rattle.server_rules.proofs.FileLaws.{safe_at, file_in}
use Rattle.server_rules.proofs.Members.{in_behind, in_filtered}
use Rattle.client_rules.specs.Grants.{covers}
use Rattle.world_history.specs.ClientNames.{Held, Phase, Request, Answer}
use Rattle.world_history.specs.ServerNames.{Server, Grant, Slot, Note}
use Rattle.world_history.specs.declared.messages.Message.{Message}
use Rattle.world_history.specs.State.{World, at_number}
use Rattle.world_history.specs.Names.{where_known, is_tellable_note, note_line, known_note_line}
use Rattle.world_history.specs.Handed.{Post}
use Rattle.world_history.specs.Moves.{Act, Action, Delivers, acts}
use Rattle.world_history.specs.Sending.{Move, move, sent_lines}
use Rattle.history_law.specs.BookMoments.{with_event, lines_in}
use Rattle.history_law.specs.HistoryMoments.{IsReached}
use Rattle.exchange_law.specs.Doing.{posted}
use Rattle.component_law.specs.Order.{Rise}
use Rattle.ready_law.specs.Answered.{ends_call}
use Rattle.ready_law.specs.Ready.{is_covered, Yields}
use Rattle.ready_law.proofs.Calls.{ReadyCall, scene_at, op_at, file_at_call, kept_at, own_at, wanted_at, opposed_at}
use Rattle.ready_law.proofs.Stages.{Caller, Serves, IsAsked, IsAnsweredBy, IsReturning, AreReturns, AreTaken, HasSent, IsTaking, HasOneOf, HaveOwnClients, OthersRest}
use Rattle.ready_law.proofs.ServingGrants.{against_own}
use Rattle.ready_law.proofs.AskingForms.{AskingLaws}
use Rattle.ready_law.proofs.AskingMoves.{sent_ends_none}

-- ---- grants of several clients

own_clients : (gs : List Grant) → Apart gs → Rise gs → HaveOwnClients gs
own_clients [] apart rise = tt
own_clients (g ∷ gs) apart rise = (
  λ x i same.
      let it : x ≡ g = (apart x g (inr i) (inl refl)).1 same in
      omega (arith, rise.0 x i, ap (λ (y : Grant). y.number) it),
  own_clients gs (λ a b i j. apart a b (inr i) (inr j)) rise.1,
)

own_filter : (p : Grant → Bool) (gs : List Grant) → HaveOwnClients gs → HaveOwnClients (filter p gs)
own_filter p [] own = tt
own_filter p (g ∷ gs) own = elim (cases_Bool (p g)) [
  | inl t ↦ rw t (λ x i. own.0 x (in_filtered p x gs i).0, own_filter p gs own.1)
  | inr z ↦ rw z (own_filter p gs own.1)
]

-- the clients of two parts differ
pub own_apart : (xs ys : List Grant) → HaveOwnClients (xs ++ ys) → (x y : Grant) → In x xs → In y ys → y.client ≢ x.client
own_apart [] ys own x y i j = absurd i
own_apart (z ∷ xs) ys own x y (inl e) j =
    λ same. own.0 y (in_behind y xs ys j) (same ∙ ap (λ (g : Grant). g.client) e)
own_apart (z ∷ xs) ys own x y (inr i) j = own_apart xs ys own.1 x y i j

pub own_behind : (xs ys : List Grant) → HaveOwnClients (xs ++ ys) → HaveOwnClients ys
own_behind [] ys own = own
own_behind (x ∷ xs) ys own = own_behind xs ys own.1

-- ---- the grants of a ready call's file

module _ (laws : AskingLaws) (s : ReadyCall) where
  reached_there : IsReached s.world
  reached_there = record { before = s.world; history = s.history; stands = s.stands; moves = []; world_is = refl }

  safe_there : IsSafe s.ready.file
  safe_there = safe_at s.world.server.files (file_at_call s) s.ready.file (laws.safe s.world reached_there) s.ready.found

  own_there : HaveOwnClients (kept_at s).grants
  own_there =
      own_clients (kept_at s).grants safe_there.apart
      (laws.order s.world reached_there s.ready.file
      (file_in s.world.server.files (file_at_call s) s.ready.file s.ready.found)).rise

  -- those that conflict are of different clients
  pub own_opposed : HaveOwnClients (opposed_at s)
  own_opposed = either (is_covered (own_at s) (op_at s))
    where
      either : (b : Bool) → HaveOwnClients (if b then [] else against (kept_at s).grants (wanted_at s))
      either true = tt
      either false = own_filter (conflicts (wanted_at s)) (kept_at s).grants own_there

-- without a grant that covers the call those conflict that are against the one that it asks for
pub not_covered : (s : ReadyCall) → ((h : Held) → own_at s ≡ Some h → covers h (op_at s) ≡ false)
    → is_covered (own_at s) (op_at s) ≡ false
not_covered s none = by (own_at s) refl
  where
    by : (o : Option Held) → own_at s ≡ o → is_covered o (op_at s) ≡ false
    by None e = refl
    by (Some h) e = none h e

opposed_are : (s : ReadyCall) → is_covered (own_at s) (op_at s) ≡ false
    → opposed_at s ≡ against (kept_at s).grants (wanted_at s)
opposed_are s none = ap (λ (b : Bool). if b then [] else against (kept_at s).grants (wanted_at s)) none

-- the client's own grant is none of them
pub against_others : (s : ReadyCall) → ((h : Held) → own_at s ≡ Some h → covers h (op_at s) ≡ false)
    → against (without (kept_at s).grants s.client) (wanted_at s) ≡ opposed_at s
unfolding asked
against_others s none =
    against_own (kept_at s).grants (wanted_at s) ∙ sym (opposed_are s (not_covered s none))

conflicts_other : (a b : Grant) → conflicts a b ≡ true → b.client ≢ a.client
unfolding conflicts
conflicts_other a b e same =
    let none : conflicts a b ≡ false = rw (eq-eqb a.client b.client (sym same)) refl in absurd (true≢false (sym e ∙ none))

-- each is live, and another client's
pub opposed_in : (s : ReadyCall) (g : Grant) → In g (opposed_at s) → In g (kept_at s).grants × (g.client ≢ s.client)
unfolding asked
opposed_in s g i = either (is_covered (own_at s) (op_at s)) i
  where
    either : (b : Bool) → In g (if b then [] else against (kept_at s).grants (wanted_at s))
        → In g (kept_at s).grants × (g.client ≢ s.client)
    either true j = absurd j
    either false j =
        let it = in_filtered (conflicts (wanted_at s)) g (kept_at s).grants j in
        (it.0, conflicts_other (wanted_at s) g it.1)

pub opposed_yields : (s : ReadyCall) (g : Grant) → In g (opposed_at s) → Yields (scene_at s) (file_at_call s) g
opposed_yields s g i = s.ready.yielding g i

-- ---- what stays

abbrev pub serves_stays : (s : ReadyCall) (w v : World) (grants : List Grant) (size : ℕ) → v.server ≡ w.server → v.clock ≡ w.clock
    → v.down ≡ w.down → Serves s w grants size → Serves s v grants size
serves_stays s w v grants size server clock down k = record {
  clock = clock ∙ k.clock;
  up = down ∙ k.up;
  high = k.high;
  found = ap (λ (x : Server). file_at x.files (file_at_call s)) server ∙ k.found;
}

abbrev pub caller_stays : (s : ReadyCall) (w v : World) (p : Phase) (out : Option Request)
    → at_number v.clients s.client ≡ at_number w.clients s.client → Caller s w p out → Caller s v p out
caller_stays s w v p out same k = record {
  at = k.at;
  there = same ∙ k.there;
  alive = k.alive;
  call = k.call;
  outstanding = k.outstanding;
  due = k.due;
}

-- a client and its slot are as they were
pub record IsKept (w v : World) (c : ℕ) : Type 0 where
  pub client : at_number v.clients c ≡ at_number w.clients c
  pub slot : slot_of v.server.slots c ≡ slot_of w.server.slots c

pub answered_stays : (s : ReadyCall) (w v : World) (q : Request) (a : Answer) → IsKept w v s.client
    → IsAnsweredBy s w q a → IsAnsweredBy s v q a
answered_stays s w v q a same k = record {
  client_is = k.client_is;
  sequence = k.sequence;
  slot = k.slot;
  slot_is = same.slot ∙ k.slot_is;
  kept = k.kept;
  last = k.last;
}

pub asked_stays : (s : ReadyCall) (w v : World) (q : Request) → IsKept w v s.client → IsAsked s w q → IsAsked s v q
asked_stays s w v q same k = record {
  client_is = k.client_is;
  file_is = k.file_is;
  new = ap (λ (o : Option Slot). admit o q.sequence) same.slot ∙ k.new;
}

pub returning_stays : (s : ReadyCall) (w v : World) (g : Grant) (q : Request) → IsKept w v g.client → IsReturning s w g q
    → IsReturning s v g q
returning_stays s w v g q same k = record {
  client_is = k.client_is;
  file_is = k.file_is;
  args_are = k.args_are;
  new = ap (λ (o : Option Slot). admit o q.sequence) same.slot ∙ k.new;
  at = k.at;
  there = same.client ∙ k.there;
  free = k.free;
  outstanding = k.outstanding;
  due = k.due;
  alive = k.alive;
  released = k.released;
}

pub returns_stay : (s : ReadyCall) (w v : World) (gs : List Grant) (ms : List Message)
    → ((g : Grant) → In g gs → IsKept w v g.client) → AreReturns s w gs ms → AreReturns s v gs ms
returns_stay s w v [] [] same k = tt
returns_stay s w v [] (m ∷ ms) same k = absurd k
returns_stay s w v (g ∷ gs) [] same k = absurd k
returns_stay s w v (g ∷ gs) (a ∷ []) same k = absurd k
returns_stay s w v (g ∷ gs) (a ∷ m ∷ ms) same k = (
  k.0,
  (k.1.0, returning_stays s w v g k.1.0 (same g (inl refl)) k.1.1, k.1.2),
  returns_stay s w v gs ms (λ x i. same x (inr i)) k.2,
)

-- one more at the end
pub returns_more : (s : ReadyCall) (w : World) (gs : List Grant) (g : Grant) (ms : List Message) (a m : Message)
    → AreReturns s w gs ms → AreReturns s w (g ∷ []) (a ∷ m ∷ []) → AreReturns s w (gs ++ g ∷ []) (ms ++ a ∷ m ∷ [])
returns_more s w [] g [] a m k l = l
returns_more s w [] g (x ∷ ms) a m k l = absurd k
returns_more s w (y ∷ gs) g [] a m k l = absurd k
returns_more s w (y ∷ gs) g (x ∷ []) a m k l = absurd k
returns_more s w (y ∷ gs) g (x ∷ z ∷ ms) a m k l = (k.0, k.1, returns_more s w gs g ms a m k.2 l)

taking_stays : (s : ReadyCall) (w v : World) (g : Grant) (a : Answer) → IsKept w v g.client → IsTaking s w g a
    → IsTaking s v g a
taking_stays s w v g a same k = record {
  at = k.at;
  there = same.client ∙ k.there;
  alive = k.alive;
  free = k.free;
  request = k.request;
  outstanding = k.outstanding;
  due = k.due;
  released = k.released;
  client_is = k.client_is;
  sequence = k.sequence;
  status = k.status;
  slot = k.slot;
  slot_is = same.slot ∙ k.slot_is;
  kept = k.kept;
}

pub taken_stay : (s : ReadyCall) (w v : World) (gs : List Grant) (ms : List Message)
    → ((g : Grant) → In g gs → IsKept w v g.client) → AreTaken s w gs ms → AreTaken s v gs ms
taken_stay s w v [] [] same k = tt
taken_stay s w v [] (m ∷ ms) same k = absurd k
taken_stay s w v (g ∷ gs) [] same k = absurd k
taken_stay s w v (g ∷ gs) (m ∷ ms) same k = (
  (k.0.0, taking_stays s w v g k.0.0 (same g (inl refl)) k.0.1, k.0.2),
  taken_stay s w v gs ms (λ x i. same x (inr i)) k.1,
)

pub taken_more : (s : ReadyCall) (w : World) (gs : List Grant) (g : Grant) (ms : List Message) (m : Message)
    → AreTaken s w gs ms → AreTaken s w (g ∷ []) (m ∷ []) → AreTaken s w (gs ++ g ∷ []) (ms ++ m ∷ [])
taken_more s w [] g [] m k l = l
taken_more s w [] g (x ∷ ms) m k l = absurd k
taken_more s w (y ∷ gs) g [] m k l = absurd k
taken_more s w (y ∷ gs) g (x ∷ ms) m k l = (k.0, taken_more s w gs g ms m k.1 l)

-- ---- the other clients

-- Each client that isn't busy is as it was, and so is its grant.
pub aside_stays : (s : ReadyCall) (w v : World) (grants after busy : List Grant)
    → ((c : ℕ) → c ≢ s.client → HasOneOf busy c
    ⊎ ((at_number v.clients c ≡ at_number w.clients c) × (grant_of after c ≡ grant_of grants c)))
    → OthersRest s w grants busy → OthersRest s v after busy
aside_stays s w v grants after busy same o c other = elim (same c other) [
  | inl b ↦ inl b
  | inr is ↦ elim (o c other) [
    | inl b ↦ inl b
    | inr (inl a) ↦ inr (inl (record { client = is.0 ∙ a.client; grant = is.1 ∙ a.grant }))
    | inr (inr b) ↦
        inr (inr (record { at = b.at; there = is.0 ∙ b.there; idle = b.idle; released = b.released; none = is.1 ∙ b.none }))
  ]
]

-- A step of the call's client leaves them alone.
pub aside_still : (s : ReadyCall) (w v : World) (grants : List Grant)
    → ((c : ℕ) → c ≢ s.client → at_number v.clients c ≡ at_number w.clients c)
    → OthersRest s w grants [] → OthersRest s v grants []
aside_still s w v grants same o = aside_stays s w v grants grants [] (λ c other. inr (same c other, refl)) o

-- a further grant is its client's
pub one_more : (gs : List Grant) (g : Grant) (c : ℕ) → g.client ≢ c → grant_of (gs ++ g ∷ []) c ≡ grant_of gs c
one_more [] g c other = rw (ne_eqb g.client c other) refl
one_more (x ∷ gs) g c other = elim (cases_Bool (x.client == c)) [
  | inl t ↦ rw t refl
  | inr f ↦ rw f (one_more gs g c other)
]

-- ---- what is sent and told

-- the messages of the event are as many more as were sent
pub sent_more : (s : ReadyCall) (w : World) (m : Move) (n k : ℕ) (ms : List Message) → HasSent s w n
    → length (move w m).world.network.messages ≡ length w.network.messages + length (acts w m.chosen m.action).posts
    → posted (acts w m.chosen m.action).posts ≡ ms → n + length ms ≤ k → HasSent s (move w m).world k
sent_more s w m n k ms before count are low =
    let ps : List Post = (acts w m.chosen m.action).posts in
    let as_many : length ps ≡ length ms = sym (length-map ps (λ (p : Post). p.message)) ∙ ap length are in
    omega (arith, before, count, as_many, low)

pub both_none : (p : Line → Bool) (xs ys : List Line) → list_any p xs ≡ false → list_any p ys ≡ false
    → list_any p (xs ++ ys) ≡ false
both_none p [] ys e f = f
both_none p (x ∷ xs) ys e f = either (p x) (both_none p xs ys) e
  where
    either : (b : Bool) → (list_any p xs ≡ false → list_any p ys ≡ false → list_any p (xs ++ ys) ≡ false)
        → (b || list_any p xs) ≡ false → (b || list_any p (xs ++ ys)) ≡ false
    either true on g = absurd (cc g)
    either false on g = on g f

notes_silent : (d : ℕ) (notes : List Note) → list_any (ends_call d) (filter_map known_note_line notes) ≡ false
notes_silent d [] = refl
notes_silent d (n ∷ ns) = either (nat_lt n.file FILES && is_tellable_note n.kind) (notes_silent d ns)
  where
    either : (b : Bool) → list_any (ends_call d) (filter_map known_note_line ns) ≡ false
        → list_any (ends_call d) (cons_option (where_known b (note_line n)) (filter_map known_note_line ns)) ≡ false
    either true e = e
    either false e = e

-- a delivery that tells notes alone tells no end of a call
pub delivery_silent : (w : World) (m : Move) (d number : ℕ) (r : Delivery) (notes : List Note) → m.action ≡ Delivers number
    → (acts w m.chosen m.action).told ≡ line.Delivered number r ∷ filter_map known_note_line notes
    → list_any (ends_call d) (lines_in w m) ≡ false
delivery_silent w m d number r notes action told =
    let a : Act = acts w m.chosen m.action in
    let sent : List Line = sent_lines (length a.world.network.messages) a.posts in
    let lines : lines_in w m ≡ line.Delivered number r ∷ (filter_map known_note_line notes ++ sent) =
    ap (λ (x : Action). with_event x (a.told ++ sent)) action ∙ ap (λ (ls : List Line). ls ++ sent) told in
    ap (list_any (ends_call d)) lines
    ∙ both_none (ends_call d) (filter_map known_note_line notes) sent (notes_silent d notes)
    (sent_ends_none d (length a.world.network.messages) a.posts)
