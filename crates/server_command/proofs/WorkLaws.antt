-- The messages of a server, one after the other: each round that brings some raises the nonces.
use Rattle.std.specs.Prelude.{◌↔◌, IsTrue}
use Rattle.std.proofs.Common.{◌≡◌, ◌⊎◌, ◌<◌, ◌≤◌, ◌-◌, ◌+◌, ℕ, min, Bool, true, false, List, [], ◌∷◌, ◌++◌, length, Option, Some, None, refl, sym, ap, subst, inl, inr, ◌∙◌, arith}
use Rattle.std.proofs.lemmas.Bool.{cases_Bool}
use Rattle.std.proofs.lemmas.Bool.Decides.{nat_tests}
use Rattle.std.proofs.lemmas.List.{append-nil}
use Rattle.osd_lists.specs.declared.node.Node.{Node}
use Rattle.osd_lists.specs.declared.node.Node.TheVariants.{Server as TheServer, Drive, Client}
use Rattle.server_rules.specs.declared.limits.TheConstants.{COUNTERS_END}
use Rattle.osd_commands.specs.declared.replies.Reply.{Reply}
use Rattle.server_rules.specs.declared.files.File.{File}
use Rattle.server_rules.specs.declared.server.Effects.{Effects}
use Rattle.server_rules.specs.declared.server.Outgoing.{Outgoing}
use Rattle.server_rules.specs.declared.server.Server.{Server}
use Rattle.server_rules.specs.Going.{Going}
use Rattle.server_rules.specs.Files.{Step, begins, at_file, still, to_drives}
use Rattle.server_rules.specs.Replies.{on_reply}
use Rattle.server_rules.specs.Messages.{Message, Asks, Replies, Orders, counters_have_room, heard_at, or_else, by_heard, on_drive_reply, handled, on_message}
use Rattle.server_rules.specs.Envelopes.{message_in, on_message_in, on_bytes}
use Rattle.server_requests.specs.declared.outgoing.Sent.{Sent}
use Rattle.server_requests.specs.Sending.{all_sent}
use Rattle.osd_bytes.specs.Asking.{Ends}
use Rattle.server_command.specs.Messages.{Handles, Hears, InTurn, PutsIf, Round, Rounds, Serving, UntilNone, Works, WorksTo, serving}
use Rattle.server_command.specs.Steps.{ServerStep}
use Rattle.server_command.proofs.NonceLaws.{RisesIn, reply_rises}

-- ---- one after the other

pub turn_more : {A : Type 0} (R : A → Serving → Serving → Type 0) (xs : List A) (x : A) (s t u : Serving) → InTurn R xs s t →
    R x t u → InTurn R (xs ++ x ∷ []) s u
turn_more R [] x s t u e r = (u, subst (λ (v : Serving). R x v u) e r, refl)
turn_more R (y ∷ xs) x s t u h r = (h.0, h.1, turn_more R xs x h.0 t u h.2 r)

-- ---- the step of a drive's reply

-- it sends nothing, or takes a nonce while there is one
abbrev pub StepGrows : Server → Step → Type 0
StepGrows s t =
    (s.next_nonce ≤ t.state.next_nonce)
    × ((t.sends ≡ []) ⊎ ((s.next_nonce < t.state.next_nonce) × (s.next_nonce < COUNTERS_END)))

or_rises : (m : Effects) (o later : Option Going) → RisesIn m o → RisesIn m later → RisesIn m (or_else o later)
or_rises m None later a b = b
or_rises m (Some g) later a b = a

heard_rises : (s : Server) (chosen : List ℕ) (drive : ℕ) (r : Reply) (fs : List File) →
    RisesIn (begins s) (heard_at s chosen drive r fs)
unfolding heard_at
heard_rises s chosen drive r [] = tt
heard_rises s chosen drive r (f ∷ fs) =
    or_rises (begins s) (on_reply (at_file s chosen f) drive r) (heard_at s chosen drive r fs)
    (reply_rises (begins s) (at_file s chosen f) drive r (refl, refl)) (heard_rises s chosen drive r fs)

still_grows : (s : Server) → StepGrows s (still s)
still_grows s = (omega arith, inl refl)

heard_grows : (s : Server) (o : Option Going) → s.next_nonce < COUNTERS_END → RisesIn (begins s) o → StepGrows s (by_heard s o)
heard_grows s None low r = still_grows s
heard_grows s (Some g) low r = (r.least, more r.more)
  where
    more : (g.effects.sent ≡ []) ⊎ (s.next_nonce < g.effects.nonce)
        → (to_drives s.drives g.effects.sent ≡ []) ⊎ ((s.next_nonce < g.effects.nonce) × (s.next_nonce < COUNTERS_END))
    more (inl e) = inl (rw e refl)
    more (inr l) = inr (l, low)

low_nonce : (s : Server) → counters_have_room s ≡ true → s.next_nonce < COUNTERS_END
unfolding counters_have_room
low_nonce s e = grind (arith, nat_tests, e)

handled_grows : (s : Server) (now : ℕ) (chosen : List ℕ) (drive : ℕ) (m : Message) → s.next_nonce < COUNTERS_END →
    StepGrows s (handled s now chosen (Drive drive) m)
unfolding on_drive_reply
handled_grows s now chosen drive (Asks q) low = still_grows s
handled_grows s now chosen drive (Replies r) low =
    heard_grows s (heard_at s chosen drive r s.files) low (heard_rises s chosen drive r s.files)
handled_grows s now chosen drive (Orders o) low = still_grows s

message_grows : (s : Server) (now : ℕ) (chosen : List ℕ) (drive : ℕ) (o : Option Message) →
    StepGrows s (on_message_in s now chosen (Drive drive) o)
unfolding on_message
message_grows s now chosen drive None = still_grows s
message_grows s now chosen drive (Some m) = elim (cases_Bool (counters_have_room s)) [
  | inl t ↦ rw t (handled_grows s now chosen drive m (low_nonce s t))
  | inr z ↦ rw z (still_grows s)
]

-- ---- messages that are worked

-- the nonces didn't fall, and nothing more waits unless they rose
abbrev pub Grows : Serving → Serving → Type 0
Grows s t =
    (s.server.next_nonce ≤ t.server.next_nonce)
    × ((t.waiting ≡ s.waiting) ⊎ ((s.server.next_nonce < t.server.next_nonce) × (s.server.next_nonce < COUNTERS_END)))

same_grows : (s t : Serving) → t.server ≡ s.server → t.waiting ≡ s.waiting → Grows s t
same_grows s t e w = (omega (arith, ap (λ (x : Server). x.next_nonce) e), inl w)

then_grows : (s u t : Serving) → Grows s u → Grows u t → Grows s t
then_grows s u t a b = (omega (arith, a.0, b.0), more a.1 b.1)
  where
    more : (u.waiting ≡ s.waiting) ⊎ ((s.server.next_nonce < u.server.next_nonce) × (s.server.next_nonce < COUNTERS_END))
        → (t.waiting ≡ u.waiting) ⊎ ((u.server.next_nonce < t.server.next_nonce) × (u.server.next_nonce < COUNTERS_END))
        → (t.waiting ≡ s.waiting) ⊎ ((s.server.next_nonce < t.server.next_nonce) × (s.server.next_nonce < COUNTERS_END))
    more (inl e) (inl f) = inl (f ∙ e)
    more (inl e) (inr l) = inr (omega (arith, a.0, l.0), omega (arith, a.0, l.1))
    more (inr l) f = inr (omega (arith, l.0, b.0), l.1)

handles_grow : (drive : ℕ) (message : List ℕ) (s t : Serving) → Handles (Drive drive) message s t → Grows s t
handles_grow drive message s t h =
    let step = on_bytes s.server h.time h.chosen (Drive drive) message in
    let g = message_grows s.server h.time h.chosen drive (message_in (Drive drive) message) in
    let same : t.server.next_nonce ≡ step.state.next_nonce = ap (λ (x : Server). x.next_nonce) h.server in
    (omega (arith, g.0, same), more step same g.1 h.waiting)
  where
    more : (step : Step) → t.server.next_nonce ≡ step.state.next_nonce
        → (step.sends ≡ []) ⊎ ((s.server.next_nonce < step.state.next_nonce) × (s.server.next_nonce < COUNTERS_END))
        → t.waiting ≡ s.waiting ++ all_sent step.sends
        → (t.waiting ≡ s.waiting) ⊎ ((s.server.next_nonce < t.server.next_nonce) × (s.server.next_nonce < COUNTERS_END))
    more step same (inl e) w = inl (w ∙ ap (λ (os : List Outgoing). s.waiting ++ all_sent os) e ∙ append-nil s.waiting)
    more step same (inr l) w = inr (omega (arith, l.0, same), l.1)

hears_grow : (drive : ℕ) (came : Option (List ℕ)) (s t : Serving) → Hears drive came s t → Grows s t
hears_grow drive None s t e = same_grows s t (ap (λ (x : Serving). x.server) e) (ap (λ (x : Serving). x.waiting) e)
hears_grow drive (Some bytes) s t h = handles_grow drive bytes s t h

puts_grow : (b : Bool) (message : List ℕ) (s t : Serving) → PutsIf b message s t → Grows s t
puts_grow true message s t p = same_grows s t p.server p.waiting
puts_grow false message s t e = same_grows s t (ap (λ (x : Serving). x.server) e) (ap (λ (x : Serving). x.waiting) e)

works_grow : (to : Node) (sender : Option Node) (message : List ℕ) (s t : Serving) → WorksTo to sender message s t → Grows s t
works_grow (Drive d) sender message s t a = hears_grow d a.came (record s { ends = a.between }) t a.hears
works_grow TheServer sender message s t p = puts_grow _ message s t p
works_grow (Client c) sender message s t p = puts_grow _ message s t p

pub works_grows : (sender : Option Node) (m : Sent) (s t : Serving) → Works sender m s t → Grows s t
works_grows sender m s t w = works_grow m.to sender m.bytes s t w

pub turn_grows : (R : Sent → Serving → Serving → Type 0) → ((m : Sent) (s t : Serving) → R m s t → Grows s t) →
    (ms : List Sent) (s t : Serving) → InTurn R ms s t → Grows s t
turn_grows R grows [] s t e = same_grows s t (ap (λ (x : Serving). x.server) e) (ap (λ (x : Serving). x.waiting) e)
turn_grows R grows (m ∷ ms) s t h = then_grows s h.0 t (grows m s h.0 h.1) (turn_grows R grows ms h.0 t h.2)

-- ---- the rounds end

-- how many nonces are left, and one more where something waits
abbrev pub measure : (nonce : ℕ) → (waiting : List Sent) → ℕ
measure nonce waiting = (COUNTERS_END - nonce) + min 1 (length waiting)

pub round_less : (s t : Serving) (waiting : List Sent) → s.waiting ≡ [] → 0 < length waiting → Grows s t →
    measure t.server.next_nonce t.waiting < measure s.server.next_nonce waiting
round_less s t waiting e some g = less g.1
  where
    less : (t.waiting ≡ s.waiting) ⊎ ((s.server.next_nonce < t.server.next_nonce) × (s.server.next_nonce < COUNTERS_END))
        → measure t.server.next_nonce t.waiting < measure s.server.next_nonce waiting
    less (inl f) = let none : length t.waiting ≡ 0 = ap length (f ∙ e) in omega (arith, none, some, g.0)
    less (inr l) = omega (arith, l.0, l.1, some)

pub round_from : (R : Sent → Serving → Serving → Type 0) (s t : Serving) (ms rest : List Sent) → ms ≡ s.waiting → rest ≡ []
    → InTurn R ms (record s { waiting = rest }) t → Round R s t
round_from R s t ms rest e f h =
    subst (λ (ns : List Sent). InTurn R ns (record s { waiting = [] }) t) e
    (subst (λ (ns : List Sent). InTurn R ms (record s { waiting = ns }) t) f h)

-- none waits any more
pub all_worked : (R : Sent → Serving → Serving → Type 0) (rounds : ℕ) (s : Serving) (server : Server) (waiting : List Sent)
    (stands : Bool) (has : List ServerStep) (ends : Ends)
    → Rounds R rounds s (serving server waiting stands has ends) → waiting ≡ []
    → UntilNone R s (serving server [] stands has ends)
all_worked R rounds s server waiting stands has ends h e =
    (rounds, subst (λ (ws : List Sent). Rounds R rounds s (serving server ws stands has ends)) e h, refl)

pub round_ends : (sender : Option Node) (s t : Serving) → 0 < length s.waiting → Round (Works sender) s t
    → measure t.server.next_nonce t.waiting < measure s.server.next_nonce s.waiting
round_ends sender s t some r =
    round_less (record s { waiting = [] }) t s.waiting refl some
    (turn_grows (Works sender) (works_grows sender) s.waiting (record s { waiting = [] }) t r)

pub some_wait : (b : Bool) (ms : List Sent) → b ≡ false → IsTrue b ↔ (ms ≡ []) → 0 < length ms
some_wait b [] e i = absurd (cc (sym e ∙ i.1 refl))
some_wait b (m ∷ ms) e i = omega arith
