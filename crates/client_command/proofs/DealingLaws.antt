-- Steps of a client as its dealings, and messages one after the other.
use Rattle.std.specs.Prelude.{◌↔◌, Bool, IsTrue, false, true, map, slice_get, if◌then◌else◌}
use Rattle.std.proofs.Common.{◌≡◌, ℕ, zero, suc, List, [], ◌∷◌, ◌++◌, take, drop, Option, Some, None, refl, sym, ap, subst, ◌∙◌}
use Rattle.osd_bytes.specs.Connections.{Traffic}
use Rattle.osd_bytes.specs.Counts.{Faults}
use Rattle.client_rules.specs.declared.client.Client.{Client}
use Rattle.client_rules.specs.Messages.{Step}
use Rattle.client_rules.specs.Envelopes.{bytes_of}
use Rattle.client_rules.specs.declared.client.Outgoing.TheVariants.{Asks}
use Rattle.stripe_client.specs.declared.sending.Sent.{Sent}
use Rattle.stripe_client.specs.declared.sending.CStep.{CStep}
use Rattle.stripe_client.specs.Sending.{IsStep}
use Rattle.client_command.specs.declared.notices.Notice.{Notice}
use Rattle.client_rules.specs.declared.calls.Awaited.{Awaited}
use Rattle.client_rules.specs.Commands.{in_order}
use Rattle.client_rules.specs.Messages.{awaited_of, to_drive}
use Rattle.client_rules.specs.Steps.{outstanding_sends, resent}
use Rattle.stripe_client.specs.Sending.{spelled}
use Rattle.layout_ops.specs.declared.messages.Request.{Request}
use Rattle.osd_lists.specs.declared.node.Node.TheVariants.{Drive, Server}
use Rattle.osd_bytes.specs.Asking.{Answered}
use Rattle.reply_matching.specs.Answers.{is_answer_to}
use Rattle.client_command.specs.Exchanges.{AwaitsStill, CutsIn, CutsTo, Dealing, InTurn, IsLost, IsRequest, Loses, LosesIn, LosesServer, Works, WorksAll, WorksRounds, answer_among, answered, dealing, ended, heard, late, on_links, stepped, timed_out}

pub is_stepped : (s : Dealing) (step : Step) (c : Client) (told : CStep) (waiting : List Sent) (notices : List Notice)
    → IsStep step c told → waiting ≡ s.waiting ++ told.sends → notices ≡ s.notices ++ ended told.outcome
    → dealing c waiting notices s.told s.faults ≡ stepped s step
is_stepped s step c told waiting notices i w n = rw (i.client, w, n, i.sends, i.outcome) refl

pub turn_more : (ms : List Sent) (m : Sent) (s t u : Dealing) → InTurn Works ms s t → Works m t u →
    InTurn Works (ms ++ m ∷ []) s u
turn_more [] m s t u e r = (u, subst (λ (v : Dealing). Works m v u) e r, refl)
turn_more (n ∷ ms) m s t u h r = (h.0, h.1, turn_more ms m h.0 t u h.2 r)

split_got : (ms : List Sent) (i : ℕ) (m : Sent) → slice_get ms i ≡ Some m → ms ≡ take i ms ++ m ∷ drop (suc i) ms
split_got [] i m e = absurd (cc e)
split_got (k ∷ ms) zero m e = ap (λ (w : Sent). w ∷ ms) (cc e)
split_got (k ∷ ms) (suc i) m e = ap (λ (ks : List Sent). k ∷ ks) (split_got ms i m e)

pub loses_at : (ms : List Sent) (i : ℕ) (m : Sent) (s u t : Dealing) → slice_get ms i ≡ Some m → InTurn Works (take i ms) s u →
    Loses m u t → LosesIn ms s t
loses_at ms i m s u t e w l =
    record { sent = take i ms; lost = m; unsent = drop (suc i) ms; are = split_got ms i m e; before = u; works = w; loses = l }

pub cuts_at : (ms : List Sent) (i : ℕ) (m : Sent) (s u : Dealing) (told : Option Traffic) (faults : Faults) →
    slice_get ms i ≡ Some m → InTurn Works (take i ms) s u → CutsTo m.to m.bytes u told faults → CutsIn ms s told faults
cuts_at ms i m s u told faults e w c =
    record { sent = take i ms; cut = m; unsent = drop (suc i) ms; are = split_got ms i m e; before = u; works = w; cuts = c }

-- ---- the outstanding request is the first of what is sent once more

-- the first of these is this message
abbrev pub IsFirst : List Sent → (message : List ℕ) → Type 0
IsFirst [] message = ⊥
IsFirst (m ∷ ms) message = IsRequest m message

none_first : (as_ : List Awaited) (message : List ℕ) → IsFirst (spelled (map to_drive as_)) message → ⊥
none_first [] message f = f
none_first (a ∷ as_) message f = absurd (cc f.0)

first_by : (o : Option Request) (as_ : List Awaited) (message : List ℕ) →
    IsFirst (spelled (outstanding_sends o ++ map to_drive as_)) message
    ↔ ((r : Request) × (o ≡ Some r) × (message ≡ bytes_of (Asks r)))
first_by None as_ message = (λ f. absurd (none_first as_ message f), λ a. absurd (cc a.1))
first_by (Some r) as_ message =
    (λ f. (r, refl, sym f.1), λ a. (refl, sym (a.2 ∙ ap (λ (q : Request). bytes_of (Asks q)) (cc (sym a.1)))))

pub first_awaited : (c : Client) (message : List ℕ) → IsFirst (spelled (resent c)) message ↔ AwaitsStill c message
unfolding resent
first_awaited c message = first_by c.outstanding (in_order (awaited_of c.call)) message

pub still_from : (c : Client) (message : List ℕ) (sends : List Sent) (m : Sent) (b : Bool) → sends ≡ spelled (resent c) →
    slice_get sends 0 ≡ Some m
    → IsTrue b ↔ IsRequest m message → IsTrue b ↔ AwaitsStill c message
still_from c message [] m b e g i = absurd (cc g)
still_from c message (n ∷ ns) m b e g i =
    let first : IsFirst (n ∷ ns) message ↔ AwaitsStill c message =
    subst (λ (xs : List Sent). IsFirst xs message ↔ AwaitsStill c message) (sym e) (first_awaited c message) in
    let same : n ≡ m = cc g in (
      λ t. first.0 (subst (λ (x : Sent). IsRequest x message) (sym same) (i.0 t)),
      λ a. i.1 (subst (λ (x : Sent). IsRequest x message) same (first.1 a)),
    )

pub none_still : (c : Client) (message : List ℕ) (sends : List Sent) → sends ≡ spelled (resent c) → sends ≡ [] →
    IsTrue false ↔ AwaitsStill c message
none_still c message sends e n =
    (λ t. absurd (cc t), λ a. absurd (subst (λ (xs : List Sent). IsFirst xs message) (sym e ∙ n) ((first_awaited c message).1 a)))

-- ---- an exchange with a drive

pub is_answered : (s mid t : Dealing) (drive : ℕ) (command : List ℕ) (came : Option (List ℕ)) (component : Option ℕ)
    → mid ≡ heard s (Drive drive) came → component ≡ late mid.client command → t ≡ timed_out mid component →
    t ≡ answered s drive command came
is_answered s mid t drive command came component h l e =
    e ∙ ap (λ (k : Option ℕ). timed_out mid k) l ∙ ap (λ (m : Dealing). timed_out m (late m.client command)) h

-- ---- an exchange with the server

-- a record answers the message, and the answer is awaited still
pub loses_answer : (message came : List ℕ) (s t : Dealing) → is_answer_to message came ≡ true
    → Answered Server message s.told t.told s.faults t.faults (Some came) →
    t ≡ on_links t.told t.faults (heard s Server (Some came))
    → AwaitsStill t.client message → LosesServer message s t
loses_answer message came s t answers told dealt still =
    let among : answer_among message (Some came) ≡ Some came = ap (λ (b : Bool). if b then Some came else None) answers in
    record {
      came = Some came;
      told = told;
      dealt = subst (λ (o : Option (List ℕ)). t ≡ on_links t.told t.faults (heard s Server o)) (sym among) dealt;
      lost = subst (λ (o : Option (List ℕ)). IsLost o t.client message) (sym among) still;
    }

-- ---- rounds

pub turn_from : (u t : Dealing) (ms rest : List Sent) → ms ≡ u.waiting → rest ≡ [] →
    InTurn Works ms (record u { waiting = rest }) t
    → InTurn Works u.waiting (record u { waiting = [] }) t
turn_from u t ms rest e f h =
    subst (λ (ns : List Sent). InTurn Works ns (record u { waiting = [] }) t) e
    (subst (λ (ns : List Sent). InTurn Works ms (record u { waiting = ns }) t) f h)

pub loses_from : (u t : Dealing) (ms rest : List Sent) → ms ≡ u.waiting → rest ≡ [] → LosesIn ms (record u { waiting = rest }) t
    → LosesIn u.waiting (record u { waiting = [] }) t
loses_from u t ms rest e f h =
    subst (λ (ns : List Sent). LosesIn ns (record u { waiting = [] }) t) e
    (subst (λ (ns : List Sent). LosesIn ms (record u { waiting = ns }) t) f h)

pub cuts_from : (u : Dealing) (told : Option Traffic) (faults : Faults) (ms rest : List Sent) → ms ≡ u.waiting → rest ≡ []
    → CutsIn ms (record u { waiting = rest }) told faults → CutsIn u.waiting (record u { waiting = [] }) told faults
cuts_from u told faults ms rest e f h =
    subst (λ (ns : List Sent). CutsIn ns (record u { waiting = [] }) told faults) e
    (subst (λ (ns : List Sent). CutsIn ms (record u { waiting = ns }) told faults) f h)

pub all_worked : (rounds : ℕ) (s : Dealing) (client : Client) (waiting : List Sent) (notices : List Notice)
    (told : Option Traffic) (faults : Faults)
    → WorksRounds rounds s (dealing client waiting notices told faults) → waiting ≡ [] →
    WorksAll s (dealing client [] notices told faults)
all_worked rounds s client waiting notices told faults h e =
    (rounds, subst (λ (ws : List Sent). WorksRounds rounds s (dealing client ws notices told faults)) e h, refl)
