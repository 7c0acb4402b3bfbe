-- A request that is new to the server is carried out at its file, and answered.
use Rattle.std.proofs.Common.{◌≡◌, ◌≢◌, ◌<◌, ◌≤◌, ◌==◌, ◌&&◌, ◌+◌, ◌-◌, ℕ, Bool, true, false, nat_le, nat_lt, List, [], ◌∷◌, ◌++◌, map, filter, Option, Some, None, refl, sym, ap, subst, ◌∙◌, eq-eqb, ne_eqb, arith, if◌then◌else◌}
use Rattle.std.proofs.lemmas.Bool.Decides.{nat_tests}
use Rattle.osd_lists.specs.declared.node.Node.TheVariants as node
use Rattle.layout_ops.specs.declared.envelope.Envelope.TheVariants as envelope
use Rattle.layout_ops.proofs.Whole.{all_again}
use Rattle.scenario_text.specs.declared.names.TheConstants.{CLIENTS}
use Rattle.scenario_text.specs.declared.line.Delivery.TheVariants as delivery
use Rattle.scenario_text.specs.declared.line.Line.{Line}
use Rattle.server_rules.specs.declared.limits.TheConstants.{MAX_CLIENT, GREATEST_SEQUENCE}
use Rattle.server_rules.specs.Answers.{recall_of, recalls_from}
use Rattle.server_rules.specs.Envelopes.{message_in, by_envelope, request_with, asked_in}
use Rattle.server_rules.specs.Files.{Step, at_file, to_drives}
use Rattle.server_rules.specs.Laws.{last_of}
use Rattle.server_rules.specs.Messages.{Message as ServerMessage, Asks, counters_have_room, on_message}
use Rattle.server_rules.specs.Requests.{serves, answer_with, carried_out, on_request}
use Rattle.server_rules.specs.Served.{Served}
use Rattle.server_rules.specs.Slots.{New, slot_of, admit, admit_after}
use Rattle.server_rules.proofs.FileLaws.{number_at, put_same, put_other, keep_same, keep_other}
use Rattle.world_history.specs.ClientNames.{Client, Request}
use Rattle.world_history.specs.ServerNames.{Slot, File, Grant, Awaited, Answer, Answers, ClientRequest, RequestArgs}
use Rattle.world_history.specs.declared.messages.Message.{Message}
use Rattle.world_history.specs.State.{World, at_number}
use Rattle.world_history.specs.Handed.{quiet, is_addressed, server_post, server_did, for_server, server_takes, handed_to}
use Rattle.world_history.specs.Moves.{Delivers, marked, told_delivered, acts}
use Rattle.history_law.specs.BookMoments.{IsMoment}
use Rattle.history_law.specs.Said.{posted}
use Rattle.exchange_law.specs.InStep.{IsAwaiting, IsInStep, state_of}
use Rattle.exchange_law.specs.Messages.{last_before}
use Rattle.exchange_law.proofs.HeldWorlds.{readable_there}
use Rattle.cause_law.proofs.Frames.{delivered_act}
use Rattle.cause_law.proofs.Taking.{awaiting}
use Rattle.cause_law.proofs.Sends.{request_message, answer_message}
use Rattle.ready_law.specs.Fair.{IsFair}
use Rattle.ready_law.proofs.ServingForms.{RequestLaws, Comes, recall_message, recall_messages, Serves}

-- each of these is of a client that a line can name
abbrev pub AreOfNamed : List Grant → Type 0
AreOfNamed [] = Unit {0}
AreOfNamed (g ∷ gs) = (g.client < CLIENTS) × AreOfNamed gs

-- ---- what is sent

client_named : (c : ℕ) → c < CLIENTS → nat_lt c CLIENTS ≡ true
client_named c low = grind (arith, nat_tests, low)

recalls_posted : (n : ℕ) (gs : List Grant) (c : ℕ) (a : Answer) → AreOfNamed gs → a.client ≡ c → c < CLIENTS
    → posted (filter is_addressed (map server_post (recalls_from n gs ++ Answers a ∷ [])))
    ≡ recall_messages n gs ++ answer_message c a ∷ []
unfolding recalls_from
recalls_posted n [] c a all is low =
    rw (client_named a.client (omega (arith, is, low))) (ap (λ (d : ℕ). answer_message d a ∷ []) is)
recalls_posted n (g ∷ gs) c a all is low =
    rw (client_named g.client all.0)
    (ap (λ (ms : List Message). recall_message (recall_of g n) ∷ ms) (recalls_posted (n + 1) gs c a all.1 is low))

-- ---- its number

is_new : (o : Option Slot) (n : ℕ) → last_of o + 1 ≡ n → n ≤ GREATEST_SEQUENCE → admit o n ≡ New
unfolding admit admit_after
is_new None n e most =
    let test : ((n == 0 + 1) && nat_lt 0 GREATEST_SEQUENCE) ≡ true = grind (arith, nat_tests, e) in
    rw test refl
is_new (Some s) n e most =
    let test : ((n == s.last + 1) && nat_lt s.last GREATEST_SEQUENCE) ≡ true = grind (arith, nat_tests, e, most) in
    rw (ne_eqb n s.last (λ same. absurd (omega (arith, same, e))), test) refl

last_most : (n : ℕ) → n ≤ GREATEST_SEQUENCE → last_before n ≤ GREATEST_SEQUENCE
last_most n most = either (n == 0)
  where
    either : (b : Bool) → (if b then GREATEST_SEQUENCE else n - 1) ≤ GREATEST_SEQUENCE
    either true = omega arith
    either false = omega (arith, most)

-- ---- the step

module _ (laws : RequestLaws) (w : World) (h : List Line) (fair : IsFair w h) (chosen : List ℕ) (number c : ℕ) (q : Request)
    (f : File) (comes : Comes w c q f number) (named : c < CLIENTS) (asks : RequestArgs)
    (read : asked_in q.args ≡ Some asks) where
  met : IsInStep w h c (state_of c (at_number w.clients c))
  met = laws.in_step w h fair.moment c

  awaits : IsAwaiting h c (slot_of w.server.slots c) (last_before (state_of c (at_number w.clients c)).next) q
  awaits = awaiting laws.safe laws.more w h c met q comes.outstanding

  -- the request, as the server reads it
  abbrev pub as_read : ClientRequest
  as_read = record { client = c; sequence = q.sequence; file = q.file; args = asks }

  is_read : for_server (request_message c q) ≡ Some (Asks as_read)
  unfolding message_in
  is_read =
      ap by_envelope
      (all_again (envelope.Request q) ((readable_there w h fair.moment fair.readable).requests c q comes.outstanding))
      ∙ ap (λ (o : Option RequestArgs). request_with q o) read
      ∙ ap (λ (n : ℕ). Some (Asks (record { client = n; sequence = q.sequence; file = q.file; args = asks }))) awaits.client

  new : admit (slot_of w.server.slots c) q.sequence ≡ New
  new =
      is_new (slot_of w.server.slots c) q.sequence comes.next
      (omega (arith, awaits.sequence, last_most (state_of c (at_number w.clients c)).next met.next))

  module _ (v : Served)
      (its : serves (at_file w.server chosen f) w.server.next_grant w.server.format w.clock c asks ≡ v) where
    step_is : on_message w.server w.clock chosen (node.Client c) (Asks as_read) ≡ carried_out w.server as_read v
    unfolding on_message on_request
    step_is =
        let room : counters_have_room w.server ≡ true = laws.low w h fair.moment fair.of_text fair.few in
        let test : ((c == c) && nat_le c MAX_CLIENT) ≡ true =
        rw (eq-eqb c c refl) (grind (arith, nat_tests, named)) in
        rw (room, test, new, comes.file) (ap (carried_out w.server as_read) its)

    abbrev there : World
    there = marked w number comes.posted

    act_is : acts w chosen (Delivers number)
        ≡ told_delivered number (server_did there (carried_out w.server as_read v))
    act_is =
        delivered_act w chosen number comes.posted comes.found
        ∙ ap (λ (m : Message). told_delivered number (handed_to there chosen m m.to)) comes.message
        ∙ ap (λ (b : Bool). told_delivered number (if b then quiet there delivery.Deaf
        else server_takes there chosen (node.Client c) (for_server (request_message c q)))) comes.up
        ∙ ap (λ (o : Option ServerMessage). told_delivered number (server_takes there chosen (node.Client c) o)) is_read
        ∙ ap (λ (s : Step). told_delivered number (server_did there s)) step_is

    -- it is carried out so, where no command goes to a drive
    pub request_served : v.going.effects.sent ≡ [] → v.going.file.kept.number ≡ f.kept.number → AreOfNamed v.recalled
        → Serves w c q number (record {
          left = v.going.file;
          recalled = v.recalled;
          numbers = v.numbers;
          answer = answer_with w.server as_read v;
        }) (acts w chosen (Delivers number))
    request_served none same all =
        let a : Answer = answer_with w.server as_read v in
        let its_number : v.going.file.kept.number ≡ q.file = same ∙ number_at w.server.files q.file f comes.file in
        subst (Serves w c q number (record {
          left = v.going.file;
          recalled = v.recalled;
          numbers = v.numbers;
          answer = a;
        })) (sym act_is) (record {
          posts =
              ap (λ (cs : List Awaited). posted (filter is_addressed (map server_post
              (to_drives w.server.drives cs ++ (recalls_from w.server.next_recall v.recalled ++ Answers a ∷ []))))) none
              ∙ recalls_posted w.server.next_recall v.recalled c a all refl named;
          notes = v.going.effects.notes;
          told = refl;
          file = put_same w.server.files q.file v.going.file f its_number comes.file;
          others =
              λ n other. put_other w.server.files q.file v.going.file its_number n
              (ne_eqb q.file n (λ e. other (sym e)));
          slot = keep_same w.server.slots (record { client = c; last = q.sequence; kept = a });
          slots =
              λ d other. keep_other w.server.slots (record { client = c; last = q.sequence; kept = a }) d
              (ne_eqb c d (λ e. other (sym e)));
          known = refl;
          format = refl;
          next_grant = refl;
          clients = refl;
          drives = refl;
          clock = refl;
          down = refl;
        })

-- ---- the number of the next request

module _ (laws : RequestLaws) (w : World) (h : List Line) (moment : IsMoment w h) (c : ℕ)
    (more : (state_of c (at_number w.clients c)).next ≢ 0) where
  abbrev its : Client
  its = state_of c (at_number w.clients c)
