-- A request that comes to a server that is up is answered at once.
use Rattle.std.proofs.Common.{◌≡◌, ◌≤◌, ◌==◌, ◌&&◌, ℕ, Bool, true, false, List, [], ◌∷◌, nat_le, Option, Some, None, refl, sym, ap, subst, ◌∙◌, eq-eqb, inl, arith, if◌then◌else◌}
use Rattle.std.proofs.lemmas.Bool.Decides.{nat_tests}
use Rattle.osd_lists.specs.declared.node.Node.TheVariants as node
use Rattle.layout_ops.specs.declared.envelope.Envelope.TheVariants as envelope
use Rattle.layout_ops.specs.declared.messages.Answer.{Answer}
use Rattle.layout_ops.specs.Spelling.{EnvelopeFits}
use Rattle.layout_ops.proofs.Whole.{all_again}
use Rattle.server_rules.specs.declared.limits.TheConstants.{MAX_CLIENT}
use Rattle.server_rules.specs.Answers.{recalls_from}
use Rattle.server_rules.specs.Envelopes.{message_in, by_envelope, request_with}
use Rattle.server_rules.specs.Files.{file_at, at_file, to_drives}
use Rattle.server_rules.specs.Laws.{In}
use Rattle.server_rules.specs.Messages.{Asks, counters_have_room, on_message}
use Rattle.server_rules.specs.Requests.{serves, answer_with, answer_without, carries_out, by_admit, on_request}
use Rattle.server_rules.specs.Served.{Served}
use Rattle.server_rules.specs.Slots.{Admit, New, Again, Misordered, slot_of, admit}
use Rattle.server_rules.proofs.Members.{in_behind}
use Rattle.scenario_text.specs.declared.line.Delivery.TheVariants as delivery
use Rattle.world_history.specs.ClientNames.{Request}
use Rattle.world_history.specs.ServerNames.{Server, Slot, File, ClientRequest, Outgoing, Answers, RequestArgs}
use Rattle.world_history.specs.State.{World}
use Rattle.world_history.specs.Names.{is_named}
use Rattle.world_history.specs.Handed.{Handed, quiet, server_did, for_server, server_takes, handed_to}
use Rattle.history_law.specs.Said.{posted}
use Rattle.exchange_law.specs.Messages.{IsSlotOf}
use Rattle.exchange_law.proofs.Admitting.{is_last}
use Rattle.cause_law.specs.Reports.{CanBeRead}
use Rattle.cause_law.proofs.Sends.{request_message, answer_message, answer_sent}

-- among what is sent is an answer to client c with this number
pub record IsAnswered (c n : ℕ) (os : List Outgoing) : Type 0 where
  pub answer : Answer
  pub there : In (Answers answer) os
  pub client : answer.client ≡ c
  pub sequence : answer.sequence ≡ n

-- ---- the server's step

module _ (s : Server) (now : ℕ) (chosen : List ℕ) (q : ClientRequest)
    (slots : (k : Slot) → slot_of s.slots q.client ≡ Some k → IsSlotOf q.client k) where
  carried : (o : Option File) → IsAnswered q.client q.sequence (carries_out s now chosen q o).sends
  carried None = record { answer = answer_without q; there = inl refl; client = refl; sequence = refl }
  carried (Some f) =
      let v : Served = serves (at_file s chosen f) s.next_grant s.format now q.client q.args in
      let a : Answer = answer_with s q v in
      record {
        answer = a;
        there =
            in_behind (Answers a) (to_drives s.drives v.going.effects.sent) _
            (in_behind (Answers a) (recalls_from s.next_recall v.recalled) (Answers a ∷ []) (inl refl));
        client = refl;
        sequence = refl;
      }

  admitted : (a : Admit) → admit (slot_of s.slots q.client) q.sequence ≡ a
      → IsAnswered q.client q.sequence (by_admit s now chosen q a).sends
  admitted New is = carried (file_at s.files q.file)
  admitted (Again kept) is =
      let it = is_last (slot_of s.slots q.client) q.sequence kept is in
      let slot = slots it.slot it.there in
      record {
        answer = kept;
        there = inl refl;
        client = ap (λ (a : Answer). a.client) (sym it.answer) ∙ slot.client;
        sequence = ap (λ (a : Answer). a.sequence) (sym it.answer) ∙ slot.sequence ∙ sym it.last;
      }
  admitted (Misordered expected) is = record { answer = _; there = inl refl; client = refl; sequence = refl }

  request_answered : IsAnswered q.client q.sequence (on_request s now chosen q).sends
  unfolding on_request
  request_answered = admitted (admit (slot_of s.slots q.client) q.sequence) refl

  -- the server takes it, while its counters have room
  message_answered : q.client ≤ MAX_CLIENT → counters_have_room s ≡ true
      → IsAnswered q.client q.sequence (on_message s now chosen (node.Client q.client) (Asks q)).sends
  unfolding on_message
  message_answered named room =
      let test : ((q.client == q.client) && nat_le q.client MAX_CLIENT) ≡ true =
      rw (eq-eqb q.client q.client refl) (grind (arith, nat_tests, named)) in
      rw (room, test) request_answered

-- ---- a message

module _ (w : World) (chosen : List ℕ) (c : ℕ) (r : Request) (client : r.client ≡ c) (read : CanBeRead r.args)
    (fits : EnvelopeFits (envelope.Request r)) where
  abbrev as_read : ClientRequest
  as_read = record { client = r.client; sequence = r.sequence; file = r.file; args = read.asks }

  is_read : for_server (request_message c r) ≡ Some (Asks as_read)
  unfolding message_in
  is_read =
      ap by_envelope (all_again (envelope.Request r) fits)
      ∙ ap (λ (o : Option RequestArgs). request_with r o) read.read

  -- it is answered
  pub record IsReplied (h : Handed) : Type 0 where
    pub answer : Answer
    pub sent : In (answer_message c answer) (posted h.posts)
    pub to : answer.client ≡ c
    pub sequence : answer.sequence ≡ r.sequence

  pub is_replied : w.down ≡ false → counters_have_room w.server ≡ true → c ≤ MAX_CLIENT
      → is_named (node.Client c) ≡ true
      → ((k : Slot) → slot_of w.server.slots c ≡ Some k → IsSlotOf c k)
      → IsReplied (handed_to w chosen (request_message c r) node.Server)
  is_replied up room low named slots =
      let said : handed_to w chosen (request_message c r) node.Server
      ≡ server_did w (on_message w.server w.clock chosen (node.Client c) (Asks as_read)) =
      ap (λ (b : Bool). if b then quiet w delivery.Deaf
      else server_takes w chosen (node.Client c) (for_server (request_message c r))) up
      ∙ ap (server_takes w chosen (node.Client c)) is_read in
      let it : IsAnswered c r.sequence (on_message w.server w.clock chosen (node.Client c) (Asks as_read)).sends =
      subst (λ (n : ℕ). IsAnswered n r.sequence (on_message w.server w.clock chosen (node.Client n) (Asks as_read)).sends) client
      (message_answered w.server w.clock chosen as_read
      (subst (λ (n : ℕ). (k : Slot) → slot_of w.server.slots n ≡ Some k → IsSlotOf n k) (sym client) slots)
      (omega (arith, client, low)) room) in
      record {
        answer = it.answer;
        sent =
            subst (λ (x : Handed). In (answer_message c it.answer) (posted x.posts)) (sym said)
            (answer_sent c it.answer _ it.there it.client named);
        to = it.client;
        sequence = it.sequence;
      }
