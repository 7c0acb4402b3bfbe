-- What a request of a client comes to: its answer is kept and sent, or one that was kept is sent once more.
use Rattle.std.proofs.Common.{◌≡◌, ℕ, List, Option, Some, None, refl, sym, ap}
use Rattle.world_history.specs.ServerNames.{Server, File, Answer, ClientRequest}
use Rattle.server_rules.specs.Answers.{recalls_from}
use Rattle.server_rules.specs.Files.{Step, at_file, file_at, to_drives}
use Rattle.server_rules.specs.Served.{Served}
use Rattle.server_rules.specs.Slots.{Admit, New, Again, Misordered, slot_of, admit, keep}
use Rattle.server_rules.specs.Requests.{serves, answer_with, answer_without, carries_out, by_admit, on_request}
use Rattle.history_law.specs.Answers.{AnswersOnly}
use Rattle.history_law.proofs.Answers.{more_only, drives_only, recalls_only}
use Rattle.exchange_law.specs.Made.{answer_at, answer_to}

-- a new one leaves its answer in the slot, and is answered so
pub record IsNew (s : Server) (now : ℕ) (chosen : List ℕ) (q : ClientRequest) (t : Step) : Type 0 where
  pub slots : t.state.slots ≡ keep s.slots (record {
    client = q.client;
    last = q.sequence;
    kept = answer_to s now chosen q;
  })
  pub sends : AnswersOnly (λ a. a ≡ answer_to s now chosen q) t.sends

new_at : (s : Server) (now : ℕ) (chosen : List ℕ) (q : ClientRequest) (f : Option File) → file_at s.files q.file ≡ f
    → IsNew s now chosen q (carries_out s now chosen q f)
new_at s now chosen q None is =
    let it : answer_without q ≡ answer_to s now chosen q = ap (answer_at s now chosen q) (sym is) in
    record {
      slots = ap (λ (a : Answer). keep s.slots (record { client = q.client; last = q.sequence; kept = a })) it;
      sends = (it, tt);
    }
new_at s now chosen q (Some f) is =
    let v : Served = serves (at_file s chosen f) s.next_grant s.format now q.client q.args in
    let it : answer_with s q v ≡ answer_to s now chosen q = ap (answer_at s now chosen q) (sym is) in
    record {
      slots = ap (λ (a : Answer). keep s.slots (record { client = q.client; last = q.sequence; kept = a })) it;
      sends =
          more_only _ (to_drives s.drives v.going.effects.sent) _ (drives_only _ s.drives v.going.effects.sent)
          (more_only _ (recalls_from s.next_recall v.recalled) _ (recalls_only _ s.next_recall v.recalled) (it, tt));
    }

-- what a request comes to
abbrev pub Comes : Server → (now : ℕ) → (chosen : List ℕ) → ClientRequest → Admit → Step → Type 0
Comes s now chosen q New t = IsNew s now chosen q t
Comes s now chosen q (Again kept) t = (t.state ≡ s) × AnswersOnly (λ a. a ≡ kept) t.sends
Comes s now chosen q (Misordered expected) t =
    (t.state ≡ s) × AnswersOnly (λ a. (a.client ≡ q.client) × (a.sequence ≡ q.sequence)) t.sends

admitted : (s : Server) (now : ℕ) (chosen : List ℕ) (q : ClientRequest) (a : Admit)
    → Comes s now chosen q a (by_admit s now chosen q a)
admitted s now chosen q New = new_at s now chosen q (file_at s.files q.file) refl
admitted s now chosen q (Again kept) = (refl, (refl, tt))
admitted s now chosen q (Misordered expected) = (refl, ((refl, refl), tt))

pub request_comes : (s : Server) (now : ℕ) (chosen : List ℕ) (q : ClientRequest)
    → Comes s now chosen q (admit (slot_of s.slots q.client) q.sequence) (on_request s now chosen q)
unfolding on_request
request_comes s now chosen q = admitted s now chosen q (admit (slot_of s.slots q.client) q.sequence)
