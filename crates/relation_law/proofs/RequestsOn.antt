-- The step of a new request, and the slot that it leaves; of any other message a client's slot stays.
use Rattle.std.proofs.Common.{◌≡◌, ◌≤◌, ◌==◌, ℕ, true, false, List, [], ◌∷◌, ◌++◌, Some, refl, sym, ap, subst, ◌∙◌, append_assoc}
use Rattle.std.specs.Prelude.{◌&&◌, nat_le}
use Rattle.std.proofs.lemmas.Bool.{and_parts, and_from, eqb-true, eq-eqb, leb-true, le-leb, true≢false}
use Rattle.osd_lists.specs.declared.node.Node.TheVariants as node
use Rattle.server_rules.specs.declared.limits.TheConstants.{MAX_CLIENT}
use Rattle.server_rules.specs.Answers.{recalls_from}
use Rattle.server_rules.specs.Files.{Step, file_at, put_file, at_file, to_drives}
use Rattle.server_rules.specs.History.{Input, Hears, step}
use Rattle.server_rules.specs.Laws.{is_taken_of}
use Rattle.server_rules.specs.Messages.{Asks, counters_have_room, on_message}
use Rattle.server_rules.specs.Requests.{on_request, serves, answer_without, answer_with}
use Rattle.server_rules.specs.Served.{Served}
use Rattle.server_rules.specs.Slots.{Admit, New, Again, Misordered, slot_of, admit}
use Rattle.server_rules.proofs.FileLaws.{number_at, put_same}
use Rattle.world_history.specs.ServerNames.{Server, File, Slot, ClientRequest, Answers}
use Rattle.history_law.specs.Answers.{Never, ServerDid, Quiet, Asked}
use Rattle.history_law.specs.Steps.{IsAsked}
use Rattle.history_law.proofs.Answers.{more_only, drives_only, recalls_only, step_did}
use Rattle.history_law.proofs.Steps.{each_request}
use Rattle.file_simulation.specs.ServerEvents.{is_served, is_new}
use Rattle.relation_law.specs.RequestsGoing.{is_served_in, IsAnsweredBy}
use Rattle.relation_law.proofs.FramesRan.{same_serves}

-- ---- a new request is carried out

module _ (s : Server) (now : ℕ) (chosen : List ℕ) (q : ClientRequest) where
  new_answered : admit (slot_of s.slots q.client) q.sequence ≡ New
      → IsAnsweredBy s now chosen q (on_request s now chosen q)
  new_answered new = each_request s now chosen q (IsAnsweredBy s now chosen q) (record {
    again = λ kept is. absurd (cc (sym new ∙ is));
    misordered = λ expected is. absurd (cc (sym new ∙ is));
    without = λ is none. record {
      answer = answer_without q;
      others = [];
      none = tt;
      sends = refl;
      slots = refl;
      drives = refl;
      on_file = λ f at. absurd (cc (sym none ∙ at));
    };
    served = λ is f at.
        let v : Served = serves (at_file s chosen f) s.next_grant s.format now q.client q.args in
        record {
          answer = answer_with s q v;
          others = to_drives s.drives v.going.effects.sent ++ recalls_from s.next_recall v.recalled;
          none = more_only Never (to_drives s.drives v.going.effects.sent) (recalls_from s.next_recall v.recalled)
              (drives_only Never s.drives v.going.effects.sent) (recalls_only Never s.next_recall v.recalled);
          sends = sym (append_assoc (to_drives s.drives v.going.effects.sent) (recalls_from s.next_recall v.recalled)
              (Answers (answer_with s q v) ∷ []));
          slots = refl;
          drives = refl;
          on_file = λ e there.
              let same : f ≡ e = cc (sym at ∙ there) in
              subst (λ (y : File). (answer_with s q v
              ≡ answer_with s q (serves (at_file s chosen y) s.next_grant s.format now q.client q.args))
              × (file_at (put_file s.files q.file v.going.file) q.file
              ≡ Some (serves (at_file s chosen y) s.next_grant s.format now q.client q.args).going.file)) same (
                refl,
                put_same s.files q.file v.going.file f
                    ((same_serves (at_file s chosen f) s.next_grant s.format now q.client q.args).number
                    ∙ number_at s.files q.file f at) at,
              );
        };
  })

-- ---- a request that is served

-- it is taken, of the client that it names, and new
pub record IsServed (s : Server) (c : ℕ) (q : ClientRequest) : Type 0 where
  pub client : q.client ≡ c
  pub named : c ≤ MAX_CLIENT
  pub room : counters_have_room s ≡ true
  pub new : admit (slot_of s.slots c) q.sequence ≡ New

new_is : (a : Admit) → is_new a ≡ true → a ≡ New
new_is New is = refl
new_is (Again kept) is = absurd (true≢false (sym is))
new_is (Misordered expected) is = absurd (true≢false (sym is))

pub served_is : (s : Server) (c : ℕ) (q : ClientRequest) → is_served s c q ≡ true → IsServed s c q
served_is s c q is =
    let both = and_parts (is_taken_of s c c q) (is_new (admit (slot_of s.slots c) q.sequence)) is in
    let room = (and_parts (c == c) (counters_have_room s && ((q.client == c) && nat_le c MAX_CLIENT)) both.0).1 in
    let parts = and_parts (counters_have_room s) ((q.client == c) && nat_le c MAX_CLIENT) room in
    let named = and_parts (q.client == c) (nat_le c MAX_CLIENT) parts.1 in
    record {
      client = eqb-true q.client c named.0;
      named = leb-true c MAX_CLIENT named.1;
      room = parts.0;
      new = new_is (admit (slot_of s.slots c) q.sequence) both.1;
    }

module _ (s : Server) (chosen : List ℕ) (now c : ℕ) (q : ClientRequest) where
  pub on_it : IsServed s c q → step s chosen (Hears now (node.Client c) (Asks q)) ≡ on_request s now chosen q
  unfolding on_message
  on_it k =
      rw (k.room, eq-eqb q.client c k.client, le-leb c MAX_CLIENT k.named) refl

  pub served_answered : IsServed s c q → IsAnsweredBy s now chosen q (step s chosen (Hears now (node.Client c) (Asks q)))
  served_answered k =
      subst (IsAnsweredBy s now chosen q) (sym (on_it k))
      (new_answered s now chosen q (ap (λ (n : ℕ). admit (slot_of s.slots n) q.sequence) k.client ∙ k.new))

-- ---- any other input

module _ (s : Server) (chosen : List ℕ) (c : ℕ) where
  asked_served : (i : Input) (now : ℕ) (q : ClientRequest) → IsAsked s i now q
      → admit (slot_of s.slots q.client) q.sequence ≡ New → is_served_in s i ≡ true
  asked_served i now q k new =
      ap (is_served_in s) k.is
      ∙ and_from (is_taken_of s q.client q.client q) (is_new (admit (slot_of s.slots q.client) q.sequence))
      (and_from (q.client == q.client) (counters_have_room s && ((q.client == q.client) && nat_le q.client MAX_CLIENT))
      (eq-eqb q.client q.client refl)
      (and_from (counters_have_room s) ((q.client == q.client) && nat_le q.client MAX_CLIENT) k.low
      (and_from (q.client == q.client) (nat_le q.client MAX_CLIENT) (eq-eqb q.client q.client refl)
      (le-leb q.client MAX_CLIENT k.named))))
      (ap is_new new)

  -- leaves each client's slot
  pub slot_unserved : (i : Input) → is_served_in s i ≡ false → slot_of (step s chosen i).state.slots c ≡ slot_of s.slots c
  slot_unserved i no_ = by_did (step_did s chosen i)
    where
      by_request : (now : ℕ) (q : ClientRequest) → IsAsked s i now q
          → slot_of (on_request s now chosen q).state.slots c ≡ slot_of s.slots c
      by_request now q k =
          each_request s now chosen q (λ (t : Step). slot_of t.state.slots c ≡ slot_of s.slots c) (record {
            again = λ kept is. refl;
            misordered = λ expected is. refl;
            without = λ new none. absurd (true≢false (sym (asked_served i now q k new) ∙ no_));
            served = λ new f at. absurd (true≢false (sym (asked_served i now q k new) ∙ no_));
          })

      by_did : ServerDid s chosen i (step s chosen i) → slot_of (step s chosen i).state.slots c ≡ slot_of s.slots c
      by_did (Quiet d) = ap (λ (l : List Slot). slot_of l c) d.slots
      by_did (Asked now q k is) = ap (λ (t : Step). slot_of t.state.slots c) is ∙ by_request now q k
