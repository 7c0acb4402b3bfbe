-- An answer that the server keeps on a file that there isn't gives no layout, and has size 0.
-- Towards `EachFileIsCreated` (`file_simulation/specs/Simulation.antt`).
use Rattle.std.proofs.Common.{◌≡◌, ◌⊎◌, ℕ, List, Option, Some, None, refl, sym, ap, subst, ◌∙◌, inl, inr}
use Rattle.std.proofs.lemmas.Bool.{cases_eq, ne_eqb}
use Rattle.std.proofs.lemmas.Option.{same_Some}
use Rattle.layout_ops.specs.declared.messages.Answer.{Answer}
use Rattle.server_rules.specs.Files.{Step, at_file, file_at}
use Rattle.server_rules.specs.History.{Input, step}
use Rattle.server_rules.specs.Orders.{declare}
use Rattle.layout_ops.specs.declared.statuses.TheConstants.{NFS4ERR_SEQ_MISORDERED}
use Rattle.server_rules.specs.Answers.{plain_answer}
use Rattle.server_rules.specs.Served.{tells}
use Rattle.server_rules.specs.Requests.{answer_with, answer_without, carried_out, keeps, only_answers, serves, size_in}
use Rattle.server_rules.specs.Slots.{keep, slot_of}
use Rattle.server_rules.proofs.FileLaws.{keep_same, keep_other, number_at, put_same}
use Rattle.client_rules.specs.Results.{layouts_in}
use Rattle.world_history.specs.Sending.{Move, move}
use Rattle.world_history.specs.ServerNames.{Server, File, Slot, ClientRequest, RequestArgs, Get, Commit, Return}
use Rattle.world_history.specs.State.{World}
use Rattle.history_law.specs.Moments.{IsReached}
use Rattle.history_law.specs.Doing.{input_in}
use Rattle.history_law.specs.Steps.{StepCases, RequestCases}
use Rattle.history_law.proofs.Reached.{always}
use Rattle.history_law.proofs.Steps.{each_step, each_request}
use Rattle.component_law.specs.Distinct.{AreDistinct}
use Rattle.relation_law.proofs.FramesFiles.{move_stays}
use Rattle.relation_law.proofs.FramesRan.{same_serves}
use Rattle.relation_law.proofs.FramesParties.{server_rests, server_steps}

-- no layout, and size 0
abbrev pub GivesNothing : Answer → Type 0
GivesNothing a = (layouts_in a.results ≡ None) × (a.size ≡ 0)

-- the server has the file
abbrev pub IsFile : Server → ℕ → Type 0
IsFile s n = (g : File) × (file_at s.files n ≡ Some g)

without_gives : (q : ClientRequest) (args : RequestArgs) → q.args ≡ args → GivesNothing (answer_without q)
without_gives q (Get iomode offset count) is = rw is (refl, refl)
without_gives q (Commit last) is = rw is (refl, refl)
without_gives q (Return report) is = rw is (refl, refl)

-- ---- a step

module _ (s : Server) (chosen : List ℕ) (i : Input) where
  -- each slot is as it was, or keeps an answer that gives nothing, or one on a file that there is
  abbrev Slots : Step → Type 0
  Slots t =
      (c : ℕ) (slot : Slot) → slot_of t.state.slots c ≡ Some slot →
      (slot_of s.slots c ≡ Some slot) ⊎ (GivesNothing slot.kept ⊎ IsFile t.state slot.kept.file)

  same : (t : Step) → t.state.slots ≡ s.slots → Slots t
  same t e c slot there = inl (ap (λ (ss : List Slot). slot_of ss c) (sym e) ∙ there)

  kept : (t : Step) (a : Answer) →
      t.state.slots ≡ keep s.slots (record { client = a.client; last = a.sequence; kept = a }) →
      GivesNothing a ⊎ IsFile t.state a.file → Slots t
  kept t a is fine c slot there = elim (cases_eq c a.client) [
    | inl here ↦
        let mine : Slot = record { client = a.client; last = a.sequence; kept = a } in
        let same_slot : mine ≡ slot =
        same_Some mine slot (sym (keep_same s.slots mine) ∙ ap (slot_of (keep s.slots mine)) (sym here)
        ∙ ap (λ (ss : List Slot). slot_of ss c) (sym is) ∙ there) in
        inr (subst (λ (z : Slot). GivesNothing z.kept ⊎ IsFile t.state z.kept.file) same_slot fine)
    | inr other ↦
        let mine : Slot = record { client = a.client; last = a.sequence; kept = a } in
        inl (sym (keep_other s.slots mine c (ne_eqb a.client c (λ e. other (sym e))))
        ∙ ap (λ (ss : List Slot). slot_of ss c) (sym is) ∙ there)
  ]

  requests : (now : ℕ) (q : ClientRequest) → RequestCases s now chosen q Slots
  requests now q = record {
    again = λ old is. same (only_answers s old) refl;
    misordered = λ expected is.
        same (only_answers s (plain_answer q (tells NFS4ERR_SEQ_MISORDERED expected) (size_in (file_at s.files q.file)))) refl;
    without = λ is none.
        kept (only_answers (keeps s (answer_without q)) (answer_without q)) (answer_without q) refl
        (inl (without_gives q q.args refl));
    served = λ is f found.
        let v = serves (at_file s chosen f) s.next_grant s.format now q.client q.args in
        kept (carried_out s q v) (answer_with s q v) refl
        (inr (
          v.going.file,
          put_same s.files q.file v.going.file f
              ((same_serves (at_file s chosen f) s.next_grant s.format now q.client q.args).number
              ∙ number_at s.files q.file f found) found,
        ));
  }

  cases : StepCases s chosen i Slots
  unfolding declare
  cases = record {
    rests = λ c slot there. inl there;
    asked = λ now q is. each_request s now chosen q Slots (requests now q);
    answered = λ x is c slot there. inl there;
    recalled = λ f is c slot there. inl there;
    refused = λ f is n why c slot there. inl there;
    fenced = λ f is kind none low c slot there. inl there;
    declared = λ d known c slot there. inl there;
    told = λ t now o is result h. h;
    made = λ n m tag zoned is none c slot there. inl there;
    added = λ d is c slot there. inl there;
    zoned = λ d zone is c slot there. inl there;
    formats = λ n is c slot there. inl there;
    resends = λ is c slot there. inl there;
    crashes = λ is c slot there. inl there;
    opened = λ is low c slot there. inl there;
  }

  step_slots : Slots (step s chosen i)
  step_slots = each_step s chosen i Slots cases

-- ---- at each moment

-- what the server keeps on a file that it doesn't have gives nothing
abbrev pub AbsentGiveNothing : World → Type 0
AbsentGiveNothing w =
    (c : ℕ) (slot : Slot) → slot_of w.server.slots c ≡ Some slot → file_at w.server.files slot.kept.file ≡ None →
    GivesNothing slot.kept

module _ (w : World) (m : Move) (distinct : AreDistinct w.server.files) (before : AbsentGiveNothing w) where
  gone_before : (o : Option File) (n : ℕ) → file_at w.server.files n ≡ o → file_at (move w m).world.server.files n ≡ None →
      file_at w.server.files n ≡ None
  gone_before None n is gone = is
  gone_before (Some f) n is gone =
      let there = (move_stays w m distinct).2 n f is in
      absurd (cc (sym gone ∙ there.1))

  by_input : (o : Option Input) → input_in w m.action ≡ o → AbsentGiveNothing (move w m).world
  by_input None none = λ c slot there gone.
      before c slot (ap (λ (s : Server). slot_of s.slots c) (sym (server_rests w m none)) ∙ there)
      (gone_before (file_at w.server.files slot.kept.file) slot.kept.file refl gone)
  by_input (Some i) is = λ c slot there gone.
      let goes : (move w m).world.server ≡ (step w.server m.chosen i).state = server_steps w m i is in
      elim (step_slots w.server m.chosen i c slot (ap (λ (s : Server). slot_of s.slots c) (sym goes) ∙ there)) [
        | inl old ↦ before c slot old (gone_before (file_at w.server.files slot.kept.file) slot.kept.file refl gone)
        | inr (inl nothing) ↦ nothing
        | inr (inr it) ↦
            absurd (cc (sym gone ∙ ap (λ (s : Server). file_at s.files slot.kept.file) goes ∙ it.1))
      ]

pub absent_give_nothing : (w : World) → IsReached w → AbsentGiveNothing w
absent_give_nothing w k =
    (always (λ (v : World). AreDistinct v.server.files × AbsentGiveNothing v) (record {
      starts = (tt, λ c slot there. absurd (cc there));
      moves = λ v m old.
          ((move_stays v m old.0).0, by_input v m old.0 old.1 (input_in v m.action) refl);
    }) w k).1
