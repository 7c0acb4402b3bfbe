-- What the server's answers give is of one of its files, as it was at some moment of its run.
use Rattle.std.proofs.Common.{◌≡◌, ℕ, ◌++◌, ◌∷◌, [], List, Option, Some, None, inl, inr, refl, sym, ap, subst, ◌∙◌, append_assoc}
use Rattle.std.proofs.lemmas.Bool.{cases_eq, ne_eqb}
use Rattle.layout_ops.specs.declared.results.LayoutGetOk.{LayoutGetOk}
use Rattle.layout_ops.specs.declared.results.LayoutGetResult.TheVariants as get
use Rattle.layout_ops.specs.declared.results.Results.TheVariants as results
use Rattle.layout_ops.specs.declared.messages.Answer.{Answer}
use Rattle.world_history.specs.ServerNames.{Server, File, Kept, Drive, Grant, Slot, ClientRequest}
use Rattle.server_rules.specs.Answers.{result_with}
use Rattle.server_rules.specs.Files.{Step, file_at, at_file}
use Rattle.server_rules.specs.History.{Act, Input, step, state_after}
use Rattle.server_rules.specs.Layouts.{granted}
use Rattle.server_rules.specs.Making.{new_server}
use Rattle.server_rules.specs.Requests.{serves, carried_out, carries_out, by_admit, on_request}
use Rattle.server_rules.specs.Served.{Served}
use Rattle.server_rules.specs.Slots.{Admit, New, Again, Misordered, slot_of, admit, keep}
use Rattle.server_rules.proofs.FileLaws.{number_at, put_same, keep_same, keep_other}
use Rattle.history_law.specs.Granted.{NumbersFit}
use Rattle.history_law.proofs.Running.{server_more}
use Rattle.exchange_law.specs.Made.{answer_at, answer_to}
use Rattle.history_law.specs.Answers.{ServerDid, Quiet, Asked}
use Rattle.history_law.proofs.Answers.{step_did}
use Rattle.exchange_law.proofs.SlotServing.{Comes, request_comes}
use Rattle.exchange_law.specs.Meeting.{IsFitting}
use Rattle.exchange_law.proofs.HeldAsking.{NoGetAsked, none_told}
use Rattle.exchange_law.proofs.HeldServing.{serves_may}
use Rattle.component_law.proofs.PartyStepping.{told_found, none_given}

-- ---- an answer that gives a layout

-- the layout is that of a file, under a grant whose numbers fit
pub record GivesOf (f : Kept) (ok : LayoutGetOk) : Type 0 where
  pub drives : List Drive
  pub grant : Grant
  pub is : ok ≡ granted drives f grant
  pub fits : NumbersFit drives f grant

-- at a front of the run the file with this number was so
pub record IsFileAt (acts : List Act) (number : ℕ) (f : File) : Type 0 where
  pub before : List Act
  pub after : List Act
  pub run : acts ≡ before ++ after
  pub found : file_at (state_after (new_server []) before).files number ≡ Some f

pub record WasGiven (acts : List Act) (number : ℕ) (ok : LayoutGetOk) : Type 0 where
  pub file : File
  pub there : IsFileAt acts number file
  pub gives : GivesOf file.kept ok

abbrev pub AnswerGiven : List Act → Answer → Type 0
AnswerGiven acts a = (ok : LayoutGetOk) → a.results ≡ results.LayoutGet (get.Granted ok) → WasGiven acts a.file ok

-- ---- behind more of the run

pub file_later : (acts more : List Act) (n : ℕ) (f : File) → IsFileAt acts n f → IsFileAt (acts ++ more) n f
file_later acts more n f x = record {
  before = x.before;
  after = x.after ++ more;
  run = ap (λ (l : List Act). l ++ more) x.run ∙ append_assoc x.before x.after more;
  found = x.found;
}

pub given_later : (acts more : List Act) (a : Answer) → AnswerGiven acts a → AnswerGiven (acts ++ more) a
given_later acts more a x ok e =
    let y = x ok e in
    record { file = y.file; there = file_later acts more a.file y.file y.there; gives = y.gives }

-- ---- a new answer

abbrev pub AllFitting : Server → Type 0
AllFitting s = (n : ℕ) (f : File) → file_at s.files n ≡ Some f → IsFitting s f

-- the file is as the step left it
pub record GivesThere (t : Server) (number : ℕ) (ok : LayoutGetOk) : Type 0 where
  pub file : File
  pub found : file_at t.files number ≡ Some file
  pub gives : GivesOf file.kept ok

results_granted : (x y : LayoutGetOk) → results.LayoutGet (get.Granted x) ≡ results.LayoutGet (get.Granted y) → x ≡ y
results_granted x y e = cc e

module _ (s : Server) (now : ℕ) (chosen : List ℕ) (q : ClientRequest) where
  module _ (f : File) (at : file_at s.files q.file ≡ Some f) where
    abbrev v : Served
    v = serves (at_file s chosen f) s.next_grant s.format now q.client q.args

    told_there : (g : Option Grant) → v.told.grant ≡ g → AllFitting (carried_out s q v).state → (ok : LayoutGetOk)
        → result_with s.drives v.going.file.kept q.args v.told.status g ≡ results.LayoutGet (get.Granted ok)
        → GivesThere (carried_out s q v).state q.file ok
    told_there None told fit ok e = absurd (none_given q.args v.told.status ok e)
    told_there (Some g) told fit ok e =
        let number : v.going.file.kept.number ≡ q.file =
        (serves_may (at_file s chosen f) s.next_grant s.format now q.client q.args).number
        ∙ number_at s.files q.file f at in
        let there : file_at (carried_out s q v).state.files q.file ≡ Some v.going.file =
        put_same s.files q.file v.going.file f number at in
        record {
          file = v.going.file;
          found = there;
          gives = record {
            drives = s.drives;
            grant = g;
            is = sym (results_granted (granted s.drives v.going.file.kept g) ok e);
            fits =
                (fit q.file v.going.file there).fits q.client g
                (told_found (at_file s chosen f) s.next_grant s.format now q.client q.args g told);
          };
        }

  given_at : (o : Option File) → file_at s.files q.file ≡ o → AllFitting (carries_out s now chosen q o).state
      → (ok : LayoutGetOk) → (answer_at s now chosen q o).results ≡ results.LayoutGet (get.Granted ok)
      → GivesThere (carries_out s now chosen q o).state q.file ok
  given_at None at fit ok e = absurd (none_given q.args _ ok e)
  given_at (Some f) at fit ok e = told_there f at (v f at).told.grant refl fit ok e

  answer_file_at : (o : Option File) → (answer_at s now chosen q o).file ≡ q.file
  answer_file_at None = refl
  answer_file_at (Some f) = refl

  pub answer_file : (answer_to s now chosen q).file ≡ q.file
  answer_file = answer_file_at (file_at s.files q.file)

  no_get_at : (o : Option File) → NoGetAsked q.args → (ok : LayoutGetOk)
      → (answer_at s now chosen q o).results ≡ results.LayoutGet (get.Granted ok) → ⊥
  no_get_at None asks ok e = none_given q.args _ ok e
  no_get_at (Some f) asks ok e = by (w.told.grant) refl e
    where
      w : Served
      w = serves (at_file s chosen f) s.next_grant s.format now q.client q.args

      by : (g : Option Grant) → w.told.grant ≡ g
          → result_with s.drives w.going.file.kept q.args w.told.status g ≡ results.LayoutGet (get.Granted ok) → ⊥
      by None told x = none_given q.args w.told.status ok x
      by (Some g) told x = none_told (at_file s chosen f) s.next_grant s.format now q.client q.args g asks told

  -- what is no LAYOUTGET is given none
  pub no_get_given : NoGetAsked q.args → (ok : LayoutGetOk)
      → (answer_to s now chosen q).results ≡ results.LayoutGet (get.Granted ok) → ⊥
  no_get_given asks ok e = no_get_at (file_at s.files q.file) asks ok e

  pub new_there : admit (slot_of s.slots q.client) q.sequence ≡ New → AllFitting (on_request s now chosen q).state
      → (ok : LayoutGetOk) → (answer_to s now chosen q).results ≡ results.LayoutGet (get.Granted ok)
      → GivesThere (on_request s now chosen q).state q.file ok
  unfolding on_request
  new_there new fit ok e =
      subst (λ (a : Admit). GivesThere (by_admit s now chosen q a).state q.file ok) (sym new)
      (given_at (file_at s.files q.file) refl
      (subst (λ (a : Admit). AllFitting (by_admit s now chosen q a).state) new fit) ok e)

-- ---- a step of the server

abbrev pub SlotsGiven : List Act → Server → Type 0
SlotsGiven acts s = (c : ℕ) (t : Slot) → slot_of s.slots c ≡ Some t → AnswerGiven acts t.kept

append_none : (xs : List Act) → xs ≡ xs ++ []
append_none [] = refl
append_none (x ∷ xs) = ap (λ (l : List Act). x ∷ l) (append_none xs)

module _ (acts : List Act) (s : Server) (is : s ≡ state_after (new_server []) acts) (chosen : List ℕ) (i : Input)
    (fit : AllFitting (step s chosen i).state) (slots : SlotsGiven acts s) where
  abbrev act : Act
  act = record { input = i; chosen = chosen }

  abbrev pub more : List Act
  more = acts ++ act ∷ []

  pub runs_on : (step s chosen i).state ≡ state_after (new_server []) more
  runs_on =
      ap (λ (x : Server). (step x chosen i).state) is ∙ sym (server_more (new_server []) acts act)

  same_slots : (t : Server) → t.slots ≡ s.slots → SlotsGiven more t
  same_slots t same c slot e =
      given_later acts (act ∷ []) slot.kept
      (slots c slot (ap (λ (ss : List Slot). slot_of ss c) (sym same) ∙ e))

  there_given : (n : ℕ) (ok : LayoutGetOk) → GivesThere (step s chosen i).state n ok → WasGiven more n ok
  there_given n ok x = record {
    file = x.file;
    there = record {
      before = more;
      after = [];
      run = append_none more;
      found = subst (λ (y : Server). file_at y.files n ≡ Some x.file) runs_on x.found;
    };
    gives = x.gives;
  }

  module _ (now : ℕ) (q : ClientRequest) (done : step s chosen i ≡ on_request s now chosen q) where
    abbrev mine : Slot
    mine = record { client = q.client; last = q.sequence; kept = answer_to s now chosen q }

    new_given : admit (slot_of s.slots q.client) q.sequence ≡ New → AnswerGiven more (answer_to s now chosen q)
    new_given new ok e =
        subst (λ (n : ℕ). WasGiven more n ok) (sym (answer_file s now chosen q))
        (there_given q.file ok
        (subst (λ (t : Step). GivesThere t.state q.file ok) (sym done)
        (new_there s now chosen q new (subst (λ (t : Step). AllFitting t.state) done fit) ok e)))

    new_slots : admit (slot_of s.slots q.client) q.sequence ≡ New → (t : Server) → t.slots ≡ keep s.slots mine
        → SlotsGiven more t
    new_slots new t same c slot e = elim (cases_eq q.client c) [
      | inl here ↦
          let there : slot_of t.slots c ≡ Some mine =
          ap (λ (ss : List Slot). slot_of ss c) same
          ∙ ap (slot_of (keep s.slots mine)) (sym here) ∙ keep_same s.slots mine in
          let its : mine ≡ slot = cc (sym there ∙ e) in
          subst (λ (y : Slot). AnswerGiven more y.kept) its (new_given new)
      | inr other ↦
          given_later acts (act ∷ []) slot.kept
          (slots c slot
          (sym (keep_other s.slots mine c (ne_eqb q.client c other))
          ∙ ap (λ (ss : List Slot). slot_of ss c) (sym same) ∙ e))
    ]

    by_comes : (a : Admit) → admit (slot_of s.slots q.client) q.sequence ≡ a
        → Comes s now chosen q a (on_request s now chosen q) → SlotsGiven more (on_request s now chosen q).state
    by_comes New e x = new_slots e (on_request s now chosen q).state x.slots
    by_comes (Again kept) e x = same_slots (on_request s now chosen q).state (ap (λ (y : Server). y.slots) x.0)
    by_comes (Misordered expected) e x = same_slots (on_request s now chosen q).state (ap (λ (y : Server). y.slots) x.0)

    asked_slots : SlotsGiven more (step s chosen i).state
    asked_slots =
        subst (λ (t : Step). SlotsGiven more t.state) (sym done)
        (by_comes (admit (slot_of s.slots q.client) q.sequence) refl (request_comes s now chosen q))

  did_slots : ServerDid s chosen i (step s chosen i) → SlotsGiven more (step s chosen i).state
  did_slots (Quiet x) = same_slots (step s chosen i).state x.slots
  did_slots (Asked now q is done) = asked_slots now q done

  pub step_slots : SlotsGiven more (step s chosen i).state
  step_slots = did_slots (step_did s chosen i)
