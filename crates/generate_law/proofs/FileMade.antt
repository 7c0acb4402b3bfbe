-- The scenario's file is made: from its event on each CREATE comes to its drive, each reply to the server, and its job is over.
use Rattle.std.proofs.Common.{◌≡◌, ◌+◌, ℕ, Bool, true, false, List, [], ◌∷◌, ◌++◌, find, Option, Some, None, refl, sym, ap, subst, ◌∙◌, arith}
use Rattle.std.proofs.lemmas.Bool.{eq-eqb}
use Rattle.osd_lists.specs.declared.node.Node.TheVariants as node
use Rattle.server_rules.specs.Going.{Going}
use Rattle.server_rules.specs.Files.{Step, at_file, put_file}
use Rattle.server_rules.specs.Jobs.{goes_on, waits_or_on}
use Rattle.server_rules.specs.Messages.{counters_have_room, heard_at, on_drive_reply, on_message, or_else, by_heard, Replies}
use Rattle.server_rules.specs.Replies.{answers, heard_by, hearing, is_done, on_reply, others}
use Rattle.world_history.specs.declared.messages.Posted.{Posted}
use Rattle.world_history.specs.ServerNames.{Awaited, Creates, Heard, Job, Server}
use Rattle.world_history.specs.State.{World, ClientAt}
use Rattle.world_history.specs.Plans.{due_pending, pending_from}
use Rattle.generate_law.proofs.Creates.{asked, reply_of}
use Rattle.generate_law.proofs.Chosen.{AreGood, apart}
use Rattle.generate_law.proofs.Making.{file_with, server_with, job_with, out_row, back_row, Stage, Hears, prompt, drive_takes, server_takes_it}
use Rattle.generate_law.proofs.Runs.{Goes, none_due}

-- ---- the server hears a reply

find_first : {A : Type 0} (p : A → Bool) (x : A) (xs : List A) → p x ≡ true → find p (x ∷ xs) ≡ Some x
find_first p x xs e = rw e refl

-- what is heard of component k
abbrev pub told_of : (k : ℕ) → Heard
told_of k = record { component = k; payload = [] }

module _ (ns : List ℕ) (k d : ℕ) (rest : List Awaited) (hs : List Heard)
    (left : others (asked k d ∷ rest) (1 + k) ≡ rest) (chosen : List ℕ) where
  abbrev pub job_now : Job
  job_now = job_with (asked k d ∷ rest) hs

  abbrev pub server_now : Server
  server_now = server_with ns (Some job_now) false

  abbrev pub going : Going
  going = at_file server_now chosen (file_with ns (Some job_now) false)

  its_own : answers d (reply_of k) (asked k d) ≡ true
  its_own = rw (eq-eqb (1 + k) (1 + k) refl, eq-eqb d d refl) refl

  abbrev pub goes_so : List Awaited → Step
  goes_so cs = by_heard server_now (Some (waits_or_on going job_now Creates cs (hs ++ told_of k ∷ [])))

  pub step_is : on_message server_now 0 chosen (node.Drive d) (Replies (reply_of k)) ≡ goes_so rest
  unfolding on_message counters_have_room on_drive_reply heard_at on_reply hearing is_done
  step_is =
      ap (λ (o : Option Awaited). by_heard server_now (or_else (heard_by going (reply_of k) job_now o) None))
      (find_first (answers d (reply_of k)) (asked k d) rest its_own)
      ∙ ap goes_so left

-- others are awaited still
pub hears_more : (ns : List ℕ) (k d : ℕ) (c : Awaited) (cs : List Awaited) (hs : List Heard)
    → others (asked k d ∷ c ∷ cs) (1 + k) ≡ c ∷ cs
    → Hears ns k d (Some (job_with (asked k d ∷ c ∷ cs) hs)) (Some (job_with (c ∷ cs) (hs ++ told_of k ∷ []))) false false
unfolding put_file
hears_more ns k d c cs hs left chosen =
    let e = step_is ns k d (c ∷ cs) hs left chosen in
    (ap (λ (x : Step). x.state) e, ap (λ (x : Step). x.sends) e)

-- this is the last one: the job is over
pub hears_last : (ns : List ℕ) (k d : ℕ) (hs : List Heard) → others (asked k d ∷ []) (1 + k) ≡ []
    → Hears ns k d (Some (job_with (asked k d ∷ []) hs)) None false true
unfolding put_file goes_on
hears_last ns k d hs left chosen =
    let e = step_is ns k d [] hs left chosen in
    (ap (λ (x : Step). x.state) e, ap (λ (x : Step). x.sends) e)

-- ---- from the first message to the last

module _ (a b c d e : ℕ) where
  abbrev pub ns : List ℕ
  ns = a ∷ b ∷ c ∷ d ∷ e ∷ []

  abbrev pub asked_all : List Awaited
  asked_all = asked 0 a ∷ asked 1 b ∷ asked 2 c ∷ asked 3 d ∷ asked 4 e ∷ []

  abbrev pub rows_out : List Posted
  rows_out =
      out_row 0 a false ∷ out_row 1 b false ∷ out_row 2 c false ∷ out_row 3 d false ∷ out_row 4 e false ∷ []

  abbrev pub rows_all : List Posted
  rows_all =
      out_row 0 a true ∷ out_row 1 b true ∷ out_row 2 c true ∷ out_row 3 d true ∷ out_row 4 e true
      ∷ back_row 0 a true ∷ back_row 1 b true ∷ back_row 2 c true ∷ back_row 3 d true ∷ back_row 4 e true ∷ []

  module _ (clients : List (ℕ × ClientAt)) where
    -- after all commands
    abbrev Performed : World → World → Type 0
    Performed w v =
        (u : World) × Stage ns (out_row 0 a true ∷ out_row 1 b true ∷ out_row 2 c true ∷ out_row 3 d true ∷ out_row 4 e true
        ∷ back_row 0 a false ∷ back_row 1 b false ∷ back_row 2 c false ∷ back_row 3 d false ∷ back_row 4 e false ∷ [])
        (Some (job_with asked_all [])) false [] clients u × Goes prompt u v

    performed : (w v : World) → AreGood ns → Stage ns rows_out (Some (job_with asked_all [])) false ns clients w → Goes prompt w v
        → Performed w v
    unfolding pending_from
    performed w v good s g =
        let one = drive_takes _ _ _ _ _ w 0 0 a (b ∷ c ∷ d ∷ e ∷ []) v s g (omega arith) good.0
        (apart a _ good.1) refl refl in
        let two = drive_takes _ _ _ _ _ one.0 1 1 b (c ∷ d ∷ e ∷ []) v one.1 one.2 (omega arith) good.2.0
        (apart b _ good.2.1) refl refl in
        let three = drive_takes _ _ _ _ _ two.0 2 2 c (d ∷ e ∷ []) v two.1 two.2 (omega arith) good.2.2.0
        (apart c _ good.2.2.1) refl refl in
        let four = drive_takes _ _ _ _ _ three.0 3 3 d (e ∷ []) v three.1 three.2 (omega arith) good.2.2.2.0
        (apart d _ good.2.2.2.1) refl refl in
        drive_takes _ _ _ _ _ four.0 4 4 e [] v four.1 four.2 (omega arith) good.2.2.2.2.0 (apart e _ good.2.2.2.2.1) refl refl

    -- where no message is pending the event is over
    over_at : (u v : World) → Stage ns rows_all None true [] clients u → Goes prompt u v
        → Stage ns rows_all None true [] clients v
    unfolding pending_from
    over_at u v s g =
        subst (Stage ns rows_all None true [] clients)
        (sym (none_due prompt u v g (ap (λ (ms : List Posted). due_pending u None (pending_from 0 0 ms)) s.rows_are))) s

    -- after all replies
    answered : (w v : World) → AreGood ns → Performed w v → Stage ns rows_all None true [] clients v
    unfolding pending_from
    answered w v good p =
        let one = server_takes_it _ _ _ _ _ p.0 5 0 a [] v _ false p.1 p.2 (omega arith) good.0
        (hears_more ns 0 a (asked 1 b) (asked 2 c ∷ asked 3 d ∷ asked 4 e ∷ []) _ refl) refl refl in
        let two = server_takes_it _ _ _ _ _ one.0 6 1 b [] v _ false one.1 one.2 (omega arith) good.2.0
        (hears_more ns 1 b (asked 2 c) (asked 3 d ∷ asked 4 e ∷ []) _ refl) refl refl in
        let three = server_takes_it _ _ _ _ _ two.0 7 2 c [] v _ false two.1 two.2 (omega arith) good.2.2.0
        (hears_more ns 2 c (asked 3 d) (asked 4 e ∷ []) _ refl) refl refl in
        let four = server_takes_it _ _ _ _ _ three.0 8 3 d [] v _ false three.1 three.2 (omega arith) good.2.2.2.0
        (hears_more ns 3 d (asked 4 e) [] _ refl) refl refl in
        let five = server_takes_it _ _ _ _ _ four.0 9 4 e [] v None true four.1 four.2 (omega arith) good.2.2.2.2.0
        (hears_last ns 4 e _ refl) refl refl in
        over_at five.0 v five.1 five.2

    pub file_made : (w v : World) → AreGood ns → Stage ns rows_out (Some (job_with asked_all [])) false ns clients w
        → Goes prompt w v → Stage ns rows_all None true [] clients v
    file_made w v good s g = answered w v good (performed w v good s g)
