-- A client in the middle of a step keeps what holds of its grants and of what its call awaits.
use Rattle.std.proofs.Common.{◌≡◌, ℕ, List, [], map, Option, Some, None, refl, sym, subst, ◌∙◌, inl, inr}
use Rattle.server_rules.specs.Laws.{In}
use Rattle.server_rules.proofs.Members.{in_either, in_mapped}
use Rattle.exchange_law.specs.ClientState.{Client, Call, CallOp, Held, Due, Awaited, Need, Phase, Starts, Needs, Waits, Turn, Goes, Ends, Forgets, Moved, Done, AnswersRecall, Asks, ToDrive, Command}
use Rattle.client_rules.specs.Calls.{file_of}
use Rattle.client_rules.specs.Grants.{held_of, put_held}
use Rattle.client_rules.specs.Requests.{get_args, args_of, return_args}
use Rattle.client_rules.specs.Io.{awaited_in}
use Rattle.client_rules.specs.Going.{quiet, with_held, by_turn, moved, begins, requests, asks_under, returns}
use Rattle.client_rules.specs.Messages.{Step, still, to_drive, sends_of, closed, finished}
use Rattle.client_rules.specs.Laws.{IsNumbered}
use Rattle.client_rules.proofs.Numbering.{nonces_rise}
use Rattle.client_rules.proofs.HeldGrants.{held_file, put_found}
use Rattle.exchange_law.proofs.Kept.{FairPhase, FairTurn, IsKept, begins_kept}
use Rattle.exchange_law.proofs.LaneMoves.{IsOf, AreOf, PhaseFine, PhaseWell, TurnWell, MovedWell, phase_well, begins_well}
use Rattle.exchange_law.proofs.LaneGrowing.{With, AreLatest, of_same, all_of, moved_latest}
use Rattle.exchange_law.proofs.Fine.{HeldsFine, CallFine, AreSent, ClientFine, fewer, fewer_helds, without_fine, after_fine, moved_helds}
use Rattle.history_law.specs.Turns.{FinishCases}
use Rattle.history_law.proofs.Turns.{each_finish}

-- a call that hasn't begun has sent nothing
abbrev pub FairCall : Option Call → List Awaited → Type 0
FairCall None sent = Unit {0}
FairCall (Some call) sent = FairPhase call.phase sent

-- with what the step sends
pub record DoneFine (S : Command → Type 0) (d : Done) : Type 0 where
  pub client : ClientFine (With S d.commands) d.client.held d.client.call
  pub fair : FairCall d.client.call d.commands

-- what a step sends to drives are these commands
pub record StepFine (S : Command → Type 0) (s : Step) : Type 0 where
  pub commands : List Awaited
  pub client : ClientFine (With S commands) s.client.held s.client.call
  pub sends : (d : ℕ) (y : Command) → In (ToDrive d y) s.sends → (x : Awaited) × In x commands × (x.command ≡ y)

pub phase_still : (p : Phase) → FairPhase p []
phase_still Starts = refl
phase_still p = tt

pub call_still : (o : Option Call) → FairCall o []
call_still None = tt
call_still (Some call) = phase_still call.phase

pub turn_still : (t : Turn) → FairTurn t []
turn_still (Goes p) = phase_still p
turn_still t = tt

module _ (S : Command → Type 0) where
  -- ---- nothing was sent

  none_more : (y : Command) → With S [] y → S y
  none_more y (inl s) = s
  none_more y (inr (z, j, e)) = absurd j

  pub none_sent : (hs : List Held) (o : Option Call) → ClientFine S hs o → ClientFine (With S []) hs o
  none_sent hs o f = fewer S (With S []) none_more hs o f (λ x i. inl (f.sent x i))

  pub plain : (xs : List Awaited) (hs : List Held) (o : Option Call) → xs ≡ [] → ClientFine (With S xs) hs o
      → ClientFine S hs o
  plain xs hs o none f =
      fewer (With S xs) S (λ y s. inl s) hs o f (λ x i.
      none_more x.command (subst (λ (zs : List Awaited). With S zs x.command) none (f.sent x i)))

  pub plain_helds : (xs : List Awaited) (hs : List Held) → HeldsFine (With S xs) hs → HeldsFine S hs
  plain_helds xs hs f = fewer_helds (With S xs) S (λ y s. inl s) hs f

  -- a call that awaits nothing
  pub empty_call : (T : Command → Type 0) (hs : List Held) (op : CallOp) (p : Phase) → awaited_in p ≡ [] → PhaseFine p
      → CallFine T hs (record { op = op; phase = p })
  empty_call T hs op p none fine = record {
    fine = fine;
    of = λ j e x i. absurd (subst (In x) none i);
    latest = λ x i w b. absurd (subst (In x) none i);
  }

  pub empty_client : (T : Command → Type 0) (hs : List Held) (op : CallOp) (p : Phase) → awaited_in p ≡ []
      → PhaseFine p → HeldsFine T hs → ClientFine T hs (Some (record { op = op; phase = p }))
  empty_client T hs op p none fine helds = record {
    helds = helds;
    call = empty_call T hs op p none fine;
    sent = λ x i. absurd (subst (In x) none i);
  }

  pub no_call : (T : Command → Type 0) (hs : List Held) → HeldsFine T hs → ClientFine T hs None
  no_call T hs helds = record { helds = helds; call = tt; sent = λ x i. absurd i }

  pub quiet_fine : (c : Client) → ClientFine S c.held c.call → DoneFine S (quiet c)
  quiet_fine c f = record { client = none_sent c.held c.call f; fair = call_still c.call }

  -- ---- what becomes of a call

  abbrev TurnFine : Done → CallOp → Turn → Type 0
  TurnFine d op (Goes p) =
      CallFine (With S d.commands) d.client.held (record { op = op; phase = p })
      × AreSent (With S d.commands) (awaited_in p)
  TurnFine d op t = Unit {0}

  pub turn_fine : (d : Done) (op : CallOp) (t : Turn) → HeldsFine (With S d.commands) d.client.held → TurnFine d op t
      → FairTurn t d.commands → DoneFine S (by_turn d op t)
  turn_fine d op (Goes p) helds t fair = record {
    client = record { helds = helds; call = t.0; sent = t.1 };
    fair = fair;
  }
  turn_fine d op (Ends o) helds t fair = record {
    client = no_call (With S d.commands) d.client.held helds;
    fair = tt;
  }
  turn_fine d op (Forgets o) helds t fair = record {
    client = no_call (With S d.commands) _ (without_fine (With S d.commands) d.client.held (file_of op) helds);
    fair = tt;
  }

  module _ (d : Done) (op : CallOp) (h : Held) (m : Moved) (old : List Awaited)
      (there : held_of d.client.held (file_of op) ≡ Some h) (numbers : IsNumbered h m) (kept : IsKept h m)
      (well : MovedWell h old m) (of : AreOf h old) (latest : AreLatest S old) (sent : AreSent S old)
      (helds : HeldsFine S d.client.held) where
    file_is : m.held.file ≡ file_of op
    file_is = kept.file ∙ held_file d.client.held (file_of op) h there

    found : (j : Held) → held_of (put_held d.client.held m.held) (file_of op) ≡ Some j → m.held ≡ j
    found j e =
        let here : held_of (put_held d.client.held m.held) (file_of op) ≡ Some m.held =
        subst (λ (f : ℕ). held_of (put_held d.client.held m.held) f ≡ Some m.held) file_is
        (put_found d.client.held m.held) in
        cc (sym here ∙ e)

    phase_fine : (p : Phase) → PhaseWell old m.sent p
        → CallFine (With S m.sent) (put_held d.client.held m.held) (record { op = op; phase = p })
        × AreSent (With S m.sent) (awaited_in p)
    phase_fine p goes = (
      record {
        fine = goes.fine;
        of = λ j e x i.
            subst (λ (k : Held). IsOf k x) (found j e)
            (of_same m.held h x well.components (all_of S h m numbers old p of well.of goes x i));
        latest =
            moved_latest S h m numbers old p of well.of goes (helds.nonces (file_of op) h there)
            (helds.single (file_of op) h there) latest;
      },
      λ x i. elim (goes.stays x i) [ inl j ↦ inl (sent x j) | inr j ↦ inr (x, j, refl) ],
    )

    turned : (t : Turn) → TurnWell old m.sent t → TurnFine (record (with_held d m.held) { commands = m.sent }) op t
    turned (Goes p) w = phase_fine p (phase_well old m.sent p w)
    turned (Ends o) w = tt
    turned (Forgets o) w = tt

    pub moved_fine : DoneFine S (moved d op m)
    moved_fine =
        turn_fine (record (with_held d m.held) { commands = m.sent }) op m.turn
        (moved_helds S d.client.held (file_of op) h m old there file_is numbers well helds) (turned m.turn well.turn)
        kept.fair

  -- ---- to the end of a step

  asks_fine : (d : Done) (op : CallOp) (n : Need) (o : Option Held) → DoneFine S d → DoneFine S (asks_under d op n o)
  unfolding requests
  asks_fine d op n None f = record {
    client =
        empty_client (With S d.commands) _ op (Waits n) refl tt
        (after_fine (With S d.commands) d.client.held (file_of op) (get_args op) f.client.helds);
    fair = tt;
  }
  asks_fine d op n (Some h) f = record {
    client =
        empty_client (With S d.commands) _ op (Waits n) refl tt
        (after_fine (With S d.commands) d.client.held (file_of op) (args_of h op n) f.client.helds);
    fair = tt;
  }

  -- without a call
  abbrev IsIdle : Done → Type 0
  IsIdle d = d.client.call ≡ None

  idle_fine : (d : Done) (hs : List Held) → IsIdle d → HeldsFine (With S d.commands) hs
      → ClientFine (With S d.commands) hs d.client.call
  idle_fine d hs none helds =
      subst (λ (o : Option Call). ClientFine (With S d.commands) hs o) (sym none) (no_call (With S d.commands) hs helds)

  returns_fine : (d : Done) (o : Option Due) → IsIdle d → DoneFine S d → DoneFine S (returns d o)
  unfolding requests
  returns_fine d None none f = record { client = f.client; fair = f.fair }
  returns_fine d (Some u) none f = record {
    client =
        idle_fine d _ none
        (after_fine (With S d.commands) d.client.held u.file (return_args u.number []) f.client.helds);
    fair = f.fair;
  }

  kept : FinishCases (DoneFine S)
  kept = record {
    needs = λ d op n f is out first. record {
      client = empty_client (With S d.commands) d.client.held op (Needs n) refl tt f.client.helds;
      fair = tt;
    };
    begun = λ d op h f is held covered.
        moved_fine d op h (begins h op) [] held (nonces_rise.begun h op) (begins_kept h op) (begins_well h [] op)
        (λ x i. absurd i) (λ x i w b. absurd i) (λ x i. absurd i)
        (plain_helds d.commands d.client.held f.client.helds);
    asks = λ d op n h f is out held. asks_fine d op n h f;
    gives_back = λ d u f none out. returns_fine d u none f;
  }

  -- ---- what is sent

  drive_same : (x : Awaited) (d : ℕ) (y : Command) → ToDrive d y ≡ to_drive x → x.command ≡ y
  drive_same x d y e = sym (same e)
    where
      same : ToDrive d y ≡ to_drive x → y ≡ x.command
      same f = cc f

  pub in_commands : (xs : List Awaited) (d : ℕ) (y : Command) → In (ToDrive d y) (map to_drive xs)
      → (x : Awaited) × In x xs × (x.command ≡ y)
  in_commands xs d y i = let r = in_mapped to_drive (ToDrive d y) xs i in (r.0, r.1, drive_same r.0 d y r.2)

  in_sends : (e : Done) (d : ℕ) (y : Command) → In (ToDrive d y) (sends_of e)
      → (x : Awaited) × In x e.commands × (x.command ≡ y)
  in_sends e d y i = elim (in_either (ToDrive d y) (map AnswersRecall e.recalls) _ i) [
    | inl j ↦ let r = in_mapped AnswersRecall (ToDrive d y) e.recalls j in absurd (cc r.2)
    | inr j ↦ elim (in_either (ToDrive d y) (map Asks e.requests) _ j) [
      | inl k ↦ let r = in_mapped Asks (ToDrive d y) e.requests k in absurd (cc r.2)
      | inr k ↦ in_commands e.commands d y k
    ]
  ]

  closed_fine : (d : Done) → DoneFine S d → StepFine S (closed d)
  closed_fine d f = record { commands = d.commands; client = f.client; sends = λ k y i. in_sends d k y i }

  pub finished_fine : (d : Done) → DoneFine S d → StepFine S (finished d)
  unfolding finished
  finished_fine d f = closed_fine _ (each_finish (DoneFine S) kept d f)

  pub still_fine : (c : Client) → ClientFine S c.held c.call → StepFine S (still c)
  still_fine c f = record { commands = []; client = none_sent c.held c.call f; sends = λ d y i. absurd i }
