-- A client in the middle of a step sends drives commands that are placed, under grants that the server gave it.
use Rattle.std.proofs.Common.{◌≡◌, ◌==◌, ℕ, true, List, [], ◌∷◌, ◌++◌, Option, Some, None, map, nat_lt, sym, ap, subst, ◌∙◌, inl, inr, arith}
use Rattle.std.specs.List.{AllByRecursion}
use Rattle.std.proofs.lemmas.Bool.{cases_Bool}
use Rattle.std.proofs.lemmas.Bool.Decides.{nat_tests}
use Rattle.layout_ops.specs.declared.args.Args.{Args}
use Rattle.layout_ops.specs.declared.args.Args.TheVariants as args
use Rattle.exchange_law.specs.PlaceState.{Client, Call, CallOp, Held, Due, Awaited, Need, Phase, Needs, Waits, Turn, Goes, Ends, Forgets, Moved, Done, Outgoing, AnswersRecall, Asks, ToDrive, Request, RecallAnswer}
use Rattle.client_rules.specs.Calls.{file_of}
use Rattle.client_rules.specs.Grants.{held_of, put_held, without_held}
use Rattle.client_rules.specs.Requests.{get_args, args_of, return_args}
use Rattle.client_rules.specs.Io.{awaited_in}
use Rattle.client_rules.specs.Going.{quiet, phased, with_held, by_turn, moved, begins, held_after, requests, asks_under, returns}
use Rattle.client_rules.specs.Messages.{Step, still, to_drive, closed, finished}
use Rattle.client_rules.proofs.HeldGrants.{put_found}
use Rattle.exchange_law.specs.Kept.{IsOwnGrant}
use Rattle.exchange_law.proofs.Commands.{MaySend}
use Rattle.exchange_law.proofs.PlaceSending.{ArePlaced, PhaseFits, TurnFits, MovedFits}
use Rattle.exchange_law.proofs.PlaceMoving.{begins_fits}
use Rattle.history_law.specs.Turns.{FinishCases}
use Rattle.history_law.proofs.Turns.{each_finish}

-- ---- a client between steps

-- what the call relies on of the grant on its file, where it is held
abbrev pub UnderFits : Option Held → CallOp → Phase → Type 0
UnderFits None op p = Unit {0}
UnderFits (Some h) op p = PhaseFits h op p

abbrev pub CallFits : List Held → Option Call → Type 0
CallFits hs None = Unit {0}
CallFits hs (Some call) =
    ArePlaced (awaited_in call.phase) × UnderFits (held_of hs (file_of call.op)) call.op call.phase

pub record ClientFits (c : ℕ) (x : Client) : Type 0 where
  pub helds : AllByRecursion (IsOwnGrant c) x.held
  pub call : CallFits x.held x.call

-- what goes to drives is placed
abbrev pub SendsPlaced : List Outgoing → Type 0
SendsPlaced [] = Unit {0}
SendsPlaced (ToDrive d x ∷ os) = MaySend d x × SendsPlaced os
SendsPlaced (o ∷ os) = SendsPlaced os

pub record StepFits (c : ℕ) (s : Step) : Type 0 where
  pub client : ClientFits c s.client
  pub sends : SendsPlaced s.sends

pub record DoneFits (c : ℕ) (d : Done) : Type 0 where
  pub helds : AllByRecursion (IsOwnGrant c) d.client.held
  pub call : CallFits d.client.held d.client.call
  pub commands : ArePlaced d.commands

-- a phase that relies on no grant
pub under_any : (o : Option Held) (op : CallOp) (p : Phase) → ((h : Held) → PhaseFits h op p) → UnderFits o op p
under_any None op p q = tt
under_any (Some h) op p q = q h

-- ---- held grants

pub put_all : (P : Held → Type 0) (hs : List Held) (h : Held) → AllByRecursion P hs → P h
    → AllByRecursion P (put_held hs h)
unfolding put_held
put_all P [] h k l = (l, tt)
put_all P (g ∷ gs) h k l = elim (cases_Bool (g.file == h.file)) [
  | inl t ↦ rw t (l, k.1)
  | inr f ↦ elim (cases_Bool (nat_lt h.file g.file)) [
    | inl u ↦ rw (f, u) (l, k)
    | inr v ↦ rw (f, v) (k.0, put_all P gs h k.1 l)
  ]
]

without_all : (P : Held → Type 0) (hs : List Held) (file : ℕ) → AllByRecursion P hs
    → AllByRecursion P (without_held hs file)
unfolding without_held
without_all P [] file k = tt
without_all P (g ∷ gs) file k = elim (cases_Bool (g.file == file)) [
  | inl t ↦ rw t (without_all P gs file k.1)
  | inr f ↦ rw f (k.0, without_all P gs file k.1)
]

after_all : (P : Held → Type 0) (hs : List Held) (file : ℕ) (a : Args) → AllByRecursion P hs
    → AllByRecursion P (held_after hs file a)
after_all P hs file (args.LayoutGet a) k = k
after_all P hs file (args.LayoutCommit a) k = k
after_all P hs file (args.LayoutReturn a) k = without_all P hs file k

-- a grant that is found is one of them, on that file
pub found_all : (P : Held → Type 0) (hs : List Held) (file : ℕ) (h : Held) → AllByRecursion P hs
    → held_of hs file ≡ Some h
    → P h × (h.file ≡ file)
unfolding held_of
found_all P [] file h k e = absurd (cc e)
found_all P (g ∷ gs) file h k e = elim (cases_Bool (g.file == file)) [
  | inl t ↦ let same : g ≡ h = cc (rw t at e) in
      (subst P same k.0, ap (λ (x : Held). x.file) (sym same) ∙ equal g.file file t)
  | inr f ↦ found_all P gs file h k.1 (rw f at e)
]
  where
    equal : (a b : ℕ) → (a == b) ≡ true → a ≡ b
    equal a b e = grind (arith, nat_tests, e)

-- what a phase relies on, of the grant that is found
pub phase_at : (hs : List Held) (call : Call) (h : Held) → CallFits hs (Some call)
    → held_of hs (file_of call.op) ≡ Some h → PhaseFits h call.op call.phase
phase_at hs call h k e = subst (λ (o : Option Held). UnderFits o call.op call.phase) e k.1

module _ (c : ℕ) where
  -- ---- what becomes of a call

  pub quiet_fits : (x : Client) → ClientFits c x → DoneFits c (quiet x)
  quiet_fits x k = record { helds = k.helds; call = k.call; commands = tt }

  by_turn_fits : (d : Done) (op : CallOp) (h : Held) (t : Turn) → AllByRecursion (IsOwnGrant c) d.client.held
      → ArePlaced d.commands → held_of d.client.held (file_of op) ≡ Some h → TurnFits h op t
      → DoneFits c (by_turn d op t)
  by_turn_fits d op h (Goes p) k s found t = record {
    helds = k;
    call = (t.0, subst (λ (o : Option Held). UnderFits o op p) (sym found) t.1);
    commands = s;
  }
  by_turn_fits d op h (Ends o) k s found t = record { helds = k; call = tt; commands = s }
  by_turn_fits d op h (Forgets o) k s found t = record {
    helds = without_all (IsOwnGrant c) d.client.held (file_of op) k;
    call = tt;
    commands = s;
  }

  pub moved_fits : (d : Done) (op : CallOp) (h : Held) (m : Moved) → AllByRecursion (IsOwnGrant c) d.client.held
      → h.file ≡ file_of op → MovedFits c h op m → DoneFits c (moved d op m)
  moved_fits d op h m k file l =
      let put : held_of (put_held d.client.held m.held) (file_of op) ≡ Some m.held =
      ap (held_of (put_held d.client.held m.held)) (sym (l.file ∙ file)) ∙ put_found d.client.held m.held in
      by_turn_fits (record (with_held d m.held) { commands = m.sent }) op m.held m.turn
      (put_all (IsOwnGrant c) d.client.held m.held k l.held) l.sent put l.turn

  -- ---- to the end of a step

  asked_fits : (d : Done) (op : CallOp) (n : Need) (a : Args) (file : ℕ) → DoneFits c d
      → CallFits (held_after d.client.held file a) (Some (record { op = op; phase = Waits n }))
  asked_fits d op n a file k =
      (tt, under_any (held_of (held_after d.client.held file a) (file_of op)) op (Waits n) (λ h. tt))

  asks_fits : (d : Done) (op : CallOp) (n : Need) (o : Option Held) → DoneFits c d → DoneFits c (asks_under d op n o)
  unfolding requests
  asks_fits d op n None k = record {
    helds = after_all (IsOwnGrant c) d.client.held (file_of op) (get_args op) k.helds;
    call = asked_fits d op n (get_args op) (file_of op) k;
    commands = k.commands;
  }
  asks_fits d op n (Some h) k = record {
    helds = after_all (IsOwnGrant c) d.client.held (file_of op) (args_of h op n) k.helds;
    call = asked_fits d op n (args_of h op n) (file_of op) k;
    commands = k.commands;
  }

  no_call : (hs : List Held) (o : Option Call) → o ≡ None → CallFits hs o
  no_call hs None e = tt
  no_call hs (Some call) e = absurd (cc e)

  returns_fits : (d : Done) (o : Option Due) → d.client.call ≡ None → DoneFits c d → DoneFits c (returns d o)
  unfolding requests
  returns_fits d None none k = record { helds = k.helds; call = k.call; commands = k.commands }
  returns_fits d (Some u) none k = record {
    helds = after_all (IsOwnGrant c) d.client.held u.file (return_args u.number []) k.helds;
    call = no_call _ d.client.call none;
    commands = k.commands;
  }

  pub needs_fits : (d : Done) (op : CallOp) (n : Need) → DoneFits c d → DoneFits c (phased d op (Needs n))
  needs_fits d op n k = record {
    helds = k.helds;
    call = (tt, under_any (held_of d.client.held (file_of op)) op (Needs n) (λ h. tt));
    commands = k.commands;
  }

  kept : FinishCases (DoneFits c)
  kept = record {
    needs = λ d op n k is out first. needs_fits d op n k;
    begun = λ d op h k is held covered.
        let own = found_all (IsOwnGrant c) d.client.held (file_of op) h k.helds held in
        moved_fits d op h (begins h op) k.helds own.1 (begins_fits c h own.0 op covered);
    asks = λ d op n h k is out held. asks_fits d op n h k;
    gives_back = λ d u k none out. returns_fits d u none k;
  }

  -- ---- what is sent

  recalls_sent : (rs : List RecallAnswer) (os : List Outgoing) → SendsPlaced os
      → SendsPlaced (map AnswersRecall rs ++ os)
  recalls_sent [] os k = k
  recalls_sent (r ∷ rs) os k = recalls_sent rs os k

  requests_sent : (rs : List Request) (os : List Outgoing) → SendsPlaced os → SendsPlaced (map Asks rs ++ os)
  requests_sent [] os k = k
  requests_sent (r ∷ rs) os k = requests_sent rs os k

  pub commands_sent : (xs : List Awaited) → ArePlaced xs → SendsPlaced (map to_drive xs)
  commands_sent [] k = tt
  commands_sent (a ∷ xs) k = (k.0, commands_sent xs k.1)

  closed_fits : (d : Done) → DoneFits c d → StepFits c (closed d)
  closed_fits d k = record {
    client = record { helds = k.helds; call = k.call };
    sends =
        recalls_sent d.recalls (map Asks d.requests ++ map to_drive d.commands)
        (requests_sent d.requests (map to_drive d.commands) (commands_sent d.commands k.commands));
  }

  pub finished_fits : (d : Done) → DoneFits c d → StepFits c (finished d)
  unfolding finished
  finished_fits d k = closed_fits _ (each_finish (DoneFits c) kept d k)

  pub still_fits : (x : Client) → ClientFits c x → StepFits c (still x)
  still_fits x k = record { client = k; sends = tt }
