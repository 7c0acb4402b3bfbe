-- A client in the middle of a step sends to drives what may be sent under the grants that it holds.
use Rattle.std.proofs.Common.{◌≡◌, ◌==◌, ℕ, List, [], ◌∷◌, ◌++◌, Option, Some, None, map, nat_lt, subst, inl, inr}
use Rattle.std.proofs.lemmas.Bool.{cases_Bool}
use Rattle.layout_ops.specs.declared.args.Args.{Args}
use Rattle.layout_ops.specs.declared.args.Args.TheVariants as args
use Rattle.history_law.specs.State.{Client, CallOp, Held, Due, Awaited, Need, Turn, Goes, Ends, Forgets, Moved, Done, Outgoing, AnswersRecall, Asks, ToDrive, Request, RecallAnswer, Command}
use Rattle.client_rules.specs.Calls.{file_of}
use Rattle.client_rules.specs.Grants.{held_of, put_held, without_held}
use Rattle.client_rules.specs.Requests.{get_args, args_of, return_args}
use Rattle.client_rules.specs.Going.{quiet, with_held, by_turn, moved, begins, held_after, requests, asks_under, returns}
use Rattle.client_rules.specs.Messages.{Step, still, to_drive, closed, finished, awaited_of}
use Rattle.history_law.proofs.Known.{AreKnown, HeldKnown, TurnKnown, MovedKnown, begins_known}
use Rattle.history_law.specs.Turns.{FinishCases}
use Rattle.history_law.proofs.Turns.{each_finish}

-- ---- a client between steps

abbrev pub HeldsKnown : (ℕ → Command → Type 0) → List Held → Type 0
HeldsKnown Q [] = Unit {0}
HeldsKnown Q (h ∷ hs) = HeldKnown Q h × HeldsKnown Q hs

pub record ClientKnown (Q : ℕ → Command → Type 0) (c : Client) : Type 0 where
  pub helds : HeldsKnown Q c.held
  pub call : AreKnown Q (awaited_of c.call)

-- what goes to drives is known
abbrev pub SendsKnown : (ℕ → Command → Type 0) → List Outgoing → Type 0
SendsKnown Q [] = Unit {0}
SendsKnown Q (ToDrive d c ∷ os) = Q d c × SendsKnown Q os
SendsKnown Q (o ∷ os) = SendsKnown Q os

pub record StepKnown (Q : ℕ → Command → Type 0) (s : Step) : Type 0 where
  pub client : ClientKnown Q s.client
  pub sends : SendsKnown Q s.sends

pub record DoneKnown (Q : ℕ → Command → Type 0) (d : Done) : Type 0 where
  pub helds : HeldsKnown Q d.client.held
  pub call : AreKnown Q (awaited_of d.client.call)
  pub commands : AreKnown Q d.commands

module _ (Q : ℕ → Command → Type 0) where
  -- ---- held grants

  pub put_known : (hs : List Held) (h : Held) → HeldsKnown Q hs → HeldKnown Q h → HeldsKnown Q (put_held hs h)
  unfolding put_held
  put_known [] h k l = (l, tt)
  put_known (g ∷ gs) h k l = elim (cases_Bool (g.file == h.file)) [
    | inl t ↦ rw t (l, k.1)
    | inr f ↦ elim (cases_Bool (nat_lt h.file g.file)) [
      | inl u ↦ rw (f, u) (l, k)
      | inr v ↦ rw (f, v) (k.0, put_known gs h k.1 l)
    ]
  ]

  without_known : (hs : List Held) (file : ℕ) → HeldsKnown Q hs → HeldsKnown Q (without_held hs file)
  unfolding without_held
  without_known [] file k = tt
  without_known (g ∷ gs) file k = elim (cases_Bool (g.file == file)) [
    | inl t ↦ rw t (without_known gs file k.1)
    | inr f ↦ rw f (k.0, without_known gs file k.1)
  ]

  after_known : (hs : List Held) (file : ℕ) (a : Args) → HeldsKnown Q hs → HeldsKnown Q (held_after hs file a)
  after_known hs file (args.LayoutGet a) k = k
  after_known hs file (args.LayoutCommit a) k = k
  after_known hs file (args.LayoutReturn a) k = without_known hs file k

  -- the grant on a file
  pub held_known : (hs : List Held) (file : ℕ) (h : Held) → HeldsKnown Q hs → held_of hs file ≡ Some h → HeldKnown Q h
  unfolding held_of
  held_known [] file h k e = absurd (cc e)
  held_known (g ∷ gs) file h k e = elim (cases_Bool (g.file == file)) [
    | inl t ↦ let same : g ≡ h = cc (rw t at e) in subst (HeldKnown Q) same k.0
    | inr f ↦ held_known gs file h k.1 (rw f at e)
  ]

  -- ---- what becomes of a call

  pub quiet_known : (c : Client) → ClientKnown Q c → DoneKnown Q (quiet c)
  quiet_known c k = record { helds = k.helds; call = k.call; commands = tt }

  pub by_turn_known : (d : Done) (op : CallOp) (t : Turn) → HeldsKnown Q d.client.held → AreKnown Q d.commands
      → TurnKnown Q t → DoneKnown Q (by_turn d op t)
  by_turn_known d op (Goes p) k s t = record { helds = k; call = t; commands = s }
  by_turn_known d op (Ends o) k s t = record { helds = k; call = tt; commands = s }
  by_turn_known d op (Forgets o) k s t = record {
    helds = without_known d.client.held (file_of op) k;
    call = tt;
    commands = s;
  }

  pub moved_known : (d : Done) (op : CallOp) (m : Moved) → HeldsKnown Q d.client.held → MovedKnown Q m
      → DoneKnown Q (moved d op m)
  moved_known d op m k l =
      by_turn_known (record (with_held d m.held) { commands = m.sent }) op m.turn
      (put_known d.client.held m.held k l.held) l.sent l.turn

  -- ---- to the end of a step

  asks_known : (d : Done) (op : CallOp) (n : Need) (o : Option Held) → DoneKnown Q d
      → DoneKnown Q (asks_under d op n o)
  unfolding requests
  asks_known d op n None k = record {
    helds = after_known d.client.held (file_of op) (get_args op) k.helds;
    call = tt;
    commands = k.commands;
  }
  asks_known d op n (Some h) k = record {
    helds = after_known d.client.held (file_of op) (args_of h op n) k.helds;
    call = tt;
    commands = k.commands;
  }

  returns_known : (d : Done) (o : Option Due) → DoneKnown Q d → DoneKnown Q (returns d o)
  unfolding requests
  returns_known d None k = record { helds = k.helds; call = k.call; commands = k.commands }
  returns_known d (Some u) k = record {
    helds = after_known d.client.held u.file (return_args u.number []) k.helds;
    call = k.call;
    commands = k.commands;
  }

  kept : FinishCases (DoneKnown Q)
  kept = record {
    needs = λ d op n k is out first. record { helds = k.helds; call = tt; commands = k.commands };
    begun = λ d op h k is held covered.
        moved_known d op (begins h op) k.helds (begins_known Q h op (held_known d.client.held (file_of op) h k.helds held));
    asks = λ d op n h k is out held. asks_known d op n h k;
    gives_back = λ d u k none out. returns_known d u k;
  }

  -- ---- what is sent

  recalls_sent : (rs : List RecallAnswer) (os : List Outgoing) → SendsKnown Q os
      → SendsKnown Q (map AnswersRecall rs ++ os)
  recalls_sent [] os k = k
  recalls_sent (r ∷ rs) os k = recalls_sent rs os k

  requests_sent : (rs : List Request) (os : List Outgoing) → SendsKnown Q os → SendsKnown Q (map Asks rs ++ os)
  requests_sent [] os k = k
  requests_sent (r ∷ rs) os k = requests_sent rs os k

  pub commands_sent : (xs : List Awaited) → AreKnown Q xs → SendsKnown Q (map to_drive xs)
  commands_sent [] k = tt
  commands_sent (a ∷ xs) k = (k.0, commands_sent xs k.1)

  closed_known : (d : Done) → DoneKnown Q d → StepKnown Q (closed d)
  closed_known d k = record {
    client = record { helds = k.helds; call = k.call };
    sends =
        recalls_sent d.recalls (map Asks d.requests ++ map to_drive d.commands)
        (requests_sent d.requests (map to_drive d.commands) (commands_sent d.commands k.commands));
  }

  pub finished_known : (d : Done) → DoneKnown Q d → StepKnown Q (finished d)
  unfolding finished
  finished_known d k = closed_known _ (each_finish (DoneKnown Q) kept d k)

  pub still_known : (c : Client) → ClientKnown Q c → StepKnown Q (still c)
  still_known c k = record { client = k; sends = tt }
