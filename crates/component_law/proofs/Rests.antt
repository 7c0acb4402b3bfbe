-- Behind each step of a client that has nothing else to do, its first grant that is due goes back.
use Rattle.std.proofs.Common.{ℕ, Option, Some, None, refl, sym, ◌∙◌}
use Rattle.client_rules.specs.Going.{begun, requests, returns, asks_under}
use Rattle.client_rules.specs.History.{Input, step}
use Rattle.client_rules.specs.Messages.{Step, finished}
use Rattle.world_history.specs.ClientNames.{Client, CallOp, Held, Due, Need, Done}
use Rattle.history_law.proofs.Turns.{each_turn, each_progress}
use Rattle.exchange_law.proofs.ClientMoves.{IsKeptByClients, clients_always}
use Rattle.component_law.specs.Rests.{OwesNothing, NothingDueRests}

abbrev OwesDone : Done → Type 0
OwesDone d = OwesNothing d.client

abbrev OwesStep : Step → Type 0
OwesStep t = OwesNothing t.client

-- ---- a request goes out

returned : (d : Done) (o : Option Due) → OwesNothing (returns d o).client
unfolding requests
returned d None call out left = refl
returned d (Some u) call out left = absurd (cc out)

-- a call stays, or a request goes out
asked : (d : Done) (op : CallOp) (n : Need) (o : Option Held) → OwesNothing (asks_under d op n o).client
unfolding requests
asked d op n None call out left = absurd (cc out)
asked d op n (Some h) call out left = absurd (cc out)

done : (d : Done) → OwesNothing (finished d).client
unfolding finished
done d = each_progress (begun d) OwesDone (record {
  waits = λ r out none free left. absurd (cc (sym out ∙ free));
  works = λ call is out none free left. absurd (cc (sym is ∙ none));
  spent = λ none out z call free left. absurd (left z);
  asks = λ op n h is out held. asked (begun d) op n h;
  gives_back = λ u none out left is. returned (begun d) u;
})

-- ---- any step

stepped : (c : Client) (i : Input) → OwesNothing c → OwesNothing (step c i).client
stepped c i k = each_turn c i OwesStep (record {
  rests = k;
  nothing = λ op is e. k;
  called = λ op is none can. done _;
  answered = λ a is. done _;
  replied = λ drive q call h a is. done _;
  unheld = done _;
  recalled = λ q is. done _;
  unmatched = λ q is. done _;
  timed = λ j call h a xs is. done _;
  leaves = λ is. done _;
  resends = λ is. k;
})

-- ---- each client

-- however many messages were sent
abbrev Owes : ℕ → Client → Type 0
Owes n c = OwesNothing c

owes_kept : IsKeptByClients Owes
owes_kept = record {
  more = λ n k c s. s;
  made = λ n number call out left. refl;
  steps = λ n c i number wrote logged s. stepped c i s;
}

pub nothing_due_rests : NothingDueRests
nothing_due_rests w r c a found = clients_always Owes owes_kept w r c a found
