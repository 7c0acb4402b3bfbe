-- The nonces of all commands that a client sends, whatever comes to it.
use Rattle.std.specs.Prelude.{◌≢◌, ◌≡◌, ◌<◌, ℕ, ◌/◌, List, [], ◌∷◌, ◌++◌, length, Option, Some, None}
use Rattle.layout_ops.specs.declared.results.LayoutGetOk.{LayoutGetOk}
use Rattle.client_rules.specs.declared.limits.TheConstants.{NONCES}
use Rattle.exchange_law.specs.ClientState.{Client, Outgoing, AnswersRecall, Asks, ToDrive}
use Rattle.client_rules.specs.Requests.{grant_in}
use Rattle.client_rules.specs.Results.{layouts_in}
use Rattle.client_rules.specs.Messages.{Taken, TakesAnswer, takes}
use Rattle.client_rules.specs.Steps.{new_client}
use Rattle.client_rules.specs.History.{Input, Calls, Hears, TimesOut, Leaves, Resends, step}

-- ---- what is sent

-- the nonces of the commands among some messages
abbrev pub nonces_in : List Outgoing → List ℕ
nonces_in [] = []
nonces_in (ToDrive drive c ∷ xs) = c.nonce ∷ nonces_in xs
nonces_in (Asks r ∷ xs) = nonces_in xs
nonces_in (AnswersRecall a ∷ xs) = nonces_in xs

-- of the commands that are sent at an input; what is sent once more was sent before
abbrev pub nonces_at : Client → Input → List ℕ
nonces_at c Resends = []
nonces_at c (Calls op) = nonces_in (step c (Calls op)).sends
nonces_at c (Hears from m) = nonces_in (step c (Hears from m)).sends
nonces_at c (TimesOut k) = nonces_in (step c (TimesOut k)).sends
nonces_at c Leaves = nonces_in (step c Leaves).sends

-- of all commands that are sent, in order
abbrev pub nonces_by : Client → List Input → List ℕ
nonces_by c [] = []
nonces_by c (i ∷ is) = nonces_at c i ++ nonces_by (step c i).client is

-- ---- which grants are given

-- the number of the grant of a LAYOUTGET's result
abbrev pub given : Option LayoutGetOk → List ℕ
given None = []
given (Some ok) = grant_in ok.stateid ∷ []

-- of an answer that is taken
abbrev pub granted : Option Taken → List ℕ
granted (Some (TakesAnswer a)) = given (layouts_in a.results)
granted t = []

-- at an input
abbrev pub grants_at : Client → Input → List ℕ
grants_at c (Hears from m) = granted (takes c from m)
grants_at c i = []

-- by all answers that are taken
abbrev pub grants_by : Client → List Input → List ℕ
grants_by c [] = []
grants_by c (i ∷ is) = grants_at c i ++ grants_by (step c i).client is

-- ---- numbers that differ

-- none of these is x
abbrev pub NoneIs : (x : ℕ) → List ℕ → Type 0
NoneIs x [] = Unit {0}
NoneIs x (y ∷ ys) = (x ≢ y) × NoneIs x ys

-- no two are the same
abbrev pub AllDiffer : List ℕ → Type 0
AllDiffer [] = Unit {0}
AllDiffer (x ∷ xs) = NoneIs x xs × AllDiffer xs

-- the grant of a nonce
abbrev pub grant_of : (nonce : ℕ) → ℕ
grant_of nonce = nonce / NONCES

-- those of x's grant are greater than x
abbrev pub AreBehind : (x : ℕ) → List ℕ → Type 0
AreBehind x [] = Unit {0}
AreBehind x (y ∷ ys) = (grant_of x ≡ grant_of y → x < y) × AreBehind x ys

-- those of each grant rise
abbrev pub RiseInGrants : List ℕ → Type 0
RiseInGrants [] = Unit {0}
RiseInGrants (x ∷ xs) = AreBehind x xs × RiseInGrants xs

-- ---- the law

-- no two answers gave one grant, and not too many commands were sent
pub record IsBounded (c : Client) (is : List Input) : Type 0 where
  pub grants : AllDiffer (grants_by c is)
  pub commands : length (nonces_by c is) < NONCES

-- so the nonces of a new client's commands rise in their grants, and no two are the same
pub record NoncesDiffer : Type 0 where
  pub rise : (number sequence : ℕ) (is : List Input) → IsBounded (new_client number sequence) is →
      RiseInGrants (nonces_by (new_client number sequence) is)
  pub differ : (number sequence : ℕ) (is : List Input) → IsBounded (new_client number sequence) is →
      AllDiffer (nonces_by (new_client number sequence) is)
