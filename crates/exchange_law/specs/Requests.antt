-- The requests that a client sends, and which is outstanding.
use Rattle.std.specs.Prelude.{◌≡◌, ◌⊎◌, ℕ, List, [], ◌∷◌, Option, Some, None}
use Rattle.client_rules.specs.Messages.{Taken, TakesAnswer, takes}
use Rattle.client_rules.specs.History.{Input, Calls, Hears, TimesOut, Leaves, Resends, step}
use Rattle.exchange_law.specs.ClientState.{Client, Outgoing, AnswersRecall, Asks, ToDrive, Request}

-- the requests among some messages
abbrev pub requests_in : List Outgoing → List Request
requests_in [] = []
requests_in (Asks r ∷ xs) = r ∷ requests_in xs
requests_in (ToDrive drive c ∷ xs) = requests_in xs
requests_in (AnswersRecall a ∷ xs) = requests_in xs

-- those that are sent at an input; what is sent once more was sent before
abbrev pub requests_at : Client → Input → List Request
requests_at c Resends = []
requests_at c (Calls op) = requests_in (step c (Calls op)).sends
requests_at c (Hears from m) = requests_in (step c (Hears from m)).sends
requests_at c (TimesOut k) = requests_in (step c (TimesOut k)).sends
requests_at c Leaves = requests_in (step c Leaves).sends

-- what is outstanding once this was taken
abbrev pub left_by : Option Taken → Option Request → Option Request
left_by (Some (TakesAnswer a)) o = None
left_by t o = o

-- once this came
abbrev pub outstanding_at : Client → Input → Option Request
outstanding_at c (Hears from m) = left_by (takes c from m) c.outstanding
outstanding_at c i = c.outstanding

-- either no request is sent, and the same one stays outstanding; or none is outstanding, and one with this number is
-- sent, which is outstanding then
abbrev pub IsAsked : (number : ℕ) → (before after : Option Request) → (sent : List Request) → Type 0
IsAsked number before after sent =
    ((sent ≡ []) × (after ≡ before))
    ⊎ ((before ≡ None) × (r : Request) × (sent ≡ r ∷ []) × (after ≡ Some r) × (r.sequence ≡ number))

-- so it is at each input, whatever the client's state
abbrev pub OneRequest : Type 0
OneRequest =
    (c : Client) (i : Input) → IsAsked c.next (outstanding_at c i) (step c i).client.outstanding (requests_at c i)
