-- What becomes of a call.
use Rattle.std.specs.Prelude.{List, []}
use Rattle.client_rules.specs.State.{Held, Need, Close, Needs, Outcome, Turn, Goes, Ends, Moved, IoErr}

-- nothing goes to a drive
abbrev pub turned : Held → Turn → Moved
turned h t = record { held = h; turn = t; sent = [] }

-- it ends
abbrev pub ended : Held → Outcome → Moved
ended h o = turned h (Ends o)

-- a request to the server comes next
abbrev pub needing : Need → Turn
needing n = Goes (Needs n)

-- the grant goes back, and then the call ends so
abbrev pub closing : Outcome → List IoErr → Turn
closing o report = needing (Close o report)
