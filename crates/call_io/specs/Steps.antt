-- Replies and timeouts, whether or not something is awaited.
use Rattle.std.specs.Prelude.{ℕ, ◌==◌, List, [], ◌∷◌, Option, Some, None, if◌then◌else◌}
use Rattle.client_rules.specs.declared.limits.TheConstants.{OTHER_TAG}
use Rattle.call_io.specs.State.{CallOp, Held, Awaited, Phase, Turn, Goes, Forgets, Moved, IoErr, Reply}
use Rattle.client_rules.specs.Turns.{turned, closing}
use Rattle.client_rules.specs.Replies.{refusal, replied, timed_out}

-- a reply to this command; to none it changes nothing
abbrev pub on_reply : Held → CallOp → Phase → Reply → Option Awaited → Moved
on_reply h op p r None = turned h (Goes p)
on_reply h op p r (Some a) = replied h op p a r

-- component k timed out, of which these commands are awaited; with none it changes nothing
abbrev pub on_timeout : Held → CallOp → Phase → (k : ℕ) → List Awaited → Moved
on_timeout h op p k [] = turned h (Goes p)
on_timeout h op p k (a ∷ xs) = timed_out h op p k a xs

-- how a call ends whose command was refused, with this report
abbrev pub refused_turn : Awaited → Reply → List IoErr → Turn
refused_turn a r report = if r.verdict == OTHER_TAG then Forgets (refusal a r) else closing (refusal a r) report
