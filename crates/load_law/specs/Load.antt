-- How many commands a call sends to the drives.
use Rattle.std.specs.Prelude.{◌≡◌, ◌≤◌, ℕ, ◌*◌, max, List, ◌∷◌, ◌++◌, length, if◌then◌else◌}
use Rattle.data_map.specs.Check.{IsChecked}
use Rattle.stripe_plan.specs.Touched.{stripes}
use Rattle.server_rules.specs.Laws.{In}
use Rattle.load_law.specs.ClientState.{CallOp, Held, Awaited, Phase, Goes, Moved, Reply, Span}
use Rattle.client_rules.specs.Calls.{span_of, is_write}
use Rattle.client_rules.specs.Grants.{clipped}
use Rattle.client_rules.specs.Commands.{of_component}
use Rattle.client_rules.specs.Io.{awaited_in}
use Rattle.client_rules.specs.Going.{begins}
use Rattle.client_rules.specs.Replies.{replied, timed_out}

-- the bytes that a call reaches under a grant: those that it writes, or those below the size that it reads
abbrev pub reached : Held → CallOp → Span
reached h op = if is_write op then span_of op else clipped h.size (span_of op)

-- how many stripes these bytes touch, where none counts as one
abbrev pub stripes_reached : Held → CallOp → ℕ
stripes_reached h op = max 1 (length (stripes h.map (reached h op)))

-- What a call did with the drives up to this move, the first of which was its begin under the grant: each later one is its step
-- at a reply to a command that it awaited, or at a timeout of a component of which it awaited something. The list has all
-- commands that were sent, in order.
pub data Deals (h : Held) (op : CallOp) : Moved → (sent : List Awaited) → Type 0 where
  AtBegin : Deals h op (begins h op) (begins h op).sent
  AtReply : (m : Moved) (sent : List Awaited) (p : Phase) (a : Awaited) (r : Reply) → Deals h op m sent → m.turn ≡ Goes p
      → In a (awaited_in p)
      → Deals h op (replied m.held op p a r) (sent ++ (replied m.held op p a r).sent)
  AtTimeout : (m : Moved) (sent : List Awaited) (p : Phase) (k : ℕ) (a : Awaited) (xs : List Awaited) → Deals h op m sent
      → m.turn ≡ Goes p → of_component k (awaited_in p) ≡ a ∷ xs
      → Deals h op (timed_out m.held op p k a xs) (sent ++ (timed_out m.held op p k a xs).sent)

-- In all a call sends at most six commands for each component and each stripe that it reaches.
abbrev pub EachCallSendsFew : Type 0
EachCallSendsFew =
    (h : Held) (op : CallOp) → IsChecked h.map → length h.components ≡ h.map.comps → (m : Moved) (sent : List Awaited)
    → Deals h op m sent → length sent ≤ 6 * h.map.comps * stripes_reached h op
