-- What the network of the code says of that of a world.
use Rattle.std.specs.Prelude.{◌≡◌, ℕ, true, List, [], ◌∷◌, map, length, slice_get, sum_by, Option, Some}
use Rattle.world_history.specs.declared.messages.Posted.{Posted}
use Rattle.world_history.specs.State.{Network as WorldNetwork, World}
use Rattle.world_history.specs.Handed.{Post}
use Rattle.world_history.specs.Moves.{marked, with_message}
use Rattle.world_history.specs.Spelled.{spelled, party_of}
use Rattle.world_history.specs.Sending.{fresh as fresh_post, cost as cost_there, with_posts, sent_line, sent_lines, fitting_in as fitting_there}
use Rattle.world_network.specs.declared.posting.Posting.{Posting}
use Rattle.world_network.specs.Posting.{cost, all_posted, lines_in, fitting_in}
use Rattle.world_history.specs.Plans.{next_pending}
use Rattle.world_history.specs.Laws.{shown}
use Rattle.world_network.specs.Network.{NetworkState, Delivers, Drops, PendingIs, posted, line_of}

-- it has the messages as lines show them, and keeps as many bytes
pub record Shows (n : NetworkState) (t : WorldNetwork) : Type 0 where
  pub messages : n.messages ≡ map shown t.messages
  pub kept : n.kept ≡ t.kept

-- the message that is delivered next is the lowest pending one
abbrev pub PendingIsShown : Type 0
PendingIsShown = (n : NetworkState) (w : World) (first : ℕ) (r : Option ℕ) → Shows n w.network
    → PendingIs first n.messages r → next_pending w first ≡ r

-- a message that is sent is sent in the world, with the same line
pub record PostIsShown (n : NetworkState) (t : WorldNetwork) (p : Post) : Type 0 where
  pub network : Shows (posted n (shown (fresh_post p)) p.logged) (with_posts t (p ∷ []))
  pub line_is : line_of n (shown (fresh_post p)) ≡ sent_line (length t.messages) p.message

abbrev pub PostsAreShown : Type 0
PostsAreShown = (n : NetworkState) (t : WorldNetwork) (p : Post) → Shows n t → PostIsShown n t p

-- a message that is delivered or left out is so in the world
pub record MarksAreShown (n : NetworkState) (w : World) (number : ℕ) (p : Posted) (n' : NetworkState) : Type 0 where
  pub delivers : Delivers n number n' → Shows n' (marked w number p).network
  pub drops : Drops n number n' → Shows n' (with_message w number (record p { dropped = true })).network

abbrev pub AllMarksAreShown : Type 0
AllMarksAreShown =
    (n n' : NetworkState) (w : World) (number : ℕ) (p : Posted) → Shows n w.network
    → slice_get w.network.messages number ≡ Some p →
    MarksAreShown n w number p n'

-- ---- several messages

-- a message of the world as it is handed to the network
abbrev pub posting_of : Post → Posting
posting_of p = record {
  from = party_of p.message.from;
  to = party_of p.message.to;
  bytes = spelled p.message.body;
  logged = p.logged;
}

-- messages that are sent one after another are sent in the world, with the same lines, also up to the limit
pub record PostingsAreShown (n : NetworkState) (t : WorldNetwork) (ps : List Post) : Type 0 where
  pub network : Shows (all_posted n (map posting_of ps)) (with_posts t ps)
  pub lines_are : lines_in n (map posting_of ps) ≡ sent_lines (length t.messages) ps
  pub cut_lines_are : lines_in n (fitting_in n (map posting_of ps)) ≡ sent_lines (length t.messages)
      (fitting_there t ps)
  pub costs : sum_by cost (map posting_of ps) ≡ sum_by cost_there ps

abbrev pub AllPostingsAreShown : Type 0
AllPostingsAreShown = (n : NetworkState) (t : WorldNetwork) (ps : List Post) → Shows n t → PostingsAreShown n t ps
