-- What a party did, as the code has it.
use Rattle.std.specs.Prelude.{List, [], ◌∷◌, ◌≡◌, map}
use Rattle.scenario_text.specs.declared.line.Line.{Line}
use Rattle.world_network.specs.declared.posting.Posting.{Posting}
use Rattle.world_network.specs.Shows.{posting_of}
use Rattle.world_history.specs.State.{World}
use Rattle.world_history.specs.Handed.{Post, Handed as WorldHanded}
use Rattle.world_history.specs.Moves.{Act as WorldAct}
use Rattle.world_network.specs.declared.acts.Act.{Act}
use Rattle.world_network.specs.declared.acts.Handed.{Handed}

-- nothing is told or sent
abbrev pub nothing : Act
nothing = record { told = []; posts = [] }

-- only a line is told
abbrev pub line_alone : Line → Act
line_alone l = record { told = l ∷ []; posts = [] }

-- only a message is sent
abbrev pub one_post : Posting → Act
one_post p = record { told = []; posts = p ∷ [] }

-- ---- what the world says of it

-- these lines are told and these messages sent
pub record IsAct (told : List Line) (posts : List Post) (a : Act) : Type 0 where
  pub lines : a.told ≡ told
  pub sends : a.posts ≡ map posting_of posts

-- that became of the message, and the world is this one then
pub record IsHanded (h : WorldHanded) (w : World) (is : Handed) : Type 0 where
  pub world : h.world ≡ w
  pub receipt : is.receipt ≡ h.receipt
  pub act : IsAct h.told h.posts is.act

-- that is what the world did, and it is this one then
pub record IsDone (m : WorldAct) (w : World) (is : Act) : Type 0 where
  pub world : m.world ≡ w
  pub act : IsAct m.told m.posts is
