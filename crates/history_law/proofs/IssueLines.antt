-- Each message of a client to a drive is under a credential that was given to it, over all lines of a history.
use Rattle.std.proofs.Common.{◌≡◌, ℕ, ◌+◌, ◌++◌, ◌∷◌, [], List, Some, length, refl, sym, inl, inr}
use Rattle.osd_lists.specs.declared.node.Node.{Node}
use Rattle.osd_lists.specs.declared.node.Node.TheVariants as node
use Rattle.osd_commands.specs.declared.commands.Command.{Command}
use Rattle.osd_commands.specs.Commands.{spelling}
use Rattle.scenario_text.specs.declared.line.Party.TheVariants as party
use Rattle.scenario_text.specs.declared.line.Line.{Line}
use Rattle.scenario_text.specs.declared.line.Line.TheVariants as line
use Rattle.world_history.specs.declared.messages.Body.{Body}
use Rattle.world_history.specs.declared.messages.Body.TheVariants.{Command as OfCommand, Reply as OfReply, Envelope as OfEnvelope}
use Rattle.world_history.specs.declared.messages.Sent.{Sent}
use Rattle.world_history.specs.State.{ClientAt, World, at_number, empty_world}
use Rattle.world_history.specs.Spelled.{spelled, party_of}
use Rattle.world_history.specs.Handed.{Post}
use Rattle.world_history.specs.Moves.{Act, acts}
use Rattle.world_history.specs.Sending.{Move, move, sent_line, sent_lines, sends_all}
use Rattle.world_history.specs.Reading.{sent_in}
use Rattle.world_history.proofs.Always.{opening, IsKept}
use Rattle.history_law.proofs.DriveEvents.{IsRead, kept}
use Rattle.history_law.proofs.DriveLines.{sent_read}
use Rattle.history_law.proofs.Each.{EachBehind, each_more}
use Rattle.history_law.specs.Granted.{SpellsOwn}
use Rattle.history_law.proofs.KnownGoing.{ClientKnown}
use Rattle.history_law.proofs.KnownSteps.{wider_client}
use Rattle.history_law.proofs.Growing.{Grows, grows_not, grows_on, history_grows, still_given}
use Rattle.history_law.proofs.Issuing.{MaySend, WorldKnown, PostKnown, PostsKnown, IsSilent, AreSilent, ActKnown}
use Rattle.history_law.proofs.IssuingMoves.{acts_known}

-- ---- what holds at each line

-- these bytes spell a command that the client may send to the drive
abbrev pub Carries : List Sent → (client drive : ℕ) → List ℕ → Type 0
Carries ss c d bytes = (x : Command) × (bytes ≡ spelling x) × MaySend ss c d x

abbrev pub CarriesAt : List Line → Line → Type 0
CarriesAt before (line.Message n (party.Client c) (party.Drive d) bytes) = Carries (sent_in before) c d bytes
CarriesAt before (line.Message n party.Server (party.Client c) bytes) = SpellsOwn c bytes
CarriesAt before l = Unit {0}

wider_under : (ss ts : List Sent) → Grows ss ts → (c d : ℕ) (x : Command) → MaySend ss c d x → MaySend ts c d x
wider_under ss ts g c d x (inl (o, given, under)) = inl (o, still_given ss ts c o g given, under)
wider_under ss ts g c d x (inr none) = inr none

pub wider_carries : (ss ts : List Sent) → Grows ss ts → (c d : ℕ) (bytes : List ℕ) → Carries ss c d bytes
    → Carries ts c d bytes
wider_carries ss ts g c d bytes k = (k.0, k.1, wider_under ss ts g c d k.0 k.2)

wider_world : (ss ts : List Sent) → Grows ss ts → (w : World) → WorldKnown ss w → WorldKnown ts w
wider_world ss ts g w k = record {
  clients =
      λ c a found. wider_client (MaySend ss c) (MaySend ts c) (wider_under ss ts g c) a.state (k.clients c a found);
  slots = k.slots;
}

-- ---- lines of a move

silent_line : (before : List Line) (l : Line) → IsSilent l → CarriesAt before l
silent_line before (line.Message n from to bytes) s = absurd s
silent_line before (line.Event e) s = tt
silent_line before (line.Delivered n del) s = tt
silent_line before l s = tt

silent_says : (before ls : List Line) → AreSilent ls → EachBehind CarriesAt before ls
silent_says before [] s = tt
silent_says before (l ∷ ls) s = (silent_line before l s.0, silent_says (before ++ l ∷ []) ls s.1)

post_line : (before : List Line) (n : ℕ) (from to : Node) (body : Body) → PostKnown (sent_in before) from to body
    → CarriesAt before (line.Message n (party_of from) (party_of to) (spelled body))
post_line before n (node.Client c) (node.Drive d) (OfCommand x) k = (x, refl, k)
post_line before n (node.Client c) (node.Drive d) (OfReply r) k = absurd k
post_line before n (node.Client c) (node.Drive d) (OfEnvelope e) k = absurd k
post_line before n (node.Client c) node.Server body k = tt
post_line before n (node.Client c) (node.Client e) body k = tt
post_line before n node.Server (node.Client c) (OfEnvelope e) k = record { message = e; bytes_are = refl; own = k }
post_line before n node.Server (node.Client c) (OfCommand x) k = absurd k
post_line before n node.Server (node.Client c) (OfReply r) k = absurd k
post_line before n node.Server node.Server body k = tt
post_line before n node.Server (node.Drive d) body k = tt
post_line before n (node.Drive d) to body k = tt

wider_post : (ss ts : List Sent) → Grows ss ts → (from to : Node) (body : Body) → PostKnown ss from to body
    → PostKnown ts from to body
wider_post ss ts g (node.Client c) (node.Drive d) (OfCommand x) k = wider_under ss ts g c d x k
wider_post ss ts g (node.Client c) (node.Drive d) (OfReply r) k = absurd k
wider_post ss ts g (node.Client c) (node.Drive d) (OfEnvelope e) k = absurd k
wider_post ss ts g (node.Client c) node.Server body k = tt
wider_post ss ts g (node.Client c) (node.Client e) body k = tt
wider_post ss ts g node.Server (node.Client c) (OfEnvelope e) k = k
wider_post ss ts g node.Server (node.Client c) (OfCommand x) k = absurd k
wider_post ss ts g node.Server (node.Client c) (OfReply r) k = absurd k
wider_post ss ts g node.Server node.Server body k = tt
wider_post ss ts g node.Server (node.Drive d) body k = tt
wider_post ss ts g (node.Drive d) to body k = tt

sent_says : (ss : List Sent) (before : List Line) (n : ℕ) (ps : List Post) → Grows ss (sent_in before)
    → PostsKnown ss ps
    → EachBehind CarriesAt before (sent_lines n ps)
unfolding sent_lines
sent_says ss before n [] g k = tt
sent_says ss before n (p ∷ ps) g k = (
  post_line before n p.message.from p.message.to p.message.body
      (wider_post ss (sent_in before) g p.message.from p.message.to p.message.body k.0),
  sent_says ss (before ++ sent_line n p.message ∷ []) (n + 1) ps
      (grows_on ss (sent_in before) _ g (history_grows before (sent_line n p.message ∷ []))) k.1,
)

act_says : (ss : List Sent) (before : List Line) (a : Act) → Grows ss (sent_in before) → ActKnown ss a
    → EachBehind CarriesAt before (sends_all a).lines
act_says ss before a g k =
    each_more CarriesAt before a.told _ (silent_says before a.told k.told)
    (sent_says ss (before ++ a.told) (length a.world.network.messages) a.posts
    (grows_on ss (sent_in before) _ g (history_grows before a.told)) k.posts)

-- ---- what holds at each moment

pub record IsKnown (w : World) (h : List Line) : Type 0 where
  pub read : IsRead w h
  pub world : WorldKnown (sent_in h) w
  pub lines : EachBehind CarriesAt [] h

act_at : (w : World) (h : List Line) (k : IsKnown w h) (m : Move) → ActKnown (sent_in h) (acts w m.chosen m.action)
act_at w h k m =
    acts_known (sent_in h) w k.world (sym (sent_read w k.read.injected h k.read.drives)) m.chosen m.action

none_found : (c : ℕ) (a : ClientAt) → at_number empty_world.clients c ≡ Some a
    → ClientKnown (MaySend (sent_in []) c) a.state
none_found c a found = absurd (cc found)

pub all_known : IsKept IsKnown
all_known = record {
  starts = record { read = kept.starts; world = record { clients = none_found; slots = tt }; lines = tt };
  opens =
      λ w h e chosen k allowed.
      let a = act_at w h k (opening e chosen) in
      record {
        read = kept.opens w h e chosen k.read allowed;
        world =
            wider_world (sent_in h) _ (history_grows h (line.Event e ∷ (move w (opening e chosen)).lines))
            (move w (opening e chosen)).world (record { clients = a.world.clients; slots = a.world.slots });
        lines =
            each_more CarriesAt [] h (line.Event e ∷ (move w (opening e chosen)).lines) k.lines (
              tt,
              act_says (sent_in h) (h ++ line.Event e ∷ []) (acts w chosen (opening e chosen).action)
                  (history_grows h (line.Event e ∷ [])) a,
            );
      };
  moves =
      λ w h r m k due.
      let a = act_at w h k m in
      record {
        read = kept.moves w h r m k.read due;
        world =
            wider_world (sent_in h) _ (history_grows h (move w m).lines) (move w m).world
            (record { clients = a.world.clients; slots = a.world.slots });
        lines =
            each_more CarriesAt [] h (move w m).lines k.lines
            (act_says (sent_in h) h (acts w m.chosen m.action) (grows_not (sent_in h)) a);
      };
}
