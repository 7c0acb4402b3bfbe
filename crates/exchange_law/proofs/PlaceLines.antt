-- Each message of a client to a drive spells a placed command, over all lines of a history.
use Rattle.std.proofs.Common.{◌≡◌, ℕ, ◌+◌, ◌++◌, ◌∷◌, [], List, Some, length, refl, sym, subst, ◌∙◌}
use Rattle.osd_lists.specs.declared.node.Node.{Node}
use Rattle.osd_lists.specs.declared.node.Node.TheVariants as node
use Rattle.osd_commands.specs.declared.commands.Command.{Command}
use Rattle.osd_commands.specs.Commands.{spelling}
use Rattle.scenario_text.specs.declared.line.Party.TheVariants as party
use Rattle.scenario_text.specs.declared.line.Line.{Line}
use Rattle.scenario_text.specs.declared.line.Line.TheVariants as line
use Rattle.world_history.specs.declared.messages.Body.{Body}
use Rattle.world_history.specs.declared.messages.Body.TheVariants.{Command as OfCommand, Reply as OfReply, Envelope as OfEnvelope}
use Rattle.world_history.specs.declared.messages.Sent.{Sent}
use Rattle.world_history.specs.State.{ClientAt, World, at_number, empty_world}
use Rattle.world_history.specs.Spelled.{spelled, party_of}
use Rattle.world_history.specs.Handed.{Post}
use Rattle.world_history.specs.Moves.{Act, acts}
use Rattle.world_history.specs.Sending.{Move, move, sent_line, sent_lines, sends_all}
use Rattle.world_history.specs.Reading.{sent_in}
use Rattle.world_history.proofs.Always.{opening, IsKept}
use Rattle.history_law.proofs.DriveLines.{sent_read}
use Rattle.history_law.proofs.Each.{EachBehind, each_more}
use Rattle.history_law.proofs.Growing.{Grows, grows_not, grows_on, history_grows}
use Rattle.history_law.proofs.Issuing.{IsSilent, AreSilent}
use Rattle.history_law.proofs.IssuingMoves.{acts_known}
use Rattle.history_law.proofs.IssueLines.{IsKnown, all_known}
use Rattle.exchange_law.specs.PlaceAnswers.{SpellsFitting, AnswersFit}
use Rattle.exchange_law.proofs.Commands.{MaySend}
use Rattle.exchange_law.proofs.PlaceGoing.{ClientFits}
use Rattle.exchange_law.proofs.PlaceWorlds.{ClientsFit, PostPlaced, PostsPlaced, ActFits}
use Rattle.exchange_law.proofs.PlaceMoves.{acts_fit}

-- ---- what holds at each line

-- these bytes spell a placed command
abbrev pub Spells : (drive : ℕ) → List ℕ → Type 0
Spells d bytes = (x : Command) × (bytes ≡ spelling x) × MaySend d x

-- where what the server sent so far fits
abbrev pub SpellsAt : List Line → Line → Type 0
SpellsAt before (line.Message n (party.Client c) (party.Drive d) bytes) = AnswersFit (sent_in before) → Spells d bytes
SpellsAt before l = Unit {0}

-- what fits now did so before
pub fits_before : (ss ts : List Sent) → Grows ss ts → AnswersFit ts → AnswersFit ss
fits_before ss ts g fit n c m found from to =
    let s = g n m found in
    subst (SpellsFitting c) s.bytes_are (fit n c s.message s.there (s.from_is ∙ from) (s.to_is ∙ to))

-- ---- lines of a move

silent_line : (before : List Line) (l : Line) → IsSilent l → SpellsAt before l
silent_line before (line.Message n from to bytes) s = absurd s
silent_line before (line.Event e) s = tt
silent_line before (line.Delivered n del) s = tt
silent_line before l s = tt

silent_says : (before ls : List Line) → AreSilent ls → EachBehind SpellsAt before ls
silent_says before [] s = tt
silent_says before (l ∷ ls) s = (silent_line before l s.0, silent_says (before ++ l ∷ []) ls s.1)

post_line : (before : List Line) (n : ℕ) (from to : Node) (body : Body)
    → (AnswersFit (sent_in before) → PostPlaced from to body)
    → SpellsAt before (line.Message n (party_of from) (party_of to) (spelled body))
post_line before n (node.Client c) (node.Drive d) (OfCommand x) k = λ fit. (x, refl, k fit)
post_line before n (node.Client c) (node.Drive d) (OfReply r) k = λ fit. absurd (k fit)
post_line before n (node.Client c) (node.Drive d) (OfEnvelope e) k = λ fit. absurd (k fit)
post_line before n (node.Client c) node.Server body k = tt
post_line before n (node.Client c) (node.Client e) body k = tt
post_line before n node.Server to body k = tt
post_line before n (node.Drive d) to body k = tt

sent_says : (ss : List Sent) (before : List Line) (n : ℕ) (ps : List Post) → Grows ss (sent_in before)
    → (AnswersFit ss → PostsPlaced ps) → EachBehind SpellsAt before (sent_lines n ps)
unfolding sent_lines
sent_says ss before n [] g k = tt
sent_says ss before n (p ∷ ps) g k = (
  post_line before n p.message.from p.message.to p.message.body
      (λ fit. (k (fits_before ss (sent_in before) g fit)).0),
  sent_says ss (before ++ sent_line n p.message ∷ []) (n + 1) ps
      (grows_on ss (sent_in before) _ g (history_grows before (sent_line n p.message ∷ []))) (λ fit. (k fit).1),
)

act_says : (ss : List Sent) (before : List Line) (a : Act) → Grows ss (sent_in before) → AreSilent a.told
    → (AnswersFit ss → ActFits a) → EachBehind SpellsAt before (sends_all a).lines
act_says ss before a g told k =
    each_more SpellsAt before a.told _ (silent_says before a.told told)
    (sent_says ss (before ++ a.told) (length a.world.network.messages) a.posts
    (grows_on ss (sent_in before) _ g (history_grows before a.told)) (λ fit. (k fit).posts))

-- ---- what holds at each moment

pub record IsPlacedWorld (w : World) (h : List Line) : Type 0 where
  pub known : IsKnown w h
  pub clients : AnswersFit (sent_in h) → ClientsFit w.clients
  pub lines : EachBehind SpellsAt [] h

told_at : (w : World) (h : List Line) (k : IsKnown w h) (m : Move) → AreSilent (acts w m.chosen m.action).told
told_at w h k m =
    (acts_known (sent_in h) w k.world (sym (sent_read w k.read.injected h k.read.drives)) m.chosen m.action).told

act_at : (w : World) (h : List Line) (k : IsPlacedWorld w h) (m : Move) → AnswersFit (sent_in h)
    → ActFits (acts w m.chosen m.action)
act_at w h k m fit =
    acts_fit (sent_in h) fit w (k.clients fit) (sym (sent_read w k.known.read.injected h k.known.read.drives)) m.chosen
    m.action

none_found : (c : ℕ) (a : ClientAt) → at_number empty_world.clients c ≡ Some a → ClientFits c a.state
none_found c a found = absurd (cc found)

pub all_placed : IsKept IsPlacedWorld
all_placed = record {
  starts = record { known = all_known.starts; clients = λ fit. none_found; lines = tt };
  opens =
      λ w h e chosen k allowed.
      let m = opening e chosen in record {
        known = all_known.opens w h e chosen k.known allowed;
        clients =
            λ fit.
            let before = fits_before (sent_in h) _ (history_grows h (line.Event e ∷ (move w m).lines)) fit in
            (act_at w h k m before).clients;
        lines =
            each_more SpellsAt [] h (line.Event e ∷ (move w m).lines) k.lines (
              tt,
              act_says (sent_in h) (h ++ line.Event e ∷ []) (acts w chosen m.action)
                  (history_grows h (line.Event e ∷ [])) (told_at w h k.known m) (act_at w h k m),
            );
      };
  moves =
      λ w h r m k due. record {
        known = all_known.moves w h r m k.known due;
        clients = λ fit. (act_at w h k m (fits_before (sent_in h) _ (history_grows h (move w m).lines) fit)).clients;
        lines =
            each_more SpellsAt [] h (move w m).lines k.lines
            (act_says (sent_in h) h (acts w m.chosen m.action) (grows_not (sent_in h)) (told_at w h k.known m)
            (act_at w h k m));
      };
}
