-- The objects of clients' commands have numbers that fit their places.
use Rattle.std.specs.List.{AllByRecursion}
use Rattle.std.proofs.Common.{◌≡◌, ℕ, ◌<◌, ◌^◌, ◌++◌, ◌∷◌, [], List, Option, Some, None, map, refl, sym, ap, subst, arith}
use Rattle.osd_commands.specs.declared.commands.Command.{Command}
use Rattle.scenario_text.specs.declared.line.Line.{Line}
use Rattle.scenario_text.specs.declared.line.Line.TheVariants as line
use Rattle.client_rules.specs.declared.calls.Awaited.{Awaited}
use Rattle.client_rules.specs.declared.calls.Call.{Call}
use Rattle.client_rules.specs.declared.grants.Held.{Held}
use Rattle.client_rules.specs.Messages.{awaited_of}
use Rattle.server_rules.specs.Laws.{In}
use Rattle.server_rules.proofs.Members.{one_in}
use Rattle.world_history.specs.declared.messages.Message.{Message}
use Rattle.world_history.specs.declared.messages.Posted.{Posted}
use Rattle.world_history.specs.State.{World}
use Rattle.world_history.specs.Handed.{Post}
use Rattle.world_history.specs.Moves.{acts}
use Rattle.world_history.specs.Sending.{Move, move}
use Rattle.world_history.specs.Reading.{sent_in}
use Rattle.world_history.proofs.Always.{opening, IsKept}
use Rattle.history_law.proofs.DriveLines.{sent_read}
use Rattle.history_law.proofs.Growing.{history_grows}
use Rattle.history_law.specs.BookMoments.{IsMoment}
use Rattle.history_law.specs.Said.{posted}
use Rattle.exchange_law.specs.PlaceAnswers.{AnswersFit}
use Rattle.exchange_law.proofs.Commands.{MaySend}
use Rattle.exchange_law.proofs.PlaceSending.{AwaitedPlaced}
use Rattle.exchange_law.proofs.PlaceGoing.{CallFits}
use Rattle.exchange_law.proofs.PlaceWorlds.{PostPlaced, PostsPlaced, ActFits}
use Rattle.exchange_law.proofs.PlaceMoves.{acts_fit}
use Rattle.exchange_law.proofs.PlaceLines.{fits_before, IsPlacedWorld, all_placed}
use Rattle.exchange_law.proofs.Turning.{bodies, sent_by}
use Rattle.exchange_law.proofs.Turns.{messages_behind}
use Rattle.exchange_law.proofs.CountMoments.{at_moment}
use Rattle.exchange_law.specs.Sent.{message_of}
use Rattle.cause_law.specs.Readable.{AnswersAreFit, ObjectsFit, ObjectsAreEnough, NoncesAreEnough, PlacesAreEnough}

-- ---- messages

abbrev pub IsPlacedMessage : Message → Type 0
IsPlacedMessage m = PostPlaced m.from m.to m.body

abbrev AllMessages : List Message → Type 0
AllMessages ms = AllByRecursion IsPlacedMessage ms

all_posted : (ps : List Post) → PostsPlaced ps → AllMessages (posted ps)
all_posted [] k = tt
all_posted (p ∷ ps) k = (k.0, all_posted ps k.1)

all_more : (xs ys : List Message) → AllMessages xs → AllMessages ys → AllMessages (xs ++ ys)
all_more [] ys k l = l
all_more (x ∷ xs) ys k l = (k.0, all_more xs ys k.1 l)

pub same_bodies : (ps : List Posted) → map (λ (p : Posted). p.message) ps ≡ bodies ps
same_bodies [] = refl
same_bodies (p ∷ ps) = ap (λ (ms : List Message). p.message ∷ ms) (same_bodies ps)

-- ---- each moment

record AreThere (w : World) (h : List Line) : Type 0 where
  placed : IsPlacedWorld w h
  sent : AnswersFit (sent_in h) → AllMessages (sent_by w)

act_at : (w : World) (h : List Line) → IsPlacedWorld w h → (m : Move) → AnswersFit (sent_in h)
    → ActFits (acts w m.chosen m.action)
act_at w h k m fit =
    acts_fit (sent_in h) fit w (k.clients fit) (sym (sent_read w k.known.read.injected h k.known.read.drives)) m.chosen
    m.action

move_sent : (w : World) (h : List Line) (k : AreThere w h) (m : Move) → AnswersFit (sent_in h)
    → AllMessages (sent_by (move w m).world)
move_sent w h k m fit =
    subst AllMessages (sym (messages_behind w m))
    (all_more (sent_by w) (posted (acts w m.chosen m.action).posts) (k.sent fit)
    (all_posted (acts w m.chosen m.action).posts (act_at w h k.placed m fit).posts))

all_there : IsKept AreThere
all_there = record {
  starts = record { placed = all_placed.starts; sent = λ fit. tt };
  opens =
      λ w h e chosen k allowed.
      let m = opening e chosen in
      record {
        placed = all_placed.opens w h e chosen k.placed allowed;
        sent =
            λ fit. move_sent w h k m
            (fits_before (sent_in h) _ (history_grows h (line.Event e ∷ (move w m).lines)) fit);
      };
  moves =
      λ w h r m k due. record {
        placed = all_placed.moves w h r m k.placed due;
        sent = λ fit. move_sent w h k m (fits_before (sent_in h) _ (history_grows h (move w m).lines) fit);
      };
}

-- ---- commands

object_fits : (d : ℕ) (x : Command) → MaySend d x → x.object < 2 ^ 64
object_fits d x k = omega (arith, k.placed.object, k.capability.object)

awaited_placed : (hs : List Held) (o : Option Call) (x : Awaited) → CallFits hs o → In x (awaited_of o)
    → AwaitedPlaced x
awaited_placed hs None x k i = absurd i
awaited_placed hs (Some call) x k i = one_in AwaitedPlaced (awaited_of (Some call)) x k.0 i

objects_there : (w : World) (h : List Line) → IsMoment w h → AnswersFit (sent_in h) → ObjectsFit w
objects_there w h m fit =
    let k = at_moment AreThere all_there w h m in
    record {
      sent = λ c d x i. object_fits d x (one_in IsPlacedMessage (sent_by w) (message_of c d x) (k.sent fit)
          (subst (In (message_of c d x)) (same_bodies w.network.messages) i));
      awaited =
          λ c a there x i.
          object_fits x.drive x.command
          (awaited_placed a.state.held a.state.call x (k.placed.clients fit c a there).call i);
    }

-- each message of a client to a drive is a placed command
pub placed_there : (w : World) (h : List Line) → IsMoment w h → AnswersFit (sent_in h) → (m : Message)
    → In m (map (λ (p : Posted). p.message) w.network.messages) → IsPlacedMessage m
placed_there w h k fit m i =
    one_in IsPlacedMessage (sent_by w) m ((at_moment AreThere all_there w h k).sent fit)
    (subst (In m) (same_bodies w.network.messages) i)

pub objects_are_enough : AnswersAreFit → ObjectsAreEnough
objects_are_enough answers h lawful text few w before after is m =
    let all : AnswersFit (sent_in (before ++ after)) =
    subst (λ (ls : List Line). AnswersFit (sent_in ls)) is (answers h lawful text few) in
    objects_there w before m (fits_before (sent_in before) _ (history_grows before after) all)

pub places_are_enough : ObjectsAreEnough → NoncesAreEnough → PlacesAreEnough
places_are_enough objects nonces h lawful text few w before after is m =
    let o = objects h lawful text few w before after is m in
    let n = nonces h lawful text few w before after is m in
    record {
      sent = λ c d x i. record { object = o.sent c d x i; nonce = n.sent c d x i };
      awaited = λ c a there x i. record { object = o.awaited c a there x i; nonce = n.awaited c a there x i };
    }
