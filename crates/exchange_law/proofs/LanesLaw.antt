-- Whose lanes the objects of drives have, in the words of the lines.
use Rattle.std.proofs.Common.{◌≡◌, ◌⊎◌, ℕ, zero, suc, ◌<◌, ◌∷◌, [], List, Some, slice_get, refl, sym, ap, subst, ◌∙◌, inl, inr}
use Rattle.osd_commands.specs.Commands.{reading}
use Rattle.osd_objects.specs.declared.lanes.LaneEntry.{LaneEntry}
use Rattle.server_rules.specs.declared.limits.TheConstants.{SERVER_HOLDER}
use Rattle.server_rules.specs.Laws.{In}
use Rattle.scenario_text.specs.declared.names.TheConstants.{CLIENTS}
use Rattle.scenario_text.specs.declared.line.Party.{Party}
use Rattle.scenario_text.specs.declared.line.Party.TheVariants as party
use Rattle.scenario_text.specs.declared.line.Line.{Line}
use Rattle.world_history.specs.declared.messages.Sent.{Sent}
use Rattle.world_history.specs.Reading.{sent_in}
use Rattle.history_law.proofs.LaneLines.{letter, letters}
use Rattle.exchange_law.proofs.Servers.{servers_own}
use Rattle.exchange_law.specs.Lanes.{IsFrom, IsOwn, AreLanes, LanesAreOwn}
use Rattle.exchange_law.proofs.LaneLists.{are_few}
use Rattle.exchange_law.proofs.Sources.{CameFrom, Source, IsOwned, AreKnown, owned_more, lines_known, lines_owned}
use Rattle.exchange_law.proofs.LaneLines.{LeftBy, AreLeft, lanes_are_left}

-- a letter is a message with its marks
pub record IsMarked (ss : List Sent) (x : Sent) : Type 0 where
  pub number : ℕ
  pub message : Sent
  pub there : slice_get ss number ≡ Some message
  pub is : x ≡ letter message

pub marked : (ss : List Sent) (x : Sent) → In x (letters ss) → IsMarked ss x
marked [] x i = absurd i
marked (s ∷ ss) x (inl e) = record { number = zero; message = s; there = refl; is = e }
marked (s ∷ ss) x (inr i) =
    let m = marked ss x i in record { number = suc m.number; message = m.message; there = m.there; is = m.is }

is_from : (S : Source) (h : List Line) (from : Party) (drive object : ℕ) (l : LaneEntry) (b : LeftBy S h drive object l)
    → CameFrom h from drive b.bytes → IsFrom h from drive object l
is_from S h from drive object l b c =
    let m = marked (sent_in h) c.message c.sent in
    record {
      number = m.number;
      message = m.message;
      there = m.there;
      sender = ap (λ (x : Sent). x.from) (sym m.is) ∙ c.sender;
      receiver = ap (λ (x : Sent). x.to) (sym m.is) ∙ c.receiver;
      command = b.command;
      read = ap (λ (x : Sent). reading x.bytes) (sym m.is) ∙ ap reading c.bytes_are ∙ b.read;
      changes = b.changes;
      allowed = b.allowed;
      object_is = b.object_is;
      holder_is = b.holder_is;
      nonce_is = b.nonce_is;
    }

-- a lane that a command of its holder's left
pub is_own : (S : Source) (h : List Line) (drive object : ℕ) (l : LaneEntry) (b : LeftBy S h drive object l)
    → IsOwned h drive b.bytes b.command → IsOwn h drive object l
is_own S h drive object l b (inl (e, c)) = inl (sym b.holder_is ∙ e, is_from S h party.Server drive object l b c)
is_own S h drive object l b (inr (e, c)) = inr (
  subst (λ (n : ℕ). n < CLIENTS) b.holder_is e,
  is_from S h (party.Client l.holder) drive object l b
      (subst (λ (n : ℕ). CameFrom h (party.Client n) drive b.bytes) b.holder_is c),
)

pub holder_of : (h : List Line) (drive object : ℕ) (l : LaneEntry) → IsOwn h drive object l
    → (l.holder ≡ SERVER_HOLDER) ⊎ (l.holder < CLIENTS)
holder_of h drive object l (inl (e, b)) = inl e
holder_of h drive object l (inr (e, b)) = inr e

are_lanes : (h : List Line) (drive object : ℕ) (ls : List LaneEntry) → AreLeft IsOwned h drive object ls
    → AreLanes h drive object ls
are_lanes h drive object ls a =
    let own : (l : LaneEntry) → In l ls → IsOwn h drive object l =
    λ l i. let b = a.own l i in is_own IsOwned h drive object l b b.source in
    record {
      own = own;
      differ = a.differ;
      few = are_few ls a.differ (λ l i. holder_of h drive object l (own l i));
    }

pub lanes_are_own : LanesAreOwn
lanes_are_own h l clean drive a stands object x there =
    let known : AreKnown h = lines_known h l (servers_own h l) in
    are_lanes h drive object x.lanes
    (lanes_are_left IsOwned owned_more h known.holds (lines_owned h known clean) drive a stands object x there)
