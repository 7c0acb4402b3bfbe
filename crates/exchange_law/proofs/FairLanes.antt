-- Whose lanes the objects of drives have where nothing is forged, in the words of the lines.
use Rattle.std.proofs.Common.{◌≡◌, ◌⊎◌, ℕ, ◌<◌, List, [], false, sym, subst, inl, inr}
use Rattle.std.proofs.lemmas.List.{append-nil}
use Rattle.osd_lists.proofs.Tests.{first_false}
use Rattle.osd_commands.specs.declared.commands.Command.{Command}
use Rattle.osd_drive.specs.Table.{has_no_right}
use Rattle.osd_objects.specs.declared.lanes.LaneEntry.{LaneEntry}
use Rattle.server_rules.specs.declared.limits.TheConstants.{SERVER_HOLDER}
use Rattle.server_rules.specs.Laws.{In}
use Rattle.scenario_text.specs.declared.names.TheConstants.{CLIENTS}
use Rattle.scenario_text.specs.declared.line.Line.{Line}
use Rattle.world_history.specs.Reading.{sent_in}
use Rattle.history_law.specs.Unforged.{IsListed}
use Rattle.history_law.proofs.Exact.{grant_read, exact_listed}
use Rattle.history_law.proofs.IssuedLaw.{answered}
use Rattle.history_law.proofs.Messages.{AllCarry}
use Rattle.exchange_law.specs.FairLanes.{IsFairLane, AreFairLanes, LanesAreFair}
use Rattle.exchange_law.proofs.LaneLists.{are_few}
use Rattle.exchange_law.proofs.Servers.{servers_own}
use Rattle.exchange_law.proofs.Sources.{AreKnown, lines_known}
use Rattle.exchange_law.proofs.FairSources.{CarriesGiven, IsFair, fair_more, lines_fair}
use Rattle.exchange_law.proofs.LaneLines.{LeftBy, AreLeft, lanes_are_left}
use Rattle.exchange_law.proofs.LanesLaw.{is_own, holder_of}

-- what carries what was given, and has the right that it needs
listed : (h : List Line) (client : ℕ) (y : Command) → AllCarry (sent_in h) → has_no_right y ≡ false
    → CarriesGiven h client y → IsListed h client y
listed h client y carry allowed g =
    let w = g.given in
    let source = answered (sent_in h) client g.credential carry w in
    record {
      credential = g.credential;
      given = w;
      is = g.is;
      source = source;
      grant = λ fits. grant_read client w.message.bytes w.component g.credential source w.lists fits;
      exact = λ x fits.
          exact_listed client w.message.bytes w.component g.credential w.lists x fits y g.is (first_false _ _ allowed);
    }

module _ (h : List Line) (carry : AllCarry (sent_in h)) (drive object : ℕ) where
  is_fair : (l : LaneEntry) (b : LeftBy IsFair h drive object l) → IsFair h drive b.bytes b.command
      → IsFairLane h drive object l
  is_fair l b (inl o) = inl (is_own IsFair h drive object l b o)
  is_fair l b (inr (e, g)) = inr (
    subst (λ (n : ℕ). n < CLIENTS) b.holder_is e,
    record {
      command = b.command;
      given = listed h l.holder b.command carry b.allowed
          (subst (λ (n : ℕ). CarriesGiven h n b.command) b.holder_is g);
      changes = b.changes;
      allowed = b.allowed;
      object_is = b.object_is;
      holder_is = b.holder_is;
      nonce_is = b.nonce_is;
    },
  )

  fair_holder : (l : LaneEntry) → IsFairLane h drive object l → (l.holder ≡ SERVER_HOLDER) ⊎ (l.holder < CLIENTS)
  fair_holder l (inl o) = holder_of h drive object l o
  fair_holder l (inr (e, u)) = inr e

  are_fair : (ls : List LaneEntry) → AreLeft IsFair h drive object ls → AreFairLanes h drive object ls
  are_fair ls a =
      let own : (l : LaneEntry) → In l ls → IsFairLane h drive object l =
      λ l i. let b = a.own l i in is_fair l b b.source in
      record { own = own; differ = a.differ; few = are_few ls a.differ (λ l i. fair_holder l (own l i)) }

pub lanes_are_fair : LanesAreFair
lanes_are_fair h l unforged drive a stands object x there =
    let known : AreKnown h = lines_known h l (servers_own h l) in
    let all = known.known h [] (sym (append-nil h)) in
    are_fair h all.carry drive object x.lanes
    (lanes_are_left IsFair fair_more h known.holds (lines_fair h known unforged) drive a stands object x there)
