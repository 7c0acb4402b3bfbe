-- A message that is delivered comes to its receiver in the world.
use Rattle.std.proofs.Common.{◌≡◌, ℕ, zero, suc, ◌<◌, ◌≤◌, ◌&&◌, not, Bool, true, false, arith, List, [], ◌∷◌, map, length, Option, Some, None, Result, Ok, Err, IfOk, slice_get, refl, sym, ap, subst, ◌∙◌}
use Rattle.osd_lists.specs.declared.node.Node.{Node}
use Rattle.osd_lists.specs.declared.node.Node.TheVariants as node
use Rattle.osd_lists.specs.declared.memory.Memory.{Memory}
use Rattle.osd_lists.proofs.Slices.{get_set}
use Rattle.osd_commands.specs.Commands as commands
use Rattle.server_rules.specs.declared.server.Server.{Server}
use Rattle.scenario_text.specs.declared.line.Party.{Party}
use Rattle.scenario_text.specs.declared.line.Party.TheVariants as party
use Rattle.scenario_text.specs.declared.line.Line.{Line}
use Rattle.scenario_text.specs.declared.line.Line.TheVariants as line
use Rattle.scenario_text.specs.declared.line.Delivery.{Delivery}
use Rattle.world_history.specs.declared.messages.Message.{Message}
use Rattle.world_history.specs.declared.messages.Posted.{Posted}
use Rattle.world_history.specs.declared.messages.Sent.{Sent}
use Rattle.world_history.specs.State.{DriveAt, World}
use Rattle.world_history.specs.Spelled.{spelled, party_of, node_of}
use Rattle.world_history.specs.Handed.{Handed as WorldHanded, handed, handed_to}
use Rattle.world_history.specs.Book.{step_by}
use Rattle.world_history.specs.Calm.{mended_in}
use Rattle.world_history.specs.Moves.{Act as WorldAct, Delivers as DeliversAt, changed, delivers, delivers_found, marked, drops_found, with_message}
use Rattle.world_history.specs.Reading.{arrived, left_out}
use Rattle.world_history.specs.Laws.{shown}
use Rattle.world_network.specs.Network.{NetworkState, is_pending, Delivers, Drops}
use Rattle.world_network.specs.Shows.{AllMarksAreShown}
use Rattle.world_network.specs.declared.acts.Act.{Act}
use Rattle.world_network.specs.declared.acts.Handed.{Handed}
use Rattle.world_network.specs.Acts.{IsAct, IsHanded, nothing}
use Rattle.world_parties.specs.Drives.{Heard as DrivesHeard, heard, Hears as DriveHears}
use Rattle.world_parties.specs.DriveLaws.{with_drives, DrivesHear}
use Rattle.world_parties.specs.Clients.{Table, Heard as ClientsHeard, heard_in, Hears as ClientHears}
use Rattle.world_parties.specs.ClientLaws.{with_clients, ClientsHear}
use Rattle.layout_world.specs.declared.parties.Parties.{Parties}
use Rattle.history_law.specs.Doing.{brought}
use Rattle.layout_world.specs.State.{Settled, ShowsWith, Shows}
use Rattle.layout_world.specs.Acting.{Doing, Acts, ActsWith, ends_in, ends_at, IsOf, Handing, Hands, HandsAt, HandsTo}
use Rattle.layout_world.proofs.Settling.{settled_set}
use Rattle.layout_world.proofs.Shown.{shows_drives, shows_clients}
use Rattle.layout_world.proofs.Acted.{nothing_told}

-- ---- parties and their names

node_back : (n : Node) → node_of (party_of n) ≡ n
node_back node.Server = refl
node_back (node.Drive d) = refl
node_back (node.Client c) = refl

-- for whom a message is
pub receiver : (s : Sent) (m : Message) (to : Party) → IsOf s m → s.to ≡ to → m.to ≡ node_of to
receiver s m to i e = sym (node_back m.to) ∙ ap (λ (p : Party). node_of p) (sym i.to ∙ e)

pub sender : (s : Sent) (m : Message) → IsOf s m → node_of s.from ≡ m.from
sender s m i = ap (λ (p : Party). node_of p) i.from ∙ node_back m.from

-- ---- a receiver

pub handing : (w : World) (m : Message) (chosen : List ℕ) (to : Node) (then : World) (new : Parties) (h : Handed) → m.to ≡ to
    → IsHanded (handed_to w chosen m to) then h → ShowsWith (ends_at w chosen m to) new then → Handing w m new h
handing w m chosen to then new h e i s =
    let is : IsHanded (handed w chosen m) then h =
    subst (λ (n : Node). IsHanded (handed_to w chosen m n) then h) (sym e) i in
    record {
      chosen = chosen;
      shows = subst (λ (n : Node). ShowsWith (ends_at w chosen m n) new (handed w chosen m).world) (sym e)
          (subst (λ (x : World). ShowsWith (ends_at w chosen m to) new x) (sym is.world) s);
      receipt = is.receipt;
      act = is.act;
    }

pub drive_handed : DrivesHear → (old : Parties) (t : List (ℕ × DriveAt)) (s : Sent) (d : ℕ) (h : Handed)
    → s.to ≡ party.Drive d → DriveHears (heard old.drives d s.from (commands.reading s.bytes)) t h
    → Hands s old (record old { drives = t }) h
drive_handed law old t s d h to hears = λ w m sh i.
    let there : DrivesHeard = heard w.drives d (party_of m.from) (commands.reading (spelled m.body)) in
    let same : heard old.drives d s.from (commands.reading s.bytes) ≡ there =
    ap (λ (x : List (ℕ × DriveAt)). heard x d s.from (commands.reading s.bytes)) sh.drives
    ∙ ap (λ (x : Party). heard w.drives d x (commands.reading s.bytes)) i.from
    ∙ ap (λ (x : List ℕ). heard w.drives d (party_of m.from) (commands.reading x)) i.bytes in
    let is : h ≡ there.handed = hears.handed_is ∙ ap (λ (x : DrivesHeard). x.handed) same in
    handing w m [] (node.Drive d) (with_drives w there.drives) (record old { drives = t }) h
    (receiver s m (party.Drive d) i to)
    (subst (λ (x : Handed). IsHanded (handed_to w [] m (node.Drive d)) (with_drives w there.drives) x) (sym is) (law w d m))
    (shows_drives [] old t there.drives w (hears.drives ∙ ap (λ (x : DrivesHeard). x.drives) same) sh)

pub client_handed : ClientsHear → (old : Parties) (t : Table) (s : Sent) (c : ℕ) (from : Node) (h : Handed)
    → s.to ≡ party.Client c → from ≡ node_of s.from → ClientHears (heard_in old.clients c from s.bytes) t h
    → Hands s old (record old { clients = t }) h
client_handed law old t s c from h to by hears = λ w m sh i.
    let there : ClientsHeard = heard_in w.clients c m.from (spelled m.body) in
    let same : heard_in old.clients c from s.bytes ≡ there =
    ap (λ (x : Table). heard_in x c from s.bytes) sh.clients
    ∙ ap (λ (x : Node). heard_in w.clients c x s.bytes) (by ∙ sender s m i)
    ∙ ap (λ (x : List ℕ). heard_in w.clients c m.from x) i.bytes in
    let is : h ≡ there.handed = hears.handed_is ∙ ap (λ (x : ClientsHeard). x.handed) same in
    handing w m [] (node.Client c) (with_clients w there.clients) (record old { clients = t }) h
    (receiver s m (party.Client c) i to)
    (subst (λ (x : Handed). IsHanded (handed_to w [] m (node.Client c)) (with_clients w there.clients) x) (sym is) (law w c m))
    (shows_clients [] old t there.clients w (hears.clients ∙ ap (λ (x : ClientsHeard). x.clients) same) sh)

-- whoever it is for
pub hands_at : (number : ℕ) (to : Party) (r : Sent) (old new : Parties) (h : Handed)
    → slice_get old.network.messages number ≡ Some r → r.to ≡ to → HandsTo number to old new h → HandsAt number old new h
hands_at number to r old new h f e hands = λ s g.
    let same : r ≡ s = cc in
    hands s g (ap (λ (x : Sent). x.to) (sym same) ∙ e)

pub hands_ok : (x : Result Handed Memory) (number : ℕ) (to : Party) (r : Sent) (old new : Parties)
    → slice_get old.network.messages number ≡ Some r → r.to ≡ to → IfOk x (λ h. HandsTo number to old new h)
    → IfOk x (λ h. HandsAt number old new h)
hands_ok (Ok h) number to r old new f e hands = hands_at number to r old new h f e hands
hands_ok (Err m) number to r old new f e hands = tt

-- one message stands in a place
pub same_message : (p : Parties) (number : ℕ) (r s : Sent) → slice_get p.network.messages number ≡ Some r
    → slice_get p.network.messages number ≡ Some s → r ≡ s
same_message p number r s f g = cc

-- ---- a message of the network

-- what stands in the network is a message of the world
found_in : (ps : List Posted) (n : ℕ) (s : Sent) → slice_get (map shown ps) n ≡ Some s
    → (p : Posted) × (slice_get ps n ≡ Some p) × (s ≡ shown p)
found_in [] n s e = absurd (cc e)
found_in (p ∷ ps) zero s e = (p, refl, (let same : shown p ≡ s = cc in sym same))
found_in (p ∷ ps) (suc n) s e = found_in ps n s e

none_in : (ps : List Posted) (n : ℕ) → length (map shown ps) ≤ n → slice_get ps n ≡ None
none_in [] n l = refl
none_in (p ∷ ps) zero l = absurd (omega (arith, l))
none_in (p ∷ ps) (suc n) l = none_in ps n (omega (arith, l))

-- the mark changes the network alone
marked_shows : (old : Parties) (n' : NetworkState) (number : ℕ) (w : World) (q : Posted)
    → AllMarksAreShown → Shows old w → slice_get w.network.messages number ≡ Some q → Delivers old.network number n'
    → Shows (record old { network = n' }) (marked w number q)
marked_shows old n' number w q law s f d = record {
  drives = s.drives;
  clients = s.clients;
  server = s.server;
  clock = s.clock;
  down = s.down;
  network = (law old.network n' w number q s.network f).delivers d;
  settled = subst (λ (x : NetworkState). Settled 0 old.settled x.messages) (sym d.state)
      (settled_set 0 old.settled number old.network.messages (arrived d.message) refl s.settled);
  mended = s.mended;
}

-- none in that place is nobody's
pub delivers_none : (p : Parties) (number : ℕ) → length p.network.messages ≤ number
    → ActsWith (λ w chosen. delivers w chosen number) (ends_in (DeliversAt number)) p p nothing
unfolding delivers
delivers_none p number l = λ w s.
    let none : slice_get w.network.messages number ≡ None =
    none_in w.network.messages number (subst (λ (x : List Sent). length x ≤ number) s.network.messages l) in
    let is : delivers w [] number ≡ changed w = ap (λ (x : Option Posted). delivers_found w [] number x) none in
    record {
      chosen = [];
      shows = subst (λ (o : Option Posted). ShowsWith (mended_in (step_by w.server [] (brought w o))) p
          (delivers w [] number).world) (sym none) (subst (λ (a : WorldAct). Shows p a.world) (sym is) s);
      is = subst (λ (a : WorldAct). IsAct a.told a.posts nothing) (sym is) (nothing_told w);
    }

-- the line that tells what became of it, before the act
told_first : (w : World) (number : ℕ) (new : Parties) (q : Posted) (h : Handed) (act : Act)
    → Handing (marked w number q) q.message new h → slice_get w.network.messages number ≡ Some q
    → act ≡ record { told = line.Delivered number h.receipt ∷ h.act.told; posts = h.act.posts }
    → Doing (λ chosen. delivers w chosen number) (ends_in (DeliversAt number) w) new act
unfolding delivers
told_first w number new q h act a f e =
    let then : WorldHanded = handed (marked w number q) a.chosen q.message in
    let is : delivers_found w a.chosen number (Some q) ≡ delivers w a.chosen number =
    ap (λ (x : Option Posted). delivers_found w a.chosen number x) (sym f) in
    record {
      chosen = a.chosen;
      shows = subst (λ (o : Option Posted). ShowsWith (mended_in (step_by w.server a.chosen (brought w o))) new
          (delivers w a.chosen number).world) (sym f)
          (subst (λ (x : WorldAct). ShowsWith (ends_at w a.chosen q.message q.message.to) new x.world) is a.shows);
      is = subst (λ (x : WorldAct). IsAct x.told x.posts act) is (record {
        lines = ap (λ (x : Act). x.told) e
            ∙ ap (λ (x : Delivery). line.Delivered number x ∷ h.act.told) a.receipt
            ∙ ap (λ (x : List Line). line.Delivered number then.receipt ∷ x) a.act.lines;
        sends = ap (λ (x : Act). x.posts) e ∙ a.act.sends;
      });
    }

pub delivered : AllMarksAreShown → (old new : Parties) (n' : NetworkState) (number : ℕ) (h : Handed) (act : Act)
    → Delivers old.network number n' → number < length old.network.messages
    → HandsAt number (record old { network = n' }) new h
    → act ≡ record { told = line.Delivered number h.receipt ∷ h.act.told; posts = h.act.posts }
    → ActsWith (λ w chosen. delivers w chosen number) (ends_in (DeliversAt number)) old new act
delivered law old new n' number h act d inside hands e = λ w s.
    let there : slice_get (map shown w.network.messages) number ≡ Some d.message =
    subst (λ (x : List Sent). slice_get x number ≡ Some d.message) s.network.messages d.found in
    let q = found_in w.network.messages number d.message there in
    let shows : Shows (record old { network = n' }) (marked w number q.0) = marked_shows old n' number w q.0 law s q.1 d in
    let found : slice_get n'.messages number ≡ Some (arrived d.message) =
    ap (λ (x : NetworkState). slice_get x.messages number) d.state
    ∙ get_set old.network.messages number (arrived d.message) inside in
    let is : IsOf (arrived d.message) q.0.message = record {
      from = ap (λ (x : Sent). x.from) q.2;
      to = ap (λ (x : Sent). x.to) q.2;
      bytes = ap (λ (x : Sent). x.bytes) q.2;
    } in
    told_first w number new q.0 h act
    (hands (arrived d.message) found (marked w number q.0) q.0.message shows is) q.1 e

-- ---- a message that is left out

-- it isn't pending
stays_out : (s : Sent) → is_pending (left_out s) ≡ false
stays_out s = never s.delivered
  where
    never : (b : Bool) → (not b && false) ≡ false
    never true = refl
    never false = refl

pub drops : AllMarksAreShown → (old : Parties) (n' : NetworkState) (number : ℕ) → Drops old.network number n'
    → Acts (λ w chosen. changed (drops_found w number (slice_get w.network.messages number))) old
    (record old { network = n' }) nothing
drops law old n' number d = λ w s.
    let there : slice_get (map shown w.network.messages) number ≡ Some d.message =
    subst (λ (x : List Sent). slice_get x number ≡ Some d.message) s.network.messages d.found in
    let q = found_in w.network.messages number d.message there in
    let then : World = with_message w number (record q.0 { dropped = true }) in
    let is : then ≡ drops_found w number (slice_get w.network.messages number) =
    ap (λ (x : Option Posted). drops_found w number x) (sym q.1) in
    let shows : Shows (record old { network = n' }) then = record {
      drives = s.drives;
      clients = s.clients;
      server = s.server;
      clock = s.clock;
      down = s.down;
      network = (law old.network n' w number q.0 s.network q.1).drops d;
      settled = subst (λ (x : NetworkState). Settled 0 old.settled x.messages) (sym d.state)
          (settled_set 0 old.settled number old.network.messages (left_out d.message)
          (stays_out d.message) s.settled);
      mended = s.mended;
    } in
    record {
      chosen = [];
      shows = subst (λ (x : World). Shows (record old { network = n' }) x) is shows;
      is = nothing_told (drops_found w number (slice_get w.network.messages number));
    }

pub drops_none : (p : Parties) (number : ℕ) → length p.network.messages ≤ number
    → Acts (λ w chosen. changed (drops_found w number (slice_get w.network.messages number))) p p nothing
drops_none p number l = λ w s.
    let none : slice_get w.network.messages number ≡ None =
    none_in w.network.messages number (subst (λ (x : List Sent). length x ≤ number) s.network.messages l) in
    let is : w ≡ drops_found w number (slice_get w.network.messages number) =
    ap (λ (x : Option Posted). drops_found w number x) (sym none) in
    record {
      chosen = [];
      shows = subst (λ (x : World). Shows p x) is s;
      is = nothing_told (drops_found w number (slice_get w.network.messages number));
    }
