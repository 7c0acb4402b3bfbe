-- What the parties of the code do in an action is what the world does.
use Rattle.std.proofs.Common.{◌≡◌, ℕ, Bool, true, false, true≢false, List, [], Some, None, Result, Ok, Err, IfOk, refl, sym, ap, subst, ◌∙◌, if◌then◌else◌}
use Rattle.server_rules.specs.declared.server.Server.{Server}
use Rattle.server_rules.specs.History.{Input, Adds, step}
use Rattle.scenario_text.specs.declared.event.Event.{Event}
use Rattle.scenario_text.specs.declared.event.Event.TheVariants as event
use Rattle.scenario_text.specs.declared.line.Line.TheVariants as line
use Rattle.osd_lists.specs.declared.memory.Memory.{Memory}
use Rattle.osd_commands.specs.Commands as commands
use Rattle.world_history.specs.ServerNames.{Mended}
use Rattle.world_history.specs.State.{World, with_server, with_down}
use Rattle.world_history.specs.Book.{step_by}
use Rattle.world_history.specs.Calm.{mended_in}
use Rattle.world_history.specs.Moves.{Act as WorldAct, Opens, changed as only_changed, gives, begins, knows_drive, known_drive}
use Rattle.world_network.specs.declared.acts.Act.{Act}
use Rattle.world_network.specs.Acts.{IsAct, IsDone, nothing}
use Rattle.world_parties.specs.Clients.{Does}
use Rattle.layout_world.specs.ServerState.{WorldServerState}
use Rattle.layout_world.specs.ServerActing as server
use Rattle.layout_world.specs.declared.parties.Parties.{Parties}
use Rattle.layout_world.specs.State.{ShowsWith, Shows}
use Rattle.layout_world.specs.Groups.{is_plain}
use Rattle.layout_world.specs.Acting.{Doing, Acts, ActsWith, ends_by, ends_in}
use Rattle.layout_world.proofs.Shown.{shows_server, shows_down}

-- what is done, with the world that the parties show then
pub doing : (does : List ℕ → WorldAct) (ends : List ℕ → List Mended) (chosen : List ℕ) (after : World) (new : Parties)
    (act : Act) → IsDone (does chosen) after act → ShowsWith (ends chosen) new after → Doing does ends new act
doing does ends chosen after new act d s = record {
  chosen = chosen;
  shows = subst (λ (x : World). ShowsWith (ends chosen) new x) (sym d.world) s;
  is = d.act;
}

-- what holds of an act holds of it where a premise is given
pub held : (r : Result Act Memory) (A : Act → Type 0) (B : Type 0) → IfOk r A → IfOk r (λ act. B → A act)
held (Ok act) A B h = λ b. h
held (Err m) A B h = tt

-- ---- nothing is told

pub nothing_told : (w : World) → IsAct (only_changed w).told (only_changed w).posts nothing
nothing_told w = record { lines = refl; sends = refl }

-- ---- the server

-- a step that ends these repairs
pub server_does : (old : Parties) (x : WorldServerState) (act : Act) (does : World → List ℕ → WorldAct)
    (ends : World → List ℕ → List Mended) (chosen : List ℕ)
    → server.Does old.server.state (λ w. does w chosen) x.state act
    → ((w : World) → Shows old w → x.mended ≡ ends w chosen) → ActsWith does ends old (record old { server = x }) act
server_does old x act does ends chosen h mended = λ w s.
    doing (does w) (ends w) chosen (with_server w x.state) (record old { server = x }) act (h w (sym s.server))
    (subst (λ (rs : List Mended). ShowsWith rs (record old { server = x }) (with_server w x.state)) (mended w s)
    (shows_server old x w s))

-- one that ends none
pub server_keeps : (old : Parties) (x : WorldServerState) (act : Act) (does : World → List ℕ → WorldAct) (chosen : List ℕ)
    → server.Does old.server.state (λ w. does w chosen) x.state act → x.mended ≡ old.server.mended
    → Acts does old (record old { server = x }) act
server_keeps old x act does chosen h same =
    server_does old x act does (λ w chosen. []) chosen h (λ w s. same ∙ s.mended)

-- it crashes, or is opened again
pub server_restarts : (old : Parties) (x : WorldServerState) (act : Act) (down : Bool) (i : Input)
    → server.Gives old.server.state i x act
    → ActsWith (λ w chosen. gives (with_down w down) chosen i) (ends_by i) old (record old { server = x; down = down }) act
server_restarts old x act down i h = λ w s.
    let ended : x.mended ≡ ends_by i w h.chosen = h.mended ∙ ap (λ (v : Server). (step v h.chosen i).mended) s.server in
    doing (λ chosen. gives (with_down w down) chosen i) (ends_by i w) h.chosen (with_server (with_down w down) x.state)
    (record old { server = x; down = down }) act (h.done (with_down w down) (sym s.server))
    (subst (λ (rs : List Mended). ShowsWith rs (record old { server = x; down = down })
    (with_server (with_down w down) x.state)) ended
    (shows_server (record old { down = down }) x (with_down w down) (shows_down old down w s)))

-- ---- an event that needs no placer ends no repair

new_drive_ends : (w : World) (chosen : List ℕ) (d : ℕ) (key : List ℕ) (capacity : ℕ) (known : Bool)
    → mended_in (step_by w.server chosen (if known then None else Some (Adds (known_drive d key capacity)))) ≡ []
new_drive_ends w chosen d key capacity true = refl
new_drive_ends w chosen d key capacity false = refl

plain_ends : (w : World) (chosen : List ℕ) (e : Event) → is_plain e ≡ true → ends_in (Opens e) w chosen ≡ []
plain_ends w chosen (event.Deliver n) p = absurd (true≢false (sym p))
plain_ends w chosen (event.File f m tag) p = absurd (true≢false (sym p))
plain_ends w chosen (event.ZonedFile f m tag) p = absurd (true≢false (sym p))
plain_ends w chosen (event.Recall f) p = absurd (true≢false (sym p))
plain_ends w chosen (event.Revoke f) p = absurd (true≢false (sym p))
plain_ends w chosen (event.Rebuild f) p = absurd (true≢false (sym p))
plain_ends w chosen (event.Audit f) p = absurd (true≢false (sym p))
plain_ends w chosen (event.Declare d) p = absurd (true≢false (sym p))
plain_ends w chosen (event.Crash m) p = absurd (true≢false (sym p))
plain_ends w chosen (event.Reopen m) p = absurd (true≢false (sym p))
plain_ends w chosen (event.Drive d key capacity) p = new_drive_ends w chosen d key capacity (knows_drive w.server d)
plain_ends w chosen (event.Disk d key capacity) p = new_drive_ends w chosen d key capacity (knows_drive w.server d)
plain_ends w chosen e p = refl

pub ends_none : (e : Event) (old new : Parties) (act : Act)
    → ((w : World) (chosen : List ℕ) → ends_in (Opens e) w chosen ≡ []) → Acts (λ w chosen. begins w chosen e) old new act
    → ActsWith (λ w chosen. begins w chosen e) (ends_in (Opens e)) old new act
ends_none e old new act none h = λ w s.
    let d = h w s in
    record {
      chosen = d.chosen;
      shows = subst (λ (rs : List Mended). ShowsWith rs new (begins w d.chosen e).world) (sym (none w d.chosen)) d.shows;
      is = d.is;
    }

pub none_ok : (r : Result Act Memory) (e : Event) (old new : Parties)
    → ((w : World) (chosen : List ℕ) → ends_in (Opens e) w chosen ≡ [])
    → IfOk r (λ act. Acts (λ w chosen. begins w chosen e) old new act)
    → IfOk r (λ act. ActsWith (λ w chosen. begins w chosen e) (ends_in (Opens e)) old new act)
none_ok (Ok act) e old new none h = ends_none e old new act none h
none_ok (Err x) e old new none h = tt

pub plain_acts : (e : Event) (old new : Parties) (act : Act) → is_plain e ≡ true
    → Acts (λ w chosen. begins w chosen e) old new act
    → ActsWith (λ w chosen. begins w chosen e) (ends_in (Opens e)) old new act
plain_acts e old new act p h = ends_none e old new act (λ w chosen. plain_ends w chosen e p) h

pub plain_ok : (r : Result Act Memory) (e : Event) (old new : Parties) → is_plain e ≡ true
    → IfOk r (λ act. is_plain e ≡ true → Acts (λ w chosen. begins w chosen e) old new act)
    → IfOk r (λ act. ActsWith (λ w chosen. begins w chosen e) (ends_in (Opens e)) old new act)
plain_ok (Ok act) e old new p h = plain_acts e old new act p (h p)
plain_ok (Err x) e old new p h = tt
