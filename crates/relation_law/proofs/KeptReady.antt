-- What the world gives where the server goes on: its files are apart, work fits its phase, and no order is heard.
-- Towards `KeptGoesOn` (`specs/Steps.antt`).
use Rattle.std.proofs.Common.{◌≡◌, ℕ, Bool, true, false, not, List, [], ◌∷◌, Some, None, refl, sym, ap, subst, ◌∙◌, inl, inr}
use Rattle.std.proofs.lemmas.Bool.{true≢false}
use Rattle.osd_lists.specs.declared.node.Node.TheVariants.{Client as FromClient}
use Rattle.server_rules.specs.Files.{file_at}
use Rattle.server_rules.specs.History.{Input, Hears, Makes, Obeys, Adds, Zones, Formats, Resends, Crashes, Opens, state_after}
use Rattle.server_rules.specs.Laws.{In}
use Rattle.server_rules.specs.Making.{new_server}
use Rattle.server_rules.specs.Messages.{Asks, counters_have_room}
use Rattle.server_rules.proofs.FileLaws.{file_in}
use Rattle.scenario_text.specs.declared.line.Line.{Line}
use Rattle.world_history.specs.ServerNames.{Server, File, ClientRequest}
use Rattle.world_history.specs.History.{OneEventMore}
use Rattle.world_history.specs.State.{World}
use Rattle.history_law.specs.BookMoments.{IsMoment}
use Rattle.history_law.specs.Fencing.{Reached}
use Rattle.history_law.specs.Moments.{IsReached}
use Rattle.history_law.specs.Said.{IsHeardByServer}
use Rattle.component_law.specs.Naming.{AreNamed}
use Rattle.component_law.specs.Distinct.{AreDistinct}
use Rattle.component_law.specs.Words.{Each}
use Rattle.exchange_law.specs.Counters.{CountersStayLow}
use Rattle.exchange_law.specs.Text.{AreOfText, AreFew}
use Rattle.component_law.specs.Sent.{IsSentByRun}
use Rattle.component_law.specs.Standing.{is_new, AreStanding}
use Rattle.component_law.specs.Turns.{in_turn, down_after}
use Rattle.component_law.proofs.Moments.{server_sent_its_run}
use Rattle.component_law.proofs.StandRuns.{IsAt, starts}
use Rattle.fence_law.specs.State.{State}
use Rattle.file_simulation.specs.ServerEvents.{is_served}
use Rattle.relation_law.specs.KeptAsked.{AsksRightly}
use Rattle.component_law.specs.KeptWalk.{FileFits}
use Rattle.component_law.proofs.KeptFits.{FitsBy, fits_run}
use Rattle.relation_law.proofs.KeptInputs.{IsIdleAt, FitsAt}
use Rattle.component_law.proofs.KeptOpening.{IsIdle}
use Rattle.relation_law.proofs.KeptOrders.{no_order_is_heard}
use Rattle.relation_law.proofs.KeptWhole.{IsServed}

-- ---- at a moment

-- at a moment of a run
pub record IsFit (w : World) : Type 0 where
  pub fits : FitsBy w.down w.server.files
  pub stands : IsAt w.down w.server

pub fit_at : OneEventMore → CountersStayLow → (w : World) (h : List Line) → IsMoment w h → AreNamed h → AreOfText h
    → AreFew h → IsFit w
fit_at more low w h k named text few =
    let r : IsSentByRun w = server_sent_its_run more w h k named in
    let room : counters_have_room (state_after (new_server []) r.acts) ≡ true =
    subst (λ (s : Server). counters_have_room s ≡ true) r.server (low w h k text few) in
    let x = fits_run false (new_server []) r.acts starts (λ f i. absurd i) r.turns room in
    record {
      fits =
          subst (λ (b : Bool). FitsBy b w.server.files) r.down
          (subst (λ (s : Server). FitsBy (down_after false r.acts) s.files) (sym r.server) x.0);
      stands =
          subst (λ (b : Bool). IsAt b w.server) r.down
          (subst (λ (s : Server). IsAt (down_after false r.acts) s) (sym r.server) x.1);
    }

-- ---- in the words of a step

each_of : (P : File → Type 0) (fs : List File) → ((f : File) → In f fs → P f) → Each P fs
each_of P [] all = tt
each_of P (f ∷ fs) all = (all f (inl refl), each_of P fs (λ g i. all g (inr i)))

-- whether an object has reached a tag doesn't matter here
abbrev every : Reached
every drive object tag = true

-- while the server is up a file without a job was made
pub made_up : (w : World) (f : File) → w.down ≡ false → IsFit w → In f w.server.files → f.job ≡ None → f.kept.ready ≡ true
made_up w f up fit i none =
    let all : AreStanding false every w.server.files =
    subst (λ (b : Bool). AreStanding b every w.server.files) up fit.stands.standing in
    ready (f.kept.ready) (sym (all f i).makes ∙ ap is_new none)
  where
    ready : (b : Bool) → not b ≡ false → b ≡ true
    ready true e = refl
    ready false e = absurd (true≢false e)

-- where the server is opened it was down, and no job runs
pub idle_by : (w : World) (down : Bool) → w.down ≡ down → IsFit w → (i : Input) → in_turn down i ≡ true
    → IsIdleAt i w.server.files
idle_by w true is fit Opens turn =
    each_of IsIdle w.server.files (subst (λ (b : Bool). FitsBy b w.server.files) is fit.fits)
idle_by w false is fit Opens turn = absurd (true≢false (sym turn))
idle_by w down is fit (Hears now from m) turn = tt
idle_by w down is fit (Makes n m tag zoned) turn = tt
idle_by w down is fit (Obeys kind n) turn = tt
idle_by w down is fit (Adds d) turn = tt
idle_by w down is fit (Zones d zone) turn = tt
idle_by w down is fit (Formats n) turn = tt
idle_by w down is fit Resends turn = tt
idle_by w down is fit Crashes turn = tt

-- where it is up, work fits its phase
pub fit_by : (w : World) (down : Bool) → w.down ≡ down → IsFit w → (i : Input) → in_turn down i ≡ true
    → FitsAt i w.server.files
fit_by w true is fit Opens turn = tt
fit_by w false is fit Opens turn = tt
fit_by w false is fit i turn =
    each_of FileFits w.server.files (subst (λ (b : Bool). FitsBy b w.server.files) is fit.fits)
fit_by w true is fit i turn = absurd (true≢false (sym turn))

-- what comes is in its turn, and the request of a client is as the other parts have it
pub record ComesRightly (s : State) (w : World) (f : File) (i : Input) : Type 0 where
  pub turn : in_turn w.down i ≡ true
  pub heard : IsHeardByServer w i
  pub asks : (now : ℕ) (q : ClientRequest) → i ≡ Hears now (FromClient q.client) (Asks q) →
      is_served w.server q.client q ≡ true → q.file ≡ f.kept.number → AsksRightly s f q
  -- of a request, that the server is up
  pub up : (now : ℕ) (q : ClientRequest) → i ≡ Hears now (FromClient q.client) (Asks q) → w.down ≡ false

-- All that a step of the server needs of the world is there.
pub served_at : (s : State) (w : World) (f : File) (i : Input) → IsReached w → IsFit w → AreDistinct w.server.files
    → file_at w.server.files f.kept.number ≡ Some f → ComesRightly s w f i → IsServed s w f i
served_at s w f i reached fit apart there c = record {
  ready = record { there = there; apart = apart };
  orders = no_order_is_heard w reached i c.heard;
  idle = idle_by w w.down refl fit i c.turn;
  fit = fit_by w w.down refl fit i c.turn;
  made = λ now q is none. made_up w f (c.up now q is) fit (file_in w.server.files f.kept.number f there) none;
  asks = c.asks;
}
