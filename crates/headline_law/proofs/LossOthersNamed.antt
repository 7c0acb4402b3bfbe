-- At each moment a client's report names the grant that the server has of it on the file, if it has one.
-- Towards `ReturnsAreLive` (`LossOthers.antt`).
use Rattle.std.proofs.Common.{◌≡◌, ◌++◌, ℕ, List, [], ◌∷◌, Option, Some, None, inl, inr, refl, sym, ap, subst, ◌∙◌, eq-eqb}
use Rattle.std.proofs.lemmas.Bool.{cases_eq, ne_eqb}
use Rattle.layout_types.specs.declared.ioerrs.IoErr.{IoErr}
use Rattle.scenario_text.specs.declared.line.Line.{Line}
use Rattle.client_rules.specs.Calls.{file_of}
use Rattle.client_rules.specs.Grants.{held_of}
use Rattle.client_rules.specs.History.{Input, step as client_step}
use Rattle.client_rules.specs.Requests.{return_args, report_of}
use Rattle.client_rules.proofs.HeldGrants.{held_file}
use Rattle.server_rules.specs.History.{step}
use Rattle.world_history.specs.ClientNames.{Client, CallOp, Held, Request, TimedOut, Report, Waits}
use Rattle.world_history.specs.ServerNames.{Server}
use Rattle.world_history.specs.Sending.{move}
use Rattle.world_history.specs.State.{World, ClientAt, at_number}
use Rattle.history_law.specs.Moments.{IsMoment, lines_in}
use Rattle.exchange_law.specs.Calls.{CallFine, NoGet}
use Rattle.exchange_law.specs.InStep.{state_of}
use Rattle.exchange_law.specs.Meeting.{AgreesAt, FilesSound, IsMet, KeptGood, IsReadableThrough}
use Rattle.exchange_law.proofs.HeldAsking.{step_met}
use Rattle.exchange_law.proofs.ClientsWalk.{StepsKeep, holds_always}
use Rattle.exchange_law.proofs.HeldWorlds.{own_request, next_moment, readable_fronts, readable_there, reached}
use Rattle.file_simulation.specs.Relation.{client_of}
use Rattle.relation_law.specs.Requests.{IsReturning}
use Rattle.relation_law.proofs.ReturnsStands.{ReturnsLaws, shaped}
use Rattle.headline_law.proofs.ServerReports.{Asked, Before, Now, NoReturn, reports_asked}

-- the request returns a grant that agrees with the one that the server has, if it has one
pub record NamesGrant (s : Server) (c file : ℕ) (r : Request) : Type 0 where
  pub held : Held
  pub file_is : held.file ≡ file
  pub report : List IoErr
  pub args_are : r.args ≡ return_args held.number report
  pub agrees : AgreesAt s c file held

-- so it is of the report that client c waits to be answered
abbrev pub Names : Server → (c : ℕ) → Client → Type 0
Names s c y =
    (op : CallOp) (timed : List TimedOut) (r : Request) → y.call ≡ Some (record { op = op; phase = Waits (Report timed) }) →
    y.outstanding ≡ Some r → IsReturning r.args → NamesGrant s c (file_of op) r

abbrev Stands : World → Type 0
Stands w = (c : ℕ) → Names w.server c (client_of w c)

-- ---- the server's step

-- the client as if it still held the grant that it returns, and no call was pending
abbrev still_holding : Client → Held → Client
still_holding x h = record x { held = h ∷ []; call = None }

one_held : (h j : Held) (file : ℕ) → held_of (h ∷ []) file ≡ Some j → (h.file ≡ file) × (h ≡ j)
unfolding held_of
one_held h j file e = elim (cases_eq h.file file) [
  | inl same ↦ (same, cc (rw (eq-eqb h.file file same) at e))
  | inr other ↦ absurd (cc (rw (ne_eqb h.file file other) at e))
]

its_held : (h : Held) (file : ℕ) → h.file ≡ file → held_of (h ∷ []) file ≡ Some h
unfolding held_of
its_held h file same = rw (eq-eqb h.file file same) refl

no_get : (o : Option Request) (r : Request) (n : ℕ) (report : List IoErr) → o ≡ Some r → r.args ≡ return_args n report → NoGet o
no_get o r n report out is = subst NoGet (sym out) (rw is tt)

module _ (laws : ReturnsLaws) where
  -- ---- a client's step

  module _ (w : World) (h : List Line) (k : IsMoment w h) (t : IsReadableThrough h) (s : Stands w) (c : ℕ) (a : ClientAt)
      (found : at_number w.clients c ≡ Some a) where
    same : client_of w c ≡ a.state
    same = ap (state_of c) found

    fine : CallFine (KeptGood w.server c) a.state.held a.state.outstanding a.state.call
    fine = subst (λ (y : Client). CallFine (KeptGood w.server c) y.held y.outstanding y.call) same (laws.agree w h k t c).call

    client_names : (i : Input) → Names w.server c (client_step a.state i).client
    client_names i op timed r call out back =
        by (reports_asked a.state (KeptGood w.server c) fine i op timed r call out)
      where
        by : Asked a.state op timed r → NamesGrant w.server c (file_of op) r
        by (Before before asked) =
            s c op timed r (ap (λ (y : Client). y.call) same ∙ before)
            (ap (λ (y : Client). y.outstanding) same ∙ asked) back
        by (Now hh from args) = record {
          held = from.held;
          file_is = held_file a.state.held (file_of op) from.held from.was;
          report = report_of hh timed;
          args_are = args ∙ ap (λ (n : ℕ). return_args n (report_of hh timed)) from.number;
          agrees = (laws.agree w h k t c).helds (file_of op) from.held
              (ap (λ (y : Client). held_of y.held (file_of op)) same ∙ from.was);
        }
        by (NoReturn args) = absurd (subst IsReturning args back)

  -- ---- the server's step

  sound_at : (w : World) (h : List Line) → IsMoment w h → IsReadableThrough h → FilesSound w.server
  sound_at w h k t n f at =
      let x = (readable_there w h k t).files n f at in
      let y = shaped w (reached w h k) n f at in
      record {
        shaped = record { map = x.map; few = y.few; components = y.components };
        drives = x.drives;
        fits = x.fits;
      }

  steps_keep : StepsKeep Names IsReadableThrough
  steps_keep = record {
    front = readable_fronts;
    starts = λ n op timed r call. absurd (cc call);
    client = λ w h k t s c a found i heard. client_names w h k t s c a found i;
    server = λ w h k m d t later s g c op timed r call out back.
        let x : Client = client_of w c in
        let behind : Server = (step w.server m.chosen g.input).state in
        let sound : FilesSound behind =
        subst FilesSound g.server (sound_at (move w m).world (h ++ lines_in w m) (next_moment w h k m d) later) in
        let n : NamesGrant w.server c (file_of op) r = s c op timed r call out back in
        let y : Client = still_holding x n.held in
        let met : IsMet w.server c y =
        record {
          helds = λ file j e.
              (let o = one_held n.held j file e in
              subst (λ (z : Held). AgreesAt w.server c file z) o.1
              (subst (λ (z : ℕ). AgreesAt w.server c z n.held) (sym n.file_is ∙ o.0) n.agrees));
          call = no_get x.outstanding r n.held.number n.report out n.args_are;
        } in
        let after : IsMet behind c y =
        step_met w.server m.chosen g.input c y (laws.safe w (reached w h k)) sound
        (own_request laws.in_step w h k (readable_there w h k t) c g.input g.heard) met in
        record {
          held = n.held;
          file_is = n.file_is;
          report = n.report;
          args_are = n.args_are;
          agrees = after.helds (file_of op) n.held (its_held n.held (file_of op) n.file_is);
        };
  }

  -- so it is at each moment
  pub names_stand : (w : World) (h : List Line) → IsMoment w h → IsReadableThrough h → (c : ℕ) →
      Names w.server c (client_of w c)
  names_stand = holds_always Names IsReadableThrough steps_keep laws.more
