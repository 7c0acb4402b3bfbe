-- What timed out in a call's writes is reported: the grant that goes back with the report is the only one on the file.
use Rattle.std.proofs.Common.{◌≡◌, ◌<◌, ◌+◌, ◌==◌, ℕ, true, List, [], ◌∷◌, Some, refl, sym, ap, subst, ◌∙◌, inl, inr, arith}
use Rattle.std.proofs.lemmas.Bool.{cases_Bool}
use Rattle.layout_ops.specs.declared.args.Args.{Args}
use Rattle.server_rules.specs.Grants.{grant_of}
use Rattle.server_rules.specs.Laws.{In, Apart, IsSafe, AreSafe}
use Rattle.server_rules.specs.Layouts.{object_of}
use Rattle.client_rules.specs.Calls.{is_write}
use Rattle.client_rules.specs.Requests.{return_args, report_of}
use Rattle.scenario_text.specs.declared.line.Line.{Line}
use Rattle.world_history.specs.ClientNames.{Held, TimedOut, Need, Report}
use Rattle.world_history.specs.ServerNames.{File, Grant}
use Rattle.world_history.specs.State.{World}
use Rattle.world_history.specs.Sending.{Move, move}
use Rattle.history_law.specs.BookMoments.{lines_in}
use Rattle.history_law.proofs.Files.{in_at}
use Rattle.exchange_law.proofs.HeldWorlds.{reached}
use Rattle.component_law.specs.Order.{Rise}
use Rattle.ready_law.proofs.Calls.{ReadyCall, op_at, IsIn}
use Rattle.ready_law.proofs.Stages.{Serves, HasSent, work_at, asking_at, NamesItsObject, AreSilent, Reports, GoesOn, Further}
use Rattle.ready_law.specs.Stepping.{holding, asks_step}
use Rattle.ready_law.proofs.AskingForms.{AskingLaws}
use Rattle.ready_law.proofs.WorkingForms.{UnderGrant, TakesTurn}
use Rattle.ready_law.proofs.WorkingListed.{listed_at}
use Rattle.ready_law.proofs.WorkingEnds.{asked_request, asks_queue, asks_caller, asks_new, asks_quiet, asks_sent}

-- ---- the only grant

safe_in : (fs : List File) (f : File) → AreSafe fs → In f fs → IsSafe f
safe_in [] f a i = absurd i
safe_in (g ∷ fs) f a (inl e) = subst IsSafe (sym e) a.0
safe_in (g ∷ fs) f a (inr i) = safe_in fs f a.1 i

grant_in : (gs : List Grant) (c : ℕ) (g : Grant) → grant_of gs c ≡ Some g → In g gs
grant_in [] c g e = absurd (cc e)
grant_in (x ∷ gs) c g e = elim (cases_Bool (x.client == c)) [
  | inl t ↦ let same : x ≡ g = cc (rw t at e) in inl (sym same)
  | inr f ↦ inr (grant_in gs c g (rw f at e))
]

-- where all are one client's, and each client has one at most
only_one : (gs : List Grant) (c : ℕ) (g : Grant) → Apart gs → Rise gs → ((x : Grant) → In x gs → x.client ≡ c)
    → grant_of gs c ≡ Some g → gs ≡ g ∷ []
only_one [] c g a r own e = absurd (cc e)
only_one (x ∷ []) c g a r own e = elim (grant_in (x ∷ []) c g e) [
  | inl is ↦ ap (λ (y : Grant). y ∷ []) (sym is)
  | inr none ↦ absurd none
]
only_one (x ∷ y ∷ gs) c g a r own e =
    let same : x ≡ y = (a x y (inl refl) (inr (inl refl))).1 (own x (inl refl) ∙ sym (own y (inr (inl refl)))) in
    let less : x.number < y.number = r.0 y (inl refl) in
    absurd (omega (arith, less, ap (λ (z : Grant). z.number) same))

module _ (laws : AskingLaws) (s : ReadyCall) (v : World) (h : List Line) (i : IsIn s v h) (held : Held) (size : ℕ)
    (u : UnderGrant s v held size) (writes : is_write (op_at s) ≡ true) (x : TimedOut) (timed : List TimedOut)
    (silent : AreSilent s held (x ∷ timed)) where
  its_own : (g : Grant) → In g u.grants → g.client ≡ s.client
  its_own g there = elim (u.others g there) [
    | inl own ↦ own
    | inr old ↦
        (s.ready.writes writes).sole x.ask.component (silent.touched x (inl refl)) (silent.lost x (inl refl))
        (u.listed x.ask.component (silent.listed x (inl refl))) g old
  ]

  sole : u.grants ≡ u.grant ∷ []
  sole =
      let there = in_at v.server.files _ _ u.server.found in
      let r = reached v h i.fair.moment in
      only_one u.grants s.client u.grant (safe_in v.server.files _ (laws.safe v r) there).apart
      (laws.order v r _ there).rise its_own u.granted

  names : (t : TimedOut) → In t (x ∷ timed) → NamesItsObject s held t.ask.component
  names t there at place =
      let it = listed_at s v held size u t.ask.component (silent.listed t there) in
      let same : it.at ≡ at = cc (sym it.place ∙ place) in
      it.object ∙ ap object_of same

-- ---- the report

-- The return that reports what timed out goes out: of the call that this ends all else is written.
pub turn_reports : AskingLaws → (s : ReadyCall) (w : World) (m : Move) (held : Held) (size : ℕ) (x : TimedOut)
    (timed : List TimedOut) (t : TakesTurn s w m held [])
    → t.result ≡ asks_step (holding t.base held) (op_at s) (Report (x ∷ timed))
    (return_args held.number (report_of held (x ∷ timed)))
    → (h : List Line) → IsIn s (move w m).world h → UnderGrant s (move w m).world held size → is_write (op_at s) ≡ true
    → AreSilent s held (x ∷ timed) → HasSent s w (asking_at s + work_at s + 2) → GoesOn s (move w m).world (lines_in w m)
turn_reports laws s w m held size x timed t is h i u writes silent sent =
    let n : Need = Report (x ∷ timed) in
    let a : Args = return_args held.number (report_of held (x ∷ timed)) in
    let v : World = (move w m).world in
    let one = sole laws s v h i held size u writes x timed silent in
    Further
    (Reports (record {
      request = asked_request s w m held n a t is;
      held = held;
      timed = x ∷ timed;
      some = λ none. cc none;
      silent = silent;
      args_are = refl;
      asked = asks_new s w m held n a t is;
      caller = asks_caller s w m held n a t is;
      writes = writes;
      size = size;
      grant = u.grant;
      server = subst (λ (gs : List Grant). Serves s v gs size) one u.server;
      client_is = its_own laws s v h i held size u writes x timed silent u.grant (subst (In u.grant) (sym one) (inl refl));
      for_writing = sym u.agrees.rw ∙ u.for_writing writes;
      named = names laws s v h i held size u writes x timed silent;
      queue = asks_queue s w m held n a t is;
      sent = omega (arith, asks_sent s w m held n a t is (asking_at s + work_at s + 2) sent);
    }))
    (asks_quiet s w m held n a t is)
