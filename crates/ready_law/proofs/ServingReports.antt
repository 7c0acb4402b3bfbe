-- A LAYOUTRETURN with a report of what timed out is taken as a loss.
use Rattle.std.proofs.Common.{◌≡◌, ◌≢◌, ◌==◌, ◌≤◌, ◌<◌, ◌+◌, ◌^◌, ℕ, zero, suc, true, false, List, [], ◌∷◌, map, length, slice_get, Option, Some, None, refl, sym, ap, subst, ◌∙◌, inl, inr, eq-eqb, arith}
use Rattle.std.specs.List.{AllByRecursion}
use Rattle.std.proofs.lemmas.Bool.{cases_Bool, eqb-true, and_parts}
use Rattle.std.proofs.lemmas.List.{append-nil}
use Rattle.std.proofs.lemmas.Nat.{from_be_bytes-to_be_bytes_8}
use Rattle.layout_types.specs.declared.objid.ObjId.{ObjId}
use Rattle.layout_types.specs.declared.ioerrs.IoErr.{IoErr}
use Rattle.layout_types.specs.declared.ioerrs.Errno.TheVariants.{Unreachable}
use Rattle.layout_ops.specs.declared.results.LayoutReturnResult.TheVariants as return
use Rattle.layout_ops.specs.declared.results.Results.TheVariants as results
use Rattle.layout_ops.specs.declared.statuses.TheConstants.{NFS4_OK}
use Rattle.scenario_text.specs.declared.line.Line.{Line}
use Rattle.client_rules.specs.Requests.{return_args, object_of as object_in, error_at, report_of}
use Rattle.server_rules.specs.declared.limits.TheConstants.{FIRST_PARTITION, LOSS_TAKEN}
use Rattle.server_rules.specs.Envelopes.{return_in, asked_in}
use Rattle.server_rules.specs.Files.{file_at, at_file}
use Rattle.server_rules.specs.Going.{Going, keeping, noting_if}
use Rattle.server_rules.specs.Grants.{grant_of, without}
use Rattle.server_rules.specs.History.{state_after}
use Rattle.server_rules.specs.Laws.{In}
use Rattle.server_rules.specs.Layouts.{object_of}
use Rattle.server_rules.specs.Making.{new_server}
use Rattle.server_rules.specs.Numbers.{among}
use Rattle.server_rules.specs.Requests.{serves}
use Rattle.server_rules.specs.Return.{is_device, is_at, named_from, named_by, and_others, named, none_beyond, loss, Taken, by_loss, by_report, by_grant, return_row, ends_grant, reports_from, takes_loss, by_return, returns_on}
use Rattle.server_rules.specs.Served.{Served, says}
use Rattle.server_rules.specs.Standing.{lose_from}
use Rattle.server_rules.proofs.FileLaws.{file_in}
use Rattle.world_history.specs.ClientNames.{Client, CallOp, Held, Request, TimedOut, Report, Waits}
use Rattle.world_history.specs.ServerNames.{Server, File, Component, Grant, Return, Reported}
use Rattle.world_history.specs.State.{World, ClientAt, at_number}
use Rattle.world_history.specs.Moves.{Delivers, acts}
use Rattle.history_law.specs.BookMoments.{IsMoment}
use Rattle.history_law.specs.Granted.{NumbersFit}
use Rattle.component_law.proofs.NamedLines.{are_named}
use Rattle.component_law.specs.Objects.{objects_of, NoneIs, AllDiffer, EachObjectIsOwned}
use Rattle.component_law.specs.Sent.{ServerSentItsRun}
use Rattle.exchange_law.proofs.ClientMoves.{clients_always}
use Rattle.exchange_law.proofs.CountMoments.{reached}
use Rattle.exchange_law.proofs.HeldWorlds.{readable_there}
use Rattle.exchange_law.proofs.Missing.{component_at}
use Rattle.cause_law.specs.Reports.{as_written, error_read, report_read}
use Rattle.cause_law.proofs.Going.{CallShort, ClientShort}
use Rattle.cause_law.proofs.Lengths.{ErrorLong, ReportShort}
use Rattle.cause_law.proofs.Reported.{read_whole}
use Rattle.cause_law.proofs.ReportSteps.{new_short, step_short}
use Rattle.cause_law.proofs.Holders.{grants_named}
use Rattle.ready_law.specs.Fair.{IsFair}
use Rattle.ready_law.proofs.ServingForms.{RequestLaws, Comes, Carried, Serves}
use Rattle.ready_law.proofs.ServingRequests.{request_served}

-- the components that timed out
abbrev pub components_of : List TimedOut → List ℕ
components_of ts = map (λ (t : TimedOut). t.ask.component) ts

-- these components are missing then, no grant is left, and nothing else of the file changes
abbrev pub lost_to : (c : ℕ) → Request → File → (components : List ℕ) → Carried
lost_to c q f ks = record {
  left = record f { kept = record f.kept { components = lose_from ks f.kept.components 0; grants = [] } };
  recalled = [];
  numbers = 0;
  answer = record {
    client = c;
    sequence = q.sequence;
    file = q.file;
    detail = LOSS_TAKEN;
    size = f.kept.size;
    results = results.LayoutReturn (return.Returned None);
  };
}

-- The client has the file's only grant, for writing. Something timed out, and all that did are components of the file, which
-- the held grant lists by their objects. Without them each group can still be decoded.
pub record CanReport (c : ℕ) (f : File) (held : Held) (timed : List TimedOut) : Type 0 where
  pub grant : Grant
  pub sole : f.kept.grants ≡ grant ∷ []
  pub client : grant.client ≡ c
  pub writes : grant.rw ≡ true
  pub some : timed ≢ []
  pub few : length timed ≤ 64
  pub inside : (t : TimedOut) → In t timed → t.ask.component < length f.kept.components
  pub named : (t : TimedOut) → In t timed → (at : Component) → slice_get f.kept.components t.ask.component ≡ Some at
      → object_in held t.ask.component ≡ object_of at
  pub borne : none_beyond f.kept.map (lose_from (components_of timed) f.kept.components 0) (components_of timed) ≡ true

-- ---- what the server reads of an entry

-- the name of an object, as it is written and read
abbrev as_read : ObjId → ObjId
as_read o = record o {
  oid_partition_id = as_written o.oid_partition_id;
  oid_object_id = as_written o.oid_object_id;
}

-- the name of a component's object, as it is read
is_there : (o : ObjId) (at : Component) → o ≡ object_of at → at.object < 2 ^ 64 → FIRST_PARTITION + at.drive < 2 ^ 64
    → is_at (as_read o) at ≡ true
unfolding is_device
is_there o at is low near =
    let drive : at.drive < 2 ^ 64 = omega (arith, near) in
    let object_again : as_written at.object ≡ at.object = from_be_bytes-to_be_bytes_8 at.object low in
    let partition_again : as_written (FIRST_PARTITION + at.drive) ≡ FIRST_PARTITION + at.drive =
    from_be_bytes-to_be_bytes_8 (FIRST_PARTITION + at.drive) near in
    subst (λ (x : ObjId). is_at (as_read x) at ≡ true) (sym is)
    (rw (
      from_be_bytes-to_be_bytes_8 at.drive drive,
      eq-eqb at.drive at.drive refl,
      object_again,
      partition_again,
      eq-eqb at.object at.object refl,
      eq-eqb (FIRST_PARTITION + at.drive) (FIRST_PARTITION + at.drive) refl,
    ) refl)

-- what an entry names has its object
other_object : (o : ObjId) (a b : Component) → is_at o a ≡ true → a.object ≢ b.object → is_at o b ≡ false
other_object o a b there other = elim (cases_Bool (is_at o b)) [
  | inl t ↦
      let x = and_parts (is_device o.oid_device_id a.drive) _ there in
      let y = and_parts (is_device o.oid_device_id b.drive) _ t in
      let u = and_parts (o.oid_partition_id == FIRST_PARTITION + a.drive) _ x.1 in
      let v = and_parts (o.oid_partition_id == FIRST_PARTITION + b.drive) _ y.1 in
      absurd (other (sym (eqb-true o.oid_object_id a.object u.1) ∙ eqb-true o.oid_object_id b.object v.1))
  | inr z ↦ z
]

-- ---- the component that an entry names

none_has : (o : ℕ) (cs : List Component) (i : ℕ) (at : Component) → NoneIs o (objects_of cs) → slice_get cs i ≡ Some at
    → at.object ≡ o → ⊥
none_has o [] i at none found is = cc found
none_has o (c ∷ cs) zero at none found is =
    let same : c ≡ at = cc found in none.0 (ap (λ (x : Component). x.object) same ∙ is)
none_has o (c ∷ cs) (suc i) at none found is = none_has o cs i at none.1 found is

named_there : (e : IoErr) (cs : List Component) (j i : ℕ) (at : Component) → AllDiffer (objects_of cs)
    → slice_get cs i ≡ Some at → is_at e.oer_component at ≡ true → named_from e cs j ≡ Some (j + i)
unfolding named_from
named_there e [] j i at differ found there = absurd (cc found)
named_there e (c ∷ cs) j zero at differ found there =
    let same : c ≡ at = cc found in
    rw (ap (λ (x : Component). is_at e.oer_component x) same ∙ there)
    (ap (λ (n : ℕ). Some n) (omega arith))
named_there e (c ∷ cs) j (suc i) at differ found there =
    rw (other_object e.oer_component at c there (none_has c.object cs i at differ.0 found))
    (named_there e cs (j + 1) i at differ.1 found there ∙ ap (λ (n : ℕ). Some n) (omega arith))

-- ---- the report

-- notes change nothing else
only_notes : (g : Going) (ks : List ℕ) (cs : List Component) (k : ℕ)
    → ((reports_from g ks cs k).file ≡ g.file) × ((reports_from g ks cs k).effects.sent ≡ g.effects.sent)
unfolding reports_from
only_notes g ks [] k = (refl, refl)
only_notes g ks (at ∷ cs) k = only_notes (noting_if (among k ks) g (Reported k)) ks cs (k + 1)

module _ (w : World) (c : ℕ) (f : File) (held : Held) (timed : List TimedOut) (can : CanReport c f held timed)
    (fits : NumbersFit w.server.drives f.kept can.grant) (differ : AllDiffer (objects_of f.kept.components)) where
  abbrev cs : List Component
  cs = f.kept.components

  -- a component that timed out is there, and named
  named_at : (t : TimedOut) → In t timed
      → (at : Component) × (slice_get cs t.ask.component ≡ Some at) × (object_in held t.ask.component ≡ object_of at)
  named_at t there =
      let at = component_at cs t.ask.component (can.inside t there) in (at.0, at.1, can.named t there at.0 at.1)

  entry_named : (t : TimedOut) → In t timed
      → named_by (error_read (error_at held t.write t.ask Unreachable)) cs ≡ Some t.ask.component
  unfolding error_at
  entry_named t there =
      let l = named_at t there in
      let low = fits.capabilities t.ask.component l.0 l.1 in
      named_there (error_read (error_at held t.write t.ask Unreachable)) cs 0 t.ask.component l.0 differ l.1
      (is_there (object_in held t.ask.component) l.0 l.2 low.object low.partition)
      ∙ ap (λ (n : ℕ). Some n) (omega arith)

  all_named : (ts : List TimedOut) → ((t : TimedOut) → In t ts → In t timed)
      → named (report_read (report_of held ts)) cs ≡ Some (components_of ts)
  unfolding named report_of
  all_named [] inside = refl
  all_named (t ∷ ts) inside =
      ap (λ (o : Option ℕ). and_others o (named (report_read (report_of held ts)) cs)) (entry_named t (inside t (inl refl)))
      ∙ ap (and_others (Some t.ask.component)) (all_named ts (λ u i. inside u (inr i)))

  ids_long : (ts : List TimedOut) → ((t : TimedOut) → In t ts → In t timed)
      → AllByRecursion ErrorLong (report_of held ts)
  unfolding report_of error_at
  ids_long [] inside = tt
  ids_long (t ∷ ts) inside = (
    ap (λ (o : ObjId). length o.oid_device_id) (named_at t (inside t (inl refl))).2,
    ids_long ts (λ u i. inside u (inr i)),
  )

  as_many : (ts : List TimedOut) → length (report_of held ts) ≡ length ts
  unfolding report_of
  as_many [] = refl
  as_many (t ∷ ts) = ap suc (as_many ts)

  short : ReportShort (report_of held timed)
  short = record { few = omega (arith, as_many timed, can.few); long = ids_long timed (λ t i. i) }

  -- it is a loss that is borne
  is_loss : loss f.kept can.grant (report_read (report_of held timed)) ≡ Some (components_of timed)
  unfolding loss
  is_loss =
      rw (can.writes, can.sole, all_named timed (λ t i. i), can.borne) refl

  by_some : (ts : List TimedOut) → ts ≢ []
      → by_report f.kept can.grant (report_read (report_of held ts))
      ≡ by_loss f.kept (loss f.kept can.grant (report_read (report_of held ts)))
  unfolding report_of
  by_some [] some = absurd (some refl)
  by_some (t ∷ ts) some = refl

  is_taken : return_row f.kept c (report_read (report_of held timed)) ≡ Taken (components_of timed)
  unfolding return_row
  is_taken =
      let has : grant_of f.kept.grants c ≡ Some can.grant =
      ap (λ (gs : List Grant). grant_of gs c) can.sole ∙ rw (eq-eqb can.grant.client c can.client) refl in
      ap (by_grant f.kept (report_read (report_of held timed))) has
      ∙ by_some timed can.some
      ∙ ap (by_loss f.kept) is_loss

-- the laws of histories by which a report is taken
pub record ReportLaws : Type 0 where
  pub requests : RequestLaws
  pub owned : EachObjectIsOwned
  pub sent : ServerSentItsRun

-- no two components of a file have one object
objects_differ : ReportLaws → (w : World) (h : List Line) → IsFair w h → (n : ℕ) (f : File)
    → file_at w.server.files n ≡ Some f → AllDiffer (objects_of f.kept.components)
objects_differ laws w h fair n f found =
    let run = laws.sent w h fair.moment (are_named h fair.written) in
    let owned = laws.owned run.acts in
    let all = owned.1 run.acts [] (sym (append-nil run.acts)) in
    (all f (file_in (state_after (new_server []) run.acts).files n f
    (ap (λ (s : Server). file_at s.files n) (sym run.server) ∙ found))).differ

pub report_taken : ReportLaws → (w : World) (h : List Line) → IsFair w h → (chosen : List ℕ) (number c : ℕ) (q : Request)
    (f : File) → Comes w c q f number → (held : Held) (timed : List TimedOut) (grant : ℕ)
    → q.args ≡ return_args grant (report_of held timed) → CanReport c f held timed
    → Serves w c q number (lost_to c q f (components_of timed)) (acts w chosen (Delivers number))
unfolding returns_on takes_loss
report_taken laws w h fair chosen number c q f comes held timed grant args can =
    let has : grant_of f.kept.grants c ≡ Some can.grant =
    ap (λ (gs : List Grant). grant_of gs c) can.sole ∙ rw (eq-eqb can.grant.client c can.client) refl in
    let fits = ((readable_there w h fair.moment fair.readable).files q.file f comes.file).fits c can.grant has in
    let differ : AllDiffer (objects_of f.kept.components) = objects_differ laws w h fair q.file f comes.file in
    let report : List IoErr = report_of held timed in
    let ks : List ℕ = components_of timed in
    let go : Going = at_file w.server chosen f in
    let is_read : asked_in q.args ≡ Some (Return (report_read report)) =
    ap asked_in args ∙ ap return_in (read_whole report (short w c f held timed can fits differ)) in
    let v : Served = says (ends_grant (takes_loss go ks) c) NFS4_OK LOSS_TAKEN in
    let its : serves go w.server.next_grant w.server.format w.clock c (Return (report_read report)) ≡ v =
    ap (by_return go w.server.format c) (is_taken w c f held timed can fits differ) in
    let lost : Going = keeping go (record f.kept { components = lose_from ks f.kept.components 0 }) in
    let notes = only_notes lost ks f.kept.components 0 in
    let none : without f.kept.grants c ≡ [] =
    ap (λ (gs : List Grant). without gs c) can.sole ∙ rw (eq-eqb can.grant.client c can.client) refl in
    let left : v.going.file ≡ (lost_to c q f ks).left =
    ap (λ (x : File). record x { kept = record x.kept { grants = without x.kept.grants c } }) notes.0
    ∙ ap (λ (gs : List Grant). record f {
      kept = record f.kept { components = lose_from ks f.kept.components 0; grants = gs };
    }) none in
    subst (λ (x : File). Serves w c q number (record {
      left = x;
      recalled = [];
      numbers = 0;
      answer = record {
        client = c;
        sequence = q.sequence;
        file = q.file;
        detail = LOSS_TAKEN;
        size = x.kept.size;
        results = results.LayoutReturn (return.Returned None);
      };
    }) (acts w chosen (Delivers number))) left
    (request_served laws.requests w h fair chosen number c q f comes
    (grants_named laws.requests.safe laws.requests.more w h fair.moment q.file f comes.file c can.grant has)
    (Return (report_read report)) is_read v its notes.1 (ap (λ (x : File). x.kept.number) left) tt)

-- ---- how much times out

-- What a client's call reports is no more than a grant has components.
pub few_reported : (w : World) (h : List Line) → IsMoment w h → (c : ℕ) (a : ClientAt) → at_number w.clients c ≡ Some a
    → (op : CallOp) (timed : List TimedOut) → a.state.call ≡ Some (record { op = op; phase = Waits (Report timed) })
    → length timed ≤ 64
few_reported w h moment c a found op timed call =
    let short = clients_always (λ (n : ℕ) (x : Client). ClientShort x) (record {
      more = λ n x y s. s;
      made = λ n number. new_short number 1;
      steps = λ n x i number wrote logged s. step_short x i s;
    }) w (reached w h moment) c a found in
    subst CallShort call short.call
