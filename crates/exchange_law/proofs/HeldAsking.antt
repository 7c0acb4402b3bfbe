-- A new request of a client, and the answer that the server makes of it.
use Rattle.std.proofs.Common.{◌≡◌, ◌≤◌, ◌⊎◌, ◌==◌, ◌++◌, ℕ, false, List, [], ◌∷◌, Option, Some, None, Result, Ok, Err, inl, inr, refl, sym, ap, subst, ◌∙◌}
use Rattle.std.proofs.lemmas.Bool.{cases_eq, eq-eqb, ne_eqb}
use Rattle.layout_types.specs.declared.err.LayoutErr.{LayoutErr}
use Rattle.layout_types.specs.declared.ioerrs.IoErrs.{IoErrs}
use Rattle.layout_types.specs.declared.update.LayoutUpdate.{LayoutUpdate}
use Rattle.layout_types.specs.Grammar.{whole}
use Rattle.layout_types.specs.Reading.{update_in, ioerrs_in}
use Rattle.layout_ops.specs.declared.args.Args.{Args}
use Rattle.layout_ops.specs.declared.args.Args.TheVariants as args
use Rattle.layout_ops.specs.declared.statuses.TheConstants.{NFS4_OK}
use Rattle.layout_ops.specs.declared.messages.Answer.{Answer}
use Rattle.osd_lists.specs.declared.node.Node.TheVariants.{Client as FromClient}
use Rattle.osd_lists.proofs.Options.{same_some}
use Rattle.world_history.specs.ClientNames.{Client, Call, CallOp, Held, Request, Need, First, Get, Commit, Report, Close, Phase, Starts, Needs, Waits, Reads as ReadsOn, Probes, Gathers, Scatters, RawMap}
use Rattle.client_rules.specs.Calls.{file_of}
use Rattle.client_rules.specs.Grants.{held_of}
use Rattle.client_rules.specs.Requests.{get_args, commit_args}
use Rattle.client_rules.specs.Results.{status_of}
use Rattle.world_history.specs.ServerNames.{Server, File, Kept, Grant, Slot, ClientRequest, RequestArgs, Get as AsksGet, Commit as AsksCommit, Return}
use Rattle.server_rules.specs.declared.limits.TheConstants.{MAX_CLIENT}
use Rattle.server_rules.specs.Answers.{result_with, file_answer}
use Rattle.server_rules.specs.Commit.{Committed, NoGrant, Wrong, Sizes, by_commit, commits}
use Rattle.server_rules.specs.Envelopes.{asked_in, commit_in, return_in}
use Rattle.server_rules.specs.Files.{file_at, at_file}
use Rattle.server_rules.specs.Going.{Going}
use Rattle.server_rules.specs.Grants.{grant_of, asked}
use Rattle.server_rules.specs.History.{Input, Hears, step}
use Rattle.server_rules.specs.Laws.{AreSafe}
use Rattle.server_rules.specs.Messages.{Asks}
use Rattle.server_rules.specs.Requests.{serves, keeps, answer_without, answer_with, carried_out, carries_out, by_admit, on_request}
use Rattle.server_rules.specs.Return.{Returned, NoGrant as NotHeld, Clean, Taken, TooMany, Fencing, by_return, returns_on}
use Rattle.server_rules.specs.Served.{Served}
use Rattle.server_rules.specs.Slots.{Admit, New, Again, Misordered, slot_of, admit, keep}
use Rattle.server_rules.proofs.FileLaws.{number_at, put_same, put_other, keep_same, keep_other}
use Rattle.history_law.proofs.Files.{put_gives}
use Rattle.exchange_law.specs.Held.{Agrees}
use Rattle.exchange_law.specs.HeldTaken.{IsGetOf}
use Rattle.exchange_law.specs.Calls.{Knows, IsNoGet, Writes, Passes, IsCall, PhaseFine, CallFine, IsAsking, GoodAnswer}
use Rattle.exchange_law.specs.Meeting.{AgreesAt, KeptGood, IsMet, Reads, FilesSound}
use Rattle.exchange_law.proofs.HeldServing.{MayGive, serves_may, IsTellable}
use Rattle.history_law.specs.Files.{FilesGo, Quiet, Asked}
use Rattle.exchange_law.proofs.HeldSteps.{IsFewer, HasNone, step_did}
use Rattle.exchange_law.proofs.HeldAnswered.{none_good, no_file_good, call_told, args_of_commit, commit_good, no_file_commit}
use Rattle.exchange_law.proofs.HeldTaken.{its_grant, told_for, given_is_taken}
use Rattle.exchange_law.proofs.Meeting.{good_over, client_over, quiet_met}

-- ---- the outstanding request

-- the call's LAYOUTGET, while no grant is held on its file
pub record IsItsGet (hs : List Held) (r : Request) : Type 0 where
  pub op : CallOp
  pub none : held_of hs (file_of op) ≡ None
  pub file : r.file ≡ file_of op

get_or_not : (K : Knows) (hs : List Held) (r : Request) (op : CallOp) (p : Phase)
    → PhaseFine K (held_of hs (file_of op)) (Some r) op p → IsNoGet r.args ⊎ IsItsGet hs r
get_or_not K hs r op Starts x = inl x
get_or_not K hs r op (Needs need) x = inl x.1
get_or_not K hs r op (Waits First) x = inl x
get_or_not K hs r op (Waits (Get tries)) x =
    let same : x.1.request ≡ r = same_some _ _ (Some r) x.1.outstanding refl in
    inr (record { op = op; none = x.0; file = ap (λ (q : Request). q.file) (sym same) ∙ x.1.file_is })
get_or_not K hs r op (Waits (Commit timed)) x =
    let same : x.asks.request ≡ r = same_some _ _ (Some r) x.asks.outstanding refl in
    inl (subst IsNoGet (sym x.asks.args_are ∙ ap (λ (q : Request). q.args) same) tt)
get_or_not K hs r op (Waits (Report timed)) x = inl x
get_or_not K hs r op (Waits (Close u report)) x = inl x.1
get_or_not K hs r op (ReadsOn io) x = inl x.1
get_or_not K hs r op (Probes io) x = inl x.1
get_or_not K hs r op (Gathers io) x = inl x.1
get_or_not K hs r op (Scatters io queue) x = inl x.1

pub call_or_not : (K : Knows) (hs : List Held) (r : Request) (o : Option Call) → CallFine K hs (Some r) o
    → IsNoGet r.args ⊎ IsItsGet hs r
call_or_not K hs r None x = inl x
call_or_not K hs r (Some call) x = get_or_not K hs r call.op call.phase x.1

-- ---- what tells no grant

no_commit_told : (go : Going) (c : Committed) (g : Grant) → (by_commit go c).told.grant ≡ Some g → ⊥
no_commit_told go NoGrant g e = cc e
no_commit_told go Wrong g e = cc e
no_commit_told go (Sizes size) g e = cc e

no_return_told : (go : Going) (format client : ℕ) (r : Returned) (g : Grant)
    → (by_return go format client r).told.grant ≡ Some g → ⊥
no_return_told go format client NotHeld g e = cc e
no_return_told go format client Clean g e = cc e
no_return_told go format client (Taken ks) g e = cc e
no_return_told go format client TooMany g e = cc e
no_return_told go format client Fencing g e = cc e

abbrev pub NoGetAsked : RequestArgs → Type 0
NoGetAsked (AsksGet iomode offset count) = ⊥
NoGetAsked a = Unit {0}

by_update : (last : Option ℕ) (u : Result LayoutUpdate LayoutErr) (b : RequestArgs) → commit_in last u ≡ Some b
    → NoGetAsked b
by_update last (Ok u) b e = let same : AsksCommit last ≡ b = cc e in subst NoGetAsked same tt
by_update last (Err x) b e = absurd (cc e)

by_errors : (u : Result IoErrs LayoutErr) (b : RequestArgs) → return_in u ≡ Some b → NoGetAsked b
by_errors (Ok u) b e = let same : Return u.olr_ioerr_report ≡ b = cc e in subst NoGetAsked same tt
by_errors (Err x) b e = absurd (cc e)

pub no_get_asked : (a : Args) (b : RequestArgs) → IsNoGet a → asked_in a ≡ Some b → NoGetAsked b
no_get_asked (args.LayoutGet g) b none e = absurd none
no_get_asked (args.LayoutCommit g) b none e = by_update g.last_write_offset (whole update_in g.body) b e
no_get_asked (args.LayoutReturn g) b none e = by_errors (whole ioerrs_in g.body) b e

pub none_told : (go : Going) (next format now client : ℕ) (a : RequestArgs) (g : Grant) → NoGetAsked a
    → (serves go next format now client a).told.grant ≡ Some g → ⊥
unfolding commits returns_on
none_told go next format now client (AsksGet iomode offset count) g none e = none
none_told go next format now client (AsksCommit last) g none e = no_commit_told go _ g e
none_told go next format now client (Return report) g none e = no_return_told go format client _ g e

-- ---- the grant that was given is found

pub found_last : (gs : List Grant) (g : Grant) (c : ℕ) → grant_of gs c ≡ None → g.client ≡ c
    → grant_of (gs ++ (g ∷ [])) c ≡ Some g
found_last [] g c none is = rw (eq-eqb g.client c is) refl
found_last (x ∷ xs) g c none is = elim (cases_eq x.client c) [
  | inl same ↦ absurd (cc (rw (eq-eqb x.client c same) at none))
  | inr other ↦ rw (ne_eqb x.client c other) (found_last xs g c (rw (ne_eqb x.client c other) at none) is)
]

its_file : (go : Going) (next now : ℕ) (format : ℕ) (q : ClientRequest) (op : CallOp) (is : IsGetOf op q)
    → (its_grant go next format now q op is).file ≡ go.file.kept.number
unfolding asked
its_file go next now format q op is = refl

its_client : (go : Going) (next now : ℕ) (format : ℕ) (q : ClientRequest) (op : CallOp) (is : IsGetOf op q)
    → (its_grant go next format now q op is).client ≡ q.client
unfolding asked
its_client go next now format q op is = refl

-- ---- the client's own request

module _ (s : Server) (now : ℕ) (chosen : List ℕ) (q : ClientRequest) (x : Client) (r : Request)
    (out : x.outstanding ≡ Some r) (reads : Reads q r) (k : IsMet s q.client x) where
  abbrev c : ℕ
  c = q.client

  -- what it asks, by what the client asked
  asks : (op : CallOp) (need : Need) (a : Args) (K : Request → Type 0) → IsAsking K x.outstanding (file_of op) a
      → (q.file ≡ file_of op) × (asked_in a ≡ Some q.args)
  asks op need a K i =
      let same : i.request ≡ r = same_some _ _ x.outstanding i.outstanding out in (
        reads.file ∙ ap (λ (y : Request). y.file) (sym same) ∙ i.file_is,
        ap asked_in (sym i.args_are ∙ ap (λ (y : Request). y.args) same) ∙ reads.args,
      )

  kept_is : (t : Server) (a : Answer) → t.slots ≡ keep s.slots (record { client = c; last = q.sequence; kept = a })
      → (slot : Slot) → slot_of t.slots c ≡ Some slot → slot.kept ≡ a
  kept_is t a same slot has =
      let mine : Slot = record { client = c; last = q.sequence; kept = a } in
      let there : slot_of t.slots c ≡ Some mine =
      ap (λ (ss : List Slot). slot_of ss c) same ∙ keep_same s.slots mine in
      ap (λ (y : Slot). y.kept) (same_some slot mine (slot_of t.slots c) has there)

  -- without a file
  without_good : (op : CallOp) (need : Need)
      → PhaseFine (KeptGood s c) (held_of x.held (file_of op)) x.outstanding op (Waits need)
      → GoodAnswer (AgreesAt s c) op need (answer_without q)
  without_good op (Get tries) w =
      no_file_good (AgreesAt s c) op tries q (asks op (Get tries) (get_args op) (KeptGood s c op (Get tries)) w.1).1
  without_good op (Commit timed) w =
      no_file_commit (AgreesAt s c) op timed _ q (args_of_commit w.held op q
      (asks op (Commit timed) (commit_args w.held op) (KeptGood s c op (Commit timed)) w.asks).1)
  without_good op First w = tt
  without_good op (Report timed) w = tt
  without_good op (Close u report) w = tt

  without_met : IsMet (keeps s (answer_without q)) c x
  without_met =
      let t : Server = keeps s (answer_without q) in
      client_over (AgreesAt s c) (AgreesAt t c) (KeptGood s c) (KeptGood t c) x (λ file h e agrees. agrees)
      (λ op need r2 e o2 fine is known slot has last.
      subst (GoodAnswer (AgreesAt s c) op need) (sym (kept_is t (answer_without q) refl slot has))
      (without_good op need fine)) k

  -- at a file
  module _ (f : File) (at : file_at s.files q.file ≡ Some f) where
    abbrev v : Served
    v = serves (at_file s chosen f) s.next_grant s.format now c q.args

    abbrev t : Server
    t = (carried_out s q v).state

    may : MayGive f.kept c q.args v
    may = serves_may (at_file s chosen f) s.next_grant s.format now c q.args

    number : v.going.file.kept.number ≡ q.file
    number = may.number ∙ number_at s.files q.file f at

    put_there : file_at t.files q.file ≡ Some v.going.file
    put_there = put_same s.files q.file v.going.file f number at

    -- a grant that is held isn't given
    not_given : (file : ℕ) (h : Held) (g : Grant) → q.file ≡ file → held_of x.held file ≡ Some h
        → v.told.grant ≡ Some g → ⊥
    not_given file h g same has told =
        by (call_or_not (KeptGood s c) x.held r x.call
        (subst (λ (o : Option Request). CallFine (KeptGood s c) x.held o x.call) out k.call))
      where
        by : IsNoGet r.args ⊎ IsItsGet x.held r → ⊥
        by (inl none) =
            none_told (at_file s chosen f) s.next_grant s.format now c q.args g
            (no_get_asked r.args q.args none reads.args) told
        by (inr it) =
            let here : held_of x.held file ≡ None =
            ap (held_of x.held) (sym same ∙ reads.file ∙ it.file) ∙ it.none in
            cc (sym has ∙ here)

    agrees_on : (file : ℕ) (h : Held) → held_of x.held file ≡ Some h → AgreesAt s c file h → AgreesAt t c file h
    agrees_on file h has agrees e g there grant = elim (cases_eq q.file file) [
      | inl same ↦
          let it : e ≡ v.going.file =
          put_gives s.files q.file v.going.file e number
          (subst (λ (n : ℕ). file_at t.files n ≡ Some e) (sym same) there) in
          let mine : grant_of v.going.file.kept.grants c ≡ Some g =
          ap (λ (y : File). grant_of y.kept.grants c) (sym it) ∙ grant in
          subst (λ (y : File). Agrees y.kept.map g h) (sym it) (old_or_new same (may.grants c g mine))
      | inr other ↦
          agrees e g (sym (put_other s.files q.file v.going.file number file (ne_eqb q.file file other)) ∙ there) grant
    ]
      where
        old_or_new : q.file ≡ file → (grant_of f.kept.grants c ≡ Some g) ⊎ ((c ≡ c) × (v.told.grant ≡ Some g))
            → Agrees v.going.file.kept.map g h
        old_or_new same (inl old) =
            subst (λ (m : RawMap). Agrees m g h) (sym may.map)
            (agrees f g (subst (λ (n : ℕ). file_at s.files n ≡ Some f) same at) old)
        old_or_new same (inr new) = absurd (not_given file h g same has new.1)

    -- ---- its answer

    module _ (sound : FilesSound t) where
      given : (op : CallOp) (tries : ℕ) (g : Grant) → IsCall op → q.file ≡ file_of op
          → asked_in (get_args op) ≡ Some q.args
          → v.told.grant ≡ Some g
          → GoodAnswer (AgreesAt t c) op (Get tries) (file_answer s.drives v.going.file.kept q v.told)
      given op tries g is file asked_it told =
          let go : Going = at_file s chosen f in
          let is_get : IsGetOf op q = record { file = file; args = asked_it } in
          let tell = told_for go s.next_grant s.format now q op is_get v refl g told in
          let its : g ≡ its_grant go s.next_grant s.format now q op is_get = tell.0 in
          let client : (its_grant go s.next_grant s.format now q op is_get).client ≡ c =
          its_client go s.next_grant now s.format q op is_get in
          let own : grant_of tell.1.at.grants c ≡ None =
          ap (grant_of tell.1.at.grants) (sym client) ∙ tell.1.own in
          let has : grant_of v.going.file.kept.grants c ≡ Some g =
          ap (λ (y : Kept). grant_of y.grants c) tell.1.file
          ∙ found_last tell.1.at.grants (its_grant go s.next_grant s.format now q op is_get) c own client
          ∙ ap (λ (y : Grant). Some y) (sym its) in
          let its_sound = sound q.file v.going.file put_there in
          let it =
          given_is_taken go s.next_grant s.format now q op g v is.range is_get (number_at s.files q.file f at) refl
          told its_sound.shaped its_sound.drives s.drives (its_sound.fits c g has) in
          let status : status_of (file_answer s.drives v.going.file.kept q v.told).results ≡ NFS4_OK =
          ap (λ (o : Option Grant). status_of (result_with s.drives v.going.file.kept q.args v.told.status o)) told in
          inl (
            status,
            it.0,
            it.1,
            it.2.agrees.file ∙ ap (λ (y : Grant). y.file) its
                ∙ its_file go s.next_grant now s.format q op is_get ∙ number_at s.files q.file f at ∙ file,
            λ e g2 there grant.
                let same : e ≡ v.going.file =
                put_gives s.files q.file v.going.file e number
                (subst (λ (n : ℕ). file_at t.files n ≡ Some e) (sym file) there) in
                let mine : grant_of v.going.file.kept.grants c ≡ Some g2 =
                ap (λ (y : File). grant_of y.kept.grants c) (sym same) ∙ grant in
                let same_grant : g ≡ g2 = same_some g g2 (grant_of v.going.file.kept.grants c) has mine in
                subst (λ (y : Grant). Agrees e.kept.map y it.0) same_grant
                (subst (λ (y : File). Agrees y.kept.map g it.0) (sym same) it.2.agrees),
          )

      told_good : (op : CallOp) (tries : ℕ) → IsCall op → q.file ≡ file_of op → asked_in (get_args op) ≡ Some q.args
          → IsTellable v
          → GoodAnswer (AgreesAt t c) op (Get tries) (file_answer s.drives v.going.file.kept q v.told)
      told_good op tries is file asked_it (inl g) = given op tries g.0 is file asked_it g.1
      told_good op tries is file asked_it (inr g) =
          none_good (AgreesAt t c) op tries s.drives q v asked_it g.0 g.1

      -- of whatever the call waits for
      answer_good : (op : CallOp) (need : Need) → IsCall op
          → PhaseFine (KeptGood s c) (held_of x.held (file_of op)) x.outstanding op (Waits need)
          → GoodAnswer (AgreesAt t c) op need (answer_with s q v)
      answer_good op (Get tries) is w =
          let it = asks op (Get tries) (get_args op) (KeptGood s c op (Get tries)) w.1 in
          told_good op tries is it.0 it.1
          (call_told (at_file s chosen f) s.next_grant s.format now q op is.range it.1)
      answer_good op (Commit timed) is w =
          let it = asks op (Commit timed) (commit_args w.held op) (KeptGood s c op (Commit timed)) w.asks in
          let args_are = args_of_commit w.held op q it.1 in
          commit_good (AgreesAt t c) op timed w.held s.drives (at_file s chosen f) q v is
          (subst (λ (o : Option Held). Writes o op) w.holds w.writes)
          (subst (λ (o : Option Held). Passes o op) w.holds w.passes) args_are
          (ap (serves (at_file s chosen f) s.next_grant s.format now c) (sym args_are))
          (λ g has. k.helds (file_of op) w.held w.holds f g
          (subst (λ (n : ℕ). file_at s.files n ≡ Some f) it.0 at) has)
      answer_good op First is w = tt
      answer_good op (Report timed) is w = tt
      answer_good op (Close u report) is w = tt

      own_met : IsMet t c x
      own_met =
          client_over (AgreesAt s c) (AgreesAt t c) (KeptGood s c) (KeptGood t c) x
          (λ file h e agrees. agrees_on file h e agrees)
          (λ op need r2 e o2 fine is known slot has last.
          subst (GoodAnswer (AgreesAt t c) op need) (sym (kept_is t (answer_with s q v) refl slot has))
          (answer_good op need is fine)) k

  own_carried : (o : Option File) → file_at s.files q.file ≡ o → FilesSound (carries_out s now chosen q o).state
      → IsMet (carries_out s now chosen q o).state c x
  own_carried None e sound = without_met
  own_carried (Some f) e sound = own_met f e sound

-- ---- another client's request

module _ (s : Server) (now : ℕ) (chosen : List ℕ) (q : ClientRequest) (c : ℕ) (x : Client)
    (other : (q.client == c) ≡ false) (k : IsMet s c x) where
  not_mine : c ≡ q.client → ⊥
  not_mine e = cc (sym (eq-eqb q.client c (sym e)) ∙ other)

  slot_stays : (a : Answer)
      → slot_of (keep s.slots (record { client = q.client; last = q.sequence; kept = a })) c ≡ slot_of s.slots c
  slot_stays a = keep_other s.slots (record { client = q.client; last = q.sequence; kept = a }) c other

  others_over : (t : Server) → slot_of t.slots c ≡ slot_of s.slots c
      → ((file : ℕ) (h : Held) → AgreesAt s c file h → AgreesAt t c file h) → IsMet t c x
  others_over t same on =
      client_over (AgreesAt s c) (AgreesAt t c) (KeptGood s c) (KeptGood t c) x (λ file h e agrees. on file h agrees)
      (λ op need r e out fine is known slot has last.
      good_over (AgreesAt s c) (AgreesAt t c) op need slot.kept (λ h. on (file_of op) h)
      (known slot (sym same ∙ has) last)) k

  others_carried : (o : Option File) → file_at s.files q.file ≡ o → IsMet (carries_out s now chosen q o).state c x
  others_carried None e =
      others_over (keeps s (answer_without q)) (slot_stays (answer_without q)) (λ file h agrees. agrees)
  others_carried (Some f) at =
      others_over (carried_out s q v).state (slot_stays (answer_with s q v)) (λ file h agrees. on file h agrees)
    where
      v : Served
      v = serves (at_file s chosen f) s.next_grant s.format now q.client q.args

      on : (file : ℕ) (h : Held) → AgreesAt s c file h → AgreesAt (carried_out s q v).state c file h
      on file h agrees e g there grant = elim (cases_eq q.file file) [
        | inl same ↦
            let may = serves_may (at_file s chosen f) s.next_grant s.format now q.client q.args in
            let it : e ≡ v.going.file =
            put_gives s.files q.file v.going.file e (may.number ∙ number_at s.files q.file f at)
            (subst (λ (n : ℕ). file_at (carried_out s q v).state.files n ≡ Some e) (sym same) there) in
            let mine : grant_of v.going.file.kept.grants c ≡ Some g =
            ap (λ (y : File). grant_of y.kept.grants c) (sym it) ∙ grant in
            subst (λ (y : File). Agrees y.kept.map g h) (sym it)
            (subst (λ (m : RawMap). Agrees m g h) (sym may.map) (old same (may.grants c g mine)))
        | inr not_it ↦
            agrees e g
            (sym (put_other s.files q.file v.going.file
            ((serves_may (at_file s chosen f) s.next_grant s.format now q.client q.args).number
            ∙ number_at s.files q.file f at) file (ne_eqb q.file file not_it)) ∙ there) grant
      ]
        where
          old : q.file ≡ file → (grant_of f.kept.grants c ≡ Some g) ⊎ ((c ≡ q.client) × (v.told.grant ≡ Some g))
              → Agrees f.kept.map g h
          old same (inl has) = agrees f g (subst (λ (n : ℕ). file_at s.files n ≡ Some f) same at) has
          old same (inr new) = absurd (not_mine new.0)

-- ---- any step

-- a new request of the client is its outstanding one, as it asked it
abbrev pub IsOwn : Server → (c : ℕ) → Client → Input → Type 0
IsOwn s c x i =
    (now : ℕ) (q : ClientRequest) → i ≡ Hears now (FromClient c) (Asks q) → q.client ≡ c → c ≤ MAX_CLIENT
    → admit (slot_of s.slots c) q.sequence ≡ New → (r : Request) × (x.outstanding ≡ Some r) × Reads q r

admitted : (s : Server) (now : ℕ) (chosen : List ℕ) (q : ClientRequest) (a : Admit) (c : ℕ) (x : Client)
    → admit (slot_of s.slots q.client) q.sequence ≡ a → IsMet s c x → FilesSound (by_admit s now chosen q a).state
    → (q.client ≡ c → admit (slot_of s.slots c) q.sequence ≡ New → (r : Request) × (x.outstanding ≡ Some r) × Reads q r)
    → IsMet (by_admit s now chosen q a).state c x
admitted s now chosen q (Again kept) c x e k sound own = k
admitted s now chosen q (Misordered expected) c x e k sound own = k
admitted s now chosen q New c x e k sound own = elim (cases_eq q.client c) [
  | inl same ↦
      let mine = own same (subst (λ (n : ℕ). admit (slot_of s.slots n) q.sequence ≡ New) same e) in
      subst (λ (n : ℕ). IsMet (carries_out s now chosen q (file_at s.files q.file)).state n x) same
      (own_carried s now chosen q x mine.0 mine.1 mine.2 (subst (λ (n : ℕ). IsMet s n x) (sym same) k)
      (file_at s.files q.file) refl sound)
  | inr other ↦ others_carried s now chosen q c x (ne_eqb q.client c other) k (file_at s.files q.file) refl
]

did_met : (s : Server) (chosen : List ℕ) (i : Input) (c : ℕ) (x : Client)
    → FilesGo IsFewer HasNone s chosen i (step s chosen i) → FilesSound (step s chosen i).state → IsOwn s c x i
    → IsMet s c x → IsMet (step s chosen i).state c x
unfolding on_request
did_met s chosen i c x (Quiet all same) sound own k = quiet_met s (step s chosen i).state c x all same k
did_met s chosen i c x (Asked now q is done) sound own k =
    subst (λ (t : _). IsMet t.state c x) (sym done)
    (admitted s now chosen q (admit (slot_of s.slots q.client) q.sequence) c x refl k
    (subst (λ (t : _). FilesSound t.state) done sound)
    (λ same new. own now q (is.is ∙ ap (λ (n : ℕ). Hears now (FromClient n) (Asks q)) same) same
    (subst (λ (n : ℕ). n ≤ MAX_CLIENT) same is.named) new))

-- whatever comes to the server
pub step_met : (s : Server) (chosen : List ℕ) (i : Input) (c : ℕ) (x : Client) → AreSafe s.files
    → FilesSound (step s chosen i).state → IsOwn s c x i → IsMet s c x → IsMet (step s chosen i).state c x
step_met s chosen i c x safe sound own k = did_met s chosen i c x (step_did s chosen i safe) sound own k
