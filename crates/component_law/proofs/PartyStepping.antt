-- What a step of the server leaves of the lists that clients hold, and of those in the answers that are kept for them.
use Rattle.std.proofs.Common.{◌≡◌, ◌⊎◌, ◌==◌, ◌≤◌, ℕ, Bool, true, false, List, Option, Some, None, Ok, inl, inr, refl, sym, ap, subst, ◌∙◌, if◌then◌else◌}
use Rattle.std.proofs.lemmas.Bool.{cases_eq, eq-eqb, ne_eqb}
use Rattle.osd_lists.specs.declared.node.Node.TheVariants.{Client as FromClient}
use Rattle.layout_ops.specs.declared.statuses.TheConstants.{NFS4ERR_LAYOUTTRYLATER, LAYOUTIOMODE4_RW}
use Rattle.layout_ops.specs.declared.results.LayoutGetOk.{LayoutGetOk}
use Rattle.layout_ops.specs.declared.results.LayoutGetResult.{LayoutGetResult}
use Rattle.layout_ops.specs.declared.results.LayoutGetResult.TheVariants as get
use Rattle.layout_ops.specs.declared.results.Results.TheVariants as results
use Rattle.layout_ops.specs.declared.messages.Answer.{Answer}
use Rattle.client_rules.specs.Grants.{held_of}
use Rattle.client_rules.specs.Layouts.{taken}
use Rattle.world_history.specs.ClientNames.{Client, CallOp, Held, Request}
use Rattle.world_history.specs.ServerNames.{Server, File, Kept, Grant, Slot, ClientRequest, RequestArgs, Get, Commit, Return}
use Rattle.server_rules.specs.declared.limits.TheConstants.{MAX_CLIENT}
use Rattle.server_rules.specs.Answers.{get_refused, result_of, result_with}
use Rattle.server_rules.specs.Files.{file_at, at_file}
use Rattle.server_rules.specs.Going.{Going}
use Rattle.server_rules.specs.Grants.{grant_of, asked}
use Rattle.server_rules.specs.History.{Input, Hears, step}
use Rattle.server_rules.specs.Laws.{AreSafe}
use Rattle.server_rules.specs.Messages.{Asks}
use Rattle.server_rules.specs.Requests.{serves, no_file, keeps, answer_without, answer_with, carried_out, carries_out, by_admit, on_request}
use Rattle.server_rules.specs.Served.{Served}
use Rattle.server_rules.specs.Slots.{Admit, New, Again, Misordered, slot_of, admit, keep}
use Rattle.server_rules.proofs.FileLaws.{number_at, put_same, put_other, keep_same, keep_other}
use Rattle.exchange_law.specs.Calls.{IsNoGet, CallFine}
use Rattle.exchange_law.specs.Meeting.{KeptGood, IsMet, IsFitting, Reads}
use Rattle.exchange_law.proofs.HeldAsking.{IsOwn, IsItsGet, call_or_not, no_get_asked, none_told, found_last}
use Rattle.exchange_law.proofs.HeldTelling.{gets_tells}
use Rattle.component_law.specs.Listed.{IsOffline, ListsComponents}
use Rattle.component_law.proofs.DrivesKnown.{AllKnown, StandKnown, stands_known}
use Rattle.component_law.proofs.Given.{KeepKeys, lists_on, taken_gives, taken_lists}
use Rattle.component_law.proofs.PartyKeeping.{IsAlike}
use Rattle.component_law.proofs.Offline.{step_knows}
use Rattle.component_law.proofs.ListedServing.{MayGive, serves_may}
use Rattle.component_law.proofs.ListedSteps.{FewerAt, AllFewer, Did, step_did}
use Rattle.history_law.specs.Files.{Quiet, Asked}
use Rattle.history_law.proofs.Files.{in_at}
use Rattle.history_law.proofs.IssueTelling.{asked_client}

-- where the server has a grant of client c on the file, these are its components
abbrev pub ListsAt : Server → (c : ℕ) → (file : ℕ) → Held → Type 0
ListsAt s c file h =
    (f : File) (g : Grant) → file_at s.files file ≡ Some f → grant_of f.kept.grants c ≡ Some g
    → ListsComponents s.drives f.kept g h.components

-- so it is of what a call takes from the answer
abbrev pub AnswerLists : Server → (c : ℕ) → Answer → Type 0
AnswerLists s c a = (op : CallOp) (h : Held) → taken a op ≡ Ok h → ListsAt s c a.file h

abbrev pub SlotLists : Server → (c : ℕ) → Type 0
SlotLists s c = (t : Slot) → slot_of s.slots c ≡ Some t → AnswerLists s c t.kept

abbrev pub AreListed : Server → (c : ℕ) → List Held → Type 0
AreListed s c hs = (file : ℕ) (h : Held) → held_of hs file ≡ Some h → ListsAt s c file h

abbrev pub AllFitting : Server → Type 0
AllFitting s = (n : ℕ) (f : File) → file_at s.files n ≡ Some f → IsFitting s f

-- both of client c
pub record Lists (s : Server) (c : ℕ) (hs : List Held) : Type 0 where
  pub slot : SlotLists s c
  pub helds : AreListed s c hs

-- ---- a step without a new request

-- what is offline stays so
abbrev StaysOut : Server → Server → Type 0
StaysOut s t = (n : ℕ) → IsOffline s.drives n → IsOffline t.drives n

fewer_lists : (s t : Server) (c file : ℕ) (h : Held) → StaysOut s t → KeepKeys s.drives t.drives
    → AllFewer (IsOffline t.drives) s.files t.files → ListsAt s c file h → ListsAt t c file h
fewer_lists s t c file h stays keep all lists f g at has = by (all file f at)
  where
    by : FewerAt (IsOffline t.drives) s.files file f → ListsComponents t.drives f.kept g h.components
    by (inl (e, there, fewer)) =
        let x = fewer.grants c g has in
        lists_on s.drives t.drives stays keep e.kept f.kept g h.components x.1 (lists e g there x.0)
    by (inr none) = absurd (cc (ap (λ (gs : List Grant). grant_of gs c) (sym none) ∙ has))

over : (s t : Server) (c : ℕ) (hs : List Held) → slot_of t.slots c ≡ slot_of s.slots c
    → ((file : ℕ) (h : Held) → ListsAt s c file h → ListsAt t c file h) → Lists s c hs → Lists t c hs
over s t c hs same on k = record {
  slot = λ slot has op h took. on slot.kept.file h (k.slot slot (sym same ∙ has) op h took);
  helds = λ file h e. on file h (k.helds file h e);
}

quiet_lists : (s t : Server) (c : ℕ) (hs : List Held) → StaysOut s t → KeepKeys s.drives t.drives
    → AllFewer (IsOffline t.drives) s.files t.files → t.slots ≡ s.slots → Lists s c hs
    → Lists t c hs
quiet_lists s t c hs stays keep all same k =
    over s t c hs (ap (λ (ss : List Slot). slot_of ss c) same) (λ file h. fewer_lists s t c file h stays keep all) k

-- ---- what gives no layout

pub get_either : (b : Bool) (x y : LayoutGetResult) (ok : LayoutGetOk) → (x ≡ get.Granted ok → ⊥)
    → (y ≡ get.Granted ok → ⊥) → (if b then x else y) ≡ get.Granted ok → ⊥
get_either true x y ok p q e = p e
get_either false x y ok p q e = q e

pub results_get : (x y : LayoutGetResult) → results.LayoutGet x ≡ results.LayoutGet y → x ≡ y
results_get x y e = cc e

pub none_given : (a : RequestArgs) (status : ℕ) (ok : LayoutGetOk) → result_of a status ≡ results.LayoutGet (get.Granted ok)
    → ⊥
none_given (Get iomode offset count) status ok e =
    get_either (status == NFS4ERR_LAYOUTTRYLATER) (get.TryLater false) (get.Refused status) ok (λ x. cc x) (λ x. cc x)
    (results_get (get_refused status) (get.Granted ok) e)
none_given (Commit last) status ok e = cc e
none_given (Return report) status ok e = cc e

-- ---- a grant that is told is the client's on its file

pub told_found : (go : Going) (next format now client : ℕ) (a : RequestArgs) (g : Grant)
    → (serves go next format now client a).told.grant ≡ Some g
    → grant_of (serves go next format now client a).going.file.kept.grants client ≡ Some g
told_found go next format now client (Get iomode offset count) g told =
    let it : Grant = asked go.file.kept next client now offset count (iomode == LAYOUTIOMODE4_RW) in
    let its : it.client ≡ client =
    asked_client go.file.kept next client now offset count (iomode == LAYOUTIOMODE4_RW) in
    let t = gets_tells go next format now client iomode offset count g told in
    ap (λ (y : Kept). grant_of y.grants client) t.1.file
    ∙ found_last t.1.at.grants it client (ap (grant_of t.1.at.grants) (sym its) ∙ t.1.own) its
    ∙ ap (λ (y : Grant). Some y) (sym t.0)
told_found go next format now client (Commit last) g told =
    absurd (none_told go next format now client (Commit last) g tt told)
told_found go next format now client (Return report) g told =
    absurd (none_told go next format now client (Return report) g tt told)

-- ---- a new request at a file

module _ (s : Server) (now : ℕ) (chosen : List ℕ) (q : ClientRequest) where
  module _ (f : File) (at : file_at s.files q.file ≡ Some f) where
    abbrev v : Served
    v = serves (at_file s chosen f) s.next_grant s.format now q.client q.args

    abbrev t : Server
    t = (carried_out s q v).state

    may : MayGive (IsOffline s.drives) f.kept q.client v
    may = serves_may (IsOffline s.drives) (at_file s chosen f) s.next_grant s.format now q.client q.args

    number : v.going.file.kept.number ≡ q.file
    number = may.number ∙ number_at s.files q.file f at

    there : file_at t.files q.file ≡ Some v.going.file
    there = put_same s.files q.file v.going.file f number at

    is_it : (e : File) → file_at t.files q.file ≡ Some e → v.going.file ≡ e
    is_it e found = cc (sym there ∙ found)

    -- where no grant is told of it
    on_lists : (c file : ℕ) (h : Held)
        → (q.file ≡ file → c ≡ q.client → (g : Grant) → v.told.grant ≡ Some g → ⊥) → ListsAt s c file h
        → ListsAt t c file h
    on_lists c file h none lists e g found grant = elim (cases_eq q.file file) [
      | inl same ↦
          let it : v.going.file ≡ e = is_it e (subst (λ (n : ℕ). file_at t.files n ≡ Some e) (sym same) found) in
          let mine : grant_of v.going.file.kept.grants c ≡ Some g =
          ap (λ (y : File). grant_of y.kept.grants c) it ∙ grant in
          subst (λ (y : File). ListsComponents s.drives y.kept g h.components) it (old same (may.grants c g mine))
      | inr other ↦
          lists e g (sym (put_other s.files q.file v.going.file number file (ne_eqb q.file file other)) ∙ found) grant
    ]
      where
        old : q.file ≡ file → ((grant_of f.kept.grants c ≡ Some g) × IsAlike (IsOffline s.drives) f.kept v.going.file.kept)
            ⊎ ((c ≡ q.client) × (v.told.grant ≡ Some g)) → ListsComponents s.drives v.going.file.kept g h.components
        old same (inl has) =
            lists_on s.drives s.drives (λ n o. o) (λ n e. (e, refl)) f.kept v.going.file.kept g h.components has.1
            (lists f g (subst (λ (n : ℕ). file_at s.files n ≡ Some f) same at) has.0)
        old same (inr new) = absurd (none same new.0 g new.1)

    -- its answer
    told_lists : (o : Option Grant) → v.told.grant ≡ o → AllFitting t → AllKnown t → (op : CallOp) (h : Held) → (a : Answer)
        → a.results ≡ result_with s.drives v.going.file.kept q.args v.told.status o → taken a op ≡ Ok h
        → ListsAt t q.client q.file h
    told_lists None told fit know op h a is took =
        let ok = taken_gives a op h took in
        absurd (none_given q.args v.told.status ok.0 (sym is ∙ ok.1))
    told_lists (Some g) told fit know op h a is took = λ e g2 found grant.
        let it : v.going.file ≡ e = is_it e found in
        let has = told_found (at_file s chosen f) s.next_grant s.format now q.client q.args g told in
        let mine : grant_of v.going.file.kept.grants q.client ≡ Some g2 =
        ap (λ (y : File). grant_of y.kept.grants q.client) it ∙ grant in
        let same : g ≡ g2 = cc (sym has ∙ mine) in
        let its = fit q.file v.going.file there in
        let on : StandKnown s.drives v.going.file.kept.components =
        (know v.going.file (in_at t.files q.file v.going.file there)).0 in
        subst (λ (y : Grant). ListsComponents s.drives e.kept y h.components) same
        (subst (λ (y : File). ListsComponents s.drives y.kept g h.components) it
        (taken_lists s.drives v.going.file.kept g a op h is its.drives
        (stands_known s.drives v.going.file.kept.components on) (its.fits q.client g has) took))

    answer_lists : AllFitting t → AllKnown t → AnswerLists t q.client (answer_with s q v)
    answer_lists fit know op h took = told_lists v.told.grant refl fit know op h (answer_with s q v) refl took

  -- ---- the client's own

  module _ (x : Client) (r : Request) (out : x.outstanding ≡ Some r) (reads : Reads q r) (k : IsMet s q.client x) where
    -- a grant that is held isn't given
    not_given : (f : File) (file : ℕ) (h : Held) (g : Grant) → q.file ≡ file → held_of x.held file ≡ Some h
        → (serves (at_file s chosen f) s.next_grant s.format now q.client q.args).told.grant ≡ Some g → ⊥
    not_given f file h g same has told =
        by (call_or_not (KeptGood s q.client) x.held r x.call
        (subst (λ (o : Option Request). CallFine (KeptGood s q.client) x.held o x.call) out k.call))
      where
        by : IsNoGet r.args ⊎ IsItsGet x.held r → ⊥
        by (inl none) =
            none_told (at_file s chosen f) s.next_grant s.format now q.client q.args g
            (no_get_asked r.args q.args none reads.args) told
        by (inr it) =
            let here : held_of x.held file ≡ None =
            ap (held_of x.held) (sym same ∙ reads.file ∙ it.file) ∙ it.none in
            cc (sym has ∙ here)

    kept_is : (u : Server) (a : Answer)
        → u.slots ≡ keep s.slots (record { client = q.client; last = q.sequence; kept = a })
        → (slot : Slot) → slot_of u.slots q.client ≡ Some slot → a ≡ slot.kept
    kept_is u a same slot has =
        let mine : Slot = record { client = q.client; last = q.sequence; kept = a } in
        let found : slot_of u.slots q.client ≡ Some mine =
        ap (λ (ss : List Slot). slot_of ss q.client) same ∙ keep_same s.slots mine in
        let it : mine ≡ slot = cc (sym found ∙ has) in
        ap (λ (y : Slot). y.kept) it

    without_lists : (u : Server) → AnswerLists u q.client (answer_without q)
    without_lists u op h took =
        let ok = taken_gives (answer_without q) op h took in
        absurd (none_given q.args (no_file q.args) ok.0 ok.1)

    own_lists : (o : Option File) → file_at s.files q.file ≡ o → AllFitting (carries_out s now chosen q o).state
        → AllKnown (carries_out s now chosen q o).state → Lists s q.client x.held
        → Lists (carries_out s now chosen q o).state q.client x.held
    own_lists None at fit know l = record {
      slot = λ slot has.
          subst (AnswerLists (keeps s (answer_without q)) q.client)
          (kept_is (keeps s (answer_without q)) (answer_without q) refl slot has)
          (without_lists (keeps s (answer_without q)));
      helds = λ file h e. l.helds file h e;
    }
    own_lists (Some f) at fit know l = record {
      slot = λ slot has.
          subst (AnswerLists (t f at) q.client) (kept_is (t f at) (answer_with s q (v f at)) refl slot has)
          (answer_lists f at fit know);
      helds = λ file h e.
          on_lists f at q.client file h (λ same mine g told. not_given f file h g same e told) (l.helds file h e);
    }

  -- ---- another client's

  module _ (c : ℕ) (hs : List Held) (other : (q.client == c) ≡ false) where
    not_mine : c ≡ q.client → ⊥
    not_mine e = cc (sym (eq-eqb q.client c (sym e)) ∙ other)

    others_lists : (o : Option File) → file_at s.files q.file ≡ o → Lists s c hs
        → Lists (carries_out s now chosen q o).state c hs
    others_lists None at l =
        over s (keeps s (answer_without q)) c hs
        (keep_other s.slots (record { client = q.client; last = q.sequence; kept = answer_without q }) c other)
        (λ file h lists. lists) l
    others_lists (Some f) at l =
        over s (t f at) c hs
        (keep_other s.slots (record { client = q.client; last = q.sequence; kept = answer_with s q (v f at) }) c other)
        (λ file h lists. on_lists f at c file h (λ same mine g told. not_mine mine) lists) l

-- ---- any step

admitted : (s : Server) (now : ℕ) (chosen : List ℕ) (q : ClientRequest) (a : Admit) (c : ℕ) (x : Client)
    → admit (slot_of s.slots q.client) q.sequence ≡ a → IsMet s c x → AllFitting (by_admit s now chosen q a).state
    → AllKnown (by_admit s now chosen q a).state
    → (q.client ≡ c → admit (slot_of s.slots c) q.sequence ≡ New → (r : Request) × (x.outstanding ≡ Some r) × Reads q r)
    → Lists s c x.held → Lists (by_admit s now chosen q a).state c x.held
admitted s now chosen q (Again kept) c x e k fit know own l = l
admitted s now chosen q (Misordered expected) c x e k fit know own l = l
admitted s now chosen q New c x e k fit know own l = elim (cases_eq q.client c) [
  | inl same ↦
      let mine = own same (subst (λ (n : ℕ). admit (slot_of s.slots n) q.sequence ≡ New) same e) in
      subst (λ (n : ℕ). Lists (carries_out s now chosen q (file_at s.files q.file)).state n x.held) same
      (own_lists s now chosen q x mine.0 mine.1 mine.2 (subst (λ (n : ℕ). IsMet s n x) (sym same) k)
      (file_at s.files q.file) refl fit know (subst (λ (n : ℕ). Lists s n x.held) (sym same) l))
  | inr other ↦
      others_lists s now chosen q c x.held (ne_eqb q.client c other) (file_at s.files q.file) refl l
]

did_lists : (s : Server) (chosen : List ℕ) (i : Input) (c : ℕ) (x : Client) → Did s chosen i (step s chosen i)
    → AllFitting (step s chosen i).state → AllKnown (step s chosen i).state
    → KeepKeys s.drives (step s chosen i).state.drives → IsOwn s c x i → IsMet s c x → Lists s c x.held
    → Lists (step s chosen i).state c x.held
unfolding on_request
did_lists s chosen i c x (Quiet all same) fit know keep own k l =
    quiet_lists s (step s chosen i).state c x.held (step_knows s chosen i) keep all same l
did_lists s chosen i c x (Asked now q is done) fit know keep own k l =
    subst (λ (t : _). Lists t.state c x.held) (sym done)
    (admitted s now chosen q (admit (slot_of s.slots q.client) q.sequence) c x refl k
    (subst (λ (t : _). AllFitting t.state) done fit) (subst (λ (t : _). AllKnown t.state) done know)
    (λ same new. own now q (is.is ∙ ap (λ (n : ℕ). Hears now (FromClient n) (Asks q)) same) same
    (subst (λ (n : ℕ). n ≤ MAX_CLIENT) same is.named) new) l)

pub step_lists : (s : Server) (chosen : List ℕ) (i : Input) (c : ℕ) (x : Client) → AreSafe s.files
    → AllFitting (step s chosen i).state → AllKnown (step s chosen i).state
    → KeepKeys s.drives (step s chosen i).state.drives → IsOwn s c x i → IsMet s c x → Lists s c x.held
    → Lists (step s chosen i).state c x.held
step_lists s chosen i c x safe fit know keep own k l = did_lists s chosen i c x (step_did s chosen i safe) fit know keep own k l
