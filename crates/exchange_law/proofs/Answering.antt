-- The answers and recalls of the server fit, and what answers give.
use Rattle.std.specs.List.{AllByRecursion}
use Rattle.std.proofs.Common.{◌≡◌, ◌&&◌, ◌==◌, ℕ, ◌+◌, ◌-◌, ◌*◌, ◌^◌, ◌≤◌, ◌<◌, ◌++◌, Bool, true, false, List, [], ◌∷◌, Option, Some, None, find, min, nat_lt, length, refl, sym, ap, subst, arith, if◌then◌else◌}
use Rattle.std.proofs.lemmas.Bool.Decides.{nat_tests}
use Rattle.std.proofs.Math.Nat.{mul-le-mul_right, mod-lt}
use Rattle.data_map.specs.declared.check.RawMap.{RawMap}
use Rattle.data_map.specs.declared.ranges.TheConstants.{MAX_FILE_SIZE}
use Rattle.data_map.specs.Striping.{stripe_length}
use Rattle.layout_ops.specs.declared.statuses.TheConstants.{NFS4_OK, NFS4ERR_LAYOUTTRYLATER}
use Rattle.layout_ops.specs.declared.results.Results.{Results}
use Rattle.layout_ops.specs.declared.results.Results.TheVariants as results
use Rattle.layout_ops.specs.declared.results.LayoutGetResult.TheVariants as get
use Rattle.layout_ops.specs.declared.results.LayoutCommitResult.TheVariants as commit
use Rattle.layout_ops.specs.declared.results.LayoutReturnResult.TheVariants as return
use Rattle.layout_ops.specs.declared.messages.Answer.{Answer}
use Rattle.layout_ops.specs.Spelling.{GetResultFits, CommitResultFits, ReturnResultFits, ResultsFits, AnswerFits, RecallFits}
use Rattle.server_rules.specs.declared.limits.TheConstants.{MAX_CLIENT, GREATEST_SEQUENCE}
use Rattle.server_rules.specs.declared.server.Slot.{Slot}
use Rattle.scenario_text.specs.declared.names.TheConstants.{FILES}
use Rattle.world_history.specs.ServerNames.{Server, Kept, File, Drive, Grant, Awaited, Outgoing, ToDrive, Recalls, Answers, AnswersOrder, ClientRequest, RequestArgs, Get, Commit, Return}
use Rattle.server_rules.specs.Answers.{get_refused, commit_result, return_result, result_of, result_with, recall_of, recalls_from}
use Rattle.server_rules.specs.Layouts.{granted}
use Rattle.server_rules.specs.Going.{Going}
use Rattle.server_rules.specs.Files.{Step, file_at, at_file, to_drives}
use Rattle.server_rules.specs.Served.{Served}
use Rattle.server_rules.specs.Slots.{Admit, New, Again, Misordered, slot_of, admit, admit_after, keep}
use Rattle.server_rules.specs.Requests.{serves, no_file, answer_with, answer_without, carried_out, carries_out, size_in, by_admit, on_request}
use Rattle.history_law.proofs.IssueTelling.{TellsOwn, served_own}
use Rattle.exchange_law.specs.Files.{GrantFits, KeptFits}
use Rattle.exchange_law.specs.Fitting.{ResultsGive}
use Rattle.exchange_law.proofs.Returning.{ServesFit, served_fits, serves_fit}
use Rattle.exchange_law.proofs.Ranges.{short_stripe}
use Rattle.exchange_law.proofs.Layouts.{numbers_fit, short_body}
use Rattle.exchange_law.proofs.CountStepping.{FileFits, ServerFits, FoundFile, found_file, at_sound}

-- ---- results

get_refused_fits : (status : ℕ) → status < 2 ^ 32 → (status ≡ NFS4_OK → ⊥) → GetResultFits (get_refused status)
get_refused_fits status l not = either (status == NFS4ERR_LAYOUTTRYLATER) refl
  where
    either : (b : Bool) → (status == 10058) ≡ b
        → GetResultFits (if b then get.TryLater false else get.Refused status)
    either true is = tt
    either false is = (l, not, λ e. absurd (grind (arith, is, e, nat_tests)))

commit_fits : (status : ℕ) → status < 2 ^ 32 → CommitResultFits (commit_result status)
commit_fits status l = either (status == NFS4_OK) refl
  where
    either : (b : Bool) → (status == 0) ≡ b
        → CommitResultFits (if b then commit.Committed None else commit.Refused status)
    either true is = tt
    either false is = (l, λ e. absurd (grind (arith, is, e, nat_tests)))

return_fits : (status : ℕ) → status < 2 ^ 32 → ReturnResultFits (return_result status)
return_fits status l = either (status == NFS4_OK) refl
  where
    either : (b : Bool) → (status == 0) ≡ b
        → ReturnResultFits (if b then return.Returned None else return.Refused status)
    either true is = tt
    either false is = (l, λ e. absurd (grind (arith, is, e, nat_tests)))

-- the results fit, and what they give
abbrev pub AreGood : (client : ℕ) → Results → Type 0
AreGood client r = ResultsFits r × ResultsGive client r

-- a LAYOUTGET that gives nothing says so
abbrev pub SaysSo : RequestArgs → (status : ℕ) → Type 0
SaysSo (Get iomode offset count) status = status ≡ NFS4_OK → ⊥
SaysSo args status = Unit {0}

get_good : (client status : ℕ) → GetResultFits (get_refused status)
    → AreGood client (results.LayoutGet (get_refused status))
get_good client status f = (f, either (status == NFS4ERR_LAYOUTTRYLATER))
  where
    either : (b : Bool)
        → ResultsGive client (results.LayoutGet (if b then get.TryLater false else get.Refused status))
    either true = tt
    either false = tt

plain_good : (client : ℕ) (args : RequestArgs) (status : ℕ) → status < 2 ^ 32 → SaysSo args status
    → AreGood client (result_of args status)
plain_good client (Get iomode offset count) status l not =
    get_good client status (get_refused_fits status l not)
plain_good client (Commit last) status l not = (commit_fits status l, tt)
plain_good client (Return report) status l not = (return_fits status l, tt)

pub rw_fits : (b : Bool) → (if b then 2 else 1) < 2 ^ 32
rw_fits true = omega arith
rw_fits false = omega arith

granted_fits : (ds : List Drive) (n : ℕ) (f : Kept) (g : Grant) → n ≤ 2 ^ 63 → KeptFits n f
    → GrantFits f.number f.map g → ResultsFits (results.LayoutGet (get.Granted (granted ds f g)))
granted_fits ds n f g l k x = record {
  stateid = record { seqid = omega arith; other = refl };
  layouts = (
    omega arith,
    (
      record {
        offset = omega (arith, x.first);
        «length» = shorter ((g.end - g.first) * stripe_length f.map) (g.end * stripe_length f.map)
            (mul-le-mul_right (stripe_length f.map) (omega arith)) x.end (short_stripe f.map k.map);
        iomode = rw_fits g.rw;
        body = short_body ds n f g l k;
      },
      tt,
    ),
  );
}
  where
    shorter : (a b : ℕ) → a ≤ b → b ≤ MAX_FILE_SIZE + stripe_length f.map → stripe_length f.map ≤ 67108864 → a < 2 ^ 64
    shorter a b p q r = omega (arith, p, q, r)

last_fits : (number : ℕ) (m : RawMap) (gs : List Grant) (g : Grant) → AllByRecursion (GrantFits number m) (gs ++ g ∷ [])
    → GrantFits number m g
last_fits number m [] g k = k.0
last_fits number m (x ∷ gs) g k = last_fits number m gs g k.1

results_good : (client : ℕ) (ds : List Drive) (n : ℕ) (args : RequestArgs) (v : Served) (o : Option Grant)
    → v.told.grant ≡ o → n ≤ 2 ^ 63 → KeptFits n v.going.file.kept → TellsOwn client v → v.told.status < 2 ^ 32
    → (o ≡ None → SaysSo args v.told.status)
    → AreGood client (result_with ds v.going.file.kept args v.told.status o)
results_good client ds n args v None is l k own status not = plain_good client args v.told.status status (not refl)
results_good client ds n args v (Some g) is l k own status not =
    let it = own g is in
    let f = v.going.file.kept in
    let fits : GrantFits f.number f.map g =
    last_fits f.number f.map it.earlier g (subst (AllByRecursion (GrantFits f.number f.map)) it.latest k.grants) in (
      granted_fits ds n f g l k fits,
      (
        record {
          drives = ds;
          file = f;
          grant = g;
          is = refl;
          client_is = it.client_is;
          earlier = it.earlier;
          latest = it.latest;
        },
        numbers_fit ds n f g l k fits,
      ),
    )

says_so : (args : RequestArgs) (go : Going) (v : Served) → ServesFit args go v → v.told.grant ≡ None
    → SaysSo args v.told.status
says_so (Get iomode offset count) go v k none = k.refuses none
says_so (Commit last) go v k none = tt
says_so (Return report) go v k none = tt

-- ---- answers

abbrev pub AnswerGood : Answer → Type 0
AnswerGood a = AnswerFits a × ResultsGive a.client a.results

-- where so few object numbers are used
abbrev pub GoodBelow : ℕ → Answer → Type 0
GoodBelow n a = n ≤ 2 ^ 63 → AnswerGood a

-- what is read of a request fits
pub record IsRead (q : ClientRequest) : Type 0 where
  pub sequence : q.sequence < 2 ^ 32
  pub file : q.file < 2 ^ 32

plain_answers : (q : ClientRequest) (detail size status : ℕ) → q.client ≤ MAX_CLIENT → IsRead q → detail < 2 ^ 32
    → size < 2 ^ 64 → status < 2 ^ 32 → SaysSo q.args status
    → AnswerGood (record {
      client = q.client;
      sequence = q.sequence;
      file = q.file;
      detail = detail;
      size = size;
      results = result_of q.args status;
    })
plain_answers q detail size status c r d s l not =
    let good = plain_good q.client q.args status l not in (
      record {
        client = omega (arith, c);
        sequence = r.sequence;
        file = r.file;
        detail = d;
        size = s;
        results = good.0;
      },
      good.1,
    )

-- ---- what is sent

-- An answer is good where so few object numbers are used, and that are no more than were before, and messages that were
-- sent since.
abbrev pub SentGood : (first last k : ℕ) → List Outgoing → Type 0
SentGood first last k [] = Unit {0}
SentGood first last k (Answers a ∷ os) = GoodBelow last a × (last ≤ first + k) × SentGood first last (k + 1) os
SentGood first last k (Recalls r ∷ os) = RecallFits r × SentGood first last (k + 1) os
SentGood first last k (ToDrive d c ∷ os) = SentGood first last (k + 1) os
SentGood first last k (AnswersOrder a ∷ os) = SentGood first last (k + 1) os

abbrev pub SlotsGood : ℕ → List Slot → Type 0
SlotsGood n ss = AllByRecursion (λ (s : Slot). GoodBelow n s.kept) ss

pub record StepGood (s : Server) (t : Step) : Type 0 where
  pub slots : SlotsGood t.state.next_object t.state.slots
  pub sends : SentGood s.next_object t.state.next_object 0 t.sends

at_place : (first last j k : ℕ) (os : List Outgoing) → j ≡ k → SentGood first last j os → SentGood first last k os
at_place first last j k os same g = subst (λ (i : ℕ). SentGood first last i os) same g

drives_before : (first last k : ℕ) (ds : List Drive) (ws : List Awaited) (os : List Outgoing)
    → SentGood first last (k + length ws) os → SentGood first last k (to_drives ds ws ++ os)
drives_before first last k ds [] os g = at_place first last (k + 0) k os (omega arith) g
drives_before first last k ds (a ∷ ws) os g =
    drives_before first last (k + 1) ds ws os
    (at_place first last _ ((k + 1) + length ws) os (omega arith) g)

pub drives_good : (first last k : ℕ) (ds : List Drive) (ws : List Awaited) → SentGood first last k (to_drives ds ws)
drives_good first last k ds [] = tt
drives_good first last k ds (a ∷ ws) = drives_good first last (k + 1) ds ws

recall_fits : (number : ℕ) (m : RawMap) (g : Grant) (count : ℕ) → number < FILES → GrantFits number m g
    → RecallFits (recall_of g count)
recall_fits number m g count l k = record {
  client = omega (arith, k.client);
  number = mod-lt count (omega arith);
  file = omega (arith, k.file_is, l);
  args = record {
    iomode = omega arith;
    file = omega arith;
    offset = omega arith;
    «length» = omega arith;
    stateid = record { seqid = omega arith; other = refl };
  };
}

recalls_before : (first last k count number : ℕ) (m : RawMap) (gs : List Grant) (os : List Outgoing) → number < FILES
    → AllByRecursion (GrantFits number m) gs → SentGood first last (k + length gs) os
    → SentGood first last k (recalls_from count gs ++ os)
unfolding recalls_from
recalls_before first last k count number m [] os l fit g = at_place first last (k + 0) k os (omega arith) g
recalls_before first last k count number m (x ∷ gs) os l fit g = (
  recall_fits number m x count l fit.0,
  recalls_before first last (k + 1) (count + 1) number m gs os l fit.1
      (at_place first last _ ((k + 1) + length gs) os (omega arith) g),
)

pub recalls_good : (first last k count number : ℕ) (m : RawMap) (gs : List Grant) → number < FILES
    → AllByRecursion (GrantFits number m) gs → SentGood first last k (recalls_from count gs)
unfolding recalls_from
recalls_good first last k count number m [] l fit = tt
recalls_good first last k count number m (x ∷ gs) l fit = (
  recall_fits number m x count l fit.0,
  recalls_good first last (k + 1) (count + 1) number m gs l fit.1,
)

-- ---- slots

pub more_slots : (m n : ℕ) (ss : List Slot) → m ≤ n → SlotsGood m ss → SlotsGood n ss
more_slots m n [] l k = tt
more_slots m n (s ∷ ss) l k = (λ few. k.0 (omega (arith, l, few)), more_slots m n ss l k.1)

keep_good : (n : ℕ) (ss : List Slot) (s : Slot) → SlotsGood n ss → GoodBelow n s.kept → SlotsGood n (keep ss s)
unfolding keep
keep_good n [] s k g = (g, tt)
keep_good n (x ∷ ss) s k g = either (x.client == s.client) (keep_good n ss s k.1 g)
  where
    either : (b : Bool) → SlotsGood n (keep ss s) → SlotsGood n (if b then s ∷ ss else x ∷ keep ss s)
    either true l = (g, k.1)
    either false l = (k.0, l)

-- ---- a request

out_good : (s : Server) (chosen : List ℕ) (q : ClientRequest) (f : File) (v : Served) → SlotsGood s.next_object s.slots
    → q.client ≤ MAX_CLIENT → IsRead q → FileFits s.next_object f → ServesFit q.args (at_file s chosen f) v
    → TellsOwn q.client v → StepGood s (carried_out s q v)
out_good s chosen q f v k c r file x own =
    let fits = served_fits q.args (at_file s chosen f) v x in
    let run = fits.runs in
    let last = v.going.effects.object in
    let drives : length v.going.effects.sent ≡ length run.more =
    ap (λ (ws : List Awaited). length ws) run.sent_is in
    let good : GoodBelow last (answer_with s q v) = λ few.
    answered few run.kept fits.status fits.detail in
    record {
      slots = keep_good last s.slots _ (more_slots s.next_object last s.slots run.objects k) good;
      sends =
          drives_before s.next_object last 0 s.drives v.going.effects.sent _
          (recalls_before s.next_object last (0 + length v.going.effects.sent) s.next_recall f.kept.number f.kept.map
          v.recalled _ file.0.number fits.recalled
          (good, omega (arith, run.given, drives), tt));
    }
  where
    answered : v.going.effects.object ≤ 2 ^ 63 → KeptFits v.going.effects.object v.going.file.kept
        → v.told.status < 2 ^ 32 → v.told.detail < 2 ^ 32 → AnswerGood (answer_with s q v)
    answered few kept status detail =
        let results = results_good q.client s.drives v.going.effects.object q.args v v.told.grant refl few kept own status
        (says_so q.args (at_file s chosen f) v x) in (
          record {
            client = omega (arith, c);
            sequence = r.sequence;
            file = r.file;
            detail = detail;
            size = omega (arith, kept.size);
            results = results.0;
          },
          results.1,
        )

only_good : (s t : Server) (a : Answer) → SlotsGood s.next_object t.slots → t.next_object ≡ s.next_object
    → GoodBelow s.next_object a
    → StepGood s (record { state = t; sends = Answers a ∷ []; notes = []; mended = [] })
only_good s t a k same g = record {
  slots = subst (λ (n : ℕ). SlotsGood n t.slots) (sym same) k;
  sends = (subst (λ (n : ℕ). GoodBelow n a) (sym same) g, omega (arith, same), tt);
}

no_file_fits : (args : RequestArgs) → (no_file args < 2 ^ 32) × SaysSo args (no_file args)
no_file_fits (Get iomode offset count) = (omega arith, λ e. cc e)
no_file_fits (Commit last) = (omega arith, tt)
no_file_fits (Return report) = (omega arith, tt)

carries_good : (s : Server) (now : ℕ) (chosen : List ℕ) (q : ClientRequest) (o : Option File) → ServerFits s
    → SlotsGood s.next_object s.slots → q.client ≤ MAX_CLIENT → IsRead q → FoundFile s.next_object o
    → StepGood s (carries_out s now chosen q o)
carries_good s now chosen q None k g c r f =
    let status = no_file_fits q.args in
    let good : GoodBelow s.next_object (answer_without q) =
    λ few. plain_answers q 0 0 (no_file q.args) c r (omega arith) (omega arith) status.0 status.1 in
    only_good s _ (answer_without q) (keep_good s.next_object s.slots _ g good) refl good
carries_good s now chosen q (Some f) k g c r x =
    out_good s chosen q f (serves (at_file s chosen f) s.next_grant s.format now q.client q.args) g c r x
    (serves_fit (at_file s chosen f) s.next_grant s.format now q.client q.args k.format c (at_sound s chosen f k x)
    x.1) (served_own (at_file s chosen f) s.next_grant s.format now q.client q.args)

abbrev AdmitGood : ℕ → Admit → Type 0
AdmitGood n (Again kept) = GoodBelow n kept
AdmitGood n (Misordered expected) = expected < 2 ^ 32
AdmitGood n New = Unit {0}

abbrev FoundSlot : ℕ → Option Slot → Type 0
FoundSlot n None = Unit {0}
FoundSlot n (Some s) = GoodBelow n s.kept

found_slot : (n : ℕ) (p : Slot → Bool) (ss : List Slot) → SlotsGood n ss → FoundSlot n (find p ss)
found_slot n p [] k = tt
found_slot n p (s ∷ ss) k = either (p s) (found_slot n p ss k.1)
  where
    either : (b : Bool) → FoundSlot n (find p ss) → FoundSlot n (if b then Some s else find p ss)
    either true l = k.0
    either false l = l

either_admit : (n : ℕ) (b : Bool) (x y : Admit) → AdmitGood n x → AdmitGood n y → AdmitGood n (if b then x else y)
either_admit n true x y p q = p
either_admit n false x y p q = q

after_good : (n last sequence : ℕ) → AdmitGood n (admit_after last sequence)
unfolding admit_after
after_good n last sequence =
    either_admit n ((sequence == last + 1) && nat_lt last GREATEST_SEQUENCE) New
    (Misordered (min (last + 1) GREATEST_SEQUENCE)) tt (omega arith)

admit_good : (n : ℕ) (o : Option Slot) (sequence : ℕ) → FoundSlot n o → AdmitGood n (admit o sequence)
unfolding admit
admit_good n None sequence k = after_good n 0 sequence
admit_good n (Some s) sequence k =
    either_admit n (sequence == s.last) (Again s.kept) (admit_after s.last sequence) k (after_good n s.last sequence)

size_fits : (n : ℕ) (o : Option File) → FoundFile n o → size_in o < 2 ^ 64
size_fits n None k = omega arith
size_fits n (Some f) k = omega (arith, k.0.size)

misordered_so : (args : RequestArgs) → SaysSo args 10063
misordered_so (Get iomode offset count) = λ e. cc e
misordered_so (Commit last) = tt
misordered_so (Return report) = tt

admitted_good : (s : Server) (now : ℕ) (chosen : List ℕ) (q : ClientRequest) (a : Admit) → ServerFits s
    → SlotsGood s.next_object s.slots → q.client ≤ MAX_CLIENT → IsRead q → AdmitGood s.next_object a
    → StepGood s (by_admit s now chosen q a)
admitted_good s now chosen q New k g c r a =
    carries_good s now chosen q (file_at s.files q.file) k g c r (found_file s.next_object s.files q.file k.files)
admitted_good s now chosen q (Again kept) k g c r a = only_good s s kept g refl a
admitted_good s now chosen q (Misordered expected) k g c r a =
    only_good s s _ g refl
    (λ few. plain_answers q expected (size_in (file_at s.files q.file)) 10063 c r a
    (size_fits s.next_object (file_at s.files q.file) (found_file s.next_object s.files q.file k.files))
    (omega arith) (misordered_so q.args))

pub request_good : (s : Server) (now : ℕ) (chosen : List ℕ) (q : ClientRequest) → ServerFits s
    → SlotsGood s.next_object s.slots → q.client ≤ MAX_CLIENT → IsRead q → StepGood s (on_request s now chosen q)
unfolding on_request
request_good s now chosen q k g c r =
    admitted_good s now chosen q _ k g c r
    (admit_good s.next_object (slot_of s.slots q.client) q.sequence (found_slot s.next_object _ s.slots g))
