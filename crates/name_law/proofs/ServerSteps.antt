-- Each step of the server leaves it, sends and notes what lines can name.
use Rattle.std.proofs.Common.{◌≡◌, ◌==◌, ◌&&◌, ℕ, ◌+◌, ◌<◌, ◌≤◌, nat_lt, Bool, true, false, List, [], ◌∷◌, ◌++◌, map, flat_map, Option, Some, None, refl, sym, subst, arith, inl, inr, if◌then◌else◌}
use Rattle.std.proofs.lemmas.Bool.Decides.{nat_tests}
use Rattle.data_map.specs.declared.check.RawMap.{RawMap}
use Rattle.layout_ops.specs.declared.statuses.TheConstants.{NFS4ERR_SEQ_MISORDERED}
use Rattle.scenario_text.specs.declared.names.TheConstants.{CLIENTS, DRIVES, FILES}
use Rattle.scenario_text.specs.declared.line.Line.{Line}
use Rattle.server_rules.specs.declared.limits.TheConstants.{MAX_CLIENT}
use Rattle.server_rules.specs.Answers.{recalls_from, plain_answer}
use Rattle.server_rules.specs.Envelopes.{receiver}
use Rattle.server_rules.specs.Files.{Step, still, begins, file_at, put_file, at_file, step_at, to_drives}
use Rattle.server_rules.specs.Going.{Going, noting}
use Rattle.server_rules.specs.History.{Input, Makes, Adds}
use Rattle.server_rules.specs.Jobs.{making, declares, fence_begins}
use Rattle.server_rules.specs.Laws.{In}
use Rattle.server_rules.specs.Making.{drives_for, components_on, with_file, makes_file}
use Rattle.server_rules.specs.Messages.{awaited_by}
use Rattle.server_rules.specs.Openings.{crashed_file, opens, opens_each, crash}
use Rattle.server_rules.specs.Orders.{offline, declares_each, declare}
use Rattle.server_rules.specs.Replies.{answers, hearing}
use Rattle.server_rules.specs.Requests.{serves, only_answers, keeps, carried_out, answer_with, answer_without, size_in}
use Rattle.server_rules.specs.Rounds.{Round, step_round}
use Rattle.server_rules.specs.Served.{Served, tells}
use Rattle.server_rules.specs.Slots.{Again, New, Misordered, slot_of, admit, admit_after, keep}
use Rattle.server_rules.proofs.Members.{in_either, in_mapped}
use Rattle.world_history.specs.Names.{is_named, note_line, known_note_line, is_tellable_note, where_known}
use Rattle.world_history.specs.ServerNames.{Server, File, Drive, Component, Grant, Slot, Answer, Awaited, Effects, Note, NoteKind, Outgoing, Answers, AnswersOrder, ClientRequest}
use Rattle.history_law.proofs.Hearing.{found_in}
use Rattle.history_law.specs.Placed.{AreNamed as AreNamedDrives}
use Rattle.history_law.proofs.Inputs.{added_named, zoned_named}
use Rattle.history_law.proofs.Made.{AllNamed, for_named}
use Rattle.history_law.proofs.HistorySteps.{offline_named}
use Rattle.component_law.specs.Naming.{IsNamedInput}
use Rattle.history_law.specs.Steps.{answered_file, IsOrdered, Refuses, WhileBusy, OnGreatest, with_added, with_zoned, new_file, StepCases, RequestCases}
use Rattle.history_law.proofs.Steps.{each_step, each_request}
use Rattle.history_law.proofs.Files.{in_at}
use Rattle.history_law.proofs.JobFiles.{in_add, in_put}
use Rattle.name_law.specs.ServerNamed.{AreOnNamed, AreOfNamed, AreForNamed, IsNamedFile, IsNamedServer, SendsToNamed, EachServerStepIsNamed}
use Rattle.name_law.proofs.ServerAwaited.{none_for}
use Rattle.name_law.proofs.ServerJobs.{AreTold, Ends, owns_noting, ends_making, ends_fence, ends_hears, ends_declares, ends_opens}
use Rattle.name_law.proofs.ServerRequests.{IsServed, served}

-- ---- files in the middle of a step, and behind it

-- effects so far
abbrev AreEffects : Effects → Type 0
AreEffects m = AreForNamed m.sent × AreTold m.notes

into : (f : File) (m : Effects) (ds : List Drive) (chosen : List ℕ) → IsNamedFile f → AreNamedDrives ds → AreEffects m
    → Ends (record { file = f; effects = m; drives = ds; chosen = chosen })
into f m ds chosen h drives e = (
  record {
    number = h.number;
    drives = drives;
    components = h.components;
    grants = h.grants;
    sent = e.0;
    notes = e.1;
  },
  (h.awaited, h.target),
)

out : (g : Going) → Ends g → IsNamedFile g.file
out g h = record {
  number = h.0.number;
  components = h.0.components;
  grants = h.0.grants;
  awaited = h.1.0;
  target = h.1.1;
}

effects_of : (g : Going) → Ends g → AreEffects g.effects
effects_of g h = (h.0.sent, h.0.notes)

-- ---- what is sent and noted

-- each of these is for a party that a line can name
abbrev ToNamed : List Outgoing → Type 0
ToNamed os = (o : Outgoing) → In o os → is_named (receiver o) ≡ true

none_to : ToNamed []
none_to o i = absurd i

one_to : (x : Outgoing) → is_named (receiver x) ≡ true → ToNamed (x ∷ [])
one_to x h o (inl e) = subst (λ (y : Outgoing). is_named (receiver y) ≡ true) (sym e) h
one_to x h o (inr i) = absurd i

both_to : (xs ys : List Outgoing) → ToNamed xs → ToNamed ys → ToNamed (xs ++ ys)
both_to xs ys p q o i = elim (in_either o xs ys i) [ inl j ↦ p o j | inr j ↦ q o j ]

below : (n m : ℕ) → n < m → nat_lt n m ≡ true
below n m less = grind (arith, nat_tests, less)

drives_to : (ds : List Drive) (cs : List Awaited) → AreForNamed cs → ToNamed (to_drives ds cs)
drives_to ds cs h o i =
    let r = in_mapped _ o cs i in
    subst (λ (y : Outgoing). is_named (receiver y) ≡ true) (sym r.2) (below r.0.drive DRIVES (h r.0 r.1))

recalls_to : (n : ℕ) (gs : List Grant) → AreOfNamed gs → ToNamed (recalls_from n gs)
unfolding recalls_from
recalls_to n [] h o i = absurd i
recalls_to n (g ∷ gs) h o (inl e) =
    subst (λ (y : Outgoing). is_named (receiver y) ≡ true) (sym e) (below g.client CLIENTS (h g (inl refl)))
recalls_to n (g ∷ gs) h o (inr i) = recalls_to (n + 1) gs (λ x j. h x (inr j)) o i

answer_to : (a : Answer) → a.client < CLIENTS → ToNamed (Answers a ∷ [])
answer_to a less = one_to (Answers a) (below a.client CLIENTS less)

known_line : (b : Bool) (l : Line) → b ≡ true → where_known b l ≡ Some l
known_line true l e = refl
known_line false l e = absurd (cc e)

told : (ns : List Note) → AreTold ns → (n : Note) → In n ns → known_note_line n ≡ Some (note_line n)
told ns h n i = known_line (nat_lt n.file FILES && is_tellable_note n.kind) (note_line n) (h n i)

-- ---- behind a step

abbrev IsStep : Step → Type 0
IsStep t = IsNamedServer t.state × SendsToNamed t

quietly : (s : Server) → IsNamedServer s → IsStep (still s)
quietly s h = (h, record { receivers = none_to; notes = λ n i. absurd i })

put_named : (fs : List File) (n : ℕ) (g : File) → ((f : File) → In f fs → IsNamedFile f) → IsNamedFile g
    → (f : File) → In f (put_file fs n g) → IsNamedFile f
put_named fs n g all own f i = elim (in_put fs n g f i) [
  | inl e ↦ subst IsNamedFile (sym e) own
  | inr j ↦ all f j
]

-- one file goes on
at_one : (s : Server) (number : ℕ) (g : Going) → IsNamedServer s → Ends g → IsStep (step_at s number g)
at_one s number g h e = (
  record {
    drives = h.drives;
    files = put_named s.files number g.file h.files (out g e);
    slots = h.slots;
  },
  record {
    receivers = drives_to s.drives g.effects.sent e.0.sent;
    notes = told g.effects.notes e.0.notes;
  },
)

none_told : AreTold []
none_told n i = absurd i

begun : (s : Server) (chosen : List ℕ) (f : File) → IsNamedServer s → In f s.files → Ends (at_file s chosen f)
begun s chosen f h i = into f (begins s) s.drives chosen (h.files f i) h.drives (none_for, none_told)

-- ---- a request

slots_keep : (ss : List Slot) (x : Slot) → ((y : Slot) → In y ss → y.kept.client < CLIENTS) → x.kept.client < CLIENTS
    → (y : Slot) → In y (keep ss x) → y.kept.client < CLIENTS
unfolding keep
slots_keep [] x all own y (inl e) = subst (λ (z : Slot). z.kept.client < CLIENTS) (sym e) own
slots_keep [] x all own y (inr i) = absurd i
slots_keep (t ∷ ss) x all own y i =
    either (t.client == x.client) i (λ j. slots_keep ss x (λ z k. all z (inr k)) own y j)
  where
    either : (b : Bool) → In y (if b then x ∷ ss else t ∷ keep ss x) → (In y (keep ss x) → y.kept.client < CLIENTS)
        → y.kept.client < CLIENTS
    either true (inl e) rest = subst (λ (z : Slot). z.kept.client < CLIENTS) (sym e) own
    either true (inr j) rest = all y (inr j)
    either false (inl e) rest = all y (inl e)
    either false (inr j) rest = rest j

slot_in : (ss : List Slot) (client : ℕ) (x : Slot) → slot_of ss client ≡ Some x → In x ss
slot_in [] client x e = absurd (cc e)
slot_in (t ∷ ss) client x e = either (t.client == client) e (slot_in ss client x)
  where
    either : (b : Bool) → (if b then Some t else slot_of ss client) ≡ Some x → (slot_of ss client ≡ Some x → In x ss)
        → In x (t ∷ ss)
    either true is rest = let same : t ≡ x = cc is in inl (sym same)
    either false is rest = inr (rest is)

-- an answer that was kept is a slot's
never_again : (b : Bool) (expected : ℕ) (kept : Answer) → (if b then New else Misordered expected) ≡ Again kept → ⊥
never_again true expected kept e = absurd (cc e)
never_again false expected kept e = absurd (cc e)

not_new : (last sequence : ℕ) (kept : Answer) → admit_after last sequence ≡ Again kept → ⊥
unfolding admit_after
not_new last sequence kept e = never_again _ _ kept e

again_kept : (ss : List Slot) (o : Option Slot) (sequence : ℕ) (kept : Answer) → ((x : Slot) → o ≡ Some x → In x ss)
    → admit o sequence ≡ Again kept → (x : Slot) × In x ss × (x.kept ≡ kept)
unfolding admit
again_kept ss None sequence kept there e = absurd (not_new 0 sequence kept e)
again_kept ss (Some x) sequence kept there e = either (sequence == x.last) e
  where
    either : (b : Bool) → (if b then Again x.kept else admit_after x.last sequence) ≡ Again kept
        → (y : Slot) × In y ss × (y.kept ≡ kept)
    either true is = let same : x.kept ≡ kept = cc is in (x, there x refl, same)
    either false is = absurd (not_new x.last sequence kept is)

answered_only : (s : Server) (a : Answer) → IsNamedServer s → a.client < CLIENTS → IsStep (only_answers s a)
answered_only s a h less = (h, record { receivers = answer_to a less; notes = λ n i. absurd i })

kept_more : (s : Server) (a : Answer) → IsNamedServer s → a.client < CLIENTS → IsNamedServer (keeps s a)
kept_more s a h less = record {
  drives = h.drives;
  files = h.files;
  slots = slots_keep s.slots (record { client = a.client; last = a.sequence; kept = a }) h.slots less;
}

carried : (s : Server) (q : ClientRequest) (v : Served) → q.client < CLIENTS → IsNamedServer s → IsServed v
    → IsStep (carried_out s q v)
carried s q v less h e = (
  record {
    drives = h.drives;
    files = put_named s.files q.file v.going.file h.files (out v.going e.0);
    slots = slots_keep s.slots _ h.slots less;
  },
  record {
    receivers =
        both_to (to_drives s.drives v.going.effects.sent) _ (drives_to s.drives v.going.effects.sent e.0.0.sent)
        (both_to (recalls_from s.next_recall v.recalled) _ (recalls_to s.next_recall v.recalled e.1)
        (answer_to (answer_with s q v) less));
    notes = told v.going.effects.notes e.0.0.notes;
  },
)

request_cases : (s : Server) (now : ℕ) (chosen : List ℕ) (q : ClientRequest) → IsNamedServer s → q.client < CLIENTS
    → RequestCases s now chosen q IsStep
request_cases s now chosen q h less = record {
  again = λ kept e.
      let r = again_kept s.slots (slot_of s.slots q.client) q.sequence kept (λ x is. slot_in s.slots q.client x is) e in
      answered_only s kept h (subst (λ (a : Answer). a.client < CLIENTS) r.2 (h.slots r.0 r.1));
  misordered = λ expected e.
      answered_only s (plain_answer q (tells NFS4ERR_SEQ_MISORDERED expected) (size_in (file_at s.files q.file))) h less;
  without = λ new none.
      answered_only (keeps s (answer_without q)) (answer_without q) (kept_more s (answer_without q) h less) less;
  served = λ new f found.
      carried s q (serves (at_file s chosen f) s.next_grant s.format now q.client q.args) less h
      (served (at_file s chosen f) s.next_grant s.format now q.client q.args less
      (begun s chosen f h (in_at s.files q.file f found)));
}

-- ---- all files, in order

record IsRound (r : Round) : Type 0 where
  files : (f : File) → In f r.files → IsNamedFile f
  effects : AreEffects r.effects

first_and : (g : Going) (r : Round) → IsNamedFile g.file → IsRound r → IsRound (record r { files = g.file ∷ r.files })
first_and g r own k = record { files = each; effects = k.effects }
  where
    each : (f : File) → In f (g.file ∷ r.files) → IsNamedFile f
    each f (inl e) = subst IsNamedFile (sym e) own
    each f (inr i) = k.files f i

declared_round : (drive : ℕ) (ds : List Drive) (fs : List File) (m : Effects) (chosen : List ℕ) → AreNamedDrives ds
    → ((f : File) → In f fs → IsNamedFile f) → AreEffects m → IsRound (declares_each drive ds fs m chosen)
unfolding declares_each
declared_round drive ds [] m chosen a all e = record { files = λ f i. absurd i; effects = e }
declared_round drive ds (f ∷ fs) m chosen a all e =
    let g : Going = declares (record { file = f; effects = m; drives = ds; chosen = chosen }) drive in
    let k = ends_declares (record { file = f; effects = m; drives = ds; chosen = chosen }) drive
    (into f m ds chosen (all f (inl refl)) a e) in
    first_and g _ (out g k)
    (declared_round drive ds fs g.effects g.chosen a (λ x i. all x (inr i)) (effects_of g k))

opened_round : (format : ℕ) (ds : List Drive) (fs : List File) (m : Effects) → AreNamedDrives ds
    → ((f : File) → In f fs → IsNamedFile f) → AreEffects m → IsRound (opens_each format ds fs m)
unfolding opens_each
opened_round format ds [] m a all e = record { files = λ f i. absurd i; effects = e }
opened_round format ds (f ∷ fs) m a all e =
    let g : Going = opens format (record { file = f; effects = m; drives = ds; chosen = [] }) in
    let k = ends_opens format (record { file = f; effects = m; drives = ds; chosen = [] })
    (into f m ds [] (all f (inl refl)) a e) in
    first_and g _ (out g k) (opened_round format ds fs g.effects a (λ x i. all x (inr i)) (effects_of g k))

round_step : (s : Server) (r : Round) → AreNamedDrives s.drives → ((x : Slot) → In x s.slots → x.kept.client < CLIENTS)
    → IsRound r → IsStep (step_round s r)
round_step s r drives slots k = (
  record { drives = drives; files = k.files; slots = slots },
  record { receivers = drives_to s.drives r.effects.sent k.effects.0; notes = told r.effects.notes k.effects.1 },
)

-- ---- making a file

placed_on : (ns : List ℕ) (object : ℕ) → AllNamed ns → AreOnNamed (components_on ns object)
unfolding components_on
placed_on [] object a x i = absurd i
placed_on (n ∷ ns) object a x (inl e) = subst (λ (z : Component). z.drive < DRIVES) (sym e) a.0
placed_on (n ∷ ns) object a x (inr i) = placed_on ns (object + 1) a.1 x i

new_named : (s : Server) (chosen : List ℕ) (n : ℕ) (m : RawMap) (tag : ℕ) (zoned : Bool) → AreNamedDrives s.drives
    → n < FILES → IsNamedFile (new_file s chosen n m tag zoned)
new_named s chosen n m tag zoned a less = record {
  number = less;
  components = placed_on (drives_for zoned s.drives m chosen) s.next_object (for_named zoned s.drives m chosen a);
  grants = λ g i. absurd i;
  awaited = none_for;
  target = tt;
}

made : (s : Server) (f : File) → IsNamedServer s → IsNamedFile f → IsStep (makes_file s f)
made s f h own =
    let t : Server = with_file s f in
    at_one t f.kept.number (making (at_file t [] f))
    (record {
      drives = h.drives;
      files = λ x i. elim (in_add s.files f x i) [
        | inl e ↦ subst IsNamedFile (sym e) own
        | inr j ↦ h.files x j
      ];
      slots = h.slots;
    })
    (ends_making (at_file t [] f) (into f (begins t) t.drives [] own h.drives (none_for, none_told)).0)

-- ---- any step

refused_note : (f : File) (n : NoteKind) → Refuses f n → is_tellable_note n ≡ true
refused_note f n (WhileBusy j runs is) = subst (λ (k : NoteKind). is_tellable_note k ≡ true) (sym is) refl
refused_note f n (OnGreatest none spent is) = subst (λ (k : NoteKind). is_tellable_note k ≡ true) (sym is) refl

resent_to : (ds : List Drive) (fs : List File) → ((f : File) → In f fs → IsNamedFile f)
    → ToNamed (flat_map (λ (f : File). to_drives ds (awaited_by f.job)) fs)
resent_to ds [] all o i = absurd i
resent_to ds (f ∷ fs) all o i = elim (in_either o (to_drives ds (awaited_by f.job)) _ i) [
  | inl j ↦ drives_to ds (awaited_by f.job) (all f (inl refl)).awaited o j
  | inr j ↦ resent_to ds fs (λ x k. all x (inr k)) o j
]

crashed_named : (fs : List File) → ((f : File) → In f fs → IsNamedFile f) → (f : File) → In f (map crashed_file fs)
    → IsNamedFile f
crashed_named fs all f i =
    let r = in_mapped crashed_file f fs i in
    let h = all r.0 r.1 in
    subst IsNamedFile (sym r.2) (record {
      number = h.number;
      components = h.components;
      grants = h.grants;
      awaited = none_for;
      target = tt;
    })

with_answered : (t : Step) (x : Outgoing) → is_named (receiver x) ≡ true → IsStep t
    → IsStep (record t { sends = t.sends ++ x ∷ [] })
with_answered t x own h = (
  record { drives = h.0.drives; files = h.0.files; slots = h.0.slots },
  record { receivers = both_to t.sends (x ∷ []) h.1.receivers (one_to x own); notes = h.1.notes },
)

client_less : (c : ℕ) → c ≤ MAX_CLIENT → c < CLIENTS
client_less c le = omega (arith, le)

module _ (s : Server) (chosen : List ℕ) (i : Input) (h : IsNamedServer s) (named : IsNamedInput i) where
  file_of : (f : File) → IsOrdered s i f → In f s.files
  file_of f is = in_at s.files is.target f is.found

  making_named : (n : ℕ) (m : RawMap) (tag : ℕ) (zoned : Bool) → i ≡ Makes n m tag zoned → n < FILES
  making_named n m tag zoned is = subst IsNamedInput is named

  adding_named : (d : Drive) → i ≡ Adds d → d.number < DRIVES
  adding_named d is = subst IsNamedInput is named

  cases : StepCases s chosen i IsStep
  unfolding declare
  cases = record {
    rests = quietly s h;
    asked = λ now q is.
        each_request s now chosen q IsStep (request_cases s now chosen q h (client_less q.client is.named));
    answered = λ x is.
        at_one s (answered_file s chosen x).file.kept.number (answered_file s chosen x) h
        (ends_hears (at_file s chosen x.file) x.job x.awaited x.reply (hearing x.file.kept x.awaited x.reply) is.runs
        (found_in (answers x.drive x.reply) x.job.awaited x.awaited is.awaits).0
        (begun s chosen x.file h is.there));
    recalled = λ f is. (
      record { drives = h.drives; files = h.files; slots = h.slots },
      record {
        receivers = recalls_to s.next_recall f.kept.grants (h.files f (file_of f is)).grants;
        notes = λ n j. absurd j;
      },
    );
    refused = λ f is n why.
        let b = begun s chosen f h (file_of f is) in
        at_one s f.kept.number (noting (at_file s chosen f) n) h
        (owns_noting (at_file s chosen f) n (refused_note f n why) b.0, b.1);
    fenced = λ f is kind none low.
        at_one s f.kept.number (fence_begins kind s.format (at_file s chosen f)) h
        (ends_fence kind s.format (at_file s chosen f) (begun s chosen f h (file_of f is)).0);
    declared = λ d known.
        round_step (record s { drives = offline s.drives d }) _ (offline_named s.drives d h.drives) h.slots
        (declared_round d (offline s.drives d) s.files (begins s) chosen (offline_named s.drives d h.drives) h.files
        (none_for, none_told));
    told = λ t now o is result k. with_answered t (AnswersOrder (record { order = o.order; result = result })) refl k;
    made = λ n m tag zoned is none.
        made s (new_file s chosen n m tag zoned) h
        (new_named s chosen n m tag zoned h.drives (making_named n m tag zoned is));
    added = λ d is.
        quietly (with_added s d)
        (record {
          drives = added_named s.drives d h.drives (adding_named d is);
          files = h.files;
          slots = h.slots;
        });
    zoned = λ d zone is.
        quietly (with_zoned s d zone)
        (record { drives = zoned_named s.drives d zone h.drives; files = h.files; slots = h.slots });
    formats = λ n is. quietly _ (record { drives = h.drives; files = h.files; slots = h.slots });
    resends = λ is. (h, record { receivers = resent_to s.drives s.files h.files; notes = λ n j. absurd j });
    crashes = λ is.
        quietly (crash s)
        (record { drives = h.drives; files = crashed_named s.files h.files; slots = h.slots });
    opened = λ is low.
        round_step s _ h.drives h.slots
        (opened_round s.format s.drives s.files (begins s) h.drives h.files (none_for, none_told));
  }

pub each_server_step_is_named : EachServerStepIsNamed
each_server_step_is_named s chosen i h named = each_step s chosen i IsStep (cases s chosen i h named)
