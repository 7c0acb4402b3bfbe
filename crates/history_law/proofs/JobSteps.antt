-- Each step of the server numbers what it sends anew, and ends no fence before each component was asked and answered.
use Rattle.std.proofs.Common.{◌≡◌, ◌⊎◌, ◌==◌, ◌&&◌, ℕ, ◌+◌, Bool, true, false, nat_le, List, [], ◌∷◌, ◌++◌, length, map, flat_map, Option, Some, None, refl, sym, ap, subst, ◌∙◌, arith, inl, inr, if◌then◌else◌}
use Rattle.std.proofs.lemmas.List.{length-append}
use Rattle.osd_lists.specs.declared.node.Node.{Node}
use Rattle.osd_lists.specs.declared.node.Node.TheVariants.{Server as FromServer, Drive as FromDrive, Client as FromClient}
use Rattle.osd_commands.specs.declared.commands.Command.{Command}
use Rattle.server_rules.specs.declared.limits.TheConstants.{MAX_CLIENT, GREATEST_TAG}
use Rattle.history_law.specs.Names.{Server, File, Drive, Grant, Awaited, Job, JobKind, Revoking, Rebuilding, Auditing, Reply, ClientRequest, RawMap, Refusal, ToDrive, Answers, Busy, Spent, OrderKind, ToRecall, ToRevoke, ToDeclare, ToRebuild, ToAudit, Answer}
use Rattle.server_rules.specs.Going.{Going}
use Rattle.server_rules.specs.Served.{Served}
use Rattle.server_rules.specs.Answers.{recalls_from}
use Rattle.server_rules.specs.Slots.{Admit, New, Again, Misordered, admit, slot_of}
use Rattle.server_rules.specs.Files.{Step, still, file_at, add_file, at_file, to_drive, to_drives, step_at}
use Rattle.server_rules.specs.Jobs.{making}
use Rattle.server_rules.specs.Replies.{on_reply}
use Rattle.server_rules.specs.Requests.{carried_out, carries_out, by_admit, on_request}
use Rattle.server_rules.specs.Messages.{Message, Asks, Replies, Orders, counters_have_room, or_else, heard_at, by_heard, on_drive_reply, handled, on_message, awaited_by, resend}
use Rattle.server_rules.specs.Orders.{Ordered, begins_job, starts, recalls_on, offline, with_offline, declare, declares_known, ordered, with_result}
use Rattle.server_rules.specs.Making.{refusal, unless_refused, makes_file, with_file, unmade, drives_for, create_file}
use Rattle.server_rules.specs.Openings.{crashed_file, reopen}
use Rattle.server_rules.specs.History.{Input, Hears, Makes, Obeys, Adds, Zones, Formats, Resends, Crashes, Opens, unless_made, step}
use Rattle.server_rules.specs.Laws.{In}
use Rattle.server_rules.proofs.Members.{in_front, in_behind, in_either, in_map, in_mapped}
use Rattle.history_law.specs.Numbered.{Awaits, IsOf, NumbersOn, EachStepNumbers, EachRunNumbers}
use Rattle.history_law.specs.Fencing.{Reached, is_fencing, AreFencing, IsHeardTruly, FencesHold, FencesWait}
use Rattle.history_law.proofs.Lists.{numbered_at, numbered_more}
use Rattle.history_law.proofs.Fences.{GoesFrom, Fencing, WasFencing, Handled, handled_fence, handled_making}
use Rattle.history_law.proofs.Hearing.{IsTruth, Heard, Unheard, IsHeard, heard_reply}
use Rattle.history_law.proofs.Asking.{handled_noted, handled_served}
use Rattle.history_law.proofs.JobFiles.{found_file, in_put, put_there, in_add, add_there, in_drives, IsStepAt, numbers_at, owns_at, fences_at, handled_each, opened_each, numbers_round, owns_round, fences_round}
use Rattle.history_law.proofs.Owned.{sent_owned}
use Rattle.history_law.specs.Owned.{Owns, EachStepOwns}

-- ---- a step

-- it numbers what it sends anew, under the server's holder; and keeps what fences wait for, given this
record Both (R : Reached) (given : Type 0) (s : Server) (t : Step) : Type 0 where
  numbers : NumbersOn s t
  owns : Owns s t
  fences : AreFencing R s.files → given → FencesHold R t

-- ---- a step that begins no job

-- the files stay, or lose their jobs; and nothing goes to drives
record IsIdle (s : Server) (t : Step) : Type 0 where
  files : (f : File) → In f t.state.files → In f s.files ⊎ (f.job ≡ None)
  nonce : t.state.next_nonce ≡ s.next_nonce
  notes : t.notes ≡ []
  sends : (drive : ℕ) (c : Command) → In (ToDrive drive c) t.sends → ⊥

no_job_awaits : (o : Option Job) (a : Awaited) → o ≡ None → In a (awaited_by o) → ⊥
no_job_awaits o a e i = subst (λ (x : Option Job). In a (awaited_by x)) e i

both_idle : (R : Reached) (given : Type 0) (s : Server) (t : Step) → IsIdle s t → Both R given s t
both_idle R given s t i = record {
  numbers = record {
    fresh = [];
    numbered = tt;
    rises = i.nonce ∙ omega arith;
    waits = λ a w. elim (i.files w.0 w.1) [
      | inl j ↦ inl (w.0, j, w.2)
      | inr none ↦ absurd (no_job_awaits w.0.job a none w.2)
    ];
    sends = λ drive c j. absurd (i.sends drive c j);
    goes_out = λ a j. absurd j;
  };
  owns = record {
    waits = λ were a w. elim (i.files w.0 w.1) [
      | inl j ↦ were a (w.0, j, w.2)
      | inr none ↦ absurd (no_job_awaits w.0.job a none w.2)
    ];
    sends = λ were drive c j. absurd (i.sends drive c j);
  };
  fences = λ were g. record {
    fencing = λ f j e. elim (i.files f j) [
      | inl k ↦ were f k e
      | inr none ↦ absurd (cc (sym e ∙ ap is_fencing none))
    ];
    fenced = λ n tag j e. absurd (subst (In n) i.notes j);
  };
}

idle_still : (s : Server) → IsIdle s (still s)
idle_still s = record { files = λ f i. inl i; nonce = refl; notes = refl; sends = λ drive c i. i }

both_still : (R : Reached) (given : Type 0) (s : Server) → Both R given s (still s)
both_still R given s = both_idle R given s (still s) (idle_still s)

either_step : (R : Reached) (given : Type 0) (s : Server) (b : Bool) (x y : Step) → Both R given s x → Both R given s y
    → Both R given s (if b then x else y)
either_step R given s true x y p q = p
either_step R given s false x y p q = q

pub no_answer : (a : Answer) (drive : ℕ) (c : Command) → In (ToDrive drive c) (Answers a ∷ []) → ⊥
no_answer a drive c (inl e) = cc e
no_answer a drive c (inr i) = i

pub no_recall : (n : ℕ) (gs : List Grant) (drive : ℕ) (c : Command) → In (ToDrive drive c) (recalls_from n gs) → ⊥
unfolding recalls_from
no_recall n [] drive c i = i
no_recall n (g ∷ gs) drive c (inl e) = cc e
no_recall n (g ∷ gs) drive c (inr i) = no_recall (n + 1) gs drive c i

-- ---- a step at one file

at_put : (s : Server) (chosen : List ℕ) (n : ℕ) (f : File) (h : Going) → In f s.files → f.kept.number ≡ n
    → IsStepAt s f h (step_at s n h)
at_put s chosen n f h i e = record {
  files = λ x j. elim (in_put s.files n h.file x j) [ inl same ↦ inl same | inr k ↦ inr (inl k) ];
  there = put_there s.files n h.file f i e;
  awaits = λ a j. (f, i, j);
  nonce = refl;
  notes = refl;
  sends = λ drive c j. j;
  out = λ a j. in_map (to_drive s.drives) a h.effects.sent j;
}

both_at : (R : Reached) (given : Type 0) (s : Server) (chosen : List ℕ) (n : ℕ) (f : File) (h : Going) → In f s.files
    → f.kept.number ≡ n → Handled R (at_file s chosen f) h → Both R given s (step_at s n h)
both_at R given s chosen n f h i e d =
    let is = at_put s chosen n f h i e in
    record {
      numbers = numbers_at s f h (step_at s n h) is f.kept.number f.kept.tag d.goes;
      owns = owns_at s f h (step_at s n h) is f.kept.number f.kept.tag d.goes;
      fences = λ were g. fences_at s f h (step_at s n h) is R were (d.fences (were f i));
    }

-- ---- a request

carried : (R : Reached) (given : Type 0) (s : Server) (q : ClientRequest) (chosen : List ℕ) (f : File) (v : Served)
    → In f s.files → f.kept.number ≡ q.file → Handled R (at_file s chosen f) v.going
    → Both R given s (carried_out s q v)
carried R given s q chosen f v i e d =
    record {
      numbers = numbers_at s f v.going (carried_out s q v) is f.kept.number f.kept.tag d.goes;
      owns = owns_at s f v.going (carried_out s q v) is f.kept.number f.kept.tag d.goes;
      fences = λ were g. fences_at s f v.going (carried_out s q v) is R were (d.fences (were f i));
    }
  where
    is : IsStepAt s f v.going (carried_out s q v)
    is = record {
      files = λ x j. elim (in_put s.files q.file v.going.file x j) [ inl same ↦ inl same | inr k ↦ inr (inl k) ];
      there = put_there s.files q.file v.going.file f i e;
      awaits = λ a j. (f, i, j);
      nonce = refl;
      notes = refl;
      sends = λ drive c j. elim (in_either (ToDrive drive c) (to_drives s.drives v.going.effects.sent) _ j) [
        | inl k ↦ k
        | inr k ↦ elim (in_either (ToDrive drive c) (recalls_from s.next_recall v.recalled) _ k) [
          | inl l ↦ absurd (no_recall s.next_recall v.recalled drive c l)
          | inr l ↦ absurd (no_answer _ drive c l)
        ]
      ];
      out = λ a j.
          in_front (to_drive s.drives a) (to_drives s.drives v.going.effects.sent) _
          (in_map (to_drive s.drives) a v.going.effects.sent j);
    }

carries : (R : Reached) (given : Type 0) (s : Server) (now : ℕ) (chosen : List ℕ) (q : ClientRequest) (o : Option File)
    → file_at s.files q.file ≡ o → Both R given s (carries_out s now chosen q o)
carries R given s now chosen q None e =
    both_idle R given s _ (record {
      files = λ f i. inl i;
      nonce = refl;
      notes = refl;
      sends = no_answer _;
    })
carries R given s now chosen q (Some f) e =
    let found = found_file s.files q.file f e in
    carried R given s q chosen f _ found.0 found.1
    (handled_served R (at_file s chosen f) s.next_grant s.format now q.client q.args)

admitted : (R : Reached) (given : Type 0) (s : Server) (now : ℕ) (chosen : List ℕ) (q : ClientRequest) (a : Admit)
    → Both R given s (by_admit s now chosen q a)
admitted R given s now chosen q New = carries R given s now chosen q (file_at s.files q.file) refl
admitted R given s now chosen q (Again kept) =
    both_idle R given s _ (record { files = λ f i. inl i; nonce = refl; notes = refl; sends = no_answer _ })
admitted R given s now chosen q (Misordered expected) =
    both_idle R given s _ (record { files = λ f i. inl i; nonce = refl; notes = refl; sends = no_answer _ })

asked : (R : Reached) (given : Type 0) (s : Server) (now : ℕ) (chosen : List ℕ) (q : ClientRequest)
    → Both R given s (on_request s now chosen q)
unfolding on_request
asked R given s now chosen q = admitted R given s now chosen q (admit (slot_of s.slots q.client) q.sequence)

-- ---- a reply

-- no file awaits it, or this one does
data HeardAt (R : Reached) (s : Server) (chosen : List ℕ) (drive : ℕ) (r : Reply) : Option Going → Type 0 where
  Nobody : HeardAt R s chosen drive r None
  Somebody : (f : File) (h : Going) → In f s.files → GoesFrom (at_file s chosen f) h
      → (WasFencing R f → IsTruth R f drive r → Fencing R [] h) → HeardAt R s chosen drive r (Some h)

first_heard : (R : Reached) (s : Server) (chosen : List ℕ) (drive : ℕ) (r : Reply) (f : File) (a b : Option Going)
    → In f s.files → Heard R (at_file s chosen f) drive r a → HeardAt R s chosen drive r b
    → HeardAt R s chosen drive r (or_else a b)
first_heard R s chosen drive r f a b i Unheard later = later
first_heard R s chosen drive r f a b i (IsHeard h goes fences) later = Somebody f h i goes fences

all_heard : (R : Reached) (s : Server) (chosen : List ℕ) (drive : ℕ) (r : Reply) (fs : List File)
    → ((f : File) → In f fs → In f s.files) → HeardAt R s chosen drive r (heard_at s chosen drive r fs)
unfolding heard_at
all_heard R s chosen drive r [] there = Nobody
all_heard R s chosen drive r (f ∷ fs) there =
    first_heard R s chosen drive r f (on_reply (at_file s chosen f) drive r) _ (there f (inl refl))
    (heard_reply R (at_file s chosen f) drive r) (all_heard R s chosen drive r fs (λ x i. there x (inr i)))

-- what it must tell truly
abbrev IsTrueAt : Reached → Server → (drive : ℕ) → Reply → Type 0
IsTrueAt R s drive r = (f : File) → In f s.files → IsTruth R f drive r

heard_both : (R : Reached) (s : Server) (chosen : List ℕ) (drive : ℕ) (r : Reply) (o : Option Going)
    → HeardAt R s chosen drive r o → Both R (IsTrueAt R s drive r) s (by_heard s o)
heard_both R s chosen drive r o Nobody = both_still R _ s
heard_both R s chosen drive r o (Somebody f h i goes fences) =
    let is = at_put s chosen h.file.kept.number f h i (sym goes.number_is) in
    record {
      numbers = numbers_at s f h (step_at s h.file.kept.number h) is f.kept.number f.kept.tag goes;
      owns = owns_at s f h (step_at s h.file.kept.number h) is f.kept.number f.kept.tag goes;
      fences = λ were g. fences_at s f h (step_at s h.file.kept.number h) is R were (fences (were f i) (g f i));
    }

replied : (R : Reached) (s : Server) (chosen : List ℕ) (drive : ℕ) (r : Reply)
    → Both R (IsTrueAt R s drive r) s (on_drive_reply s chosen drive r)
unfolding on_drive_reply
replied R s chosen drive r = heard_both R s chosen drive r _ (all_heard R s chosen drive r s.files (λ f i. i))

-- ---- orders

either_order : (R : Reached) (given : Type 0) (s : Server) (b : Bool) (x y : Ordered) → Both R given s x.step
    → Both R given s y.step → Both R given s (if b then x else y).step
either_order R given s true x y p q = p
either_order R given s false x y p q = q

begun : (R : Reached) (given : Type 0) (s : Server) (chosen : List ℕ) (kind : JobKind) (f : File) (j : Option Job)
    → In f s.files → Both R given s (begins_job s chosen kind f j).step
begun R given s chosen kind f (Some j) i =
    both_at R given s chosen f.kept.number f _ i refl (handled_noted R (at_file s chosen f) (Busy _) refl)
begun R given s chosen kind f None i =
    either_order R given s (f.kept.tag == GREATEST_TAG) _ _
    (both_at R given s chosen f.kept.number f _ i refl (handled_noted R (at_file s chosen f) Spent refl))
    (both_at R given s chosen f.kept.number f _ i refl (handled_fence R kind s.format (at_file s chosen f)))

started : (R : Reached) (given : Type 0) (s : Server) (chosen : List ℕ) (kind : JobKind) (n : ℕ) (o : Option File)
    → file_at s.files n ≡ o → Both R given s (starts s chosen kind o).step
started R given s chosen kind n None e = both_still R given s
started R given s chosen kind n (Some f) e = begun R given s chosen kind f f.job (found_file s.files n f e).0

recalled : (R : Reached) (given : Type 0) (s : Server) (o : Option File) → Both R given s (recalls_on s o).step
recalled R given s None = both_still R given s
recalled R given s (Some f) = both_idle R given s _ (record {
  files = λ x i. inl i;
  nonce = refl;
  notes = refl;
  sends = no_recall s.next_recall f.kept.grants;
})

declared : (R : Reached) (given : Type 0) (s : Server) (chosen : List ℕ) (n : ℕ) (b : Bool)
    → Both R given s (declares_known s chosen n b).step
unfolding declare
declared R given s chosen n false = both_still R given s
declared R given s chosen n true =
    let d = handled_each R n (offline s.drives n) s.files _ chosen in
    record {
      numbers = numbers_round s (with_offline s n) _ refl d.goes;
      owns = owns_round s (with_offline s n) _ d.goes;
      fences = λ were g. fences_round R (with_offline s n) _ (d.fences were);
    }

obeyed : (R : Reached) (given : Type 0) (s : Server) (chosen : List ℕ) (kind : OrderKind) (n : ℕ)
    → Both R given s (ordered s chosen kind n).step
unfolding ordered
obeyed R given s chosen ToRecall n = recalled R given s (file_at s.files n)
obeyed R given s chosen ToRevoke n = started R given s chosen Revoking n (file_at s.files n) refl
obeyed R given s chosen ToDeclare n = declared R given s chosen n _
obeyed R given s chosen ToRebuild n = started R given s chosen Rebuilding n (file_at s.files n) refl
obeyed R given s chosen ToAudit n = started R given s chosen Auditing n (file_at s.files n) refl

-- with the order's answer behind
answered : (R : Reached) (given : Type 0) (s : Server) (kind : OrderKind) (o : Ordered) → Both R given s o.step
    → Both R given s (with_result kind o)
answered R given s kind o b = record {
  numbers = record {
    fresh = b.numbers.fresh;
    numbered = b.numbers.numbered;
    rises = b.numbers.rises;
    waits = b.numbers.waits;
    sends = λ drive c i. elim (in_either (ToDrive drive c) o.step.sends _ i) [
      | inl j ↦ b.numbers.sends drive c j
      | inr (inl e) ↦ absurd (cc e)
      | inr (inr none) ↦ absurd none
    ];
    goes_out = λ a i. in_front (to_drive o.step.state.drives a) o.step.sends _ (b.numbers.goes_out a i);
  };
  owns = record {
    waits = b.owns.waits;
    sends = λ were drive c i. elim (in_either (ToDrive drive c) o.step.sends _ i) [
      | inl j ↦ b.owns.sends were drive c j
      | inr (inl e) ↦ absurd (cc e)
      | inr (inr none) ↦ absurd none
    ];
  };
  fences = λ were g. let h = b.fences were g in record { fencing = h.fencing; fenced = h.fenced };
}

-- ---- a message

-- what is needed of a reply
weaken : (R : Reached) (given more : Type 0) (s : Server) (t : Step) → (more → given) → Both R given s t
    → Both R more s t
weaken R given more s t by b = record { numbers = b.numbers; owns = b.owns; fences = λ were g. b.fences were (by g) }

heard_message : (R : Reached) (s : Server) (now : ℕ) (chosen : List ℕ) (from : Node) (m : Message)
    → counters_have_room s ≡ true
    → Both R (IsHeardTruly R s (Hears now from m)) s (handled s now chosen from m)
heard_message R s now chosen (FromClient c) (Asks q) low =
    either_step R _ s ((q.client == c) && nat_le c MAX_CLIENT) _ _ (asked R _ s now chosen q) (both_still R _ s)
heard_message R s now chosen (FromDrive d) (Replies r) low =
    weaken R (IsTrueAt R s d r) _ s _ (λ (t : IsHeardTruly R s (Hears now (FromDrive d) (Replies r))) f i. record {
      alone = λ x y j k e. t.alone x y (f, i, j) (f, i, k) e;
      tells = t.tells now d r refl low f i;
    }) (replied R s chosen d r)
heard_message R s now chosen FromServer (Orders o) low =
    answered R _ s o.order _ (obeyed R _ s chosen o.order o.target)
heard_message R s now chosen from m low = both_still R _ s

message_both : (R : Reached) (s : Server) (now : ℕ) (chosen : List ℕ) (from : Node) (m : Message)
    → Both R (IsHeardTruly R s (Hears now from m)) s (on_message s now chosen from m)
unfolding on_message
message_both R s now chosen from m = by_room (counters_have_room s) refl
  where
    by_room : (b : Bool) → counters_have_room s ≡ b
        → Both R (IsHeardTruly R s (Hears now from m)) s (if b then handled s now chosen from m else still s)
    by_room true low = heard_message R s now chosen from m low
    by_room false high = both_still R _ s

-- ---- making, resending, crashing, opening

made : (R : Reached) (given : Type 0) (s : Server) (f : File) (r : Option Refusal) → f.job ≡ None
    → Both R given s (unless_made s (unless_refused r (makes_file s f)))
made R given s f (Some why) none = both_still R given s
made R given s f None none =
    let d = handled_making R (at_file (with_file s f) [] f) in
    record {
      numbers = numbers_at s f h (makes_file s f) is f.kept.number f.kept.tag d.goes;
      owns = owns_at s f h (makes_file s f) is f.kept.number f.kept.tag d.goes;
      fences = λ were g. fences_at s f h (makes_file s f) is R were
          (d.fences (λ e. absurd (cc (sym e ∙ ap is_fencing none))));
    }
  where
    h : Going
    h = making (at_file (with_file s f) [] f)

    is : IsStepAt s f h (makes_file s f)
    is = record {
      files = λ x i. elim (in_put (add_file s.files f) f.kept.number h.file x i) [
        | inl same ↦ inl same
        | inr j ↦ elim (in_add s.files f x j) [
          | inl own ↦ inr (inr (ap (λ (y : File). y.job) own ∙ none))
          | inr k ↦ inr (inl k)
        ]
      ];
      there = put_there (add_file s.files f) f.kept.number h.file f (add_there s.files f) refl;
      awaits = λ a i. absurd (no_job_awaits f.job a none i);
      nonce = refl;
      notes = refl;
      sends = λ drive c i. i;
      out = λ a i. in_map (to_drive s.drives) a h.effects.sent i;
    }

created : (R : Reached) (given : Type 0) (s : Server) (n : ℕ) (m : RawMap) (tag : ℕ) (zoned : Bool) (chosen : List ℕ)
    → Both R given s (unless_made s (create_file s n m tag zoned chosen))
unfolding create_file
created R given s n m tag zoned chosen =
    made R given s (unmade s n m tag zoned (drives_for zoned s.drives m chosen)) (refusal s n m zoned) refl

in_flat : (ds : List Drive) (fs : List File) (drive : ℕ) (c : Command)
    → In (ToDrive drive c) (flat_map (λ (f : File). to_drives ds (awaited_by f.job)) fs)
    → (a : Awaited) × IsOf drive c a × Awaits fs a
in_flat ds [] drive c i = absurd i
in_flat ds (f ∷ fs) drive c i = elim (in_either (ToDrive drive c) (to_drives ds (awaited_by f.job)) _ i) [
  | inl j ↦ let r = in_drives ds (awaited_by f.job) drive c j in (r.0, r.1, (f, inl refl, r.2))
  | inr j ↦ let r = in_flat ds fs drive c j in (r.0, r.1, (r.2.0, inr r.2.1, r.2.2))
]

resent : (R : Reached) (given : Type 0) (s : Server) → Both R given s (record (still s) { sends = resend s })
resent R given s = record {
  numbers = record {
    fresh = [];
    numbered = tt;
    rises = omega arith;
    waits = λ a w. inl w;
    sends = λ drive c i. let r = in_flat s.drives s.files drive c i in (r.0, r.1, inl r.2);
    goes_out = λ a i. absurd i;
  };
  owns = record {
    waits = λ were. were;
    sends = λ were drive c i.
        let r = in_flat s.drives s.files drive c i in sent_owned drive c r.0 r.1 (were r.0 r.2);
  };
  fences = λ were g. record { fencing = were; fenced = λ n tag i e. absurd i };
}

in_crashed : (fs : List File) (f : File) → In f (map crashed_file fs) → f.job ≡ None
in_crashed fs f i = let r = in_mapped crashed_file f fs i in ap (λ (x : File). x.job) r.2

opened : (R : Reached) (given : Type 0) (s : Server) → Both R given s (reopen s)
unfolding reopen
opened R given s =
    let d = opened_each R s.format s.drives s.files _ in
    either_step R given s (counters_have_room s) _ _ (record {
      numbers = numbers_round s s _ refl d.goes;
      owns = owns_round s s _ d.goes;
      fences = λ were g. fences_round R s _ (d.fences were);
    }) (both_still R given s)

-- ---- any step

both_step : (R : Reached) (s : Server) (chosen : List ℕ) (i : Input) → Both R (IsHeardTruly R s i) s (step s chosen i)
both_step R s chosen (Hears now from m) = message_both R s now chosen from m
both_step R s chosen (Makes n m tag zoned) = created R _ s n m tag zoned chosen
both_step R s chosen (Obeys kind n) = obeyed R _ s chosen kind n
both_step R s chosen (Adds d) =
    both_idle R _ s _ (record { files = λ f i. inl i; nonce = refl; notes = refl; sends = λ drive c i. i })
both_step R s chosen (Zones d zone) =
    both_idle R _ s _ (record { files = λ f i. inl i; nonce = refl; notes = refl; sends = λ drive c i. i })
both_step R s chosen (Formats n) =
    both_idle R _ s _ (record { files = λ f i. inl i; nonce = refl; notes = refl; sends = λ drive c i. i })
both_step R s chosen Resends = resent R _ s
both_step R s chosen Crashes =
    both_idle R _ s _ (record {
      files = λ f i. inr (in_crashed s.files f i);
      nonce = refl;
      notes = refl;
      sends = λ drive c i. i;
    })
both_step R s chosen Opens = opened R _ s

pub step_numbers : EachStepNumbers
step_numbers s chosen i = (both_step (λ drive object tag. true) s chosen i).numbers

pub step_owns : EachStepOwns
step_owns s chosen i = (both_step (λ drive object tag. true) s chosen i).owns

pub fences_wait : FencesWait
fences_wait R s chosen i were heard = (both_step R s chosen i).fences were heard

-- ---- a run

pub run_numbers : EachRunNumbers
run_numbers s [] = record {
  fresh = [];
  numbered = tt;
  rises = omega arith;
  waits = λ a w. inl w;
}
run_numbers s (a ∷ acts) =
    let t = step s a.chosen a.input in
    let one = step_numbers s a.chosen a.input in
    let rest = run_numbers t.state acts in
    record {
      fresh = one.fresh ++ rest.fresh;
      numbered =
          numbered_more s.next_nonce one.fresh rest.fresh one.numbered
          (numbered_at t.state.next_nonce (s.next_nonce + length one.fresh) rest.fresh one.rises rest.numbered);
      rises = omega (arith, rest.rises, one.rises, length-append one.fresh rest.fresh);
      waits = λ x w. elim (rest.waits x w) [
        | inl before ↦ elim (one.waits x before) [
          | inl old ↦ inl old
          | inr new ↦ inr (in_front x one.fresh rest.fresh new)
        ]
        | inr new ↦ inr (in_behind x one.fresh rest.fresh new)
      ];
    }
