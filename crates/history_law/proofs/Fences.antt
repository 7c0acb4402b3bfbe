-- What each part of a job leaves: which commands it sends anew, and what a fence still waits for.
use Rattle.std.proofs.Common.{◌≡◌, ◌⊎◌, ◌&&◌, ℕ, ◌+◌, Bool, true, false, not, List, [], ◌∷◌, ◌++◌, length, refl, sym, ap, subst, ◌∙◌, arith, inl, inr, if◌then◌else◌}
use Rattle.std.proofs.lemmas.List.{append-nil}
use Rattle.history_law.specs.Names.{Kept, File, Component, Awaited, Job, JobKind, Work, Heard, Note, Repairing, Creates, Fences, Fetches, Stores, Targets, Gathers, Fills, Lengths, Checks, Ready, Fenced}
use Rattle.server_rules.specs.Commands.{Raising, All, is_meant, to_each, to_all}
use Rattle.server_rules.specs.Going.{Going, keeping, noting, rests_or}
use Rattle.server_rules.specs.Messages.{awaited_by}
use Rattle.server_rules.specs.Jobs.{is_made, making, ending, fenced, fence_begins, goes_on, waits_or_on, refills, remakes, loses}
use Rattle.history_law.specs.Names.{Target, Piece}
use Rattle.server_rules.specs.Laws.{In}
use Rattle.server_rules.proofs.Members.{in_either}
use Rattle.history_law.specs.Numbered.{Numbered}
use Rattle.history_law.specs.Fencing.{Reached, is_fences, is_fencing, Raises, IsAsked, IsFencing, AllRaised}
use Rattle.history_law.proofs.Owned.{AllOwned, none_owned, each_owned}
use Rattle.history_law.proofs.Quiet.{each_numbered, is_fenced, Quiet, From, noted, quiet_over, quiet_rests_or, IsMended, IsPlaced, quiet_repair, quiet_repairs, quiet_fetched, quiet_written, quiet_fills, quiet_gathered, quiet_filled, quiet_gone, quiet_audits, quiet_audits_all, quiet_audited}

-- ---- what is left

-- It sends some commands anew, numbered from the next nonce on, under the server's holder if what it awaited was so;
-- what it awaits was awaited or is new. Its tag is as it was, or the next one.
pub record Goes (number tag nonce : ℕ) (sent old : List Awaited) (g : Going) : Type 0 where
  pub number_is : g.file.kept.number ≡ number
  pub tag_is : (g.file.kept.tag ≡ tag) ⊎ (g.file.kept.tag ≡ tag + 1)
  pub fresh : List Awaited
  pub sent_is : g.effects.sent ≡ sent ++ fresh
  pub rises : g.effects.nonce ≡ nonce + length fresh
  pub numbered : Numbered nonce fresh
  pub owned : AllOwned old → AllOwned fresh
  pub waits : (a : Awaited) → In a (awaited_by g.file.job) → In a old ⊎ In a fresh

abbrev pub GoesFrom : Going → Going → Type 0
GoesFrom g h = Goes g.file.kept.number g.file.kept.tag g.effects.nonce g.effects.sent (awaited_by g.file.job) h

-- the note is of this file, which has that tag, and each component that isn't missing reached it
abbrev pub Ended : Reached → Note → (tag : ℕ) → File → Type 0
Ended R x tag f = (x.file ≡ f.kept.number) × (f.kept.tag ≡ tag) × AllRaised R f tag

-- a fence still waits for what isn't raised, and further notes say that one is over only where all are
pub record Fencing (R : Reached) (notes : List Note) (g : Going) : Type 0 where
  pub fencing : is_fencing g.file.job ≡ true → IsFencing R g.file
  pub ended : (x : Note) (tag : ℕ) → In x g.effects.notes → x.kind ≡ Fenced tag → In x notes ⊎ Ended R x tag g.file

-- both, the second where it was so before
abbrev pub WasFencing : Reached → File → Type 0
WasFencing R f = is_fencing f.job ≡ true → IsFencing R f

pub record Handled (R : Reached) (g h : Going) : Type 0 where
  pub goes : GoesFrom g h
  pub fences : WasFencing R g.file → Fencing R g.effects.notes h

-- ---- from a run that ends no fence

-- a file of this number and tag
abbrev pub IsFile : (number tag : ℕ) → Kept → Type 0
IsFile n t k = (k.number ≡ n) × (k.tag ≡ t)

-- as it is here
abbrev pub IsAsHere : Going → Kept → Type 0
IsAsHere g = IsFile g.file.kept.number g.file.kept.tag

pub file_mended : (n t : ℕ) → IsMended (IsFile n t)
file_mended n t = record { mends = λ k is. is }

pub file_placed : (n t : ℕ) → IsPlaced (IsFile n t)
file_placed n t = record { places = λ k cs is. is }

pub quiet_goes : (n t nonce : ℕ) (sent old : List Awaited) (notes : List Note) (g : Going)
    → Quiet (IsFile n t) nonce sent notes g
    → Goes n t nonce sent old g
quiet_goes n t nonce sent old notes g q = record {
  number_is = q.kept.0;
  tag_is = inl q.kept.1;
  fresh = awaited_by g.file.job;
  sent_is = q.sent_is;
  rises = q.rises;
  numbered = q.numbered;
  owned = λ was. q.owned;
  waits = λ a i. inr i;
}

pub fenced_kind : (x : Note) (tag : ℕ) → x.kind ≡ Fenced tag → is_fenced x.kind ≡ true
fenced_kind x tag e = ap is_fenced e

pub quiet_fencing : (R : Reached) (K : Kept → Type 0) (nonce : ℕ) (sent : List Awaited) (notes : List Note) (g : Going)
    → Quiet K nonce sent notes g → Fencing R notes g
quiet_fencing R K nonce sent notes g q = record {
  fencing = λ e. absurd (cc (sym e ∙ q.waits));
  ended = λ x tag i e. inl (q.ends x i (fenced_kind x tag e));
}

pub quiet_handled : (R : Reached) (g h : Going) → From (IsAsHere g) g h → Handled R g h
quiet_handled R g h q = record {
  goes =
      quiet_goes g.file.kept.number g.file.kept.tag g.effects.nonce g.effects.sent (awaited_by g.file.job) g.effects.notes h
      q;
  fences = λ was. quiet_fencing R _ g.effects.nonce g.effects.sent g.effects.notes h q;
}

-- ---- nothing new

pub goes_here : (g : Going) → GoesFrom g g
goes_here g = record {
  number_is = refl;
  tag_is = inl refl;
  fresh = [];
  sent_is = sym (append-nil g.effects.sent);
  rises = omega arith;
  numbered = tt;
  owned = λ was. none_owned;
  waits = λ a i. inl i;
}

pub fencing_here : (R : Reached) (g : Going) → WasFencing R g.file → Fencing R g.effects.notes g
fencing_here R g was = record { fencing = was; ended = λ x tag i e. inl i }

pub handled_here : (R : Reached) (g : Going) → Handled R g g
handled_here R g = record { goes = goes_here g; fences = fencing_here R g }

-- ---- the end of a fence

-- the components, the tag and the number stay
pub record IsAt (cs : List Component) (t n : ℕ) (k : Kept) : Type 0 where
  pub components : k.components ≡ cs
  pub tag : k.tag ≡ t
  pub number : k.number ≡ n

at_mended : (cs : List Component) (tag number : ℕ) → IsMended (IsAt cs tag number)
at_mended cs tag number = record {
  mends = λ k is. record { components = is.components; tag = is.tag; number = is.number };
}

-- the file with its new tag, and the note
abbrev raised : Going → Going
raised g =
    noting (keeping g (record g.file.kept { tag = g.file.kept.tag + 1; phase = Repairing }))
    (Fenced (g.file.kept.tag + 1))

quiet_raised : (kind : JobKind) (g : Going)
    → From (IsAt g.file.kept.components (g.file.kept.tag + 1) g.file.kept.number) (raised g) (fenced kind g)
unfolding fenced
quiet_raised kind g =
    quiet_repair _ (at_mended _ _ _) kind (raised g) (record { components = refl; tag = refl; number = refl })

pub goes_fenced : (kind : JobKind) (g : Going) (old : List Awaited)
    → Goes g.file.kept.number g.file.kept.tag g.effects.nonce g.effects.sent old (fenced kind g)
goes_fenced kind g old =
    let q = quiet_raised kind g in
    record {
      number_is = q.kept.number;
      tag_is = inr q.kept.tag;
      fresh = awaited_by (fenced kind g).file.job;
      sent_is = q.sent_is;
      rises = q.rises;
      numbered = q.numbered;
      owned = λ was. q.owned;
      waits = λ a i. inr i;
    }

pub ends_fenced : (R : Reached) (kind : JobKind) (g : Going) → AllRaised R g.file (g.file.kept.tag + 1)
    → Fencing R g.effects.notes (fenced kind g)
ends_fenced R kind g all =
    let q = quiet_raised kind g in
    let here : AllRaised R (fenced kind g).file (g.file.kept.tag + 1) =
    λ at i there. all at (subst (In at) q.kept.components i) there in
    record {
      fencing = λ e. absurd (cc (sym e ∙ q.waits));
      ended = λ x tag i e. elim (in_either x g.effects.notes _ (q.ends x i (fenced_kind x tag e))) [
        | inl there ↦ inl there
        | inr (inl same) ↦ inr (own x tag same e here)
        | inr (inr nothing) ↦ absurd nothing
      ];
    }
  where
    same_tag : (s t : ℕ) → Fenced s ≡ Fenced t → s ≡ t
    same_tag s t e = cc e

    own : (x : Note) (tag : ℕ) → x ≡ record { file = g.file.kept.number; kind = Fenced (g.file.kept.tag + 1) }
        → x.kind ≡ Fenced tag → AllRaised R (fenced kind g).file (g.file.kept.tag + 1)
        → Ended R x tag (fenced kind g).file
    own x tag same e here =
        let is : g.file.kept.tag + 1 ≡ tag = same_tag _ tag (sym (ap (λ (y : Note). y.kind) same) ∙ e) in (
          ap (λ (y : Note). y.file) same ∙ sym (quiet_raised kind g).kept.number,
          (quiet_raised kind g).kept.tag ∙ is,
          subst (AllRaised R (fenced kind g).file) is here,
        )

-- ---- its beginning

raises_or : (b : Bool) (tag : ℕ) (x : Awaited) (ws bs : List Awaited) → Raises tag x
    → ((a : Awaited) → In a ws → Raises tag a) → ((a : Awaited) → In a bs → Raises tag a)
    → (a : Awaited) → In a (if b then x ∷ ws else bs) → Raises tag a
raises_or true tag x ws bs own more less a (inl e) = subst (Raises tag) (sym e) own
raises_or true tag x ws bs own more less a (inr i) = more a i
raises_or false tag x ws bs own more less a i = less a i

raises_each : (f : Kept) (cs : List Component) (k nonce : ℕ) (a : Awaited) → In a (to_each f All Raising cs k nonce)
    → Raises f.tag a
unfolding to_each is_meant
raises_each f [] k nonce a i = absurd i
raises_each f (at ∷ cs) k nonce a i =
    raises_or (not at.missing && true) f.tag _ _ _ (record { action = refl; tagged = refl; holder = refl })
    (raises_each f cs (k + 1) (nonce + 1)) (raises_each f cs (k + 1) nonce) a i

pub first_asked : (b : Bool) (x : Awaited) (ws bs : List Awaited) (at : Component) → b ≡ true → x.drive ≡ at.drive
    → x.command.object ≡ at.object → IsAsked (if b then x ∷ ws else bs) at
first_asked true x ws bs at e drive object = (x, inl refl, drive, object)
first_asked false x ws bs at e drive object = absurd (cc e)

pub later_asked : (b : Bool) (x : Awaited) (ws bs : List Awaited) (at : Component) → IsAsked ws at → IsAsked bs at
    → IsAsked (if b then x ∷ ws else bs) at
later_asked true x ws bs at (a, i, drive, object) less = (a, inr i, drive, object)
later_asked false x ws bs at more less = less

asked_each : (f : Kept) (cs : List Component) (k nonce : ℕ) (at : Component) → In at cs → at.missing ≡ false
    → IsAsked (to_each f All Raising cs k nonce) at
unfolding to_each is_meant
asked_each f [] k nonce at i there = absurd i
asked_each f (x ∷ cs) k nonce at (inl same) there =
    first_asked (not x.missing && true) _ _ _ at
    (ap (λ (b : Bool). not b && true) (ap (λ (y : Component). y.missing) (sym same) ∙ there))
    (ap (λ (y : Component). y.drive) (sym same)) (ap (λ (y : Component). y.object) (sym same))
asked_each f (x ∷ cs) k nonce at (inr i) there =
    later_asked (not x.missing && true) _ _ _ at (asked_each f cs (k + 1) (nonce + 1) at i there)
    (asked_each f cs (k + 1) nonce at i there)

-- where all are asked, or none is there to be asked
fencing_or : (R : Reached) (ws : List Awaited) (kind : JobKind) (g : Going)
    → ((a : Awaited) → In a ws → Raises g.file.kept.tag a)
    → ((at : Component) → In at g.file.kept.components → at.missing ≡ false → IsAsked ws at)
    → Fencing R g.effects.notes (rests_or ws g kind Fences (fenced kind g))
fencing_or R [] kind g raises asked =
    ends_fenced R kind g (λ at i there. absurd (asked at i there).1)
fencing_or R (c ∷ cs) kind g raises asked = record {
  fencing = λ e. record { raises = raises; each = λ at i there. inl (asked at i there) };
  ended = λ x tag i e. inl i;
}

goes_or : (ws : List Awaited) (kind : JobKind) (g : Going) (old : List Awaited) → Numbered g.effects.nonce ws
    → AllOwned ws
    → Goes g.file.kept.number g.file.kept.tag g.effects.nonce g.effects.sent old
    (rests_or ws g kind Fences (fenced kind g))
goes_or [] kind g old n o = goes_fenced kind g old
goes_or (c ∷ cs) kind g old n o = record {
  number_is = refl;
  tag_is = inl refl;
  fresh = c ∷ cs;
  sent_is = refl;
  rises = refl;
  numbered = n;
  owned = λ was. o;
  waits = λ a i. inr i;
}

pub handled_fence : (R : Reached) (kind : JobKind) (format : ℕ) (g : Going) → Handled R g (fence_begins kind format g)
unfolding fence_begins
handled_fence R kind format g =
    let h : Going = keeping g (ending g.file.kept format) in
    let k : Kept = ending g.file.kept format in
    record {
      goes = goes_or (to_all k All Raising g.effects.nonce) kind h (awaited_by g.file.job)
          (each_numbered k All Raising k.components 0 g.effects.nonce)
          (each_owned k All Raising k.components 0 g.effects.nonce);
      fences = λ was. fencing_or R (to_all k All Raising g.effects.nonce) kind h
          (raises_each k k.components 0 g.effects.nonce)
          (asked_each k k.components 0 g.effects.nonce);
    }

-- ---- a file that is made

pub quiet_is_made : (g : Going) → From (IsAsHere g) g (is_made g)
quiet_is_made g =
    noted (IsAsHere g) (keeping g (record g.file.kept { ready = true })) (is_made g) Ready refl
    (quiet_over (IsAsHere g) (noting (keeping g (record g.file.kept { ready = true })) Ready) (refl, refl))

pub handled_making : (R : Reached) (g : Going) → Handled R g (making g)
unfolding making
handled_making R g =
    quiet_handled R g _
    (quiet_rests_or (IsAsHere g) _ g _ _ _ (refl, refl)
    (each_numbered g.file.kept _ _ g.file.kept.components 0 g.effects.nonce)
    (each_owned g.file.kept _ _ g.file.kept.components 0 g.effects.nonce) refl
    (quiet_is_made g))

-- ---- the job goes on

-- the next part of a job that isn't a fence
quiet_on : (kind : JobKind) (work : Work) (heard : List Heard) (g : Going) → is_fences work ≡ false
    → From (IsAsHere g) g (goes_on kind work heard g)
unfolding goes_on
quiet_on kind Creates heard g e = quiet_is_made g
quiet_on kind Fences heard g e = absurd (cc e)
quiet_on kind (Fetches ps short) heard g e = quiet_fetched _ (file_mended _ _) kind g ps short heard (refl, refl)
quiet_on kind (Stores ps short broken) heard g e = quiet_written _ (file_mended _ _) kind g ps short broken (refl, refl)
quiet_on kind (Targets t) heard g e = quiet_fills _ (file_placed _ _) g t _ (refl, refl)
quiet_on kind (Gathers t ps) heard g e = quiet_gathered _ (file_placed _ _) g t ps heard (refl, refl)
quiet_on kind (Fills t ps) heard g e = quiet_filled _ (file_placed _ _) g t ps (refl, refl)
quiet_on kind Lengths heard g e = quiet_audits_all _ g heard (refl, refl)
quiet_on kind (Checks ps t) heard g e = quiet_audited _ g ps t heard (refl, refl)

-- it waits for what is left, or goes on
pub goes_waits : (g : Going) (j : Job) (work : Work) (rest : List Awaited) (heard : List Heard) (old : List Awaited)
    → ((a : Awaited) → In a rest → In a old)
    → Goes g.file.kept.number g.file.kept.tag g.effects.nonce g.effects.sent old (waits_or_on g j work rest heard)
unfolding goes_on
goes_waits g j Fences [] heard old left = goes_fenced j.kind g old
goes_waits g j work [] heard old left =
    quiet_goes g.file.kept.number g.file.kept.tag g.effects.nonce g.effects.sent old g.effects.notes _
    (quiet_on j.kind work heard g refl)
goes_waits g j work (c ∷ cs) heard old left = record {
  number_is = refl;
  tag_is = inl refl;
  fresh = [];
  sent_is = sym (append-nil g.effects.sent);
  rises = omega arith;
  numbered = tt;
  owned = λ was. none_owned;
  waits = λ a i. inl (left a i);
}

-- a fence goes on where what is left is awaited of each component that isn't missing
pub fencing_waits : (R : Reached) (g : Going) (j : Job) (rest : List Awaited) (heard : List Heard)
    → ((a : Awaited) → In a rest → Raises g.file.kept.tag a)
    → ((at : Component) → In at g.file.kept.components → at.missing ≡ false →
    IsAsked rest at ⊎ (R at.drive at.object (g.file.kept.tag + 1) ≡ true))
    → Fencing R g.effects.notes (waits_or_on g j Fences rest heard)
unfolding goes_on
fencing_waits R g j [] heard raises each =
    ends_fenced R j.kind g (λ at i there. elim (each at i there) [
      | inl (a, none, drive, object) ↦ absurd none
      | inr r
          ↦ r
    ])
fencing_waits R g j (c ∷ cs) heard raises each = record {
  fencing = λ e. record { raises = raises; each = each };
  ended = λ x tag i e. inl i;
}

-- any other job ends no fence, and begins none
pub other_waits : (R : Reached) (g : Going) (j : Job) (work : Work) (rest : List Awaited) (heard : List Heard)
    → is_fences work ≡ false → Fencing R g.effects.notes (waits_or_on g j work rest heard)
other_waits R g j work [] heard e =
    quiet_fencing R _ g.effects.nonce g.effects.sent g.effects.notes _ (quiet_on j.kind work heard g e)
other_waits R g j work (c ∷ cs) heard e = record {
  fencing = λ t. absurd (cc (sym t ∙ e));
  ended = λ x tag i t. inl i;
}

-- ---- a component becomes missing

quiet_refills : (K : Kept → Type 0) → IsPlaced K → (g : Going) (t : Target) (ps : List Piece) (gone : Bool)
    → K g.file.kept
    → From K g (refills g t ps gone)
quiet_refills K c g t ps true k = quiet_gone K g t k
quiet_refills K c g t ps false k = quiet_fills K c g t ps k

goes_remakes : (g : Going) (t : Target) (gone : Bool) (old : List Awaited)
    → ((a : Awaited) → In a (awaited_by g.file.job) → In a old)
    → Goes g.file.kept.number g.file.kept.tag g.effects.nonce g.effects.sent old (remakes g t gone)
goes_remakes g t true old left =
    quiet_goes g.file.kept.number g.file.kept.tag g.effects.nonce g.effects.sent old g.effects.notes _
    (quiet_gone (IsAsHere g) g t (refl, refl))
goes_remakes g t false old left =
    record {
      number_is = refl;
      tag_is = inl refl;
      fresh = [];
      sent_is = sym (append-nil g.effects.sent);
      rises = omega arith;
      numbered = tt;
      owned = λ was. none_owned;
      waits = λ a i. inl (left a i);
    }

other_remakes : (R : Reached) (g : Going) (t : Target) (gone : Bool) → is_fencing g.file.job ≡ false
    → Fencing R g.effects.notes (remakes g t gone)
other_remakes R g t true none =
    quiet_fencing R _ g.effects.nonce g.effects.sent g.effects.notes _ (quiet_gone (IsAsHere g) g t (refl, refl))
other_remakes R g t false none = fencing_here R g (λ e. absurd (cc (sym e ∙ none)))

-- what is awaited then was among these, as long as the rest is, and all is where a target waits as before
pub goes_left : (g : Going) (j : Job) (work : Work) (rest : List Awaited) (gone : Bool) (old : List Awaited)
    → ((a : Awaited) → In a rest → In a old)
    → ((t : Target) → work ≡ Targets t → (a : Awaited) → In a (awaited_by g.file.job) → In a old)
    → Goes g.file.kept.number g.file.kept.tag g.effects.nonce g.effects.sent old (loses g j work rest gone)
unfolding loses
goes_left g j (Fetches ps short) rest gone old left all =
    quiet_goes _ _ _ _ _ _ _ (quiet_repairs (IsAsHere g) (file_mended _ _) j.kind g ps short (refl, refl))
goes_left g j (Stores ps short broken) rest gone old left all = goes_waits g j _ rest _ old left
goes_left g j (Targets t) rest gone old left all = goes_remakes g t gone old (all t refl)
goes_left g j (Gathers t ps) rest gone old left all =
    quiet_goes _ _ _ _ _ _ _ (quiet_refills (IsAsHere g) (file_placed _ _) g t ps gone (refl, refl))
goes_left g j (Fills t ps) rest gone old left all =
    quiet_goes _ _ _ _ _ _ _ (quiet_refills (IsAsHere g) (file_placed _ _) g t ps gone (refl, refl))
goes_left g j (Checks ps t) rest gone old left all =
    quiet_goes _ _ _ _ _ _ _ (quiet_audits (IsAsHere g) g ps t (refl, refl))
goes_left g j work rest gone old left all = goes_waits g j work rest j.heard old left

pub goes_loses : (g : Going) (j : Job) (work : Work) (rest : List Awaited) (gone : Bool)
    → ((a : Awaited) → In a rest → In a (awaited_by g.file.job)) → GoesFrom g (loses g j work rest gone)
goes_loses g j work rest gone left = goes_left g j work rest gone (awaited_by g.file.job) left (λ t e a i. i)

pub other_loses : (R : Reached) (g : Going) (j : Job) (work : Work) (rest : List Awaited) (gone : Bool)
    → is_fences work ≡ false → is_fencing g.file.job ≡ false → Fencing R g.effects.notes (loses g j work rest gone)
unfolding loses
other_loses R g j Fences rest gone e none = absurd (cc e)
other_loses R g j (Fetches ps short) rest gone e none =
    quiet_fencing R _ _ _ _ _ (quiet_repairs (IsAsHere g) (file_mended _ _) j.kind g ps short (refl, refl))
other_loses R g j (Stores ps short broken) rest gone e none = other_waits R g j _ rest _ refl
other_loses R g j (Targets t) rest gone e none = other_remakes R g t gone none
other_loses R g j (Gathers t ps) rest gone e none =
    quiet_fencing R _ _ _ _ _ (quiet_refills (IsAsHere g) (file_placed _ _) g t ps gone (refl, refl))
other_loses R g j (Fills t ps) rest gone e none =
    quiet_fencing R _ _ _ _ _ (quiet_refills (IsAsHere g) (file_placed _ _) g t ps gone (refl, refl))
other_loses R g j (Checks ps t) rest gone e none =
    quiet_fencing R _ _ _ _ _ (quiet_audits (IsAsHere g) g ps t (refl, refl))
other_loses R g j work rest gone e none = other_waits R g j work rest j.heard e
