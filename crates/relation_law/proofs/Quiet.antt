-- While no grant of the file's tag was issued, each client's WRITE is spent.
-- Towards `JobsGoOn` (`relation_law`).
use Rattle.std.proofs.Common.{◌≡◌, ◌⊎◌, ℕ, zero, suc, ◌+◌, length, ◌<◌, ◌≤◌, true, false, List, [], ◌∷◌, slice_get, Option, Some, None, refl, sym, ap, subst, ◌∙◌, inl, inr, arith}
use Rattle.osd_commands.specs.declared.commands.Command.{Command}
use Rattle.osd_objects.specs.declared.object.StoredObject.{StoredObject}
use Rattle.osd_objects.specs.Store.{object_at}
use Rattle.world_history.specs.ServerNames.{File, Component, Job, Phase, Still, Fencing, Repairing, FencingAgain}
use Rattle.world_history.specs.Sending.{move}
use Rattle.world_history.specs.State.{World, DriveAt, at_number}
use Rattle.history_law.specs.Spent.{IsSpent, IsSpentOn}
use Rattle.fence_law.specs.Words.{In as InRun, updated}
use Rattle.fence_law.specs.State.{State, Event, Grant, Answer, Layout, Write as MachineWrite}
use Rattle.fence_law.specs.State.Event.{Grants, Refuses, Takes, GivesBack, Reports, Forgets, Leaves, TakesRefusal, Fenced, Refenced, Sends, Frees}
use Rattle.fence_law.specs.Law.{IsCode}
use Rattle.fence_law.specs.Machine.{Allowed, Lawful, after, after_all, new_file_state}
use Rattle.fence_law.proofs.Safe.{Safe, safe_all}
use Rattle.fence_law.proofs.Words.{updated_read}
use Rattle.file_simulation.specs.Components.{AreComponents, ObjectIs, IsUnmade, object_on}
use Rattle.file_simulation.specs.Events.{joined, events_of}
use Rattle.file_simulation.specs.Jobs.{AreQuiet, is_at_work, is_quiet}
use Rattle.file_simulation.specs.Messages.{AreSent, WasSent}
use Rattle.file_simulation.specs.Phases.{IsKept, PhaseIs}
use Rattle.relation_law.specs.Steps.{owed, whole_behind}
use Rattle.world_history.specs.History.{OneEventMore}
use Rattle.component_law.proofs.NamedLines.{are_named}
use Rattle.exchange_law.specs.Files.{AllFilesFit}
use Rattle.component_law.proofs.Moments.{server_sent_its_run}
use Rattle.plan_law.proofs.Codes.{layouts_are_codes}
use Rattle.relation_law.specs.DriveHearing.{IsLaidOut}
use Rattle.relation_law.proofs.ComponentsMachine.{right_run}
use Rattle.relation_law.proofs.ComponentsWorld.{laid_out}
use Rattle.relation_law.proofs.FramesFiles.{file_stays}
use Rattle.relation_law.specs.Quiet.{QuietFollows}
use Rattle.relation_law.proofs.Followed.{scenario}

-- ---- no tag is earlier than the first

-- of the machine's grants and WRITEs none has a tag below this
abbrev pub IsFrom : (first : ℕ) → State → Type 0
IsFrom first b = record {
  tag : first ≤ b.tag;
  held : (c : ℕ) (g : Grant) → b.held c ≡ Some g → first ≤ g.tag;
  answers : (x : Answer) (g : Grant) → InRun x b.answers → x.grant ≡ Some g → first ≤ g.tag;
  writes : (m : MachineWrite) → InRun m b.writes → first ≤ m.tag;
}

-- a client gives its grant up
from_left : (first : ℕ) (b : State) (c : ℕ) → IsFrom first b → (d : ℕ) (g : Grant) → updated b.held c None d ≡ Some g →
    first ≤ g.tag
from_left first b c h d g is = grind (arith, updated_read b.held c None d, h.held d g, is)

from_takes : (first : ℕ) (b : State) (c : ℕ) (o : Option Grant) (size : ℕ) → Allowed b (Takes c o size) →
    IsFrom first b → (d : ℕ) (g : Grant) → updated b.held c o d ≡ Some g → first ≤ g.tag
from_takes first b c o size a h d g is = elim (updated_read b.held c o d).1 [
  | inl new ↦ h.answers _ g a.comes (sym new.1 ∙ is)
  | inr old ↦ h.held d g (sym old.1 ∙ is)
]

from_on : (first : ℕ) (b : State) (e : Event) → Allowed b e → IsFrom first b → IsFrom first (after b e)
from_on first b (Grants c number rw_ range extending) a h = record {
  tag = h.tag;
  held = h.held;
  answers = λ x g i is. elim i [
    | inl new ↦ grind (arith, new, is, h.tag)
    | inr old ↦ h.answers x g old is
  ];
  writes = h.writes;
}
from_on first b (Refuses c kind) a h = record {
  tag = h.tag;
  held = h.held;
  answers = λ x g i is. elim i [
    | inl new ↦ absurd (cc (sym is ∙ ap (λ (y : Answer). y.grant) new))
    | inr old ↦ h.answers x g old is
  ];
  writes = h.writes;
}
from_on first b (Frees c) a h = record {
  tag = h.tag;
  held = h.held;
  answers = λ x g i is. elim i [
    | inl new ↦ absurd (cc (sym is ∙ ap (λ (y : Answer). y.grant) new))
    | inr old ↦ h.answers x g old is
  ];
  writes = h.writes;
}
from_on first b (Takes c o size) a h = record {
  tag = h.tag;
  held = from_takes first b c o size a h;
  answers = h.answers;
  writes = h.writes;
}
from_on first b (GivesBack c g) a h =
    record { tag = h.tag; held = from_left first b c h; answers = h.answers; writes = h.writes }
from_on first b (Reports c g) a h =
    record { tag = h.tag; held = from_left first b c h; answers = h.answers; writes = h.writes }
from_on first b (Forgets c) a h =
    record { tag = h.tag; held = from_left first b c h; answers = h.answers; writes = h.writes }
from_on first b (Leaves c g) a h =
    record { tag = h.tag; held = from_left first b c h; answers = h.answers; writes = h.writes }
from_on first b (TakesRefusal c j) a h =
    record { tag = h.tag; held = from_left first b c h; answers = h.answers; writes = h.writes }
from_on first b Fenced a h =
    record { tag = omega (arith, h.tag); held = h.held; answers = h.answers; writes = h.writes }
from_on first b Refenced a h =
    record { tag = omega (arith, h.tag); held = h.held; answers = h.answers; writes = h.writes }
from_on first b (Sends c k g j i v) a h = record {
  tag = h.tag;
  held = h.held;
  answers = h.answers;
  writes = λ m i_. elim i_ [
    | inl new ↦ subst (λ (n : ℕ). first ≤ n) (sym (ap (λ (y : MachineWrite). y.tag) new)) (h.held c g a.has)
    | inr old ↦ h.writes m old
  ];
}
from_on first b e a h = h

from_all : (first : ℕ) (b : State) (es : List Event) → Lawful b es → IsFrom first b → IsFrom first (after_all b es)
from_all first b [] l h = h
from_all first b (e ∷ es) l h = from_all first (after b e) es l.1 (from_on first b e l.0 h)

from_first : (m : Layout) → IsFrom m.first_tag (new_file_state m)
from_first m = record {
  tag = omega arith;
  held = λ c g is. absurd (cc is);
  answers = λ x g i is. absurd i;
  writes = λ x i. absurd i;
}

-- ---- a file that is quiet

unused_in : (t : State) (g : File) (p : Phase) → PhaseIs t g p → is_quiet g.job p ≡ true → t.granted_since ≡ false
unused_in t g Still is quiet = is.unused (by_job g.job quiet)
  where
    by_job : (o : Option Job) → is_at_work o ≡ true → o ≡ None → ⊥
    by_job None e none = cc e
    by_job (Some j) e none = cc none
unused_in t g Fencing is quiet = absurd (cc quiet)
unused_in t g Repairing is quiet = is.unused
unused_in t g FencingAgain is quiet = is.unused

module _ (t : State) (v : World) (g : File) (safe : Safe t) (from : IsFrom g.kept.first_tag t)
    (components : AreComponents t v g) (sent : AreSent t v g) (kept : IsKept t v.server g)
    (below : (n : ℕ) (at : Component) → slice_get g.kept.components n ≡ Some at → n < t.layout.components) where
  -- a client's WRITE is of an earlier tag than the file
  old_write : is_quiet g.job g.kept.phase ≡ true → (c n : ℕ) (x : Command) → WasSent t c n x →
      (g.kept.first_tag ≤ x.capability.tag) × (x.capability.tag < t.tag)
  old_write quiet c n x was =
      let known = safe.known was.write was.sent in
      let client = (safe.formed was.write.entry known.entry).own known.write in
      let low = safe.unissued.entries was.write.entry known.entry client
      (unused_in t g g.kept.phase kept.phase quiet) in (
        omega (arith, from.writes was.write was.sent, was.tag),
        omega (arith, low, known.tag, was.tag),
      )

  -- it is spent where the object has the file's tag
  spent_by : (o : Option DriveAt) (n : ℕ) (at : Component) (x : Command) → x.object ≡ at.object →
      (g.kept.first_tag ≤ x.capability.tag) × (x.capability.tag < t.tag) →
      (t.object_tag n ≡ t.tag) ⊎ ((t.fencing ≡ true) × (t.object_tag n ≡ t.tag + 1)) →
      ObjectIs t g n at (object_on o at.object) → IsSpent o x
  spent_by None n at x object low tags is = absurd (unmade n tags low is)
    where
      unmade : (n : ℕ) → (t.object_tag n ≡ t.tag) ⊎ ((t.fencing ≡ true) × (t.object_tag n ≡ t.tag + 1)) →
          (g.kept.first_tag ≤ x.capability.tag) × (x.capability.tag < t.tag) → IsUnmade t g n at → ⊥
      unmade n (inl same) l un = omega (arith, l.0, l.1, un.tag, same)
      unmade n (inr next) l un = omega (arith, l.0, l.1, un.tag, next.1)
  spent_by (Some a) n at x object low tags is =
      inr (inr (subst (λ (k : ℕ). IsSpentOn (object_at a.state.store k) x) (sym object)
      (on (object_at a.state.store at.object) is)))
    where
      on : (o : Option StoredObject) → ObjectIs t g n at o → IsSpentOn o x
      on None un = absurd (elim tags [
        | inl same ↦ omega (arith, low.0, low.1, un.tag, same)
        | inr next ↦ omega (arith, low.0, low.1, un.tag, next.1)
      ])
      on (Some y) made = inr (inl (elim tags [
        | inl same ↦ omega (arith, low.1, made.tag, same)
        | inr next ↦ omega (arith, low.1, made.tag, next.1)
      ]))

  are_quiet : AreQuiet t v g
  are_quiet quiet c n x at there stands was write object =
      spent_by (at_number v.drives at.drive) n at x object
      (old_write quiet c n x (sent.writes c at.drive n x at was write there object stands))
      (safe.tags.at n (below n at there) stands) ((components n at there).stands stands).object

-- ---- behind a whole move

-- the layout stays
layout_on : (b : State) (e : Event) → (after b e).layout ≡ b.layout
layout_on b Fenced = refl
layout_on b Refenced = refl
layout_on b e = refl

pub layout_all : (b : State) (es : List Event) → (after_all b es).layout ≡ b.layout
layout_all b [] = refl
layout_all b (e ∷ es) = layout_all (after b e) es ∙ layout_on b e

got_below : (cs : List Component) (n : ℕ) (at : Component) → slice_get cs n ≡ Some at → n < length cs
got_below [] n at e = absurd (cc e)
got_below (c ∷ cs) zero at e = omega arith
got_below (c ∷ cs) (suc n) at e = let below = got_below cs n at e in omega (arith, below)

pub quiet_follows : OneEventMore → AllFilesFit → QuietFollows
quiet_follows more fits components sent kept w h m f g s k =
    let v : World = (move w m).world in
    let before : IsLaidOut f =
    laid_out w h k.follows.moment (fits w h k.follows.moment (scenario w h m f g s k).text)
    (server_sent_its_run more w h k.follows.moment (are_named h (scenario w h m f g s k).written)) f k.follows.there in
    let stays = file_stays w h k.follows.moment m k.follows.is_due f.kept.number f g k.follows.there k.follows.goes in
    let t : State = whole_behind k in
    let coded : IsCode s.layout =
    subst IsCode (sym k.follows.related.layout) (layouts_are_codes f.kept.map f.kept.first_tag before.checked) in
    let es : List Event = joined (events_of s w (owed k.follows.related) f m) in
    let safe : Safe t = safe_all s es k.lawful (right_run s coded k.follows.run).sure.safe in
    let run = k.follows.run in
    let start : IsFrom s.layout.first_tag s =
    subst (IsFrom s.layout.first_tag) (sym run.state)
    (from_all s.layout.first_tag (new_file_state s.layout) run.events run.lawful (from_first s.layout)) in
    let first : s.layout.first_tag ≡ g.kept.first_tag =
    ap (λ (y : Layout). y.first_tag) k.follows.related.layout ∙ sym stays.same.first_tag in
    let many : t.layout.components ≡ length g.kept.components =
    ap (λ (y : Layout). y.components) (layout_all s es ∙ k.follows.related.layout) ∙ sym before.components
    ∙ sym stays.components in
    are_quiet t v g safe
    (subst (λ (n : ℕ). IsFrom n t) first (from_all s.layout.first_tag s es k.lawful start)) (components w h m f g s k)
    (sent w h m f g s k) (kept w h m f g s k)
    (λ n at there. subst (λ (q : ℕ). n < q) (sym many) (got_below g.kept.components n at there))
