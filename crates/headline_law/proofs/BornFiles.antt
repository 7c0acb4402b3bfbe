-- What there is of a file that a step of the server has just made.
use Rattle.std.proofs.Common.{◌≡◌, ◌&&◌, ℕ, ◌+◌, ◌≤◌, ◌++◌, Bool, false, not, List, [], ◌∷◌, slice_get, Option, Some, None, refl, sym, ap, subst, ◌∙◌, arith, inl, inr, zero, suc}
use Rattle.std.proofs.lemmas.Bool.{cases_Bool}
use Rattle.data_map.specs.declared.check.RawMap.{RawMap}
use Rattle.osd_commands.specs.declared.actions.Action.TheVariants as action
use Rattle.osd_commands.specs.declared.commands.Command.{Command}
use Rattle.server_rules.specs.Commands.{to_all, to_each, sent_to, sealed, is_meant, All, Creating}
use Rattle.server_rules.specs.Files.{Step, file_at, at_file, to_drives}
use Rattle.server_rules.specs.Laws.{In}
use Rattle.server_rules.specs.Going.{Going, rests_or}
use Rattle.server_rules.specs.History.{Makes, step, unless_made}
use Rattle.server_rules.specs.Jobs.{making, is_made}
use Rattle.server_rules.specs.Making.{refusal, components_on, drives_for, unmade, with_file, makes_file, unless_refused, create_file}
use Rattle.server_rules.specs.declared.server.Refusal.{Refusal}
use Rattle.history_law.proofs.Files.{put_gives}
use Rattle.history_law.specs.Names.{Server, Drive, File, Kept, Component, Job, Making, Awaited, Creates, Still, ToDrive}

-- ---- the file

-- A file that was just made: nothing was granted or written, its components are on new objects, and its job makes them.
pub record IsBorn (s : Server) (f : File) : Type 0 where
  pub tag : f.kept.tag ≡ f.kept.first_tag
  pub size : f.kept.size ≡ 0
  pub phase : f.kept.phase ≡ Still
  pub grants : f.kept.grants ≡ []
  pub ended : f.kept.ended ≡ []
  pub present : (k : ℕ) (at : Component) → slice_get f.kept.components k ≡ Some at → at.missing ≡ false
  pub new : (k : ℕ) (at : Component) → slice_get f.kept.components k ≡ Some at → s.next_object ≤ at.object
  pub job : (j : Job) → f.job ≡ Some j → (j.kind ≡ Making) × (j.work ≡ Creates)

-- ---- its components

on_new : (ds : List ℕ) (object k : ℕ) (at : Component) → slice_get (components_on ds object) k ≡ Some at →
    (at.missing ≡ false) × (object ≤ at.object)
unfolding components_on
on_new [] object k at e = absurd (cc e)
on_new (d ∷ ds) object zero at e =
    let same : record { drive = d; object = object; missing = false } ≡ at = cc e in
    (ap (λ (x : Component). x.missing) (sym same), omega (arith, ap (λ (x : Component). x.object) same))
on_new (d ∷ ds) object (suc k) at e =
    let r = on_new ds (object + 1) k at e in
    (r.0, omega (arith, r.1))

-- ---- the job that makes it

-- a job that makes objects, or none
abbrev MakesOnly : Option Job → Type 0
MakesOnly o = (j : Job) → o ≡ Some j → (j.kind ≡ Making) × (j.work ≡ Creates)

-- what is kept but for whether the file is ready
record SameButReady (k l : Kept) : Type 0 where
  number : l.number ≡ k.number
  tag : l.tag ≡ k.tag
  first_tag : l.first_tag ≡ k.first_tag
  size : l.size ≡ k.size
  phase : l.phase ≡ k.phase
  grants : l.grants ≡ k.grants
  ended : l.ended ≡ k.ended
  components : l.components ≡ k.components

rests_so : (cs : List Awaited) (g : Going) → g.file.job ≡ None →
    SameButReady g.file.kept (rests_or cs g Making Creates (is_made g)).file.kept
    × MakesOnly (rests_or cs g Making Creates (is_made g)).file.job
rests_so [] g none = (
  record {
    number = refl;
    tag = refl;
    first_tag = refl;
    size = refl;
    phase = refl;
    grants = refl;
    ended = refl;
    components = refl;
  },
  λ j e. absurd (cc e),
)
rests_so (c ∷ cs) g none = (
  record {
    number = refl;
    tag = refl;
    first_tag = refl;
    size = refl;
    phase = refl;
    grants = refl;
    ended = refl;
    components = refl;
  },
  λ j e. (let same : record { kind = Making; work = Creates; awaited = c ∷ cs; heard = [] } ≡ j = cc e in
      (ap (λ (x : Job). x.kind) (sym same), ap (λ (x : Job). x.work) (sym same))),
)

making_so : (g : Going) → g.file.job ≡ None → SameButReady g.file.kept (making g).file.kept × MakesOnly (making g).file.job
unfolding making
making_so g none = rests_so (to_all g.file.kept All Creating g.effects.nonce) g none

born_by : (s : Server) (n : ℕ) (m : RawMap) (tag : ℕ) (zoned : Bool) (ds : List ℕ) (f : File) →
    f ≡ (making (at_file (with_file s (unmade s n m tag zoned ds)) [] (unmade s n m tag zoned ds))).file → IsBorn s f
born_by s n m tag zoned ds f is = rw is (record {
  tag = made.0.tag ∙ sym made.0.first_tag;
  size = made.0.size;
  phase = made.0.phase;
  grants = made.0.grants;
  ended = made.0.ended;
  present = λ k at e.
      (on_new ds s.next_object k at (sym (ap (λ (cs : List Component). slice_get cs k) made.0.components) ∙ e)).0;
  new = λ k at e. (on_new ds s.next_object k at (sym (ap (λ (cs : List Component). slice_get cs k) made.0.components) ∙ e)).1;
  job = made.1;
})
  where
    made : SameButReady (unmade s n m tag zoned ds).kept
        (making (at_file (with_file s (unmade s n m tag zoned ds)) [] (unmade s n m tag zoned ds))).file.kept
        × MakesOnly (making (at_file (with_file s (unmade s n m tag zoned ds)) [] (unmade s n m tag zoned ds))).file.job
    made = making_so (at_file (with_file s (unmade s n m tag zoned ds)) [] (unmade s n m tag zoned ds)) refl

-- ---- the step

abbrev step_of : (s : Server) → (chosen : List ℕ) → (n : ℕ) → RawMap → (tag : ℕ) → (zoned : Bool) → Option Refusal → Step
step_of s chosen n m tag zoned o =
    unless_made s (unless_refused o (makes_file s (unmade s n m tag zoned (drives_for zoned s.drives m chosen))))

made_in : (s : Server) (chosen : List ℕ) (n : ℕ) (m : RawMap) (tag : ℕ) (zoned : Bool) (f : File) (o : Option Refusal) →
    file_at s.files n ≡ None →
    file_at (step_of s chosen n m tag zoned o).state.files n ≡ Some f → IsBorn s f
made_in s chosen n m tag zoned f (Some r) none there = absurd (cc (sym none ∙ there))
made_in s chosen n m tag zoned f None none there =
    born_by s n m tag zoned ds f
    (put_gives (with_file s x).files n (making (at_file (with_file s x) [] x)).file f
    (making_so (at_file (with_file s x) [] x) refl).0.number there)
  where
    ds : List ℕ
    ds = drives_for zoned s.drives m chosen

    x : File
    x = unmade s n m tag zoned ds

-- a file that a step makes
pub born : (s : Server) (chosen : List ℕ) (n : ℕ) (m : RawMap) (tag : ℕ) (zoned : Bool) (f : File) →
    file_at s.files n ≡ None → file_at (step s chosen (Makes n m tag zoned)).state.files n ≡ Some f → IsBorn s f
unfolding create_file
born s chosen n m tag zoned f none there = made_in s chosen n m tag zoned f (refusal s n m zoned) none there

-- ---- what the step sends

-- all of these are CREATEs
each_creates : (ds : List Drive) (f : Kept) (cs : List Component) (k nonce d : ℕ) (x : Command) →
    In (ToDrive d x) (to_drives ds (to_each f All Creating cs k nonce)) → x.action ≡ action.Create
unfolding to_each
each_creates ds f [] k nonce d x i = absurd i
each_creates ds f (at ∷ cs) k nonce d x i = elim (cases_Bool (not at.missing && is_meant f All k)) [
  | inl t ↦ first (rw t at i) (λ j. each_creates ds f cs (k + 1) (nonce + 1) d x j)
  | inr n ↦ each_creates ds f cs (k + 1) nonce d x (rw n at i)
]
  where
    its : Awaited
    its = sent_to f Creating k at.drive at.object nonce

    first : In (ToDrive d x) (to_drives ds (its ∷ to_each f All Creating cs (k + 1) (nonce + 1))) →
        (In (ToDrive d x) (to_drives ds (to_each f All Creating cs (k + 1) (nonce + 1))) → x.action ≡ action.Create) →
        x.action ≡ action.Create
    first (inl same) rest =
        let one : x ≡ sealed ds its = cc same in
        ap (λ (y : Command). y.action) one
    first (inr j) rest = rest j

rests_sends : (ds : List Drive) (cs : List Awaited) (g : Going) → g.effects.sent ≡ [] → (d : ℕ) (x : Command) →
    In (ToDrive d x) (to_drives ds (rests_or cs g Making Creates (is_made g)).effects.sent) → In (ToDrive d x) (to_drives ds cs)
rests_sends ds [] g none d x i = subst (λ (l : List Awaited). In (ToDrive d x) (to_drives ds l)) none i
rests_sends ds (c ∷ cs) g none d x i =
    subst (λ (l : List Awaited). In (ToDrive d x) (to_drives ds (l ++ c ∷ cs))) none i

sends_in : (s : Server) (chosen : List ℕ) (n : ℕ) (m : RawMap) (tag : ℕ) (zoned : Bool) (o : Option Refusal) (d : ℕ)
    (x : Command) → In (ToDrive d x) (step_of s chosen n m tag zoned o).sends → x.action ≡ action.Create
unfolding making
sends_in s chosen n m tag zoned (Some r) d x i = absurd i
sends_in s chosen n m tag zoned None d x i =
    let f : File = unmade s n m tag zoned (drives_for zoned s.drives m chosen) in
    let g : Going = at_file (with_file s f) [] f in
    each_creates (with_file s f).drives g.file.kept g.file.kept.components 0 g.effects.nonce d x
    (rests_sends (with_file s f).drives (to_all g.file.kept All Creating g.effects.nonce) g refl d x i)

-- it sends CREATEs alone
pub born_sends : (s : Server) (chosen : List ℕ) (n : ℕ) (m : RawMap) (tag : ℕ) (zoned : Bool) (d : ℕ) (x : Command) →
    In (ToDrive d x) (step s chosen (Makes n m tag zoned)).sends → x.action ≡ action.Create
unfolding create_file
born_sends s chosen n m tag zoned d x i = sends_in s chosen n m tag zoned (refusal s n m zoned) d x i

slots_in : (s : Server) (chosen : List ℕ) (n : ℕ) (m : RawMap) (tag : ℕ) (zoned : Bool) (o : Option Refusal) →
    (step_of s chosen n m tag zoned o).state.slots ≡ s.slots
slots_in s chosen n m tag zoned (Some r) = refl
slots_in s chosen n m tag zoned None = refl

-- and leaves what is kept of clients
pub born_slots : (s : Server) (chosen : List ℕ) (n : ℕ) (m : RawMap) (tag : ℕ) (zoned : Bool) →
    (step s chosen (Makes n m tag zoned)).state.slots ≡ s.slots
unfolding create_file
born_slots s chosen n m tag zoned = slots_in s chosen n m tag zoned (refusal s n m zoned)
