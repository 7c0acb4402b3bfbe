-- While a client has a grant of a file on which no job runs, and the server is up, each present component on a drive that hasn't
-- failed has an object with the file's tag.
use Rattle.std.proofs.Common.{◌≡◌, ◌≤◌, ◌||◌, ℕ, Bool, true, false, List, Option, Some, None, refl, sym, ap, ◌∙◌, arith, inl, inr}
use Rattle.std.proofs.lemmas.Bool.{leb-true}
use Rattle.osd_objects.specs.declared.object.StoredObject.{StoredObject}
use Rattle.osd_objects.specs.Store.{object_at}
use Rattle.scenario_text.specs.declared.line.Line.{Line}
use Rattle.server_rules.specs.Files.{file_at}
use Rattle.server_rules.specs.Grants.{grant_of}
use Rattle.server_rules.specs.Laws.{In}
use Rattle.server_rules.specs.Messages.{awaited_by}
use Rattle.world_history.specs.ServerNames.{File, Component, Grant, Job, Kept, Still}
use Rattle.world_history.specs.State.{World, DriveAt, at_number}
use Rattle.history_law.specs.BookMoments.{IsMoment}
use Rattle.history_law.specs.Unforged.{AreUnforged}
use Rattle.history_law.proofs.Files.{in_at}
use Rattle.component_law.specs.Naming.{AreNamed}
use Rattle.exchange_law.specs.Text.{AreOfText, AreFew}
use Rattle.history_law.specs.Reaching.{has_reached, has_tag}
use Rattle.component_law.specs.Standing.{IsCreating}
use Rattle.component_law.specs.Tagged.{is_fence}
use Rattle.component_law.specs.Least.{NoTagIsBehind}
use Rattle.component_law.specs.TagWithin.{NoTagIsAhead}
use Rattle.component_law.specs.Within.{IsWithin}
use Rattle.component_law.proofs.Shut.{IsShut}

-- the object is there with this tag
pub record HasTag (a : DriveAt) (object tag : ℕ) : Type 0 where
  pub stored : StoredObject
  pub there : object_at a.state.store object ≡ Some stored
  pub its : tag ≡ stored.tag

tag_reached : (tag : ℕ) (o : Option StoredObject) → has_tag tag o ≡ true → (x : StoredObject) × (o ≡ Some x) × (tag ≤ x.tag)
tag_reached tag None e = absurd (cc e)
tag_reached tag (Some x) e = (x, refl, leb-true tag x.tag e)

none_creating : (o : Option Job) (drive object tag : ℕ) → o ≡ None → IsCreating (awaited_by o) drive object tag → ⊥
none_creating None drive object tag none c = c.1
none_creating (Some j) drive object tag none c = cc none

or_else : (a b : Bool) → (a || b) ≡ true → a ≡ false → b ≡ true
or_else true b e f = absurd (cc f)
or_else false b e f = e

within_still : (k : Kept) (tag : ℕ) → k.phase ≡ Still → IsWithin k tag → tag ≤ k.tag
within_still k tag still (inl le) = le
within_still k tag still (inr open_) = absurd (cc (sym (ap is_fence still) ∙ open_.1))

module _ (ahead : NoTagIsAhead) (behind : NoTagIsBehind) (w : World) (h : List Line) (k : IsMoment w h)
    (named : AreNamed h) (text : AreOfText h) (few : AreFew h) (unforged : AreUnforged h) (shut : IsShut w)
    (up : w.down ≡ false) (n : ℕ) (f : File) (found : file_at w.server.files n ≡ Some f) (quiet : f.job ≡ None) (c : ℕ)
    (g : Grant) (has : grant_of f.kept.grants c ≡ Some g) (at : Component) (there : In at f.kept.components)
    (present : at.missing ≡ false) (a : DriveAt) (stands : at_number w.drives at.drive ≡ Some a)
    (works : a.failed ≡ false) where
  exactly : (x : StoredObject) → object_at a.state.store at.object ≡ Some x → f.kept.tag ≤ x.tag
      → HasTag a at.object f.kept.tag
  exactly x is low =
      let high : x.tag ≤ f.kept.tag =
      within_still f.kept x.tag (shut.still n c f g found has)
      (ahead w h k named text few unforged n f found at there a stands x is) in
      record { stored = x; there = is; its = omega (arith, low, high) }

  reached : has_reached at.object f.kept.tag (at_number w.drives at.drive) ≡ true → HasTag a at.object f.kept.tag
  reached e =
      let r = tag_reached f.kept.tag (object_at a.state.store at.object)
      (or_else a.failed _ (sym (ap (has_reached at.object f.kept.tag) stands) ∙ e) works) in
      exactly r.0 r.1 r.2

  pub has_own_tag : HasTag a at.object f.kept.tag
  has_own_tag = elim (behind w h k named text few unforged n f found at there present) [
    | inl creating ↦ absurd (none_creating f.job at.drive at.object f.kept.tag quiet creating)
    | inr (inl e) ↦ reached e
    | inr (inr cut) ↦ absurd (cc (sym cut.0 ∙ shut.made up f (in_at w.server.files n f found) quiet))
  ]
