-- A fence is over when nothing is awaited of it any more: each component that isn't lost has the next tag.
use Rattle.std.proofs.Common.{◌≡◌, ◌||◌, ◌<◌, ◌≤◌, ◌+◌, ◌^◌, ℕ, Bool, true, false, not, List, [], length, Option, Some, None, refl, sym, ap, subst, ◌∙◌, inl, inr, arith}
use Rattle.std.specs.Prelude.{slice_get}
use Rattle.std.proofs.lemmas.Bool.{cases_eq, cases_Bool, ne_eqb, leb-true}
use Rattle.osd_lists.proofs.Slices.{some_at}
use Rattle.osd_lists.proofs.Tests.{first_false}
use Rattle.osd_lists.specs.declared.node.Node.TheVariants as node
use Rattle.osd_objects.specs.declared.object.StoredObject.{StoredObject}
use Rattle.osd_commands.specs.declared.replies.Reply.{Reply}
use Rattle.osd_objects.specs.Store.{object_at}
use Rattle.scenario_text.specs.declared.line.Line.{Line}
use Rattle.server_rules.specs.Files.{file_at}
use Rattle.server_rules.specs.History.{Hears}
use Rattle.server_rules.specs.Jobs.{others_than}
use Rattle.server_rules.specs.Laws.{In}
use Rattle.server_rules.specs.Messages.{Replies, awaited_by}
use Rattle.server_rules.specs.Replies.{Done, answers, hearing, others}
use Rattle.server_rules.proofs.Members.{in_filter, one_in}
use Rattle.world_history.specs.ServerNames.{File, Component, Job, Fences, Awaited}
use Rattle.world_history.specs.State.{World, DriveAt, at_number}
use Rattle.history_law.specs.Moments.{IsMoment}
use Rattle.history_law.specs.Fencing.{is_fences, is_fencing, IsFencing}
use Rattle.history_law.specs.Holder.{UnforgedHolderIsServer}
use Rattle.history_law.specs.Reaching.{OwnAt, has_tag, has_reached, reached_in}
use Rattle.history_law.specs.Unforged.{AreUnforged}
use Rattle.history_law.proofs.Each.{EachBehind}
use Rattle.history_law.proofs.DriveLines.{drive_read}
use Rattle.history_law.proofs.Files.{in_at}
use Rattle.history_law.proofs.FencingMoves.{IsSent}
use Rattle.history_law.proofs.Heard.{heard_reached}
use Rattle.history_law.proofs.Hearing.{done_is_done}
use Rattle.history_law.proofs.Holding.{Holds}
use Rattle.history_law.proofs.Ending.{own_each, fits_reached}
use Rattle.exchange_law.specs.Counters.{ServerIsCounted}
use Rattle.exchange_law.specs.Files.{ComponentFits}
use Rattle.exchange_law.proofs.CountGrowing.{as_many}
use Rattle.exchange_law.proofs.CountMoments.{at_moment}
use Rattle.exchange_law.proofs.CountStepping.{FileFits}
use Rattle.exchange_law.proofs.CountWorlds.{FitsThere, all_fit}
use Rattle.exchange_law.proofs.Knowing.{lawful_at}
use Rattle.exchange_law.proofs.Parts.{WorkFits, JobFits}
use Rattle.fence_law.specs.Columns.{HaveNextTag}
use Rattle.fence_law.specs.State.{State}
use Rattle.fence_law.specs.Words.{In as InRun}
use Rattle.fence_law.proofs.Tags.{Tags}
use Rattle.file_simulation.specs.Claim.{IsOfScenario}
use Rattle.file_simulation.specs.Components.{AreComponents, ObjectIs, has_failed, object_on}
use Rattle.relation_law.proofs.DriveMoves.{got_in}
use Rattle.relation_law.proofs.OwnedBefore.{OwnedLaws, held, room}

-- what is known of histories
pub record FencedLaws : Type 0 where
  pub owned : OwnedLaws
  pub counted : ServerIsCounted
  pub holder : UnforgedHolderIsServer

module _ (laws : FencedLaws) (w : World) (h : List Line) (k : IsMoment w h) (scenario : IsOfScenario h)
    (unforged : AreUnforged h) (s : State) (f : File) (there : file_at w.server.files f.kept.number ≡ Some f)
    (parts : AreComponents s w f) (tags : Tags s) (tag : s.tag ≡ f.kept.tag)
    (many : length f.kept.components ≡ s.layout.components) (j : Job) (runs : f.job ≡ Some j) (work : j.work ≡ Fences) where
  in_files : In f w.server.files
  in_files = in_at w.server.files f.kept.number f there

  now : Holds w h
  now = held laws.owned w h k scenario

  own : EachBehind OwnAt [] h
  own = own_each [] h (laws.holder h (lawful_at w h k) unforged)

  file_fits : FileFits w.server.next_object f
  file_fits = one_in (FileFits w.server.next_object) w.server.files f
      (at_moment FitsThere all_fit w h k scenario.text).server.files in_files

  -- the next tag fits its place
  next_fits : f.kept.tag + 1 < 2 ^ 32
  next_fits =
      let low : f.kept.tag < 4294967295 =
      subst (WorkFits w.server.next_object f.kept.tag) work
      (by_job f.job runs file_fits.1) in
      omega (arith, low)
    where
      by_job : (o : Option Job) → o ≡ Some j → JobFits w.server.next_object f.kept.tag o
          → WorkFits w.server.next_object f.kept.tag j.work
      by_job None e x = absurd (cc e)
      by_job (Some y) e x =
          let same : y ≡ j = cc e in
          subst (λ (z : Job). WorkFits w.server.next_object f.kept.tag z.work) same x.0

  object_fits : (at : Component) → In at f.kept.components → at.object < 2 ^ 64
  object_fits at i =
      let c : ComponentFits w.server.next_object at =
      one_in (ComponentFits w.server.next_object) f.kept.components at file_fits.0.components i in
      let n = (laws.counted w h k scenario.text).objects in
      let m = as_many w h now.read in
      omega (arith, c.object, n, m, scenario.few)

  -- a component that isn't lost, and has reached the next tag, has told it
  has_told : (n : ℕ) (at : Component) → slice_get f.kept.components n ≡ Some at → s.lost n ≡ false
      → reached_in h at.drive at.object (f.kept.tag + 1) ≡ true → InRun (n, s.tag + 1) s.tag_replies
  has_told n at found stands reached =
      let c = parts n at found in
      let lost : (at.missing || has_failed (at_number w.drives at.drive)) ≡ false = sym c.lost ∙ stands in
      let alive : has_failed (at_number w.drives at.drive) ≡ false =
      alive_in at.missing (has_failed (at_number w.drives at.drive)) lost in
      let there_ : has_reached at.object (f.kept.tag + 1) (at_number w.drives at.drive) ≡ true =
      subst (λ (o : Option DriveAt). has_reached at.object (f.kept.tag + 1) o ≡ true)
      (drive_read w now.read.injected h at.drive now.read.drives)
      (fits_reached at.object (f.kept.tag + 1) _ (object_fits at (got_in f.kept.components n at found)) next_fits reached) in
      let up = by_drive (at_number w.drives at.drive) at.object alive there_ in
      let made = subst (ObjectIs s f n at) up.1 (c.stands stands).object in
      let equal : s.object_tag n ≡ f.kept.tag + 1 = elim (tags.high n) [
        | inl low ↦ absurd (omega (arith, low, tag, made.tag, up.2))
        | inr wide ↦ omega (arith, wide.0, tag, made.tag, up.2)
      ] in
      subst (λ (m : ℕ). InRun (n, m + 1) s.tag_replies) (sym tag) ((c.stands stands).raised equal)
    where
      alive_in : (a b : Bool) → (a || b) ≡ false → b ≡ false
      alive_in true b e = absurd (cc e)
      alive_in false b e = e

      by_object : (o : Option StoredObject) → has_tag (f.kept.tag + 1) o ≡ true
          → (x : StoredObject) × (o ≡ Some x) × (f.kept.tag + 1 ≤ x.tag)
      by_object None e = absurd (cc e)
      by_object (Some x) e = (x, refl, leb-true (f.kept.tag + 1) x.tag e)

      by_drive : (o : Option DriveAt) (object : ℕ) → has_failed o ≡ false → has_reached object (f.kept.tag + 1) o ≡ true
          → (x : StoredObject) × (object_on o object ≡ Some x) × (f.kept.tag + 1 ≤ x.tag)
      by_drive None object a e = absurd (cc e)
      by_drive (Some d) object a e =
          by_object (object_at d.state.store object)
          (sym (ap (λ (b : Bool). b || has_tag (f.kept.tag + 1) (object_at d.state.store object)) a) ∙ e)

  fencing : IsFencing (reached_in h) f
  fencing = now.fences own f in_files (ap is_fencing runs ∙ ap is_fences work)

  in_awaited : (a : Awaited) → In a j.awaited → In a (awaited_by f.job)
  in_awaited a i = subst (λ (o : Option Job). In a (awaited_by o)) (sym runs) i

  from_awaited : (a : Awaited) → In a (awaited_by f.job) → In a j.awaited
  from_awaited a i = subst (λ (o : Option Job). In a (awaited_by o)) runs i

  -- where all that is asked was answered, or is lost
  all_told : ((n : ℕ) (at : Component) (a : Awaited) → slice_get f.kept.components n ≡ Some at → s.lost n ≡ false
      → In a j.awaited → a.drive ≡ at.drive → a.command.object ≡ at.object
      → reached_in h at.drive at.object (f.kept.tag + 1) ≡ true) → HaveNextTag s
  all_told asked n low = elim (cases_Bool (s.lost n)) [
    | inl gone ↦ inl gone
    | inr stands ↦
        let below : n < length f.kept.components = omega (arith, low, many) in
        let x = some_at f.kept.components n below in
        let present : x.0.missing ≡ false = first_false x.0.missing _ (sym (parts n x.0 x.1).lost ∙ stands) in
        inr (elim (fencing.each x.0 (got_in f.kept.components n x.0 x.1) present) [
          | inl q ↦ has_told n x.0 x.1 stands (asked n x.0 q.0 x.1 stands (from_awaited q.0 q.1) q.2 q.3)
          | inr reached ↦ has_told n x.0 x.1 stands reached
        ])
  ]

  -- the last reply is heard
  pub last_told : (time drive : ℕ) (r : Reply) → IsSent w (Hears time (node.Drive drive) (Replies r)) → (a : Awaited)
      → In a j.awaited → answers drive r a ≡ true → hearing f.kept a r ≡ Done → others j.awaited a.command.nonce ≡ []
      → HaveNextTag s
  last_told time drive r sent a among answer done last = all_told (λ n at b found stands i on object.
      let same : b ≡ a = one b i in
      let reached : reached_in h a.drive a.command.object (f.kept.tag + 1) ≡ true =
      heard_reached w h now.read now.numbers own (room laws.owned w h k scenario) drive sent.0 sent.1 sent.2 sent.3 sent.4 r
      sent.5 f in_files a (in_awaited a among) (fencing.raises a (in_awaited a among)) answer
      (done_is_done f.kept a r done) in
      subst (λ (d : ℕ). reached_in h d at.object (f.kept.tag + 1) ≡ true)
      (ap (λ (y : Awaited). y.drive) (sym same) ∙ on)
      (subst (λ (o : ℕ). reached_in h a.drive o (f.kept.tag + 1) ≡ true)
      (ap (λ (y : Awaited). y.command.object) (sym same) ∙ object) reached))
    where
      one : (b : Awaited) → In b j.awaited → b ≡ a
      one b i = elim (cases_eq b.command.nonce a.command.nonce) [
        | inl same ↦
            now.numbers.alone b a (f, in_files, in_awaited b i) (f, in_files, in_awaited a among) same
        | inr other ↦ absurd (subst (In b) last
            (in_filter _ b j.awaited i (ap not (ne_eqb b.command.nonce a.command.nonce other))))
      ]

  -- a drive that has failed is declared, and nothing is awaited of others
  pub loses_told : (drive : ℕ) → has_failed (at_number w.drives drive) ≡ true → others_than drive j.awaited ≡ []
      → HaveNextTag s
  loses_told drive failed none = all_told (λ n at b found stands i on object.
      elim (cases_eq b.drive drive) [
        | inl same ↦
            let gone : has_failed (at_number w.drives at.drive) ≡ true =
            ap (λ (d : ℕ). has_failed (at_number w.drives d)) (sym on ∙ same) ∙ failed in
            absurd (lost_so at.missing (has_failed (at_number w.drives at.drive)) gone (sym (parts n at found).lost ∙ stands))
        | inr other ↦ absurd (subst (In b) none (in_filter _ b j.awaited i (ap not (ne_eqb b.drive drive other))))
      ])
    where
      lost_so : (a b : Bool) → b ≡ true → (a || b) ≡ false → ⊥
      lost_so true b e x = cc x
      lost_so false b e x = cc (sym e ∙ x)
