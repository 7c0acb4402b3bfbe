-- A step of the server whose notes are harmless keeps the machine's tag, and takes no grant but from its asker.
-- Towards `CutsShowEntries` (`specs/Parts.antt`).
use Rattle.std.proofs.Common.{◌≡◌, ◌==◌, ℕ, true, List, [], ◌∷◌, Option, Some, None, refl, sym, subst, ◌∙◌, inl, inr, append-nil}
use Rattle.std.proofs.lemmas.Bool.{cases_Bool, eqb-true}
use Rattle.osd_lists.specs.declared.node.Node.TheVariants as node
use Rattle.server_rules.specs.Files.{Step, file_at}
use Rattle.server_rules.specs.History.{Input, Hears, step}
use Rattle.server_rules.specs.Messages.{Message}
use Rattle.world_history.specs.Sending.{Move}
use Rattle.world_history.specs.ServerNames as kinds
use Rattle.world_history.specs.ServerNames.{File, Note, NoteKind, Outgoing}
use Rattle.world_history.specs.State.{World, at_number}
use Rattle.history_law.specs.Doing.{input_in}
use Rattle.fence_law.specs.Machine.{after, after_all}
use Rattle.fence_law.specs.State.{State, Event, Grant}
use Rattle.fence_law.specs.Words.{updated}
use Rattle.fence_law.proofs.Words.{updated_other, updated_read}
use Rattle.file_simulation.specs.Components.{has_failed}
use Rattle.file_simulation.specs.Events.{events_of}
use Rattle.file_simulation.specs.ServerEvents as table
use Rattle.file_simulation.specs.ServerEvents.{sends_all, notes_all, server_goes}
use Rattle.relation_law.specs.Frames.{AreAll, LinesAre, IsOfServer}
use Rattle.relation_law.proofs.ComponentsFirst.{AreSuch, first_such, sends_such}
use Rattle.relation_law.proofs.FramesClient.{where_all, led_all}
use Rattle.relation_law.proofs.FramesParties.{drive_quiet, Never}
use Rattle.relation_law.proofs.FramesStay.{lines_more, lines_as, related_by_all}
use Rattle.headline_law.specs.Ending.{is_dangerous, AreHarmless}
use Rattle.headline_law.proofs.CalmEvents.{KeepsTag, tag_kept}
use Rattle.headline_law.proofs.EntriesServerPlain.{events_are}

-- ---- what the events leave

-- what a client holds it held before, and so it is of each outstanding grant but this client's
pub record GrantsShrink (c : ℕ) (s t : State) : Type 0 where
  pub held : (d : ℕ) (y : Grant) → t.held d ≡ Some y → s.held d ≡ Some y
  pub others : (d : ℕ) (y : Grant) → (d ≡ c → ⊥) → t.outstanding d ≡ Some y → s.outstanding d ≡ Some y

shrink_same : (c : ℕ) (s : State) → GrantsShrink c s s
shrink_same c s = record { held = λ d y e. e; others = λ d y ne e. e }

shrink_more : (c : ℕ) (s t u : State) → GrantsShrink c s t → GrantsShrink c t u → GrantsShrink c s u
shrink_more c s t u a b = record {
  held = λ d y e. a.held d y (b.held d y e);
  others = λ d y ne e. a.others d y ne (b.others d y ne e);
}

-- one that is cleared
cleared : (o : ℕ → Option Grant) (k d : ℕ) (y : Grant) → updated o k None d ≡ Some y → o d ≡ Some y
cleared o k d y e = elim (updated_read o k None d).1 [
  | inl here ↦ absurd (cc (sym here.1 ∙ e))
  | inr other ↦ sym other.1 ∙ e
]

shrink_one : (c : ℕ) (s : State) (e : Event) → IsOfServer (Some c) e → GrantsShrink c s (after s e)
shrink_one c s (Event.Grants k number rw_ range extending) is =
    let same : c ≡ k = cc is in
    record {
      held = λ d y e. e;
      others = λ d y ne e. sym (updated_other s.outstanding k _ d (λ at_. ne (at_ ∙ sym same))) ∙ e;
    }
shrink_one c s (Event.Refuses d kind) is = record { held = λ d y e. e; others = λ d y ne e. e }
shrink_one c s (Event.ServesOther d) is = record { held = λ d y e. e; others = λ d y ne e. e }
shrink_one c s (Event.Frees k) is = record {
  held = λ d y e. e;
  others = λ d y ne e. cleared s.outstanding k d y e;
}
shrink_one c s Event.Fences is = record { held = λ d y e. e; others = λ d y ne e. e }
shrink_one c s Event.Fenced is = record { held = λ d y e. e; others = λ d y ne e. absurd (cc e) }
shrink_one c s Event.Refenced is = record { held = λ d y e. e; others = λ d y ne e. absurd (cc e) }
shrink_one c s (Event.Fails k) is = record { held = λ d y e. e; others = λ d y ne e. e }
shrink_one c s (Event.Drops k) is = record { held = λ d y e. e; others = λ d y ne e. e }
shrink_one c s (Event.Declares k) is = record { held = λ d y e. e; others = λ d y ne e. e }
shrink_one c s (Event.Loses d k) is = record { held = λ d y e. e; others = λ d y ne e. e }
shrink_one c s (Event.Leaves k g) is = record {
  held = λ d y e. cleared s.held k d y e;
  others = λ d y ne e. cleared s.outstanding k d y e;
}
shrink_one c s (Event.Acknowledges d j) is = record { held = λ d y e. e; others = λ d y ne e. e }
shrink_one c s (Event.Commits d j g) is = record { held = λ d y e. e; others = λ d y ne e. e }
shrink_one c s (Event.RefusesCommit d j) is = record { held = λ d y e. e; others = λ d y ne e. e }
shrink_one c s (Event.Repaired done e) is = record { held = λ d y e. e; others = λ d y ne e. e }
shrink_one c s (Event.Rebuilds k cells) is = record { held = λ d y e. e; others = λ d y ne e. e }
shrink_one c s e is = absurd is

pub grants_shrink : (c : ℕ) (s : State) (es : List Event) → AreAll (IsOfServer (Some c)) es → GrantsShrink c s (after_all s es)
grants_shrink c = related_by_all (IsOfServer (Some c)) (GrantsShrink c) (shrink_same c) (shrink_more c) (shrink_one c)

pub tag_stays : (s : State) (es : List Event) → AreAll KeepsTag es → (after_all s es).tag ≡ s.tag
tag_stays = related_by_all KeepsTag (λ s t. t.tag ≡ s.tag) (λ s. refl) (λ s t u a b. b ∙ a) tag_kept

-- ---- which events a step has

such_keeps : (g : File) → AreSuch g KeepsTag
such_keeps g = record {
  fences = tt;
  serves = λ c. tt;
  commits = λ c j x. tt;
  refuses_commit = λ c j. tt;
  frees = λ c. tt;
  refuses = λ c kind. tt;
  acknowledges = λ c j. tt;
  leaves = λ c x. tt;
  grants = λ c number rw_ range extending x e. tt;
}

reported_keeps : (k : ℕ) (o : Option ℕ) → AreAll KeepsTag (table.reported k o)
reported_keeps k None = tt
reported_keeps k (Some c) = (tt, tt)

own_keeps : (s : State) (w : World) (f : File) (i : Input) (n : NoteKind) → (is_dangerous n ≡ true → ⊥) →
    AreAll KeepsTag (table.noted_here s w f i n)
own_keeps s w f i (kinds.Fenced tag) none = absurd (none refl)
own_keeps s w f i (kinds.Repaired stripes short) none = (tt, tt)
own_keeps s w f i (kinds.NoSpace k) none = absurd (none refl)
own_keeps s w f i (kinds.Reported k) none = reported_keeps k (table.asker i)
own_keeps s w f i (kinds.Rebuilt k d) none =
    (tt, where_all KeepsTag (has_failed (at_number w.drives d)) _ (tt, tt))
own_keeps s w f i n none = tt

note_keeps : (s : State) (w : World) (f : File) (i : Input) (n : Note) →
    (n.file ≡ f.kept.number → is_dangerous n.kind ≡ true → ⊥) → AreAll KeepsTag (table.noted s w f i n)
note_keeps s w f i n none = elim (cases_Bool (n.file == f.kept.number)) [
  | inl here ↦ rw here (own_keeps s w f i n.kind (none (eqb-true n.file f.kept.number here)))
  | inr other ↦ rw other tt
]

module _ (w : World) (f g : File) (i : Input) where
  sent_keeps : (s : State) (o : Outgoing) → AreAll KeepsTag (table.sent s w.server g i o)
  unfolding sends_all
  sent_keeps s o =
      subst (AreAll KeepsTag) (append-nil (table.sent s w.server g i o))
      (sends_such KeepsTag w.server g (such_keeps g) s i (o ∷ []))

  sends_keep : (os : List Outgoing) (s : State) → LinesAre KeepsTag (sends_all s w.server g i os)
  unfolding sends_all
  sends_keep [] s = tt
  sends_keep (o ∷ os) s = (sent_keeps s o, sends_keep os (after_all s (table.sent s w.server g i o)))

  notes_keep : (os : List Outgoing) (ns : List Note) (s : State) → AreHarmless f.kept.number ns →
      LinesAre KeepsTag (notes_all s w f g i os ns)
  unfolding notes_all
  notes_keep os [] s none = sends_keep os s
  notes_keep os (n ∷ ns) s none = (
    note_keeps s w f i n (none n (inl refl)),
    notes_keep os ns (after_all s (table.noted s w f i n)) (λ x at_. none x (inr at_)),
  )

-- A request's step whose notes are harmless for the file ends no fence of it.
pub step_keeps : (s : State) (w : World) (e : ℕ → ℕ) (f : File) (m : Move) (i : Input) → input_in w m.action ≡ Some i →
    (now c : ℕ) (x : Message) → i ≡ Hears now (node.Client c) x → file_at w.server.files f.kept.number ≡ Some f →
    AreHarmless f.kept.number (step w.server m.chosen i).notes → LinesAre KeepsTag (events_of s w e f m)
step_keeps s w e f m i is now c x asked there none =
    let did : Step = step w.server m.chosen i in
    let p : Option File = file_at (step w.server m.chosen i).state.files f.kept.number in
    subst (LinesAre KeepsTag) (sym (events_are s w e f m i is))
    (led_all KeepsTag m.action _
    (lines_more KeepsTag (server_goes s w did i (file_at w.server.files f.kept.number) p) _
    (subst (λ (o : Option File). LinesAre KeepsTag (server_goes s w did i o p)) (sym there) (by p))
    (lines_as Never KeepsTag (λ y no_. absurd no_) _ (drive_quiet s w e f m.action i is))))
  where
    by : (o : Option File) → LinesAre KeepsTag (server_goes s w (step w.server m.chosen i) i (Some f) o)
    by None = tt
    by (Some g) = (
      subst (λ (j : Input). AreAll KeepsTag (table.at_first s w.server (step w.server m.chosen i) f g j)) (sym asked)
          (first_such KeepsTag s w.server (step w.server m.chosen i) f g (such_keeps g) (Hears now (node.Client c) x) tt),
      notes_keep w f g i (step w.server m.chosen i).sends (step w.server m.chosen i).notes _ none,
    )
