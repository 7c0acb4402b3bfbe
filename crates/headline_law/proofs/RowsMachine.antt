-- Events that leave the rows of a file's components as they are: what is gone, and the cells.
-- Towards `RowsFollow` (`specs/Parts.antt`).
use Rattle.std.proofs.Common.{◌≡◌, ◌⊎◌, ◌==◌, ◌++◌, ◌+◌, ℕ, Bool, true, false, List, [], ◌∷◌, None, refl, sym, ap, subst, ◌∙◌, inl, inr, arith}
use Rattle.osd_lists.specs.declared.node.Node.TheVariants as node
use Rattle.server_rules.specs.Files.{Step}
use Rattle.server_rules.specs.History.{Input, Hears, Makes, Obeys, Adds, Zones, Formats, Resends, Crashes, Opens}
use Rattle.world_history.specs.ServerNames.{Server, File, Component, ToRecall, ToRevoke, ToDeclare, ToRebuild, ToAudit}
use Rattle.world_history.specs.State.{World}
use Rattle.fence_law.specs.State.{State, Event, Write}
use Rattle.fence_law.specs.State.Event.{Grants, Frees, SetsTag, Fenced, Refenced, Performs, Shows, Fails, Declares, Loses, Leaves, PerformsLost, Repairs, Repaired, Rebuilds}
use Rattle.fence_law.specs.Machine.{Allowed, Lawful, after, after_all}
use Rattle.fence_law.proofs.Safe.{Safe, keep_safe}
use Rattle.fence_law.proofs.Words.{updated_read}
use Rattle.file_simulation.specs.EventLists.{where_so}
use Rattle.file_simulation.specs.Events.{joined}
use Rattle.file_simulation.specs.ServerEvents as table
use Rattle.relation_law.specs.Frames.{AreAll, IsOfDrive}
use Rattle.relation_law.specs.KeptSteps.{notes_events, behind_notes}
use Rattle.relation_law.proofs.ComponentsFirst.{AreSuch, first_such, sends_such}
use Rattle.relation_law.proofs.FramesClient.{where_all}
use Rattle.relation_law.proofs.FramesStay.{all_more, kept_by_all}
use Rattle.relation_law.proofs.KeptLines.{notes_joined}

-- what is gone stays, and so do the cells
pub record RowsStay (s t : State) : Type 0 where
  pub gone : t.gone ≡ s.gone
  pub cell : t.cell ≡ s.cell

rows_same : (s : State) → RowsStay s s
rows_same s = record { gone = refl; cell = refl }

-- ---- of the server

-- an event that ends no fence and no repair, makes no component anew, and writes nothing
abbrev IsMild : Event → Type 0
IsMild Fenced = ⊥
IsMild Refenced = ⊥
IsMild (Repaired done e) = ⊥
IsMild (Rebuilds k cells) = ⊥
IsMild (Performs m) = ⊥
IsMild (PerformsLost m) = ⊥
IsMild (Repairs k cells e) = ⊥
IsMild e = Unit {0}

-- a grant was issued, or none is outstanding and the rows stay
abbrev GrantsOrStay : State → State → Type 0
GrantsOrStay s t = (t.granted_since ≡ true) ⊎ (((c : ℕ) → t.outstanding c ≡ None) × RowsStay s t)

mild_one : (s b : State) (e : Event) → IsMild e → Allowed b e → GrantsOrStay s b → GrantsOrStay s (after b e)
mild_one s b (Grants c number rw_ range extending) is a h = inl refl
mild_one s b (Loses c k) is a (inl granted) = inl granted
mild_one s b (Loses c k) is a (inr (none, stay)) = absurd (cc (sym (none c) ∙ a.has.1))
mild_one s b (Frees c) is a (inl granted) = inl granted
mild_one s b (Frees c) is a (inr (none, stay)) =
    inr (λ d. grind (arith, updated_read b.outstanding c None d, none d), record { gone = stay.gone; cell = stay.cell })
mild_one s b (Leaves c g) is a (inl granted) = inl granted
mild_one s b (Leaves c g) is a (inr (none, stay)) =
    inr (λ d. grind (arith, updated_read b.outstanding c None d, none d), record { gone = stay.gone; cell = stay.cell })
mild_one s b Fenced is a h = absurd is
mild_one s b Refenced is a h = absurd is
mild_one s b (Repaired done e) is a h = absurd is
mild_one s b (Rebuilds k cells) is a h = absurd is
mild_one s b (Performs m) is a h = absurd is
mild_one s b (PerformsLost m) is a h = absurd is
mild_one s b (Repairs k cells e) is a h = absurd is
mild_one s b e is a (inl granted) = inl granted
mild_one s b e is a (inr (none, stay)) = inr (none, record { gone = stay.gone; cell = stay.cell })

-- Mild events leave the rows, if no grant was issued before nor behind them.
mild_all : (s : State) (es : List Event) → Safe s → s.granted_since ≡ false → AreAll IsMild es → Lawful s es →
    (after_all s es).granted_since ≡ false → RowsStay s (after_all s es)
mild_all s es safe unused all law behind =
    elim (kept_by_all IsMild (GrantsOrStay s) (λ b e. mild_one s b e) s es all law
    (inr ((λ c. safe.unissued.outstanding c unused), rows_same s))) [
      | inl granted ↦ absurd (cc (sym granted ∙ behind))
      | inr (none, stay) ↦ stay
    ]

such_mild : (g : File) → AreSuch g IsMild
such_mild g = record {
  fences = tt;
  serves = λ c. tt;
  commits = λ c j x. tt;
  refuses_commit = λ c j. tt;
  frees = λ c. tt;
  refuses = λ c kind. tt;
  acknowledges = λ c j. tt;
  leaves = λ c x. tt;
  grants = λ c number rw_ range extending x e. tt;
}

declares_mild : (d : ℕ) (cs : List Component) (k : ℕ) → AreAll IsMild (table.declared_from d cs k)
unfolding table.declared_from
declares_mild d [] k = tt
declares_mild d (at ∷ cs) k =
    all_more IsMild (where_so (at.drive == d) (Declares k ∷ [])) (table.declared_from d cs (k + 1))
    (where_all IsMild (at.drive == d) (Declares k ∷ []) (tt, tt)) (declares_mild d cs (k + 1))

first_mild : (s : State) (server : Server) (did : Step) (f g : File) (i : Input) →
    AreAll IsMild (table.at_first s server did f g i)
first_mild s server did f g (Obeys ToDeclare d) = declares_mild d f.kept.components 0
first_mild s server did f g (Obeys ToRecall n) = tt
first_mild s server did f g (Obeys ToRevoke n) = first_such IsMild s server did f g (such_mild g) (Obeys ToRevoke n) tt
first_mild s server did f g (Obeys ToRebuild n) = first_such IsMild s server did f g (such_mild g) (Obeys ToRebuild n) tt
first_mild s server did f g (Obeys ToAudit n) = first_such IsMild s server did f g (such_mild g) (Obeys ToAudit n) tt
first_mild s server did f g (Hears now node.Server m) = tt
first_mild s server did f g (Hears now (node.Drive d) m) = tt
first_mild s server did f g (Hears now (node.Client c) m) =
    first_such IsMild s server did f g (such_mild g) (Hears now (node.Client c) m) tt
first_mild s server did f g (Makes n m tag zoned) = tt
first_mild s server did f g (Adds d) = tt
first_mild s server did f g (Zones d zone) = tt
first_mild s server did f g (Formats n) = tt
first_mild s server did f g Resends = tt
first_mild s server did f g Crashes = tt
first_mild s server did f g Opens = first_such IsMild s server did f g (such_mild g) Opens tt

-- A step without a note that has an event leaves the rows, if no grant was issued before nor behind it.
pub server_rows : (s : State) (w : World) (did : Step) (f g : File) (i : Input) → Safe s → s.granted_since ≡ false →
    notes_events (after_all s (table.at_first s w.server did f g i)) w f i did.notes ≡ [] →
    Lawful s (table.at_first s w.server did f g i
    ++ joined (table.notes_all (after_all s (table.at_first s w.server did f g i)) w f g i did.sends did.notes)) →
    (after_all s (table.at_first s w.server did f g i
    ++ joined (table.notes_all
    (after_all s (table.at_first s w.server did f g i)) w f g i did.sends did.notes))).granted_since ≡ false →
    RowsStay s (after_all s (table.at_first s w.server did f g i
    ++ joined (table.notes_all (after_all s (table.at_first s w.server did f g i)) w f g i did.sends did.notes)))
server_rows s w did f g i safe unused quiet law behind =
    mild_all s _ safe unused
    (all_more IsMild (table.at_first s w.server did f g i) _ (first_mild s w.server did f g i)
    (subst (AreAll IsMild) (sym sends_are)
    (sends_such IsMild w.server g (such_mild g) (behind_notes t w f i did.notes) i did.sends))) law behind
  where
    t : State
    t = after_all s (table.at_first s w.server did f g i)

    sends_are : joined (table.notes_all t w f g i did.sends did.notes)
        ≡ joined (table.sends_all (behind_notes t w f i did.notes) w.server g i did.sends)
    sends_are =
        notes_joined t w f g i did.sends did.notes
        ∙ ap (λ (es : List Event). es ++ joined (table.sends_all (behind_notes t w f i did.notes) w.server g i did.sends)) quiet

-- ---- of drives

-- a drive's event; a repair's WRITE only where no repair runs in the machine
abbrev pub IsIdleEvent : (repairing : Bool) → Event → Type 0
IsIdleEvent r (Repairs k cells e) = r ≡ false
IsIdleEvent r e = IsOfDrive e

-- what stays behind such events
pub record DriveRowsStay (s t : State) : Type 0 where
  pub safe : Safe t
  pub unused : t.granted_since ≡ false
  pub repairing : t.repairing ≡ s.repairing
  pub rows : RowsStay s t

-- a client's WRITE of an earlier tag isn't performed
none_performed : (b : State) (m : Write) → Safe b → b.granted_since ≡ false → Allowed b (Performs m) → ⊥
none_performed b m safe unused a =
    let known = safe.known m a.comes in
    let client = (safe.formed m.entry known.entry).own known.write in
    let low = safe.unissued.entries m.entry known.entry client unused in
    elim (safe.tags.at m.at a.there a.stands) [
      | inl same ↦ omega (arith, low, known.tag, a.right, same)
      | inr next ↦ omega (arith, low, known.tag, a.right, next.1)
    ]

idle_one : (s b : State) (e : Event) → IsIdleEvent s.repairing e → Allowed b e → DriveRowsStay s b → DriveRowsStay s (after b e)
idle_one s b (Performs m) is a h = absurd (none_performed b m h.safe h.unused a)
idle_one s b (Repairs k cells e) is a h = absurd (cc (sym is ∙ sym h.repairing ∙ a.at_work))
idle_one s b (SetsTag k) is a h = record {
  safe = keep_safe b (SetsTag k) a h.safe;
  unused = h.unused;
  repairing = h.repairing;
  rows = record { gone = h.rows.gone; cell = h.rows.cell };
}
idle_one s b (Shows j k) is a h = record {
  safe = keep_safe b (Shows j k) a h.safe;
  unused = h.unused;
  repairing = h.repairing;
  rows = record { gone = h.rows.gone; cell = h.rows.cell };
}
idle_one s b (Fails k) is a h = record {
  safe = keep_safe b (Fails k) a h.safe;
  unused = h.unused;
  repairing = h.repairing;
  rows = record { gone = h.rows.gone; cell = h.rows.cell };
}
idle_one s b e is a h = absurd is

-- Such events leave the rows where no grant was issued.
pub drive_rows : (s : State) (es : List Event) → Safe s → s.granted_since ≡ false → AreAll (IsIdleEvent s.repairing) es →
    Lawful s es → RowsStay s (after_all s es)
drive_rows s es safe unused all law =
    (kept_by_all (IsIdleEvent s.repairing) (DriveRowsStay s) (λ b e. idle_one s b e) s es all law
    (record { safe = safe; unused = unused; repairing = refl; rows = rows_same s })).rows
