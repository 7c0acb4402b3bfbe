-- What became of a grant that a client holds, over a move: while it is live, and while the fence that ends it runs, its
-- components stand or are over; and all are over once that fence is.
-- Towards `EachHeldBecame` (`headline_law/specs/FoundHeld.antt`).
use Rattle.std.proofs.Common.{◌≡◌, ◌⊎◌, ◌||◌, ◌+◌, ◌++◌, ◌<◌, ◌≤◌, ℕ, Bool, true, false, List, [], Option, Some, None, refl, sym, ap, subst, ◌∙◌, inl, inr, arith}
use Rattle.std.proofs.lemmas.Bool.{cases_Bool, leb-true}
use Rattle.std.proofs.lemmas.Bool.Decides.{nat_tests}
use Rattle.std.proofs.lemmas.List.{append-nil}
use Rattle.osd_objects.specs.declared.object.StoredObject.{StoredObject}
use Rattle.osd_objects.specs.Store.{object_at}
use Rattle.scenario_text.specs.declared.line.Line.{Line}
use Rattle.server_rules.specs.Files.{file_at}
use Rattle.server_rules.specs.Grants.{grant_of}
use Rattle.world_history.specs.ClientNames.{Credential, Held, Listed}
use Rattle.world_history.specs.ServerNames.{File, Grant, Server}
use Rattle.world_history.specs.Plans.{due}
use Rattle.world_history.specs.Sending.{Move, move}
use Rattle.world_history.specs.State.{World, DriveAt, at_number}
use Rattle.history_law.specs.Moments.{IsMoment, lines_in, plan_at}
use Rattle.history_law.specs.Reaching.{has_reached, has_tag}
use Rattle.history_law.specs.Unforged.{AreUnforged}
use Rattle.history_law.proofs.Unforged.{unforged_front}
use Rattle.history_law.proofs.DriveLines.{drive_read}
use Rattle.history_law.proofs.Reaching.{has_stays}
use Rattle.history_law.proofs.Spending.{all_spend}
use Rattle.component_law.specs.Listed.{IsOffline}
use Rattle.exchange_law.proofs.HeldWorlds.{next_moment}
use Rattle.exchange_law.proofs.Replied.{read_at}
use Rattle.component_law.specs.Offline.{OfflineHaveFailed}
use Rattle.file_simulation.specs.Claim.{IsOfScenario}
use Rattle.file_simulation.proofs.Fronts.{scenario_before}
use Rattle.relation_law.proofs.ComponentsMoved.{MovedLaws}
use Rattle.relation_law.proofs.DriveMoves.{got_in}
use Rattle.headline_law.specs.FoundHeld.{Became, BecameAt, EachFenceSetsTags, EachFileIsSettled, IsListedWith, IsOpen, IsOver, IsSettledAt, StandsYet, Lasts, Ended}
use Rattle.headline_law.proofs.FoundFences.{AreKept, ComesTo}
use Rattle.headline_law.proofs.FoundServed.{Goes}

-- what is known of histories
pub record GoesLaws : Type 0 where
  pub moved : MovedLaws
  pub offline : OfflineHaveFailed
  pub settled : EachFileIsSettled
  pub fences : EachFenceSetsTags

-- ---- tags

-- what has reached a tag has reached each lower one
reached_low : (o : Option DriveAt) (object low high : ℕ) → low ≤ high → has_reached object high o ≡ true →
    has_reached object low o ≡ true
reached_low None object low high le e = absurd (cc e)
reached_low (Some a) object low high le e = by_failed a.failed refl e
  where
    by_tag : (x : Option StoredObject) → has_tag high x ≡ true → has_tag low x ≡ true
    by_tag None f = absurd (cc f)
    by_tag (Some x) f = let at : high ≤ x.tag = leb-true high x.tag f in grind (arith, at, le, nat_tests)

    by_failed : (b : Bool) → a.failed ≡ b → (b || has_tag high (object_at a.state.store object)) ≡ true →
        (a.failed || has_tag low (object_at a.state.store object)) ≡ true
    by_failed true failed f = rw failed refl
    by_failed false lives f = rw lives (by_tag (object_at a.state.store object) f)

-- ---- a move

module _ (laws : GoesLaws) (w : World) (h : List Line) (k : IsMoment w h) (m : Move) (d : due (plan_at k) w ≡ Some m.action)
    (scenario : IsOfScenario (h ++ lines_in w m)) (fair : AreUnforged (h ++ lines_in w m)) where
  abbrev v : World
  v = (move w m).world

  pub next : IsMoment (move w m).world (h ++ lines_in w m)
  next = next_moment w h k m d

  -- what is over stays so
  over_stays : (l : Listed) (cr : Credential) → IsOver w l cr → IsOver v l cr
  over_stays l cr over =
      let before = read_at w h k in
      let behind = read_at v (h ++ lines_in w m) next in
      subst (λ (o : Option DriveAt). has_reached l.id.oid_object_id (cr.capability.tag + 1) o ≡ true)
      (drive_read v behind.injected (h ++ lines_in w m) cr.drive behind.drives)
      (has_stays (h ++ lines_in w m) h (lines_in w m) [] (all_spend (h ++ lines_in w m) behind.lines)
      (ap (λ (ls : List Line). h ++ ls) (sym (append-nil (lines_in w m)))) cr.drive l.id.oid_object_id cr.capability.tag
      (subst (λ (o : Option DriveAt). has_reached l.id.oid_object_id (cr.capability.tag + 1) o ≡ true)
      (sym (drive_read w before.injected h cr.drive before.drives)) over))

  -- what an offline drive has is over
  pub off_over : (l : Listed) (cr : Credential) → IsOffline v.server.drives cr.drive → IsOver v l cr
  off_over l cr off =
      let a = laws.offline v (h ++ lines_in w m) next cr.drive off in
      subst (λ (o : Option DriveAt). has_reached l.id.oid_object_id (cr.capability.tag + 1) o ≡ true) (sym a.1) (rw a.2 refl)

  module _ (c n : ℕ) (f g : File) (there : file_at v.server.files n ≡ Some g) (x : Held)
      (each : (i : ℕ) (l : Listed) (cr : Credential) → IsListedWith x i l cr → StandsYet f i l cr ⊎ IsOver w l cr) where
    -- under the same tag
    kept_yet : AreKept (IsOffline v.server.drives) f.kept.components g.kept.components → g.kept.tag ≡ f.kept.tag →
        (i : ℕ) (l : Listed) (cr : Credential) → IsListedWith x i l cr → StandsYet g i l cr ⊎ IsOver v l cr
    kept_yet on tag i l cr lists = elim (each i l cr lists) [
      | inr over ↦ inr (over_stays l cr over)
      | inl s ↦ elim (on i s.component s.there s.present) [
        | inl off ↦ inr (off_over l cr (subst (IsOffline v.server.drives) s.drive off))
        | inr yet ↦
            inl (record {
              component = yet.component;
              there = yet.there;
              present = yet.present;
              drive = yet.drive ∙ s.drive;
              object = yet.object ∙ s.object;
              tag = s.tag ∙ sym tag;
            })
      ]
    ]

    -- once the tag is raised
    over_then : AreKept (IsOffline v.server.drives) f.kept.components g.kept.components → g.kept.ready ≡ true →
        f.kept.tag < g.kept.tag → (i : ℕ) (l : Listed) (cr : Credential) → IsListedWith x i l cr → IsOver v l cr
    over_then on ready less i l cr lists = elim (each i l cr lists) [
      | inr over ↦ over_stays l cr over
      | inl s ↦ elim (on i s.component s.there s.present) [
        | inl off ↦ off_over l cr (subst (IsOffline v.server.drives) s.drive off)
        | inr yet ↦
            let settled = laws.settled v (h ++ lines_in w m) next scenario fair n g there in
            let raised = settled.raised ready yet.component (got_in g.kept.components i yet.component yet.there) yet.present in
            reached_low (at_number v.drives cr.drive) l.id.oid_object_id (cr.capability.tag + 1) g.kept.tag
            (omega (arith, less, s.tag))
            (subst (λ (o : ℕ). has_reached o g.kept.tag (at_number v.drives cr.drive) ≡ true) (yet.object ∙ s.object)
            (subst (λ (o : ℕ). has_reached yet.component.object g.kept.tag (at_number v.drives o) ≡ true)
            (yet.drive ∙ s.drive) raised))
      ]
    ]

    comes_to : f.kept.ready ≡ true → ComesTo (IsOffline v.server.drives) f.kept g.kept → Became v c g x
    comes_to ready (on, made, inl (phase, tag)) = Lasts (inr phase) (kept_yet on tag)
    comes_to ready (on, made, inr less) = Ended (over_then on (made ready) less)

  -- a file goes on, under a grant that isn't being returned
  pub became_goes : (c n : ℕ) (f g : File) → file_at w.server.files n ≡ Some f → file_at v.server.files n ≡ Some g → (x : Held) →
      (But : ℕ → Type 0) → (But c → ⊥) → Goes (IsOffline v.server.drives) f.kept But g.kept → Became w c f x → Became v c g x
  became_goes c n f g was there x But but goes (Ended each) =
      Ended (λ i l cr lists. over_stays l cr (each i l cr lists))
  became_goes c n f g was there x But but goes (Lasts open_ each) = by open_ (cases_Bool f.kept.ready)
    where
      settled : IsSettledAt w f
      settled =
          laws.settled w h k (scenario_before h (lines_in w m) scenario) (unforged_front h (lines_in w m) fair) n f was

      by : IsOpen c f → (f.kept.ready ≡ true) ⊎ (f.kept.ready ≡ false) → Became v c g x
      by (inl (y, live)) (inl ready) = elim (goes.live c y but live) [
        | inl stays ↦ Lasts (inl (stays.0, stays.1)) (kept_yet c n f g there x each stays.2 stays.3)
        | inr comes ↦ comes_to c n f g there x each ready comes
      ]
      by (inr phase) (inl ready) = comes_to c n f g there x each ready (goes.fencing phase)
      by (inl (y, live)) (inr unready) =
          absurd (cc (sym (ap (λ (gs : List Grant). grant_of gs c) (settled.unmade unready).0) ∙ live))
      by (inr phase) (inr unready) = absurd (cc (sym phase ∙ (settled.unmade unready).1))

  -- where the server rests
  pub rests : v.server ≡ w.server → (c n : ℕ) (x : Held) → BecameAt w c n x → BecameAt v c n x
  rests same c n x b = record {
    file = b.file;
    there = ap (λ (s : Server). file_at s.files n) same ∙ b.there;
    became = by b.became;
  }
    where
      by : Became w c b.file x → Became v c b.file x
      by (Ended each) = Ended (λ i l cr lists. over_stays l cr (each i l cr lists))
      by (Lasts open_ each) = Lasts open_ (λ i l cr lists. elim (each i l cr lists) [
        | inl yet ↦ inl yet
        | inr over ↦ inr (over_stays l cr over)
      ])
