-- What a client takes from an answer that gives a grant lists the components of the file at which it was made.
use Rattle.std.proofs.Common.{◌≡◌, ◌⊎◌, inl, inr, ℕ, suc, zero, ◌+◌, Bool, true, false, List, [], ◌∷◌, Some, None, Ok, length, slice_get, refl, sym, ap, subst, ◌∙◌, arith, if◌then◌else◌}
use Rattle.osd_capability.specs.Layout.{Fits}
use Rattle.layout_types.specs.declared.layout.Layout.{Layout}
use Rattle.layout_types.specs.Grammar.{whole}
use Rattle.layout_types.specs.Reading.{layout_in}
use Rattle.layout_ops.specs.declared.results.LayoutSegment.{LayoutSegment}
use Rattle.layout_ops.specs.declared.results.LayoutGetOk.{LayoutGetOk}
use Rattle.layout_ops.specs.declared.results.LayoutGetResult.TheVariants as get
use Rattle.layout_ops.specs.declared.results.Results.{Results}
use Rattle.layout_ops.specs.declared.results.Results.TheVariants as results
use Rattle.layout_ops.specs.declared.messages.Answer.{Answer}
use Rattle.client_rules.specs.Layouts.{taken, all_listed}
use Rattle.client_rules.specs.Results.{layouts_in}
use Rattle.server_rules.specs.Commands.{key_at}
use Rattle.server_rules.specs.Layouts.{capability_for, granted, layout_for, segment_for}
use Rattle.world_history.specs.ClientNames.{CallOp, Credential, Held, Listed}
use Rattle.world_history.specs.ServerNames.{Component, Drive, Grant, Kept}
use Rattle.history_law.specs.Granted.{NumbersFit}
use Rattle.history_law.proofs.Exact.{same_ok, one_of, body_read}
use Rattle.exchange_law.proofs.Listing.{listed_all}
use Rattle.exchange_law.proofs.PlaceTaken.{IsTaken, is_taken}
use Rattle.exchange_law.specs.Held.{credential_of, listed_at, listed_from}
use Rattle.exchange_law.specs.HeldTaken.{OnDrives}
use Rattle.component_law.specs.Listed.{IsCredentialFor, IsKnown, IsOffline, ListsComponent, ListsComponents}
use Rattle.component_law.proofs.PartyKeeping.{IsAlike, MayBeLost}

-- ---- what is listed

module _ (ds : List Drive) (f : Kept) (g : Grant) where
  one_listed : (at : Component) (k : ℕ) (b : Bool) → IsKnown ds at.drive → at.missing ≡ b → (l : Listed)
      → record { id = (listed_at ds f g at k).id; credential = if b then None else Some (credential_of ds f g at k) } ≡ l
      → ListsComponent ds f g at k l
  one_listed at k true known e l is =
      subst (ListsComponent ds f g at k) is
      (record { object = refl; credential = λ c x. absurd (cc x); missing = λ x. e; gone = λ c x m. absurd (cc x) })
  one_listed at k false known e l is =
      subst (ListsComponent ds f g at k) is
      (record {
        object = refl;
        credential = λ c x.
            let same : credential_of ds f g at k ≡ c = cc x in
            subst (IsCredentialFor ds f g at k) same (record { drive = refl; capability = refl; known = known; key = refl });
        missing = λ x. absurd (cc x);
        gone = λ c x m. absurd (cc (sym e ∙ m));
      })

  -- the server knows the drive of each of these
  abbrev pub AreKnown : List Component → Type 0
  AreKnown cs = (i : ℕ) (at : Component) → slice_get cs i ≡ Some at → IsKnown ds at.drive

  each_listed : (cs : List Component) (k i : ℕ) (at : Component) (l : Listed) → AreKnown cs → slice_get cs i ≡ Some at
      → slice_get (listed_from ds f g cs k) i ≡ Some l → ListsComponent ds f g at (k + i) l
  unfolding listed_from
  each_listed [] k i at l known found is = absurd (cc found)
  each_listed (a ∷ cs) k zero at l known found is =
      let same : a ≡ at = cc found in
      let it : listed_at ds f g a k ≡ l = cc is in
      let here : k ≡ k + 0 = omega arith in
      subst (λ (n : ℕ). ListsComponent ds f g at n l) here
      (subst (λ (b : Component). ListsComponent ds f g b k l) same (one_listed a k a.missing (known 0 a refl) refl l it))
  each_listed (a ∷ cs) k (suc i) at l known found is =
      let next : k + 1 + i ≡ k + suc i = omega arith in
      subst (λ (n : ℕ). ListsComponent ds f g at n l) next (each_listed cs (k + 1) i at l (λ j. known (suc j)) found is)

  length_listed : (cs : List Component) (k : ℕ) → length (listed_from ds f g cs k) ≡ length cs
  unfolding listed_from
  length_listed [] k = refl
  length_listed (a ∷ cs) k = ap suc (length_listed cs (k + 1))

  lists_given : AreKnown f.components → ListsComponents ds f g (listed_from ds f g f.components 0)
  lists_given known = record {
    count = length_listed f.components 0;
    each = λ k at l found is.
        let same : 0 + k ≡ k = omega arith in
        subst (λ (n : ℕ). ListsComponent ds f g at n l) same (each_listed f.components 0 k at l known found is);
  }

-- ---- what is taken

pub given_is : (r : Results) (given ok : LayoutGetOk) → layouts_in r ≡ Some given → r ≡ results.LayoutGet (get.Granted ok)
    → given ≡ ok
given_is r given ok e is =
    let same : Some ok ≡ Some given = ap layouts_in (sym is) ∙ e in
    cc (sym same)

pub gives_ok : (r : Results) (given : LayoutGetOk) → layouts_in r ≡ Some given
    → r ≡ results.LayoutGet (get.Granted given)
gives_ok (results.LayoutGet (get.Granted ok)) given e =
    let same : ok ≡ given = cc e in ap (λ (y : LayoutGetOk). results.LayoutGet (get.Granted y)) same
gives_ok (results.LayoutGet (get.TryLater signal)) given e = absurd (cc e)
gives_ok (results.LayoutGet (get.Refused status)) given e = absurd (cc e)
gives_ok (results.LayoutCommit r) given e = absurd (cc e)
gives_ok (results.LayoutReturn r) given e = absurd (cc e)

pub taken_gives : (a : Answer) (op : CallOp) (h : Held) → taken a op ≡ Ok h
    → (ok : LayoutGetOk) × (a.results ≡ results.LayoutGet (get.Granted ok))
taken_gives a op h e =
    let t : IsTaken a op h = is_taken a op h e in (t.given, gives_ok a.results t.given t.gives)

pub taken_lists : (ds : List Drive) (f : Kept) (g : Grant) (a : Answer) (op : CallOp) (h : Held)
    → a.results ≡ results.LayoutGet (get.Granted (granted ds f g)) → OnDrives f → AreKnown ds f g f.components → NumbersFit ds f g
    → taken a op ≡ Ok h → ListsComponents ds f g h.components
taken_lists ds f g a op h gives near known fits e =
    let t : IsTaken a op h = is_taken a op h e in
    let ok : t.given ≡ granted ds f g = given_is a.results t.given (granted ds f g) t.gives gives in
    let segment : t.segment ≡ segment_for ds f g =
    one_of t.segment (segment_for ds f g) t.given.layouts t.one (ap (λ (y : LayoutGetOk). y.layouts) ok) in
    let layout : t.layout ≡ layout_for ds f g =
    same_ok t.layout (layout_for ds f g) (whole layout_in t.segment.body) t.body
    (ap (λ (s : LayoutSegment). whole layout_in s.body) segment ∙ body_read ds f g fits.layout) in
    let all : Some (listed_from ds f g f.components 0) ≡ Some h.components =
    sym (listed_all ds f g f.components 0 (λ i at found.
    let same : i ≡ 0 + i = omega arith in
    (near i at found, subst (λ (n : ℕ). Fits (capability_for f g at n)) same (fits.capabilities i at found))))
    ∙ ap (λ (y : Layout). all_listed y.olo_components) (sym layout) ∙ t.components in
    let same : listed_from ds f g f.components 0 ≡ h.components = cc all in
    subst (ListsComponents ds f g) same (lists_given ds f g known)

-- ---- while the grant is live

-- drives that are known stay so, with their keys
abbrev pub KeepKeys : List Drive → List Drive → Type 0
KeepKeys ds es = (n : ℕ) → IsKnown ds n → IsKnown es n × (key_at es n ≡ key_at ds n)

module _ (ds es : List Drive) (on : (n : ℕ) → IsOffline ds n → IsOffline es n) (keep : KeepKeys ds es) (f k : Kept)
    (g : Grant) where
  component_on : (a b : Component) (n : ℕ) (l : Listed) → k.map ≡ f.map → k.format ≡ f.format → k.tag ≡ f.tag
      → MayBeLost (IsOffline es) a b → ListsComponent ds f g a n l → ListsComponent es k g b n l
  component_on a b n l map format tag lost x = record {
    object = rw (lost.drive, lost.object) x.object;
    credential = λ c e.
        let it = x.credential c e in
        let same = keep a.drive it.known in
        record {
          drive = it.drive ∙ sym lost.drive;
          capability = rw (map, format, tag, lost.drive, lost.object) it.capability;
          known = rw lost.drive same.0;
          key = rw (map, format, tag, lost.drive, lost.object, same.1) it.key;
        };
    missing = λ e. lost.missing (x.missing e);
    gone = λ c e m. by c e (lost.gone m);
  }
    where
      by : (c : Credential) → l.credential ≡ Some c → (a.missing ≡ true) ⊎ IsOffline es b.drive → IsOffline es b.drive
      by c e (inl old) = subst (IsOffline es) (sym lost.drive) (on a.drive (x.gone c e old))
      by c e (inr new) = new

  pub lists_on : (ls : List Listed) → IsAlike (IsOffline es) f k → ListsComponents ds f g ls → ListsComponents es k g ls
  lists_on ls alike x = record {
    count = x.count ∙ sym alike.components.count;
    each = λ n b l found is.
        let a = alike.components.each n b found in
        component_on a.0 b n l alike.map alike.format alike.tag a.2 (x.each n a.0 l a.1 is);
  }
