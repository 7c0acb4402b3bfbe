-- A LAYOUTCOMMIT and a LAYOUTRETURN leave a file that fits.
use Rattle.std.proofs.Common.{◌≡◌, ◌&&◌, ◌==◌, ℕ, ◌+◌, ◌*◌, ◌≤◌, ◌<◌, Bool, true, false, List, [], ◌∷◌, Option, Some, None, max, nat_lt, nat_le, refl, arith, if◌then◌else◌}
use Rattle.std.proofs.lemmas.Bool.Decides.{nat_tests}
use Rattle.data_map.specs.declared.ranges.TheConstants.{MAX_FILE_SIZE}
use Rattle.data_map.specs.Striping.{stripe_length}
use Rattle.osd_capability.specs.Layout.{is_format}
use Rattle.server_rules.specs.declared.limits.TheConstants.{MAX_CLIENT, GREATEST_TAG}
use Rattle.world_history.specs.ServerNames.{Kept, Component, Grant, Revoking, Spent, Reported, RequestArgs, Get, Commit, Return}
use Rattle.layout_types.specs.declared.ioerrs.IoErr.{IoErr}
use Rattle.server_rules.specs.Numbers.{among}
use Rattle.server_rules.specs.Standing.{lose_from}
use Rattle.server_rules.specs.Grants.{grant_of}
use Rattle.server_rules.specs.Going.{Going, keeping, noting, noting_if}
use Rattle.server_rules.specs.Served.{Served}
use Rattle.server_rules.specs.Commit.{Committed, NoGrant, Wrong, Sizes, may_commit, commit_under, commit_row, by_commit, commits}
use Rattle.server_rules.specs.Return.{loss, Returned, NoGrant as NotHeld, Clean, Taken, TooMany, Fencing, by_loss, by_report, by_grant, return_row, ends_grant, reports_from, takes_loss, by_return, returns_on}
use Rattle.server_rules.specs.Requests.{serves}
use Rattle.server_rules.proofs.Components.{length_lost}
use Rattle.exchange_law.specs.Files.{GrantFits}
use Rattle.exchange_law.proofs.Parts.{each_filtered, JobFits, fit_lost}
use Rattle.exchange_law.proofs.Running.{with_parts, Sound, From, here, noted}
use Rattle.exchange_law.proofs.Mending.{fence_runs}
use Rattle.exchange_law.proofs.CountServing.{noted_behind, ServedFits, GetFits, said, gets_served}

-- ---- LAYOUTCOMMIT

abbrev CommittedFits : Committed → Type 0
CommittedFits (Sizes size) = size ≤ MAX_FILE_SIZE
CommittedFits c = Unit {0}

under_fits : (stripe size : ℕ) (last : Option ℕ) (o : Option Grant) → size ≤ MAX_FILE_SIZE
    → CommittedFits (commit_under stripe size last o)
unfolding commit_under may_commit
under_fits stripe size last None l = tt
under_fits stripe size None (Some g) l = tt
under_fits stripe size (Some last) (Some g) l = either (g.extending) (nat_le (g.first * stripe) last)
    (nat_lt last (g.end * stripe)) (nat_lt last MAX_FILE_SIZE) refl
  where
    either : (a b c d : Bool) → nat_lt last MAX_FILE_SIZE ≡ d
        → CommittedFits (if a && (b && (c && d)) then Sizes (max size (last + 1)) else Wrong)
    either true true true true is = grind (arith, is, l, nat_tests)
    either false b c d is = tt
    either true false c d is = tt
    either true true false d is = tt
    either true true true false is = tt

commit_served : (go : Going) (c : Committed) → Sound go → JobFits go.effects.object go.file.kept.tag go.file.job
    → CommittedFits c → ServedFits go (by_commit go c)
commit_served go NoGrant s j f = said go go _ _ (here go s j) (omega arith) (omega arith)
commit_served go Wrong s j f = said go go _ _ (here go s j) (omega arith) (omega arith)
commit_served go (Sizes size) s j f =
    said go _ _ _ (here (keeping go (record go.file.kept { size = size })) (record {
      kept = record {
        number = s.kept.number;
        map = s.kept.map;
        few = s.kept.few;
        format = s.kept.format;
        tag = s.kept.tag;
        size = f;
        components = s.kept.components;
        grants = s.kept.grants;
        ended = s.kept.ended;
        high = s.kept.high;
      };
      drives = s.drives;
    }) j) (omega arith) (omega arith)

-- ---- LAYOUTRETURN

-- the client's grant goes
ended_behind : (g h : Going) (client : ℕ) → From g h → From g (ends_grant h client)
ended_behind g h client r = record {
  number_is = r.number_is;
  map_is = r.map_is;
  more = r.more;
  sent_is = r.sent_is;
  rises = r.rises;
  objects = r.objects;
  given = r.given;
  near = r.near;
  drives = r.drives;
  kept = record {
    number = r.kept.number;
    map = r.kept.map;
    few = r.kept.few;
    format = r.kept.format;
    tag = r.kept.tag;
    size = r.kept.size;
    components = r.kept.components;
    grants = each_filtered (GrantFits h.file.kept.number h.file.kept.map) _ h.file.kept.grants r.kept.grants;
    ended = r.kept.ended;
    high = r.kept.high;
  };
  job = r.job;
}

reported_behind : (g h : Going) (ks : List ℕ) (cs : List Component) (k : ℕ) → From g h
    → From g (reports_from h ks cs k)
unfolding reports_from
reported_behind g h ks [] k r = r
reported_behind g h ks (at ∷ cs) k r =
    reported_behind g (noting_if (among k ks) h (Reported k)) ks cs (k + 1)
    (noted_behind g h (among k ks) (Reported k) r)

lost_behind : (go : Going) (ks : List ℕ) → Sound go → JobFits go.effects.object go.file.kept.tag go.file.job
    → From go (takes_loss go ks)
unfolding takes_loss
lost_behind go ks s j =
    let h : Going = keeping go (record go.file.kept { components = lose_from ks go.file.kept.components 0 }) in
    reported_behind go h ks go.file.kept.components 0 (here h (record {
      kept = with_parts go.effects.object go.file.kept _ s.kept (length_lost ks go.file.kept.components 0)
          (fit_lost go.effects.object ks go.file.kept.components 0 s.kept.components);
      drives = s.drives;
    }) j)

abbrev ReturnedFits : (tag : ℕ) → Returned → Type 0
ReturnedFits tag Fencing = tag < GREATEST_TAG
ReturnedFits tag r = Unit {0}

by_loss_fits : (f : Kept) (o : Option (List ℕ)) → f.tag ≤ GREATEST_TAG → ReturnedFits f.tag (by_loss f o)
by_loss_fits f (Some ks) l = tt
by_loss_fits f None l = either (f.tag == GREATEST_TAG) refl
  where
    either : (b : Bool) → (f.tag == GREATEST_TAG) ≡ b → ReturnedFits f.tag (if b then TooMany else Fencing)
    either true is = tt
    either false is = grind (arith, is, l, nat_tests)

by_report_fits : (f : Kept) (g : Grant) (report : List IoErr) → f.tag ≤ GREATEST_TAG
    → ReturnedFits f.tag (by_report f g report)
by_report_fits f g [] l = tt
by_report_fits f g (e ∷ es) l = by_loss_fits f (loss f g (e ∷ es)) l

by_grant_fits : (f : Kept) (report : List IoErr) (o : Option Grant) → f.tag ≤ GREATEST_TAG
    → ReturnedFits f.tag (by_grant f report o)
by_grant_fits f report None l = tt
by_grant_fits f report (Some g) l = by_report_fits f g report l

row_fits : (f : Kept) (client : ℕ) (report : List IoErr) → f.tag ≤ GREATEST_TAG
    → ReturnedFits f.tag (return_row f client report)
unfolding return_row
row_fits f client report l = by_grant_fits f report (grant_of f.grants client) l

return_served : (go : Going) (format client : ℕ) (r : Returned) → is_format format ≡ true → Sound go
    → JobFits go.effects.object go.file.kept.tag go.file.job → ReturnedFits go.file.kept.tag r
    → ServedFits go (by_return go format client r)
return_served go format client NotHeld known s j f = said go go _ _ (here go s j) (omega arith) (omega arith)
return_served go format client Clean known s j f =
    said go _ _ _ (ended_behind go go client (here go s j)) (omega arith) (omega arith)
return_served go format client (Taken ks) known s j f =
    said go _ _ _ (ended_behind go (takes_loss go ks) client (lost_behind go ks s j)) (omega arith) (omega arith)
return_served go format client TooMany known s j f =
    said go _ _ _ (here (noting go Spent) (noted go Spent s) j) (omega arith) (omega arith)
return_served go format client Fencing known s j f =
    said go _ _ _ (fence_runs Revoking format go known s f) (omega arith) (omega arith)

-- ---- any request

-- a LAYOUTGET that gives nothing says so
abbrev pub ServesFit : RequestArgs → Going → Served → Type 0
ServesFit (Get iomode offset count) go v = GetFits go v
ServesFit args go v = ServedFits go v

pub serves_fit : (go : Going) (next format now client : ℕ) (args : RequestArgs) → is_format format ≡ true
    → client ≤ MAX_CLIENT → Sound go → JobFits go.effects.object go.file.kept.tag go.file.job
    → ServesFit args go (serves go next format now client args)
unfolding commits returns_on
serves_fit go next format now client (Get iomode offset count) known c s j =
    gets_served go next format now client iomode offset count known c s j
serves_fit go next format now client (Commit last) known c s j =
    commit_served go (commit_row go.file.kept client last) s j
    (under_fits (stripe_length go.file.kept.map) go.file.kept.size last (grant_of go.file.kept.grants client)
    s.kept.size)
serves_fit go next format now client (Return report) known c s j =
    return_served go format client (return_row go.file.kept client report) known s j
    (row_fits go.file.kept client report s.kept.tag)

pub served_fits : (args : RequestArgs) (go : Going) (v : Served) → ServesFit args go v → ServedFits go v
served_fits (Get iomode offset count) go v k = k.fits
served_fits (Commit last) go v k = k
served_fits (Return report) go v k = k
