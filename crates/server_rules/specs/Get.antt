-- LAYOUTGET: the first row that applies, in levels.
use Rattle.std.specs.Prelude.{ℕ, Bool, List, [], ◌∷◌, ◌++◌, Option, Some, None, is_some, ◌+◌, ◌==◌, ◌||◌, not, nat_lt, min, max, if◌then◌else◌, find}
use Rattle.data_map.specs.declared.ranges.TheConstants.{MAX_FILE_SIZE}
use Rattle.layout_ops.specs.declared.statuses.TheConstants.{LAYOUTIOMODE4_READ, LAYOUTIOMODE4_RW, NFS4_OK, NFS4ERR_BADIOMODE, NFS4ERR_INVAL, NFS4ERR_LAYOUTTRYLATER, NFS4ERR_LAYOUTUNAVAILABLE, NFS4ERR_RECALLCONFLICT}
use Rattle.server_rules.specs.declared.limits.TheConstants.{GREATEST_TAG, GREATEST_GRANT, NO_COMPONENT}
use Rattle.server_rules.specs.State.{File, Kept, Grant, Awaited, Job, Revoking, Spent}
use Rattle.server_rules.specs.Standing.{lacked_from}
use Rattle.server_rules.specs.Grants.{conflicts, grant_of, against, any_expired, asked}
use Rattle.server_rules.specs.Going.{Going, keeping, noting}
use Rattle.server_rules.specs.Jobs.{fence_begins}
use Rattle.server_rules.specs.Served.{Served, tells, says}

-- ---- the component that a job waits for

-- the lower of a number that may be missing and another
abbrev pub lesser : Option ℕ → ℕ → ℕ
lesser None k = k
lesser (Some m) k = min m k

-- the lowest component of these commands, after a lowest one of others
unfoldable pub lowest_after : Option ℕ → List Awaited → Option ℕ
lowest_after m [] = m
lowest_after m (a ∷ cs) = lowest_after (Some (lesser m a.component)) cs

-- the number, or 0
abbrev pub or_zero : Option ℕ → ℕ
or_zero None = 0
or_zero (Some k) = k

-- the lowest component of these commands
abbrev pub lowest : List Awaited → ℕ
lowest cs = or_zero (lowest_after None cs)

-- ---- the rows that look at no grant

-- the row that applies
pub data Early : Type 0 where
  BadMode : Early
  Invalid : Early
  Unable : Early
  Waits : (component : ℕ) → Early
  On : Early

-- a job that runs waits for a component
abbrev pub by_job : Option Job → Early
by_job None = On
by_job (Some j) = Waits (lowest j.awaited)

-- the first of these rows
unfoldable pub early : File → (iomode offset count : ℕ) → Early
early f iomode offset count =
    if not ((iomode == LAYOUTIOMODE4_READ) || (iomode == LAYOUTIOMODE4_RW)) then BadMode
    else if (count == 0) || nat_lt MAX_FILE_SIZE (offset + count) then Invalid
    else if f.spent then Unable
    else by_job f.job

-- ---- the row of the fence

-- the client has a grant, or a conflicting one is expired
unfoldable pub must_fence : (now : ℕ) → List Grant → Grant → Bool
must_fence now gs g = is_some (grant_of gs g.client) || any_expired now (against gs g)

-- ---- the later rows

-- the row that applies
pub data Late : Type 0 where
  NoNumber : Late
  Lacks : (component : ℕ) → Late
  Conflict : (holder : ℕ) → Late
  Gives : Late

-- a grant that conflicts, or none
abbrev pub by_first : Option Grant → Late
by_first None = Gives
by_first (Some d) = Conflict d.client

-- a component that is lacked, or none
abbrev pub by_lacked : Option ℕ → Option Grant → Late
by_lacked (Some k) first = Lacks k
by_lacked None first = by_first first

-- the component that a writer of these stripes would lack
abbrev pub lacked : Kept → Grant → Option ℕ
lacked f g = if g.rw then lacked_from f.map f.components g.first g.end f.components 0 else None

-- the first of these rows
unfoldable pub late : Kept → (next : ℕ) → Grant → Late
late f next g = if nat_lt GREATEST_GRANT next then NoNumber else by_lacked (lacked f g) (find (conflicts g) f.grants)

-- ---- what is done

-- the greatest stripe end of any grant for writing
abbrev pub high_after : ℕ → Grant → ℕ
high_after high g = if g.rw then max high g.end else high

-- the grant
abbrev pub gives : Going → Grant → Served
gives go g = record {
  going =
      keeping go (record go.file.kept {
        grants = go.file.kept.grants ++ (g ∷ []);
        high = high_after go.file.kept.high g;
      });
  recalled = [];
  numbers = 1;
  told = record { status = NFS4_OK; detail = 0; grant = Some g };
}

-- each holder that conflicts is recalled, and the first is named
abbrev pub recalls_for : Going → Grant → (holder : ℕ) → Served
recalls_for go g holder = record {
  going = go;
  recalled = against go.file.kept.grants g;
  numbers = 0;
  told = tells NFS4ERR_LAYOUTTRYLATER holder;
}

-- what the late row does
abbrev pub by_late : Going → Grant → Late → Served
by_late go g NoNumber = says go NFS4ERR_LAYOUTUNAVAILABLE NO_COMPONENT
by_late go g (Lacks k) = says go NFS4ERR_LAYOUTUNAVAILABLE k
by_late go g (Conflict holder) = recalls_for go g holder
by_late go g Gives = gives go g

-- the late rows
unfoldable pub give_or_refuse : Going → (next : ℕ) → Grant → Served
give_or_refuse go next g = by_late go g (late go.file.kept next g)

-- a fence that waits for nobody is over, and the order goes on
abbrev pub after_fence : Going → (next : ℕ) → Grant → Option Job → Served
after_fence go next g None = give_or_refuse go next g
after_fence go next g (Some j) = says go NFS4ERR_RECALLCONFLICT (lowest j.awaited)

-- the order goes on, unless the fence waits
abbrev pub fence_then : Going → (next : ℕ) → Grant → Served
fence_then go next g = after_fence go next g go.file.job

-- the fence, which a spent tag refuses
unfoldable pub fence_first : Going → (next format : ℕ) → Grant → Served
fence_first go next format g =
    if go.file.kept.tag == GREATEST_TAG then says (noting go Spent) NFS4ERR_LAYOUTUNAVAILABLE NO_COMPONENT
    else fence_then (fence_begins Revoking format go) next g

-- the row of the fence and the late rows
unfoldable pub on_grants : Going → (next format now : ℕ) → Grant → Served
on_grants go next format now g =
    if must_fence now go.file.kept.grants g then fence_first go next format g else give_or_refuse go next g

-- what the early row does
abbrev pub by_early : Going → (next format now : ℕ) → Grant → Early → Served
by_early go next format now g BadMode = says go NFS4ERR_BADIOMODE 0
by_early go next format now g Invalid = says go NFS4ERR_INVAL 0
by_early go next format now g Unable = says go NFS4ERR_LAYOUTUNAVAILABLE NO_COMPONENT
by_early go next format now g (Waits k) = says go NFS4ERR_RECALLCONFLICT k
by_early go next format now g On = on_grants go next format now g

-- a LAYOUTGET on a file
unfoldable pub gets : Going → (next format now client : ℕ) → (iomode offset count : ℕ) → Served
gets go next format now client iomode offset count =
    by_early go next format now (asked go.file.kept next client now offset count (iomode == LAYOUTIOMODE4_RW))
    (early go.file iomode offset count)
