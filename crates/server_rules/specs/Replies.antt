-- A drive's reply at the file whose job awaits it.
use Rattle.std.specs.Prelude.{ℕ, Bool, true, false, List, [], ◌∷◌, ◌++◌, Option, Some, None, ◌+◌, ◌==◌, ◌&&◌, ◌||◌, not, if◌then◌else◌, find, filter, map}
use Rattle.osd_capability.specs.declared.layout.TheConstants.{FORMAT_SHA256}
use Rattle.osd_commands.specs.declared.actions.Action.{Action}
use Rattle.osd_commands.specs.declared.actions.Action.TheVariants.{Create, Write, SetTag}
use Rattle.server_rules.specs.declared.limits.TheConstants.{PERFORMED, EXISTS, OTHER_TAG, NO_SPACE, OLD_FORMAT}
use Rattle.server_rules.specs.State.{Kept, Heard, Awaited, Job, Work, Targets, Gathers, Fills, NoSpace, Reply}
use Rattle.server_rules.specs.Standing.{lose_from}
use Rattle.server_rules.specs.Commands.{again_in_2}
use Rattle.server_rules.specs.Going.{Going, with_components, noting, sending}
use Rattle.server_rules.specs.Rebuild.{target_full}
use Rattle.server_rules.specs.Jobs.{waits_or_on, loses}

-- ---- what a reply is to its command

-- OldFormat, NoSpace of a WRITE, an answer that counts, any other
pub data Hearing : Type 0 where
  Older : Hearing
  Full : Hearing
  Done : Hearing
  Nothing : Hearing

-- what the command is
abbrev pub is_create : Action → Bool
is_create Create = true
is_create action = false

abbrev pub is_write : Action → Bool
is_write Write = true
is_write action = false

abbrev pub is_set_tag : Action → Bool
is_set_tag SetTag = true
is_set_tag action = false

-- Perform, at CREATE also Exists, and at SET TAG also the next tag
unfoldable pub is_done : Kept → Awaited → Reply → Bool
is_done f a r =
    (r.verdict == PERFORMED)
    || ((is_create a.command.action && (r.verdict == EXISTS))
    || (is_set_tag a.command.action && ((r.verdict == OTHER_TAG) && (r.detail == f.tag + 1))))

-- the first of these that it is
unfoldable pub hearing : Kept → Awaited → Reply → Hearing
hearing f a r =
    if r.verdict == OLD_FORMAT then Older
    else if is_write a.command.action && (r.verdict == NO_SPACE) then Full
    else if is_done f a r then Done
    else Nothing

-- ---- what comes of it

-- what is still awaited once this command is answered
abbrev pub others : List Awaited → (nonce : ℕ) → List Awaited
others cs nonce = filter (λ a. not (a.command.nonce == nonce)) cs

-- the command that is sent again stands in the place of the former
abbrev pub renewed : Awaited → Awaited → Awaited → Awaited
renewed a b c = if c.command.nonce == a.command.nonce then b else c

-- format 2 from now on, and the command again
abbrev pub renews : Going → Job → Awaited → Going
renews g j a =
    let b : Awaited = again_in_2 a g.effects.nonce
    in record (sending g (b ∷ [])) {
      file = record g.file {
        kept = record g.file.kept { format = FORMAT_SHA256 };
        job = Some (record j { awaited = map (renewed a b) j.awaited });
      };
    }

-- the target's drive has no space, or the component becomes missing
abbrev pub fills_up : Going → Job → Awaited → Work → Going
fills_up g j a (Targets t) = target_full g t
fills_up g j a (Gathers t todo) = target_full g t
fills_up g j a (Fills t todo) = target_full g t
fills_up g j a work =
    loses (noting (with_components g (lose_from (a.component ∷ []) g.file.kept.components 0)) (NoSpace a.component)) j
    work
    (others j.awaited a.command.nonce) false

-- the replies heard, and this
abbrev pub heard_with : Job → Awaited → Reply → List Heard
heard_with j a r = j.heard ++ (record { component = a.component; payload = r.payload } ∷ [])

-- what each of them does
abbrev pub hears : Going → Job → Awaited → Reply → Hearing → Going
hears g j a r Older = renews g j a
hears g j a r Full = fills_up g j a j.work
hears g j a r Done = waits_or_on g j j.work (others j.awaited a.command.nonce) (heard_with j a r)
hears g j a r Nothing = g

-- ---- whom it is for

-- a reply answers a command if it comes from its drive and has its nonce
abbrev pub answers : (drive : ℕ) → Reply → Awaited → Bool
answers drive r a = (a.command.nonce == r.nonce) && (a.drive == drive)

-- the command that it answers, if any
abbrev pub heard_by : Going → Reply → Job → Option Awaited → Option Going
heard_by g r j None = None
heard_by g r j (Some a) = Some (hears g j a r (hearing g.file.kept a r))

-- the job of the file, if any
abbrev pub heard_in : Going → (drive : ℕ) → Reply → Option Job → Option Going
heard_in g drive r None = None
heard_in g drive r (Some j) = heard_by g r j (find (answers drive r) j.awaited)

-- None where no command of its job is answered by it
unfoldable pub on_reply : Going → (drive : ℕ) → Reply → Option Going
on_reply g drive r = heard_in g drive r g.file.job
