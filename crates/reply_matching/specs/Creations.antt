-- What a drive's reply says of the object that a CREATE is to make.
use Rattle.std.specs.Prelude.{ℕ, ◌==◌, not, List, Option, Some, None, Result, Ok, Err, if◌then◌else◌}
use Rattle.osd_commands.specs.declared.commands.Command.{Command}
use Rattle.osd_commands.specs.declared.commands.CommandErr.{CommandErr}
use Rattle.osd_commands.specs.declared.replies.Reply.{Reply}
use Rattle.osd_commands.specs.Commands as commands
use Rattle.osd_commands.specs.Replies as replies
use Rattle.server_rules.specs.declared.limits.TheConstants.{EXISTS, OLD_FORMAT, PERFORMED}
use Rattle.server_rules.specs.Replies.{is_create}
use Rattle.reply_matching.specs.declared.making.Creation.{Creation}
use Rattle.reply_matching.specs.declared.making.Creation.TheVariants.{Made, Held, OldFormat, Refused}

-- by the reply's verdict, if it is to this command
abbrev pub creation_by : Command → Reply → Creation
creation_by c r =
    if not (r.nonce == c.nonce) then Refused c.object
    else if r.verdict == PERFORMED then Made c.object
    else if r.verdict == EXISTS then Held c.object
    else if r.verdict == OLD_FORMAT then OldFormat
    else Refused c.object

-- what can't be read is no reply
abbrev pub creation_of : Command → Result Reply CommandErr → Creation
creation_of c (Ok r) = creation_by c r
creation_of c (Err e) = Refused c.object

abbrev pub creation_in : Result Command CommandErr → Result Reply CommandErr → Option Creation
creation_in (Ok c) r = if is_create c.action then Some (creation_of c r) else None
creation_in (Err e) r = None

-- `None` where the command is no CREATE
abbrev pub creation_told : (message reply : List ℕ) → Option Creation
creation_told message reply = creation_in (commands.reading message) (replies.reading reply)

abbrev pub created_in : Result Command CommandErr → Option ℕ
created_in (Ok c) = if is_create c.action then Some c.object else None
created_in (Err e) = None

-- the object that a command is to make
abbrev pub created_object : (message : List ℕ) → Option ℕ
created_object message = created_in (commands.reading message)
