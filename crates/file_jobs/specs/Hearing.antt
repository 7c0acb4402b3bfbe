-- What a reply is to its command.
use Rattle.server_rules.specs.Replies.{Hearing, Older, Full, Done, Nothing}
use Rattle.file_jobs.specs.declared.replies.ReplyKind.{ReplyKind}
use Rattle.file_jobs.specs.declared.replies.ReplyKind.TheVariants.{Older as IsOlder, Full as IsFull, Done as IsDone, Nothing as IsNothing}

-- what a reply is to its command, as the rules have it
abbrev pub heard_as : ReplyKind → Hearing
heard_as IsOlder = Older
heard_as IsFull = Full
heard_as IsDone = Done
heard_as IsNothing = Nothing
