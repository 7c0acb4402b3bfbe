-- The actions, their numbers and their rights.
use Rattle.std.specs.Prelude.{ℕ, Option, Some, None, if◌then◌else◌, nat_eq}
use Rattle.osd_capability.specs.declared.rights.TheConstants.{RIGHT_CREATE, RIGHT_READ, RIGHT_WRITE, RIGHT_GET_ATTR, RIGHT_SET_ATTR, RIGHT_SET_TAG}
use Rattle.osd_commands.specs.declared.actions.Action.{Action}
use Rattle.osd_commands.specs.declared.actions.Action.TheVariants.{Create, Read, Write, GetAttr, SetAttr, SetTag}

abbrev pub number_of : Action → ℕ
number_of Create = 1
number_of Read = 2
number_of Write = 3
number_of GetAttr = 4
number_of SetAttr = 5
number_of SetTag = 6

abbrev pub action_of : ℕ → Option Action
action_of n =
    if nat_eq n 1 then Some Create
    else if nat_eq n 2 then Some Read
    else if nat_eq n 3 then Some Write
    else if nat_eq n 4 then Some GetAttr
    else if nat_eq n 5 then Some SetAttr
    else if nat_eq n 6 then Some SetTag
    else None

abbrev pub right_of : Action → ℕ
right_of Create = RIGHT_CREATE
right_of Read = RIGHT_READ
right_of Write = RIGHT_WRITE
right_of GetAttr = RIGHT_GET_ATTR
right_of SetAttr = RIGHT_SET_ATTR
right_of SetTag = RIGHT_SET_TAG
