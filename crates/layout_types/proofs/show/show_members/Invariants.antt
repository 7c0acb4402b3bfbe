use Rattle.std.proofs.Common.{◌≡◌, ◌++◌, drop}
use Rattle.layout_types.specs.Lines.{members_lines}
use Rattle.layout_types.proofs.show.show_members.Given as goal

-- what is still shown makes the whole
abbrev pub invariant-loop-n : goal.invariant-loop-n
invariant-loop-n g l =
    l.out ++ members_lines g.T.Show.lines l.path l.n (drop l.n l.list) ≡ l.fn.out ++ members_lines g.T.Show.lines l.path 0 l.list
