-- What the code names of the rules' commands: what is asked, and of which components.
use Rattle.server_rules.specs.Commands.{Ask as RulesAsk, Creating, Raising, Reading, Measuring, Which as RulesWhich, All, Only, OfGroup, FirstsOf}
use Rattle.stripe_repair.specs.declared.commands.Ask.{Ask}
use Rattle.stripe_repair.specs.declared.commands.Ask.TheVariants.{Create, Raise, Read, Measure}
use Rattle.stripe_repair.specs.declared.commands.Which.{Which}
use Rattle.stripe_repair.specs.declared.commands.Which.TheVariants.{Every, One, Group, Firsts}

-- what is asked of an object
abbrev pub asked : Ask → RulesAsk
asked Create = Creating
asked Raise = Raising
asked (Read offset length) = Reading offset length
asked Measure = Measuring

-- which of the present components are meant
abbrev pub meant : Which → RulesWhich
meant Every = All
meant (One component) = Only component
meant (Group group) = OfGroup group
meant (Firsts group) = FirstsOf group
