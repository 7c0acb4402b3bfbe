-- The names of why a line gives no event.
use Rattle.std.specs.Prelude.{ℕ, List, codes}
use Rattle.scenario_text.specs.declared.event.EventErr.{EventErr}
use Rattle.scenario_text.specs.declared.event.EventErr.TheVariants.{UnknownWord, BadName, BadNumber, BadHex}
use Rattle.scenario_text.specs.declared.event.EventErr.TheVariants.{Missing, Extra, Memory}

abbrev pub event_error_name : EventErr → List ℕ
event_error_name UnknownWord = codes "UnknownWord"
event_error_name BadName = codes "BadName"
event_error_name BadNumber = codes "BadNumber"
event_error_name BadHex = codes "BadHex"
event_error_name Missing = codes "Missing"
event_error_name Extra = codes "Extra"
event_error_name Memory = codes "Memory"
