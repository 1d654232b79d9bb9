-- How requests and replies write a period.
use Rattle.std.specs.Prelude.{codes}
use Rattle.st_key.specs.declared.period.Period.{Period}
use Rattle.st_key.specs.declared.period.Period.TheVariants.{Day, Week}
use Rattle.st_text.specs.Texts.{Text}

abbrev pub period_name : Period → Text
period_name Day = codes "day"
period_name Week = codes "week"
