-- What the sheet at a rate answers.
use Rattle.std.specs.Prelude.{◌*◌, min, if◌then◌else◌, None, nat_le}
use Rattle.odds.specs.Figures.{odds_of}
use Rattle.paytables.specs.Sheets.{Sheet}
use Rattle.sheet_tests.specs.declared.rate_sheet.RateSheet.{RateSheet}

abbrev pub rate_sheet : RateSheet → Sheet
rate_sheet sheet class = if nat_le class 9 then odds_of (min (sheet.halves * class) 1000) 2 else None
