-- What the delivered makes answer.
use Rattle.std.specs.Prelude.{◌≡◌, if◌then◌else◌, ◌&&◌, List, Some, None, Option, nat_le, slice_index_or}
use Rattle.std.specs.Option.{option_map}
use Rattle.odds.specs.declared.Odds.{Odds}
use Rattle.paytables.specs.declared.printed.PrintedSheet.{PrintedSheet}
use Rattle.paytables.specs.declared.stepped.SteppedSheet.{SteppedSheet}
use Rattle.paytables.specs.Sheets.{Sheet, Lawful}
use Rattle.paytables.specs.Lists.{rising}

-- what a list of entries answers to a class; nothing where it ends
abbrev pub listed : List (Option Odds) → Sheet
listed entries class = slice_index_or entries class None

abbrev pub printed_sheet : PrintedSheet → Sheet
printed_sheet sheet = listed sheet.entries

-- one entry from a stated class up to class 9
abbrev pub stepped_sheet : SteppedSheet → Sheet
stepped_sheet sheet class = if nat_le sheet.from class && nat_le class 9 then Some sheet.odds else None

-- the entries of a printed sheet, if there is one
abbrev pub entries_of : Option PrintedSheet → Option (List (Option Odds))
entries_of = option_map (λ sheet. sheet.entries)

-- a list of entries, if each may follow the one before it
abbrev pub entries_if_rising : List (Option Odds) → Option (List (Option Odds))
entries_if_rising entries = if rising entries then Some entries else None

-- a sheet is made of a list exactly where the list keeps the law
abbrev pub MadeWhereLawful : List (Option Odds) → Option PrintedSheet → Type 0
MadeWhereLawful entries None = Lawful (listed entries) → ⊥
MadeWhereLawful entries (Some sheet) = (sheet.entries ≡ entries) × Lawful (listed entries)
