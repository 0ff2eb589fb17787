-- The published sheets: their entries by class, from class 0 up.
use Rattle.std.specs.Prelude.{ℕ, List, [], ◌∷◌, None, Option}
use Rattle.odds.specs.declared.Odds.{Odds}
use Rattle.odds.specs.Figures.{odds_of}
use Rattle.published_sheets.specs.declared.PublishedSheet.{PublishedSheet}
use Rattle.published_sheets.specs.declared.PublishedSheet.TheVariants.{Blind, TripsA, TripsB, TripsC, TripsD, TripsE}

-- n to 1
abbrev pub to_1 : ℕ → Option Odds
to_1 n = odds_of n 1

-- no entry below a straight (class 4) on the Blind, none below three of a kind (class 3) on Trips
abbrev pub published_entries : PublishedSheet → List (Option Odds)
published_entries Blind = None ∷ None ∷ None ∷ None ∷ to_1 1 ∷ odds_of 3 2 ∷ to_1 3 ∷ to_1 10 ∷ to_1 50 ∷ to_1 500 ∷ []
published_entries TripsA = None ∷ None ∷ None ∷ to_1 3 ∷ to_1 4 ∷ to_1 7 ∷ to_1 9 ∷ to_1 30 ∷ to_1 40 ∷ to_1 50 ∷ []
published_entries TripsB = None ∷ None ∷ None ∷ to_1 3 ∷ to_1 5 ∷ to_1 6 ∷ to_1 8 ∷ to_1 30 ∷ to_1 40 ∷ to_1 50 ∷ []
published_entries TripsC = None ∷ None ∷ None ∷ to_1 3 ∷ to_1 4 ∷ to_1 7 ∷ to_1 8 ∷ to_1 30 ∷ to_1 40 ∷ to_1 50 ∷ []
published_entries TripsD = None ∷ None ∷ None ∷ to_1 3 ∷ to_1 5 ∷ to_1 6 ∷ to_1 7 ∷ to_1 20 ∷ to_1 40 ∷ to_1 50 ∷ []
published_entries TripsE = None ∷ None ∷ None ∷ to_1 3 ∷ to_1 5 ∷ to_1 6 ∷ to_1 7 ∷ to_1 30 ∷ to_1 40 ∷ to_1 50 ∷ []
