-- The published entries rise, by computing, and so each list makes its sheet.
use Rattle.std.proofs.Common.{◌≡◌, true, cond, List, is_some, Some, None, Option, sym, refl, ap, ◌∙◌, rules}
use Rattle.odds.specs.declared.Odds.{Odds}
use Rattle.odds.specs.Figures.{odds_of}
use Rattle.paytables.specs.declared.printed.PrintedSheet.{PrintedSheet}
use Rattle.paytables.specs.Lists.{rising}
use Rattle.paytables.specs.Makes.{entries_of, entries_if_rising}
use Rattle.published_sheets.specs.declared.PublishedSheet.{PublishedSheet}
use Rattle.published_sheets.specs.declared.PublishedSheet.TheVariants.{Blind, TripsA, TripsB, TripsC, TripsD, TripsE}
use Rattle.published_sheets.specs.Published.{published_entries}

pub published_entries_rise : (p : PublishedSheet) → rising (published_entries p) ≡ true
unfolding odds_of
published_entries_rise Blind = refl
published_entries_rise TripsA = refl
published_entries_rise TripsB = refl
published_entries_rise TripsC = refl
published_entries_rise TripsD = refl
published_entries_rise TripsE = refl

module _ (p : PublishedSheet) (es : List (Option Odds)) (made : Option PrintedSheet) (e : es ≡ published_entries p) (h : entries_of made ≡ entries_if_rising es) where
  -- the entries of the sheet that is made are those that were given
  made_of_entries : entries_of made ≡ Some es
  made_of_entries = h ∙ ap (λ b. cond b (Some es) None) (ap rising e ∙ published_entries_rise p)

  -- a sheet is made of published entries
  pub published_is_made : is_some made ≡ true
  published_is_made = search (rules, made_of_entries)

  -- and it lists them
  pub published_is_listed : (sheet : PrintedSheet) → made ≡ Some sheet → sheet.entries ≡ published_entries p
  published_is_listed sheet is = let both = sym (ap entries_of is) ∙ made_of_entries in cc
