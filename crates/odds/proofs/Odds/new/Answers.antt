use Rattle.std.proofs.Common.{rules}
use Rattle.odds.proofs.SameOdds.{is_odds_of}
use Rattle.odds.proofs.Odds.new.Goals as goal

pub returns-then-not-in_range-clause-made : goal.returns-then-not-in_range-clause-made
returns-then-not-in_range-clause-made c = is_odds_of c.args.numerator c.args.denominator (search rules)

pub returns-clause-made : goal.returns-clause-made
returns-clause-made c = is_odds_of c.args.numerator c.args.denominator (search rules)
