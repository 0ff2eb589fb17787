-- The ten classes of hands and their numbers.
use Rattle.std.specs.Prelude.{ℕ}
use Rattle.ranking.specs.declared.class.Class.{Class}
use Rattle.ranking.specs.declared.class.Class.TheVariants.{NoPair, OnePair, TwoPairs, ThreeOfAKind, Straight, Flush, FullHouse, FourOfAKind, StraightFlush, RoyalFlush}

-- the higher the number, the better the class
abbrev pub class_number : Class → ℕ
class_number NoPair = 0
class_number OnePair = 1
class_number TwoPairs = 2
class_number ThreeOfAKind = 3
class_number Straight = 4
class_number Flush = 5
class_number FullHouse = 6
class_number FourOfAKind = 7
class_number StraightFlush = 8
class_number RoyalFlush = 9
