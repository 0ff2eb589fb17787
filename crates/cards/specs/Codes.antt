-- Every card has a code, a number from 0 to 51.
use Rattle.std.specs.Prelude.{ℕ, ◌+◌, ◌-◌, ◌*◌, ◌/◌, ◌%◌, if◌then◌else◌, Ok, Err, Result, nat_lt, slice_index_or}
use Rattle.cards.specs.declared.card.Card.{Card}
use Rattle.cards.specs.declared.fault.CodeFault.{CodeFault}
use Rattle.cards.specs.declared.fault.CodeFault.TheVariants.{Above51}
use Rattle.cards.specs.declared.rank.Rank.TheVariants.{Two}
use Rattle.cards.specs.declared.suit.Suit.TheVariants.{Clubs}
use Rattle.cards.specs.Ranks.{rank_number, ranks}
use Rattle.cards.specs.Suits.{suit_number, suits}

-- four cards to a rank, from the twos up; in a rank by suit
abbrev pub code_of : Card → ℕ
code_of c = 4 * (rank_number c.rank - 2) + suit_number c.suit

-- the card with this code; above 51 there is none
abbrev pub card_with_code : ℕ → Result Card CodeFault
card_with_code n =
    if nat_lt 51 n then Err Above51
    else Ok (record { rank = slice_index_or ranks (n / 4) Two; suit = slice_index_or suits (n % 4) Clubs })

-- the number by which a fault is refused
abbrev pub code_fault_number : CodeFault → ℕ
code_fault_number Above51 = 4
