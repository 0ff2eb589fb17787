-- The thirteen ranks, their numbers and their letters.
use Rattle.std.specs.Prelude.{ℕ, List, [], ◌∷◌}
use Rattle.cards.specs.declared.rank.Rank.{Rank}
use Rattle.cards.specs.declared.rank.Rank.TheVariants.{Two, Three, Four, Five, Six, Seven, Eight, Nine, Ten, Jack, Queen, King, Ace}

-- 2 to 14; the ace is the highest
abbrev pub rank_number : Rank → ℕ
rank_number Two = 2
rank_number Three = 3
rank_number Four = 4
rank_number Five = 5
rank_number Six = 6
rank_number Seven = 7
rank_number Eight = 8
rank_number Nine = 9
rank_number Ten = 10
rank_number Jack = 11
rank_number Queen = 12
rank_number King = 13
rank_number Ace = 14

-- the letter that stands for a rank, as the code of its character: 2 to 9, T, J, Q, K, A
abbrev pub rank_letter : Rank → ℕ
rank_letter Two = 50  -- 2
rank_letter Three = 51  -- 3
rank_letter Four = 52  -- 4
rank_letter Five = 53  -- 5
rank_letter Six = 54  -- 6
rank_letter Seven = 55  -- 7
rank_letter Eight = 56  -- 8
rank_letter Nine = 57  -- 9
rank_letter Ten = 84  -- T
rank_letter Jack = 74  -- J
rank_letter Queen = 81  -- Q
rank_letter King = 75  -- K
rank_letter Ace = 65  -- A

-- all ranks, from the lowest
abbrev pub ranks : List Rank
ranks = Two ∷ Three ∷ Four ∷ Five ∷ Six ∷ Seven ∷ Eight ∷ Nine ∷ Ten ∷ Jack ∷ Queen ∷ King ∷ Ace ∷ []
