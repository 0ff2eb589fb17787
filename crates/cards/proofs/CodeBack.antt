-- A card's code leads back to the card.
use Rattle.std.proofs.Common.{◌≡◌, ℕ, zero, suc, ◌+◌, ◌-◌, ◌*◌, ◌/◌, ◌%◌, ◌<◌, ◌≤◌, ltb, get_or, Ok, Err, refl, ap, ◌∙◌, arith, lit≤}
use Rattle.std.proofs.lemmas.Bool.{cond-false, le-ltb}
use Rattle.cards.specs.declared.card.Card.{Card}
use Rattle.cards.specs.declared.fault.CodeFault.TheVariants.{Above51}
use Rattle.cards.specs.declared.rank.Rank.{Rank}
use Rattle.cards.specs.declared.rank.Rank.TheVariants.{Two, Three, Four, Five, Six, Seven, Eight, Nine, Ten, Jack, Queen, King, Ace}
use Rattle.cards.specs.declared.suit.Suit.{Suit}
use Rattle.cards.specs.declared.suit.Suit.TheVariants.{Clubs, Diamonds, Hearts, Spades}
use Rattle.cards.specs.Codes.{code_of, card_with_code}
use Rattle.cards.specs.Ranks.{rank_number, ranks}
use Rattle.cards.specs.Suits.{suit_number, suits}

-- each rank stands in the list of ranks at its number less two, and so on
rank_there : (r : Rank) → (get_or ranks (rank_number r - 2) Two ≡ r) × (2 ≤ rank_number r) × (rank_number r ≤ 14)
rank_there Two = (refl, lit≤ tt, lit≤ tt)
rank_there Three = (refl, lit≤ tt, lit≤ tt)
rank_there Four = (refl, lit≤ tt, lit≤ tt)
rank_there Five = (refl, lit≤ tt, lit≤ tt)
rank_there Six = (refl, lit≤ tt, lit≤ tt)
rank_there Seven = (refl, lit≤ tt, lit≤ tt)
rank_there Eight = (refl, lit≤ tt, lit≤ tt)
rank_there Nine = (refl, lit≤ tt, lit≤ tt)
rank_there Ten = (refl, lit≤ tt, lit≤ tt)
rank_there Jack = (refl, lit≤ tt, lit≤ tt)
rank_there Queen = (refl, lit≤ tt, lit≤ tt)
rank_there King = (refl, lit≤ tt, lit≤ tt)
rank_there Ace = (refl, lit≤ tt, lit≤ tt)

suit_there : (s : Suit) → (get_or suits (suit_number s) Clubs ≡ s) × (suit_number s ≤ 3)
suit_there Clubs = (refl, lit≤ tt)
suit_there Diamonds = (refl, lit≤ tt)
suit_there Hearts = (refl, lit≤ tt)
suit_there Spades = (refl, lit≤ tt)

rank_at : (k : ℕ) → k < 13 → rank_number (get_or ranks k Two) ≡ k + 2
rank_at zero h = refl
rank_at (suc zero) h = refl
rank_at (suc (suc zero)) h = refl
rank_at (suc (suc (suc zero))) h = refl
rank_at (suc (suc (suc (suc zero)))) h = refl
rank_at (suc (suc (suc (suc (suc zero))))) h = refl
rank_at (suc (suc (suc (suc (suc (suc zero)))))) h = refl
rank_at (suc (suc (suc (suc (suc (suc (suc zero))))))) h = refl
rank_at (suc (suc (suc (suc (suc (suc (suc (suc zero)))))))) h = refl
rank_at (suc (suc (suc (suc (suc (suc (suc (suc (suc zero))))))))) h = refl
rank_at (suc (suc (suc (suc (suc (suc (suc (suc (suc (suc zero)))))))))) h = refl
rank_at (suc (suc (suc (suc (suc (suc (suc (suc (suc (suc (suc zero))))))))))) h = refl
rank_at (suc (suc (suc (suc (suc (suc (suc (suc (suc (suc (suc (suc zero)))))))))))) h = refl
rank_at (suc (suc (suc (suc (suc (suc (suc (suc (suc (suc (suc (suc (suc k))))))))))))) h = absurd (omega arith)

suit_at : (k : ℕ) → k < 4 → suit_number (get_or suits k Clubs) ≡ k
suit_at zero h = refl
suit_at (suc zero) h = refl
suit_at (suc (suc zero)) h = refl
suit_at (suc (suc (suc zero))) h = refl
suit_at (suc (suc (suc (suc k)))) h = absurd (omega arith)

pub code_reads_back : (c : Card) → card_with_code (code_of c) ≡ Ok c
code_reads_back c =
    let r = rank_there c.rank in
    let s = suit_there c.suit in
    let n = code_of c in
    let fours : n / 4 ≡ rank_number c.rank - 2 = omega (arith, r.1, s.1) in
    let ones : n % 4 ≡ suit_number c.suit = omega (arith, r.1, s.1) in
    let rank_is : get_or ranks (n / 4) Two ≡ c.rank = ap (λ k. get_or ranks k Two) fours ∙ r.0 in
    let suit_is : get_or suits (n % 4) Clubs ≡ c.suit = ap (λ k. get_or suits k Clubs) ones ∙ s.0 in
    let small : n ≤ 51 = omega (arith, r.1, r.2, s.1) in
    cond-false (ltb 51 n) (Err Above51) (Ok (record { rank = get_or ranks (n / 4) Two; suit = get_or suits (n % 4) Clubs })) (le-ltb 51 n small)
    ∙ (λ i. Ok (record { rank = rank_is i; suit = suit_is i }))

-- the card at the place of a code has that code
pub code_kept : (n : ℕ) → n ≤ 51 → 4 * (rank_number (get_or ranks (n / 4) Two) - 2) + suit_number (get_or suits (n % 4) Clubs) ≡ n
code_kept n small =
    let r = rank_at (n / 4) (omega arith) in
    let s = suit_at (n % 4) (omega arith) in
    omega (arith, r, s)
