-- Cards in front of a line are those whose letters stand there, and no others.
use Rattle.std.proofs.Common.{◌≡◌, ℕ, zero, suc, ◌*◌, Bool, true, false, cond, eqb, List, [], ◌∷◌, ◌++◌, length, drop, Ok, Err, Result, sym, refl, ap, ap₂, ◌∙◌, arith, rules}
use Rattle.std.specs.Result.{IsErr, MatchResult}
use Rattle.std.proofs.lemmas.Bool.{eqb-true}
use Rattle.std.proofs.lemmas.List.{drop-drop}
use Rattle.cards.specs.declared.card.Card.{Card}
use Rattle.cards.specs.declared.rank.Rank.{Rank}
use Rattle.cards.specs.declared.suit.Suit.{Suit}
use Rattle.cards.specs.declared.fault.TextFault.{TextFault}
use Rattle.cards.specs.declared.fault.TextFault.TheVariants.{NoSuchRank, NoSuchSuit}
use Rattle.cards.specs.Ranks.{rank_letter, ranks}
use Rattle.cards.specs.Suits.{suit_letter, suits}
use Rattle.cards.specs.Letters.{lettered, rank_lettered, suit_lettered, with_rank, card_lettered, card_letters, card_in_front}
use Rattle.cards.specs.Several.{before_cards, cards_in_front, letters_of, InFront}

-- what is found by a letter has it
lettered_has : {X : Type 0} (letter_of : X → ℕ) (l : ℕ) (fault : TextFault) (xs : List X) (x : X) → lettered letter_of l fault xs ≡ Ok x → letter_of x ≡ l
lettered_has letter_of l fault [] x h = cc
lettered_has letter_of l fault (y ∷ ys) x h = go (eqb l (letter_of y)) refl (lettered_has letter_of l fault ys x) h
  where
    go : (same : Bool) → eqb l (letter_of y) ≡ same → (lettered letter_of l fault ys ≡ Ok x → letter_of x ≡ l)
        → cond same (Ok y) (lettered letter_of l fault ys) ≡ Ok x → letter_of x ≡ l
    go true t later e = let is : y ≡ x = cc in sym (ap letter_of is) ∙ sym (eqb-true l (letter_of y) t)
    go false t later e = later e

-- and every rank and every suit is found by its letter
rank_found : (r : Rank) → rank_lettered (rank_letter r) ≡ Ok r
rank_found r = search rules

suit_found : (s : Suit) → suit_lettered (suit_letter s) ≡ Ok s
suit_found s = search rules

card_found : (c : Card) → card_lettered (rank_letter c.rank) (suit_letter c.suit) ≡ Ok c
card_found c = ap₂ with_rank (rank_found c.rank) (suit_found c.suit)

card_has : (r s : ℕ) (c : Card) → card_lettered r s ≡ Ok c → card_letters c ≡ r ∷ s ∷ []
card_has r s c = go (rank_lettered r) (suit_lettered s) refl refl
  where
    go : (k : Result Rank TextFault) (t : Result Suit TextFault) → rank_lettered r ≡ k → suit_lettered s ≡ t → with_rank k t ≡ Ok c → card_letters c ≡ r ∷ s ∷ []
    go (Err e) t p q h = cc
    go (Ok k) (Err e) p q h = cc
    go (Ok k) (Ok t) p q h =
        let card : Card = record { rank = k; suit = t } in
        let is : card ≡ c = cc in
        sym (ap card_letters is) ∙ ap₂ (λ x y. x ∷ y ∷ []) (lettered_has rank_letter r (NoSuchRank r) ranks k p) (lettered_has suit_letter s (NoSuchSuit s) suits t q)

pub first_written : (line : List ℕ) (c : Card) → card_in_front line ≡ Ok c → line ≡ card_letters c ++ drop 2 line
first_written [] c h = cc
first_written (r ∷ []) c h = cc
first_written (r ∷ s ∷ rest) c h = ap (λ l. l ++ rest) (sym (card_has r s c h))

pub cards_written : (n : ℕ) (line : List ℕ) (cs : List Card) → cards_in_front n line ≡ Ok cs → line ≡ letters_of cs ++ drop (2 * n) line
cards_written zero line cs h = let is : ◌≡◌ {A = List Card} [] cs = cc in ap (λ ds. letters_of ds ++ line) is
cards_written (suc n) line cs h = go (card_in_front line) (cards_in_front n (drop 2 line)) refl (cards_written n (drop 2 line)) h
  where
    go : (first : Result Card TextFault) (others : Result (List Card) TextFault) → card_in_front line ≡ first
        → ((ds : List Card) → others ≡ Ok ds → drop 2 line ≡ letters_of ds ++ drop (2 * n) (drop 2 line))
        → before_cards first others ≡ Ok cs → line ≡ letters_of cs ++ drop (2 * suc n) line
    go (Err f) others p later e = cc
    go (Ok c) (Err f) p later e = cc
    go (Ok c) (Ok ds) p later e =
        let is : c ∷ ds ≡ cs = cc in
        let further : drop (2 * n) (drop 2 line) ≡ drop (2 * suc n) line = drop-drop (2 * n) 2 line ∙ ap (λ k. drop k line) (omega arith) in
        first_written line c p ∙ ap (λ l. card_letters c ++ l) (later ds refl) ∙ ap₂ (λ es l. letters_of es ++ l) is further

pub cards_found : (cs : List Card) (rest : List ℕ) → cards_in_front (length cs) (letters_of cs ++ rest) ≡ Ok cs
cards_found [] rest = refl
cards_found (c ∷ cs) rest = ap₂ before_cards (card_found c) (cards_found cs rest)

-- so where the first n cards of a line end at a fault, no n cards stand in front of it
pub none_written : (n : ℕ) (line : List ℕ) (fault : TextFault) → cards_in_front n line ≡ Err fault
    → (cs : List Card) (rest : List ℕ) → length cs ≡ n → InFront cs rest line → ⊥
none_written n line fault h cs rest many stands =
    let found : cards_in_front n line ≡ Ok cs = ap₂ cards_in_front (sym many) stands ∙ cards_found cs rest in
    let both : ◌≡◌ {A = Result (List Card) TextFault} (Ok cs) (Err fault) = sym found ∙ h in
    cc

-- what holds where a fault is told
pub in_err : {A E : Type 0} (found : Result A E) (Good : A → Type 0) (Fact : Type 0) → IsErr found → Fact → MatchResult found Good (λ _. Fact)
in_err (Ok x) Good Fact told fact = cc
in_err (Err e) Good Fact told fact = fact
