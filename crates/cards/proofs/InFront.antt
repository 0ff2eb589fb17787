-- Reading cards from the front of a line one after another.
use Rattle.std.proofs.Common.{◌≡◌, ℕ, suc, List, [], ◌∷◌, ◌++◌, drop, Ok, Err, Result, sym, refl, ap, ◌∙◌}
use Rattle.std.proofs.lemmas.List.{append_assoc, append-nil}
use Rattle.cards.specs.declared.card.Card.{Card}
use Rattle.cards.specs.declared.fault.TextFault.{TextFault}
use Rattle.cards.specs.Letters.{card_in_front}
use Rattle.cards.specs.Several.{before_cards, cards_in_front}

-- cards read before, in front of those that are read from the rest
abbrev pub behind : List Card → Result (List Card) TextFault → Result (List Card) TextFault
behind cs (Ok ds) = Ok (cs ++ ds)
behind cs (Err fault) = Err fault

behind_both : (cs : List Card) (c : Card) (read : Result (List Card) TextFault) → behind cs (before_cards (Ok c) read) ≡ behind (cs ++ c ∷ []) read
behind_both cs c (Ok ds) = ap Ok (sym (append_assoc cs (c ∷ []) ds))
behind_both cs c (Err fault) = refl

-- one card more is read, and comes behind those read before
pub card_read : (n m : ℕ) (cs : List Card) (c : Card) (line after : List ℕ) → n ≡ suc m → card_in_front line ≡ Ok c → after ≡ drop 2 line
    → behind cs (cards_in_front n line) ≡ behind (cs ++ c ∷ []) (cards_in_front m after)
card_read n m cs c line after one e rest =
    ap (λ k. behind cs (cards_in_front k line)) one
    ∙ ap (λ x. behind cs (before_cards x (cards_in_front m (drop 2 line)))) e
    ∙ behind_both cs c (cards_in_front m (drop 2 line))
    ∙ ap (λ l. behind (cs ++ c ∷ []) (cards_in_front m l)) (sym rest)

-- where the next is no card, all ends at its fault
pub no_card : (n m : ℕ) (cs : List Card) (fault : TextFault) (line : List ℕ) → n ≡ suc m → card_in_front line ≡ Err fault
    → behind cs (cards_in_front n line) ≡ Err fault
no_card n m cs fault line one e =
    ap (λ k. behind cs (cards_in_front k line)) one ∙ ap (λ x. behind cs (before_cards x (cards_in_front m (drop 2 line)))) e

-- where no more are to be read, those read before are all
pub all_read : (m : ℕ) (cs : List Card) (line : List ℕ) → m ≡ 0 → behind cs (cards_in_front m line) ≡ Ok cs
all_read m cs line none = ap (λ k. behind cs (cards_in_front k line)) none ∙ ap Ok (append-nil cs)
