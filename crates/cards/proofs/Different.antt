-- A card among others: equal cards are those with the same code.
use Rattle.std.proofs.Common.{◌≡◌, Bool, true, ◌&&◌, ◌||◌, eqb, List, [], ◌∷◌, Ok, Result, sym, refl, ap, ap₂, ◌∙◌, ⊎_elim, rules}
use Rattle.std.proofs.lemmas.Bool.{cases_Bool, eqb-true, eqb-false, eq-eqb, ne_eqb}
use Rattle.std.specs.List.{list_any}
use denote.Enum.Bare.{sameb, same_true, true_same}
use Rattle.cards.specs.contracts.rank.Rank.{the_type as rank_type}
use Rattle.cards.specs.contracts.suit.Suit.{the_type as suit_type}
use Rattle.cards.specs.declared.card.Card.{Card}
use Rattle.cards.specs.declared.fault.CodeFault.{CodeFault}
use Rattle.cards.specs.Codes.{code_of, card_with_code}
use Rattle.cards.specs.Several.{among}
use Rattle.cards.proofs.CodeBack.{code_reads_back}

-- what `==` tells of two cards
abbrev pub same_card : Card → Card → Bool
same_card c d = sameb rank_type c.rank d.rank && sameb suit_type c.suit d.suit

same_card_is_same : (c d : Card) → same_card c d ≡ true → c ≡ d
same_card_is_same c d h =
    let rank_is : c.rank ≡ d.rank = same_true rank_type (search rules) _ _ (search rules) in
    let suit_is : c.suit ≡ d.suit = same_true suit_type (search rules) _ _ (search rules) in
    λ i. record { rank = rank_is i; suit = suit_is i }

same_is_same_card : (c d : Card) → c ≡ d → same_card c d ≡ true
same_is_same_card c d e = ap₂ ◌&&◌ (true_same rank_type c.rank d.rank (ap (λ x. x.rank) e)) (true_same suit_type c.suit d.suit (ap (λ x. x.suit) e))

same_code_is_same : (c d : Card) → code_of c ≡ code_of d → c ≡ d
same_code_is_same c d e =
    let read : ◌≡◌ {A = Result Card CodeFault} (Ok c) (Ok d) = sym (code_reads_back c) ∙ ap card_with_code e ∙ code_reads_back d in
    cc

pub same_card_same_code : (c d : Card) → same_card d c ≡ eqb (code_of c) (code_of d)
same_card_same_code c d =
    ⊎_elim
    (λ same. let e = eqb-true (code_of c) (code_of d) same in same_is_same_card d c (sym (same_code_is_same c d e)) ∙ sym same)
    (λ other. ⊎_elim
    (λ h. absurd (eqb-false (code_of c) (code_of d) other (ap code_of (sym (same_card_is_same d c h)))))
    (λ h. h ∙ sym other)
    (cases_Bool (same_card d c)))
    (cases_Bool (eqb (code_of c) (code_of d)))

pub any_same_is_among : (c : Card) (ds : List Card) → list_any (λ d. same_card d c) ds ≡ among c ds
any_same_is_among c [] = refl
any_same_is_among c (d ∷ ds) = ap₂ ◌||◌ (same_card_same_code c d) (any_same_is_among c ds)

-- a card among others, one at a time: the first has its code, or the others tell
pub among_same : (c d : Card) (ds : List Card) → code_of c ≡ code_of d → among c (d ∷ ds) ≡ true
among_same c d ds e = ap (λ same. same || among c ds) (eq-eqb (code_of c) (code_of d) e)

pub among_other : (c d : Card) (ds : List Card) → (code_of c ≡ code_of d → ⊥) → among c (d ∷ ds) ≡ among c ds
among_other c d ds ne = ap (λ same. same || among c ds) (ne_eqb (code_of c) (code_of d) ne)
