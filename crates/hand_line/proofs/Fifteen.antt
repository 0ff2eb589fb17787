-- The first fifteen bytes of a line tell its answer.
use Rattle.std.proofs.Common.{◌≡◌, ℕ, suc, ◌*◌, ◌<◌, ◌≤◌, List, [], ◌∷◌, ◌++◌, length, take, IfSome, Some, None, Ok, Err, Option, Result, sym, refl, ap, ◌∙◌, ⊎_elim, arith}
use Rattle.std.proofs.lemmas.List.{length-take, length-append, take_all, take-append-le}
use Rattle.std.proofs.lemmas.Grind.{common_steps}
use Rattle.std.proofs.lemmas.Bool.{cases_lt}
use Rattle.cards.specs.declared.card.Card.{Card}
use Rattle.cards.specs.declared.fault.TextFault.{TextFault}
use Rattle.cards.specs.Letters.{card_lettered}
use Rattle.cards.specs.Several.{in_front, cards_of}
use Rattle.hand_line.specs.Seven.{if_seven_different, seven_cards}
use Rattle.hand_line.specs.Answers.{answer_for, answer_of}
use Rattle.hand_line.proofs.Reading.{not_seven}

-- where cards were read from so many letters, each took two
abbrev TwoLettersEach : ℕ → Option (List Card) → Type 0
TwoLettersEach letters o = IfSome o (λ cs. letters ≡ 2 * length cs)

one_card_more : (n : ℕ) (x : Result Card TextFault) (rest : Option (List Card)) → TwoLettersEach n rest → TwoLettersEach (suc (suc n)) (in_front x rest)
one_card_more n (Err f) rest h = tt
one_card_more n (Ok c) None h = tt
one_card_more n (Ok c) (Some cs) h = omega arith

two_letters_each : (line : List ℕ) → TwoLettersEach (length line) (cards_of line)
two_letters_each [] = refl
two_letters_each (r ∷ []) = tt
two_letters_each (r ∷ s ∷ rest) = one_card_more (length rest) (card_lettered r s) (cards_of rest) (two_letters_each rest)

-- seven cards have fourteen letters
fourteen_letters : (line : List ℕ) → (length line ≡ 14 → ⊥) → seven_cards line ≡ None
fourteen_letters line ne = go (cards_of line) (two_letters_each line)
  where
    go : (o : Option (List Card)) → TwoLettersEach (length line) o → if_seven_different o ≡ None
    go None h = refl
    go (Some cs) h = not_seven cs (λ seven. ne (omega arith))

pub fifteen_tell : (line : List ℕ) → answer_of (take 15 line) ≡ answer_of line
unfolding answer_of
fifteen_tell line =
    ⊎_elim
    (λ long.
    ap answer_for (fourteen_letters (take 15 line) (λ h. omega (arith, length-take 15 line)) ∙ sym (fourteen_letters line (λ h. omega arith))))
    (λ short. ap answer_of (take_all 15 line short)) (cases_lt 15 (length line))

-- what is kept of a line, with one byte more
module _ (text kept : List ℕ) (byte : ℕ) (stands : kept ≡ take 15 text) where
  pub one_more_kept : length kept < 15 → kept ++ byte ∷ [] ≡ take 15 (text ++ byte ∷ [])
  one_more_kept room = grind (arith, common_steps, take_all, length-take, length-append)

  pub no_more_kept : 15 ≤ length kept → kept ≡ take 15 (text ++ byte ∷ [])
  no_more_kept full = grind (arith, common_steps, take-append-le, length-take)
