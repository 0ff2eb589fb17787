-- The first cards of a line, and what stands behind them.
use Rattle.std.proofs.Common.{◌≡◌, ℕ, zero, suc, ◌<◌, ◌≤◌, if◌then◌else◌, ◌*◌, ◌⊎◌, List, [], ◌∷◌, ◌++◌, length, take, drop, IfSome, Some, None, Ok, Err, MatchResult, Option, Result, sym, subst, refl, ap, ◌∙◌, inl, inr, ⊎_elim, arith}
use Rattle.std.specs.Bool.{then_some}
use Rattle.std.specs.Option.{option_map}
use Rattle.std.specs.Result.{result_ok}
use Rattle.std.proofs.lemmas.List.{append_assoc, length-append, append-nil, drop-drop, take_all, nil_from_length}
use Rattle.std.proofs.lemmas.Iterator.Adapters.{option_map_id}
use Rattle.cards.specs.declared.card.Card.{Card}
use Rattle.cards.specs.declared.fault.TextFault.{TextFault}
use Rattle.cards.specs.Letters.{card_lettered, card_in_front}
use Rattle.cards.specs.Several.{different, in_front, cards_of, before_cards, cards_in_front}
use Rattle.hand_line.specs.Seven.{if_seven_different, seven_cards}

-- cards in front of others, where these are cards
abbrev pub behind : List Card → Option (List Card) → Option (List Card)
behind cs = option_map (λ ds. cs ++ ds)

abbrev FewerThan : ℕ → Option (List Card) → Type 0
FewerThan n cards = IfSome cards (λ cs. length cs < n)

-- what the first n cards of a line tell of all that it holds
abbrev Tells : ℕ → List ℕ → Result (List Card) TextFault → Type 0
Tells n line first =
    MatchResult first (λ cs. (length cs ≡ n) × (cards_of line ≡ behind cs (cards_of (drop (2 * n) line)))) (λ _. FewerThan n (cards_of line))

one_read : (line : List ℕ) (c : Card) → card_in_front line ≡ Ok c → cards_of line ≡ in_front (Ok c) (cards_of (drop 2 line))
one_read [] c e = grind arith
one_read (r ∷ []) c e = grind arith
one_read (r ∷ s ∷ rest) c e = ap (λ x. in_front x (cards_of rest)) e

no_card : (n : ℕ) (line : List ℕ) (fault : TextFault) → card_in_front line ≡ Err fault → FewerThan (suc n) (cards_of line)
no_card n [] fault e = omega arith
no_card n (r ∷ []) fault e = tt
no_card n (r ∷ s ∷ rest) fault e = subst (λ x. FewerThan (suc n) (in_front x (cards_of rest))) (sym e) tt

one_behind : (c : Card) (cs : List Card) (rest : Option (List Card)) → in_front (Ok c) (behind cs rest) ≡ behind (c ∷ cs) rest
one_behind c cs None = refl
one_behind c cs (Some ds) = refl

one_fewer : (n : ℕ) (c : Card) (rest : Option (List Card)) → FewerThan n rest → FewerThan (suc n) (in_front (Ok c) rest)
one_fewer n c None h = tt
one_fewer n c (Some cs) h = omega arith

-- the first card, and those behind it
one_more : (n : ℕ) (line : List ℕ) (first : Result Card TextFault) (others : Result (List Card) TextFault) → card_in_front line ≡ first
    → Tells n (drop 2 line) others → Tells (suc n) line (before_cards first others)
one_more n line (Err fault) others e told = no_card n line fault e
one_more n line (Ok c) (Err fault) e told = subst (FewerThan (suc n)) (sym (one_read line c e)) (one_fewer n c (cards_of (drop 2 line)) told)
one_more n line (Ok c) (Ok cs) e told = (
  ap suc told.0,
  one_read line c e ∙ ap (in_front (Ok c)) told.1 ∙ one_behind c cs (cards_of (drop (2 * n) (drop 2 line)))
      ∙ ap (λ l. behind (c ∷ cs) (cards_of l)) (drop-drop (2 * n) 2 line ∙ ap (λ k. drop k line) (omega arith)),
)

first_tell : (n : ℕ) (line : List ℕ) → Tells n line (cards_in_front n line)
first_tell zero line = (refl, sym (option_map_id (cards_of line)))
first_tell (suc n) line = one_more n line (card_in_front line) (cards_in_front n (drop 2 line)) refl (first_tell n (drop 2 line))

first_are : (n : ℕ) (line : List ℕ) (first : Result (List Card) TextFault) → cards_in_front n line ≡ first → Tells n line first
first_are n line first e = subst (Tells n line) e (first_tell n line)

in_front_behind : (c : Card) (rest : Option (List Card)) → in_front (Ok c) rest ≡ behind (c ∷ []) rest
in_front_behind c None = refl
in_front_behind c (Some ds) = refl

-- cards in front of cards in front of others
behind_both : (cs ds : List Card) (rest : Option (List Card)) → behind cs (behind ds rest) ≡ behind (cs ++ ds) rest
behind_both cs ds None = refl
behind_both cs ds (Some es) = ap Some (sym (append_assoc cs ds es))

-- one card more is read, and comes behind those read before
pub card_read : (cs : List Card) (c : Card) (line after : List ℕ) → card_in_front line ≡ Ok c → after ≡ drop 2 line
    → behind cs (cards_of line) ≡ behind (cs ++ c ∷ []) (cards_of after)
card_read cs c line after e rest =
    ap (behind cs) (one_read line c e ∙ ap (λ l. in_front (Ok c) (cards_of l)) (sym rest)) ∙ ap (behind cs) (in_front_behind c (cards_of after))
    ∙ behind_both cs (c ∷ []) (cards_of after)

-- no card is read: the text ends here, or it is not all cards
pub no_read : (line : List ℕ) (f : TextFault) → card_in_front line ≡ Err f → (line ≡ []) ⊎ (cards_of line ≡ None)
no_read [] f e = inl refl
no_read (r ∷ []) f e = inr refl
no_read (r ∷ s ∷ rest) f e = inr (ap (λ x. in_front x (cards_of rest)) e)

pub not_seven : (cs : List Card) → (length cs ≡ 7 → ⊥) → if_seven_different (Some cs) ≡ None
not_seven cs ne = grind arith

-- too few cards before the text ends or goes wrong
pub too_few : (cs : List Card) (line : List ℕ) (f : TextFault) → length cs < 7 → card_in_front line ≡ Err f → if_seven_different (behind cs (cards_of line)) ≡ None
too_few cs line f few e =
    ⊎_elim (λ end. ap (λ l. if_seven_different (behind cs (cards_of l))) end ∙ ap (λ l. if_seven_different (Some l)) (append-nil cs) ∙ not_seven cs (λ h. omega arith))
    (λ wrong. ap (λ o. if_seven_different (behind cs o)) wrong) (no_read line f e)

fewer : (cards : Option (List Card)) → FewerThan 7 cards → None ≡ if_seven_different cards
fewer None h = refl
fewer (Some cs) h = sym (not_seven cs (λ seven. omega arith))

-- what is told of a result, where it is known to be one that was read
pub read_told : {X : Type 0} (Read : X → Type 0) (Fault : TextFault → Type 0) (result : Result X TextFault) (x : X) → MatchResult result Read Fault
    → result_ok result ≡ Some x → Read x
read_told Read Fault (Ok y) x told is = subst Read (cc) told
read_told Read Fault (Err fault) x told is = grind arith

-- where seven cards were not read, there are not seven
pub fewer_than_seven : {X : Type 0} (Read : X → Type 0) (line : List ℕ) (result : Result X TextFault)
    → MatchResult result Read (λ fault. cards_in_front 7 line ≡ Err fault) → result_ok result ≡ None → None ≡ seven_cards line
fewer_than_seven Read line (Ok x) told none = grind arith
fewer_than_seven Read line (Err fault) told none = fewer (cards_of line) (first_are 7 line (Err fault) told)

-- something stands behind seven cards
pub too_much : (cs : List Card) (rest : List ℕ) → length cs ≡ 7 → 0 < length rest → if_seven_different (behind cs (cards_of rest)) ≡ None
too_much cs [] seven more = absurd (omega arith)
too_much cs (r ∷ []) seven more = refl
too_much cs (r ∷ s ∷ rest) seven more = go (card_lettered r s) (cards_of rest)
  where
    go : (x : Result Card TextFault) (y : Option (List Card)) → if_seven_different (behind cs (in_front x y)) ≡ None
    go (Err f) y = refl
    go (Ok c) None = refl
    go (Ok c) (Some ds) = not_seven (cs ++ c ∷ ds) (λ h. omega (arith, length-append cs (c ∷ ds)))

pub seven_and_more : (line rest : List ℕ) (cs : List Card) → cards_in_front 7 line ≡ Ok cs → rest ≡ drop 14 line → 0 < length rest
    → None ≡ seven_cards line
seven_and_more line rest cs e behind_them more =
    let told = first_are 7 line (Ok cs) e in
    sym (too_much cs rest told.0 more) ∙ ap (λ l. if_seven_different (behind cs (cards_of l))) behind_them ∙ ap if_seven_different (sym told.1)

if_different : (cs : List Card) → length cs ≡ 7 → then_some (different cs) cs ≡ if_seven_different (Some cs)
if_different cs seven = grind arith

nothing_more : (cs : List Card) (rest : List ℕ) → length rest ≡ 0 → Some cs ≡ behind cs (cards_of rest)
nothing_more cs [] none = ap Some (sym (append-nil cs))
nothing_more cs (b ∷ bs) none = absurd (omega arith)

-- nothing stands behind seven cards
pub seven_alone : (line rest : List ℕ) (cs : List Card) → cards_in_front 7 line ≡ Ok cs → rest ≡ drop 14 line → length rest ≡ 0
    → then_some (different cs) cs ≡ seven_cards line
seven_alone line rest cs e behind_them none =
    let told = first_are 7 line (Ok cs) e in
    if_different cs told.0
    ∙ ap if_seven_different (nothing_more cs rest none ∙ ap (λ l. behind cs (cards_of l)) behind_them ∙ sym told.1)

-- nothing stands behind seven cards, by the cards themselves
pub just_seven : (cs : List Card) → length cs ≡ 7 → if_seven_different (behind cs (cards_of [])) ≡ (if different cs then Some cs else None)
just_seven cs seven =
    let told : if_seven_different (Some cs) ≡ (if different cs then Some cs else None) = grind arith in
    ap if_seven_different (sym (nothing_more cs [] refl)) ∙ told

-- The same where the cards were read one by one, seven of them, and what stands behind them is told by its length.
module _ (line rest : List ℕ) (cs : List Card) (i : ℕ) (seven : length cs ≡ 7) (all : 7 ≤ i) (read : cards_of line ≡ behind (take i cs) (cards_of rest)) where
  seven_read : cards_of line ≡ behind cs (cards_of rest)
  seven_read = read ∙ ap (λ l. behind l (cards_of rest)) (take_all i cs (omega arith))

  pub seven_and_more_behind : 0 < length rest → None ≡ seven_cards line
  seven_and_more_behind more = sym (ap if_seven_different seven_read ∙ too_much cs rest seven more)

  pub seven_at_end : length rest ≡ 0 → seven_cards line ≡ (if different cs then Some cs else None)
  seven_at_end end = ap if_seven_different (seven_read ∙ ap (λ l. behind cs (cards_of l)) (nil_from_length rest end)) ∙ just_seven cs seven
