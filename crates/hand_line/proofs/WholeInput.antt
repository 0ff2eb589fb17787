-- Told byte by byte, an input is answered line by line.
use Rattle.std.proofs.Common.{◌≡◌, ℕ, Bool, true, false, cond, eqb, List, [], ◌∷◌, ◌++◌, map, Some, None, sym, refl, ap, ◌∙◌, arith}
use Rattle.std.specs.Option.{option_to_list}
use Rattle.std.proofs.lemmas.List.{append_assoc, append-nil}
use Rattle.hand_line.specs.Answers.{answer_of}
use Rattle.hand_line.specs.Lines.{told_over, before_lines, lines_of, OneAnswerALine}

-- the line so far in front of the lines to come
abbrev continued : List ℕ → List (List ℕ) → List (List ℕ)
continued [] ls = ls
continued (t ∷ ts) [] = (t ∷ ts) ∷ []
continued (t ∷ ts) (l ∷ ls) = ((t ∷ ts) ++ l) ∷ ls

ended : (text : List ℕ) (ls : List (List ℕ)) → continued text ([] ∷ ls) ≡ text ∷ ls
ended [] ls = refl
ended (t ∷ ts) ls = grind (arith, append-nil)

one_byte : (text : List ℕ) (b : ℕ) (ls : List (List ℕ)) → continued (text ++ b ∷ []) ls ≡ continued text (before_lines b ls)
one_byte [] b [] = refl
one_byte [] b (l ∷ ls) = refl
one_byte (t ∷ ts) b [] = refl
one_byte (t ∷ ts) b (l ∷ ls) = grind (arith, append_assoc)

-- one byte of the input is told, and then the rest of it
step : (text : List ℕ) (b : ℕ) (bs : List ℕ) (newline : Bool)
    → told_over [] bs ≡ map answer_of (lines_of bs)
    → told_over (text ++ b ∷ []) bs ≡ map answer_of (continued (text ++ b ∷ []) (lines_of bs))
    → option_to_list (cond newline (Some (answer_of text)) None) ++ told_over (cond newline [] (text ++ b ∷ [])) bs
    ≡ map answer_of (continued text (cond newline ([] ∷ lines_of bs) (before_lines b (lines_of bs))))
step text b bs true fresh going_on = ap (λ rest. answer_of text ∷ rest) fresh ∙ ap (map answer_of) (sym (ended text (lines_of bs)))
step text b bs false fresh going_on = going_on ∙ ap (map answer_of) (one_byte text b (lines_of bs))

told_from : (text input : List ℕ) → told_over text input ≡ map answer_of (continued text (lines_of input))
told_from [] [] = refl
told_from (t ∷ ts) [] = grind arith
told_from text (b ∷ bs) = step text b bs (eqb b 10) (told_from [] bs) (told_from (text ++ b ∷ []) bs)

pub one_answer_a_line : OneAnswerALine
one_answer_a_line input = told_from [] input
