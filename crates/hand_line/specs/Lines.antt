-- Lines that come in byte by byte.
use Rattle.std.specs.Prelude.{◌≡◌, ℕ, if◌then◌else◌, List, [], ◌∷◌, ◌++◌, map, length, take, Some, None, Option, ◌==◌}
use Rattle.std.specs.Option.{option_to_list}
use Rattle.hand_line.specs.declared.answer.Answer.{Answer}
use Rattle.hand_line.specs.declared.line.Line.{Line}
use Rattle.hand_line.specs.Answers.{answer_of}

-- l stands for this text, the line so far: fifteen bytes of it are kept, since a hand has fourteen letters
abbrev pub StandsFor : Line → List ℕ → Type 0
StandsFor l text = l.kept.items ≡ take 15 text

-- the line after one more byte: a newline (character 10) begins the next line
abbrev pub text_after : List ℕ → ℕ → List ℕ
text_after text byte = if byte == 10 then [] else text ++ byte ∷ []

-- a newline ends the line, which is then answered
abbrev pub told_at : List ℕ → ℕ → Option Answer
told_at text byte = if byte == 10 then Some (answer_of text) else None

-- where the input ends, a line that has begun is answered too
abbrev pub told_at_end : List ℕ → Option Answer
told_at_end text = if length text == 0 then None else Some (answer_of text)

-- ---- whole inputs

-- what is told while the bytes of an input come in, from the line so far on, and when the input ends
abbrev pub told_over : List ℕ → List ℕ → List Answer
told_over text [] = option_to_list (told_at_end text)
told_over text (b ∷ bs) = option_to_list (told_at text b) ++ told_over (text_after text b) bs

-- a byte in front of the first line
abbrev pub before_lines : ℕ → List (List ℕ) → List (List ℕ)
before_lines b [] = (b ∷ []) ∷ []
before_lines b (l ∷ ls) = (b ∷ l) ∷ ls

-- the lines of an input: a newline ends a line, and so does the end of the input where a line has begun
abbrev pub lines_of : List ℕ → List (List ℕ)
lines_of [] = []
lines_of (b ∷ bs) = if b == 10 then [] ∷ lines_of bs else before_lines b (lines_of bs)

-- whatever input comes in, one answer is told for each of its lines, in their order
abbrev pub OneAnswerALine : Type 0
OneAnswerALine = (input : List ℕ) → told_over [] input ≡ map answer_of (lines_of input)
