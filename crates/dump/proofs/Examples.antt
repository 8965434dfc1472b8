-- Worked examples, which antt computes: numbers, names, an attribute and a text of two pieces, as document 01 writes them.
-- Assumes nothing.
use Rattle.std.proofs.Common.{◌≡◌, refl, List, [], ◌∷◌, ℕ}
use Rattle.names.specs.Table.{names}
use Rattle.names.specs.Text.{text}
use Rattle.lent.specs.Mem.{load, inside, slots, place, get16}
use Rattle.dump.specs.Digits.{digit_at, digits}
use Rattle.dump.specs.Line.{text_number, name_of, further, text_of, pair_of, indent}

-- ---- numbers

zero_digit : digits 0 ≡ text "0"
unfolding digits digit_at text
zero_digit = refl

ten_digits : digits 10 ≡ text "10"
unfolding digits digit_at text
ten_digits = refl

most_digits : digits 65535 ≡ text "65535"
unfolding digits digit_at text
most_digits = refl

-- ---- names: of the table, and the host's

table_name : name_of 28 ≡ text "b"
unfolding name_of names text
table_name = refl

host_name : name_of 600 ≡ text "?600"
unfolding name_of digits digit_at text
host_name = refl

-- ---- pair 0 with the name 12 and the value 7

attribute : pair_of (12 ∷ 0 ∷ 7 ∷ 0 ∷ []) 0 ≡ text "@12=#7"
unfolding pair_of text_number digits digit_at text load inside slots place get16
attribute = refl

-- ---- pieces 1 and 2, with the text numbers 1 and 20

pieces : List ℕ
pieces = 0 ∷ 0 ∷ 0 ∷ 0 ∷ 1 ∷ 0 ∷ 2 ∷ 0 ∷ 20 ∷ 0 ∷ 0 ∷ 0 ∷ []

two_pieces : text_of pieces 1 ≡ text "#1 #20"
unfolding pieces text_of further text_number digits digit_at text load inside slots place get16
two_pieces = refl

two_levels : indent 2 ≡ text "    "
unfolding indent text
two_levels = refl
