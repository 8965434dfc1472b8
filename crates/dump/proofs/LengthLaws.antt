-- How long a line can be: 65,536 bytes hold any line at a level up to 4,095, whatever is lent.
-- Assumes nothing.
use Rattle.std.proofs.Common.{◌≡◌, refl, Bool, true, false, cond, List, [], ◌∷◌, ◌++◌, ℕ, zero, suc, ◌+◌, ◌-◌, ◌*◌, ◌/◌, ◌%◌, ◌≤◌, arith, eqb, leb, ltb, length, length-append}
use Rattle.names.specs.Text.{text}
use Rattle.names.specs.Numbers.{bytes_of}
use Rattle.lent.specs.Mem.{PIECES, PAIRS, load, field, KIND, SPACE, NAME, START, COUNT, PIECE}
use Rattle.dump.specs.Digits.{digit_at, digits}
use Rattle.dump.specs.Line.{indent, text_number, name_of, space_of, element_of, comment_of, further, text_of, node_of, pair_of, part_of, level_of, line_of}
use Rattle.dump.specs.declared.Cursor.{Cursor}
use Rattle.dump.proofs.NameLaws.{name_short}

-- a choice is as long as the longer one
either : (t : Bool) (xs ys : List ℕ) (k : ℕ) → length xs ≤ k → length ys ≤ k → length (cond t xs ys) ≤ k
either true xs ys k a b = a
either false xs ys k a b = b

digit_at_length : (p n : ℕ) → length (digit_at p n) ≤ 1
unfolding digit_at
digit_at_length p n = either (ltb n p) [] ((48 + n / p % 10) ∷ []) 1 (omega arith) (omega arith)

digits_length : (n : ℕ) → length (digits n) ≤ 5
unfolding digits
digits_length n =
    simp length-append
    (omega (arith, digit_at_length 10000 n, digit_at_length 1000 n, digit_at_length 100 n, digit_at_length 10 n))

number_length : (n : ℕ) → length (text_number n) ≤ 6
unfolding text_number text
number_length n = omega (arith, digits_length n)

indent_length : (k : ℕ) → length (indent k) ≡ k * 2
unfolding indent text
indent_length zero = refl
indent_length (suc k) = simp (length-append, indent_length k) (omega arith)

name_length : (n : ℕ) → length (name_of n) ≤ 32
unfolding name_of text
name_length n = either (leb 512 n) (63 ∷ digits n) (bytes_of n) 32 (omega (arith, digits_length n)) (name_short n)

space_length : (s : ℕ) → length (space_of s) ≤ 5
unfolding space_of text
space_length s = either (eqb s 2) (text "svg ") (cond (eqb s 1) (text "math ") []) 5 (omega arith) (either (eqb s 1) (text "math ") [] 5 (omega arith) (omega arith))

element_length : (m : List ℕ) (n : ℕ) → length (element_of m n) ≤ 39
unfolding element_of text
element_length m n = simp length-append (omega (arith, space_length (field m n SPACE), name_length (field m n NAME)))

comment_length : (m : List ℕ) (n : ℕ) → length (comment_of m n) ≤ 15
unfolding comment_of text
comment_length m n = simp length-append (omega (arith, number_length (field m n NAME)))

further_length : (p : List ℕ) (k i : ℕ) → length (further p k i) ≤ k * 7
unfolding further text
further_length p zero i = omega arith
further_length p (suc k) i =
    either (eqb i 0) [] (32 ∷ (text_number (load PIECES p i 0) ++ further p k (load PIECES p i 1))) (suc k * 7) (omega arith)
    (simp length-append (omega (arith, number_length (load PIECES p i 0), further_length p k (load PIECES p i 1))))

text_length : (p : List ℕ) (i : ℕ) → length (text_of p i) ≤ 57343
unfolding text_of
text_length p i =
    either (eqb i 0) [] (text_number (load PIECES p i 0) ++ further p 8191 (load PIECES p i 1)) 57343 (omega arith)
    (simp length-append (omega (arith, number_length (load PIECES p i 0), further_length p 8191 (load PIECES p i 1))))

node_length : (m p : List ℕ) (n : ℕ) → length (node_of m p n) ≤ 57343
unfolding node_of
node_length m p n =
    either (eqb (field m n KIND) 2) (element_of m n) _ 57343 (omega (arith, element_length m n))
    (either (eqb (field m n KIND) 3) (text_of p (field m n PIECE)) _ 57343 (text_length p (field m n PIECE))
    (either (eqb (field m n KIND) 4) (comment_of m n) [] 57343 (omega (arith, comment_length m n)) (omega arith)))

pair_length : (q : List ℕ) (i : ℕ) → length (pair_of q i) ≤ 13
unfolding pair_of text
pair_length q i = simp length-append (omega (arith, digits_length (load PAIRS q i 0), number_length (load PAIRS q i 1)))

-- a node's own line is the longest; the others are one level further down
other_length : (m q : List ℕ) (c : Cursor) → length (cond (leb c.part (field m c.node COUNT)) (pair_of q (field m c.node START + (c.part - 1))) (text "content")) ≤ 13
unfolding text
other_length m q c =
    either (leb c.part (field m c.node COUNT)) (pair_of q (field m c.node START + (c.part - 1))) (text "content") 13
    (pair_length q (field m c.node START + (c.part - 1))) (omega arith)

rest_length : (m p q : List ℕ) (c : Cursor) → length (indent (level_of c)) + length (part_of m p q c) ≤ c.level * 2 + 57343
unfolding level_of part_of
rest_length m p q c = by (eqb c.part 0) _ (other_length m q c)
  where
    by : (t : Bool) (xs : List ℕ) → length xs ≤ 13 → length (indent (cond t c.level (suc c.level))) + length (cond t (node_of m p c.node) xs) ≤ c.level * 2 + 57343
    by true xs h = omega (arith, indent_length c.level, node_length m p c.node)
    by false xs h = omega (arith, indent_length (suc c.level), h)

pub line_length : (m p q : List ℕ) (c : Cursor) → c.level ≤ 4095 → length (line_of m p q c) ≤ 65536
unfolding line_of text
line_length m p q c h = simp length-append (omega (arith, rest_length m p q c))
