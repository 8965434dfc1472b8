-- A tree with every kind of line, computed: a template with an attribute, a text in its contents, and a comment as its own child.
-- Assumes nothing.
use Rattle.std.proofs.Common.{ℕ, ◌/◌, ◌%◌, ◌≡◌, refl, List, [], ◌∷◌, ◌++◌}
use Prim.Native.String.{String}
use Rattle.std.proofs.Math.Decide.{ℕ_discrete}
use Rattle.names.specs.Table.{names}
use Rattle.names.specs.Tag as tag
use Rattle.names.specs.Text.{text}
use Rattle.theory.specs.Pigeon.{walk}
use Rattle.lent.specs.Mem.{load, inside, slots, place, get16}
use Rattle.lent.specs.Tree.{children}
use Rattle.standard.specs.Html.{is_html}
use Rattle.kept.specs.Tree.{under}
use Rattle.dump.specs.Digits.{digit_at, digits}
use Rattle.dump.specs.Line.{indent, text_number, name_of, space_of, element_of, comment_of, further, text_of, pair_of}
use Rattle.shown.specs.Lines.{every, attribute_lines, lines_here, lines_of, tree_lines}

-- 16-bit numbers, low byte first
numbers : List ℕ → List ℕ
numbers [] = []
numbers (v ∷ vs) = v % 256 ∷ v / 256 ∷ numbers vs

-- a node: kind, parent, previous, next, first, last, tie, namespace, name, mark, first pair, pairs, first piece, last piece, and two spare
nodes : List ℕ
nodes =
    numbers (0 ∷ 0 ∷ 0 ∷ 0 ∷ 0 ∷ 0 ∷ 0 ∷ 0 ∷ 0 ∷ 0 ∷ 0 ∷ 0 ∷ 0 ∷ 0 ∷ 0 ∷ 0 ∷ []) ++
    (numbers (1 ∷ 0 ∷ 0 ∷ 0 ∷ 2 ∷ 2 ∷ 0 ∷ 0 ∷ 0 ∷ 0 ∷ 0 ∷ 0 ∷ 0 ∷ 0 ∷ 0 ∷ 0 ∷ []) ++
    (numbers (2 ∷ 1 ∷ 0 ∷ 0 ∷ 3 ∷ 3 ∷ 0 ∷ 0 ∷ tag.html ∷ 0 ∷ 0 ∷ 0 ∷ 0 ∷ 0 ∷ 0 ∷ 0 ∷ []) ++
    (numbers (2 ∷ 2 ∷ 0 ∷ 0 ∷ 6 ∷ 6 ∷ 4 ∷ 0 ∷ tag.template ∷ 0 ∷ 0 ∷ 1 ∷ 0 ∷ 0 ∷ 0 ∷ 0 ∷ []) ++
    (numbers (5 ∷ 0 ∷ 0 ∷ 0 ∷ 5 ∷ 5 ∷ 3 ∷ 0 ∷ 0 ∷ 0 ∷ 0 ∷ 0 ∷ 0 ∷ 0 ∷ 0 ∷ 0 ∷ []) ++
    (numbers (3 ∷ 4 ∷ 0 ∷ 0 ∷ 0 ∷ 0 ∷ 0 ∷ 0 ∷ 0 ∷ 0 ∷ 0 ∷ 0 ∷ 1 ∷ 1 ∷ 0 ∷ 0 ∷ []) ++
    numbers (4 ∷ 3 ∷ 0 ∷ 0 ∷ 0 ∷ 0 ∷ 0 ∷ 0 ∷ 5 ∷ 0 ∷ 0 ∷ 0 ∷ 0 ∷ 0 ∷ 0 ∷ 0 ∷ []))))))

pieces : List ℕ
pieces = numbers (0 ∷ 0 ∷ 1 ∷ 0 ∷ [])

pairs : List ℕ
pairs = numbers (12 ∷ 7 ∷ [])

line : String → List ℕ
line s = text s ++ 10 ∷ []

tree_lines_lem : tree_lines nodes pieces pairs
    ≡ line "| <html>" ∷
    line "|   <template>" ∷
    line "|     @12=#7" ∷
    line "|     content" ∷
    line "|       #1" ∷
    line "|     <!-- #5 -->" ∷
    []
unfolding numbers nodes pieces pairs line names text walk load inside slots place get16 children is_html under digit_at digits indent text_number name_of space_of element_of comment_of further text_of pair_of every attribute_lines lines_here lines_of tree_lines ℕ_discrete
tree_lines_lem = refl
