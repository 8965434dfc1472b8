-- 13.2.6.1: the calls 1 (element), 2 (text) and 3 (comment).
-- Assumes nothing.
use Rattle.std.specs.Prelude.{ℕ, zero, suc, ◌+◌, ◌/◌, ◌%◌, Bool, true, false, cond, not, ◌&&◌, ◌||◌, List, [], eqb, ltb}
use Rattle.names.specs.Numbers.{is_name}
use Rattle.names.specs.Space as space
use Rattle.names.specs.Tag as tag
use Rattle.lent.specs.Mem.{field, put_field, END}
use Rattle.lent.specs.Room.{free_nodes, free_pieces, free_pairs}
use Rattle.makers.specs.Make.{element, comment, text, piece, piece_after, nodes_of}
use Rattle.makers.specs.declared.make.Tag.{Tag}
use Rattle.places.specs.Places.{pushed}
use Rattle.state.specs.Full.{Full, Result, refused, done, with_stack, with_nodes, with_pieces, with_pairs}
use Rattle.standard.specs.Html.{current}
use Rattle.standard.specs.Place.{node, appropriate_place, attached, text_before}
use Rattle.standard.specs.Pairs.{pairs_in, fine, stored}
use Rattle.standard.specs.declared.Place.{Place}
use Rattle.standard.specs.declared.Place.TheVariants.{End}

-- the place that a call without an override target takes
unfoldable pub usual_place : Full → Place
usual_place f = appropriate_place f.nodes.mem f.stack f.flags.foster (current f.stack)

-- ---- 1: element, "insert a foreign element", for HTML elements too. Flags: 1 push, 2 mark

abbrev pub pushes : ℕ → Bool
pushes flags = eqb (flags % 2) 1

-- a mark is for MathML annotation-xml alone
unfoldable pub is_markable : ℕ → ℕ → Bool
is_markable ns name = eqb ns space.mathml && eqb name tag.annotation_xml

-- answer 2 for the tag: an unknown namespace, name or flag, a mark on anything else, and HTML html
unfoldable pub bad_tag : ℕ → ℕ → ℕ → Bool
bad_tag ns name flags =
    ltb 2 ns ||
    (not (is_name name) ||
    (ltb 3 flags ||
    cond (eqb (flags / 2) 1) (not (is_markable ns name)) (eqb ns space.html && eqb name tag.html)))

-- answer 2 for the attributes: over 16, an unknown name, a name twice
unfoldable pub bad_pairs : List ℕ → ℕ → ℕ → Bool
bad_pairs s from count = ltb 16 count || not (fine [] (pairs_in s from count))

-- the new element's tag: its pairs are the next ones
unfoldable pub new_tag : Full → ℕ → ℕ → ℕ → ℕ → Tag
new_tag f ns name flags count = record { space = ns; name = name; mark = flags / 2; start = f.pairs.used; count = count }

-- Steps 1 to 3: it is made, its attributes are stored, and it is inserted at the appropriate place.
unfoldable pub element_in : Full → Tag → List (ℕ × ℕ) → Full
element_in f t ps =
    with_pairs
    (with_nodes f (attached (element f.nodes.mem (f.nodes.used + 1) t) (usual_place f) (f.nodes.used + 1)) (f.nodes.used + nodes_of t))
    (stored f.pairs.mem f.pairs.used ps)
    (f.pairs.used + t.count)

-- Step 4: it is pushed onto the stack of open elements, where the call asks for it.
unfoldable pub pushed_if : Bool → Full → ℕ → Full
pushed_if true f n = with_stack f (pushed f.stack n)
pushed_if false f n = f

unfoldable pub element_done : Full → Tag → List (ℕ × ℕ) → Bool → Full
element_done f t ps push = pushed_if push (element_in f t ps) (f.nodes.used + 1)

-- answers 4, 5 and 8, and the call done
unfoldable pub element_room : Full → Tag → List (ℕ × ℕ) → Bool → Result
element_room f t ps push =
    cond (ltb (free_nodes f.nodes.mem f.nodes.used) (nodes_of t)) (refused 4 f)
    (cond (push && not (ltb f.stack.size 512)) (refused 5 f)
    (cond (ltb (free_pairs f.pairs.mem f.pairs.used) t.count) (refused 8 f)
    (done (element_done f t ps push))))

unfoldable pub inserted_element : List ℕ → Full → ℕ → ℕ → ℕ → ℕ → ℕ → Result
inserted_element s f ns name flags from count =
    cond (bad_tag ns name flags || bad_pairs s from count) (refused 2 f)
    (element_room f (new_tag f ns name flags count) (pairs_in s from count) (pushes flags))

-- ---- 2: text, "insert a character". Step 3, a place in the document itself, is no sound state's: the root is always open.

-- Step 4, with a text node immediately before the place: the text is added to it.
unfoldable pub joined_text : Full → ℕ → ℕ → Result
joined_text f n number =
    cond (eqb (free_pieces f.pieces.mem f.pieces.used) 0) (refused 7 f)
    (done
    (with_pieces
    (with_nodes f (put_field f.nodes.mem n END (f.pieces.used + 1)) f.nodes.used)
    (piece_after f.pieces.mem (field f.nodes.mem n END) (f.pieces.used + 1) number)
    (f.pieces.used + 1)))

-- Step 4, without one: a new text node is inserted there.
unfoldable pub new_text : Full → Place → ℕ → Result
new_text f p number =
    cond (eqb (free_nodes f.nodes.mem f.nodes.used) 0) (refused 4 f)
    (cond (eqb (free_pieces f.pieces.mem f.pieces.used) 0) (refused 7 f)
    (done
    (with_pieces
    (with_nodes f (attached (text f.nodes.mem (f.nodes.used + 1) (f.pieces.used + 1)) p (f.nodes.used + 1)) (f.nodes.used + 1))
    (piece f.pieces.mem (f.pieces.used + 1) number)
    (f.pieces.used + 1))))

-- Step 4
unfoldable pub text_at : Full → Place → ℕ → ℕ → Result
text_at f p before number = cond (eqb before 0) (new_text f p number) (joined_text f before number)

-- Step 2: the appropriate place.
unfoldable pub inserted_text : Full → ℕ → Result
inserted_text f number = text_at f (usual_place f) (text_before f.nodes.mem (usual_place f)) number

-- ---- 3: "insert a comment"

-- Step 2: place 0 is the appropriate one, 1 the end of the root, 2 the end of the document.
unfoldable pub comment_place : Full → ℕ → Place
comment_place f zero = usual_place f
comment_place f (suc zero) = End (node 2)
comment_place f (suc (suc n)) = End (node 1)

-- Steps 3 and 4: a comment is made and inserted there.
unfoldable pub comment_at : Full → Place → ℕ → Result
comment_at f p number =
    cond (eqb (free_nodes f.nodes.mem f.nodes.used) 0) (refused 4 f)
    (done (with_nodes f (attached (comment f.nodes.mem (f.nodes.used + 1) number) p (f.nodes.used + 1)) (f.nodes.used + 1)))

unfoldable pub inserted_comment : Full → ℕ → ℕ → Result
inserted_comment f place number = cond (ltb 2 place) (refused 2 f) (comment_at f (comment_place f place) number)
