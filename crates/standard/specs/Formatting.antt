-- 13.2.4.3, the list of active formatting elements: the calls 4 (create an element for a formatting tag) and 7 (reconstruct).
-- Assumes nothing.
use Rattle.std.specs.Prelude.{ℕ, zero, suc, ◌+◌, ◌-◌, Bool, true, false, cond, not, ◌&&◌, ◌||◌, List, [], ◌∷◌, drop, eqb, ltb, None, Option, Some}
use Rattle.names.specs.Space as space
use Rattle.names.specs.Sets.{is_in, Formatting}
use Rattle.lent.specs.Mem.{PAIRS, load, field, NAME, START, COUNT}
use Rattle.lent.specs.Room.{free_nodes, free_pairs}
use Rattle.makers.specs.Make.{copied}
use Rattle.makers.specs.declared.make.Tag.{Tag}
use Rattle.places.specs.Places.{Places, at, pushed, swapped, left_at, first_with, last_with, never, place_of}
use Rattle.state.specs.Full.{Full, Result, refused, done, with_stack, with_list, with_nodes}
use Rattle.standard.specs.Small.{room, MARKER}
use Rattle.standard.specs.Place.{attached}
use Rattle.standard.specs.Pairs.{pairs_in}
use Rattle.standard.specs.Insertion.{usual_place, bad_pairs, new_tag, element_done}
use Rattle.standard.specs.Stack.{is_found}

-- the entry after the one that was found, or the first
unfoldable pub after : Option ℕ → ℕ
after None = 0
after (Some i) = i + 1

-- ---- 7: "reconstruct the active formatting elements"

-- an entry is a marker, or an element in the stack of open elements
unfoldable pub is_marker_or_open : Places → ℕ → Bool
is_marker_or_open s n = eqb n MARKER || is_found (place_of s n)

-- Steps 1 to 7: rewind to the entry after the last one that is a marker or open. Where the list is empty, or its last entry is such a
-- one, that is past the last entry, and there is nothing to do.
unfoldable pub first_lost : Places → Places → ℕ
first_lost s l = after (last_with (is_marker_or_open s) never l)

-- Steps 8 and 9: an HTML element with the tag of entry i is inserted and pushed, and takes the entry's place. The stored attributes
-- are shared.
unfoldable pub anew_at : Full → ℕ → Full
anew_at f i =
    with_list
    (with_stack
    (with_nodes f (attached (copied f.nodes.mem (f.nodes.used + 1) (at f.list i)) (usual_place f) (f.nodes.used + 1)) (f.nodes.used + 1))
    (pushed f.stack (f.nodes.used + 1)))
    (swapped f.list i (f.nodes.used + 1))

-- Steps 8 to 10: k entries from i on, in order
unfoldable pub anew : Full → ℕ → ℕ → Full
anew f i zero = f
anew f i (suc k) = anew (anew_at f i) (i + 1) k

-- answers 4 and 5: fewer nodes or stack places are free than the k entries need
unfoldable pub anew_room : Full → ℕ → ℕ → Result
anew_room f i k =
    cond (ltb (free_nodes f.nodes.mem f.nodes.used) k) (refused 4 f)
    (cond (ltb (512 - f.stack.size) k) (refused 5 f)
    (done (anew f i k)))

unfoldable pub reconstructed : Full → Result
reconstructed f = anew_room f (first_lost f.stack f.list) (f.list.size - first_lost f.stack f.list)

-- ---- 4: "push onto the list of active formatting elements"

-- an element's attributes: k pairs as they are stored, from number u on
unfoldable pub pairs_of : List ℕ → ℕ → ℕ → List (ℕ × ℕ)
pairs_of q u zero = []
pairs_of q u (suc k) = (load PAIRS q u 0, load PAIRS q u 1) ∷ pairs_of q (u + 1) k

unfoldable pub same_pairs : List (ℕ × ℕ) → List (ℕ × ℕ) → Bool
same_pairs [] [] = true
same_pairs [] (y ∷ ys) = false
same_pairs (x ∷ xs) [] = false
same_pairs (x ∷ xs) (y ∷ ys) = eqb x.0 y.0 && (eqb x.1 y.1 && same_pairs xs ys)

-- Tags are equal if the names and the lists of pairs, in order, are equal: entry n has the name and the pairs.
unfoldable pub same_tag : List ℕ → List ℕ → ℕ → List (ℕ × ℕ) → ℕ → Bool
same_tag m q name ps n =
    eqb (field m n NAME) name && same_pairs (pairs_of q (field m n START) (field m n COUNT)) ps

-- how many have p
unfoldable pub how_many : (ℕ → Bool) → List ℕ → ℕ
how_many p [] = 0
how_many p (x ∷ xs) = cond (p x) 1 0 + how_many p xs

-- the entries after the last marker, or all
unfoldable pub after_marker : Places → ℕ
after_marker l = after (place_of l MARKER)

-- Step 1: if three or more of the entries after the last marker have the tag, the earliest of them goes.
unfoldable pub surplus : (ℕ → Bool) → Places → Option ℕ
surplus p l =
    cond (ltb 2 (how_many p (drop (after_marker l) l.held)))
    (first_with p (drop (after_marker l) l.held) (after_marker l))
    None

-- the list without that one
unfoldable pub spared : Full → Tag → List (ℕ × ℕ) → Places
spared f t ps = left_at (surplus (same_tag f.nodes.mem f.pairs.mem t.name ps) f.list) f.list

-- Step 2: the new element is added to the list l.
unfoldable pub listed : Full → Places → ℕ → Full
listed f l n = with_list f (pushed l n)

-- answers 4, 5, 6 and 8, and the call done: the element is inserted and pushed as in call 1
unfoldable pub created_room : Full → Tag → List (ℕ × ℕ) → Places → Result
created_room f t ps l =
    cond (ltb (free_nodes f.nodes.mem f.nodes.used) 1) (refused 4 f)
    (cond (not (ltb f.stack.size 512)) (refused 5 f)
    (cond (not (ltb l.size (room 256 l))) (refused 6 f)
    (cond (ltb (free_pairs f.pairs.mem f.pairs.used) t.count) (refused 8 f)
    (done (listed (element_done f t ps true) l (f.nodes.used + 1))))))

-- the same for a name and the pairs of a record
unfoldable pub created_for : List ℕ → Full → ℕ → ℕ → ℕ → Result
created_for s f name from count =
    created_room f (new_tag f space.html name 1 count) (pairs_in s from count)
    (spared f (new_tag f space.html name 1 count) (pairs_in s from count))

-- answer 2: a name that is not a formatting name, and the attributes as in call 1
unfoldable pub bad_formatting : List ℕ → ℕ → ℕ → ℕ → Bool
bad_formatting s name from count = not (is_in Formatting space.html name) || bad_pairs s from count

unfoldable pub created : List ℕ → Full → ℕ → ℕ → ℕ → Result
created s f name from count = cond (bad_formatting s name from count) (refused 2 f) (created_for s f name from count)
