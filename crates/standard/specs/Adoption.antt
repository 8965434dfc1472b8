-- 13.2.6.4.7: the adoption agency algorithm (call 8), and what a start tag `a` does to an `a` that is still in the list (call 9).
-- Steps carry the standard's numbers. An entry is given by its place: s in the stack, j in the list.
-- Assumes nothing.
use Rattle.std.specs.Prelude.{ℕ, zero, suc, ◌+◌, ◌-◌, Bool, true, false, cond, not, List, drop, eqb, ltb, None, Option, Some}
use Rattle.names.specs.Tag as tag
use Rattle.names.specs.Space as space
use Rattle.names.specs.Sets.{is_in, Formatting, Special, DefaultScope}
use Rattle.arena.specs.Links.{appended, detached, moved}
use Rattle.makers.specs.Make.{copied}
use Rattle.lent.specs.Room.{free_nodes}
use Rattle.places.specs.Places.{Places, at, same, without, within, swapped, cut, first_with, last_with, place_of, exchanged, left}
use Rattle.state.specs.Full.{Full, Result, refused, done, with_stack, with_list, with_nodes}
use Rattle.standard.specs.Html.{is_html, current}
use Rattle.standard.specs.Place.{appropriate_place, attached}
use Rattle.standard.specs.Small.{MARKER}
use Rattle.standard.specs.Stack.{is_of, named, in_scope, shorter, end_tag}

-- ---- searches

-- 4.3: the last entry with the name, between the end of the list and its last marker, if any, or its start
unfoldable pub entry_of : List ℕ → Places → ℕ → Option ℕ
entry_of m l name = last_with (named m name) (same MARKER) l

-- 4.7: the topmost special element that is lower in the stack than entry s
unfoldable pub furthest_of : List ℕ → Places → ℕ → Option ℕ
furthest_of m stack s = first_with (is_of Special m) (drop (s + 1) stack.held) (s + 1)

-- ---- 4.13, the inner loop

-- The state, lastNode, and the bookmark: a position in the list, given by how many entries stand before it.
pub record Inner : Type 0 where
  pub full : Full
  pub last : ℕ
  pub mark : ℕ

abbrev pub inner_at : Full → ℕ → ℕ → Inner
inner_at f last mark = record { full = f; last = last; mark = mark }

-- where a position is when entry j has left
unfoldable pub gone : ℕ → ℕ → ℕ
gone p j = cond (ltb j p) (p - 1) p

-- 4.13.5: the node leaves the stack
unfoldable pub left_stack : Full → ℕ → Full
left_stack f i = with_stack f (without f.stack i)

-- 4.13.4 and 4.13.5: it leaves list and stack
unfoldable pub left_both : Full → ℕ → ℕ → Full
left_both f i j = with_list (left_stack f i) (without f.list j)

-- 4.13.6 and 4.13.8 in the tree: an element is made with the tag of node, and lastNode is appended to it
unfoldable pub renewed : List ℕ → ℕ → ℕ → ℕ → List ℕ
renewed m new node last = appended (detached (copied m new node) last) new last

-- 4.13.6: it takes the node's places in the stack and in the list
unfoldable pub renewed_in : Full → ℕ → ℕ → ℕ → Full
renewed_in f i j last =
    with_list
    (with_stack
    (with_nodes f (renewed f.nodes.mem (f.nodes.used + 1) (at f.stack i) last) (f.nodes.used + 1))
    (swapped f.stack i (f.nodes.used + 1)))
    (swapped f.list j (f.nodes.used + 1))

-- 4.13.6 to 4.13.9; 4.13.7: where lastNode is the furthest block, the bookmark moves to right after the new node
unfoldable pub renewed_at : Inner → ℕ → ℕ → ℕ → Inner
renewed_at w block i j = inner_at (renewed_in w.full i j w.last) (w.full.nodes.used + 1) (cond (eqb w.last block) (j + 1) w.mark)

-- 4.13.4 to 4.13.9 for the node at place i of the stack, by its place in the list
unfoldable pub turn_at : Option ℕ → Inner → ℕ → ℕ → ℕ → Inner
turn_at None w block i counter = inner_at (left_stack w.full i) w.last w.mark
turn_at (Some j) w block i counter =
    cond (ltb 3 counter) (inner_at (left_both w.full i j) w.last (gone w.mark j)) (renewed_at w block i j)

unfoldable pub turned : Inner → ℕ → ℕ → ℕ → Inner
turned w block i counter = turn_at (place_of w.full.list (at w.full.stack i)) w block i counter

-- 4.13 with node at place k of the stack: 4.13.1 the counter, 4.13.2 the element above it (one that leaves the stack leaves the
-- places above it as they were), 4.13.3 stop at the formatting element
unfoldable pub inner : Inner → ℕ → ℕ → ℕ → ℕ → Inner
inner w fe block counter zero = w
inner w fe block counter (suc i) =
    cond (eqb (at w.full.stack i) fe) w (inner (turned w block i (counter + 1)) fe block (counter + 1) i)

-- ---- 4.9 to 4.19: the formatting element fe has a furthest block

-- 4.14: lastNode is inserted at the appropriate place, with the common ancestor as override target
unfoldable pub placed_at : Full → ℕ → ℕ → List ℕ
placed_at f ancestor last =
    attached (detached f.nodes.mem last) (appropriate_place f.nodes.mem f.stack f.flags.foster ancestor) last

-- 4.15 to 4.17: an element is made with the tag of fe, takes all children of the furthest block, and is appended to it
unfoldable pub rehung : List ℕ → ℕ → ℕ → ℕ → List ℕ
rehung m new fe block = appended (moved (copied m new fe) block new) block new

-- 4.18: entry j, the formatting element, leaves the list, and n comes in at the bookmark
unfoldable pub at_mark : Option ℕ → Places → ℕ → ℕ → Places
at_mark None l p n = l
at_mark (Some j) l p n = within (without l j) (gone p j) n

unfoldable pub relisted : ℕ → Places → ℕ → ℕ → Places
relisted p l fe n = at_mark (place_of l fe) l p n

-- 4.14 to 4.19; 4.19: fe leaves the stack, and the new element comes right below the furthest block
unfoldable pub finished : Inner → ℕ → ℕ → ℕ → Full
finished w fe block ancestor =
    with_list
    (with_stack
    (with_nodes w.full (rehung (placed_at w.full ancestor w.last) (w.full.nodes.used + 1) fe block) (w.full.nodes.used + 1))
    (exchanged w.full.stack fe block (w.full.nodes.used + 1)))
    (relisted w.mark w.full.list fe (w.full.nodes.used + 1))

-- 4.10 to 4.12: the bookmark notes where fe is, entry j. It is set right after fe, which leaves in 4.18.
unfoldable pub started : Full → ℕ → ℕ → Inner
started f block j = inner_at f block (j + 1)

-- 4.9 to 4.19: fe is entry s of the stack and j of the list, and its furthest block entry b of the stack; the common ancestor is the
-- element right above fe
unfoldable pub adopted : Full → ℕ → ℕ → ℕ → ℕ → Full
adopted f fe s j b =
    finished (inner (started f (at f.stack b) j) fe (at f.stack b) 0 b) fe (at f.stack b) (at f.stack (s - 1))

-- ---- 4, the outer loop

-- what a round ends in, and whether there is another
pub record Turn : Type 0 where
  pub after : Full
  pub again : Bool

abbrev pub last_round : Full → Turn
last_round f = record { after = f; again = false }

abbrev pub next_round : Full → Turn
next_round f = record { after = f; again = true }

-- 4.8: without a furthest block all from fe on are popped, and fe leaves the list; else 4.9 to 4.19
unfoldable pub block_at : Option ℕ → Full → ℕ → ℕ → ℕ → Turn
block_at None f fe s j = last_round (with_list (with_stack f (cut f.stack s)) (without f.list j))
block_at (Some b) f fe s j = next_round (adopted f fe s j b)

-- 4.7
unfoldable pub blocked : Full → ℕ → ℕ → ℕ → Turn
blocked f fe s j = block_at (furthest_of f.nodes.mem f.stack s) f fe s j

-- 4.5: nothing is done if fe is not in scope
unfoldable pub scope_at : Option ℕ → Full → ℕ → ℕ → ℕ → Turn
scope_at None f fe s j = last_round f
scope_at (Some k) f fe s j = blocked f fe s j

unfoldable pub scoped : Full → ℕ → ℕ → ℕ → Turn
scoped f fe s j = scope_at (in_scope DefaultScope (same fe) f.nodes.mem f.stack) f fe s j

-- 4.4: fe leaves the list if it is not open
unfoldable pub open_at : Option ℕ → Full → ℕ → ℕ → Turn
open_at None f fe j = last_round (with_list f (without f.list j))
open_at (Some s) f fe j = scoped f fe s j

unfoldable pub opened : Full → ℕ → Turn
opened f j = open_at (place_of f.stack (at f.list j)) f (at f.list j) j

-- 4.3: the formatting element, or else "any other end tag"
unfoldable pub entry_at : Option ℕ → Full → ℕ → Turn
entry_at None f name = last_round (with_stack f (end_tag f.nodes.mem f.stack name))
entry_at (Some j) f name = opened f j

unfoldable pub rounded : Full → ℕ → Turn
rounded f name = entry_at (entry_of f.nodes.mem f.list name) f name

-- 4.1 and 4.2: k rounds at most
unfoldable pub rounds : Full → ℕ → ℕ → Full
rounds f name zero = f
rounds f name (suc k) = cond (rounded f name).again (rounds (rounded f name).after name k) (rounded f name).after

-- ---- the calls

-- 2: the current node, if it has the name and is not in the list, is popped; 3: eight rounds
unfoldable pub current_at : Option ℕ → Full → ℕ → Full
current_at None f name = with_stack f (shorter f.stack)
current_at (Some j) f name = rounds f name 8

unfoldable pub agency : Full → ℕ → Full
agency f name =
    cond (is_html f.nodes.mem (current f.stack) name) (current_at (place_of f.list (current f.stack)) f name) (rounds f name 8)

-- answer 4: fewer than 32 nodes are free
unfoldable pub few_nodes : Full → Bool
few_nodes f = ltb (free_nodes f.nodes.mem f.nodes.used) 32

-- 8: a formatting name
unfoldable pub adoption : Full → ℕ → Result
adoption f name = cond (not (is_in Formatting space.html name)) (refused 2 f) (cond (few_nodes f) (refused 4 f) (done (agency f name)))

-- 9, a start tag whose tag name is "a": if the list has an `a` after its last marker, the agency runs for it, and then that element
-- leaves list and stack, if it is still there
unfoldable pub leaves : Full → ℕ → Full
leaves f n = with_list (with_stack f (left f.stack n)) (left f.list n)

unfoldable pub misnested_at : Option ℕ → Full → Result
misnested_at None f = done f
misnested_at (Some j) f = cond (few_nodes f) (refused 4 f) (done (leaves (agency f tag.a) (at f.list j)))

unfoldable pub misnested : Full → Result
misnested f = misnested_at (entry_of f.nodes.mem f.list tag.a) f
