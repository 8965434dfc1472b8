-- The stack of open elements: scope tests (13.2.4.2), and the calls 10 (any other end tag, 13.2.6.4.7), 11 (close a p element),
-- 12 (close the cell, 13.2.6.4.15) and 13 (generate implied end tags, 13.2.6.3).
-- Assumes nothing.
use Rattle.std.specs.Prelude.{ℕ, zero, suc, ◌-◌, Bool, true, false, cond, not, ◌&&◌, ◌||◌, List, eqb, ltb, None, Option, Some}
use Rattle.names.specs.Tag as tag
use Rattle.names.specs.Numbers.{is_name}
use Rattle.names.specs.Sets.{Names, is_in, Special, ButtonScope, TableScope, Cursory, Thorough}
use Rattle.lent.specs.Mem.{field, KIND, SPACE, NAME, ELEMENT}
use Rattle.places.specs.Places.{Places, at, same, cut, last_with}
use Rattle.state.specs.Full.{Full, Result, refused, done, with_stack}
use Rattle.standard.specs.Html.{is_html, current}
use Rattle.standard.specs.Small.{cleared}

-- n is an element of the set
unfoldable pub is_of : Names → List ℕ → ℕ → Bool
is_of set m n = eqb (field m n KIND) ELEMENT && is_in set (field m n SPACE) (field m n NAME)

-- n is an HTML element with the name
abbrev pub named : List ℕ → ℕ → ℕ → Bool
named m name n = is_html m n name

-- n is an HTML td or th
unfoldable pub is_cell : List ℕ → ℕ → Bool
is_cell m n = is_html m n tag.td || is_html m n tag.th

-- ---- scope

-- "Has an element in the specific scope", and where: from the current node upwards the entry that is wanted, unless an element of
-- the set is met first.
unfoldable pub in_scope : Names → (ℕ → Bool) → List ℕ → Places → Option ℕ
in_scope set wanted m s = last_with wanted (is_of set m) s

unfoldable pub is_found : Option ℕ → Bool
is_found None = false
is_found (Some i) = true

-- ---- pops

-- the current node is popped
unfoldable pub shorter : Places → Places
shorter s = cut s (s.size - 1)

-- "While the current node is .., pop the current node": k times at most.
unfoldable pub while_top : (ℕ → Bool) → Places → ℕ → Places
while_top p s zero = s
while_top p s (suc k) = cond (p (current s)) (while_top p (shorter s) k) s

unfoldable pub popped_while : (ℕ → Bool) → Places → Places
popped_while p s = while_top p s s.size

-- "Pop elements until .. has been popped": k times at most.
unfoldable pub until_top : (ℕ → Bool) → Places → ℕ → Places
until_top p s zero = s
until_top p s (suc k) = cond (p (current s)) (shorter s) (until_top p (shorter s) k)

unfoldable pub popped_until : (ℕ → Bool) → Places → Places
popped_until p s = until_top p s s.size

-- ---- 13: implied end tags. Kind 0 is cursory, 1 thorough; the excepted name is 0 where there is none

-- n has its end tag implied: it is of the set, and has not the excepted name
unfoldable pub is_implied : Names → ℕ → List ℕ → ℕ → Bool
is_implied set except m n = is_of set m n && not (eqb (field m n NAME) except)

unfoldable pub implied_ends : Names → ℕ → List ℕ → Places → Places
implied_ends set except m s = popped_while (is_implied set except m) s

unfoldable pub implied_set : ℕ → Names
implied_set zero = Cursory
implied_set (suc k) = Thorough

-- answer 2: an unknown kind, or an unknown name
unfoldable pub bad_implied : ℕ → ℕ → Bool
bad_implied kind except = ltb 1 kind || (not (eqb except 0) && not (is_name except))

unfoldable pub implied : Full → ℕ → ℕ → Result
implied f kind except =
    cond (bad_implied kind except) (refused 2 f)
    (done (with_stack f (implied_ends (implied_set kind) except f.nodes.mem f.stack)))

-- ---- 11: "close a p element" (13.2.6.4.7); 3 if no HTML p is in button scope

-- steps 1 and 3
unfoldable pub without_p : List ℕ → Places → Places
without_p m s = popped_until (named m tag.p) (implied_ends Cursory tag.p m s)

unfoldable pub closed_p : Full → Result
closed_p f =
    cond (is_found (in_scope ButtonScope (named f.nodes.mem tag.p) f.nodes.mem f.stack))
    (done (with_stack f (without_p f.nodes.mem f.stack)))
    (refused 3 f)

-- ---- 12: "close the cell"; 3 if no HTML td or th is in table scope

-- steps 1 and 3
unfoldable pub without_cell : List ℕ → Places → Places
without_cell m s = popped_until (is_cell m) (implied_ends Cursory 0 m s)

-- step 4: the formatting list is cleared up to the last marker
unfoldable pub closed_cell : Full → Result
closed_cell f =
    cond (is_found (in_scope TableScope (is_cell f.nodes.mem) f.nodes.mem f.stack))
    (cleared (with_stack f (without_cell f.nodes.mem f.stack)))
    (refused 3 f)

-- ---- 10: "any other end tag", in body

-- answer 2: an unknown name, or html
unfoldable pub bad_end_tag : ℕ → Bool
bad_end_tag name = not (is_name name) || eqb name tag.html

-- Steps 1, 2 and 4: the loop goes on as a scope test does, with the special elements as the set. Steps 2.1 and 2.3: implied end tags
-- but for the name, and then all is popped up to the node and with it. Step 3: a special element is met first, nothing is done.
unfoldable pub ended_at : Option ℕ → List ℕ → Places → ℕ → Places
ended_at None m s name = s
ended_at (Some i) m s name = popped_until (same (at s i)) (implied_ends Cursory name m s)

unfoldable pub end_tag : List ℕ → Places → ℕ → Places
end_tag m s name = ended_at (in_scope Special (named m name) m s) m s name

unfoldable pub ended : Full → ℕ → Result
ended f name = cond (bad_end_tag name) (refused 2 f) (done (with_stack f (end_tag f.nodes.mem f.stack name)))
