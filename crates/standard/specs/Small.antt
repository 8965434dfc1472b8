-- The calls that touch places and flags alone: 5 and 6 (formatting list), 14 (pop), 15 and 18 (flags), 16 and 17 (template modes).
-- Assumes nothing.
use Rattle.std.specs.Prelude.{ℕ, ◌+◌, ◌-◌, min, cond, ◌||◌, length, eqb, ltb, None, Option, Some}
use Rattle.places.specs.Places.{Places, pushed, cut, place_of}
use Rattle.state.specs.Full.{Full, Result, refused, done, with_stack, with_list, with_modes, with_flags}

-- how many places there are: those that were lent, but no more than most
unfoldable pub room : ℕ → Places → ℕ
room most p = min (length p.held + length p.free) most

-- a marker's number in the list
abbrev pub MARKER : ℕ
MARKER = 65535

-- 5: 13.2.4.3, "insert a marker at the end of the list of active formatting elements"; answer 6 if the list is full
unfoldable pub marked : Full → Result
marked f = cond (ltb f.list.size (room 256 f.list)) (done (with_list f (pushed f.list MARKER))) (refused 6 f)

-- 6: 13.2.4.3, "clear the list of active formatting elements up to the last marker", steps 1 to 4: entries go up to and with the
-- last marker, or all of them
unfoldable pub cleared_at : Option ℕ → Places → Places
cleared_at None p = cut p 0
cleared_at (Some i) p = cut p i

unfoldable pub cleared : Full → Result
cleared f = done (with_list f (cleared_at (place_of f.list MARKER) f.list))

-- 14: 13.2.4.2, "pop the current node"; answer 3 if only the root is open
unfoldable pub popped : Full → Result
popped f = cond (ltb f.stack.size 2) (refused 3 f) (done (with_stack f (cut f.stack (f.stack.size - 1))))

-- 15: 13.2.6.1, foster parenting is enabled or disabled; 18: 13.2.4.4, the head element pointer is set or null. A flag is 0 or 1.
unfoldable pub fostered : Full → ℕ → Result
fostered f on = cond (ltb 1 on) (refused 2 f) (done (with_flags f (record { foster = on; head = f.flags.head })))

unfoldable pub headed : Full → ℕ → Result
headed f on = cond (ltb 1 on) (refused 2 f) (done (with_flags f (record { foster = f.flags.foster; head = on })))

-- 16: 13.2.4.1, a mode, 1 to 21, is pushed onto the stack of template insertion modes; answer 6 if there is no room
unfoldable pub moded : Full → ℕ → Result
moded f v =
    cond (eqb v 0 || ltb 21 v) (refused 2 f)
    (cond (ltb f.modes.size (room 64 f.modes)) (done (with_modes f (pushed f.modes v))) (refused 6 f))

-- 17: 13.2.4.1, the current template insertion mode is popped; answer 3 if there is none
unfoldable pub unmoded : Full → Result
unmoded f = cond (ltb 0 f.modes.size) (done (with_modes f (cut f.modes (f.modes.size - 1)))) (refused 3 f)
