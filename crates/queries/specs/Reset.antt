-- 13.2.4.1, "reset the insertion mode appropriately".
-- Assumes nothing.
use Rattle.std.specs.Prelude.{ℕ, zero, suc, ◌-◌, Bool, cond, not, ◌&&◌, ◌||◌, List, eqb, None, Option, Some}
use Rattle.names.specs.Space as space
use Rattle.names.specs.Tag as tag
use Rattle.places.specs.Places.{Places, at}
use Rattle.state.specs.declared.Context.{Context}
use Rattle.state.specs.Full.{Full}
use Rattle.queries.specs.declared.reset.Mode as mode
use Rattle.queries.specs.declared.reset.Reset.{Reset}
use Rattle.queries.specs.declared.reset.Reset.TheVariants.{Mode, Template}
use Rattle.queries.specs.Told.{Asked, told, refused}
use Rattle.queries.specs.Element.{Expanded, standing}

-- What an entry of the stack decides is a `Reset`, or nothing.

-- the insertion modes of the steps, by number in the standard's order (13.2.4.1): 1 is Initial, 21 After after frameset
abbrev pub BEFORE_HEAD : ℕ
BEFORE_HEAD = 3

abbrev pub IN_HEAD : ℕ
IN_HEAD = 4

abbrev pub AFTER_HEAD : ℕ
AFTER_HEAD = 6

abbrev pub IN_BODY : ℕ
IN_BODY = 7

abbrev pub IN_TABLE : ℕ
IN_TABLE = 9

abbrev pub IN_CAPTION : ℕ
IN_CAPTION = 11

abbrev pub IN_COLUMN_GROUP : ℕ
IN_COLUMN_GROUP = 12

abbrev pub IN_TABLE_BODY : ℕ
IN_TABLE_BODY = 13

abbrev pub IN_ROW : ℕ
IN_ROW = 14

abbrev pub IN_CELL : ℕ
IN_CELL = 15

abbrev pub IN_FRAMESET : ℕ
IN_FRAMESET = 18

-- Steps 4 to 14 for an HTML element with a name. `last` is step 3's; `head` is 0 where the head element pointer is null.
unfoldable pub mode_for : ℕ → Bool → ℕ → Option Reset
mode_for head last name =
    -- 4
    cond ((eqb name tag.td || eqb name tag.th) && not last) (Some (Mode IN_CELL))
    -- 5
    (cond (eqb name tag.tr) (Some (Mode IN_ROW))
    -- 6
    (cond (eqb name tag.tbody || (eqb name tag.thead || eqb name tag.tfoot)) (Some (Mode IN_TABLE_BODY))
    -- 7
    (cond (eqb name tag.caption) (Some (Mode IN_CAPTION))
    -- 8
    (cond (eqb name tag.colgroup) (Some (Mode IN_COLUMN_GROUP))
    -- 9
    (cond (eqb name tag.table) (Some (Mode IN_TABLE))
    -- 10
    (cond (eqb name tag.template) (Some Template)
    -- 11
    (cond (eqb name tag.head && not last) (Some (Mode IN_HEAD))
    -- 12
    (cond (eqb name tag.body) (Some (Mode IN_BODY))
    -- 13
    (cond (eqb name tag.frameset) (Some (Mode IN_FRAMESET))
    -- 14
    (cond (eqb name tag.html) (Some (Mode (cond (eqb head 0) BEFORE_HEAD AFTER_HEAD)))
    None))))))))))

-- the steps speak of HTML elements alone
unfoldable pub mode_at : ℕ → Bool → Expanded → Option Reset
mode_at head last e = cond (eqb e.space space.html) (mode_for head last e.name) None

unfoldable pub onward : Option Reset → Reset → Reset
onward (Some x) r = x
onward None r = r

-- Steps 2, 3, 16 and 17: from the current node up, the first k entries of the stack are left. Step 15: In body where none decides.
unfoldable pub walked : List ℕ → Places → Option Context → ℕ → ℕ → Reset
walked m s x head zero = Mode IN_BODY
walked m s x head (suc k) = onward (mode_at head (eqb k 0) (standing m x (at s k) k)) (walked m s x head k)

-- The answer and the mode. Step 10: the current template insertion mode is the last of the stack of template insertion modes; 3
-- where that is empty.
unfoldable pub given : Reset → Places → Asked
given (Mode m) s = told m
given Template s = cond (eqb s.size 0) (refused 3) (told (at s (s.size - 1)))

abbrev pub mode_number : mode.Mode → ℕ
mode_number m = m.0

unfoldable pub reset_mode : Full → Asked
reset_mode f = given (walked f.nodes.mem f.stack f.context f.flags.head f.stack.size) f.modes
