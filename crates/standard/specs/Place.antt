-- 13.2.6.1, "appropriate place for inserting a node".
-- Assumes nothing.
use Rattle.std.specs.Prelude.{ℕ, ◌-◌, Bool, true, false, cond, ◌&&◌, ◌||◌, List, eqb, None, Option, Some}
use Rattle.names.specs.Tag as tag
use Rattle.lent.specs.Mem.{field, KIND, PARENT, PREV, LAST, TIE, TEXT}
use Rattle.lent.specs.declared.Node.{Node}
use Rattle.places.specs.Places.{Places, at, last_with, never}
use Rattle.arena.specs.Links.{appended, inserted}
use Rattle.standard.specs.Html.{is_html, is_foster_target}
use Rattle.standard.specs.declared.Place.{Place}
use Rattle.standard.specs.declared.Place.TheVariants.{End, Before}

abbrev pub node : ℕ → Node
node n = record { 0 = n }

abbrev pub pick : Bool → Place → Place → Place
pick true a b = a
pick false a b = b

-- Inside n, after its last child. Step 3: inside a template means inside its contents.
unfoldable pub end_of : List ℕ → ℕ → Place
end_of m n = End (node (cond (is_html m n tag.template) (field m n TIE) n))

-- Step 2.6 and step 3: immediately before table t, inside its parent; a parent that is a template means the end of its contents.
unfoldable pub before_table : List ℕ → ℕ → Place
before_table m t = pick (is_html m (field m t PARENT) tag.template) (end_of m (field m t PARENT)) (Before (node t))

-- Steps 2.6 to 2.8: entry i of the stack is the last table. Without a parent the element above it on the stack stands in.
unfoldable pub table_place : List ℕ → Places → ℕ → Place
table_place m s i = pick (eqb (field m (at s i) PARENT) 0) (end_of m (at s (i - 1))) (before_table m (at s i))

-- Step 2.4: entry i is a template, lower than any table.
unfoldable pub template_or_table : List ℕ → Places → ℕ → Place
template_or_table m s i = pick (is_html m (at s i) tag.template) (end_of m (at s i)) (table_place m s i)

-- Step 2.5: neither is open, so the first element of the stack.
unfoldable pub foster_at : Option ℕ → List ℕ → Places → Place
foster_at None m s = end_of m (at s 0)
foster_at (Some i) m s = template_or_table m s i

-- Steps 2.2, 2.3: the last template or table of the stack, whichever is lower.
unfoldable pub is_foster_stop : List ℕ → ℕ → Bool
is_foster_stop m n = is_html m n tag.template || is_html m n tag.table

unfoldable pub foster_place : List ℕ → Places → Place
foster_place m s = foster_at (last_with (is_foster_stop m) never s) m s

-- The whole: with foster parenting on and a target that it concerns, else inside the target.
unfoldable pub appropriate_place : List ℕ → Places → ℕ → ℕ → Place
appropriate_place m s foster target = pick (eqb foster 1 && is_foster_target m target) (foster_place m s) (end_of m target)

-- ---- what is done at a place

-- n, which has no parent, is put there
unfoldable pub attached : List ℕ → Place → ℕ → List ℕ
attached m (End p) n = appended m p.0 n
attached m (Before s) n = inserted m s.0 n

-- what stands directly before it
unfoldable pub sibling_before : List ℕ → Place → ℕ
sibling_before m (End p) = field m p.0 LAST
sibling_before m (Before s) = field m s.0 PREV

-- the text node directly before it, 0 if there is none
unfoldable pub text_before : List ℕ → Place → ℕ
text_before m p =
    cond (eqb (sibling_before m p) 0) 0 (cond (eqb (field m (sibling_before m p) KIND) TEXT) (sibling_before m p) 0)
