-- Steps 4.9 to 4.19 with the bookmark as the code has it: a node, in whose place the new entry goes (`Replace`) or right after which it
-- comes (`InsertAfter`). Each definition is the one of the same name in `standard/specs/Adoption.antt`, where the bookmark is a
-- position, as in the standard; `proofs/Simulation.antt` shows that both give the same state.
-- Assumes nothing.
use Rattle.std.specs.Prelude.{ℕ, zero, suc, ◌+◌, ◌-◌, cond, eqb, ltb, None, Option, Some}
use Rattle.places.specs.Places.{Places, at, place_of, exchanged, renamed}
use Rattle.state.specs.Full.{Full, with_stack, with_list, with_nodes}
use Rattle.standard.specs.Place.{node}
use Rattle.standard.specs.Adoption.{left_stack, left_both, renewed_in, placed_at, rehung}
use Rattle.adopted.specs.declared.bookmark.Bookmark.{Bookmark}
use Rattle.adopted.specs.declared.bookmark.Bookmark.TheVariants.{Replace, InsertAfter}

pub record Inner : Type 0 where
  pub full : Full
  pub last : ℕ
  pub mark : Bookmark

abbrev pub inner_at : Full → ℕ → Bookmark → Inner
inner_at f last mark = record { full = f; last = last; mark = mark }

-- 4.13.7
unfoldable pub mark_of : ℕ → ℕ → ℕ → Bookmark → Bookmark
mark_of last block new mark = cond (eqb last block) (InsertAfter (node new)) mark

-- 4.13.6 to 4.13.9
unfoldable pub renewed_at : Inner → ℕ → ℕ → ℕ → Inner
renewed_at w block i j =
    inner_at (renewed_in w.full i j w.last) (w.full.nodes.used + 1) (mark_of w.last block (w.full.nodes.used + 1) w.mark)

-- 4.13.4 to 4.13.9
unfoldable pub turn_at : Option ℕ → Inner → ℕ → ℕ → ℕ → Inner
turn_at None w block i counter = inner_at (left_stack w.full i) w.last w.mark
turn_at (Some j) w block i counter = cond (ltb 3 counter) (inner_at (left_both w.full i j) w.last w.mark) (renewed_at w block i j)

unfoldable pub turned : Inner → ℕ → ℕ → ℕ → Inner
turned w block i counter = turn_at (place_of w.full.list (at w.full.stack i)) w block i counter

-- 4.13
unfoldable pub inner : Inner → ℕ → ℕ → ℕ → ℕ → Inner
inner w fe block counter zero = w
inner w fe block counter (suc i) =
    cond (eqb (at w.full.stack i) fe) w (inner (turned w block i (counter + 1)) fe block (counter + 1) i)

-- 4.18
unfoldable pub relisted : Bookmark → Places → ℕ → ℕ → Places
relisted (Replace x) l fe n = renamed l x.0 n
relisted (InsertAfter x) l fe n = exchanged l fe x.0 n

-- 4.14 to 4.19
unfoldable pub finished : Inner → ℕ → ℕ → ℕ → Full
finished w fe block ancestor =
    with_list
    (with_stack
    (with_nodes w.full (rehung (placed_at w.full ancestor w.last) (w.full.nodes.used + 1) fe block) (w.full.nodes.used + 1))
    (exchanged w.full.stack fe block (w.full.nodes.used + 1)))
    (relisted w.mark w.full.list fe (w.full.nodes.used + 1))

-- 4.10 to 4.12
unfoldable pub started : Full → ℕ → ℕ → Inner
started f fe block = inner_at f block (Replace (node fe))

-- 4.9 to 4.19
unfoldable pub adopted : Full → ℕ → ℕ → ℕ → Full
adopted f fe s b = finished (inner (started f fe (at f.stack b)) fe (at f.stack b) 0 b) fe (at f.stack b) (at f.stack (s - 1))
