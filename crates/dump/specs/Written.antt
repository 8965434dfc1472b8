-- Bytes written into a list of a given length: what does not fit is left out.
-- Assumes nothing.
use Rattle.std.specs.Prelude.{ℕ, ◌+◌, min, max, ◌≡◌, List, length}
use Rattle.std.proofs.lemmas.List.Edits.{sets}
use Rattle.dump.specs.declared.page.Page.{Page}

-- o with xs stored from place i on, one byte after the other; a byte past the end is not stored
unfoldable pub written : List ℕ → ℕ → List ℕ → List ℕ
written o i xs = sets o i xs

-- the place after n bytes from i on, of l places: the end where not all of them fit, and i itself where i is past the end
unfoldable pub place_after : ℕ → ℕ → ℕ → ℕ
place_after l i n = max i (min (i + n) l)

-- xs written into o from i on gives e, and r is the place after it
pub record Wrote (o : List ℕ) (i : ℕ) (xs e : List ℕ) (r : ℕ) : Type 0 where
  pub stored : e ≡ written o i xs
  pub ends : r ≡ place_after (length o) i (length xs)

-- a call wrote xs on a page, after what was written before
pub record Grew (old new : Page) (xs : List ℕ) : Type 0 where
  -- it lends the same memory
  pub loan : new.out.ghost_name ≡ old.out.ghost_name
  pub wrote : Wrote old.out.now old.at xs new.out.now new.at
