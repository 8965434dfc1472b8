-- The cases of the definitions that branch, as the code meets them.
-- Assumes nothing.
use Rattle.std.proofs.Common.{ℕ, zero, suc, ◌-◌, ◌≤◌, refl, arith, sub-one, ◌≡◌, true, false, List}
use Rattle.lent.specs.Mem.{put_field, KIND, CONTENTS}
use Rattle.lent.specs.Room.{fresh}
use Rattle.makers.specs.Make.{is_template, nodes_of, plain, bare, bare_links, bare_rest, tied, element}
use Rattle.makers.specs.declared.make.Tag.{Tag}

pub element_plain : (m : List ℕ) (n : ℕ) (t : Tag) → is_template t ≡ false → element m n t ≡ plain m n t
unfolding element
element_plain m n t h = rw h

pub element_template : (m : List ℕ) (n : ℕ) (t : Tag) → is_template t ≡ true
    → element m n t ≡ tied (bare (plain m n t) (fresh n) CONTENTS) n (fresh n)
unfolding element
element_template m n t h = rw h

pub nodes_one : (t : Tag) → is_template t ≡ false → nodes_of t ≡ 1
unfolding nodes_of
nodes_one t h = rw h

pub nodes_two : (t : Tag) → is_template t ≡ true → nodes_of t ≡ 2
unfolding nodes_of
nodes_two t h = rw h

-- the first k fields after the kind are 0
pub cleared : List ℕ → ℕ → ℕ → List ℕ
cleared m n zero = m
cleared m n (suc k) = put_field (cleared m n k) n (suc k) 0

pub cleared_none : (m : List ℕ) (n : ℕ) → cleared m n 0 ≡ m
unfolding cleared
cleared_none m n = refl

pub cleared_next : (m : List ℕ) (n k : ℕ) → 1 ≤ k → cleared m n k ≡ put_field (cleared m n (k - 1)) n k 0
unfolding cleared
cleared_next m n zero h = absurd (omega arith)
cleared_next m n (suc k) h = rw sub-one

pub cleared_all : (m : List ℕ) (n kind : ℕ) → bare m n kind ≡ cleared (put_field m n KIND kind) n 13
unfolding bare bare_links bare_rest cleared
cleared_all m n kind = refl
