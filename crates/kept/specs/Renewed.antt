-- The elements that the adoption agency makes take the lowest free numbers too, one after the other: each is the node after the used
-- ones, in 4.13.6, where it takes its node's places in stack and list, and in 4.15 to 4.19.
-- Assumes nothing.
use Rattle.std.specs.Prelude.{ℕ, ◌+◌, ◌<◌, ◌≡◌, List, set}
use Rattle.std.proofs.Common.{refl, ◌∙◌, length}
use Rattle.lent.specs.Mem.{NODES, slots, field, KIND, ELEMENT}
use Rattle.arena.specs.Links.{detached, moved}
use Rattle.makers.specs.Make.{copied, tag_of}
use Rattle.arena.proofs.Ancestors.{kind_free}
use Rattle.arena.proofs.Lengths.{slots_same, length_detached}
use Rattle.arena.proofs.Others.{appended_field, detached_field, moved_field}
use Rattle.places.specs.Places.{at, swapped}
use Rattle.state.specs.Full.{with_stack, with_list, with_nodes}
use Rattle.standard.specs.Place.{appropriate_place}
use Rattle.standard.specs.Adoption.{Inner, renewed, renewed_in, renewed_at, placed_at, rehung, finished}
use Rattle.kept.specs.Copy.{plain_has}
use Rattle.kept.specs.Spent.{length_attached}

-- a copy is an element
copy_kind : (m : List ℕ) (n x : ℕ) → n < slots NODES m → field (copied m n x) n KIND ≡ ELEMENT
unfolding copied
copy_kind m n x h = (plain_has m n (tag_of m x) h).kind

module _ (w : Inner) (room : w.full.nodes.used + 1 < slots NODES w.full.nodes.mem) where
  -- 4.13.6: the new element takes the node's places, i in the stack and j in the list, and is lastNode from then on
  pub renewed_lowest : (block i j : ℕ)
      → ((renewed_at w block i j).full.nodes.used ≡ w.full.nodes.used + 1)
      × ((renewed_at w block i j).last ≡ w.full.nodes.used + 1)
      × ((renewed_at w block i j).full.stack.held ≡ set w.full.stack.held i (w.full.nodes.used + 1))
      × ((renewed_at w block i j).full.list.held ≡ set w.full.list.held j (w.full.nodes.used + 1))
      × (field (renewed_at w block i j).full.nodes.mem (w.full.nodes.used + 1) KIND ≡ ELEMENT)
  unfolding renewed_at renewed_in renewed with_stack with_list with_nodes swapped
  renewed_lowest block i j = (
    refl,
    refl,
    refl,
    refl,
    appended_field (detached (copied w.full.nodes.mem (w.full.nodes.used + 1) (at w.full.stack i)) w.last) _ KIND kind_free _ _
        ∙ detached_field (copied w.full.nodes.mem (w.full.nodes.used + 1) (at w.full.stack i)) _ KIND kind_free _
        ∙ copy_kind w.full.nodes.mem (w.full.nodes.used + 1) (at w.full.stack i) room,
  )

  -- 4.15 to 4.19
  pub finished_lowest : (fe block ancestor : ℕ)
      → ((finished w fe block ancestor).nodes.used ≡ w.full.nodes.used + 1)
      × (field (finished w fe block ancestor).nodes.mem (w.full.nodes.used + 1) KIND ≡ ELEMENT)
  unfolding finished rehung placed_at with_stack with_list with_nodes
  finished_lowest fe block ancestor = (
    refl,
    appended_field (moved (copied (placed_at w.full ancestor w.last) (w.full.nodes.used + 1) fe) block (w.full.nodes.used + 1)) _ KIND kind_free _ _
        ∙ moved_field (copied (placed_at w.full ancestor w.last) (w.full.nodes.used + 1) fe) _ KIND kind_free _ _
        ∙ copy_kind (placed_at w.full ancestor w.last) (w.full.nodes.used + 1) fe (rw (slots_same w.full.nodes.mem (placed_at w.full ancestor w.last) size) room),
  )
    where
      size : length (placed_at w.full ancestor w.last) ≡ length w.full.nodes.mem
      size =
          length_attached (detached w.full.nodes.mem w.last) (appropriate_place w.full.nodes.mem w.full.stack w.full.flags.foster ancestor) w.last
          ∙ length_detached w.full.nodes.mem w.last
