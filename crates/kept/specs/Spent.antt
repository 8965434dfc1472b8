-- 4.14 to 4.19 of the adoption agency take no more bytes than are lent.
-- Assumes nothing.
use Rattle.std.specs.Prelude.{ℕ, ◌+◌, ◌≡◌, List, length}
use Rattle.std.proofs.Common.{◌∙◌}
use Rattle.lent.specs.Mem.{NODES, slots}
use Rattle.lent.proofs.Kit.{length_store}
use Rattle.arena.specs.Links.{detached, moved}
use Rattle.makers.specs.Make.{bare_links, bare_rest, bare, tagged, plain, copied}
use Rattle.arena.proofs.Lengths.{slots_same, length_appended, length_inserted, length_detached, length_moved}
use Rattle.state.specs.Full.{with_stack, with_list, with_nodes}
use Rattle.standard.specs.declared.Place.{Place}
use Rattle.standard.specs.declared.Place.TheVariants.{End, Before}
use Rattle.standard.specs.Place.{attached, appropriate_place}
use Rattle.standard.specs.Adoption.{Inner, placed_at, rehung, finished}

pub length_attached : (m : List ℕ) (w : Place) (n : ℕ) → length (attached m w n) ≡ length m
unfolding attached
length_attached m (End p) n = length_appended m p.0 n
length_attached m (Before s) n = length_inserted m s.0 n

pub length_copied : (m : List ℕ) (n x : ℕ) → length (copied m n x) ≡ length m
unfolding copied plain tagged bare bare_links bare_rest
length_copied m n x = simp length_store

length_rehung : (m : List ℕ) (n fe b : ℕ) → length (rehung m n fe b) ≡ length m
unfolding rehung
length_rehung m n fe b = length_appended (moved (copied m n fe) b n) b n ∙ length_moved (copied m n fe) b n ∙ length_copied m n fe

module _ (w : Inner) (fe block ancestor : ℕ) where
  pub finished_slots : slots NODES (finished w fe block ancestor).nodes.mem ≡ slots NODES w.full.nodes.mem
  unfolding finished placed_at with_list with_stack with_nodes
  finished_slots =
      slots_same w.full.nodes.mem _
      (length_rehung (placed_at w.full ancestor w.last) (w.full.nodes.used + 1) fe block
      ∙ length_attached (detached w.full.nodes.mem w.last) (appropriate_place w.full.nodes.mem w.full.stack w.full.flags.foster ancestor) w.last
      ∙ length_detached w.full.nodes.mem w.last)
