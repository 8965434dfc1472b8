-- Steps 4.14 to 4.19, and all from 4.9 on, as the code meets them, for any part of the state that it is not lent.
-- Assumes nothing.
use Rattle.std.proofs.Common.{ℕ, ◌+◌, ◌-◌, ◌<◌, ◌≡◌, ◌∙◌, List, arith, get_or, Option, Some}
use Rattle.arena.specs.Links.{detached}
use Rattle.lent.specs.Room.{fresh}
use Rattle.places.specs.Places.{places_of, at, place_of, exchanged}
use Rattle.places.proofs.Laws.{at_of}
use Rattle.state.specs.declared.Core.{Core}
use Rattle.state.specs.declared.Context.{Context}
use Rattle.state.specs.Fields.{set_depth, set_nodes, set_list}
use Rattle.state.specs.Full.{Full, full}
use Rattle.standard.specs.declared.Place.{Place}
use Rattle.standard.specs.Place.{appropriate_place, attached}
use Rattle.standard.specs.Adoption.{placed_at, rehung}
use Rattle.standard.specs.Adoption as def
use Rattle.small.proofs.Laws.{all_put}
use Rattle.lent.proofs.Lowest.{fresh_is}
use Rattle.adopted.specs.declared.bookmark.Bookmark.{Bookmark}
use Rattle.adopted.specs.Bookmark.{Inner, inner_at, inner, started, relisted, finished, adopted}
use Rattle.adopted.specs.Firm.{Firm}
use Rattle.adopted.proofs.Simulation.{same_adopted}

module _ (s n l m p q : List ℕ) (x : Option Context) (c : Core) where
  pub placed_is : (ancestor last : ℕ) {r : Place} {n₁ n' : List ℕ} → r ≡ appropriate_place n (places_of s c.depth) c.flags.foster ancestor
      → n₁ ≡ detached n last → n' ≡ attached n₁ r last → n' ≡ placed_at (full s c x n l m p q) ancestor last
  unfolding placed_at
  placed_is ancestor last er en et = et ∙ rw (en, er)

  pub finished_is : (last : ℕ) (mark : Bookmark) (fe block ancestor d e : ℕ) (s' l' : List ℕ) {a : ℕ} {n₁ n' : List ℕ} {c₁ c₂ c' : Core} → c.counts.nodes < 4096
      → a ≡ fresh c.counts.nodes → n₁ ≡ placed_at (full s c x n l m p q) ancestor last → n' ≡ rehung n₁ a fe block
      → places_of s' d ≡ exchanged (places_of s c.depth) fe block a → places_of l' e ≡ relisted mark (places_of l c.counts.list) fe a
      → c₁ ≡ set_nodes c (c.counts.nodes + 1) → c₂ ≡ set_depth c₁ d → c' ≡ set_list c₂ e
      → full s' c' x n' l' m p q ≡ finished (inner_at (full s c x n l m p q) last mark) fe block ancestor
  unfolding finished
  finished_is last mark fe block ancestor d e s' l' h ea en er es el ek ed ee =
      let z : fresh c.counts.nodes ≡ c.counts.nodes + 1 = fresh_is c.counts.nodes (omega arith) in
      all_put s n l m p q x c s' _ l' _ d e _ _ ek ed ee es el ∙ rw (er, en, ea, z)

  pub adopted_is : (fe t b : ℕ) → t < c.depth → b < c.depth → {up : ℕ} {v : Inner} {f : Full} → up ≡ t - 1
      → v ≡ inner (started (full s c x n l m p q) fe (get_or s b 0)) fe (get_or s b 0) 0 b → f ≡ finished v fe (get_or s b 0) (get_or s up 0)
      → f ≡ adopted (full s c x n l m p q) fe t b
  unfolding adopted
  adopted_is fe t b lt lb eu ev ef = ef ∙ rw (ev, eu, at_of s c.depth b lb, at_of s c.depth (t - 1) (omega arith))

-- the bookmark as a position in the list, as the standard has it
pub adopted_same : (f : Full) (fe t j b : ℕ) → Firm f.stack f.list f.nodes.used 1 → t < f.stack.size → b < f.stack.size → place_of f.list fe ≡ Some j
    → get_or f.stack.held t 0 ≡ fe → adopted f fe t b ≡ def.adopted f fe t j b
unfolding at
adopted_same f fe t j b w lt lb e g = same_adopted f fe t j b 0 w e g (omega (arith, w.stack.all)) (omega (arith, w.stack.all))
