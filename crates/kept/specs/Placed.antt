-- The adoption agency, 4.14: an open element goes to the appropriate place, with an element that was opened before it as target. A sound
-- state stays sound, if the open tables and templates stand before it too.
-- Assumes nothing.
use Rattle.std.specs.Prelude.{ℕ, ◌≤◌, ◌<◌, ◌≡◌, ◌≢◌, true, List, length}
use Rattle.std.proofs.Common.{sym, ◌∙◌, arith}
use Rattle.theory.specs.Fn.{at}
use Rattle.theory.specs.Natural.{natural→ord, ord→natural}
use Rattle.lent.specs.Mem.{field}
use Rattle.arena.specs.Links.{detached}
use Rattle.arena.proofs.Others.{NoLink, detached_field}
use Rattle.places.specs.Places as places
use Rattle.state.specs.Full.{Full, with_nodes}
use Rattle.sound.specs.State.{SoundFull}
use Rattle.standard.specs.declared.Place.{Place}
use Rattle.standard.specs.Place.{attached, is_foster_stop, appropriate_place}
use Rattle.kept.specs.Parts.{nodes_sound}
use Rattle.kept.specs.Same.{open_used}
use Rattle.kept.specs.Attach.{attached_field}
use Rattle.kept.specs.Usual.{target_usual}
use Rattle.kept.specs.Tree.{stack_once}
use Rattle.kept.specs.Relocate.{relocated_length, relocated_up, relocated_sound}
use Rattle.kept.specs.Beneath.{Fit, beneath_order, take_whole, whole_order, appropriate_fit}

-- entry j of the stack goes there, and entry i is the target
abbrev target : Full → ℕ → Place
target f i = appropriate_place f.nodes.mem f.stack f.flags.foster (places.at f.stack i)

abbrev pub placed : Full → ℕ → ℕ → List ℕ
placed f i j = attached (detached f.nodes.mem (at f.stack.held j)) (target f i) (at f.stack.held j)

pub placed_field : (f : Full) (i j n g : ℕ) → NoLink g → field (placed f i j) n g ≡ field f.nodes.mem n g
placed_field f i j n g h =
    attached_field (detached f.nodes.mem (at f.stack.held j)) (target f i) (at f.stack.held j) n g h
    ∙ detached_field f.nodes.mem n g h (at f.stack.held j)

module _ (f : Full) (s : SoundFull f) (i j : ℕ) (h : i < j) (jd : j < f.stack.size)
    (stops : (k : ℕ) → k < length f.stack.held → is_foster_stop f.nodes.mem (places.at f.stack k) ≡ true → k < j) where
  used : (0 < at f.stack.held j) × (at f.stack.held j ≤ f.nodes.used)
  used = open_used s.sound j jd

  not_root : at f.stack.held j ≢ 2
  unfolding places.at
  not_root e = stack_once f s 0 j (omega arith) jd (s.sound.tree.stack.root ∙ sym e)

  fit : Fit f.nodes.mem f.stack.held j (target f i)
  fit = appropriate_fit f s j jd stops i h

  pub placed_length : length (placed f i j) ≡ length f.nodes.mem
  placed_length =
      relocated_length s.sound (at f.stack.held j) used.0 used.1 (s.sound.tree.stack.elements j jd) not_root (target f i)
      (target_usual f s i (omega arith)) fit.aside

  pub placed_sound : SoundFull (with_nodes f (placed f i j) f.nodes.used)
  placed_sound =
      let e = s.sound.tree.stack.elements j jd in
      let w = target_usual f s i (omega arith) in
      let o = beneath_order (natural→ord (whole_order f s)) j _ (omega (arith, s.stack.all)) w.spot.some w.spot.used fit.beneath
      (relocated_up s.sound (at f.stack.held j) used.0 used.1 e not_root (target f i) w fit.aside) in
      nodes_sound f s (placed f i j) f.nodes.used
      (relocated_sound s.sound (at f.stack.held j) used.0 used.1 e not_root (target f i) w fit.aside
      (rw (take_whole f s) (ord→natural o)))
