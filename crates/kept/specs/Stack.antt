-- The calls 10 to 13, which pop from the stack, keep a sound state sound: each is refused or cuts the stack past the root.
-- Assumes nothing.
use Rattle.std.specs.Prelude.{ℕ, ◌≡◌, true, get_or}
use Rattle.std.proofs.Common.{eq-eqb}
use Rattle.names.specs.Space as space
use Rattle.names.specs.Tag as tag
use Rattle.names.specs.Sets.{ButtonScope, TableScope}
use Rattle.lent.specs.Mem.{field, KIND, SPACE, NAME, ELEMENT}
use Rattle.places.specs.Places.{Places}
use Rattle.state.specs.Full.{Full, with_stack}
use Rattle.sound.specs.State.{SoundFull}
use Rattle.standard.specs.Html.{is_html}
use Rattle.standard.specs.Stack.{named, is_cell, in_scope, is_found, bad_implied, implied, closed_p, without_cell, closed_cell, bad_end_tag, ended}
use Rattle.stacks.proofs.Root.{Rooted, Lower, ends_lower, p_lower, cell_lower, end_lower}
use Rattle.kept.specs.Keeps.{Keeps, either}
use Rattle.kept.specs.Small.{cut_stack, same_sound, cleared_sound}

module _ (f : Full) (s : SoundFull f) where
  -- the first open element is the root, an HTML html
  root_html : is_html f.nodes.mem (get_or f.stack.held 0 0) tag.html ≡ true
  unfolding is_html
  root_html =
      let t = s.sound.tree.top in
      rw (s.sound.tree.stack.root, eq-eqb (field f.nodes.mem 2 KIND) ELEMENT t.element, eq-eqb (field f.nodes.mem 2 SPACE) space.html t.space, eq-eqb (field f.nodes.mem 2 NAME) tag.html t.name)

  rooted : Rooted f.nodes.mem f.stack
  rooted = record { whole = s.stack; some = s.sound.tree.stack.some; root = root_html }

  lower_sound : (p : Places) → Lower f.stack p → SoundFull (with_stack f p)
  lower_sound p l = rw l.is (cut_stack f s l.left l.some l.most)

  -- 13
  pub implied_sound : (kind except : ℕ) → SoundFull (implied f kind except).after
  unfolding implied
  implied_sound kind except = k.sound
    where
      k : Keeps (implied f kind except)
      k =
          either (bad_implied kind except) (λ e. same_sound f s 2)
          (λ e. record { sound = lower_sound _ (ends_lower f.nodes.mem f.stack rooted kind except) })

  -- 11
  pub closed_p_sound : SoundFull (closed_p f).after
  unfolding closed_p
  closed_p_sound = k.sound
    where
      k : Keeps (closed_p f)
      k =
          either (is_found (in_scope ButtonScope (named f.nodes.mem tag.p) f.nodes.mem f.stack))
          (λ e. record { sound = lower_sound _ (p_lower f.nodes.mem f.stack rooted e) })
          (λ e. same_sound f s 3)

  -- 12
  pub closed_cell_sound : SoundFull (closed_cell f).after
  unfolding closed_cell
  closed_cell_sound = k.sound
    where
      k : Keeps (closed_cell f)
      k =
          either (is_found (in_scope TableScope (is_cell f.nodes.mem) f.nodes.mem f.stack))
          (λ e. record { sound = cleared_sound (with_stack f (without_cell f.nodes.mem f.stack)) (lower_sound _ (cell_lower f.nodes.mem f.stack rooted e)) })
          (λ e. same_sound f s 3)

  -- 10
  pub ended_sound : (name : ℕ) → SoundFull (ended f name).after
  unfolding ended
  ended_sound name = k.sound
    where
      k : Keeps (ended f name)
      k =
          either (bad_end_tag name) (λ e. same_sound f s 2)
          (λ e. record { sound = lower_sound _ (end_lower f.nodes.mem f.stack rooted name e) })
