-- The calls that touch places and flags alone keep a sound state sound.
-- Assumes nothing.
use Rattle.std.proofs.Common.{ℕ, ◌+◌, ◌-◌, ◌<◌, ◌≤◌, min, refl, ◌∙◌, arith, length, ltb, ltb-true, ltb-false}
use Rattle.std.specs.Prelude.{◌≡◌, ◌||◌, eqb, None, Option, Some, ℕ}
use Rattle.std.proofs.lemmas.Bool.{eqb-false}
use Rattle.places.specs.Places.{pushed, cut, place_of, last_with, down, same, never}
use Rattle.places.proofs.Laws.{down_last}
use Rattle.state.specs.Full.{Full, refused, with_stack, with_list}
use Rattle.sound.specs.State.{SoundFull}
use Rattle.standard.specs.Small.{room, marked, cleared_at, cleared, popped, fostered, headed, moded, unmoded, MARKER}
use Rattle.kept.specs.Keeps.{Keeps, either, or_false}
use Rattle.kept.specs.Parts.{stack_sound, list_sound, modes_sound, flags_sound}
use Rattle.kept.specs.Front.{front_take, pushed_whole, cut_whole, cut_total, order_front, open_front, entries_front, modes_front, entries_marker, modes_more}

module _ (f : Full) (s : SoundFull f) where
  cut_list : (i : ℕ) → i ≤ f.list.size → SoundFull (with_list f (cut f.list i))
  unfolding cut
  cut_list i h =
      list_sound f s (cut f.list i) (cut_whole f.list s.list i h) (omega (arith, s.sound.places.entries))
      (entries_front s.sound.entries h (front_take f.list.held i))

  pub same_sound : (k : ℕ) → Keeps (refused k f)
  same_sound k = record { sound = s }

  pub marked_sound : SoundFull (marked f).after
  unfolding marked room pushed
  marked_sound = k.sound
    where
      k : Keeps (marked f)
      k =
          either (ltb f.list.size (min (length f.list.held + length f.list.free) 256))
          (λ e. let h = ltb-true f.list.size _ e in
          record { sound = list_sound f s (pushed f.list MARKER) (pushed_whole f.list s.list MARKER) (omega (arith, h)) (entries_marker s.sound.entries s.list.all) })
          (λ e. same_sound 6)

  pub cleared_sound : SoundFull (cleared f).after
  unfolding cleared cleared_at place_of last_with
  cleared_sound = by (down (same MARKER) never f.list.held (length f.list.held)) refl
    where
      by : (x : Option ℕ) → down (same MARKER) never f.list.held (length f.list.held) ≡ x → SoundFull (with_list f (cleared_at x f.list))
      by None e = cut_list 0 (omega arith)
      by (Some i) e = cut_list i (omega (arith, (down_last (same MARKER) never f.list.held (length f.list.held) i e).below, s.list.all))

  -- a stack cut past its first entry
  pub cut_stack : (i : ℕ) → 0 < i → i ≤ f.stack.size → SoundFull (with_stack f (cut f.stack i))
  unfolding cut
  cut_stack i h le =
      let w = cut_whole f.stack s.stack i le in
      stack_sound f s (cut f.stack i) w (cut_total f.stack s.stack i le ∙ s.places)
      (order_front s.sound.tree.order s.sound.places.stack.1 le (omega (arith, w.all)) (front_take f.stack.held i))
      (open_front s.sound.tree.stack h le (front_take f.stack.held i))

  pub popped_sound : SoundFull (popped f).after
  unfolding popped
  popped_sound = k.sound
    where
      k : Keeps (popped f)
      k =
          either (ltb f.stack.size 2) (λ e. same_sound 3)
          (λ e. let h = ltb-false f.stack.size 2 e in
          record { sound = cut_stack (f.stack.size - 1) (omega (arith, h)) (omega arith) })

  pub fostered_sound : (on : ℕ) → SoundFull (fostered f on).after
  unfolding fostered
  fostered_sound on = k.sound
    where
      k : Keeps (fostered f on)
      k = either (ltb 1 on) (λ e. same_sound 2) (λ e. record { sound = flags_sound f s _ (ltb-false 1 on e) s.sound.settings.seen })

  pub headed_sound : (on : ℕ) → SoundFull (headed f on).after
  unfolding headed
  headed_sound on = k.sound
    where
      k : Keeps (headed f on)
      k = either (ltb 1 on) (λ e. same_sound 2) (λ e. record { sound = flags_sound f s _ s.sound.settings.fostering (ltb-false 1 on e) })

  pub moded_sound : (v : ℕ) → SoundFull (moded f v).after
  unfolding moded room pushed
  moded_sound v = k.sound
    where
      k : Keeps (moded f v)
      k =
          either (eqb v 0 || ltb 21 v) (λ e. same_sound 2)
          (λ e.
          let g = or_false (eqb v 0) (ltb 21 v) e in
          let a : v ≡ 0 → ⊥ = eqb-false v 0 g.0 in
          let b : v ≤ 21 = ltb-false 21 v g.1 in
          either (ltb f.modes.size (min (length f.modes.held + length f.modes.free) 64))
          (λ e. let h = ltb-true f.modes.size _ e in
          record { sound = modes_sound f s (pushed f.modes v) (pushed_whole f.modes s.modes v) (omega (arith, h)) (modes_more s.sound.modes s.modes.all (omega arith) b) })
          (λ e. same_sound 6))

  pub unmoded_sound : SoundFull (unmoded f).after
  unfolding unmoded cut
  unmoded_sound = k.sound
    where
      i : ℕ
      i = f.modes.size - 1

      k : Keeps (unmoded f)
      k =
          either (ltb 0 f.modes.size)
          (λ e.
          record {
            sound =
                modes_sound f s (cut f.modes i) (cut_whole f.modes s.modes i (omega arith)) (omega (arith, s.sound.places.modes))
                (modes_front s.sound.modes (omega arith) (front_take f.modes.held i));
          })
          (λ e. same_sound 3)
