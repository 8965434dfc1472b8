-- The check at the edge looks at the lent places as they are; the definitions of the calls see what is in use of them. The rules
-- look below the counts alone, so a state is sound in the one sense exactly where it is in the other.
-- Assumes nothing.
use Rattle.std.specs.Prelude.{ℕ, ◌≤◌, ◌≡◌, ◌↔◌, List, length, Option}
use Rattle.std.proofs.Common.{arith, length-take, length-drop}
use Rattle.places.proofs.Laws.{whole_of, of_whole}
use Rattle.state.specs.Full.{full}
use Rattle.state.specs.declared.Core.{Core}
use Rattle.state.specs.declared.Context.{Context}
use Rattle.sound.specs.Sound.{Sound}
use Rattle.sound.specs.State.{SoundFull}
use Rattle.kept.specs.Front.{Front, front_back, front_take, order_front, open_front, entries_front, modes_front}

-- other places with the same entries below the counts
pub sound_front : {m p q l l' f f' t t' : List ℕ} {c v u d k s foster head : ℕ} {x : Option Context} → Sound m p q l f t c v u d k s foster head x
    → d ≤ length l' → k ≤ length f' → s ≤ length t' → Front l l' d → Front f f' k → Front t t' s → Sound m p q l' f' t' c v u d k s foster head x
sound_front o a b e g h i =
    record {
      sizes = o.sizes;
      places = record { stack = (o.places.stack.0, a); entries = (o.places.entries.0, b); modes = (o.places.modes.0, e) };
      tree =
          record {
            children = o.tree.children;
            kinds = o.tree.kinds;
            names = o.tree.names;
            top = o.tree.top;
            order = order_front o.tree.order o.places.stack.1 (omega arith) a g;
            stack = open_front o.tree.stack o.tree.stack.some (omega arith) g;
          };
      texts = o.texts;
      entries = entries_front o.entries (omega arith) h;
      modes = modes_front o.modes (omega arith) i;
      settings = o.settings;
    }

module _ (s : List ℕ) (c : Core) (x : Option Context) (n l m p q : List ℕ) where
  pub full_sound : length s ≡ 512
      → Sound n p q s l m c.counts.nodes c.counts.pieces c.counts.pairs c.depth c.counts.list c.counts.modes c.flags.foster c.flags.head x
      ↔ SoundFull (full s c x n l m p q)
  full_sound e = (
    λ o.
        record {
          stack = whole_of s c.depth o.places.stack.1;
          list = whole_of l c.counts.list o.places.entries.1;
          modes = whole_of m c.counts.modes o.places.modes.1;
          places = omega (arith, length-take c.depth s, length-drop c.depth s, o.places.stack);
          sound =
              sound_front o
              (omega (arith, length-take c.depth s, o.places.stack))
              (omega (arith, length-take c.counts.list l, o.places.entries))
              (omega (arith, length-take c.counts.modes m, o.places.modes))
              (front_take s c.depth)
              (front_take l c.counts.list)
              (front_take m c.counts.modes);
        },
    λ o.
        sound_front o.sound
        (of_whole s c.depth o.stack)
        (of_whole l c.counts.list o.list)
        (of_whole m c.counts.modes o.modes)
        (front_back (front_take s c.depth))
        (front_back (front_take l c.counts.list))
        (front_back (front_take m c.counts.modes)),
  )
