-- One part of a sound state is another: other places, flags, nodes, pieces and pairs.
-- Assumes nothing.
use Rattle.std.specs.Prelude.{ℕ, ◌+◌, ◌≤◌, ◌<◌, ◌≡◌, length}
use Rattle.std.proofs.Common.{◌∙◌, arith, List, [], ◌∷◌, ◌++◌, take, length-append, take_all}
use Rattle.theory.specs.Natural.{Natural}
use Rattle.lent.specs.Mem.{field, up, KIND, ELEMENT}
use Rattle.places.specs.Places.{Places, Whole, pushed}
use Rattle.state.specs.Full.{Full, with_stack, with_list, with_modes, with_flags, with_nodes, with_pieces, with_pairs}
use Rattle.state.specs.declared.Flags.{Flags}
use Rattle.sound.specs.Sound.{Open, Entries, Modes, Sound}
use Rattle.sound.specs.State.{SoundFull}
use Rattle.kept.specs.Front.{pushed_whole, pushed_total, open_more}

-- the rules, with other nodes m, pieces p and pairs q than those of f, of which c, v and u are used
abbrev pub Over : Full → List ℕ → List ℕ → List ℕ → ℕ → ℕ → ℕ → Type 0
Over f m p q c v u =
    Sound m p q f.stack.held f.list.held f.modes.held c v u f.stack.size f.list.size f.modes.size f.flags.foster
    f.flags.head f.context

module _ (f : Full) (s : SoundFull f) where
  pub stack_sound : (p : Places) → Whole p → length p.held + length p.free ≡ 512
      → Natural (up f.nodes.mem) f.nodes.used (take p.size p.held) → Open f.nodes.mem p.held p.size → SoundFull (with_stack f p)
  unfolding with_stack
  stack_sound p w e o t =
      record {
        stack = w;
        list = s.list;
        modes = s.modes;
        places = e;
        sound =
            record {
              sizes = s.sound.sizes;
              places = record { stack = (omega (arith, w.all), omega (arith, w.all)); entries = s.sound.places.entries; modes = s.sound.places.modes };
              tree =
                  record {
                    children = s.sound.tree.children;
                    kinds = s.sound.tree.kinds;
                    names = s.sound.tree.names;
                    top = s.sound.tree.top;
                    order = o;
                    stack = t;
                  };
              texts = s.sound.texts;
              entries = s.sound.entries;
              modes = s.sound.modes;
              settings = s.sound.settings;
            };
      }

  pub list_sound : (p : Places) → Whole p → p.size ≤ 256 → Entries f.nodes.mem f.nodes.used p.held p.size → SoundFull (with_list f p)
  unfolding with_list
  list_sound p w h e =
      record {
        stack = s.stack;
        list = w;
        modes = s.modes;
        places = s.places;
        sound =
            record {
              sizes = s.sound.sizes;
              places = record { stack = s.sound.places.stack; entries = (h, omega (arith, w.all)); modes = s.sound.places.modes };
              tree = s.sound.tree;
              texts = s.sound.texts;
              entries = e;
              modes = s.sound.modes;
              settings = s.sound.settings;
            };
      }

  pub modes_sound : (p : Places) → Whole p → p.size ≤ 64 → Modes p.held p.size → SoundFull (with_modes f p)
  unfolding with_modes
  modes_sound p w h e =
      record {
        stack = s.stack;
        list = s.list;
        modes = w;
        places = s.places;
        sound =
            record {
              sizes = s.sound.sizes;
              places = record { stack = s.sound.places.stack; entries = s.sound.places.entries; modes = (h, omega (arith, w.all)) };
              tree = s.sound.tree;
              texts = s.sound.texts;
              entries = s.sound.entries;
              modes = e;
              settings = s.sound.settings;
            };
      }

  pub flags_sound : (x : Flags) → x.foster ≤ 1 → x.head ≤ 1 → SoundFull (with_flags f x)
  unfolding with_flags
  flags_sound x a b =
      record {
        stack = s.stack;
        list = s.list;
        modes = s.modes;
        places = s.places;
        sound =
            record {
              sizes = s.sound.sizes;
              places = s.sound.places;
              tree = s.sound.tree;
              texts = s.sound.texts;
              entries = s.sound.entries;
              modes = s.sound.modes;
              settings = record { fostering = a; seen = b; context = s.sound.settings.context };
            };
      }

  -- other nodes
  pub nodes_sound : (m : List ℕ) (c : ℕ)
      → Over f m f.pieces.mem f.pairs.mem c f.pieces.used f.pairs.used
      → SoundFull (with_nodes f m c)
  unfolding with_nodes
  nodes_sound m c o = record { stack = s.stack; list = s.list; modes = s.modes; places = s.places; sound = o }

  -- other nodes and pieces
  pub pieces_sound : (m p : List ℕ) (c v : ℕ)
      → Over f m p f.pairs.mem c v f.pairs.used
      → SoundFull (with_pieces (with_nodes f m c) p v)
  unfolding with_nodes with_pieces
  pieces_sound m p c v o = record { stack = s.stack; list = s.list; modes = s.modes; places = s.places; sound = o }

  -- other nodes and pairs
  pub pairs_sound : (m q : List ℕ) (c u : ℕ)
      → Over f m f.pieces.mem q c f.pieces.used u
      → SoundFull (with_pairs (with_nodes f m c) q u)
  unfolding with_nodes with_pairs
  pairs_sound m q c u o = record { stack = s.stack; list = s.list; modes = s.modes; places = s.places; sound = o }

  -- the last node n is opened
  pub opened_sound : (n : ℕ) → f.stack.size < 512 → field f.nodes.mem n KIND ≡ ELEMENT
      → Natural (up f.nodes.mem) f.nodes.used (take f.stack.size f.stack.held ++ n ∷ []) → SoundFull (with_stack f (pushed f.stack n))
  unfolding pushed
  opened_sound n h e o =
      let w = s.stack.all in
      let a : take f.stack.size f.stack.held ≡ f.stack.held = take_all f.stack.size f.stack.held (omega arith) in
      let b : take (f.stack.size + 1) (f.stack.held ++ n ∷ []) ≡ f.stack.held ++ n ∷ []
      = take_all (f.stack.size + 1) (f.stack.held ++ n ∷ []) (omega (arith, length-append f.stack.held (n ∷ []))) in
      stack_sound (pushed f.stack n) (pushed_whole f.stack s.stack n)
      (pushed_total f.stack s.stack n (omega (arith, s.places)) ∙ s.places)
      (rw b (rw a at o))
      (open_more n s.sound.tree.stack w e)
