-- The adoption agency, 4.3 to 4.13, where a furthest block is found: what the searches say of the formatting element and of the block,
-- and that the inner loop keeps a sound state sound from there.
-- Assumes nothing.
use Rattle.std.specs.Prelude.{ℕ, suc, ◌+◌, ◌≤◌, ◌<◌, ◌≡◌, ◌≢◌, Bool, true, false, List, length, eqb, Some}
use Rattle.std.proofs.Common.{refl, sym, ◌∙◌, eqb-true, arith}
use Rattle.std.proofs.Math.Decide.{ℕ_discrete, dec_lt}
use Rattle.std.proofs.lemmas.Bool.{eqb-false}
use Rattle.names.specs.Space as space
use Rattle.names.specs.Tag as tag
use Rattle.names.specs.Sets.{is_in, member, special, Formatting, Special, DefaultScope}
use Rattle.names.proofs.Members.{formatting_not_special, formatting_plain}
use Rattle.theory.specs.Fn.{at}
use Rattle.lent.specs.Mem.{NODES, slots, field, KIND, SPACE, NAME, ELEMENT}
use Rattle.arena.proofs.Lengths.{slots_same}
use Rattle.places.specs.Places as places
use Rattle.places.specs.Places.{same, never, place_of, last_with}
use Rattle.places.proofs.Laws.{down_last}
use Rattle.places.proofs.First.{first_from}
use Rattle.state.specs.Full.{Full}
use Rattle.sound.specs.Sound.{MARKER}
use Rattle.sound.specs.State.{SoundFull}
use Rattle.standard.specs.Html.{is_html}
use Rattle.standard.specs.Place.{is_foster_stop}
use Rattle.standard.specs.Stack.{is_of, named, in_scope}
use Rattle.standard.specs.Adoption.{Inner, entry_of, furthest_of, started, inner}
use Rattle.kept.specs.Keeps.{and_true, or_false}
use Rattle.kept.specs.Same.{open_used}
use Rattle.kept.specs.Tree.{stack_once}
use Rattle.kept.specs.Scope.{down_clear, scope_stop}
use Rattle.kept.specs.Stands.{Misses}
use Rattle.kept.specs.Loop.{InnerSound}
use Rattle.kept.specs.Inner.{inner_sound}

-- ---- what the searches find

-- entry j of the list stands at place s of the stack, in scope, and the element at place p after it is special
pub record Blocked (f : Full) (s j p : ℕ) : Type 0 where
  pub entry : j < f.list.size
  pub later : s < p
  pub deep : p < f.stack.size
  pub is : at f.stack.held s ≡ at f.list.held j
  pub special : is_of Special f.nodes.mem (at f.stack.held p) ≡ true
  pub clear : (k : ℕ) → s < k → k < f.stack.size → is_of DefaultScope f.nodes.mem (at f.stack.held k) ≡ false

pub blocked_at : (f : Full) → SoundFull f → (name j s k p : ℕ) → entry_of f.nodes.mem f.list name ≡ Some j → place_of f.stack (places.at f.list j) ≡ Some s
    → in_scope DefaultScope (same (places.at f.list j)) f.nodes.mem f.stack ≡ Some k → furthest_of f.nodes.mem f.stack s ≡ Some p → Blocked f s j p
unfolding entry_of place_of last_with in_scope furthest_of places.at
blocked_at f o name j s k p a b c d =
    let fe = at f.list.held j in
    let h = f.stack.held in
    let n = length h in
    let g = down_last (named f.nodes.mem name) (same MARKER) f.list.held (length f.list.held) j a in
    let x = down_last (same fe) never h n s b in
    let y = down_last (same fe) (is_of DefaultScope f.nodes.mem) h n k c in
    let t = first_from (is_of Special f.nodes.mem) h (s + 1) p d in
    let w = o.stack.all in
    record {
      entry = omega (arith, g.below, o.list.all);
      later = omega (arith, t.from);
      deep = omega (arith, t.below);
      is = eqb-true (at h s) fe x.has;
      special = t.has;
      clear = λ i l q. down_clear (same fe) (is_of DefaultScope f.nodes.mem) h n k c i (scope i l (eqb-true (at h s) fe x.has) (eqb-true (at h k) fe y.has) (omega (arith, x.below)) (omega (arith, y.below))) (omega arith);
    }
  where
    -- the search for the scope finds the same entry
    scope : (i : ℕ) → s < i → at f.stack.held s ≡ at f.list.held j → at f.stack.held k ≡ at f.list.held j → s < f.stack.size → k < f.stack.size → k < i
    scope i l e g a b = by (dec_lt s k)
      where
        by : Dec (s < k) → k < i
        by (yes h) = absurd (stack_once f o s k h b (e ∙ sym g))
        by (no h) = omega arith

-- ---- names

-- a special element has no formatting name
special_other : (m : List ℕ) (n : ℕ) → is_of Special m n ≡ true → field m n SPACE ≡ space.html → is_in Formatting space.html (field m n NAME) ≡ true → ⊥
unfolding is_of
special_other m n e h g =
    let a = (and_true (eqb (field m n KIND) ELEMENT) _ e).1 in
    let b : member (field m n NAME) special ≡ true = rw h at a in
    let z : ◌≡◌ {A = Bool} true false = sym b ∙ formatting_not_special (field m n NAME) g in
    let x : ◌≡◌ {A = ℕ} 0 1 = cc in
    omega arith

-- ---- the inner loop

module _ (f : Full) (o : SoundFull f) {s j p : ℕ} (b : Blocked f s j p) where
  fe_used : (0 < at f.list.held j) × (at f.list.held j ≤ f.nodes.used)
  fe_used = rw b.is at (open_used o.sound s (omega (arith, b.later, b.deep)))

  fe_node : at f.list.held j ≢ MARKER
  fe_node e = omega (arith, fe_used.1, o.sound.sizes.nodes.0)

  -- the root is no formatting element
  pub past_root : 0 < s
  past_root = by (ℕ_discrete s 0)
    where
      by : Dec (s ≡ 0) → 0 < s
      by (no d) = omega arith
      by (yes d) =
          let e : at f.list.held j ≡ 2 = sym (rw d at b.is) ∙ o.sound.tree.stack.root in
          let g = (formatting_plain (field f.nodes.mem 2 NAME) (rw e at ((o.sound.entries.entry j b.entry).name fe_node))).no_html in
          absurd (eqb-false (field f.nodes.mem 2 NAME) tag.html g o.sound.tree.top.name)

  block_used : (0 < at f.stack.held p) × (at f.stack.held p ≤ f.nodes.used)
  block_used = open_used o.sound p b.deep

  pub block_unlisted : Misses f.list.held f.list.size (at f.stack.held p)
  block_unlisted = record { none = λ i h e. by i h e }
    where
      by : (i : ℕ) → i < f.list.size → at f.list.held i ≢ at f.stack.held p
      by i h e =
          let t = o.sound.entries.entry i h in
          let d : at f.list.held i ≢ MARKER = λ g. omega (arith, block_used.1, o.sound.sizes.nodes.0) in
          special_other f.nodes.mem (at f.stack.held p) b.special (rw e at (t.html d).1) (rw e at (t.name d))

  pub started_inner : InnerSound f (at f.list.held j) (at f.stack.held p) s (started f (at f.stack.held p) j) p 0
  unfolding started
  started_inner =
      let a = b.entry in
      record {
        sound = o;
        since =
            record {
              front = record { same = λ i h. refl };
              after = λ k l h. record { place = k; later = l; deep = h; kind = refl; space = refl; name = refl };
              more = omega arith;
              size = refl;
              fields = λ n g h q. refl;
              modes = refl;
              pieces = refl;
              pairs = refl;
              flags = refl;
              context = refl;
            };
        below = b.later;
        deep = b.deep;
        last = refl;
        formatting = b.is;
        listed = record { place = j; below = b.entry; is = refl };
        further = (p, omega arith, b.deep, refl);
        unlisted = block_unlisted;
        mark = omega arith;
        few = omega arith;
      }

  -- 4.13, whole
  pub adopted_inner : f.nodes.used + 4 < slots NODES f.nodes.mem
      → InnerSound f (at f.list.held j) (at f.stack.held p) s
      (inner (started f (at f.stack.held p) j) (at f.list.held j) (at f.stack.held p) 0 p) (suc s) 3
  adopted_inner room = inner_sound past_root room p 0 (started f (at f.stack.held p) j) started_inner

  -- ---- what else holds at its end

  module _ {w : Inner} {fe block : ℕ} (e : InnerSound f fe block s w (suc s) 3) where
    pub inner_room : f.nodes.used + 4 < slots NODES f.nodes.mem → suc w.full.nodes.used < slots NODES w.full.nodes.mem
    inner_room room = rw (slots_same f.nodes.mem w.full.nodes.mem e.since.size) (omega (arith, e.few))

    -- no table and no template is open after the formatting element
    pub inner_clear : (k : ℕ) → s < k → k < w.full.stack.size → is_foster_stop w.full.nodes.mem (places.at w.full.stack k) ≡ false
    unfolding is_foster_stop is_html places.at
    inner_clear k l h =
        let t = e.since.after k l h in
        rw (t.kind, t.space, t.name) (scope_stop f.nodes.mem (at f.stack.held t.place) (b.clear t.place t.later t.deep))

    pub inner_plain : is_html w.full.nodes.mem block tag.template ≡ false
    unfolding is_foster_stop places.at
    inner_plain =
        let t = e.further in
        (or_false (is_html w.full.nodes.mem block tag.template) (is_html w.full.nodes.mem block tag.table)
        (rw t.3 at (inner_clear t.0 (omega (arith, t.1)) t.2))).0
