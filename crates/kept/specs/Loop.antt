-- The invariant of the inner loop of the adoption agency, 4.13, and that it stays when the node leaves the stack, when it leaves the
-- list, and when a copy takes its places.
-- Assumes nothing.
use Rattle.std.specs.Prelude.{ℕ, suc, ◌+◌, ◌-◌, ◌≤◌, ◌<◌, ◌≡◌, refl, ◌≢◌, Bool, true, false, cond, List, ◌++◌, take, drop, set, ltb}
use Rattle.std.proofs.Common.{sym, ◌∙◌, ltb-false, arith, add-one, length, get_or-set_same, get_or-set_other}
use Rattle.std.proofs.Math.Decide.{ℕ_discrete, dec_lt}
use Rattle.theory.specs.Fn.{at}
use Rattle.lent.specs.Mem.{NODES, slots, field, KIND, SPACE, NAME}
use Rattle.arena.proofs.Lengths.{slots_same}
use Rattle.arena.proofs.Others.{NoLink}
use Rattle.arena.proofs.Ancestors.{kind_free}
use Rattle.places.specs.Places as places
use Rattle.places.specs.Places.{without, swapped, same}
use Rattle.state.specs.Full.{Full, with_stack, with_list, with_nodes}
use Rattle.sound.specs.State.{SoundFull}
use Rattle.standard.specs.Adoption.{Inner, inner_at, gone, left_stack, renewed_in}
use Rattle.kept.specs.Front.{Front}
use Rattle.kept.specs.Same.{open_used}
use Rattle.kept.specs.Attach.{late_free}
use Rattle.kept.specs.Leave.{less_low, less_high, less_fewer, without_stack, without_list}
use Rattle.kept.specs.Stands.{Stands, Misses, less_back, stands_less, misses_fewer, stands_set, misses_set}
use Rattle.kept.specs.Renew.{renewed_sound, renewed_size, renewed_field, renewed_copy}
use Rattle.kept.specs.Tree.{stack_once}

-- ---- the invariant

-- node n has the kind, namespace and name of a node that stood after place s of the stack in the state b
pub record Was (b : Full) (s : ℕ) (m : List ℕ) (n : ℕ) : Type 0 where
  pub place : ℕ
  pub later : s < place
  pub deep : place < b.stack.size
  pub kind : field m n KIND ≡ field b.nodes.mem (at b.stack.held place) KIND
  pub space : field m n SPACE ≡ field b.nodes.mem (at b.stack.held place) SPACE
  pub name : field m n NAME ≡ field b.nodes.mem (at b.stack.held place) NAME

was_same : {b : Full} {s n n' : ℕ} {m m' : List ℕ} → Was b s m n → field m' n' KIND ≡ field m n KIND → field m' n' SPACE ≡ field m n SPACE → field m' n' NAME ≡ field m n NAME
    → Was b s m' n'
was_same w k s n =
    record { place = w.place; later = w.later; deep = w.deep; kind = k ∙ w.kind; space = s ∙ w.space; name = n ∙ w.name }

-- what stays from the state b at the start of the loop: the stack up to place s, the nodes that were there, but for their links, and
-- all besides nodes, stack and list; what stands after place s is as something that stood there
pub record Since (b f : Full) (s : ℕ) : Type 0 where
  pub front : Front b.stack.held f.stack.held (suc s)
  pub after : (k : ℕ) → s < k → k < f.stack.size → Was b s f.nodes.mem (at f.stack.held k)
  pub more : b.nodes.used ≤ f.nodes.used
  pub size : length f.nodes.mem ≡ length b.nodes.mem
  pub fields : (n g : ℕ) → n ≤ b.nodes.used → NoLink g → field f.nodes.mem n g ≡ field b.nodes.mem n g
  pub modes : f.modes ≡ b.modes
  pub pieces : f.pieces ≡ b.pieces
  pub pairs : f.pairs ≡ b.pairs
  pub flags : f.flags ≡ b.flags
  pub context : f.context ≡ b.context

-- lastNode stands at place k of the stack, the formatting element fe at place s before it, and the furthest block at k or after it;
-- fe is in the list, and the furthest block is not
pub record InnerSound (b : Full) (fe block s : ℕ) (w : Inner) (k counter : ℕ) : Type 0 where
  pub sound : SoundFull w.full
  pub since : Since b w.full s
  pub below : s < k
  pub deep : k < w.full.stack.size
  pub last : at w.full.stack.held k ≡ w.last
  pub formatting : at w.full.stack.held s ≡ fe
  pub listed : Stands w.full.list.held w.full.list.size fe
  pub further : (i : ℕ) × (k ≤ i) × (i < w.full.stack.size) × (at w.full.stack.held i ≡ block)
  pub unlisted : Misses w.full.list.held w.full.list.size block
  -- the bookmark is a position in the list
  pub mark : w.mark ≤ w.full.list.size
  -- three nodes are made at most
  pub few : w.full.nodes.used + (3 - counter) ≤ b.nodes.used + 3

module _ {b : Full} {fe block s : ℕ} {w : Inner} where
  -- no other open element is fe
  pub other_fe : {k counter : ℕ} → InnerSound b fe block s w k counter → (i : ℕ) → i < w.full.stack.size → s < i → at w.full.stack.held i ≢ fe
  unfolding places.at
  other_fe o i h l e = stack_once w.full o.sound s i l h (o.formatting ∙ sym e)

-- ---- the node at place i leaves the stack

module _ {b : Full} {fe block s : ℕ} {w : Inner} {i counter : ℕ} (z : 0 < s) (l : s < i) (o : InnerSound b fe block s w (suc i) counter) where
  left_after : (k : ℕ) → s < k → k < w.full.stack.size - 1 → Dec (k < i)
      → Was b s w.full.nodes.mem (at (take i w.full.stack.held ++ drop (i + 1) w.full.stack.held) k)
  left_after k g q (yes a) = rw (less_low w.full.stack.held i (omega (arith, o.deep, o.sound.stack.all)) k a) (o.since.after k g (omega arith))
  left_after k g q (no a) =
      rw (less_high w.full.stack.held i (omega (arith, o.deep, o.sound.stack.all)) k (omega arith)) (o.since.after (k + 1) (omega arith) (omega arith))

  pub left_stack_lem : InnerSound b fe block s (inner_at (left_stack w.full i) w.last w.mark) i (counter + 1)
  unfolding left_stack with_stack without
  left_stack_lem =
      let a = o.sound.stack.all in
      let d = o.deep in
      let t = o.further in
      let r = o.since in
      let lt : i < length w.full.stack.held = omega arith in
      record {
        sound = without_stack w.full o.sound i (omega arith) (omega arith);
        since =
            record {
              front = record { same = λ k g. less_low w.full.stack.held i lt k (omega arith) ∙ r.front.same k g };
              after = λ k g q. left_after k g q (dec_lt k i);
              more = r.more;
              size = r.size;
              fields = r.fields;
              modes = r.modes;
              pieces = r.pieces;
              pairs = r.pairs;
              flags = r.flags;
              context = r.context;
            };
        below = l;
        deep = omega arith;
        last = less_high w.full.stack.held i lt i (omega arith) ∙ rw add-one o.last;
        formatting = less_low w.full.stack.held i lt s l ∙ o.formatting;
        listed = o.listed;
        further = (t.0 - 1, omega (arith, t.1), omega (arith, t.1, t.2), less_back w.full.stack.held i lt t.0 (omega (arith, t.1)) ∙ t.3);
        unlisted = o.unlisted;
        mark = o.mark;
        few = omega (arith, o.few);
      }

-- ---- entry j, which is not fe, leaves the list

-- a position stays one
pub gone_most : (p j k : ℕ) → j < k → p ≤ k → gone p j ≤ k - 1
unfolding gone
gone_most p j k h l = by (ltb j p) refl
  where
    by : (x : Bool) → ltb j p ≡ x → cond x (p - 1) p ≤ k - 1
    by true e = omega arith
    by false e = omega (arith, ltb-false j p e)

module _ {b : Full} {fe block s : ℕ} {w : Inner} {k counter : ℕ} (o : InnerSound b fe block s w k counter) (j : ℕ) (h : j < w.full.list.size)
    (d : at w.full.list.held j ≢ fe) where
  pub left_list : InnerSound b fe block s (inner_at (with_list w.full (without w.full.list j)) w.last (gone w.mark j)) k counter
  unfolding with_list without
  left_list =
      let a = o.sound.list.all in
      let lt : j < length w.full.list.held = omega arith in
      let r = o.since in
      record {
        sound = without_list w.full o.sound j h;
        since =
            record {
              front = r.front;
              after = r.after;
              more = r.more;
              size = r.size;
              fields = r.fields;
              modes = r.modes;
              pieces = r.pieces;
              pairs = r.pairs;
              flags = r.flags;
              context = r.context;
            };
        below = o.below;
        deep = o.deep;
        last = o.last;
        formatting = o.formatting;
        listed = stands_less w.full.list.held j w.full.list.size lt a d o.listed;
        further = o.further;
        unlisted = misses_fewer o.unlisted (rw (← a) at (less_fewer w.full.list.held j (w.full.list.size - 1) lt (omega arith)));
        mark = gone_most w.mark j w.full.list.size h o.mark;
        few = o.few;
      }

-- ---- a copy takes the places of the node at place i, which is entry j of the list

module _ {b : Full} {fe block s : ℕ} {w : Inner} {i counter : ℕ} (z : 0 < s) (l : s < i) (o : InnerSound b fe block s w (suc i) counter)
    (room : b.nodes.used + 4 < slots NODES b.nodes.mem) (j : ℕ) (h : j < w.full.list.size) (is : at w.full.list.held j ≡ at w.full.stack.held i)
    (m : ℕ) (le : m ≤ w.full.list.size) (c : counter + 1 ≤ 3) where
  free : suc w.full.nodes.used < slots NODES w.full.nodes.mem
  free = rw (slots_same b.nodes.mem w.full.nodes.mem o.since.size) (omega (arith, o.few))

  renewed_after : (k : ℕ) → s < k → k < w.full.stack.size → Dec (k ≡ i)
      → Was b s (renewed_in w.full i j (at w.full.stack.held (suc i))).nodes.mem (at (set w.full.stack.held i (w.full.nodes.used + 1)) k)
  renewed_after k g q (yes e) =
      let t = renewed_copy w.full o.sound i j (omega arith) o.deep h is free in
      rw (e, get_or-set_same w.full.stack.held i (w.full.nodes.used + 1) 0 (omega (arith, o.deep, o.sound.stack.all)))
      (was_same (o.since.after i l (omega (arith, o.deep))) t.0 t.1 t.2)
  renewed_after k g q (no e) =
      let v = renewed_field w.full o.sound i j (omega arith) o.deep h is free (at w.full.stack.held k) in
      let u = (open_used o.sound.sound k q).1 in
      rw (get_or-set_other w.full.stack.held i k (w.full.nodes.used + 1) 0 e)
      (was_same (o.since.after k g q) (v KIND u kind_free) (v SPACE u (late_free SPACE (omega arith) (omega arith))) (v NAME u (late_free NAME (omega arith) (omega arith))))

  pub renewed_inner : InnerSound b fe block s (inner_at (renewed_in w.full i j w.last) (w.full.nodes.used + 1) m) i (counter + 1)
  unfolding renewed_in with_list with_stack with_nodes swapped
  renewed_inner =
      let a = o.sound.stack.all in
      let y = o.sound.list.all in
      let t = o.further in
      let r = o.since in
      let d = o.deep in
      let lt : i < length w.full.stack.held = omega arith in
      let new = w.full.nodes.used + 1 in
      let e = o.last in
      let g = renewed_sound w.full o.sound i j (omega arith) o.deep h is free in
      let x = renewed_size w.full o.sound i j (omega arith) o.deep h is free in
      let v = renewed_field w.full o.sound i j (omega arith) o.deep h is free in
      record {
        sound = rw e at g;
        since =
            record {
              front = record { same = λ k q. get_or-set_other w.full.stack.held i k new 0 (omega arith) ∙ r.front.same k q };
              after = λ k g q. rw e at (renewed_after k g q (ℕ_discrete k i));
              more = omega (arith, r.more);
              size = rw e at (x ∙ r.size);
              fields = λ n q p f. rw e at (v n q (omega (arith, r.more)) f ∙ r.fields n q p f);
              modes = r.modes;
              pieces = r.pieces;
              pairs = r.pairs;
              flags = r.flags;
              context = r.context;
            };
        below = l;
        deep = omega arith;
        last = get_or-set_same w.full.stack.held i new 0 lt;
        formatting = get_or-set_other w.full.stack.held i s new 0 (omega arith) ∙ o.formatting;
        listed = stands_set j new (λ q. other_fe o i (omega arith) l (sym is ∙ q)) o.listed;
        further = (t.0, omega (arith, t.1), t.2, get_or-set_other w.full.stack.held i t.0 new 0 (omega (arith, t.1)) ∙ t.3);
        unlisted = misses_set j new (omega arith) (λ q. omega (arith, open_used o.sound.sound t.0 t.2, t.3)) o.unlisted;
        mark = le;
        few = omega (arith, o.few);
      }
