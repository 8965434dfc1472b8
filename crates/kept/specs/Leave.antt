-- An entry leaves the stack or the list, or one comes in: the places stay whole, and the rules on their entries hold. The root never
-- leaves the stack.
-- Assumes nothing.
use Rattle.std.specs.Prelude.{ℕ, suc, ◌+◌, ◌-◌, ◌≤◌, ◌<◌, ◌≡◌, ◌≢◌, List, ◌∷◌, ◌++◌}
use Rattle.std.proofs.Common.{sym, ap, ◌∙◌, length-append, length-take, get_or-take, get_or-drop, get_or-append-add, length-take-le, arith, length, take, drop, length-drop, take_all}
use Rattle.std.proofs.Math.Decide.{ℕ_discrete, dec_lt}
use Rattle.std.proofs.Math.ListN.{get_or-append}
use Rattle.std.proofs.lemmas.List.{get_or_at}
use Rattle.theory.specs.Fn.{at}
use Rattle.theory.specs.Natural.{Natural}
use Rattle.places.specs.Places.{Places, Whole, without, within}
use Rattle.state.specs.Full.{Full, with_stack, with_list}
use Rattle.sound.specs.Sound.{Open, Entry, Entries, MARKER}
use Rattle.sound.specs.State.{SoundFull}
use Rattle.kept.specs.Entries.{entries_picked, skip, skip_low, skip_high, without_at, without_picks, New, without_whole}
use Rattle.kept.specs.Parts.{stack_sound, list_sound}

-- ---- entries without the i-th, and with n as the i-th

module _ (h : List ℕ) (i : ℕ) (lt : i < length h) where
  pub less_length : length (take i h ++ drop (i + 1) h) + 1 ≡ length h
  less_length = simp (length-append, length-take, length-drop) (omega arith)

  pub less_low : (k : ℕ) → k < i → at (take i h ++ drop (i + 1) h) k ≡ at h k
  less_low k b = without_at h i lt k ∙ ap (λ (r : ℕ). at h r) (skip_low i k b)

  pub less_high : (k : ℕ) → i ≤ k → at (take i h ++ drop (i + 1) h) k ≡ at h (k + 1)
  less_high k b = without_at h i lt k ∙ ap (λ (r : ℕ). at h r) (skip_high i k b ∙ (let e : suc k ≡ k + 1 = omega arith in e))

module _ (h : List ℕ) (i n : ℕ) (le : i ≤ length h) where
  front : length (take i h) ≡ i
  front = length-take-le i h le

  pub more_length : length (take i h ++ n ∷ drop i h) ≡ length h + 1
  more_length = simp (length-append, length-take, length-drop) (omega arith)

  pub more_low : (k : ℕ) → k < i → at (take i h ++ n ∷ drop i h) k ≡ at h k
  more_low k b = get_or-append (take i h) (n ∷ drop i h) 0 k (omega (arith, front)) ∙ get_or-take i h k 0 b

  pub more_here : at (take i h ++ n ∷ drop i h) i ≡ n
  more_here = get_or_at (take i h) n (drop i h) 0 i front

  pub more_high : (k : ℕ) → i ≤ k → at (take i h ++ n ∷ drop i h) (suc k) ≡ at h k
  more_high k b =
      let e : length (take i h) + suc (k - i) ≡ suc k = omega (arith, front) in
      let f : i + (k - i) ≡ k = omega arith in
      ap (λ (r : ℕ). at (take i h ++ n ∷ drop i h) r) (sym e) ∙ get_or-append-add (take i h) (n ∷ drop i h) (suc (k - i)) 0 ∙ get_or-drop i h (k - i) 0 ∙ ap (λ (r : ℕ). at h r) f

-- ---- fewer entries, in the same order

-- the first k' entries of l' are among the first k of l, in order
pub record Fewer (l l' : List ℕ) (k k' : ℕ) : Type 0 where
  pub from : ℕ → ℕ
  pub below : (i : ℕ) → i < k' → from i < k
  pub same : (i : ℕ) → i < k' → at l' i ≡ at l (from i)
  pub rising : (i j : ℕ) → i < j → j < k' → from i < from j

pub less_fewer : (h : List ℕ) (i d : ℕ) → i < length h → d + 1 ≡ length h → Fewer h (take i h ++ drop (i + 1) h) (length h) d
less_fewer h i d lt e =
    let p = without_picks h i lt in
    record {
      from = skip i;
      below = λ k b. p.below k (omega arith);
      same = λ k b. p.same k (omega arith);
      rising = λ j k a b. p.rises j k a (omega arith);
    }

pub natural_fewer : {up : ℕ → ℕ} {c : ℕ} {s s' : List ℕ} → Natural up c s → Fewer s s' (length s) (length s') → Natural up c s'
natural_fewer n w =
    record {
      used = n.used;
      ends = n.ends;
      inside = λ i b. rw (w.same i b) (n.inside (w.from i) (w.below i b));
      apart = λ i j a b. rw (w.same i (omega arith), w.same j b) (n.apart (w.from i) (w.from j) (w.rising i j a b) (w.below j b));
      above = λ i j a b. rw (w.same i (omega arith), w.same j b) (n.above (w.from i) (w.from j) (w.rising i j a b) (w.below j b));
    }

pub open_fewer : {m l l' : List ℕ} {d d' : ℕ} → Open m l d → Fewer l l' d d' → 0 < d' → at l' 0 ≡ at l 0 → Open m l' d'
open_fewer o w z e =
    record {
      some = z;
      root = e ∙ o.root;
      elements = λ i b. rw (w.same i b) (o.elements (w.from i) (w.below i b));
    }

pub entries_fewer : {m l l' : List ℕ} {c k k' : ℕ} → Entries m c l k → Fewer l l' k k' → Entries m c l' k'
entries_fewer e w = entries_picked e (record { same = w.same; below = w.below; rises = w.rising })

-- ---- one entry more in the list

pub entries_within : {m l : List ℕ} {c k : ℕ} → Entries m c l k → k ≡ length l → (i : ℕ) → i ≤ k → (n : ℕ) → New m c l n
    → Entries m c (take i l ++ n ∷ drop i l) (k + 1)
entries_within {m} {l} {c} {k} e h i le n w = record { entry = λ a b. by a b (dec_lt a i) (ℕ_discrete a i) }
  where
    l' : List ℕ
    l' = take i l ++ n ∷ drop i l

    low : (a : ℕ) → a < i → at l' a ≡ at l a
    low a b = more_low l i n (omega arith) a b

    here : at l' i ≡ n
    here = more_here l i n (omega arith)

    high : (a : ℕ) → i < a → at l' a ≡ at l (a - 1)
    high a b = let r : suc (a - 1) ≡ a = omega arith in rw r at (more_high l i n (omega arith) (a - 1) (omega arith))

    -- entry a of the new list is entry z of the old one
    old : (a z : ℕ) → at l' a ≡ at l z → Entry m c l z → ((j : ℕ) → j < a → at l z ≢ MARKER → at l' j ≢ at l z) → Entry m c l' a
    old a z s t g =
        record {
          used = rw s t.used;
          html = rw s t.html;
          name = rw s t.name;
          lone = rw s (λ d. record { none = λ j b. rw s (g j b d) });
        }

    -- none of the first i entries, nor n, nor one after n is a later old entry
    before : (a : ℕ) → i < a → a < k + 1 → (j : ℕ) → j < a → Dec (j < i) → Dec (j ≡ i) → at l (a - 1) ≢ MARKER → at l' j ≢ at l (a - 1)
    before a b r j g (yes t) z d = rw (low j t) (((e.entry (a - 1) (omega arith)).lone d).none j (omega arith))
    before a b r j g (no t) (yes z) d = rw (z, here) (λ q. w.absent (a - 1) (omega arith) (sym q))
    before a b r j g (no t) (no z) d = rw (high j (omega arith)) (((e.entry (a - 1) (omega arith)).lone d).none (j - 1) (omega arith))

    by : (a : ℕ) → a < k + 1 → Dec (a < i) → Dec (a ≡ i) → Entry m c l' a
    by a b (yes r) z = old a a (low a r) (e.entry a (omega arith)) (λ j g d. rw (low j (omega arith)) (((e.entry a (omega arith)).lone d).none j g))
    by a b (no r) (yes z) =
        rw z
        (record {
          used = rw here (λ d. w.used);
          html = rw here (λ d. w.html);
          name = rw here (λ d. w.name);
          lone = rw here (λ d. record { none = λ j g. rw (low j g, here) (w.absent j (omega arith)) });
        })
    by a b (no r) (no z) =
        old a (a - 1) (high a (omega arith)) (e.entry (a - 1) (omega arith))
        (λ j g. before a (omega arith) b j g (dec_lt j i) (ℕ_discrete j i))

-- ---- places

module _ (p : Places) (w : Whole p) where
  pub without_total : (i : ℕ) → i < p.size → length (without p i).held + length (without p i).free ≡ length p.held + length p.free
  unfolding without
  without_total i h = omega (arith, less_length p.held i (omega (arith, w.all)))

  pub within_whole : (i n : ℕ) → i ≤ p.size → Whole (within p i n)
  unfolding within
  within_whole i n h = record { all = omega (arith, w.all, more_length p.held i n (omega (arith, w.all))) }

  pub within_total : (i n : ℕ) → i ≤ p.size → 0 < length p.free
      → length (within p i n).held + length (within p i n).free ≡ length p.held + length p.free
  unfolding within
  within_total i n h z = omega (arith, more_length p.held i n (omega (arith, w.all)), length-drop 1 p.free)

-- ---- sound states

module _ (f : Full) (s : SoundFull f) where
  -- entry i of the stack leaves
  pub without_stack : (i : ℕ) → 0 < i → i < f.stack.size → SoundFull (with_stack f (without f.stack i))
  unfolding without
  without_stack i z h =
      let a = s.stack.all in
      let b = less_length f.stack.held i (omega arith) in
      let g = less_fewer f.stack.held i (f.stack.size - 1) (omega arith) (omega arith) in
      let e : take f.stack.size f.stack.held ≡ f.stack.held = take_all f.stack.size f.stack.held (omega arith) in
      let e' : take (f.stack.size - 1) (take i f.stack.held ++ drop (i + 1) f.stack.held) ≡ take i f.stack.held ++ drop (i + 1) f.stack.held
      = take_all (f.stack.size - 1) (take i f.stack.held ++ drop (i + 1) f.stack.held) (omega arith) in
      let r : length (take i f.stack.held ++ drop (i + 1) f.stack.held) ≡ f.stack.size - 1 = omega arith in
      stack_sound f s (without f.stack i) (without_whole f.stack s.stack i h) (without_total f.stack s.stack i h ∙ s.places)
      (rw e' (natural_fewer (rw e at s.sound.tree.order) (rw r g)))
      (open_fewer s.sound.tree.stack (rw (← a) at g) (omega arith) (less_low f.stack.held i (omega arith) 0 z))

  -- entry i of the list leaves
  pub without_list : (i : ℕ) → i < f.list.size → SoundFull (with_list f (without f.list i))
  unfolding without
  without_list i h =
      let a = s.list.all in
      list_sound f s (without f.list i) (without_whole f.list s.list i h) (omega (arith, s.sound.places.entries))
      (entries_fewer s.sound.entries (rw (← a) at (less_fewer f.list.held i (f.list.size - 1) (omega arith) (omega arith))))

  -- n comes into the list
  pub within_list : (i : ℕ) → i ≤ f.list.size → f.list.size < 256 → (n : ℕ) → New f.nodes.mem f.nodes.used f.list.held n
      → SoundFull (with_list f (within f.list i n))
  unfolding within
  within_list i h z n w =
      list_sound f s (within f.list i n) (within_whole f.list s.list i n h) (omega arith)
      (entries_within s.sound.entries s.list.all i h n w)
